-- Beginnings of one list.
use Rattle.std.proofs.Common.{◌≡◌, ◌<◌, ◌≤◌, Bool, true, false, ltb, List, [], ◌∷◌, ◌++◌, length, drop, refl, ap, sym, ◌∙◌, arith, append_assoc, append-nil, if◌then◌else◌, ltb-true, ltb-false}
use mathlib.Core.List.{IsPrefix}
use Rattle.def_turn.specs.Pass.{longer}
use Rattle.sl_turn.specs.View.{shorter}

module _ {A : Type 0} where
  pub prefix_self : (xs : List A) → IsPrefix xs xs
  prefix_self xs = ([], append-nil xs)

  pub prefix_trans : (xs ys zs : List A) → IsPrefix xs ys → IsPrefix ys zs → IsPrefix xs zs
  prefix_trans xs ys zs p q = (p.0 ++ q.0, sym (append_assoc xs p.0 q.0) ∙ (ap (λ w. w ++ q.0) p.1 ∙ q.1))

  -- of two beginnings of one list the one that is not longer begins the other
  pub prefix_shorter : (xs ys zs : List A) → IsPrefix xs zs → IsPrefix ys zs → length xs ≤ length ys → IsPrefix xs ys
  prefix_shorter [] ys zs p q le = (ys, refl)
  prefix_shorter (x ∷ xs) [] zs p q le = absurd (omega arith)
  prefix_shorter (x ∷ xs) (y ∷ ys) [] p q le = absurd (cc (p.1))
  prefix_shorter (x ∷ xs) (y ∷ ys) (z ∷ zs) p q le =
      let heads : x ≡ y = cc (p.1, q.1) in
      let rest = prefix_shorter xs ys zs (p.0, cc (p.1)) (q.0, cc (q.1)) (omega arith) in
      (rest.0, cc (heads, rest.1))

  longer_cases : (xs ys zs : List A) → IsPrefix xs zs → IsPrefix ys zs → (b : Bool) → ltb (length xs) (length ys) ≡ b
      → IsPrefix (if b then xs else ys) (if b then ys else xs)
  longer_cases xs ys zs p q true is = let lt : length xs < length ys = ltb-true _ _ is in prefix_shorter xs ys zs p q (omega arith)
  longer_cases xs ys zs p q false is = let le : length ys ≤ length xs = ltb-false _ _ is in prefix_shorter ys xs zs q p (omega arith)

  -- the shorter of two beginnings of one list begins the longer
  pub shorter_longer : (xs ys zs : List A) → IsPrefix xs zs → IsPrefix ys zs → IsPrefix (shorter xs ys) (longer xs ys)
  shorter_longer xs ys zs p q = longer_cases xs ys zs p q (ltb (length xs) (length ys)) refl

  both_cases : (xs ys : List A) → (b : Bool) → IsPrefix (if b then xs else ys) (if b then ys else xs)
      → IsPrefix xs (if b then ys else xs) × IsPrefix ys (if b then ys else xs)
  both_cases xs ys true p = (p, prefix_self ys)
  both_cases xs ys false p = (prefix_self xs, p)

  -- where the shorter of two lists begins the longer, both begin the longer
  pub both_begin : (xs ys : List A) → IsPrefix (shorter xs ys) (longer xs ys) → IsPrefix xs (longer xs ys) × IsPrefix ys (longer xs ys)
  both_begin xs ys p = both_cases xs ys (ltb (length xs) (length ys)) p

  one_case : (P : List A → Type 0) (xs ys : List A) (b : Bool) → P xs → P ys → P (if b then ys else xs)
  one_case P xs ys true p q = q
  one_case P xs ys false p q = p

  -- what holds of two lists holds of the longer
  pub of_longer : (P : List A → Type 0) (xs ys : List A) → P xs → P ys → P (longer xs ys)
  of_longer P xs ys p q = one_case P xs ys (ltb (length xs) (length ys)) p q

  pub drop_begun : (xs ys : List A) → drop (length xs) (xs ++ ys) ≡ ys
  drop_begun [] ys = refl
  drop_begun (x ∷ xs) ys = drop_begun xs ys

  pub append_nothing : (xs ys : List A) → xs ++ ys ≡ xs → ys ≡ []
  append_nothing [] ys e = e
  append_nothing (x ∷ xs) ys e = append_nothing xs ys (cc (e))

  pub nothing_twice : (xs ys : List A) → xs ++ ys ≡ [] → xs ≡ []
  nothing_twice [] ys e = refl
  nothing_twice (x ∷ xs) ys e = absurd (cc (e))
