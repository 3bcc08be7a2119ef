-- The keys that requests come to are one list.
use Rattle.std.proofs.Common.{◌≡◌, ◌∙◌, refl, sym, ap, subst, inl, inr, List, [], ◌∷◌}
use Rattle.std.specs.List.{AllByRecursion, flat_map}
use Rattle.std.specs.Ordering.{ordering_reverse}
use Rattle.std.specs.declared.cmp.Ordering.TheVariants.{Less, Greater}
use Rattle.sl_key.specs.Order.{key_cmp}
use Rattle.sl_key.specs.Ordered.{key_total}
use Rattle.sl_key.specs.declared.answer.Answer.{Answer}
use Rattle.sl_key.specs.declared.key.Key.{Key}
use Rattle.sl_key.specs.declared.request.Request.{Request}
use Rattle.def_query.specs.Keys.{IsIn}
use Rattle.def_sources.specs.Sources.{Sources}
use Rattle.def_check.specs.Reply.{HasRisingKeys, IsClosure, IsReached}
use Rattle.def_check.specs.Roots.{roots_of}
use Rattle.def_check.proofs.Replies.{same_answers}

-- a key of a rising list is greater than its first
behind : (x y : Key) (ys : List Key) → AllByRecursion (λ z. key_cmp x z ≡ Less) ys → IsIn y ys → key_cmp x y ≡ Less
behind x y [] all i = elim i [ ]
behind x y (z ∷ ys) all (inl e) = ap (key_cmp x) e ∙ all.0
behind x y (z ∷ ys) all (inr i) = behind x y ys all.1 i

turned : (x y : Key) → key_cmp x y ≡ Less → key_cmp y x ≡ Greater
turned x y h = key_total.antisymm y x ∙ ap ordering_reverse h

not_both : (x y : Key) → key_cmp x y ≡ Less → key_cmp y x ≡ Less → ⊥
not_both x y h k = let back = turned x y h in cc

never_below_itself : (x : Key) → key_cmp x x ≡ Less → ⊥
never_below_itself x h = not_both x x h h

-- each key of the first list is in the second
abbrev AreIn : List Key → List Key → Type 0
AreIn xs ys = (x : Key) → IsIn x xs → IsIn x ys

-- rising lists of the same keys begin with the same one
same_first : (x y : Key) (xs ys : List Key) → HasRisingKeys (x ∷ xs) → HasRisingKeys (y ∷ ys)
    → IsIn x (y ∷ ys) → IsIn y (x ∷ xs) → x ≡ y
same_first x y xs ys rx ry (inl e) j = e
same_first x y xs ys rx ry (inr i) (inl e) = sym e
same_first x y xs ys rx ry (inr i) (inr j) = absurd (not_both x y (behind x y xs rx.0 j) (behind y x ys ry.0 i))

rest_by : (x y z : Key) (xs ys : List Key) → HasRisingKeys (x ∷ xs) → x ≡ y → IsIn z xs → IsIn z (y ∷ ys) → IsIn z ys
rest_by x y z xs ys rx e i (inr j) = j
rest_by x y z xs ys rx e i (inl same) =
    absurd (never_below_itself x (subst (λ w. key_cmp x w ≡ Less) (same ∙ sym e) (behind x z xs rx.0 i)))

-- rising lists of the same keys are the same
pub same_rising : (xs ys : List Key) → HasRisingKeys xs → HasRisingKeys ys → AreIn xs ys → AreIn ys xs → xs ≡ ys
same_rising [] [] rx ry m n = refl
same_rising [] (y ∷ ys) rx ry m n = absurd (n y (inl refl))
same_rising (x ∷ xs) [] rx ry m n = absurd (m x (inl refl))
same_rising (x ∷ xs) (y ∷ ys) rx ry m n =
    let first : x ≡ y = same_first x y xs ys rx ry (m x (inl refl)) (n y (inl refl)) in
    let rest : xs ≡ ys =
    same_rising xs ys rx.1 ry.1
    (λ z i. rest_by x y z xs ys rx first i (m z (inr i)))
    (λ z i. rest_by y x z ys xs ry (sym first) i (n z (inr i))) in
    ap (λ k. k ∷ xs) first ∙ ap (λ ks. y ∷ ks) rest

abbrev IsReachedBy : Sources → List Request → (Key → Answer) → Key → Type 0
IsReachedBy sources requests answer key = IsReached sources (flat_map (roots_of sources answer) requests) key

-- the keys that requests come to are one list
pub one_closure : (sources : Sources) (requests : List Request) (keys others : List Key)
    → IsClosure sources requests keys → IsClosure sources requests others → keys ≡ others
one_closure sources requests keys others h k =
    let same = same_answers sources h.answer k.answer h.answers k.answers in
    same_rising keys others h.rising k.rising
    (λ key i. (k.reached key).1 (subst (λ f. IsReachedBy sources requests f key) same ((h.reached key).0 i)))
    (λ key i. (h.reached key).1 (subst (λ f. IsReachedBy sources requests f key) (sym same) ((k.reached key).0 i)))
