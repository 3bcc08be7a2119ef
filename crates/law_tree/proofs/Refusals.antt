-- How to show that tokens are refused: a tree continues the first of them, and none one more.
use Rattle.std.proofs.Common.{◌≡◌, ℕ, zero, suc, ◌<◌, ◌≤◌, List, [], ◌∷◌, ◌++◌, length, take, refl, sym, ap, subst, ◌∙◌, append_assoc, arith, length-append, le_refl}
use Rattle.std.proofs.Math.Seq.{take-append_seam}
use Rattle.def_token.specs.Lexical.{Token}
use Rattle.def_tree.specs.Fault.{Spot, IsUpTo, at_the_same, spot_of, Continues, IsRefused}
use Rattle.def_tree.specs.Limits.{Entry}

-- what a longer front of tokens is
record IsLonger (front tail : List Token) (n : ℕ) : Type 0 where
  more : List Token
  is : take n (front ++ tail) ≡ front ++ more

longer : (front tail : List Token) (n : ℕ) → length front ≤ n → IsLonger front tail n
longer [] tail n h = record { more = take n tail; is = refl }
longer (token ∷ front) tail zero h = absurd (omega (arith, h))
longer (token ∷ front) tail (suc n) h = let l = longer front tail n (omega (arith, h)) in record { more = l.more; is = ap (λ ts. token ∷ ts) l.is }

module _ {Tree : Type 0} (IsPart : List Token → Tree → List Token → Type 0) (entries_of : Tree → List Entry) where
  none_longer : (front tail : List Token) → ((more rest : List Token) (tree : Tree) → IsPart (front ++ more) tree rest → ⊥)
      → (n : ℕ) → length front ≤ n → (tree : Tree) → Continues IsPart (take n (front ++ tail)) tree → ⊥
  none_longer front tail none n h tree c =
      let l = longer front tail n h in
      none (l.more ++ c.more) c.rest tree
      (subst (λ ts. IsPart ts tree c.rest) (ap (λ ts. ts ++ c.more) l.is ∙ append_assoc front l.more c.more) c.part)

  -- Each tree that continues the front is refused at a limit on it.
  pub refused_within : (front tail : List Token) (spot : Spot) (tree : Tree) → Continues IsPart front tree → spot.at < length front
      → ((more rest : List Token) (other : Tree) → IsPart (front ++ more) other rest → (n : ℕ) → length front ≤ n → spot_of n (entries_of other) ≡ spot)
      → IsRefused IsPart entries_of (front ++ tail) spot
  refused_within front tail spot tree c inside each =
      let front_is : take (length front) (front ++ tail) ≡ front = take-append_seam front tail in
      let told : (n : ℕ) → length front ≤ n → (other : Tree) → Continues IsPart (take n (front ++ tail)) other → spot_of n (entries_of other) ≡ spot =
      λ n h other longest.
      let l = longer front tail n h in
      each (l.more ++ longest.more) longest.rest other
      (subst (λ ts. IsPart ts other longest.rest) (ap (λ ts. ts ++ longest.more) l.is ∙ append_assoc front l.more longest.more) longest.part) n h in
      let reached : Continues IsPart (take (length front) (front ++ tail)) tree = subst (λ ts. Continues IsPart ts tree) (sym front_is) c in
      record {
        many = length front;
        within = omega (arith, length-append front tail);
        tree = tree;
        reached = reached;
        refused = told (length front) (le_refl (length front)) tree reached;
        last = λ other longest. subst (λ s. IsUpTo s spot) (sym (told (length front) (le_refl (length front)) other longest)) (at_the_same refl (le_refl spot.code));
        stays = λ more less within other longest. (other, longest, told more (omega (arith, less)) other longest);
        inside = omega (arith, inside, length-append front tail);
      }
