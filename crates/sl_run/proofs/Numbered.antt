-- A loop over a list whose elements are numbered from 1.
use Rattle.std.proofs.Common.{◌≡◌, ℕ, zero, suc, ◌+◌, ◌<◌, List, [], ◌∷◌, ◌++◌, length, map, take, sym, ap, ◌∙◌, arith, append-nil}
use Rattle.std.proofs.lemmas.List.{append_assoc}
use Rattle.std.specs.Prelude.{slice_index_or}
use Rattle.std.specs.List.{enumerate_from, flat_map}

module _ {X Y : Type 0} (g : ℕ × Y → List ℕ) (h : X → Y) where
  -- the texts of the first so many elements, which are numbered from n
  abbrev texts_of : ℕ → List X → ℕ → List ℕ
  texts_of n xs many = flat_map g (enumerate_from n (map h (take many xs)))

  one_more : (n : ℕ) (xs : List X) (at : ℕ) (x : X) → at < length xs → x ≡ slice_index_or xs at x
      → texts_of n xs (suc at) ≡ texts_of n xs at ++ g (n + at, h x)
  one_more n [] at x below is = absurd (omega (arith, below))
  one_more n (y ∷ ys) zero x below is =
      let same : n + 0 ≡ n = omega arith in
      append-nil (g (n, h y)) ∙ ap (λ z. g (n, h z)) (sym is) ∙ ap (λ m. g (m, h x)) (sym same)
  one_more n (y ∷ ys) (suc at) x below is =
      let same : n + 1 + at ≡ n + suc at = omega arith in
      ap (λ t. g (n, h y) ++ t) (one_more (n + 1) ys at x (omega (arith, below)) is)
      ∙ sym (append_assoc (g (n, h y)) (texts_of (n + 1) ys at) (g (n + 1 + at, h x)))
      ∙ ap (λ m. (g (n, h y) ++ texts_of (n + 1) ys at) ++ g (m, h x)) same

  -- behind a text that has those of the first elements, the next element's text comes next
  pub next_text : (before now next : List ℕ) (xs : List X) (at : ℕ) (x : X) → at < length xs → x ≡ slice_index_or xs at x
      → now ≡ before ++ texts_of 1 xs at → next ≡ now ++ g (at + 1, h x)
      → next ≡ before ++ texts_of 1 xs (at + 1)
  next_text before now next xs at x below is has gains =
      let number : 1 + at ≡ at + 1 = omega arith in
      let after : suc at ≡ at + 1 = omega arith in
      gains
      ∙ ap (λ t. t ++ g (at + 1, h x)) has
      ∙ append_assoc before (texts_of 1 xs at) (g (at + 1, h x))
      ∙ ap (λ t. before ++ t) (ap (λ m. texts_of 1 xs at ++ g (m, h x)) (sym number) ∙ sym (one_more 1 xs at x below is) ∙ ap (texts_of 1 xs) after)
