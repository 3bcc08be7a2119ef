-- How far a list goes on with elements that pass a test.
use borrow.Author.Tests.{ltb-true, ltb-false}
use Rattle.std.proofs.Common.{◌≡◌, ℕ, suc, ◌<◌, ◌≤◌, Bool, true, false, not, cond, ◌&&◌, List, [], ◌∷◌, ◌++◌, length, take, drop, refl, ap, ◌∙◌, arith, one-add, ltb}
use Rattle.std.specs.Prelude.{Some, None, position, MatchOption}
use Rattle.std.specs.List.{list_all, position_or_len}
use Rattle.std.proofs.lemmas.Bool.{false≢true}

-- the first element fails the test, if there is one
abbrev pub StartsFailing : (ℕ → Bool) → List ℕ → Type 0
StartsFailing q [] = Unit {0}
StartsFailing q (x ∷ xs) = q x ≡ false

pub both_by : (a b : Bool) → (a && b) ≡ true → (a ≡ true) × (b ≡ true)
both_by true b h = (refl, h)
both_by false b h = absurd (false≢true h)

at_by : (b : Bool) (k n : ℕ) → ltb k n ≡ b → k ≤ n → MatchOption (cond b (Some k) None) (k ≡ n) (λ j. (j ≡ k) × (j < n))
at_by true k n h short = (refl, ltb-true k n h)
at_by false k n h short = omega (arith, ltb-false k n h)

module _ (q : ℕ → Bool) where
  abbrev pub run : List ℕ → ℕ
  run xs = position_or_len (λ b. not (q b)) xs

  one_further : (x : ℕ) (xs : List ℕ) → q x ≡ true → run (x ∷ xs) ≡ suc (run xs)
  one_further x xs passes = rw (passes, one-add)

  pub none_further : (x : ℕ) (xs : List ℕ) → q x ≡ false → run (x ∷ xs) ≡ 0
  none_further x xs fails = rw fails

  all_further : (x : ℕ) (xs : List ℕ) → q x ≡ true → list_all q xs ≡ true → list_all q (x ∷ xs) ≡ true
  all_further x xs passes all = rw (passes, all)

  short_by : (b : Bool) (x : ℕ) (xs : List ℕ) → q x ≡ b → run xs ≤ length xs → run (x ∷ xs) ≤ suc (length xs)
  short_by true x xs h short = rw (one_further x xs h) (omega arith)
  short_by false x xs h short = rw (none_further x xs h) (omega arith)

  pub run_short : (xs : List ℕ) → run xs ≤ length xs
  run_short [] = omega arith
  run_short (x ∷ xs) = short_by (q x) x xs refl (run_short xs)

  passes_by : (b : Bool) (x : ℕ) (xs : List ℕ) → q x ≡ b → list_all q (take (run xs) xs) ≡ true → list_all q (take (run (x ∷ xs)) (x ∷ xs)) ≡ true
  passes_by true x xs h passes = rw (one_further x xs h) (all_further x _ h passes)
  passes_by false x xs h passes = rw (none_further x xs h)

  -- all that stand in the run pass
  pub run_passes : (xs : List ℕ) → list_all q (take (run xs) xs) ≡ true
  run_passes [] = refl
  run_passes (x ∷ xs) = passes_by (q x) x xs refl (run_passes xs)

  fails_by : (b : Bool) (x : ℕ) (xs : List ℕ) → q x ≡ b → StartsFailing q (drop (run xs) xs) → StartsFailing q (drop (run (x ∷ xs)) (x ∷ xs))
  fails_by true x xs h fails = rw (one_further x xs h) fails
  fails_by false x xs h fails = rw (none_further x xs h) h

  -- what stands behind the run fails
  pub run_ends : (xs : List ℕ) → StartsFailing q (drop (run xs) xs)
  run_ends [] = tt
  run_ends (x ∷ xs) = fails_by (q x) x xs refl (run_ends xs)

  pub run_none : (xs : List ℕ) → StartsFailing q xs → run xs ≡ 0
  run_none [] h = refl
  run_none (x ∷ xs) h = none_further x xs h

  pub first_of_all : (x : ℕ) (xs : List ℕ) → list_all q (x ∷ xs) ≡ true → (q x ≡ true) × (list_all q xs ≡ true)
  first_of_all x xs all = both_by (q x) (list_all q xs) all

  -- a run is as long as what passes before something that fails
  pub run_is : (passing rest : List ℕ) → list_all q passing ≡ true → StartsFailing q rest → run (passing ++ rest) ≡ length passing
  run_is [] rest all fails = run_none rest fails
  run_is (x ∷ passing) rest all fails =
      let parts = first_of_all x passing all in
      one_further x (passing ++ rest) parts.0 ∙ ap suc (run_is passing rest parts.1 fails)

  -- what the first place where the test fails says of the run
  pub at_first : (xs : List ℕ) → MatchOption (position (λ b. not (q b)) xs) (run xs ≡ length xs) (λ k. (k ≡ run xs) × (k < length xs))
  at_first xs = at_by (ltb (run xs) (length xs)) (run xs) (length xs) refl (run_short xs)
