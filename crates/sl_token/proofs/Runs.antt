-- How far a list goes on with elements that pass a test.
use Rattle.std.proofs.Common.{◌≡◌, ℕ, zero, suc, ◌≤◌, Bool, true, false, List, [], ◌∷◌, ◌++◌, length, take, refl, ap, ◌∙◌, arith, one-add}
use Rattle.std.specs.List.{list_all, prefix_len}
use Rattle.std.proofs.lemmas.Bool.{and_parts}

module _ (q : ℕ → Bool) where
  all_by : (x : ℕ) (xs : List ℕ) (b : Bool) → q x ≡ b → list_all q (take (prefix_len q xs) xs) ≡ true → list_all q (take (prefix_len q (x ∷ xs)) (x ∷ xs)) ≡ true
  all_by x xs true h all = rw (h, one-add) (rw (h, all))
  all_by x xs false h all = rw h

  -- the front that is counted passes
  pub front_passes : (xs : List ℕ) → list_all q (take (prefix_len q xs) xs) ≡ true
  front_passes [] = refl
  front_passes (x ∷ xs) = all_by x xs (q x) refl (front_passes xs)

  pub one_further : (x : ℕ) (xs : List ℕ) → q x ≡ true → prefix_len q (x ∷ xs) ≡ suc (prefix_len q xs)
  one_further x xs h = rw (h, one-add)

  -- no longer front passes
  pub front_longest : (xs : List ℕ) (k : ℕ) → k ≤ length xs → list_all q (take k xs) ≡ true → k ≤ prefix_len q xs
  front_longest xs zero short all = omega arith
  front_longest [] (suc k) short all = omega arith
  front_longest (x ∷ xs) (suc k) short all =
      let both = and_parts (q x) (list_all q (take k xs)) all in
      omega (arith, one_further x xs both.0, front_longest xs k (omega arith) both.1)

  -- a front that passes, and then what fails
  pub front_is : (front : List ℕ) (x : ℕ) (rest : List ℕ) → list_all q front ≡ true → q x ≡ false → prefix_len q (front ++ x ∷ rest) ≡ length front
  front_is [] x rest all fails = rw fails
  front_is (y ∷ front) x rest all fails =
      let both = and_parts (q y) (list_all q front) all in
      one_further y (front ++ x ∷ rest) both.0 ∙ ap suc (front_is front x rest both.1 fails)
