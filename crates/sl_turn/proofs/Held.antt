-- A pass that holds each number that was given out, told number by number.
use Rattle.std.proofs.Common.{◌≡◌, ◌≢◌, ℕ, ◌+◌, ◌<◌, ◌≤◌, List, [], refl, subst, sym, inl, arith}
use mathlib.Core.Logic.{dite}
use native.Mathlib.Decide.{ℕ_discrete}
use Rattle.def_turn.specs.Pass.{PassState, Holds, HoldsAll, split_pass}

-- the books have each number from 1 to below k
abbrev pub HoldsBelow : {E : Type 0} → List (ℕ × List E) → ℕ → Type 0
HoldsBelow books k = (n : ℕ) → 1 ≤ n → n < k → Holds books n

pub one_held : {E : Type 0} (books : List (ℕ × List E)) → Holds books 1 → HoldsBelow books 2
one_held books one n a b = let is : 1 ≡ n = omega arith in subst (Holds books) is one

pub next_held : {E : Type 0} (books : List (ℕ × List E)) (k : ℕ) → HoldsBelow books k → Holds books k → HoldsBelow books (k + 1)
next_held books k below here n a b = dite (ℕ_discrete k n)
    (λ (is : k ≡ n). subst (Holds books) is here)
    (λ (other : k ≢ n). below n a (omega arith))

pub all_held : {S E : Type 0} (p : PassState S E) (k : ℕ) → p.next ≡ k + 1 → HoldsBelow p.books (k + 1) → HoldsAll p
all_held p k next below = ((λ none. omega arith), subst (HoldsBelow p.books) (sym next) below)

-- a pass that was split off holds its number, and the pass that gave it out holds what it held
pub split_held : {S E : Type 0} (p q : PassState S E) (n : ℕ) → q ≡ split_pass p → p.next ≡ n → Holds q.books n
split_held {S = S} {E = E} p q n is next = subst (λ (r : PassState S E). Holds r.books n) (sym is) ([], inl (next, refl))

pub splitting_held : {S E : Type 0} (p q : PassState S E) (n m : ℕ) → q ≡ (record p { next = m }) → Holds p.books n → Holds q.books n
splitting_held {S = S} {E = E} p q n m is held = subst (λ (r : PassState S E). Holds r.books n) (sym is) held
