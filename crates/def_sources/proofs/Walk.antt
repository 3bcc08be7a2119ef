-- A walk that has ended stays where it is.
use Rattle.std.proofs.Common.{◌≡◌, ℕ, zero, suc, ◌+◌, ◌≤◌, ◌⊎◌, List, None, refl, sym, ◌∙◌, inl, inr, arith, add-suc}
use Rattle.def_sources.specs.Loaded.{Loaded}
use Rattle.def_sources.specs.Sources.{Sources, next_name, gathered}

-- further steps gather nothing
pub ended_stays : (maps : List (List (List ℕ × List ℕ))) (names : List (List ℕ)) (steps more : ℕ)
    → next_name names (gathered maps names steps) ≡ None
    → gathered maps names (steps + more) ≡ gathered maps names steps
ended_stays maps names steps zero ended =
    let same : steps + 0 ≡ steps = omega arith in
    rw same refl
ended_stays maps names steps (suc more) ended =
    let stays = ended_stays maps names steps more ended in
    rw (add-suc steps more) (rw stays (rw ended refl))

later : (m n : ℕ) → m ≤ n → (more : ℕ) × (n ≡ m + more)
later zero n below = (n, omega arith)
later (suc m) zero below = absurd (omega arith)
later (suc m) (suc n) below = let rest = later m n (omega arith) in (rest.0, omega (arith, rest.1))

either : (m n : ℕ) → (m ≤ n) ⊎ (n ≤ m)
either zero n = inl (omega arith)
either (suc m) zero = inr (omega arith)
either (suc m) (suc n) = elim (either m n) [ inl below ↦ inl (omega arith) | inr above ↦ inr (omega arith) ]

same_end : (maps : List (List (List ℕ × List ℕ))) (names : List (List ℕ)) (m n : ℕ) → m ≤ n
    → next_name names (gathered maps names m) ≡ None → gathered maps names n ≡ gathered maps names m
same_end maps names m n below ended =
    let rest = later m n below in
    rw rest.1 (ended_stays maps names m rest.0 ended)

same_ends : (maps : List (List (List ℕ × List ℕ))) (names : List (List ℕ)) (m n : ℕ) → (m ≤ n) ⊎ (n ≤ m)
    → next_name names (gathered maps names m) ≡ None → next_name names (gathered maps names n) ≡ None
    → gathered maps names m ≡ gathered maps names n
same_ends maps names m n (inl below) ended other = sym (same_end maps names m n below ended)
same_ends maps names m n (inr above) ended other = same_end maps names n m above other

pub loaded_once : (maps : List (List (List ℕ × List ℕ))) (names : List (List ℕ)) (one other : Sources)
    → Loaded maps names one → Loaded maps names other → one ≡ other
loaded_once maps names one other first second =
    let ended = rw first.1 at first.2 in
    let also = rw second.1 at second.2 in
    first.1 ∙ same_ends maps names first.0 second.0 (either first.0 second.0) ended also ∙ sym second.1
