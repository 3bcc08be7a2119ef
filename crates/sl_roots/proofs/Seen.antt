-- Names that are taken stay taken.
use Rattle.std.proofs.Common.{◌≡◌, ℕ, zero, suc, ◌+◌, ◌<◌, Bool, true, false, ◌||◌, List, [], ◌∷◌, length, get_or, Option, Some, None, refl, arith, inl, inr}
use borrow.Author.Count.{below_more}
use Rattle.std.specs.List.{list_any}
use Rattle.std.specs.Str.{bytes_eq}
use Rattle.std.proofs.lemmas.List.Folds.{list_any-append}
use Rattle.std.proofs.lemmas.Slice.Eq.{bytes_eq-Decides}
use Rattle.def_sources.specs.Sources.{Sources, names_of, gained}
use Rattle.sl_roots.specs.State.{RootState}
use Rattle.sl_roots.specs.Take.{Gains}
use Rattle.sl_roots.proofs.Names.{names_any}

or_true : (a : Bool) → (a || true) ≡ true
or_true true = refl
or_true false = refl

-- the names of sources that gained one are the old ones and that one
pub names_gained : (q : List ℕ) (sources : Sources) (name : List ℕ) (found : Option (List ℕ))
    → list_any (bytes_eq q) (names_of (gained sources name found))
    ≡ (list_any (bytes_eq q) (names_of sources) || bytes_eq q name)
names_gained q sources name (Some bytes) =
    let file : List (List ℕ × List ℕ) = (name, bytes) ∷ [] in
    rw (names_any q (gained sources name (Some bytes)))
    (rw (names_any q sources)
    (rw (list_any-append (λ (held : List ℕ × List ℕ). bytes_eq q held.0) sources.modules file)
    (grind arith)))
names_gained q sources name None =
    rw (names_any q (gained sources name None))
    (rw (names_any q sources)
    (rw (list_any-append (bytes_eq q) sources.absent (name ∷ [])) (grind arith)))

pub gained_keeps : (q : List ℕ) (sources : Sources) (name : List ℕ) (found : Option (List ℕ))
    → list_any (bytes_eq q) (names_of sources) ≡ true
    → list_any (bytes_eq q) (names_of (gained sources name found)) ≡ true
gained_keeps q sources name found held = rw (names_gained q sources name found) (rw held refl)

pub gained_own : (sources : Sources) (name : List ℕ) (found : Option (List ℕ))
    → list_any (bytes_eq name) (names_of (gained sources name found)) ≡ true
gained_own sources name found =
    rw (names_gained name sources name found) (rw ((bytes_eq-Decides name name).1 refl) (or_true (list_any (bytes_eq name) (names_of sources))))

pub gains_keeps : (q name : List ℕ) (sources more : Sources) (before after : List RootState)
    → Gains name sources more before after
    → list_any (bytes_eq q) (names_of sources) ≡ true → list_any (bytes_eq q) (names_of more) ≡ true
gains_keeps q name sources more before after (inl found) held =
    rw found.3 (gained_keeps q sources name (Some found.0) held)
gains_keeps q name sources more before after (inr missed) held =
    rw missed.2 (gained_keeps q sources name None held)

pub gains_own : (name : List ℕ) (sources more : Sources) (before after : List RootState)
    → Gains name sources more before after → list_any (bytes_eq name) (names_of more) ≡ true
gains_own name sources more before after (inl found) = rw found.3 (gained_own sources name (Some found.0))
gains_own name sources more before after (inr missed) = rw missed.2 (gained_own sources name None)

-- an element does not depend on what stands for one past the end
pub same_element : (xs : List (List ℕ)) (i : ℕ) (d e x : List ℕ) → i < length xs → x ≡ get_or xs i d → x ≡ get_or xs i e
same_element [] i d e x within is = absurd (omega arith)
same_element (y ∷ xs) zero d e x within is = is
same_element (y ∷ xs) (suc i) d e x within is = same_element xs i d e x (omega arith) is

-- the names below an index are taken, and so is the one at the index
pub seen_one : (names : List (List ℕ)) (i : ℕ) (name : List ℕ) (sources : Sources)
    → name ≡ get_or names i []
    → ((k : ℕ) → k < i → list_any (bytes_eq (get_or names k [])) (names_of sources) ≡ true)
    → list_any (bytes_eq name) (names_of sources) ≡ true
    → (k : ℕ) → k < i + 1 → list_any (bytes_eq (get_or names k [])) (names_of sources) ≡ true
seen_one names i name sources is before here =
    let P : ℕ → Type 0 = λ k. list_any (bytes_eq (get_or names k [])) (names_of sources) ≡ true in
    below_more P i before (rw is at here)

pub seen_more : (names : List (List ℕ)) (i : ℕ) (name : List ℕ) (sources more : Sources) (roots after : List RootState)
    → name ≡ get_or names i []
    → ((k : ℕ) → k < i → list_any (bytes_eq (get_or names k [])) (names_of sources) ≡ true)
    → Gains name sources more roots after
    → (k : ℕ) → k < i + 1 → list_any (bytes_eq (get_or names k [])) (names_of more) ≡ true
seen_more names i name sources more roots after is before gains =
    seen_one names i name more is
    (λ k below. gains_keeps (get_or names k []) name sources more roots after gains (before k below))
    (gains_own name sources more roots after gains)
