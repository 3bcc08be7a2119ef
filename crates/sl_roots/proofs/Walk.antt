-- The name that a walk comes to next.
use Rattle.std.proofs.Common.{◌≡◌, ℕ, zero, suc, ◌<◌, Bool, true, false, not, List, [], ◌∷◌, length, get_or, Some, None, refl, ap, arith}
use Rattle.std.specs.List.{find, flat_map, list_any}
use Rattle.std.specs.Str.{bytes_eq}
use Rattle.std.proofs.lemmas.List.{append-nil}
use Rattle.def_sources.specs.Sources.{Sources, names_of, imports, mentioned, next_name}

-- no module has imports
pub no_imports : (files : List (List ℕ × List ℕ)) → flat_map (λ (file : List ℕ × List ℕ). imports file.1) files ≡ []
no_imports [] = refl
no_imports (file ∷ files) = no_imports files

pub mentioned_is : (names : List (List ℕ)) (sources : Sources) → mentioned names sources ≡ names
mentioned_is names sources = rw (no_imports sources.modules) (append-nil names)

-- the first element that passes
pub find_first : {X : Type 0} (p : X → Bool) (xs : List X) (i : ℕ) (d : X)
    → i < length xs → ((k : ℕ) → k < i → p (get_or xs k d) ≡ false) → p (get_or xs i d) ≡ true
    → find p xs ≡ Some (get_or xs i d)
find_first p [] i d within before here = absurd (omega arith)
find_first p (x ∷ xs) zero d within before here = rw here refl
find_first p (x ∷ xs) (suc i) d within before here =
    rw (before 0 (omega arith))
    (find_first p xs i d (omega arith) (λ k below. before (suc k) (omega arith)) here)

-- no element passes
pub find_nothing : {X : Type 0} (p : X → Bool) (xs : List X) (d : X)
    → ((k : ℕ) → k < length xs → p (get_or xs k d) ≡ false) → find p xs ≡ None
find_nothing p [] d before = refl
find_nothing p (x ∷ xs) d before =
    rw (before 0 (omega arith)) (find_nothing p xs d (λ k below. before (suc k) (omega arith)))

-- the names below an index are taken, and the one at the index is not
pub next_at : (names : List (List ℕ)) (sources : Sources) (i : ℕ) (name : List ℕ)
    → i < length names → name ≡ get_or names i []
    → ((k : ℕ) → k < i → list_any (bytes_eq (get_or names k [])) (names_of sources) ≡ true)
    → list_any (bytes_eq name) (names_of sources) ≡ false
    → next_name names sources ≡ Some name
next_at names sources i name within is before here =
    let fresh : List ℕ → Bool = λ n. not (list_any (bytes_eq n) (names_of sources)) in
    let found = find_first fresh names i [] within (λ k below. ap not (before k below)) (ap not (rw is at here)) in
    rw (mentioned_is names sources) (rw is found)

-- all names are taken
pub next_none : (names : List (List ℕ)) (sources : Sources)
    → ((k : ℕ) → k < length names → list_any (bytes_eq (get_or names k [])) (names_of sources) ≡ true)
    → next_name names sources ≡ None
next_none names sources all =
    let fresh : List ℕ → Bool = λ n. not (list_any (bytes_eq n) (names_of sources)) in
    rw (mentioned_is names sources) (find_nothing fresh names [] (λ k below. ap not (all k below)))
