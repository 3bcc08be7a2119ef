-- Sources that are gathered from roots are well formed.
use Rattle.std.proofs.Common.{◌≡◌, ℕ, zero, suc, ◌<◌, ◌≤◌, Bool, true, false, ◌||◌, cond, not, List, [], ◌∷◌, ◌++◌, length, map, get_or, Option, Some, None, refl, sym, ap, ◌∙◌, arith, inl, inr, append_assoc}
use Rattle.std.specs.List.{All, AllByRecursion, Contains, IsDistinct, find, list_any}
use Rattle.std.specs.List.Sorted.{IsPermutation}
use Rattle.std.specs.Str.{bytes_eq}
use Rattle.std.proofs.lemmas.Cmp.{nat_list_eq_equiv}
use Rattle.std.proofs.lemmas.List.{map-append}
use Rattle.std.proofs.lemmas.List.Elements.{All-nil, All-push, All-from_get_or}
use Rattle.std.proofs.lemmas.List.Sorted.{IsPermutation-middle, IsPermutation-to_front, IsPermutation-sym}
use Rattle.std.proofs.lemmas.Map.Keys.{IsDistinct-cons, IsDistinct-IsPermutation}
use Rattle.std.proofs.lemmas.Map.Views.{Contains-from_any}
use Rattle.std.proofs.lemmas.Slice.Eq.{bytes_eq-Decides}
use Rattle.def_sources.specs.Limits.{most_bytes}
use Rattle.def_sources.specs.Loaded.{WellFormed}
use Rattle.def_sources.specs.Sources.{Sources, names_of, gained, mentioned, next_name}
use Rattle.sl_io.specs.declared.root.Fetched.TheVariants.{Found}
use Rattle.sl_roots.specs.Load.{Gathers, Loads}
use Rattle.sl_roots.specs.Load.Gathers.{begins, finds, misses}
use Rattle.sl_roots.specs.State.{RootState, Ask}

-- what is found passes
found_at : {X : Type 0} (p : X → Bool) (y : X) (xs : List X) (x : X) (b : Bool) → p y ≡ b
    → (find p xs ≡ Some x → p x ≡ true)
    → cond b (Some y) (find p xs) ≡ Some x → p x ≡ true
found_at p y xs x true passes further found = let same : y ≡ x = cc in rw same at passes
found_at p y xs x false passes further found = further found

found_passes : {X : Type 0} (p : X → Bool) (xs : List X) (x : X) → find p xs ≡ Some x → p x ≡ true
found_passes p [] x found = cc
found_passes p (y ∷ xs) x found = found_at p y xs x (p y) refl (found_passes p xs x) found

-- where nothing is found nothing passes
nothing_at : {X : Type 0} (p : X → Bool) (y : X) (xs : List X) (i : ℕ) (d : X) (b : Bool) → p y ≡ b
    → ((k : ℕ) → find p xs ≡ None → k < length xs → p (get_or xs k d) ≡ false)
    → cond b (Some y) (find p xs) ≡ None → i < length (y ∷ xs) → p (get_or (y ∷ xs) i d) ≡ false
nothing_at p y xs i d true passes further found within = cc
nothing_at p y xs zero d false passes further found within = passes
nothing_at p y xs (suc i) d false passes further found within = further i found (omega arith)

nothing_passes : {X : Type 0} (p : X → Bool) (xs : List X) (i : ℕ) (d : X)
    → find p xs ≡ None → i < length xs → p (get_or xs i d) ≡ false
nothing_passes p [] i d found within = absurd (omega arith)
nothing_passes p (y ∷ xs) i d found within =
    nothing_at p y xs i d (p y) refl (λ k. nothing_passes p xs k d) found within

-- no element passes
none_both : (a b : Bool) → (a || b) ≡ false → (a ≡ false) × (b ≡ false)
none_both true b none = cc
none_both false b none = (refl, none)

none_any : {X : Type 0} (p : X → Bool) (xs : List X) → list_any p xs ≡ false → AllByRecursion (λ y. p y ≡ false) xs
none_any p [] none = tt
none_any p (y ∷ xs) none =
    let both = none_both (p y) (list_any p xs) none in
    (both.0, none_any p xs both.1)

not_true : (b : Bool) → not b ≡ true → b ≡ false
not_true true is = cc
not_true false is = refl

not_false : (b : Bool) → not b ≡ false → b ≡ true
not_false true is = refl
not_false false is = cc

-- the next name is none of the names that are taken
pub next_fresh : (names : List (List ℕ)) (sources : Sources) (name : List ℕ)
    → next_name names sources ≡ Some name → list_any (bytes_eq name) (names_of sources) ≡ false
next_fresh names sources name next =
    let fresh : List ℕ → Bool = λ n. not (list_any (bytes_eq n) (names_of sources)) in
    not_true (list_any (bytes_eq name) (names_of sources)) (found_passes fresh (mentioned names sources) name next)

-- the names of sources that gained one, in another order
gained_names : (sources : Sources) (name : List ℕ) (found : Option (List ℕ))
    → IsPermutation (name ∷ names_of sources) (names_of (gained sources name found))
gained_names sources name (Some bytes) =
    let named : List ℕ × List ℕ → List ℕ = λ file. file.0 in
    let held = map named sources.modules in
    let shape : names_of (gained sources name (Some bytes)) ≡ held ++ name ∷ sources.absent =
    ap (λ front. front ++ sources.absent) (map-append named sources.modules ((name, bytes) ∷ []))
    ∙ append_assoc held (name ∷ []) sources.absent in
    rw shape (IsPermutation-sym _ _ (IsPermutation-middle held name sources.absent))
gained_names sources name None =
    let named : List ℕ × List ℕ → List ℕ = λ file. file.0 in
    let held = map named sources.modules in
    let shape : names_of (gained sources name None) ≡ names_of sources ++ name ∷ [] =
    sym (append_assoc held sources.absent (name ∷ [])) in
    rw shape (IsPermutation-sym _ _ (IsPermutation-to_front (names_of sources) name))

distinct_gained : (sources : Sources) (name : List ℕ) (found : Option (List ℕ))
    → IsDistinct bytes_eq (names_of sources) → list_any (bytes_eq name) (names_of sources) ≡ false
    → IsDistinct bytes_eq (names_of (gained sources name found))
distinct_gained sources name found distinct fresh =
    IsDistinct-IsPermutation bytes_eq nat_list_eq_equiv.symm (name ∷ names_of sources) (names_of (gained sources name found))
    (gained_names sources name found)
    (IsDistinct-cons bytes_eq name (names_of sources) (none_any (bytes_eq name) (names_of sources) fresh) distinct)

pub gathers_distinct : (names : List (List ℕ)) (before : List RootState) (sources : Sources) (after : List RootState)
    → Gathers names before sources after → IsDistinct bytes_eq (names_of sources)
unfolding IsDistinct
gathers_distinct names before sources after begins = tt
gathers_distinct names before sources after (finds held roots last name bytes asked gathers next ask) =
    distinct_gained held name (Some bytes) (gathers_distinct names before held roots gathers) (next_fresh names held name next)
gathers_distinct names before sources after (misses held roots last name asked gathers next ask) =
    distinct_gained held name None (gathers_distinct names before held roots gathers) (next_fresh names held name next)

-- a module that is found is not too large
ask_small : (name : List ℕ) (asked : ℕ) (bytes : List ℕ) (before after : List RootState)
    → Ask name asked (Found bytes) before after → length bytes ≤ most_bytes
ask_small name asked bytes [] after ask = let absent = ask.1 in cc
ask_small name asked bytes (root ∷ before) [] ask = absurd ask
ask_small name asked bytes (root ∷ before) (now ∷ after) (inl decides) = decides.0.fetches.0
ask_small name asked bytes (root ∷ before) (now ∷ after) (inr passes) =
    ask_small name passes.1.0 bytes before after passes.1.2

abbrev pub small : List ℕ × List ℕ → Type 0
small file = length file.1 ≤ most_bytes

pub gathers_small : (names : List (List ℕ)) (before : List RootState) (sources : Sources) (after : List RootState)
    → Gathers names before sources after
    → All small sources.modules
gathers_small names before sources after begins = All-nil small
gathers_small names before sources after (finds held roots last name bytes asked gathers next ask) =
    All-push small held.modules (name, bytes) (gathers_small names before held roots gathers) (ask_small name asked bytes roots last ask)
gathers_small names before sources after (misses held roots last name asked gathers next ask) =
    gathers_small names before held roots gathers

-- where no name is next, each name that is mentioned is taken
ended_complete : (names : List (List ℕ)) (sources : Sources)
    → next_name names sources ≡ None → All (Contains (names_of sources)) (mentioned names sources)
ended_complete names sources ended =
    let fresh : List ℕ → Bool = λ n. not (list_any (bytes_eq n) (names_of sources)) in
    let same : (x y : List ℕ) → bytes_eq x y ≡ true → x ≡ y = λ x y. (bytes_eq-Decides x y).0 in
    All-from_get_or (Contains (names_of sources)) (mentioned names sources) [] (λ i within.
    let name = get_or (mentioned names sources) i [] in
    Contains-from_any same name (names_of sources)
    (not_false (list_any (bytes_eq name) (names_of sources))
    (nothing_passes fresh (mentioned names sources) i [] ended within)))

pub loads_formed : (names : List (List ℕ)) (sources : Sources) (before after : List RootState)
    → Loads names sources before after → WellFormed names sources
loads_formed names sources before after loads = record {
  distinct = gathers_distinct names before sources after loads.gathers;
  complete = ended_complete names sources loads.ended;
  few = loads.few;
  small = gathers_small names before sources after loads.gathers;
}
