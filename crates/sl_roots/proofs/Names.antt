-- The names of sources.
use Rattle.std.proofs.Common.{◌≡◌, ℕ, Bool, ◌||◌, List, [], ◌∷◌, map, refl, ap, ◌∙◌}
use Rattle.std.specs.List.{list_any}
use Rattle.std.specs.Str.{bytes_eq}
use Rattle.std.proofs.lemmas.List.Folds.{list_any-append}
use Rattle.def_sources.specs.Sources.{Sources, names_of}

pub any_map : {X Y : Type 0} (p : Y → Bool) (f : X → Y) (xs : List X)
    → list_any p (map f xs) ≡ list_any (λ x. p (f x)) xs
any_map p f [] = refl
any_map p f (x ∷ xs) = ap (λ b. p (f x) || b) (any_map p f xs)

-- a name is that of a module or absent
pub names_any : (name : List ℕ) (sources : Sources)
    → list_any (bytes_eq name) (names_of sources)
    ≡ (list_any (λ (file : List ℕ × List ℕ). bytes_eq name file.0) sources.modules
    || list_any (bytes_eq name) sources.absent)
names_any name sources =
    let named : List ℕ × List ℕ → List ℕ = λ file. file.0 in
    list_any-append (bytes_eq name) (map named sources.modules) sources.absent
    ∙ ap (λ b. b || list_any (bytes_eq name) sources.absent) (any_map (bytes_eq name) named sources.modules)
