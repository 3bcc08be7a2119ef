-- What is known of the names of a scope so far.
use Rattle.std.specs.Prelude.{◌≡◌, ℕ, Bool, true, false, not, ◌&&◌, List, Option, Some, None}
use Rattle.std.specs.List.{list_any}
use Rattle.std.specs.BTreeMap.{BTreeMap, get_by}
use Rattle.std.specs.Cmp.Lexicographic.{slice_cmp}
use Rattle.std.specs.Ordering.{nat_cmp}
use denote.Ref.{Bor}
use Rattle.def_module.specs.Scopes as scopes
use Rattle.def_module.specs.Scopes.{Scope}
use Rattle.def_module.specs.Twice.{clash}
use Rattle.sl_scopes.specs.Names.{declared_in}
use Rattle.sl_scopes.specs.declared.declared.Declared.{Declared}
use Rattle.sl_scopes.specs.declared.early.Early.{Early}
use Rattle.sl_scopes.specs.declared.early.Early.TheVariants.{Twice, NoMemory}

-- the texts of names, and whether what has the name overloads
abbrev pub Seen : Type 0
Seen = BTreeMap (Bor (List ℕ)) Bool

-- whether what has the name of this text overloads, if something has it
abbrev pub seen_in : Seen → List ℕ → Option Bool
seen_in seen text = get_by (λ key. slice_cmp nat_cmp text key.now) seen

-- whether a name clashes with what has the same name, if something has it
abbrev pub clashes_with : Bool → Option Bool → Bool
clashes_with overloads None = false
clashes_with overloads (Some other) = not (overloads && other)

-- the map tells of each name whether it clashes with one of these
abbrev pub Notes : Scope → Seen → Type 0
Notes before seen =
    (this : scopes.Declared)
    → list_any (clash this) before ≡ clashes_with this.overloads (seen_in seen this.name.text)

-- the name is told, which clashes with one of these, if memory did not run out
abbrev pub TellsClash : List ℕ → Declared → Scope → Early → Type 0
TellsClash source this before (Twice token) =
    (token ≡ this.name) × (list_any (clash (declared_in source this)) before ≡ true)
TellsClash source this before NoMemory = Unit {0}
