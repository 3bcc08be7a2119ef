-- Sets that gain a name.
use Rattle.std.proofs.Common.{◌≡◌, ℕ, List, [], ◌∷◌, ◌++◌, Some, None, refl}
use Rattle.def_sources.specs.Sources.{gained}
use Rattle.sl_roots.specs.Load.{sources_of}
use Rattle.sl_roots.specs.declared.source_set.SourceSet.{SourceSet}

pub gained_module : (before after : SourceSet) (modules : List (List ℕ × List ℕ)) (name held bytes given : List ℕ)
    → after ≡ record { modules = modules; absent = before.absent }
    → modules ≡ before.modules ++ (held, given) ∷ [] → held ≡ name → given ≡ bytes
    → sources_of after ≡ gained (sources_of before) name (Some bytes)
gained_module before after modules name held bytes given is pushed named same =
    rw (is, pushed, named, same) refl

pub gained_absent : (before after : SourceSet) (absent : List (List ℕ)) (name held : List ℕ)
    → after ≡ record { modules = before.modules; absent = absent }
    → absent ≡ before.absent ++ held ∷ [] → held ≡ name
    → sources_of after ≡ gained (sources_of before) name None
gained_absent before after absent name held is pushed named = rw (is, pushed, named) refl
