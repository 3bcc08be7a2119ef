-- Sources that are gathered name by name.
use Rattle.std.proofs.Common.{◌≡◌, ℕ, ◌≤◌, List, [], ◌∷◌, length, Some, refl, inl, inr, arith, length-append}
use Rattle.def_sources.specs.Limits.{most_modules}
use Rattle.def_sources.specs.Sources.{Sources, gained, next_name}
use Rattle.sl_io.specs.declared.root.Fetched.{Fetched}
use Rattle.sl_io.specs.declared.root.Fetched.TheVariants.{Failed, TooLarge}
use Rattle.sl_roots.specs.Load.{Gathers, Stops, Refuses}
use Rattle.sl_roots.specs.Load.Gathers.{finds, misses}
use Rattle.sl_roots.specs.State.{RootState, Ask}
use Rattle.sl_roots.specs.Take.{Gains, Fails}
use Rattle.sl_roots.specs.declared.refusal.LoadRefusal.{LoadRefusal}
use Rattle.sl_roots.specs.declared.refusal.LoadRefusal.TheVariants.{Fault, ModuleTooLarge, TooManyModules, NoMemory}

-- one more name is taken
pub gathers_gained : (names : List (List ℕ)) (before roots after : List RootState) (sources more : Sources) (name : List ℕ)
    → Gathers names before sources roots → next_name names sources ≡ Some name
    → Gains name sources more roots after → Gathers names before more after
gathers_gained names before roots after sources more name gathers next (inl found) =
    rw found.3 (finds sources roots after name found.0 found.1 gathers next found.2)
gathers_gained names before roots after sources more name gathers next (inr missed) =
    rw missed.2 (misses sources roots after name missed.0 gathers next missed.1)

-- the roots answered for one more name, which is not taken
pub stops : (names : List (List ℕ)) (before roots after : List RootState) (sources : Sources) (name told : List ℕ)
    (asked : ℕ) (answer : Fetched)
    → Gathers names before sources roots → length sources.modules ≤ most_modules
    → next_name names sources ≡ Some name → told ≡ name
    → Ask name asked answer roots after → Stops names told asked answer before after
stops names before roots after sources name told asked answer gathers few next is ask = record {
  sources = sources;
  roots = roots;
  gathers = gathers;
  few = few;
  next = rw is next;
  ask = rw is ask;
}

-- one more name is not taken
pub refuses_fails : (refusal : LoadRefusal) (names : List (List ℕ)) (before roots after : List RootState)
    (sources : Sources) (name : List ℕ)
    → Gathers names before sources roots → length sources.modules ≤ most_modules
    → next_name names sources ≡ Some name
    → Fails refusal name sources roots after → Refuses refusal names before after
refuses_fails (Fault root told) names before roots after sources name gathers few next fails =
    (fails.1.0, fails.1.1, stops names before roots after sources name told fails.1.0 Failed gathers few next fails.0 fails.1.2)
refuses_fails (ModuleTooLarge told) names before roots after sources name gathers few next fails =
    (fails.1.0, stops names before roots after sources name told fails.1.0 TooLarge gathers few next fails.0 fails.1.1)
refuses_fails TooManyModules names before roots after sources name gathers few next fails =
    let bytes = fails.1.0 in
    let file : List (List ℕ × List ℕ) = (name, bytes) ∷ [] in (
      gained sources name (Some bytes),
      finds sources roots after name bytes fails.1.1 gathers next fails.1.2,
      omega (arith, few, fails.0, length-append sources.modules file),
    )
refuses_fails NoMemory names before roots after sources name gathers few next fails =
    inr (name, fails.0, fails.1, stops names before roots after sources name name fails.0 fails.1 gathers few next refl fails.2)
