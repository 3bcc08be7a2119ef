-- What follows of a result from the fetches that gave it.
use Rattle.std.proofs.Common.{ℕ, List, Result, Ok, Err, IfOk, IfErr, MatchResult}
use Rattle.def_sources.specs.Loaded.{Loaded, WellFormed}
use Rattle.sl_roots.specs.Load.{sources_of, Loads, Refuses, RefusesTold, ShowsFault}
use Rattle.sl_roots.specs.State.{RootState, Keep, Tell}
use Rattle.sl_roots.specs.declared.refusal.LoadRefusal.{LoadRefusal}
use Rattle.sl_roots.specs.declared.source_set.SourceSet.{SourceSet}
use Rattle.sl_roots.proofs.Formed.{loads_formed}
use Rattle.sl_roots.proofs.Kept.{gathers_keeps, refuses_keeps, shows_fault}
use Rattle.sl_roots.proofs.Told.{gathers_walk, refuses_told}

pub well_formed_loads : (result : Result SourceSet LoadRefusal) (names : List (List ℕ)) (before after : List RootState)
    → MatchResult result (λ set. Loads names (sources_of set) before after) (λ refusal. Refuses refusal names before after)
    → IfOk result (λ set. WellFormed names (sources_of set))
well_formed_loads (Ok set) names before after fetches = loads_formed names (sources_of set) before after fetches
well_formed_loads (Err refusal) names before after fetches = tt

pub fault_loads : (result : Result SourceSet LoadRefusal) (names : List (List ℕ)) (before after : List RootState)
    → MatchResult result (λ set. Loads names (sources_of set) before after) (λ refusal. Refuses refusal names before after)
    → IfErr result (λ refusal. ShowsFault refusal before after)
fault_loads (Ok set) names before after fetches = tt
fault_loads (Err refusal) names before after fetches = shows_fault refusal names before after fetches

pub keeps_loads : (result : Result SourceSet LoadRefusal) (names : List (List ℕ)) (before after : List RootState)
    → MatchResult result (λ set. Loads names (sources_of set) before after) (λ refusal. Refuses refusal names before after)
    → Keep before after
keeps_loads (Ok set) names before after fetches = gathers_keeps names before (sources_of set) after fetches.gathers
keeps_loads (Err refusal) names before after fetches = refuses_keeps refusal names before after fetches

pub told_loads : (result : Result SourceSet LoadRefusal) (names : List (List ℕ)) (before after : List RootState)
    → MatchResult result (λ set. Loads names (sources_of set) before after) (λ refusal. Refuses refusal names before after)
    → (maps : List (List (List ℕ × List ℕ))) → Tell before maps
    → MatchResult result (λ set. Loaded maps names (sources_of set)) (λ refusal. RefusesTold refusal names maps)
told_loads (Ok set) names before after fetches maps tell =
    let walk = gathers_walk names before maps (sources_of set) after tell fetches.gathers in
    (walk.0, walk.1, fetches.ended)
told_loads (Err refusal) names before after fetches maps tell = refuses_told refusal names before after maps tell fetches
