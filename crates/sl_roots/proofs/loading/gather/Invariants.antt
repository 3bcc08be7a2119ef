use Rattle.std.proofs.Common.{◌≡◌, ◌≤◌, ℕ, ◌<◌, [], true, length, map, get_or}
use Rattle.std.specs.List.{list_any}
use Rattle.std.specs.Str.{bytes_eq}
use Rattle.def_sources.specs.Limits.{most_modules}
use Rattle.def_sources.specs.Sources.{names_of}
use Rattle.sl_roots.specs.Load.{sources_of, Gathers}
use Rattle.sl_roots.specs.State.{root_state}
use Rattle.sl_roots.proofs.loading.gather.Given as goal

abbrev pub invariant-loop-name : goal.invariant-loop-name
invariant-loop-name g l = record {
  gathers : Gathers l.fn.names
      (map (λ r. root_state (g.R.SourceRoot.files r) (g.R.SourceRoot.steady r) (g.R.SourceRoot.faults r)) l.fn.roots.items)
      (sources_of l.set)
      (map (λ r. root_state (g.R.SourceRoot.files r) (g.R.SourceRoot.steady r) (g.R.SourceRoot.faults r)) l.roots.items);
  few : length l.set.modules ≤ most_modules;
  seen : (k : ℕ) → k < l.name-index
      → list_any (bytes_eq (get_or l.fn.names k [])) (names_of (sources_of l.set)) ≡ true;
}
