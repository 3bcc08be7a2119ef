use Rattle.std.proofs.Common.{◌≡◌, length, map}
use Rattle.sl_roots.specs.State.{root_state}
use Rattle.sl_roots.proofs.Asking.{Passed}
use Rattle.sl_roots.proofs.ask.ask.Given as goal

abbrev pub invariant-loop-at : goal.invariant-loop-at
invariant-loop-at g l = record {
  as_many : length l.roots.items ≡ length l.initial.roots.items;
  passed : Passed l.name l.at
      (map (λ r. root_state (g.R.SourceRoot.files r) (g.R.SourceRoot.steady r) (g.R.SourceRoot.faults r)) l.initial.roots.items)
      (map (λ r. root_state (g.R.SourceRoot.files r) (g.R.SourceRoot.steady r) (g.R.SourceRoot.faults r)) l.roots.items);
}
