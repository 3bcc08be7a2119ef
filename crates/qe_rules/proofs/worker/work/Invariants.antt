use Rattle.std.proofs.Common.{◌≡◌, ◌+◌, ◌-◌, ◌*◌, length, map}
use Rattle.std.specs.List.{AllByRecursion}
use Rattle.qe_rules.specs.Frame.{IsStack}
use Rattle.qe_rules.specs.Worker.{IsWorking}
use Rattle.qe_rules.proofs.worker.work.Given as goal

-- what the worker keeps, its frames, and that each key that it gained was counted
abbrev pub invariant-chain : goal.invariant-chain
invariant-chain g l = record {
  working : IsWorking g.R.Key.Ord.cmp (g.R.Rules.meaning l.rules) l.key l.fn.known.pairs l.known.pairs l.chain.keys.items;
  of : AllByRecursion (g.R.Rules.is_of l.rules) l.chain.frames.items;
  stack : IsStack g.R.Key.Ord.cmp (g.R.Rules.meaning l.rules) l.known.pairs (map g.R.Rules.stands_for l.chain.frames.items) l.chain.keys.items;
  steps : l.steps + length l.fn.known.pairs ≡ l.fn.steps + length l.known.pairs;
}

-- the keys within the bound that are not known, twice, but once those of the chain
abbrev pub decreases-chain : goal.decreases-chain
decreases-chain g l =
    2 * (length ((g.R.Rules.meaning l.rules).bound l.key) + length l.fn.known.pairs - length l.known.pairs) - length l.chain.keys.items
