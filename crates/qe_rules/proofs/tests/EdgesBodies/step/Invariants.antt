use Rattle.std.proofs.Common.{◌≡◌, drop}
use Rattle.def_query.specs.Edges.{body_over, last_of}
use Rattle.qe_rules.proofs.tests.EdgesBodies.step.Given as goal

-- no edge so far decides
abbrev pub invariant-loop-edge : goal.invariant-loop-edge
invariant-loop-edge g l = record {
  body :
      body_over (drop l.edge-index l.self.edges.items) (last_of l.self.bad l.key) l.key l.known.pairs
      ≡ body_over l.self.edges.items (last_of l.self.bad l.key) l.key l.known.pairs;
  steps : l.steps ≡ l.fn.steps;
}
