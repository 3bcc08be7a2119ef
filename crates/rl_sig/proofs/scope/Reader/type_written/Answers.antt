use Rattle.std.proofs.Common.{◌∙◌, ap, map, subst, sym}
use Rattle.def_check.specs.Evaluate.{type_written, unbuilt}
use Rattle.def_body.specs.Part.{run}
use Rattle.sl_key.specs.Flow.{Tells}
use Rattle.rl_sig.specs.Reading.{facts_of, scope_of, text_of}
use Rattle.rl_sig.proofs.NotBuilt.{long_name, not_both, same_first}
use Rattle.sl_token.specs.View.{token_in}
use Rattle.sl_tree.specs.View.{type_in, types_of}
use Rattle.sl_tree.proofs.Views.{type_in-Named}
use Rattle.rl_sig.proofs.scope.Reader.type_written.Goals as goal
use Rattle.rl_sig.proofs.scope.Reader.type_written.Goals.{then-is_empty+else-is_empty-2, else-is_empty}

pub returns-in-Named-2 : goal.returns-in-Named-2
returns-in-Named-2 c =
    let reader = c.args.self.now in
    let text = text_of reader in
    let one = ap (type_in text) c.in-Named.is ∙ type_in-Named text c.in-Named.first c.in-Named.args c.in-Named.path in
    let other =
    ap (type_in text) c.in-Named-2.is
    ∙ type_in-Named text c.in-Named-2.first c.in-Named-2.args c.in-Named-2.path in
    let same =
    same_first (token_in text c.in-Named.first) (token_in text c.in-Named-2.first)
    (types_of (map (type_in text) c.in-Named.args)) (types_of (map (type_in text) c.in-Named-2.args))
    (map (token_in text) c.in-Named.path) (map (token_in text) c.in-Named-2.path) (sym one ∙ other) in
    let long =
    ap (type_written (scope_of reader)) one
    ∙ long_name (scope_of reader) text (token_in text c.in-Named.first)
    c.in-Named.args c.in-Named.path
    (λ no_args no_path. elim c.if-is_empty.branch [
      | then-is_empty+else-is_empty-2 w ↦
          not_both w.is_empty-then-is_empty.result (w.is_empty-then-is_empty.ensures.1 no_path) w.if-is_empty-2.false
      | else-is_empty w ↦ not_both c.is_empty.result (c.is_empty.ensures.1 no_args) w.if-is_empty.false
    ])
    ∙ ap (unbuilt (scope_of reader)) same in
    subst (λ part. Tells c.unbuilt.result (run (facts_of reader) part)) (sym long) c.unbuilt.ensures
