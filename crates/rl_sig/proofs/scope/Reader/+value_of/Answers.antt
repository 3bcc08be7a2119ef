use Rattle.std.proofs.Common.{◌∙◌, ap, subst, sym}
use Rattle.def_body.specs.Part.{run}
use Rattle.def_check.specs.Evaluate.{value_of}
use Rattle.sl_key.specs.Flow.{Tells}
use Rattle.rl_sig.specs.Reading.{facts_of, scope_of, text_of}
use Rattle.rl_sig.proofs.NotBuilt.{long_value}
use Rattle.sl_token.specs.View.{token_in}
use Rattle.sl_tree.specs.View.{expr_in}
use Rattle.sl_tree.proofs.Views.{expr_in-Name}
use Rattle.rl_sig.proofs.scope.Reader.+value_of.Goals as goal

pub returns-else-is_empty : goal.returns-else-is_empty
returns-else-is_empty t c =
    let reader = c.args.self.now in
    let text = text_of reader in
    let long =
    ap (value_of (scope_of reader))
    (ap (expr_in text) c.in-Name.is ∙ expr_in-Name text c.in-Name.name c.in-Name.args)
    ∙ long_value (scope_of reader) text (token_in text c.in-Name.name) c.in-Name.args
    c.is_empty.result c.is_empty.ensures c.if-is_empty.false in
    subst (λ part. Tells c.unbuilt.result (run (facts_of reader) part)) (sym long) c.unbuilt.ensures
