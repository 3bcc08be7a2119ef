use Rattle.std.proofs.Common.{sym, ◌∙◌}
use Rattle.sl_machine.proofs.Plainly.{plain_leaf, plain_call}
use Rattle.sl_machine.proofs.run.plain.Goals as goal

pub returns-in_ok-callee-in-Call : goal.returns-in_ok-callee-in-Call
returns-in_ok-callee-in-Call c =
    λ source. plain_call source c.args.tree c.in-Call.field-0 c.in_ok-callee-in-Call.callee c.args.token c.in-Call.field-1 c.in-Call.field-2 c.new-in-Call.result c.in-Call.is

pub returns-in_default : goal.returns-in_default
returns-in_default c = λ source. c.leaf-in_default.ensures source ∙ sym (plain_leaf source c.args.tree c.in_default.not-Call)
