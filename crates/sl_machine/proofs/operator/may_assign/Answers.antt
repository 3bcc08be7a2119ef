use Rattle.std.proofs.Common.{sym, ◌∙◌}
use Rattle.sl_machine.proofs.Operated.{begins_asked, begins_bracket}
use Rattle.sl_machine.proofs.operator.may_assign.Goals as goal

pub returns-then-brackets-eq0 : goal.returns-then-brackets-eq0
returns-then-brackets-eq0 c =
    λ source value. begins_asked c.asked.result source c.args.operator c.args.frames.now value c.in-Greater.is (sym c.brackets.ensures ∙ c.if-brackets-eq0.true) c.asked.ensures

pub returns-else-brackets-eq0 : goal.returns-else-brackets-eq0
returns-else-brackets-eq0 c =
    λ source value. begins_bracket c.brackets.result source c.args.operator c.args.frames.now value c.in-Greater.is c.if-brackets-eq0.false c.brackets.ensures
