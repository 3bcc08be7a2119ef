use Rattle.std.proofs.Common.{sym, ◌∙◌}
use Rattle.sl_look.proofs.TailEnds.{dotted}
use Rattle.sl_look.proofs.ahead.Tail.path.Goals as goal

pub returns-then-is_name-clause-end : goal.returns-then-is_name-clause-end
returns-then-is_name-clause-end c =
    dotted c.args.self.now.source.now c.args.self.now.tokens.now c.in-Some.after.now _ c.in-Some.dot.now c.in-Some-split_first.name.now _
    c.in-Some.ensures.cases.0 c.in-Some-split_first.ensures.cases.0 (sym c.is_sign.ensures ∙ c.if-not-is_sign.false)
    (sym c.is_name.ensures ∙ c.if-is_name.true) c.path_behind.ensures.end
