use Rattle.std.proofs.Common.{sym, ◌∙◌}
use Rattle.sl_look.proofs.TypeSteps.{named, no_name}
use Rattle.sl_look.proofs.types.Types.next.Goals as goal

pub returns-then-is_name : goal.returns-then-is_name
returns-then-is_name c =
    named c.args.self.now.source.now c.args.place.now c.advance-behind.result _ c.in-Some.dot.now c.in-Some-split_first.name.now c.in-Some.after.now _
    c.in-Some.ensures.cases.0 c.in-Some-split_first.ensures.cases.0 (sym c.is_sign.ensures ∙ c.if-not-is_sign.false) (sym c.is_name.ensures ∙ c.if-is_name.true) c.advance-behind.ensures c.advance.ensures

pub returns-else-is_name : goal.returns-else-is_name
returns-else-is_name c =
    no_name c.args.self.now.source.now c.args.place.now _ c.in-Some.dot.now c.in-Some-split_first.name.now c.in-Some.after.now _
    c.in-Some.ensures.cases.0 c.in-Some-split_first.ensures.cases.0 (sym c.is_sign.ensures ∙ c.if-not-is_sign.false) (sym c.is_name.ensures ∙ c.if-is_name.false) c.advance-behind.ensures
