use Rattle.std.proofs.Common.{sym, ◌∙◌}
use Rattle.sl_look.proofs.TypeSteps.{closing, comma}
use Rattle.sl_look.proofs.types.Types.mark.Goals as goal

pub returns-then-is_sign : goal.returns-then-is_sign
returns-then-is_sign c =
    comma c.args.self.now.source.now c.args.place.now c.advance.result c.in-Some.mark.now _ c.in-Some.ensures.cases.0
    (sym c.is_sign.ensures ∙ c.if-is_sign.true) c.advance.ensures

pub returns-then-is_sign-2 : goal.returns-then-is_sign-2
returns-then-is_sign-2 c =
    closing c.args.self.now.source.now c.args.place.now _ c.in-Some.mark.now _ c.in-Some.ensures.cases.0
    (sym c.is_sign.ensures ∙ c.if-is_sign.false) (sym c.is_sign-else-is_sign.ensures ∙ c.if-is_sign-2.true) c.advance-then-is_sign-2.ensures
