use Rattle.std.proofs.Common.{sym, ◌∙◌}
use Rattle.sl_cursor.specs.Signs.{numbers}
use Rattle.sl_cursor.proofs.Passing.{passed_token}
use Rattle.sl_cursor.proofs.source.Source.number.Goals as goal

pub returns-in-Some : goal.returns-in-Some
returns-in-Some c =
    passed_token c.args.self.now numbers c.args.here.now c.advance.result c.in-Some.token.now c.in-Some.field-0-1.now c.in-Some.ensures.cases.0
    (sym c.is_number.ensures ∙ c.if-is_number.true) c.requires c.advance.ensures.place c.advance.ensures.reach
