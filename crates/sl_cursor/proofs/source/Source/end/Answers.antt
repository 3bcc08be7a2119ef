use Rattle.std.proofs.Common.{sym, ◌∙◌}
use Rattle.sl_cursor.specs.Signs.{ends}
use Rattle.sl_cursor.proofs.Passing.{passed_token}
use Rattle.sl_cursor.proofs.source.Source.end.Goals as goal

pub returns-in-Some : goal.returns-in-Some
returns-in-Some c =
    passed_token c.args.self.now ends c.args.here.now c.advance.result c.in-Some.token.now c.in-Some.field-0-1.now c.in-Some.ensures.cases.0
    (sym c.is_end.ensures ∙ c.if-is_end.true) c.requires c.advance.ensures.place c.advance.ensures.reach
