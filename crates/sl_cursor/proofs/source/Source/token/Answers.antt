use Rattle.std.proofs.Common.{true, refl}
use Rattle.sl_cursor.proofs.Passing.{passed_token}
use Rattle.sl_cursor.proofs.source.Source.token.Goals as goal

pub returns-in-Some : goal.returns-in-Some
returns-in-Some c =
    passed_token c.args.self.now (λ symbol. true) c.args.here.now c.advance.result c.in-Some.token.now c.in-Some.field-0-1.now c.in-Some.ensures.cases.0
    refl c.requires c.advance.ensures.place c.advance.ensures.reach
