use Rattle.sl_token.proofs.Lines.{along_line}
use Rattle.sl_token.proofs.position.Position.along.Goals as goal

pub returns-clause-place : goal.returns-clause-place
returns-clause-place c = along_line c.args.self.place.line c.args.self.place.column c.args.bytes.now c.requires.line
