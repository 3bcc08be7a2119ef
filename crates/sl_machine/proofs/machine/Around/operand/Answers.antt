use Rattle.sl_machine.specs.Framed.{frames_in}
use Rattle.sl_machine.specs.Long.{long_in}
use Rattle.sl_cursor.specs.Nestings.{nesting_in}
use Rattle.sl_machine.specs.Steps.{step_in}
use Rattle.sl_machine.proofs.Stepping.{number_alike}
use Rattle.sl_machine.proofs.machine.Around.operand.Goals as goal

pub returns-in-Name : goal.returns-in-Name
returns-in-Name c = c.name.ensures c.args.frames.now

pub returns-in-Number : goal.returns-in-Number
returns-in-Number c =
    let source = c.args.self.now.source.bytes.now in
    number_alike source (nesting_in c.args.self.now.open) (long_in c.args.self.now) (frames_in source c.args.frames.now) c.args.token c.requires.first.behind c.args.place.now
    (step_in source c.args.frames.now c.stands.result) c.requires.first.are c.in-Number.is (c.stands.ensures source c.args.frames.now)
