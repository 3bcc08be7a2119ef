use Rattle.std.proofs.Common.{ap}
use Rattle.std.proofs.lemmas.Result.{IfOk-weaker}
use Rattle.sl_tree.specs.View.{expr_in}
use Rattle.sl_machine.specs.Framed.{frames_in}
use Rattle.sl_machine.specs.Long.{long_in}
use Rattle.sl_cursor.specs.Nestings.{nesting_in}
use Rattle.sl_machine.specs.Steps.{mode_in, step_in}
use Rattle.sl_machine.proofs.Stepping.{dotted_alike}
use Rattle.sl_machine.proofs.machine.Around.step.Goals as goal

pub returns-in-Dotted : goal.returns-in-Dotted
returns-in-Dotted c =
    let source = c.args.self.now.source.bytes.now in
    IfOk-weaker c.member.result _ _
    (λ step h. dotted_alike source (nesting_in c.args.self.now.open) (long_in c.args.self.now) c.args.keep (frames_in source c.args.frames.now) (expr_in source c.in-Dotted.base)
    c.in-Some.token.now c.in-Some.field-0-1.now c.args.place.now (mode_in source c.args.mode) (step_in source c.args.frames.now step) c.in-Some.ensures.cases.0
    (ap (mode_in source) c.in-Dotted.is) h)
    (c.member.ensures c.args.frames.now)
