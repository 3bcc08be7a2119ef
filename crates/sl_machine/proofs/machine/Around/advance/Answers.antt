use Rattle.std.proofs.lemmas.Result.{IfOk-weaker}
use Rattle.std.specs.Option.{option_map}
use Rattle.sl_machine.specs.Framed.{frames_in}
use Rattle.sl_machine.specs.Long.{long_in}
use Rattle.sl_cursor.specs.Nestings.{nesting_in}
use Rattle.sl_cursor.specs.Seen.{place_in, told_in}
use Rattle.sl_machine.specs.Steps.{mode_in, step_in}
use Rattle.sl_machine.proofs.Plainly.{beyond, plain_alike}
use Rattle.sl_machine.proofs.machine.Around.advance.Goals as goal

pub returns-in_ok-plain-in-Some : goal.returns-in_ok-plain-in-Some
returns-in_ok-plain-in-Some c =
    let source = c.args.self.now.source.bytes.now in
    IfOk-weaker c.step-in-Some.result _ _
    (λ step a. plain_alike _ (nesting_in c.args.self.now.open) (long_in c.args.self.now) (mode_in source c.args.mode) (mode_in source c.in_ok-plain-in-Some.plain)
    (frames_in source c.args.frames.now) (place_in source c.args.place.now) (step_in source c.step-in-Some.new.frames step)
    (beyond (option_map (told_in source) c.args.place.now.limit) _ _ (told_in source c.in-Some.told) (c.in-Some.ensures source) (c.before-2.ensures source))
    (c.in_ok-plain-in-Some.ensures source) a)
    c.step-in-Some.ensures
