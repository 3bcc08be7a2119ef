use Rattle.std.proofs.lemmas.Result.{IfOk-weaker}
use Rattle.sl_tree.specs.View.{expr_in}
use Rattle.sl_machine.specs.Framed.{frames_in, held_in}
use Rattle.sl_machine.specs.Long.{long_in}
use Rattle.sl_cursor.specs.Nestings.{nesting_in}
use Rattle.sl_machine.specs.Steps.{step_in}
use Rattle.sl_machine.proofs.Stepping.{ending_alike}
use Rattle.sl_machine.proofs.machine.Around.marked.Goals as goal

pub returns-in_ok-last-in_default : goal.returns-in_ok-last-in_default
returns-in_ok-last-in_default c =
    let source = c.args.self.now.source.bytes.now in
    IfOk-weaker c.ending.result _ _
    (λ step h. ending_alike source (nesting_in c.args.self.now.open) (long_in c.args.self.now) c.args.keep c.args.mark (expr_in source c.args.value) (frames_in source c.args.frames.now)
    (held_in source c.in_ok-last-in_default.last c.whole.new.frames) c.args.token c.requires.behind c.args.place.now (step_in source c.ending.new.frames step)
    (record {
      no_call = c.in_default.not-Call;
      no_index = c.in_default.not-Index;
      no_dot = c.in_default.not-Dot;
      no_colons = c.in_default.not-Colons;
      no_question = c.in_default.not-Question;
    }) c.requires.are (c.in_ok-last-in_default.ensures source) h)
    c.ending.ensures
