use Rattle.std.proofs.Common.{sym, ◌∙◌}
use Rattle.sl_machine.proofs.Keeping.{whole_further}
use Rattle.sl_machine.proofs.closing.whole.Goals as goal

pub loop-frame-preserved : goal.loop-frame-preserved
loop-frame-preserved c =
    λ source. c.loop-frame.invariant source
    ∙ whole_further source c.args.keep c.in-Some.frame c.loop-frame.frames c.pop.new.self c.loop-frame.whole c.in_ok-whole.whole c.in-Some.ensures
    (sym (c.closes.ensures source) ∙ c.if-not-closes.false) (c.in_ok-whole.ensures source)
