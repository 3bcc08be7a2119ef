use Rattle.std.proofs.Common.{sym, ◌∙◌}
use Rattle.sl_machine.proofs.Keeping.{bound_further}
use Rattle.sl_machine.proofs.closing.bound.Goals as goal

pub loop-frame-preserved : goal.loop-frame-preserved
loop-frame-preserved c =
    λ source. c.loop-frame.invariant source
    ∙ bound_further source c.args.keep c.args.least c.in-Some.frame c.loop-frame.frames c.pop.new.self c.loop-frame.whole c.in_ok-whole.whole c.in-Some.ensures
    (sym (c.binds.ensures source) ∙ c.if-not-binds.false) (c.in_ok-whole.ensures source)
