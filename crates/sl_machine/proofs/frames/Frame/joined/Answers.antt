use Rattle.std.proofs.Common.{ap}
use Rattle.std.proofs.lemmas.Result.{IfOk-weaker}
use Rattle.sl_machine.specs.Kept.{kept_tree}
use Rattle.sl_machine.proofs.frames.Frame.joined.Goals as goal

pub returns-then-keep : goal.returns-then-keep
returns-then-keep c = λ source. IfOk-weaker c.join.result _ _ (λ whole h. ap (kept_tree c.args.keep) h) (c.join.ensures source)
