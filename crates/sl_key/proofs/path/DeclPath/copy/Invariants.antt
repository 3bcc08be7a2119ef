use Rattle.std.proofs.Common.{◌≡◌, take}
use Rattle.sl_key.proofs.path.DeclPath.copy.Given as goal

abbrev pub invariant-loop-part : goal.invariant-loop-part
invariant-loop-part l = l.parts ≡ take l.part-index l.part-items
