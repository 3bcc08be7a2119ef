use Rattle.std.proofs.Common.{◌≡◌, map, take}
use Rattle.def_check.specs.Reply.{key_text}
use Rattle.rl_all.proofs.telling.texts_of.Given as goal

abbrev pub invariant-loop-key : goal.invariant-loop-key
invariant-loop-key l = l.texts ≡ map key_text (take l.key-index l.keys)
