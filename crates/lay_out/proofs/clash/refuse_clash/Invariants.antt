use Rattle.lay_out.proofs.Clashing.{HasSeen}
use Rattle.lay_out.proofs.clash.refuse_clash.Given as goal

abbrev pub invariant-loop-number : goal.invariant-loop-number
invariant-loop-number l = HasSeen l.wanted l.number l.seen
