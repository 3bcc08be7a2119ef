use Rattle.std.proofs.Common.{reverse, arith}
use Rattle.std.proofs.lemmas.List.{length-reverse}
use Rattle.sl_machine.proofs.Counted.{counted_once, few}
use Rattle.sl_machine.proofs.frames.Frames.push.Goals as goal

pub overflow_add-self : goal.overflow_add-self
overflow_add-self c =
    let once = counted_once c.args.frame c.counts-brackets.result c.counts-brackets.ensures in
    let all = few (reverse c.self.inside.items.items) in
    omega (arith, once.bracket, all.brackets, length-reverse c.self.inside.items.items, c.self.invariant.0)

pub overflow_add-self-2 : goal.overflow_add-self-2
overflow_add-self-2 c =
    let once = counted_once c.args.frame c.counts-brackets.result c.counts-brackets.ensures in
    let all = few (reverse c.self.inside.items.items) in
    omega (arith, once.unary, all.unary, length-reverse c.self.inside.items.items, c.self.invariant.1)

pub overflow_add-self-3 : goal.overflow_add-self-3
overflow_add-self-3 c =
    let once = counted_once c.args.frame c.counts-brackets.result c.counts-brackets.ensures in
    let all = few (reverse c.self.inside.items.items) in
    omega (arith, once.asked, all.asked, length-reverse c.self.inside.items.items, c.self.invariant.2)
