use Rattle.std.proofs.Common.{arith}
use Rattle.def_layout.proofs.Existing.{some_alignment}
use Rattle.lay_out.proofs.Follows.{low_alignment}
use Rattle.lay_out.specs.View.{shape_in}
use Rattle.lay_out.proofs.std430.layout.Goals as goal

pub next_multiple-requires-clause-some : goal.next_multiple-requires-clause-some
next_multiple-requires-clause-some c =
    let made = c.in_ok-size.ensures in
    let some = some_alignment (shape_in c.args.shape.now) in
    let e = made.align in
    omega arith

pub next_multiple-requires-clause-fits : goal.next_multiple-requires-clause-fits
next_multiple-requires-clause-fits c =
    let made = c.in_ok-size.ensures in
    let low = low_alignment (shape_in c.args.shape.now) in
    let e = made.align in
    let few = made.few in
    let count = c.requires.few in
    omega arith
