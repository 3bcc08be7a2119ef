use Rattle.def_layout.proofs.Multiples.{next_from, multiple_from}
use Rattle.lay_out.proofs.std430.next_multiple.Goals as goal

pub returns : goal.returns
returns c =
    let m = c.next_multiple_of.ensures in
    next_from c.args.unit c.args.from c.next_multiple_of.result (multiple_from c.args.unit c.next_multiple_of.result m.multiple) m.lower_bound m.upper_bound
