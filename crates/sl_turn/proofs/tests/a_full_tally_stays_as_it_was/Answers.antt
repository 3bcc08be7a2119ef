use Rattle.std.proofs.Common.{rules}
use Rattle.sl_turn.proofs.Held.{one_held, all_held}
use Rattle.sl_turn.proofs.tests.a_full_tally_stays_as_it_was.Goals as goal

pub close-tally-requires-clause-all : goal.close-tally-requires-clause-all
close-tally-requires-clause-all g c =
    let one = c.add_once-third.ensures.holds 1 (c.add_once-second.ensures.holds 1 (c.add_once-first.ensures.holds 1 (search rules))) in
    all_held c.add_once-third.new.pass 1 (search rules) (one_held _ one)
