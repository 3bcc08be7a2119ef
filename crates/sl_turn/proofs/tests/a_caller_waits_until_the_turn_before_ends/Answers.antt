use Rattle.std.proofs.Common.{rules}
use Rattle.def_turn.specs.Pass.{Holds}
use Rattle.sl_turn.proofs.Held.{one_held, next_held, all_held, split_held}
use Rattle.sl_turn.proofs.tests.a_caller_waits_until_the_turn_before_ends.Goals as goal

pub close-tally-requires-clause-all : goal.close-tally-requires-clause-all
close-tally-requires-clause-all g c =
    let books = c.add_in_order-both.result.books in
    let one : Holds books 1 = c.add_in_order-both.ensures.one 1 (search rules) in
    let two : Holds books 2 = c.add_in_order-both.ensures.two 2 (split_held c.in_ok-turn.one c.split-two.result 2 c.split-two.ensures.new (search rules)) in
    all_held c.add_in_order-both.result 2 (search rules) (next_held books 2 (one_held books one) two)
