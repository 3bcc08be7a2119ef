use Rattle.std.proofs.Common.{rules}
use Rattle.def_turn.specs.Pass.{Holds}
use Rattle.sl_turn.proofs.Held.{one_held, next_held, all_held, split_held}
use Rattle.sl_turn.proofs.tests.four_callers_enter_all_their_turns.Goals as goal

pub close-tally-requires-clause-all : goal.close-tally-requires-clause-all
close-tally-requires-clause-all g c =
    let books = c.add_four-all.result.books in
    let one : Holds books 1 = c.add_four-all.ensures.one 1 (search rules) in
    let two : Holds books 2 = c.add_four-all.ensures.two 2 (split_held c.in_ok-turn.one c.split-two.result 2 c.split-two.ensures.new (search rules)) in
    let three : Holds books 3 = c.add_four-all.ensures.three 3 (split_held c.split-two.new.pass c.split-three.result 3 c.split-three.ensures.new (search rules)) in
    let four : Holds books 4 = c.add_four-all.ensures.four 4 (split_held c.split-three.new.pass c.split-four.result 4 c.split-four.ensures.new (search rules)) in
    all_held c.add_four-all.result 4 (search rules) (next_held books 4 (next_held books 3 (next_held books 2 (one_held books one) two) three) four)
