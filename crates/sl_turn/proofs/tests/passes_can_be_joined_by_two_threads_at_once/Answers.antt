use Rattle.std.proofs.Common.{rules, inl, inr}
use Rattle.def_turn.specs.Pass.{Holds}
use Rattle.sl_turn.proofs.Held.{one_held, next_held, all_held, split_held}
use Rattle.sl_turn.proofs.tests.passes_can_be_joined_by_two_threads_at_once.Goals as goal

pub close-tally-requires-clause-all : goal.close-tally-requires-clause-all
close-tally-requires-clause-all g c =
    let books = c.join.new.pass.books in
    let pairs = c.join_pairs-one.ensures in
    let two' = c.add_once-4.ensures.holds 2 (split_held c.in_ok-turn.one c.split-two.result 2 c.split-two.ensures.new (search rules)) in
    let three' = c.add_once-3.ensures.holds 3 (split_held c.split-two.new.pass c.split-three.result 3 c.split-three.ensures.new (search rules)) in
    let four' = c.add_once.ensures.holds 4 (split_held c.split-three.new.pass c.split-four.result 4 c.split-four.ensures.new (search rules)) in
    let one : Holds books 1 = c.join.ensures.holds 1 (inl (pairs.left 1 (inl (c.add_once-2.ensures.holds 1 (search rules))))) in
    let two : Holds books 2 = c.join.ensures.holds 2 (inl (pairs.left 2 (inr two'))) in
    let three : Holds books 3 = c.join.ensures.holds 3 (inr (pairs.right 3 (inl three'))) in
    let four : Holds books 4 = c.join.ensures.holds 4 (inr (pairs.right 4 (inr four'))) in
    all_held c.join.new.pass 4 (search rules) (next_held books 4 (next_held books 3 (next_held books 2 (one_held books one) two) three) four)
