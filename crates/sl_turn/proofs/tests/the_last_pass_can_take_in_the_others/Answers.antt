use Rattle.std.proofs.Common.{rules, inl, inr}
use Rattle.def_turn.specs.Pass.{Holds}
use Rattle.sl_turn.proofs.Held.{one_held, next_held, all_held, split_held, splitting_held}
use Rattle.sl_turn.proofs.tests.the_last_pass_can_take_in_the_others.Goals as goal

pub close-tally-requires-clause-all : goal.close-tally-requires-clause-all
close-tally-requires-clause-all g c =
    let books = c.join-2.new.pass.books in
    let joined = c.join.new.pass.books in
    let one : Holds joined 1 = c.join.ensures.holds 1 (inr (c.add_once-2.ensures.holds 1 (search rules))) in
    let two : Holds joined 2 = c.join.ensures.holds 2 (inl (c.add_once.ensures.holds 2 (split_held c.in_ok-turn.one c.split-two.result 2 c.split-two.ensures.new (search rules)))) in
    let one' : Holds books 1 = c.join-2.ensures.holds 1 (inr (c.add_once-4.ensures.holds 1 (splitting_held c.join.new.pass c.split-three.new.pass 1 _ c.split-three.ensures.pass one))) in
    let two' : Holds books 2 = c.join-2.ensures.holds 2 (inr (c.add_once-4.ensures.holds 2 (splitting_held c.join.new.pass c.split-three.new.pass 2 _ c.split-three.ensures.pass two))) in
    let three : Holds books 3 = c.join-2.ensures.holds 3 (inl (c.add_once-3.ensures.holds 3 (split_held c.join.new.pass c.split-three.result 3 c.split-three.ensures.new (search rules)))) in
    all_held c.join-2.new.pass 3 (search rules) (next_held books 3 (next_held books 2 (one_held books one') two') three)
