use Rattle.std.proofs.Common.{sym, ap, subst, ◌∙◌, arith, refl}
use Rattle.def_tree.specs.Limits.{plain, assignment_tokens}
use Rattle.def_reading.specs.Cursor.{advance}
use Rattle.sl_tree.specs.View as view
use Rattle.sl_cursor.specs.Following.{IsBehind}
use Rattle.sl_cursor.proofs.Passing.{after_on, after_at}
use Rattle.sl_stmt.proofs.Simples.{one_token}
use Rattle.sl_stmt.proofs.simple.behind_assignment.Goals as goal

pub returns-in-ShiftRightBy : goal.returns-in-ShiftRightBy
returns-in-ShiftRightBy c =
    let from = c.args.here.now in
    let one = c.advance.result in
    let two = c.advance-in-ShiftRightBy.result in
    let three = c.advance-in-ShiftRightBy-2.result in
    let first = c.advance.ensures in
    let second = c.advance-in-ShiftRightBy.ensures in
    let third = c.advance-in-ShiftRightBy-2.ensures in
    subst (λ a. IsBehind (assignment_tokens (view.assignment_of a)) from three) (sym c.in-ShiftRightBy.is)
    (record {
      place = λ source. third.place.place source ∙ ap (advance plain) (second.place.place source ∙ ap (advance plain) (first.place.place source));
      limit = third.place.limit ∙ second.place.limit ∙ first.place.limit;
      reach = third.reach ∙ second.reach ∙ first.reach;
      on = omega (arith, after_on from.place one.place first.place from.place.rest.now refl, after_on one.place two.place second.place one.place.rest.now refl, after_on two.place three.place third.place two.place.rest.now refl);
      behind = λ source at.
          after_at source two.place three.place third.place two.place.rest.now refl
          (after_at source one.place two.place second.place one.place.rest.now refl (after_at source from.place one.place first.place from.place.rest.now refl at));
    })

pub returns-in_default : goal.returns-in_default
returns-in_default c =
    let from = c.args.here.now in
    let one = c.advance-in_default.result in
    let first = c.advance-in_default.ensures in
    subst (λ many. IsBehind many from one) (sym (one_token c.args.assignment c.in_default.not-ShiftRightBy))
    (record {
      place = first.place.place;
      limit = first.place.limit;
      reach = first.reach;
      on = after_on from.place one.place first.place from.place.rest.now refl;
      behind = λ source at. after_at source from.place one.place first.place from.place.rest.now refl at;
    })
