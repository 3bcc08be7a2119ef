use Rattle.std.proofs.Common.{true, false, ap, sym}
use Rattle.std.specs.Prelude.{Some}
use Rattle.sl_cursor.specs.Nestings.{nesting_in}
use Rattle.sl_token.specs.View.{token_in}
use Rattle.sl_tree.proofs.Views.{expr_in-BooleanLiteral, expr_in-Itself, expr_in-OwnType}
use Rattle.sl_tree.specs.declared.expressions.ExprTree.TheVariants as expr
use Rattle.sl_machine.specs.Framed.{frames_in}
use Rattle.sl_machine.specs.Long.{long_in}
use Rattle.def_reading.specs.Machine.{start_by}
use Rattle.sl_cursor.specs.Seen.{place_in}
use Rattle.sl_machine.specs.Words.{start_in}
use Rattle.sl_machine.proofs.Standing.{stands_as}
use Rattle.sl_machine.proofs.machine.Around.start.Goals as goal

pub returns-in-True : goal.returns-in-True
returns-in-True c =
    let source = c.args.self.now.source.bytes.now in
    let place = c.args.place.now in
    stands_as source c.args.frames.now (expr.BooleanLiteral true c.args.token) place c.stands.result _ _ c.stands.ensures (expr_in-BooleanLiteral source true c.args.token)
    (sym (ap (λ sign. start_by (nesting_in c.args.self.now.open) (long_in c.args.self.now) (Some (start_in sign)) (frames_in source c.args.frames.now)
    (token_in source c.args.token) (place_in source place)) c.in-True.is))

pub returns-in-False : goal.returns-in-False
returns-in-False c =
    let source = c.args.self.now.source.bytes.now in
    let place = c.args.place.now in
    stands_as source c.args.frames.now (expr.BooleanLiteral false c.args.token) place c.stands-in-False.result _ _ c.stands-in-False.ensures (expr_in-BooleanLiteral source false c.args.token)
    (sym (ap (λ sign. start_by (nesting_in c.args.self.now.open) (long_in c.args.self.now) (Some (start_in sign)) (frames_in source c.args.frames.now)
    (token_in source c.args.token) (place_in source place)) c.in-False.is))

pub returns-in-Itself : goal.returns-in-Itself
returns-in-Itself c =
    let source = c.args.self.now.source.bytes.now in
    let place = c.args.place.now in
    stands_as source c.args.frames.now (expr.Itself c.args.token) place c.stands-in-Itself.result _ _ c.stands-in-Itself.ensures (expr_in-Itself source c.args.token)
    (sym (ap (λ sign. start_by (nesting_in c.args.self.now.open) (long_in c.args.self.now) (Some (start_in sign)) (frames_in source c.args.frames.now)
    (token_in source c.args.token) (place_in source place)) c.in-Itself.is))

pub returns-in-OwnType : goal.returns-in-OwnType
returns-in-OwnType c =
    let source = c.args.self.now.source.bytes.now in
    let place = c.args.place.now in
    stands_as source c.args.frames.now (expr.OwnType c.args.token) place c.stands-in-OwnType.result _ _ c.stands-in-OwnType.ensures (expr_in-OwnType source c.args.token)
    (sym (ap (λ sign. start_by (nesting_in c.args.self.now.open) (long_in c.args.self.now) (Some (start_in sign)) (frames_in source c.args.frames.now)
    (token_in source c.args.token) (place_in source place)) c.in-OwnType.is))
