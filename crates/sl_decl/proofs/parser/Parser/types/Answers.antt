use Rattle.std.proofs.Common.{[], map, refl, arith}
use Rattle.def_decl_reading.specs.Form.{reads, AType, Listed, with_first}
use Rattle.sl_tree.specs.View.{type_in}
use Rattle.sl_cursor.specs.Nestings.{nesting_in}
use Rattle.sl_cursor.proofs.Following.{follows_err}
use Rattle.sl_cursor.proofs.Listed.{listed_none, listed_more, listed_last, listed_stops, fewer_left}
use Rattle.sl_decl.proofs.parser.Parser.types.Goals as goal

pub loop-types-init : goal.loop-types-init
loop-types-init c =
    let source = c.args.self.now.source in
    let view = type_in source.bytes.now in
    let part = reads (AType (nesting_in c.args.around.now)) in
    listed_none source view with_first [] part c.args.here.now c.new-types.result c.new-types.ensures c.requires

pub loop-types-preserved : goal.loop-types-preserved
loop-types-preserved c =
    let source = c.args.self.now.source in
    let view = type_in source.bytes.now in
    let part = reads (AType (nesting_in c.args.around.now)) in
    listed_more source view with_first [] part c.args.here.now c.loop-types.types c.push.new.self c.loop-types.next
    c.in_ok-ty.ty c.in_ok-ty.behind c.in-Some.field-0-0 c.in-Some.after c.loop-types.invariant c.in_ok-ty.ensures
    c.in_ok-push.ensures.ok c.in-Some.ensures

pub loop-types-smaller : goal.loop-types-smaller
loop-types-smaller c =
    fewer_left c.args.self.now.source c.loop-types.next.place c.in-Some.after.place c.loop-types.invariant.stands.stands
    c.in-Some.ensures.behind.stands
    (omega (arith, c.in_ok-ty.ensures.on, c.in-Some.ensures.on))

pub returns-in-None : goal.returns-in-None
returns-in-None c =
    let source = c.args.self.now.source in
    let view = type_in source.bytes.now in
    let part = reads (AType (nesting_in c.args.around.now)) in
    listed_last source view with_first [] part (λ all. all) refl (λ first others. refl) c.args.here.now c.loop-types.types
    c.push.new.self c.loop-types.next
    c.in_ok-ty.ty c.in_ok-ty.behind c.loop-types.invariant c.in_ok-ty.ensures c.in_ok-push.ensures.ok c.in-None.ensures

pub returns-in_err-ty : goal.returns-in_err-ty
returns-in_err-ty c =
    let source = c.args.self.now.source in
    let view = type_in source.bytes.now in
    let part = reads (AType (nesting_in c.args.around.now)) in
    let stop = c.in_err-ty.field-0.0 in
    follows_err source (λ items. map view items) (reads (Listed (AType (nesting_in c.args.around.now)))) c.args.here.now
    c.from_residual.result stop c.from_residual.ensures.1
    (listed_stops source view with_first [] part (λ items. map view items) c.args.here.now c.loop-types.types
    c.loop-types.next stop c.loop-types.invariant c.in_err-ty.ensures)
