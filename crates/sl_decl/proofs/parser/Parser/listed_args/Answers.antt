use Rattle.std.proofs.Common.{[], map, refl, arith}
use Rattle.def_decl_reading.specs.Form.{reads, Listed, with_first}
use Rattle.def_decl_reading.specs.MemberReading as forms
use Rattle.sl_tree.specs.DeclView.{arg_in}
use Rattle.sl_cursor.specs.Nestings.{nesting_in}
use Rattle.sl_cursor.proofs.Following.{follows_err}
use Rattle.sl_cursor.proofs.Listed.{listed_none, listed_more, listed_last, listed_stops, fewer_left}
use Rattle.sl_decl.proofs.parser.Parser.listed_args.Goals as goal

pub loop-args-init : goal.loop-args-init
loop-args-init c =
    let source = c.args.self.now.source in
    let view = arg_in source.bytes.now in
    let part = reads (forms.arg_form (nesting_in c.args.around.now)) in
    listed_none source view with_first [] part c.args.here.now c.new-args.result c.new-args.ensures c.requires

pub loop-args-preserved : goal.loop-args-preserved
loop-args-preserved c =
    let source = c.args.self.now.source in
    let view = arg_in source.bytes.now in
    let part = reads (forms.arg_form (nesting_in c.args.around.now)) in
    listed_more source view with_first [] part c.args.here.now c.loop-args.args c.push.new.self c.loop-args.next
    c.in_ok-arg.arg c.in_ok-arg.behind c.in-Some.field-0-0 c.in-Some.after c.loop-args.invariant c.in_ok-arg.ensures
    c.in_ok-push.ensures.ok c.in-Some.ensures

pub loop-args-smaller : goal.loop-args-smaller
loop-args-smaller c =
    fewer_left c.args.self.now.source c.loop-args.next.place c.in-Some.after.place c.loop-args.invariant.stands.stands
    c.in-Some.ensures.behind.stands
    (omega (arith, c.in_ok-arg.ensures.on, c.in-Some.ensures.on))

pub returns-in-None : goal.returns-in-None
returns-in-None c =
    let source = c.args.self.now.source in
    let view = arg_in source.bytes.now in
    let part = reads (forms.arg_form (nesting_in c.args.around.now)) in
    listed_last source view with_first [] part (λ all. all) refl (λ first others. refl) c.args.here.now c.loop-args.args
    c.push.new.self c.loop-args.next
    c.in_ok-arg.arg c.in_ok-arg.behind c.loop-args.invariant c.in_ok-arg.ensures c.in_ok-push.ensures.ok c.in-None.ensures

pub returns-in_err-arg : goal.returns-in_err-arg
returns-in_err-arg c =
    let source = c.args.self.now.source in
    let view = arg_in source.bytes.now in
    let part = reads (forms.arg_form (nesting_in c.args.around.now)) in
    let stop = c.in_err-arg.field-0.0 in
    follows_err source (λ items. map view items) (reads (Listed (forms.arg_form (nesting_in c.args.around.now))))
    c.args.here.now c.from_residual.result stop c.from_residual.ensures.1
    (listed_stops source view with_first [] part (λ items. map view items) c.args.here.now c.loop-args.args
    c.loop-args.next stop c.loop-args.invariant c.in_err-arg.ensures)
