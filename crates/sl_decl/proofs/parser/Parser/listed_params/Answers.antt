use Rattle.std.proofs.Common.{[], map, refl, arith}
use Rattle.def_decl_reading.specs.Form.{reads, Listed, with_first}
use Rattle.def_decl_reading.specs.MemberReading as forms
use Rattle.sl_tree.specs.DeclView.{param_in}
use Rattle.sl_cursor.specs.Nestings.{nesting_in}
use Rattle.sl_cursor.proofs.Following.{follows_err}
use Rattle.sl_cursor.proofs.Listed.{listed_none, listed_more, listed_last, listed_stops, fewer_left}
use Rattle.sl_decl.proofs.parser.Parser.listed_params.Goals as goal

pub loop-params-init : goal.loop-params-init
loop-params-init c =
    let source = c.args.self.now.source in
    let view = param_in source.bytes.now in
    let part = reads (forms.param_form (nesting_in c.args.around.now)) in
    listed_none source view with_first [] part c.args.here.now c.new-params.result c.new-params.ensures c.requires

pub loop-params-preserved : goal.loop-params-preserved
loop-params-preserved c =
    let source = c.args.self.now.source in
    let view = param_in source.bytes.now in
    let part = reads (forms.param_form (nesting_in c.args.around.now)) in
    listed_more source view with_first [] part c.args.here.now c.loop-params.params c.push.new.self c.loop-params.next
    c.in_ok-param.param c.in_ok-param.behind c.in-Some.field-0-0 c.in-Some.after c.loop-params.invariant
    c.in_ok-param.ensures c.in_ok-push.ensures.ok c.in-Some.ensures

pub loop-params-smaller : goal.loop-params-smaller
loop-params-smaller c =
    fewer_left c.args.self.now.source c.loop-params.next.place c.in-Some.after.place c.loop-params.invariant.stands.stands
    c.in-Some.ensures.behind.stands
    (omega (arith, c.in_ok-param.ensures.on, c.in-Some.ensures.on))

pub returns-in-None : goal.returns-in-None
returns-in-None c =
    let source = c.args.self.now.source in
    let view = param_in source.bytes.now in
    let part = reads (forms.param_form (nesting_in c.args.around.now)) in
    listed_last source view with_first [] part (λ all. all) refl (λ first others. refl) c.args.here.now
    c.loop-params.params c.push.new.self c.loop-params.next
    c.in_ok-param.param c.in_ok-param.behind c.loop-params.invariant c.in_ok-param.ensures c.in_ok-push.ensures.ok
    c.in-None.ensures

pub returns-in_err-param : goal.returns-in_err-param
returns-in_err-param c =
    let source = c.args.self.now.source in
    let view = param_in source.bytes.now in
    let part = reads (forms.param_form (nesting_in c.args.around.now)) in
    let stop = c.in_err-param.field-0.0 in
    follows_err source (λ items. map view items) (reads (Listed (forms.param_form (nesting_in c.args.around.now))))
    c.args.here.now c.from_residual.result stop c.from_residual.ensures.1
    (listed_stops source view with_first [] part (λ items. map view items) c.args.here.now c.loop-params.params
    c.loop-params.next stop c.loop-params.invariant c.in_err-param.ensures)
