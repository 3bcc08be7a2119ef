use Rattle.std.proofs.Common.{map, sym, ◌∙◌}
use Rattle.def_decl_reading.specs.Form.{reads, Until}
use Rattle.def_decl_reading.specs.MemberReading as forms
use Rattle.sl_tree.specs.DeclView.{member_in}
use Rattle.sl_cursor.specs.Nestings.{nesting_in}
use Rattle.def_tree.specs.Symbol.{is_sign}
use Rattle.sl_stmt.proofs.Settling.{settles_err}
use Rattle.sl_cursor.proofs.Listed.{fewer_left}
use Rattle.sl_decl.proofs.Looping.{until_none, until_more, until_last, until_stops, further_on}
use Rattle.sl_decl.proofs.Eating.{eats_member}
use Rattle.sl_decl.proofs.parser.Parser.members.Goals as goal

pub loop-members-init : goal.loop-members-init
loop-members-init c =
    let source = c.args.self.now.source in
    let view = member_in source.bytes.now in
    let part = forms.member_form (nesting_in c.args.inside.now) in
    until_none source view (is_sign "}") part c.args.here.now c.new-members.result c.new-members.ensures c.requires.at

pub loop-members-preserved : goal.loop-members-preserved
loop-members-preserved c =
    let source = c.args.self.now.source in
    let view = member_in source.bytes.now in
    let part = forms.member_form (nesting_in c.args.inside.now) in
    until_more source view (is_sign "}") part (eats_member (nesting_in c.args.inside.now)) c.args.here.now
    c.loop-members.members c.push.new.self c.loop-members.next
    c.in_ok-member.member c.in_ok-member.behind c.loop-members.invariant (sym c.stands.ensures
    ∙ c.if-stands.false) c.in_ok-member.ensures c.in_ok-push.ensures.ok

pub loop-members-smaller : goal.loop-members-smaller
loop-members-smaller c =
    let source = c.args.self.now.source in
    let view = member_in source.bytes.now in
    let part = forms.member_form (nesting_in c.args.inside.now) in
    fewer_left source c.loop-members.next.place c.in_ok-member.behind.place c.loop-members.invariant.stands.stands
    c.in_ok-member.ensures.behind.stands
    (further_on source view part (eats_member (nesting_in c.args.inside.now)) c.loop-members.next c.in_ok-member.member
    c.in_ok-member.behind c.loop-members.invariant.stands c.in_ok-member.ensures)

pub returns-then-stands : goal.returns-then-stands
returns-then-stands c =
    let source = c.args.self.now.source in
    let view = member_in source.bytes.now in
    let part = forms.member_form (nesting_in c.args.inside.now) in
    until_last source view (is_sign "}") part c.args.here.now c.loop-members.members c.loop-members.next
    c.loop-members.invariant (sym c.stands.ensures ∙ c.if-stands.true)

pub returns-in_err-member : goal.returns-in_err-member
returns-in_err-member c =
    let source = c.args.self.now.source in
    let view = member_in source.bytes.now in
    let part = forms.member_form (nesting_in c.args.inside.now) in
    let stop = c.in_err-member.field-0.0 in
    settles_err source (λ items. map view items) (reads (Until (is_sign "}")
    (forms.member_form (nesting_in c.args.inside.now)))) c.args.here.now c.from_residual.result stop
    c.from_residual.ensures.1
    (until_stops source view (is_sign "}") part (λ items. map view items) c.args.here.now c.loop-members.members
    c.loop-members.next stop c.loop-members.invariant (sym c.stands.ensures ∙ c.if-stands.false) c.in_err-member.ensures)
