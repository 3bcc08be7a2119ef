use Rattle.std.proofs.Common.{true, map, refl}
use Rattle.std.specs.Option.{option_map}
use Rattle.def_tree.specs.Symbol.{is_sign}
use Rattle.def_decl_reading.specs.Form.{Until}
use Rattle.def_decl_reading.specs.MemberReading as forms
use Rattle.sl_token.specs.View.{token_in}
use Rattle.sl_tree.specs.DeclView.{member_in}
use Rattle.sl_cursor.specs.Nestings.{nesting_in}
use Rattle.sl_decl.proofs.Forming.{begun, formed, stops, yes, behind, made_of, behind_closed, inside_read, inside_blocks, read_of, must, first_stops}
use Rattle.sl_decl.proofs.parser.Parser.struct_body.Goals as goal

pub returns : goal.returns
returns c =
    let source = c.args.self.now.source in
    let bytes = source.bytes.now in
    formed (forms.body_form (nesting_in c.args.around.now) forms.member_form)
    (yes begun c.in_ok-behind.ensures (λ k1. (behind_closed k1 (inside_read (λ inside.
    Until (is_sign "}") (forms.member_form inside)) c.in_block-inside.ensures.nesting c.in_ok-members.ensures)
    c.in_ok-next.ensures (λ t2 k2. (made_of k2 (read_of c.maybe-semicolon.ensures) (λ p. rw p.0 refl))))))

pub returns-in_err-behind : goal.returns-in_err-behind
returns-in_err-behind c =
    let source = c.args.self.now.source in
    let bytes = source.bytes.now in
    stops true source (λ body. (map (member_in bytes) body.0, option_map (token_in bytes) body.1))
    (forms.body_form (nesting_in c.args.around.now) forms.member_form) c.args.here.now c.from_residual.result
    c.in_err-behind.field-0.0 c.from_residual.ensures.1
    (must c.in_err-behind.ensures)

pub returns-in_err-members : goal.returns-in_err-members
returns-in_err-members c =
    let source = c.args.self.now.source in
    let bytes = source.bytes.now in
    stops true source (λ body. (map (member_in bytes) body.0, option_map (token_in bytes) body.1))
    (forms.body_form (nesting_in c.args.around.now) forms.member_form) c.args.here.now
    c.from_residual-in_err-members.result c.in_err-members.field-0.0 c.from_residual-in_err-members.ensures.1
    (yes begun c.in_ok-behind.ensures (λ k1. (first_stops (first_stops (inside_blocks (λ inside.
    Until (is_sign "}") (forms.member_form inside)) c.in_block-inside.ensures.nesting c.in_err-members.ensures)))))

pub returns-in_err-next : goal.returns-in_err-next
returns-in_err-next c =
    let source = c.args.self.now.source in
    let bytes = source.bytes.now in
    stops true source (λ body. (map (member_in bytes) body.0, option_map (token_in bytes) body.1))
    (forms.body_form (nesting_in c.args.around.now) forms.member_form) c.args.here.now c.from_residual-in_err-next.result
    c.in_err-next.field-0.0 c.from_residual-in_err-next.ensures.1
    (yes begun c.in_ok-behind.ensures (λ k1. (first_stops (behind begun (inside_read (λ inside.
    Until (is_sign "}") (forms.member_form inside)) c.in_block-inside.ensures.nesting c.in_ok-members.ensures) (λ t k.
    must c.in_err-next.ensures)))))
