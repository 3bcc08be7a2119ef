use Rattle.std.proofs.Common.{true, refl}
use Rattle.std.specs.Option.{option_map}
use Rattle.def_decl_reading.specs.MemberReading as forms
use Rattle.sl_tree.specs.DeclView.{block_in}
use Rattle.sl_cursor.specs.Nestings.{nesting_in}
use Rattle.sl_decl.proofs.Forming.{begun, formed, stops, yes, no, made_of, made, block_stops, made_stops}
use Rattle.sl_decl.proofs.parser.Parser.ending.Goals as goal

pub returns : goal.returns
returns c =
    let source = c.args.self.now.source in
    let bytes = source.bytes.now in
    formed (forms.ending_form (nesting_in c.args.around.now))
    (no c.in_default.ensures (made_of begun c.in_ok-body.ensures (λ p. refl)))

pub returns-in_err-body : goal.returns-in_err-body
returns-in_err-body c =
    let source = c.args.self.now.source in
    let bytes = source.bytes.now in
    stops true source (λ body. option_map (block_in bytes) body) (forms.ending_form (nesting_in c.args.around.now))
    c.args.here.now c.from_residual.result c.in_err-body.field-0.0 c.from_residual.ensures.1
    (no c.in_default.ensures (made_stops (block_stops c.in_err-body.ensures)))

pub returns-in-Some : goal.returns-in-Some
returns-in-Some c =
    let source = c.args.self.now.source in
    let bytes = source.bytes.now in
    formed (forms.ending_form (nesting_in c.args.around.now))
    (yes begun c.in-Some.ensures (λ k1. (made k1 c.in-Some.ensures.behind (λ p. refl))))
