use Rattle.std.proofs.Common.{true}
use Rattle.std.specs.Prelude.{Some, None}
use Rattle.std.specs.Option.{option_map}
use Rattle.def_decl_reading.specs.MemberReading as forms
use Rattle.sl_token.specs.View.{token_in}
use Rattle.sl_tree.specs.DeclView.{access_in, method_in}
use Rattle.sl_cursor.specs.Nestings.{nesting_in}
use Rattle.sl_decl.proofs.Forming.{begun, settles, stops, behind, part_stops, first_stops}
use Rattle.sl_decl.proofs.parser.Parser.static_method.Goals as goal

pub returns : goal.returns
returns c =
    let source = c.args.self.now.source in
    let bytes = source.bytes.now in
    settles source (method_in bytes) (forms.method_form (nesting_in c.args.around.now) None
    (option_map (access_in bytes) c.args.access) None (forms.typed_form (nesting_in c.args.around.now)
    (Some (token_in bytes c.args.word)))) c.args.here.now c.bodied.result
    (behind begun c.in_ok-tail.ensures (λ t1 k1. (record { outcome = c.bodied.ensures t1 (λ h. (k1.holds h).0) })))

pub returns-in_err-tail : goal.returns-in_err-tail
returns-in_err-tail c =
    let source = c.args.self.now.source in
    let bytes = source.bytes.now in
    stops true source (method_in bytes) (forms.method_form (nesting_in c.args.around.now) None
    (option_map (access_in bytes) c.args.access) None (forms.typed_form (nesting_in c.args.around.now)
    (Some (token_in bytes c.args.word)))) c.args.here.now c.from_residual.result c.in_err-tail.field-0.0
    c.from_residual.ensures.1
    (first_stops (part_stops c.in_err-tail.ensures))
