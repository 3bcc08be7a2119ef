use Rattle.std.proofs.Common.{true, refl}
use Rattle.std.specs.Prelude.{Some}
use Rattle.std.specs.Option.{option_map}
use Rattle.def_decl_reading.specs.DeclReading as decls
use Rattle.sl_token.specs.View.{token_in}
use Rattle.sl_tree.specs.DeclView.{decl_in}
use Rattle.sl_cursor.specs.Nestings.{nesting_in}
use Rattle.sl_decl.proofs.Forming.{begun, formed, whole, settles, stops, yes, no, taken, made_of, part_stops, must, made_stops}
use Rattle.def_decl_reading.specs.Form.{sign}
use Rattle.sl_decl.proofs.parser.Parser.decl.Goals as goal

pub returns-in-Some : goal.returns-in-Some
returns-in-Some c =
    let source = c.args.self.now.source in
    let bytes = source.bytes.now in
    settles source (decl_in bytes) (decls.decl_form (nesting_in c.args.around.now)) c.args.here.now c.bracketed.result
    (yes begun c.in-Some.ensures (λ k. record { outcome = c.bracketed.ensures }))

pub returns-in-Some-sign : goal.returns-in-Some-sign
returns-in-Some-sign c =
    let source = c.args.self.now.source in
    let bytes = source.bytes.now in
    formed (decls.decl_form (nesting_in c.args.around.now))
    (no c.in_default.ensures (yes begun c.in-Some-sign.ensures
    (λ k. made_of {form = (sign "import" (decls.import_form
    (option_map (token_in bytes) (Some c.in-Some-sign.exported))))} k
    (formed (sign "import" (decls.import_form (option_map (token_in bytes) (Some c.in-Some-sign.exported))))
    (yes begun c.in_ok-word.ensures (λ k. whole c.in_ok-import.ensures))) (λ p. refl))))

pub returns-in_err-word : goal.returns-in_err-word
returns-in_err-word c =
    let source = c.args.self.now.source in
    let bytes = source.bytes.now in
    stops true source (decl_in bytes) (decls.decl_form (nesting_in c.args.around.now)) c.args.here.now
    c.from_residual.result c.in_err-word.field-0.0 c.from_residual.ensures.1
    (no c.in_default.ensures (yes begun c.in-Some-sign.ensures (λ k. made_stops (must c.in_err-word.ensures))))

pub returns-in_err-import : goal.returns-in_err-import
returns-in_err-import c =
    let source = c.args.self.now.source in
    let bytes = source.bytes.now in
    stops true source (decl_in bytes) (decls.decl_form (nesting_in c.args.around.now)) c.args.here.now
    c.from_residual-in_err-import.result c.in_err-import.field-0.0 c.from_residual-in_err-import.ensures.1
    (no c.in_default.ensures (yes begun c.in-Some-sign.ensures
    (λ k. made_stops (yes begun c.in_ok-word.ensures (λ k. part_stops c.in_err-import.ensures)))))

pub returns-in-Some-sign-2 : goal.returns-in-Some-sign-2
returns-in-Some-sign-2 c =
    let source = c.args.self.now.source in
    let bytes = source.bytes.now in
    formed (decls.decl_form (nesting_in c.args.around.now))
    (no c.in_default.ensures (no c.in_default-sign.ensures
    (yes begun c.in-Some-sign-2.ensures (λ k. made_of k c.in_ok-import-2.ensures (λ p. refl)))))

pub returns : goal.returns
returns c =
    let source = c.args.self.now.source in
    let bytes = source.bytes.now in
    settles source (decl_in bytes) (decls.decl_form (nesting_in c.args.around.now)) c.args.here.now c.accessed.result
    (no c.in_default.ensures (no c.in_default-sign.ensures
    (no c.in_default-sign-2.ensures (taken begun c.access-access.ensures
    (λ k. record { outcome = c.accessed.ensures })))))
