use Rattle.std.proofs.Common.{false}
use Rattle.def_decl_reading.specs.DeclReading as decls
use Rattle.sl_token.specs.View.{token_in}
use Rattle.sl_tree.specs.DeclView.{attr_in}
use Rattle.sl_cursor.specs.Nestings.{nesting_in}
use Rattle.sl_decl.proofs.Forming.{begun, follows, stops, yes, no, must}
use Rattle.sl_decl.proofs.parser.Parser.attr.Goals as goal

pub returns-in-Some : goal.returns-in-Some
returns-in-Some c =
    let source = c.args.self.now.source in
    let bytes = source.bytes.now in
    follows source (attr_in bytes) (decls.attr_form (nesting_in c.args.around.now) (token_in bytes c.args.opening))
    c.args.here.now c.shader.result
    (yes begun c.in-Some.ensures (λ k1. (record { outcome = c.shader.ensures })))

pub returns : goal.returns
returns c =
    let source = c.args.self.now.source in
    let bytes = source.bytes.now in
    follows source (attr_in bytes) (decls.attr_form (nesting_in c.args.around.now) (token_in bytes c.args.opening))
    c.args.here.now c.threads.result
    (no c.in_default.ensures (yes begun c.in_ok-word.ensures (λ k1. (record { outcome = c.threads.ensures }))))

pub returns-in_err-word : goal.returns-in_err-word
returns-in_err-word c =
    let source = c.args.self.now.source in
    let bytes = source.bytes.now in
    stops false source (attr_in bytes) (decls.attr_form (nesting_in c.args.around.now) (token_in bytes c.args.opening))
    c.args.here.now c.from_residual.result c.in_err-word.field-0.0 c.from_residual.ensures.1
    (no c.in_default.ensures (must c.in_err-word.ensures))
