use Rattle.std.proofs.Common.{false, refl}
use Rattle.std.specs.Option.{option_map}
use Rattle.def_decl_reading.specs.DeclReading as decls
use Rattle.sl_token.specs.View.{token_in}
use Rattle.sl_tree.specs.DeclView.{import_in}
use Rattle.sl_decl.proofs.Forming.{begun, formed, stops, yes, made, must}
use Rattle.sl_decl.proofs.parser.Parser.import.Goals as goal

pub returns : goal.returns
returns c =
    let source = c.args.self.now.source in
    let bytes = source.bytes.now in
    formed (decls.import_form (option_map (token_in bytes) c.args.exported) (token_in bytes c.args.word))
    (yes begun c.in_ok-name.ensures (λ k1. (yes k1 c.in_ok-end.ensures (λ k2. (made k2 c.in_ok-end.ensures.behind (λ p.
    refl))))))

pub returns-in_err-name : goal.returns-in_err-name
returns-in_err-name c =
    let source = c.args.self.now.source in
    let bytes = source.bytes.now in
    stops false source (import_in bytes) (decls.import_form (option_map (token_in bytes) c.args.exported)
    (token_in bytes c.args.word)) c.args.here.now c.from_residual.result c.in_err-name.field-0.0 c.from_residual.ensures.1
    (must c.in_err-name.ensures)

pub returns-in_err-end : goal.returns-in_err-end
returns-in_err-end c =
    let source = c.args.self.now.source in
    let bytes = source.bytes.now in
    stops false source (import_in bytes) (decls.import_form (option_map (token_in bytes) c.args.exported)
    (token_in bytes c.args.word)) c.args.here.now c.from_residual-in_err-end.result c.in_err-end.field-0.0
    c.from_residual-in_err-end.ensures.1
    (yes begun c.in_ok-name.ensures (λ k1. (must c.in_err-end.ensures)))
