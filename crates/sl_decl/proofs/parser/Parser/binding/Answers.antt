use Rattle.def_decl_reading.specs.DeclReading as decls
use Rattle.sl_token.specs.View.{token_in}
use Rattle.sl_tree.specs.DeclView.{binding_in}
use Rattle.sl_cursor.specs.Nestings.{nesting_in}
use Rattle.sl_decl.proofs.Taking.{takes, takes_must, takes_stop, takes_yes}
use Rattle.sl_decl.proofs.parser.Parser.binding.Goals as goal

pub returns-in_err-inside : goal.returns-in_err-inside
returns-in_err-inside c =
    let source = c.args.self.now.source in
    takes_stop source binding_in
    (decls.binding_form (nesting_in c.args.around.now) (token_in source.bytes.now c.args.first)) c.args.here.now
    c.from_residual-in_err-inside.result c.in_err-inside.field-0.0 c.from_residual-in_err-inside.ensures.1
    (takes_yes c.in_ok-vendor.ensures (takes_yes c.in_ok-colons.ensures (takes_yes c.in_ok-word.ensures
    (takes_must c.in_err-inside.ensures))))

pub returns : goal.returns
returns c =
    let source = c.args.self.now.source in
    takes source binding_in
    (decls.binding_form (nesting_in c.args.around.now) (token_in source.bytes.now c.args.first)) c.args.here.now
    c.numbers.result
    (takes_yes c.in_ok-vendor.ensures (takes_yes c.in_ok-colons.ensures (takes_yes c.in_ok-word.ensures
    (takes_yes c.in_ok-inside.ensures (record { outcome = c.numbers.ensures })))))
