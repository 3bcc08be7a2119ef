use Rattle.std.proofs.Common.{true, refl}
use Rattle.std.specs.Option.{option_map}
use Rattle.sl_token.specs.View.{token_in}
use Rattle.sl_tree.specs.DeclView.{access_in, method_in}
use Rattle.sl_cursor.specs.Nestings.{nesting_in}
use Rattle.sl_decl.specs.Methods.{bodied_form}
use Rattle.sl_decl.proofs.Forming.{given, formed, stops, made_of, block_stops, made_stops}
use Rattle.sl_decl.proofs.parser.Parser.bodied.Goals as goal

pub returns : goal.returns
returns c =
    let source = c.args.self.now.source in
    let bytes = source.bytes.now in
    λ tree o. formed (bodied_form (nesting_in c.args.around.now) (option_map (token_in bytes) c.args.words.mutating)
    (option_map (access_in bytes) c.args.words.access) (option_map (token_in bytes) c.args.words.override_) tree)
    (made_of (given o) c.in_ok-body.ensures (λ p. rw p refl))

pub returns-in_err-body : goal.returns-in_err-body
returns-in_err-body c =
    let source = c.args.self.now.source in
    let bytes = source.bytes.now in
    λ tree o. stops true source (method_in bytes) (bodied_form (nesting_in c.args.around.now)
    (option_map (token_in bytes) c.args.words.mutating) (option_map (access_in bytes) c.args.words.access)
    (option_map (token_in bytes) c.args.words.override_) tree) c.args.here.now c.from_residual.result
    c.in_err-body.field-0.0 c.from_residual.ensures.1
    (made_stops (block_stops c.in_err-body.ensures))
