use Rattle.std.proofs.Common.{true, refl}
use Rattle.std.specs.Option.{option_map}
use Rattle.def_decl_reading.specs.DeclReading as decls
use Rattle.sl_token.specs.View.{token_in}
use Rattle.sl_tree.specs.DeclView.{access_in, extension_in}
use Rattle.sl_cursor.specs.Nestings.{nesting_in}
use Rattle.sl_decl.proofs.Forming.{begun, formed, stops, behind, made_of, part_stops, block_stops, first_stops, made_stops}
use Rattle.sl_decl.proofs.parser.Parser.extension.Goals as goal

pub returns : goal.returns
returns c =
    let source = c.args.self.now.source in
    let bytes = source.bytes.now in
    formed (decls.extension_form (nesting_in c.args.around.now) (option_map (access_in bytes) c.args.access)
    (token_in bytes c.args.word))
    (behind begun c.in_ok-type_.ensures (λ t1 k1. (behind k1 c.in_ok-bases.ensures (λ t2 k2.
    (made_of k2 c.in_ok-members.ensures (λ p. rw (p.0, p.1.0) refl))))))

pub returns-in_err-type_ : goal.returns-in_err-type_
returns-in_err-type_ c =
    let source = c.args.self.now.source in
    let bytes = source.bytes.now in
    stops true source (extension_in bytes) (decls.extension_form (nesting_in c.args.around.now)
    (option_map (access_in bytes) c.args.access) (token_in bytes c.args.word)) c.args.here.now c.from_residual.result
    c.in_err-type_.field-0.0 c.from_residual.ensures.1
    (first_stops (part_stops c.in_err-type_.ensures))

pub returns-in_err-bases : goal.returns-in_err-bases
returns-in_err-bases c =
    let source = c.args.self.now.source in
    let bytes = source.bytes.now in
    stops true source (extension_in bytes) (decls.extension_form (nesting_in c.args.around.now)
    (option_map (access_in bytes) c.args.access) (token_in bytes c.args.word)) c.args.here.now
    c.from_residual-in_err-bases.result c.in_err-bases.field-0.0 c.from_residual-in_err-bases.ensures.1
    (behind begun c.in_ok-type_.ensures (λ t1 k1. (first_stops (part_stops c.in_err-bases.ensures))))

pub returns-in_err-members : goal.returns-in_err-members
returns-in_err-members c =
    let source = c.args.self.now.source in
    let bytes = source.bytes.now in
    stops true source (extension_in bytes) (decls.extension_form (nesting_in c.args.around.now)
    (option_map (access_in bytes) c.args.access) (token_in bytes c.args.word)) c.args.here.now
    c.from_residual-in_err-members.result c.in_err-members.field-0.0 c.from_residual-in_err-members.ensures.1
    (behind begun c.in_ok-type_.ensures (λ t1 k1. (behind k1 c.in_ok-bases.ensures (λ t2 k2.
    (made_stops (block_stops c.in_err-members.ensures))))))
