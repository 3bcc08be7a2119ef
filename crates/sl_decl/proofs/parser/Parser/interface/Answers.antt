use Rattle.std.proofs.Common.{true, refl}
use Rattle.std.specs.Option.{option_map}
use Rattle.def_decl_reading.specs.DeclReading as decls
use Rattle.sl_token.specs.View.{token_in}
use Rattle.sl_tree.specs.DeclView.{access_in, interface_in}
use Rattle.sl_cursor.specs.Nestings.{nesting_in}
use Rattle.sl_decl.proofs.Forming.{begun, formed, stops, yes, behind, made_of, part_stops, block_stops, must, first_stops, made_stops}
use Rattle.sl_decl.proofs.parser.Parser.interface.Goals as goal

pub returns : goal.returns
returns c =
    let source = c.args.self.now.source in
    let bytes = source.bytes.now in
    formed (decls.interface_form (nesting_in c.args.around.now) (option_map (access_in bytes) c.args.access)
    (token_in bytes c.args.word))
    (yes begun c.in_ok-name.ensures (λ k1. (behind k1 c.in_ok-bases.ensures (λ t2 k2.
    (made_of k2 c.in_ok-items.ensures (λ p. rw p.0 refl))))))

pub returns-in_err-name : goal.returns-in_err-name
returns-in_err-name c =
    let source = c.args.self.now.source in
    let bytes = source.bytes.now in
    stops true source (interface_in bytes) (decls.interface_form (nesting_in c.args.around.now)
    (option_map (access_in bytes) c.args.access) (token_in bytes c.args.word)) c.args.here.now c.from_residual.result
    c.in_err-name.field-0.0 c.from_residual.ensures.1
    (must c.in_err-name.ensures)

pub returns-in_err-bases : goal.returns-in_err-bases
returns-in_err-bases c =
    let source = c.args.self.now.source in
    let bytes = source.bytes.now in
    stops true source (interface_in bytes) (decls.interface_form (nesting_in c.args.around.now)
    (option_map (access_in bytes) c.args.access) (token_in bytes c.args.word)) c.args.here.now
    c.from_residual-in_err-bases.result c.in_err-bases.field-0.0 c.from_residual-in_err-bases.ensures.1
    (yes begun c.in_ok-name.ensures (λ k1. (first_stops (part_stops c.in_err-bases.ensures))))

pub returns-in_err-items : goal.returns-in_err-items
returns-in_err-items c =
    let source = c.args.self.now.source in
    let bytes = source.bytes.now in
    stops true source (interface_in bytes) (decls.interface_form (nesting_in c.args.around.now)
    (option_map (access_in bytes) c.args.access) (token_in bytes c.args.word)) c.args.here.now
    c.from_residual-in_err-items.result c.in_err-items.field-0.0 c.from_residual-in_err-items.ensures.1
    (yes begun c.in_ok-name.ensures (λ k1. (behind k1 c.in_ok-bases.ensures (λ t2 k2.
    (made_stops (block_stops c.in_err-items.ensures))))))
