use Rattle.std.proofs.Common.{true, refl}
use Rattle.std.specs.Option.{option_map}
use Rattle.def_decl_reading.specs.DeclReading as decls
use Rattle.sl_token.specs.View.{token_in}
use Rattle.sl_tree.specs.DeclView.{access_in, struct_in}
use Rattle.sl_cursor.specs.Nestings.{nesting_in}
use Rattle.sl_decl.proofs.Forming.{begun, formed, stops, yes, behind, made_of, part_stops, block_stops, must, first_stops, made_stops}
use Rattle.sl_decl.proofs.parser.Parser.structure.Goals as goal

pub returns : goal.returns
returns c =
    let source = c.args.self.now.source in
    let bytes = source.bytes.now in
    formed (decls.struct_form (nesting_in c.args.around.now) (option_map (access_in bytes) c.args.access)
    (token_in bytes c.args.word))
    (yes begun c.in_ok-name.ensures (λ k1. (behind k1 c.in_ok-params.ensures (λ t2 k2.
    (behind k2 c.in_ok-bases.ensures (λ t3 k3. (behind k3 c.in_ok-wheres.ensures (λ t4 k4.
    (made_of k4 c.in_ok-members.ensures (λ p. rw (p.0, p.1.0, p.1.1.0) refl))))))))))

pub returns-in_err-name : goal.returns-in_err-name
returns-in_err-name c =
    let source = c.args.self.now.source in
    let bytes = source.bytes.now in
    stops true source (struct_in bytes) (decls.struct_form (nesting_in c.args.around.now)
    (option_map (access_in bytes) c.args.access) (token_in bytes c.args.word)) c.args.here.now c.from_residual.result
    c.in_err-name.field-0.0 c.from_residual.ensures.1
    (must c.in_err-name.ensures)

pub returns-in_err-params : goal.returns-in_err-params
returns-in_err-params c =
    let source = c.args.self.now.source in
    let bytes = source.bytes.now in
    stops true source (struct_in bytes) (decls.struct_form (nesting_in c.args.around.now)
    (option_map (access_in bytes) c.args.access) (token_in bytes c.args.word)) c.args.here.now
    c.from_residual-in_err-params.result c.in_err-params.field-0.0 c.from_residual-in_err-params.ensures.1
    (yes begun c.in_ok-name.ensures (λ k1. (first_stops (part_stops c.in_err-params.ensures))))

pub returns-in_err-bases : goal.returns-in_err-bases
returns-in_err-bases c =
    let source = c.args.self.now.source in
    let bytes = source.bytes.now in
    stops true source (struct_in bytes) (decls.struct_form (nesting_in c.args.around.now)
    (option_map (access_in bytes) c.args.access) (token_in bytes c.args.word)) c.args.here.now
    c.from_residual-in_err-bases.result c.in_err-bases.field-0.0 c.from_residual-in_err-bases.ensures.1
    (yes begun c.in_ok-name.ensures (λ k1. (behind k1 c.in_ok-params.ensures (λ t2 k2.
    (first_stops (part_stops c.in_err-bases.ensures))))))

pub returns-in_err-wheres : goal.returns-in_err-wheres
returns-in_err-wheres c =
    let source = c.args.self.now.source in
    let bytes = source.bytes.now in
    stops true source (struct_in bytes) (decls.struct_form (nesting_in c.args.around.now)
    (option_map (access_in bytes) c.args.access) (token_in bytes c.args.word)) c.args.here.now
    c.from_residual-in_err-wheres.result c.in_err-wheres.field-0.0 c.from_residual-in_err-wheres.ensures.1
    (yes begun c.in_ok-name.ensures (λ k1. (behind k1 c.in_ok-params.ensures (λ t2 k2.
    (behind k2 c.in_ok-bases.ensures (λ t3 k3. (first_stops (part_stops c.in_err-wheres.ensures))))))))

pub returns-in_err-members : goal.returns-in_err-members
returns-in_err-members c =
    let source = c.args.self.now.source in
    let bytes = source.bytes.now in
    stops true source (struct_in bytes) (decls.struct_form (nesting_in c.args.around.now)
    (option_map (access_in bytes) c.args.access) (token_in bytes c.args.word)) c.args.here.now
    c.from_residual-in_err-members.result c.in_err-members.field-0.0 c.from_residual-in_err-members.ensures.1
    (yes begun c.in_ok-name.ensures (λ k1. (behind k1 c.in_ok-params.ensures (λ t2 k2.
    (behind k2 c.in_ok-bases.ensures (λ t3 k3. (behind k3 c.in_ok-wheres.ensures (λ t4 k4.
    (made_stops (block_stops c.in_err-members.ensures))))))))))
