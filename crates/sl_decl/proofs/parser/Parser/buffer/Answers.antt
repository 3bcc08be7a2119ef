use Rattle.std.proofs.Common.{false, refl}
use Rattle.std.specs.Option.{option_map}
use Rattle.def_decl_reading.specs.DeclReading as decls
use Rattle.sl_token.specs.View.{token_in}
use Rattle.sl_tree.specs.DeclView.{access_in, binding_in, buffer_in, buffer_kind_of}
use Rattle.sl_cursor.specs.Nestings.{nesting_in}
use Rattle.sl_decl.proofs.Forming.{begun, formed, stops, yes, behind, made, part_stops, must, first_stops}
use Rattle.sl_decl.proofs.parser.Parser.buffer.Goals as goal

pub returns : goal.returns
returns c =
    let source = c.args.self.now.source in
    let bytes = source.bytes.now in
    formed (decls.kind_form (nesting_in c.args.around.now) (option_map (binding_in bytes) c.args.binding)
    (option_map (access_in bytes) c.args.access) (buffer_kind_of c.args.kind) (token_in bytes c.args.word))
    (yes begun c.in_ok-begun.ensures (λ k1. (behind k1 c.in_ok-element.ensures (λ t2 k2.
    (yes k2 c.in_ok-next.ensures (λ k3. (yes k3 c.in_ok-name.ensures (λ k4. (yes k4 c.in_ok-end.ensures (λ k5.
    (made k5 c.in_ok-end.ensures.behind (λ p. rw p.0 refl))))))))))))

pub returns-in_err-begun : goal.returns-in_err-begun
returns-in_err-begun c =
    let source = c.args.self.now.source in
    let bytes = source.bytes.now in
    stops false source (buffer_in bytes) (decls.kind_form (nesting_in c.args.around.now)
    (option_map (binding_in bytes) c.args.binding) (option_map (access_in bytes) c.args.access)
    (buffer_kind_of c.args.kind) (token_in bytes c.args.word)) c.args.here.now c.from_residual.result
    c.in_err-begun.field-0.0 c.from_residual.ensures.1
    (must c.in_err-begun.ensures)

pub returns-in_err-element : goal.returns-in_err-element
returns-in_err-element c =
    let source = c.args.self.now.source in
    let bytes = source.bytes.now in
    stops false source (buffer_in bytes) (decls.kind_form (nesting_in c.args.around.now)
    (option_map (binding_in bytes) c.args.binding) (option_map (access_in bytes) c.args.access)
    (buffer_kind_of c.args.kind) (token_in bytes c.args.word)) c.args.here.now c.from_residual-in_err-element.result
    c.in_err-element.field-0.0 c.from_residual-in_err-element.ensures.1
    (yes begun c.in_ok-begun.ensures (λ k1. (first_stops (part_stops c.in_err-element.ensures))))

pub returns-in_err-next : goal.returns-in_err-next
returns-in_err-next c =
    let source = c.args.self.now.source in
    let bytes = source.bytes.now in
    stops false source (buffer_in bytes) (decls.kind_form (nesting_in c.args.around.now)
    (option_map (binding_in bytes) c.args.binding) (option_map (access_in bytes) c.args.access)
    (buffer_kind_of c.args.kind) (token_in bytes c.args.word)) c.args.here.now c.from_residual-in_err-next.result
    c.in_err-next.field-0.0 c.from_residual-in_err-next.ensures.1
    (yes begun c.in_ok-begun.ensures (λ k1. (behind k1 c.in_ok-element.ensures (λ t2 k2. (must c.in_err-next.ensures)))))

pub returns-in_err-name : goal.returns-in_err-name
returns-in_err-name c =
    let source = c.args.self.now.source in
    let bytes = source.bytes.now in
    stops false source (buffer_in bytes) (decls.kind_form (nesting_in c.args.around.now)
    (option_map (binding_in bytes) c.args.binding) (option_map (access_in bytes) c.args.access)
    (buffer_kind_of c.args.kind) (token_in bytes c.args.word)) c.args.here.now c.from_residual-in_err-name.result
    c.in_err-name.field-0.0 c.from_residual-in_err-name.ensures.1
    (yes begun c.in_ok-begun.ensures (λ k1. (behind k1 c.in_ok-element.ensures (λ t2 k2.
    (yes k2 c.in_ok-next.ensures (λ k3. (must c.in_err-name.ensures)))))))

pub returns-in_err-end : goal.returns-in_err-end
returns-in_err-end c =
    let source = c.args.self.now.source in
    let bytes = source.bytes.now in
    stops false source (buffer_in bytes) (decls.kind_form (nesting_in c.args.around.now)
    (option_map (binding_in bytes) c.args.binding) (option_map (access_in bytes) c.args.access)
    (buffer_kind_of c.args.kind) (token_in bytes c.args.word)) c.args.here.now c.from_residual-in_err-end.result
    c.in_err-end.field-0.0 c.from_residual-in_err-end.ensures.1
    (yes begun c.in_ok-begun.ensures (λ k1. (behind k1 c.in_ok-element.ensures (λ t2 k2.
    (yes k2 c.in_ok-next.ensures (λ k3. (yes k3 c.in_ok-name.ensures (λ k4. (must c.in_err-end.ensures)))))))))
