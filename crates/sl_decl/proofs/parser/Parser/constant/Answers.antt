use Rattle.std.proofs.Common.{false, refl}
use Rattle.std.specs.Option.{option_map}
use Rattle.def_decl_reading.specs.DeclReading as decls
use Rattle.sl_token.specs.View.{token_in}
use Rattle.sl_tree.specs.DeclView.{access_in, const_in}
use Rattle.sl_cursor.specs.Nestings.{nesting_in}
use Rattle.sl_decl.proofs.Forming.{begun, formed, stops, yes, behind, made_closed, part_stops, must, first_stops, made_stops}
use Rattle.sl_decl.proofs.parser.Parser.constant.Goals as goal

pub returns : goal.returns
returns c =
    let source = c.args.self.now.source in
    let bytes = source.bytes.now in
    formed (decls.const_form (nesting_in c.args.around.now) (option_map (access_in bytes) c.args.access)
    (token_in bytes c.args.word))
    (yes begun c.in_ok-begun.ensures (λ k1. (behind k1 c.in_ok-type_.ensures (λ t2 k2. (yes k2 c.in_ok-name.ensures (λ k3.
    (yes k3 c.in_ok-after.ensures (λ k4. (made_closed k4 c.in_ok-value.ensures c.in_ok-last.ensures
    (λ p. rw p.0 refl))))))))))

pub returns-in_err-begun : goal.returns-in_err-begun
returns-in_err-begun c =
    let source = c.args.self.now.source in
    let bytes = source.bytes.now in
    stops false source (const_in bytes) (decls.const_form (nesting_in c.args.around.now)
    (option_map (access_in bytes) c.args.access) (token_in bytes c.args.word)) c.args.here.now c.from_residual.result
    c.in_err-begun.field-0.0 c.from_residual.ensures.1
    (must c.in_err-begun.ensures)

pub returns-in_err-type_ : goal.returns-in_err-type_
returns-in_err-type_ c =
    let source = c.args.self.now.source in
    let bytes = source.bytes.now in
    stops false source (const_in bytes) (decls.const_form (nesting_in c.args.around.now)
    (option_map (access_in bytes) c.args.access) (token_in bytes c.args.word)) c.args.here.now
    c.from_residual-in_err-type_.result c.in_err-type_.field-0.0 c.from_residual-in_err-type_.ensures.1
    (yes begun c.in_ok-begun.ensures (λ k1. (first_stops (part_stops c.in_err-type_.ensures))))

pub returns-in_err-name : goal.returns-in_err-name
returns-in_err-name c =
    let source = c.args.self.now.source in
    let bytes = source.bytes.now in
    stops false source (const_in bytes) (decls.const_form (nesting_in c.args.around.now)
    (option_map (access_in bytes) c.args.access) (token_in bytes c.args.word)) c.args.here.now
    c.from_residual-in_err-name.result c.in_err-name.field-0.0 c.from_residual-in_err-name.ensures.1
    (yes begun c.in_ok-begun.ensures (λ k1. (behind k1 c.in_ok-type_.ensures (λ t2 k2. (must c.in_err-name.ensures)))))

pub returns-in_err-after : goal.returns-in_err-after
returns-in_err-after c =
    let source = c.args.self.now.source in
    let bytes = source.bytes.now in
    stops false source (const_in bytes) (decls.const_form (nesting_in c.args.around.now)
    (option_map (access_in bytes) c.args.access) (token_in bytes c.args.word)) c.args.here.now
    c.from_residual-in_err-after.result c.in_err-after.field-0.0 c.from_residual-in_err-after.ensures.1
    (yes begun c.in_ok-begun.ensures (λ k1. (behind k1 c.in_ok-type_.ensures (λ t2 k2. (yes k2 c.in_ok-name.ensures (λ k3.
    (must c.in_err-after.ensures)))))))

pub returns-in_err-value : goal.returns-in_err-value
returns-in_err-value c =
    let source = c.args.self.now.source in
    let bytes = source.bytes.now in
    stops false source (const_in bytes) (decls.const_form (nesting_in c.args.around.now)
    (option_map (access_in bytes) c.args.access) (token_in bytes c.args.word)) c.args.here.now
    c.from_residual-in_err-value.result c.in_err-value.field-0.0 c.from_residual-in_err-value.ensures.1
    (yes begun c.in_ok-begun.ensures (λ k1. (behind k1 c.in_ok-type_.ensures (λ t2 k2. (yes k2 c.in_ok-name.ensures (λ k3.
    (yes k3 c.in_ok-after.ensures (λ k4. (made_stops (first_stops (part_stops c.in_err-value.ensures)))))))))))

pub returns-in_err-last : goal.returns-in_err-last
returns-in_err-last c =
    let source = c.args.self.now.source in
    let bytes = source.bytes.now in
    stops false source (const_in bytes) (decls.const_form (nesting_in c.args.around.now)
    (option_map (access_in bytes) c.args.access) (token_in bytes c.args.word)) c.args.here.now
    c.from_residual-in_err-last.result c.in_err-last.field-0.0 c.from_residual-in_err-last.ensures.1
    (yes begun c.in_ok-begun.ensures (λ k1. (behind k1 c.in_ok-type_.ensures (λ t2 k2. (yes k2 c.in_ok-name.ensures (λ k3.
    (yes k3 c.in_ok-after.ensures (λ k4. (made_stops (behind begun c.in_ok-value.ensures (λ t k.
    must c.in_err-last.ensures)))))))))))
