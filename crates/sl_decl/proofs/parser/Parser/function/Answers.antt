use Rattle.std.proofs.Common.{true, refl}
use Rattle.std.specs.Option.{option_map}
use Rattle.def_decl_reading.specs.MemberReading as forms
use Rattle.def_decl_reading.specs.DeclReading as decls
use Rattle.sl_tree.specs.DeclView.{access_in, function_in}
use Rattle.sl_cursor.specs.Nestings.{nesting_in}
use Rattle.sl_decl.proofs.Forming.{given, formed, stops, yes, behind, made_of, inside_read, inside_stops, part_stops, block_stops, must, first_stops, made_stops}
use Rattle.sl_decl.proofs.parser.Parser.function.Goals as goal

pub returns : goal.returns
returns c =
    let source = c.args.self.now.source in
    let bytes = source.bytes.now in
    λ tree o. formed (decls.function_form (nesting_in c.args.around.now) tree
    (option_map (access_in bytes) c.args.access))
    (behind (given o) c.in_ok-type_.ensures (λ t1 k1. (yes k1 c.in_ok-name.ensures (λ k2.
    (behind k2 c.in_ok-params.ensures (λ t3 k3. (yes k3 c.in_ok-inside.ensures (λ k4.
    (behind k4 (inside_read forms.args_form c.in_bracket.ensures c.in_ok-args.ensures) (λ t5 k5.
    (behind k5 c.in_ok-wheres.ensures (λ t6 k6. (made_of k6 c.in_ok-body.ensures (λ p.
    rw (p.0, p.1.0, p.1.1.0, p.1.1.1.0, p.1.1.1.1) refl))))))))))))))

pub returns-in_err-type_ : goal.returns-in_err-type_
returns-in_err-type_ c =
    let source = c.args.self.now.source in
    let bytes = source.bytes.now in
    λ tree o. stops true source (function_in bytes) (decls.function_form (nesting_in c.args.around.now) tree
    (option_map (access_in bytes) c.args.access)) c.args.here.now c.from_residual.result c.in_err-type_.field-0.0
    c.from_residual.ensures.1
    (first_stops (part_stops c.in_err-type_.ensures))

pub returns-in_err-name : goal.returns-in_err-name
returns-in_err-name c =
    let source = c.args.self.now.source in
    let bytes = source.bytes.now in
    λ tree o. stops true source (function_in bytes) (decls.function_form (nesting_in c.args.around.now) tree
    (option_map (access_in bytes) c.args.access)) c.args.here.now c.from_residual-in_err-name.result
    c.in_err-name.field-0.0 c.from_residual-in_err-name.ensures.1
    (behind (given o) c.in_ok-type_.ensures (λ t1 k1. (must c.in_err-name.ensures)))

pub returns-in_err-params : goal.returns-in_err-params
returns-in_err-params c =
    let source = c.args.self.now.source in
    let bytes = source.bytes.now in
    λ tree o. stops true source (function_in bytes) (decls.function_form (nesting_in c.args.around.now) tree
    (option_map (access_in bytes) c.args.access)) c.args.here.now c.from_residual-in_err-params.result
    c.in_err-params.field-0.0 c.from_residual-in_err-params.ensures.1
    (behind (given o) c.in_ok-type_.ensures (λ t1 k1. (yes k1 c.in_ok-name.ensures (λ k2.
    (first_stops (part_stops c.in_err-params.ensures))))))

pub returns-in_err-inside : goal.returns-in_err-inside
returns-in_err-inside c =
    let source = c.args.self.now.source in
    let bytes = source.bytes.now in
    λ tree o. stops true source (function_in bytes) (decls.function_form (nesting_in c.args.around.now) tree
    (option_map (access_in bytes) c.args.access)) c.args.here.now c.from_residual-in_err-inside.result
    c.in_err-inside.field-0.0 c.from_residual-in_err-inside.ensures.1
    (behind (given o) c.in_ok-type_.ensures (λ t1 k1. (yes k1 c.in_ok-name.ensures (λ k2.
    (behind k2 c.in_ok-params.ensures (λ t3 k3. (must c.in_err-inside.ensures)))))))

pub returns-in_err-args : goal.returns-in_err-args
returns-in_err-args c =
    let source = c.args.self.now.source in
    let bytes = source.bytes.now in
    λ tree o. stops true source (function_in bytes) (decls.function_form (nesting_in c.args.around.now) tree
    (option_map (access_in bytes) c.args.access)) c.args.here.now c.from_residual-in_err-args.result
    c.in_err-args.field-0.0 c.from_residual-in_err-args.ensures.1
    (behind (given o) c.in_ok-type_.ensures (λ t1 k1. (yes k1 c.in_ok-name.ensures (λ k2.
    (behind k2 c.in_ok-params.ensures (λ t3 k3. (yes k3 c.in_ok-inside.ensures (λ k4.
    (first_stops (inside_stops forms.args_form c.in_bracket.ensures c.in_err-args.ensures))))))))))

pub returns-in_err-wheres : goal.returns-in_err-wheres
returns-in_err-wheres c =
    let source = c.args.self.now.source in
    let bytes = source.bytes.now in
    λ tree o. stops true source (function_in bytes) (decls.function_form (nesting_in c.args.around.now) tree
    (option_map (access_in bytes) c.args.access)) c.args.here.now c.from_residual-in_err-wheres.result
    c.in_err-wheres.field-0.0 c.from_residual-in_err-wheres.ensures.1
    (behind (given o) c.in_ok-type_.ensures (λ t1 k1. (yes k1 c.in_ok-name.ensures (λ k2.
    (behind k2 c.in_ok-params.ensures (λ t3 k3. (yes k3 c.in_ok-inside.ensures (λ k4.
    (behind k4 (inside_read forms.args_form c.in_bracket.ensures c.in_ok-args.ensures) (λ t5 k5.
    (first_stops (part_stops c.in_err-wheres.ensures))))))))))))

pub returns-in_err-body : goal.returns-in_err-body
returns-in_err-body c =
    let source = c.args.self.now.source in
    let bytes = source.bytes.now in
    λ tree o. stops true source (function_in bytes) (decls.function_form (nesting_in c.args.around.now) tree
    (option_map (access_in bytes) c.args.access)) c.args.here.now c.from_residual-in_err-body.result
    c.in_err-body.field-0.0 c.from_residual-in_err-body.ensures.1
    (behind (given o) c.in_ok-type_.ensures (λ t1 k1. (yes k1 c.in_ok-name.ensures (λ k2.
    (behind k2 c.in_ok-params.ensures (λ t3 k3. (yes k3 c.in_ok-inside.ensures (λ k4.
    (behind k4 (inside_read forms.args_form c.in_bracket.ensures c.in_ok-args.ensures) (λ t5 k5.
    (behind k5 c.in_ok-wheres.ensures (λ t6 k6. (made_stops (block_stops c.in_err-body.ensures))))))))))))))
