use Rattle.std.proofs.Common.{true, refl}
use Rattle.std.specs.Option.{option_map}
use Rattle.def_decl_reading.specs.DeclReading as decls
use Rattle.sl_tree.specs.DeclView.{access_in, decl_in}
use Rattle.sl_cursor.specs.Nestings.{nesting_in}
use Rattle.sl_decl.proofs.Forming.{begun, formed, settles, stops, yes, no, made_of, part_stops, block_stops, made_stops}
use Rattle.sl_decl.proofs.parser.Parser.accessed.Goals as goal

pub returns-in-Some : goal.returns-in-Some
returns-in-Some c =
    let source = c.args.self.now.source in
    let bytes = source.bytes.now in
    formed (decls.accessed_form (nesting_in c.args.around.now) (option_map (access_in bytes) c.args.access))
    (yes begun c.in-Some.ensures (λ k1. (made_of k1 c.in_ok-alias.ensures (λ p. refl))))

pub returns-in_err-alias : goal.returns-in_err-alias
returns-in_err-alias c =
    let source = c.args.self.now.source in
    let bytes = source.bytes.now in
    stops true source (decl_in bytes) (decls.accessed_form (nesting_in c.args.around.now)
    (option_map (access_in bytes) c.args.access)) c.args.here.now c.from_residual.result c.in_err-alias.field-0.0
    c.from_residual.ensures.1
    (yes begun c.in-Some.ensures (λ k1. (made_stops (part_stops c.in_err-alias.ensures))))

pub returns-in-Some-sign : goal.returns-in-Some-sign
returns-in-Some-sign c =
    let source = c.args.self.now.source in
    let bytes = source.bytes.now in
    formed (decls.accessed_form (nesting_in c.args.around.now) (option_map (access_in bytes) c.args.access))
    (no c.in_default.ensures (yes begun c.in-Some-sign.ensures (λ k1. (made_of k1 c.in_ok-constant.ensures (λ p. refl)))))

pub returns-in_err-constant : goal.returns-in_err-constant
returns-in_err-constant c =
    let source = c.args.self.now.source in
    let bytes = source.bytes.now in
    stops true source (decl_in bytes) (decls.accessed_form (nesting_in c.args.around.now)
    (option_map (access_in bytes) c.args.access)) c.args.here.now c.from_residual-in_err-constant.result
    c.in_err-constant.field-0.0 c.from_residual-in_err-constant.ensures.1
    (no c.in_default.ensures (yes begun c.in-Some-sign.ensures
    (λ k1. (made_stops (part_stops c.in_err-constant.ensures)))))

pub returns-in-Some-sign-2 : goal.returns-in-Some-sign-2
returns-in-Some-sign-2 c =
    let source = c.args.self.now.source in
    let bytes = source.bytes.now in
    formed (decls.accessed_form (nesting_in c.args.around.now) (option_map (access_in bytes) c.args.access))
    (no c.in_default.ensures (no c.in_default-sign.ensures
    (yes begun c.in-Some-sign-2.ensures (λ k1. (made_of k1 c.in_ok-structure.ensures (λ p. refl))))))

pub returns-in_err-structure : goal.returns-in_err-structure
returns-in_err-structure c =
    let source = c.args.self.now.source in
    let bytes = source.bytes.now in
    stops true source (decl_in bytes) (decls.accessed_form (nesting_in c.args.around.now)
    (option_map (access_in bytes) c.args.access)) c.args.here.now c.from_residual-in_err-structure.result
    c.in_err-structure.field-0.0 c.from_residual-in_err-structure.ensures.1
    (no c.in_default.ensures (no c.in_default-sign.ensures
    (yes begun c.in-Some-sign-2.ensures (λ k1. (made_stops (block_stops c.in_err-structure.ensures))))))

pub returns-in-Some-sign-3 : goal.returns-in-Some-sign-3
returns-in-Some-sign-3 c =
    let source = c.args.self.now.source in
    let bytes = source.bytes.now in
    formed (decls.accessed_form (nesting_in c.args.around.now) (option_map (access_in bytes) c.args.access))
    (no c.in_default.ensures (no c.in_default-sign.ensures
    (no c.in_default-sign-2.ensures (yes begun c.in-Some-sign-3.ensures
    (λ k1. (made_of k1 c.in_ok-interface.ensures (λ p. refl)))))))

pub returns-in_err-interface : goal.returns-in_err-interface
returns-in_err-interface c =
    let source = c.args.self.now.source in
    let bytes = source.bytes.now in
    stops true source (decl_in bytes) (decls.accessed_form (nesting_in c.args.around.now)
    (option_map (access_in bytes) c.args.access)) c.args.here.now c.from_residual-in_err-interface.result
    c.in_err-interface.field-0.0 c.from_residual-in_err-interface.ensures.1
    (no c.in_default.ensures (no c.in_default-sign.ensures
    (no c.in_default-sign-2.ensures (yes begun c.in-Some-sign-3.ensures
    (λ k1. (made_stops (block_stops c.in_err-interface.ensures)))))))

pub returns-in-Some-sign-4 : goal.returns-in-Some-sign-4
returns-in-Some-sign-4 c =
    let source = c.args.self.now.source in
    let bytes = source.bytes.now in
    formed (decls.accessed_form (nesting_in c.args.around.now) (option_map (access_in bytes) c.args.access))
    (no c.in_default.ensures (no c.in_default-sign.ensures
    (no c.in_default-sign-2.ensures (no c.in_default-sign-3.ensures
    (yes begun c.in-Some-sign-4.ensures (λ k1. (made_of k1 c.in_ok-extension.ensures (λ p. refl))))))))

pub returns-in_err-extension : goal.returns-in_err-extension
returns-in_err-extension c =
    let source = c.args.self.now.source in
    let bytes = source.bytes.now in
    stops true source (decl_in bytes) (decls.accessed_form (nesting_in c.args.around.now)
    (option_map (access_in bytes) c.args.access)) c.args.here.now c.from_residual-in_err-extension.result
    c.in_err-extension.field-0.0 c.from_residual-in_err-extension.ensures.1
    (no c.in_default.ensures (no c.in_default-sign.ensures
    (no c.in_default-sign-2.ensures (no c.in_default-sign-3.ensures
    (yes begun c.in-Some-sign-4.ensures (λ k1. (made_stops (block_stops c.in_err-extension.ensures))))))))

pub returns : goal.returns
returns c =
    let source = c.args.self.now.source in
    let bytes = source.bytes.now in
    settles source (decl_in bytes) (decls.accessed_form (nesting_in c.args.around.now)
    (option_map (access_in bytes) c.args.access)) c.args.here.now c.buffer_or_function.result
    (no c.in_default.ensures (no c.in_default-sign.ensures
    (no c.in_default-sign-2.ensures (no c.in_default-sign-3.ensures
    (no c.in_default-sign-4.ensures (record { outcome = c.buffer_or_function.ensures }))))))
