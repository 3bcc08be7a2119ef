use Rattle.std.proofs.Common.{false, refl, ap, ◌∙◌}
use Rattle.std.specs.Prelude.{Some, Err}
use Rattle.std.specs.Option.{option_map}
use Rattle.def_tree.specs.Limits.{in_bracket}
use Rattle.def_decl_reading.specs.DeclReading as decls
use Rattle.sl_token.specs.View.{token_in}
use Rattle.sl_tree.specs.DeclView.{access_in, binding_in, decl_in}
use Rattle.sl_cursor.specs.Nestings.{nesting_in}
use Rattle.sl_decl.proofs.Forming.{begun, formed, follows, stops, no, taken, made_of, inside_stops, part_stops, first_stops, made_stops}
use Rattle.def_decl_reading.specs.Form.{Never}
use Rattle.sl_decl.proofs.Choosing.{kinded, nothing, inside_taken}
use Rattle.sl_decl.proofs.parser.Parser.bound_buffer.Goals as goal

pub returns : goal.returns
returns c =
    let source = c.args.self.now.source in
    let bytes = source.bytes.now in
    let e = c.in_bracket-inside.ensures ∙ ap in_bracket c.in_bracket.ensures in
    formed (decls.bound_form (nesting_in c.args.around.now) (token_in bytes c.args.first))
    (taken begun (inside_taken (λ n. decls.binding_form n (token_in bytes c.args.first)) e c.in_ok-binding.ensures)
    (λ k1. (taken k1 c.access-access.ensures (λ k2. kinded (nesting_in c.args.around.now)
    (option_map (binding_in bytes) (Some c.in_ok-binding.binding))
    (option_map (access_in bytes) c.access-access.result.0) Never c.in-Some.kind c.in-Some.word c.in-Some.after k2
    c.in-Some.ensures (λ k3. made_of k3 c.in_ok-buffer.ensures (λ p. refl))))))

pub returns-in_err-binding : goal.returns-in_err-binding
returns-in_err-binding c =
    let source = c.args.self.now.source in
    let bytes = source.bytes.now in
    let e = c.in_bracket-inside.ensures ∙ ap in_bracket c.in_bracket.ensures in
    stops false source (decl_in bytes) (decls.bound_form (nesting_in c.args.around.now) (token_in bytes c.args.first))
    c.args.here.now c.from_residual.result c.in_err-binding.field-0.0 c.from_residual.ensures.1
    (first_stops (inside_stops (λ n. decls.binding_form n (token_in bytes c.args.first)) e c.in_err-binding.ensures))

pub returns-in_err-buffer : goal.returns-in_err-buffer
returns-in_err-buffer c =
    let source = c.args.self.now.source in
    let bytes = source.bytes.now in
    let e = c.in_bracket-inside.ensures ∙ ap in_bracket c.in_bracket.ensures in
    stops false source (decl_in bytes) (decls.bound_form (nesting_in c.args.around.now) (token_in bytes c.args.first))
    c.args.here.now c.from_residual-in_err-buffer.result c.in_err-buffer.field-0.0 c.from_residual-in_err-buffer.ensures.1
    (taken begun (inside_taken (λ n. decls.binding_form n (token_in bytes c.args.first)) e c.in_ok-binding.ensures)
    (λ k1. (taken k1 c.access-access.ensures (λ k2. kinded (nesting_in c.args.around.now)
    (option_map (binding_in bytes) (Some c.in_ok-binding.binding))
    (option_map (access_in bytes) c.access-access.result.0) Never c.in-Some.kind c.in-Some.word c.in-Some.after k2
    c.in-Some.ensures (λ k3. made_stops (part_stops c.in_err-buffer.ensures))))))

pub returns-in_default : goal.returns-in_default
returns-in_default c =
    let source = c.args.self.now.source in
    let bytes = source.bytes.now in
    let e = c.in_bracket-inside.ensures ∙ ap in_bracket c.in_bracket.ensures in
    follows source (decl_in bytes) (decls.bound_form (nesting_in c.args.around.now) (token_in bytes c.args.first))
    c.args.here.now (Err c.refused.result)
    (taken begun (inside_taken (λ n. decls.binding_form n (token_in bytes c.args.first)) e c.in_ok-binding.ensures)
    (λ k1. (taken k1 c.access-access.ensures (λ k2. no c.in_default.ensures.0
    (no c.in_default.ensures.1 (nothing c.refused.ensures))))))
