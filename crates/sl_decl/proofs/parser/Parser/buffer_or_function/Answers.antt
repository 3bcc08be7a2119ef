use Rattle.std.proofs.Common.{true, [], map, refl, sym, ap}
use Rattle.std.specs.Prelude.{None}
use Rattle.std.specs.Option.{option_map}
use Rattle.def_decl_reading.specs.Form.{As}
use Rattle.def_decl_reading.specs.DeclReading as decls
use Rattle.sl_tree.specs.DeclView.{access_in, attr_in, decl_in}
use Rattle.sl_cursor.specs.Nestings.{nesting_in}
use Rattle.sl_decl.specs.Modules.{buffer_or_function}
use Rattle.sl_decl.proofs.Forming.{begun, formed, stops, no, made_of, part_stops, block_stops, made_stops}
use Rattle.def_module.specs.DeclTree as trees
use Rattle.sl_decl.proofs.Choosing.{kinded}
use Rattle.sl_decl.proofs.parser.Parser.buffer_or_function.Goals as goal

pub returns : goal.returns
returns c =
    let source = c.args.self.now.source in
    let bytes = source.bytes.now in
    formed (buffer_or_function (nesting_in c.args.around.now) (option_map (access_in bytes) c.args.access))
    (kinded (nesting_in c.args.around.now) None (option_map (access_in bytes) c.args.access)
    (As trees.Function (decls.function_form (nesting_in c.args.around.now) []
    (option_map (access_in bytes) c.args.access))) c.in-Some.kind c.in-Some.word c.in-Some.behind begun c.in-Some.ensures
    (λ k. made_of k c.in_ok-buffer.ensures (λ p. refl)))

pub returns-in_err-buffer : goal.returns-in_err-buffer
returns-in_err-buffer c =
    let source = c.args.self.now.source in
    let bytes = source.bytes.now in
    stops true source (decl_in bytes) (buffer_or_function (nesting_in c.args.around.now)
    (option_map (access_in bytes) c.args.access)) c.args.here.now c.from_residual-in_err-buffer.result
    c.in_err-buffer.field-0.0 c.from_residual-in_err-buffer.ensures.1
    (kinded (nesting_in c.args.around.now) None (option_map (access_in bytes) c.args.access)
    (As trees.Function (decls.function_form (nesting_in c.args.around.now) []
    (option_map (access_in bytes) c.args.access))) c.in-Some.kind c.in-Some.word c.in-Some.behind begun c.in-Some.ensures
    (λ k. made_stops (part_stops c.in_err-buffer.ensures)))

pub returns-in_default : goal.returns-in_default
returns-in_default c =
    let source = c.args.self.now.source in
    let bytes = source.bytes.now in
    formed (buffer_or_function (nesting_in c.args.around.now) (option_map (access_in bytes) c.args.access))
    (no c.in_default.ensures.0 (no c.in_default.ensures.1
    (made_of begun (c.in_ok-function.ensures [] (λ h. sym (ap (map (attr_in bytes)) c.new-attrs.ensures))) (λ p. refl))))

pub returns-in_err-function : goal.returns-in_err-function
returns-in_err-function c =
    let source = c.args.self.now.source in
    let bytes = source.bytes.now in
    stops true source (decl_in bytes) (buffer_or_function (nesting_in c.args.around.now)
    (option_map (access_in bytes) c.args.access)) c.args.here.now c.from_residual.result c.in_err-function.field-0.0
    c.from_residual.ensures.1
    (no c.in_default.ensures.0 (no c.in_default.ensures.1
    (made_stops (block_stops (c.in_err-function.ensures [] (λ h. sym (ap (map (attr_in bytes)) c.new-attrs.ensures)))))))
