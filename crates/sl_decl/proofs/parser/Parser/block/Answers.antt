use Rattle.std.proofs.Common.{true, refl}
use Rattle.def_decl_reading.specs.Form.{Stmts}
use Rattle.def_decl_reading.specs.MemberReading as forms
use Rattle.sl_tree.specs.DeclView.{block_in}
use Rattle.sl_cursor.specs.Nestings.{nesting_in}
use Rattle.sl_decl.proofs.Forming.{begun, formed, stops, yes, made_of, inside_read, inside_blocks, must, made_stops}
use Rattle.sl_decl.proofs.parser.Parser.block.Goals as goal

pub returns : goal.returns
returns c =
    let source = c.args.self.now.source in
    let bytes = source.bytes.now in
    formed (forms.block_form (nesting_in c.args.around.now))
    (yes begun c.in_ok-opening.ensures (λ k1.
    (made_of k1 (inside_read Stmts c.in_block-inside.ensures.nesting c.in_ok-stmts.ensures.read) (λ p. refl))))

pub returns-in_err-opening : goal.returns-in_err-opening
returns-in_err-opening c =
    let source = c.args.self.now.source in
    let bytes = source.bytes.now in
    stops true source (block_in bytes) (forms.block_form (nesting_in c.args.around.now)) c.args.here.now
    c.from_residual.result c.in_err-opening.field-0.0 c.from_residual.ensures.1
    (must c.in_err-opening.ensures)

pub returns-in_err-stmts : goal.returns-in_err-stmts
returns-in_err-stmts c =
    let source = c.args.self.now.source in
    let bytes = source.bytes.now in
    stops true source (block_in bytes) (forms.block_form (nesting_in c.args.around.now)) c.args.here.now
    c.from_residual-in_err-stmts.result c.in_err-stmts.field-0.0 c.from_residual-in_err-stmts.ensures.1
    (yes begun c.in_ok-opening.ensures (λ k1.
    (made_stops (inside_blocks Stmts c.in_block-inside.ensures.nesting c.in_err-stmts.ensures.read))))
