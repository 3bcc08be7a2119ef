use Rattle.std.proofs.Common.{◌≡◌, Bool, true, sym, ap, subst, ◌∙◌}
use Rattle.def_tree.specs.Statements.{is_call}
use Rattle.def_tree.specs.StmtTree as tree
use Rattle.def_reading.specs.StmtReading.{alone_by}
use Rattle.sl_tree.specs.View as view
use Rattle.sl_tree.specs.declared.statements.SimpleTree.TheVariants as simple
use Rattle.sl_cursor.specs.Following.{IsRead}
use Rattle.sl_cursor.proofs.Following.{follows_end}
use Rattle.sl_stmt.proofs.simple.alone.Goals as goal

pub returns-then-is_call : goal.returns-then-is_call
returns-then-is_call c =
    λ call o.
    let source = c.args.input.now in
    let here = c.args.here.now in
    let read = simple.CallStatement c.args.expr in
    let yes' : is_call call ≡ true = o.call ∙ sym (c.is_call.ensures source.bytes.now) ∙ c.if-is_call.true in
    subst (λ (b : Bool). IsRead source (view.simple_in source.bytes.now) (alone_by b call) here read here) (sym yes')
    (follows_end source (view.simple_in source.bytes.now) (tree.CallStatement call) here read c.requires (λ h. ap tree.CallStatement (o.same h)))
