-- Simple statements by what stands behind the expressions with which they begin.
use Rattle.std.proofs.Common.{◌≡◌, ℕ, false, List, ◌∷◌, refl, sym, ap, ◌∙◌}
use Rattle.std.specs.Prelude.{Some, replicate}
use Rattle.std.specs.Option.{option_map}
use Rattle.def_tree.specs.ExprTree as trees
use Rattle.def_tree.specs.Limits.{Nesting, plain, assignment_tokens}
use Rattle.def_tree.specs.Operator as operators
use Rattle.def_tree.specs.Statements.{is_call}
use Rattle.def_tree.specs.StmtTree as tree
use Rattle.def_reading.specs.Cursor.{At, passed}
use Rattle.def_reading.specs.StmtReading.{assignment_at, assigned_by, assigned_in}
use Rattle.def_reading.specs.Try.{try_as, expr_in}
use Rattle.sl_token.specs.View.{token_in, tokens_in}
use Rattle.sl_token.specs.declared.token.Token.{Token}
use Rattle.sl_tree.specs.View as view
use Rattle.sl_tree.specs.declared.expressions.ExprTree.{ExprTree, fold-roll-ExprTree, roll-ExprTree, out-ExprTree, roll-out-ExprTree}
use Rattle.sl_tree.specs.declared.expressions.ExprTree.TheOpen as expr_layer
use Rattle.sl_tree.specs.declared.expressions.ExprTree.TheOpen.{ExprTree-F}
use Rattle.sl_tree.specs.declared.expressions.ExprTree.TheVariants as expr
use Rattle.sl_tree.specs.declared.operators.Assignment.{Assignment}
use Rattle.sl_tree.specs.declared.operators.Assignment.TheVariants as assignment
use Rattle.sl_cursor.specs.Following.{IsBehind}
use Rattle.sl_cursor.specs.Seen.{reach_in, told_in, place_in}
use Rattle.sl_cursor.specs.Tries.{on_lists}
use Rattle.sl_cursor.specs.declared.source.Here.{Here}
use Rattle.sl_cursor.specs.declared.source.Source.{Source}

rolled_no_call : (source : List ℕ) (layer : ExprTree-F ExprTree) → ((callee : ExprTree) (opening : Token) (args : List ExprTree) → layer ≡ expr_layer.Call callee opening args → ⊥) → is_call (view.expr_in source (roll-ExprTree layer)) ≡ false
unfolding view.expr_in
rolled_no_call source (expr_layer.Number token) h = ap is_call (fold-roll-ExprTree trees.ExprTree (view.expr_by source) (expr_layer.Number token))
rolled_no_call source (expr_layer.BooleanLiteral value token) h = ap is_call (fold-roll-ExprTree trees.ExprTree (view.expr_by source) (expr_layer.BooleanLiteral value token))
rolled_no_call source (expr_layer.Itself token) h = ap is_call (fold-roll-ExprTree trees.ExprTree (view.expr_by source) (expr_layer.Itself token))
rolled_no_call source (expr_layer.Name token args) h = ap is_call (fold-roll-ExprTree trees.ExprTree (view.expr_by source) (expr_layer.Name token args))
rolled_no_call source (expr_layer.FunctionalCast word token operand) h = ap is_call (fold-roll-ExprTree trees.ExprTree (view.expr_by source) (expr_layer.FunctionalCast word token operand))
rolled_no_call source (expr_layer.OwnType token) h = ap is_call (fold-roll-ExprTree trees.ExprTree (view.expr_by source) (expr_layer.OwnType token))
rolled_no_call source (expr_layer.Group opening inner) h = ap is_call (fold-roll-ExprTree trees.ExprTree (view.expr_by source) (expr_layer.Group opening inner))
rolled_no_call source (expr_layer.Call callee opening args) h = absurd (h callee opening args refl)
rolled_no_call source (expr_layer.Index base opening index) h = ap is_call (fold-roll-ExprTree trees.ExprTree (view.expr_by source) (expr_layer.Index base opening index))
rolled_no_call source (expr_layer.Member base name) h = ap is_call (fold-roll-ExprTree trees.ExprTree (view.expr_by source) (expr_layer.Member base name))
rolled_no_call source (expr_layer.Unary operator token operand) h = ap is_call (fold-roll-ExprTree trees.ExprTree (view.expr_by source) (expr_layer.Unary operator token operand))
rolled_no_call source (expr_layer.Cast opening word token operand) h = ap is_call (fold-roll-ExprTree trees.ExprTree (view.expr_by source) (expr_layer.Cast opening word token operand))
rolled_no_call source (expr_layer.Binary operator token left right) h = ap is_call (fold-roll-ExprTree trees.ExprTree (view.expr_by source) (expr_layer.Binary operator token left right))
rolled_no_call source (expr_layer.Conditional condition question yes' no') h = ap is_call (fold-roll-ExprTree trees.ExprTree (view.expr_by source) (expr_layer.Conditional condition question yes' no'))

-- an expression of another form is no call
pub no_call : (source : List ℕ) (e : ExprTree) → ((callee : ExprTree) (opening : Token) (args : List ExprTree) → e ≡ expr.Call callee opening args → ⊥) → is_call (view.expr_in source e) ≡ false
no_call source e h =
    let same : roll-ExprTree (out-ExprTree e) ≡ e = roll-out-ExprTree e in
    ap (λ e. is_call (view.expr_in source e)) (sym same)
    ∙ rolled_no_call source (out-ExprTree e) (λ callee opening args is. h callee opening args (sym same ∙ ap roll-ExprTree is ∙ expr.rolls-Call callee opening args))

pub one_token : (a : Assignment) → (a ≡ assignment.ShiftRightBy → ⊥) → assignment_tokens (view.assignment_of a) ≡ 1
one_token assignment.Set h = refl
one_token assignment.AddTo h = refl
one_token assignment.SubtractFrom h = refl
one_token assignment.MultiplyBy h = refl
one_token assignment.DivideBy h = refl
one_token assignment.RemainderBy h = refl
one_token assignment.BitAndWith h = refl
one_token assignment.BitOrWith h = refl
one_token assignment.BitXorWith h = refl
one_token assignment.ShiftLeftBy h = refl
one_token assignment.ShiftRightBy h = absurd (h refl)

-- an assignment stands behind an expression
pub assigned_is : (source : Source) (around : Nesting) (first : trees.ExprTree) (from : Here) (token : Token) (after : List Token) → from.place.rest.now ≡ token ∷ after
    → (a : operators.Assignment) → assignment_at (tokens_in source.bytes.now from.place.rest.now) ≡ Some a → (to : Here) → IsBehind (assignment_tokens a) from to
    → on_lists source (assigned_in around first) from ≡ on_lists source (λ reach place. try_as (tree.Assign a (token_in source.bytes.now token) first) (expr_in false around reach place)) to
assigned_is source around first from token after is a written to b =
    let bytes = source.bytes.now in
    let reach = option_map (reach_in bytes) from.reach in
    let limit = option_map (told_in bytes) from.place.limit in
    let lead = token_in bytes token in
    let tokens = lead ∷ tokens_in bytes after in
    let are : tokens_in bytes from.place.rest.now ≡ tokens = ap (tokens_in bytes) is in
    let make = tree.Assign a lead first in
    let entries = replicate (assignment_tokens a) plain in
    ap (λ ts. assigned_in around first reach (At from.place.at limit ts)) are
    ∙ ap (λ o. assigned_by around o first reach lead (At from.place.at limit tokens)) (ap assignment_at (sym are) ∙ written)
    ∙ ap (λ place. try_as make (expr_in false around reach place)) (ap (λ ts. passed entries (At from.place.at limit ts)) (sym are) ∙ sym (b.place bytes))
    ∙ ap (λ reach. try_as make (expr_in false around (option_map (reach_in bytes) reach) (place_in bytes to.place))) (sym b.reach)
