-- Leaves in place of trees, and where an expression is too long.
use Rattle.std.proofs.Common.{◌≡◌, ℕ, ◌+◌, ◌<◌, ◌≤◌, true, false, List, [], length, drop, get_or, sym, ap, ◌∙◌, arith}
use Rattle.std.specs.Prelude.{Option, Some, None}
use Rattle.std.proofs.Math.Seq.{drop-cons}
use Rattle.std.proofs.lemmas.List.{drop-map, length-drop, nil_from_length}
use Rattle.def_tree.specs.Limits.{Nesting}
use Rattle.def_reading.specs.Machine.{Frame, Mode, Config, Step, step_at}
use Rattle.def_reading.specs.Cursor as lists
use Rattle.def_reading.specs.Cursor.{told_at}
use Rattle.def_reading.specs.Plain.{leaf, plain_tree, plain_frames, plain_mode, plain_config}
use Rattle.law_machine.proofs.PlainRuns.{step_plain}
use Rattle.sl_token.specs.View.{token_in, tokens_in}
use Rattle.sl_token.specs.declared.token.Token.{Token}
use Rattle.sl_tree.proofs.Views.{expr_in-Number, expr_in-BooleanLiteral, expr_in-Itself, expr_in-Name, expr_in-FunctionalCast, expr_in-OwnType, expr_in-Group, expr_in-Call, expr_in-Index, expr_in-Member, expr_in-Unary, expr_in-Cast, expr_in-Binary, expr_in-Conditional}
use Rattle.sl_tree.specs.View.{expr_in}
use Rattle.sl_tree.specs.declared.expressions.ExprTree.{ExprTree, ind-ExprTree, roll-ExprTree}
use Rattle.sl_tree.specs.declared.expressions.ExprTree.TheOpen as layer
use Rattle.sl_tree.specs.declared.expressions.ExprTree.TheOpen.{ExprTree-F}
use Rattle.sl_tree.specs.declared.expressions.ExprTree.TheVariants as expr
use Rattle.sl_machine.specs.Kept.{IsAlike}
use Rattle.sl_cursor.specs.Seen.{told_in}

-- the tree is no call
abbrev NoCall : ExprTree → Type 0
NoCall tree = (callee : ExprTree) (opening : Token) (args : List ExprTree) → tree ≡ expr.Call callee opening args → ⊥

by_layer : (source : List ℕ) (x : ExprTree-F ExprTree) → NoCall (roll-ExprTree x) → plain_tree (expr_in source (roll-ExprTree x)) ≡ leaf
by_layer source (layer.Number token) h = ap plain_tree (ap (expr_in source) (expr.rolls-Number token) ∙ expr_in-Number source token)
by_layer source (layer.BooleanLiteral value token) h = ap plain_tree (ap (expr_in source) (expr.rolls-BooleanLiteral value token) ∙ expr_in-BooleanLiteral source value token)
by_layer source (layer.Itself token) h = ap plain_tree (ap (expr_in source) (expr.rolls-Itself token) ∙ expr_in-Itself source token)
by_layer source (layer.Name token args) h = ap plain_tree (ap (expr_in source) (expr.rolls-Name token args) ∙ expr_in-Name source token args)
by_layer source (layer.FunctionalCast word token operand) h = ap plain_tree (ap (expr_in source) (expr.rolls-FunctionalCast word token operand) ∙ expr_in-FunctionalCast source word token operand)
by_layer source (layer.OwnType token) h = ap plain_tree (ap (expr_in source) (expr.rolls-OwnType token) ∙ expr_in-OwnType source token)
by_layer source (layer.Group opening inner) h = ap plain_tree (ap (expr_in source) (expr.rolls-Group opening inner) ∙ expr_in-Group source opening inner)
by_layer source (layer.Call callee opening args) h = absurd (h callee opening args (expr.rolls-Call callee opening args))
by_layer source (layer.Index base opening index) h = ap plain_tree (ap (expr_in source) (expr.rolls-Index base opening index) ∙ expr_in-Index source base opening index)
by_layer source (layer.Member base name) h = ap plain_tree (ap (expr_in source) (expr.rolls-Member base name) ∙ expr_in-Member source base name)
by_layer source (layer.Unary operator token operand) h = ap plain_tree (ap (expr_in source) (expr.rolls-Unary operator token operand) ∙ expr_in-Unary source operator token operand)
by_layer source (layer.Cast opening word token operand) h =
    ap plain_tree (ap (expr_in source) (expr.rolls-Cast opening word token operand) ∙ expr_in-Cast source opening word token operand)
by_layer source (layer.Binary operator token left right) h =
    ap plain_tree (ap (expr_in source) (expr.rolls-Binary operator token left right) ∙ expr_in-Binary source operator token left right)
by_layer source (layer.Conditional condition question yes' no') h =
    ap plain_tree (ap (expr_in source) (expr.rolls-Conditional condition question yes' no') ∙ expr_in-Conditional source condition question yes' no')

-- what is no call becomes a leaf
pub plain_leaf : (source : List ℕ) (tree : ExprTree) → NoCall tree → plain_tree (expr_in source tree) ≡ leaf
plain_leaf source tree = ind-ExprTree (λ tree. NoCall tree → plain_tree (expr_in source tree) ≡ leaf) (λ x y e h. by_layer source x h) tree

-- a call stays one
pub plain_call : (source : List ℕ) (tree callee callee' : ExprTree) (token opening : Token) (args args' : List ExprTree) → tree ≡ expr.Call callee opening args
    → plain_tree (expr_in source (expr.Call callee' token args')) ≡ plain_tree (expr_in source tree)
plain_call source tree callee callee' token opening args args' is =
    ap plain_tree (expr_in-Call source callee' token args') ∙ sym (ap plain_tree (ap (expr_in source) is ∙ expr_in-Call source callee opening args))

-- where an expression is too long
pub long_some : (source : List ℕ) (tokens : List Token) (at : ℕ) (none : Token) → 1024 < length tokens
    → Some (told_in source (record { at = at + 1024; token = get_or tokens 1024 none; code = 112 })) ≡ told_at 112 (at + 1024) (drop 1024 (tokens_in source tokens))
long_some source tokens at none h =
    sym (ap (told_at 112 (at + 1024)) (drop-map (token_in source) 1024 tokens ∙ ap (tokens_in source) (drop-cons tokens 1024 none h)))

pub long_none : (source : List ℕ) (tokens : List Token) (at : ℕ) → length tokens ≤ 1024 → None ≡ told_at 112 (at + 1024) (drop 1024 (tokens_in source tokens))
long_none source tokens at h =
    let none : drop 1024 tokens ≡ [] = nil_from_length (drop 1024 tokens) (omega (arith, length-drop 1024 tokens)) in
    sym (ap (told_at 112 (at + 1024)) (drop-map (token_in source) 1024 tokens ∙ ap (tokens_in source) none))

-- a step from a mode that is the same where it is plain
pub plain_alike : (Keeps : Type 0) (around : Nesting) (long : Option lists.Told) (mode mode' : Mode) (frames : List Frame) (place : lists.Cursor) (made : Step) → (Keeps → ⊥) → plain_mode mode' ≡ plain_mode mode
    → IsAlike (false ≡ true) made (step_at around long mode' frames place) → IsAlike Keeps made (step_at around long mode frames place)
plain_alike Keeps around long mode mode' frames place made no' m a =
    let at : Mode → Config = λ mode. record { frames = frames; mode = mode; place = place } in
    let same : plain_config (at mode') ≡ plain_config (at mode) = ap (λ mode. record { frames = plain_frames frames; mode = mode; place = place }) m in
    record { alike = a.alike ∙ step_plain around long (at mode') (at mode) same; same = λ k. absurd (no' k) }

pub beyond : (limit other other' : Option lists.Told) (told : lists.Told) → Some told ≡ lists.earlier limit other → other ≡ other' → lists.earlier limit other' ≡ None → ⊥
beyond limit other other' told h o k = let e : Some told ≡ None = h ∙ ap (lists.earlier limit) o ∙ k in cc
