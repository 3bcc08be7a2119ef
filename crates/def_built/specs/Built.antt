-- Which declarations are checked so far: aliases and constants of a small form, without a word of
-- access.
use Rattle.std.specs.Prelude.{ℕ, Bool, true, false, not, ◌&&◌, nat_le, List, [], find, Option, is_none}
use Rattle.std.specs.Char.{is_ascii_digit}
use Rattle.std.specs.List.{list_all}
use Rattle.std.specs.Option.{option_map}
use Rattle.std.specs.Str.Parse.{digits_value}
use Rattle.def_token.specs.Lexical.{Token}
use Rattle.def_tree.specs.ExprTree as expr
use Rattle.def_tree.specs.ExprTree.{ExprTree}
use Rattle.def_tree.specs.Operator.{Operator, Add, Subtract, Multiply}
use Rattle.def_tree.specs.TypeTree.{TypeTree, TypeWord, Int64, Uint64, Word, Named, NoTypes, MoreTypes, is_scalar}
use Rattle.def_module.specs.DeclTree.{DeclTree, Alias, Const, ModuleTree}
use Rattle.def_module.specs.First.{decl_token}

-- a word of which casts are made, but none of 64 bits
abbrev pub is_narrow_scalar : TypeWord → Bool
is_narrow_scalar Int64 = false
is_narrow_scalar Uint64 = false
is_narrow_scalar word = is_scalar word

-- `int`, `uint`, `bool`, or a name alone
abbrev pub is_small_type : TypeTree → Bool
is_small_type (Word word first []) = is_narrow_scalar word
is_small_type (Named first NoTypes []) = true
is_small_type _ = false

-- decimal digits alone, up to the greatest int
abbrev pub is_small_number : List ℕ → Bool
is_small_number text = list_all is_ascii_digit text && nat_le (digits_value 10 text) 2147483647

-- `+`, `-` and `*`
abbrev pub is_small_operator : Operator → Bool
is_small_operator Add = true
is_small_operator Subtract = true
is_small_operator Multiply = true
is_small_operator _ = false

-- small numbers, truth values, and names without type arguments, under small operators and in
-- brackets
abbrev pub is_small_expr : ExprTree → Bool
is_small_expr (expr.Number token) = is_small_number token.text
is_small_expr (expr.BooleanLiteral value token) = true
is_small_expr (expr.Itself token) = false
is_small_expr (expr.Name token NoTypes) = true
is_small_expr (expr.Name token (MoreTypes type types)) = false
is_small_expr (expr.FunctionalCast word token operand) = false
is_small_expr (expr.OwnType token) = false
is_small_expr (expr.Group opening inner) = is_small_expr inner
is_small_expr (expr.Call callee opening args) = false
is_small_expr (expr.Index base opening index) = false
is_small_expr (expr.Member base name) = false
is_small_expr (expr.Unary operator token operand) = false
is_small_expr (expr.Cast opening word token operand) = false
is_small_expr (expr.Binary operator token left right) =
    is_small_operator operator && (is_small_expr left && is_small_expr right)
is_small_expr (expr.Conditional condition question yes' no') = false

-- a declaration has only forms that are checked
abbrev pub is_built : DeclTree → Bool
is_built (Alias alias) = is_none alias.access && is_small_type alias.type
is_built (Const constant) =
    is_none constant.access && (is_small_type constant.type && is_small_expr constant.value)
is_built _ = false

-- the first token of the first declaration with a form that is not checked yet, if there is one
abbrev pub not_built : ModuleTree → Option Token
not_built tree = option_map decl_token (find (λ (decl : DeclTree). not (is_built decl)) tree.decls)
