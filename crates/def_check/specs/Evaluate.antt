-- The types and values of what is written. A part is read before the whole that holds it, and parts
-- from left to right; each part is read where those before it have values.
use Rattle.std.specs.Int.{cast_signed}
use Rattle.std.specs.Prelude.{ℕ, List, [], Option, Some, None, if◌then◌else◌}
use Rattle.std.specs.Str.Parse.{digits_value}
use Rattle.sl_key.specs.Fault.{site_of}
use Rattle.sl_key.specs.Names.{key_named}
use Rattle.sl_key.specs.Order.{module_key, path_key}
use Rattle.sl_key.specs.declared.fault.Fault.TheVariants.{NotBuilt, UnknownName, NoConversion, NotAType, NotAValue, NotTaken}
use Rattle.sl_key.specs.declared.key.Key.{Key}
use Rattle.sl_key.specs.declared.key.Kind.{Kind}
use Rattle.sl_key.specs.declared.key.Kind.TheVariants as kind
use Rattle.sl_key.specs.declared.path.DeclPath.{DeclPath}
use Rattle.sl_key.specs.declared.value.Arithmetic.{Arithmetic}
use Rattle.sl_key.specs.declared.value.Ty.{Ty}
use Rattle.sl_key.specs.declared.value.Ty.TheVariants as type
use Rattle.sl_key.specs.declared.value.Value.{Value}
use Rattle.sl_key.specs.declared.value.Value.TheVariants.{Bool, Int}
use Rattle.def_body.specs.Part.{Break, Give, Part, Use, or_break, in_turn}
use Rattle.def_token.specs.Lexical.{Token}
use Rattle.def_tree.specs.ExprTree as expr
use Rattle.def_tree.specs.ExprTree.{ExprTree, first_token}
use Rattle.def_tree.specs.TypeTree as written
use Rattle.def_tree.specs.TypeTree.{TypeTree, NoTypes, type_token}
use Rattle.def_built.specs.Built.{is_small_number}
use Rattle.def_module.specs.DeclTree.{DeclTree}
use Rattle.def_check.specs.Values.{arithmetic_of, converted, misfit_of, result_of, type_of, width}

-- the module whose declarations are looked up, and its declarations
pub record Scope : Type 0 where
  pub «module» : List ℕ
  pub decls : List DeclTree

-- the type of the alias to which a path leads
abbrev pub alias_type : DeclPath → Part Ty
alias_type path = Use (path_key kind.Alias path) (λ type. Give type)

-- the value of the constant to which a path leads
abbrev pub const_value : DeclPath → Part Value
const_value path = Use (path_key kind.Const path) (λ value. Give value)

module _ (scope : Scope) where
  -- A form that is not built yet, which begins with this token. No module of which nothing is told
  -- has one.
  abbrev pub unbuilt : {A : Type 0} → Token → Part A
  unbuilt token = Break (site_of scope.module token) NotBuilt

  -- A name that the module does not declare is looked for in the modules that it sees. So far it
  -- sees none.
  abbrev pub unknown : {A : Type 0} → Token → Part A
  unknown name =
      Use (module_key kind.Imports scope.module)
      (λ modules. Break (site_of scope.module name) (UnknownName name.text))

  -- the type that a name stands for, whose declaration has a key of this kind at this path
  abbrev pub type_at : Token → Kind → DeclPath → Part Ty
  type_at name kind.Alias path = alias_type path
  type_at name kind.Const path = Break (site_of scope.module name) (NotAType name.text)
  type_at name _ path = unknown name

  -- the type that a name stands for, where this is the key of its declaration
  abbrev pub type_named : Token → Option Key → Part Ty
  type_named name (Some key) = type_at name key.kind key.path
  type_named name None = unknown name

  -- the type that is written
  abbrev pub type_written : TypeTree → Part Ty
  type_written (written.Word written.Bool' token []) = Give type.Bool
  type_written (written.Word written.Int token []) = Give type.Int
  type_written (written.Word written.Uint token []) = Give type.Uint
  type_written (written.Named name NoTypes []) =
      type_named name (key_named scope.module scope.decls name.text)
  type_written other = unbuilt (type_token other)

  -- the value that a name stands for, whose declaration has a key of this kind at this path
  abbrev pub value_at : Token → Kind → DeclPath → Part Value
  value_at name kind.Const path = const_value path
  value_at name kind.Alias path =
      Use (path_key kind.Alias path)
      (λ type. Break (site_of scope.module name) (NotAValue name.text))
  value_at name _ path = unknown name

  -- the value that a name stands for, where this is the key of its declaration
  abbrev pub value_named : Token → Option Key → Part Value
  value_named name (Some key) = value_at name key.kind key.path
  value_named name None = unknown name

  -- The value of a number in decimal digits, which is at most the greatest int, and stands for
  -- itself.
  abbrev pub value_written : Token → Part Value
  value_written token =
      if is_small_number token.text then Give (Int (cast_signed width (digits_value 10 token.text)))
      else unbuilt token

  -- the value of an operator on two values, if it is built
  abbrev pub combined : Option Arithmetic → Token → Value → Value → Part Value
  combined (Some operator) token x y =
      or_break (result_of operator x y) (site_of scope.module token)
      (NotTaken operator (misfit_of x y))
  combined None token x y = unbuilt token

  -- the value of an expression
  abbrev pub value_of : ExprTree → Part Value
  value_of (expr.Number token) = value_written token
  value_of (expr.BooleanLiteral value token) = Give (Bool value)
  value_of (expr.Name name NoTypes) =
      value_named name (key_named scope.module scope.decls name.text)
  value_of (expr.Group opening inner) = value_of inner
  value_of (expr.Binary operator token left right) =
      in_turn (value_of left) (λ x.
      in_turn (value_of right) (λ y. combined (arithmetic_of operator) token x y))
  value_of other = unbuilt (first_token other)

  -- a value as one of a type, where an expression that begins here has it
  abbrev pub converted_to : Ty → Token → Value → Part Value
  converted_to type first value =
      or_break (converted type value) (site_of scope.module first)
      (NoConversion (type_of value) type)
