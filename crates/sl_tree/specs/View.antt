-- The trees that the types of this crate stand for, over a source.
use Rattle.std.specs.Prelude.{ℕ, List, [], ◌∷◌, map}
use Rattle.std.specs.Option.{option_map}
use Rattle.def_tree.specs.ExprTree as exprs
use Rattle.def_tree.specs.Operator as operators
use Rattle.def_tree.specs.StmtTree as stmts
use Rattle.def_tree.specs.TypeTree as types
use Rattle.sl_token.specs.View.{token_in}
use Rattle.sl_tree.specs.declared.expressions.ExprTree.{ExprTree, fold-ExprTree}
use Rattle.sl_tree.specs.declared.expressions.ExprTree.TheOpen as expr_layer
use Rattle.sl_tree.specs.declared.expressions.ExprTree.TheOpen.{ExprTree-F}
use Rattle.sl_tree.specs.declared.operators.Assignment.{Assignment}
use Rattle.sl_tree.specs.declared.operators.Assignment.TheVariants as assignment
use Rattle.sl_tree.specs.declared.operators.Operator.{Operator}
use Rattle.sl_tree.specs.declared.operators.Operator.TheVariants as operator
use Rattle.sl_tree.specs.declared.operators.Step.{Step}
use Rattle.sl_tree.specs.declared.operators.Step.TheVariants as step
use Rattle.sl_tree.specs.declared.operators.UnaryOperator.{UnaryOperator}
use Rattle.sl_tree.specs.declared.operators.UnaryOperator.TheVariants as unary
use Rattle.sl_tree.specs.declared.statements.Binding.{Binding}
use Rattle.sl_tree.specs.declared.statements.Binding.TheVariants as binding
use Rattle.sl_tree.specs.declared.statements.Declarator.{Declarator}
use Rattle.sl_tree.specs.declared.statements.InitTree.{InitTree}
use Rattle.sl_tree.specs.declared.statements.InitTree.TheVariants as init
use Rattle.sl_tree.specs.declared.statements.LocalTree.{LocalTree}
use Rattle.sl_tree.specs.declared.statements.LocalTree.TheVariants as local
use Rattle.sl_tree.specs.declared.statements.SimpleTree.{SimpleTree}
use Rattle.sl_tree.specs.declared.statements.SimpleTree.TheVariants as simple
use Rattle.sl_tree.specs.declared.statements.StartTree.{StartTree}
use Rattle.sl_tree.specs.declared.statements.StartTree.TheVariants as start
use Rattle.sl_tree.specs.declared.statements.StmtTree.{StmtTree, fold-StmtTree}
use Rattle.sl_tree.specs.declared.statements.StmtTree.TheOpen as stmt_layer
use Rattle.sl_tree.specs.declared.statements.StmtTree.TheOpen.{StmtTree-F}
use Rattle.sl_tree.specs.declared.types.TypeTree.{TypeTree, fold-TypeTree}
use Rattle.sl_tree.specs.declared.types.TypeTree.TheOpen as type_layer
use Rattle.sl_tree.specs.declared.types.TypeTree.TheOpen.{TypeTree-F}
use Rattle.sl_tree.specs.declared.types.TypeWord.{TypeWord}
use Rattle.sl_tree.specs.declared.types.TypeWord.TheVariants as word

-- a word as the definitions have it
abbrev pub word_of : TypeWord → types.TypeWord
word_of word.Int = types.Int
word_of word.Uint = types.Uint
word_of word.Int64 = types.Int64
word_of word.Uint64 = types.Uint64
word_of word.Bool = types.Bool'
word_of word.Void = types.Void
word_of word.Uint3 = types.Uint3
word_of word.This = types.This

-- an operator as the definitions have it
abbrev pub operator_of : Operator → operators.Operator
operator_of operator.Or = operators.Or
operator_of operator.And = operators.And
operator_of operator.BitOr = operators.BitOr
operator_of operator.BitXor = operators.BitXor
operator_of operator.BitAnd = operators.BitAnd
operator_of operator.Equal = operators.Equal
operator_of operator.NotEqual = operators.NotEqual
operator_of operator.Less = operators.Less
operator_of operator.LessEqual = operators.LessEqual
operator_of operator.Greater = operators.Greater
operator_of operator.GreaterEqual = operators.GreaterEqual
operator_of operator.ShiftLeft = operators.ShiftLeft
operator_of operator.ShiftRight = operators.ShiftRight
operator_of operator.Add = operators.Add
operator_of operator.Subtract = operators.Subtract
operator_of operator.Multiply = operators.Multiply
operator_of operator.Divide = operators.Divide
operator_of operator.Remainder = operators.Remainder

-- an operator with one operand as the definitions have it
abbrev pub unary_of : UnaryOperator → operators.UnaryOperator
unary_of unary.Minus = operators.Minus
unary_of unary.Plus = operators.Plus
unary_of unary.Not = operators.Not
unary_of unary.Complement = operators.Complement

-- an assignment as the definitions have it
abbrev pub assignment_of : Assignment → operators.Assignment
assignment_of assignment.Set = operators.Set
assignment_of assignment.AddTo = operators.AddTo
assignment_of assignment.SubtractFrom = operators.SubtractFrom
assignment_of assignment.MultiplyBy = operators.MultiplyBy
assignment_of assignment.DivideBy = operators.DivideBy
assignment_of assignment.RemainderBy = operators.RemainderBy
assignment_of assignment.BitAndWith = operators.BitAndWith
assignment_of assignment.BitOrWith = operators.BitOrWith
assignment_of assignment.BitXorWith = operators.BitXorWith
assignment_of assignment.ShiftLeftBy = operators.ShiftLeftBy
assignment_of assignment.ShiftRightBy = operators.ShiftRightBy

-- a step as the definitions have it
abbrev pub step_of : Step → operators.Step
step_of step.Increment = operators.Increment
step_of step.Decrement = operators.Decrement

-- a word of a local as the definitions have it
abbrev pub binding_of : Binding → stmts.Binding
binding_of binding.Let = stmts.Let
binding_of binding.Var = stmts.Var

-- a list of types as the definitions have it
abbrev pub types_of : List types.TypeTree → types.TypeTrees
types_of [] = types.NoTypes
types_of (first ∷ more) = types.MoreTypes first (types_of more)

-- a list of expressions as the definitions have it
abbrev pub exprs_of : List exprs.ExprTree → exprs.ExprTrees
exprs_of [] = exprs.NoExprs
exprs_of (first ∷ more) = exprs.MoreExprs first (exprs_of more)

-- a list of statements as the definitions have it
abbrev pub stmts_of : List stmts.StmtTree → stmts.StmtTrees
stmts_of [] = stmts.NoStmts
stmts_of (first ∷ more) = stmts.MoreStmts first (stmts_of more)

-- a type whose parts stand for these
abbrev pub type_by : List ℕ → TypeTree-F types.TypeTree → types.TypeTree
type_by source (type_layer.Word word first path) =
    types.Word (word_of word) (token_in source first) (map (token_in source) path)
type_by source (type_layer.Named first args path) =
    types.Named (token_in source first) (types_of args) (map (token_in source) path)

-- the type that a tree stands for
unfoldable pub type_in : List ℕ → TypeTree → types.TypeTree
type_in source type = fold-TypeTree types.TypeTree (type_by source) type

-- an expression whose parts stand for these
abbrev pub expr_by : List ℕ → ExprTree-F exprs.ExprTree → exprs.ExprTree
expr_by source (expr_layer.Number token) = exprs.Number (token_in source token)
expr_by source (expr_layer.BooleanLiteral value token) =
    exprs.BooleanLiteral value (token_in source token)
expr_by source (expr_layer.Itself token) = exprs.Itself (token_in source token)
expr_by source (expr_layer.Name token args) =
    exprs.Name (token_in source token) (types_of (map (type_in source) args))
expr_by source (expr_layer.FunctionalCast word token operand) =
    exprs.FunctionalCast (word_of word) (token_in source token) operand
expr_by source (expr_layer.OwnType token) = exprs.OwnType (token_in source token)
expr_by source (expr_layer.Group opening inner) = exprs.Group (token_in source opening) inner
expr_by source (expr_layer.Call callee opening args) =
    exprs.Call callee (token_in source opening) (exprs_of args)
expr_by source (expr_layer.Index base opening index) =
    exprs.Index base (token_in source opening) index
expr_by source (expr_layer.Member base name) = exprs.Member base (token_in source name)
expr_by source (expr_layer.Unary operator token operand) =
    exprs.Unary (unary_of operator) (token_in source token) operand
expr_by source (expr_layer.Cast opening word token operand) =
    exprs.Cast (token_in source opening) (word_of word) (token_in source token) operand
expr_by source (expr_layer.Binary operator token left right) =
    exprs.Binary (operator_of operator) (token_in source token) left right
expr_by source (expr_layer.Conditional condition question yes' no') =
    exprs.Conditional condition (token_in source question) yes' no'

-- the expression that a tree stands for
unfoldable pub expr_in : List ℕ → ExprTree → exprs.ExprTree
expr_in source expr = fold-ExprTree exprs.ExprTree (expr_by source) expr

-- the initialiser that a tree stands for
abbrev pub init_in : List ℕ → InitTree → stmts.InitTree
init_in source (init.Value value) = stmts.Value (expr_in source value)
init_in source (init.Fields opening values) =
    stmts.Fields (token_in source opening) (exprs_of (map (expr_in source) values))

-- the name with its initialiser that a tree stands for
abbrev pub declarator_in : List ℕ → Declarator → stmts.Declarator
declarator_in source declarator =
    record {
      name = token_in source declarator.name;
      init = option_map (init_in source) declarator.init;
    }

-- the local that a tree stands for
abbrev pub local_in : List ℕ → LocalTree → stmts.LocalTree
local_in source (local.Typed word type declarators) =
    stmts.Typed (option_map (token_in source) word) (type_in source type)
    (map (declarator_in source) declarators)
local_in source (local.Inferred binding word name type value) =
    stmts.Inferred (binding_of binding) (token_in source word) (token_in source name)
    (option_map (type_in source) type) (expr_in source value)

-- the simple statement that a tree stands for
abbrev pub simple_in : List ℕ → SimpleTree → stmts.SimpleTree
simple_in source (simple.Assign assignment token place value) =
    stmts.Assign (assignment_of assignment) (token_in source token) (expr_in source place)
    (expr_in source value)
simple_in source (simple.PostfixStep step place token) =
    stmts.PostfixStep (step_of step) (expr_in source place) (token_in source token)
simple_in source (simple.PrefixStep step token place) =
    stmts.PrefixStep (step_of step) (token_in source token) (expr_in source place)
simple_in source (simple.CallStatement call) = stmts.CallStatement (expr_in source call)

-- what a `for` begins with, as a tree stands for it
abbrev pub start_in : List ℕ → StartTree → stmts.StartTree
start_in source start.NoStart = stmts.NoStart
start_in source (start.LocalStart local) = stmts.LocalStart (local_in source local)
start_in source (start.SimpleStart simple) = stmts.SimpleStart (simple_in source simple)

-- a statement whose parts stand for these
abbrev pub stmt_by : List ℕ → StmtTree-F stmts.StmtTree → stmts.StmtTree
stmt_by source (stmt_layer.Block opening stmts') =
    stmts.Block (token_in source opening) (stmts_of stmts')
stmt_by source (stmt_layer.Local local) = stmts.Local (local_in source local)
stmt_by source (stmt_layer.Simple simple) = stmts.Simple (simple_in source simple)
stmt_by source (stmt_layer.Empty semicolon) = stmts.Empty (token_in source semicolon)
stmt_by source (stmt_layer.Return word value) =
    stmts.Return (token_in source word) (option_map (expr_in source) value)
stmt_by source (stmt_layer.Break word) = stmts.Break (token_in source word)
stmt_by source (stmt_layer.Continue word) = stmts.Continue (token_in source word)
stmt_by source (stmt_layer.If word condition yes') =
    stmts.If (token_in source word) (expr_in source condition) yes'
stmt_by source (stmt_layer.IfElse word condition yes' no') =
    stmts.IfElse (token_in source word) (expr_in source condition) yes' no'
stmt_by source (stmt_layer.While word condition body) =
    stmts.While (token_in source word) (expr_in source condition) body
stmt_by source (stmt_layer.For word start condition step body) =
    stmts.For (token_in source word) (start_in source start) (option_map (expr_in source) condition)
    (option_map (simple_in source) step) body

-- the statement that a tree stands for
unfoldable pub stmt_in : List ℕ → StmtTree → stmts.StmtTree
stmt_in source stmt = fold-StmtTree stmts.StmtTree (stmt_by source) stmt
