-- The limits of the grammar: how deep forms nest, and how many tokens an expression has.
-- For a tree each of its tokens has an entry, in order: the limit that ends there, if one does.
use Rattle.std.specs.Prelude.{ℕ, suc, nat_lt, List, [], ◌∷◌, ◌++◌, take, drop, replicate, Option, Some, None, if◌then◌else◌}
use Rattle.def_token.specs.Lexical.{Token}
use Rattle.def_tree.specs.ExprTree as expr
use Rattle.def_tree.specs.ExprTree.{ExprTree, ExprTrees, NoExprs, MoreExprs}
use Rattle.def_tree.specs.Operator as operators
use Rattle.def_tree.specs.Operator.{Operator, Assignment}
use Rattle.def_tree.specs.StmtTree as tree
use Rattle.def_tree.specs.StmtTree.{Declarator, InitTree, LocalTree, SimpleTree, StartTree, StmtTree, StmtTrees, NoStmts, MoreStmts}
use Rattle.def_tree.specs.TypeTree.{TypeTree, Word, Named, TypeTrees, NoTypes, MoreTypes}

-- the limits: of nesting, and of the length of expressions
pub data Limit : Type 0 where
  Deep : Limit
  Long : Limit

-- what ends at a token: nothing, or a limit
abbrev pub Entry : Type 0
Entry = Option Limit

-- the greatest number of forms of a kind that are open at a place
abbrev pub greatest_nesting : ℕ
greatest_nesting = 64

-- the greatest number of tokens of an expression
abbrev pub greatest_length : ℕ
greatest_length = 1024

-- How many forms of each kind are open at a place. Brackets are `(` and `[`; blocks are those of
-- statements; unary operators are those before their operands, but no casts; statements are those
-- behind `if (..)`, `else`, `while (..)` and `for (..)`.
pub record Nesting : Type 0 where
  pub brackets : ℕ
  pub blocks : ℕ
  pub unary : ℕ
  pub types : ℕ
  pub statements : ℕ

-- as many forms of each kind are open
abbrev pub all_open : ℕ → Nesting
all_open depth =
    record { brackets = depth; blocks = depth; unary = depth; types = depth; statements = depth }

-- one more bracket is open
abbrev pub in_bracket : Nesting → Nesting
in_bracket nesting = record nesting { brackets = suc nesting.brackets }

-- one more block is open
abbrev pub in_block : Nesting → Nesting
in_block nesting = record nesting { blocks = suc nesting.blocks }

-- one more unary operator is open
abbrev pub in_unary : Nesting → Nesting
in_unary nesting = record nesting { unary = suc nesting.unary }

-- one more statement is open
abbrev pub in_statement : Nesting → Nesting
in_statement nesting = record nesting { statements = suc nesting.statements }

-- nothing ends at a token
abbrev pub plain : Entry
plain = None

-- what ends at a token that opens a form, if so many of the kind are open then
abbrev pub opens : ℕ → Entry
opens open' = if nat_lt greatest_nesting open' then Some Deep else None

-- what ends at a token where two limits can end; the first is told
abbrev pub first_of : Entry → Entry → Entry
first_of None second = second
first_of (Some limit) second = Some limit

-- the entries of a form whose first token opens more than itself
abbrev pub led_by : Entry → List Entry → List Entry
led_by entry [] = []
led_by entry (first ∷ entries) = first_of first entry ∷ entries

-- the entries of an expression that stands in no other
abbrev pub at_most_long : List Entry → List Entry
at_most_long entries =
    take greatest_length entries ++ led_by (Some Long) (drop greatest_length entries)

-- the entries of names behind dots
abbrev pub path_entries : List Token → List Entry
path_entries [] = []
path_entries (name ∷ path) = plain ∷ plain ∷ path_entries path

-- the entries of types, inside so many open types
abbrev mutual
  pub type_entries : ℕ → TypeTree → List Entry
  type_entries types (Word word first path) = opens (suc types) ∷ path_entries path
  type_entries types (Named first args path) =
      opens (suc types) ∷ (args_entries (suc types) args ++ path_entries path)

  -- type arguments with their marks, if there are any
  pub args_entries : ℕ → TypeTrees → List Entry
  args_entries types NoTypes = []
  args_entries types (MoreTypes type more) =
      plain ∷ (type_entries types type ++ more_types_entries types more)

  -- types with a comma before each, and the mark behind them
  pub more_types_entries : ℕ → TypeTrees → List Entry
  more_types_entries types NoTypes = plain ∷ []
  more_types_entries types (MoreTypes type more) =
      plain ∷ (type_entries types type ++ more_types_entries types more)

-- how many tokens an operator has
abbrev pub operator_tokens : Operator → ℕ
operator_tokens operators.GreaterEqual = 2
operator_tokens operators.ShiftRight = 2
operator_tokens _ = 1

-- how many tokens the mark of an assignment has
abbrev pub assignment_tokens : Assignment → ℕ
assignment_tokens operators.ShiftRightBy = 3
assignment_tokens _ = 1

-- the entries of expressions, inside what is open
abbrev mutual
  pub expr_entries : Nesting → ExprTree → List Entry
  expr_entries around (expr.Number token) = plain ∷ []
  expr_entries around (expr.BooleanLiteral value token) = plain ∷ []
  expr_entries around (expr.Itself token) = plain ∷ []
  expr_entries around (expr.Name token args) = plain ∷ args_entries around.types args
  expr_entries around (expr.FunctionalCast word token operand) =
      let inside = in_bracket around in
      plain ∷ opens inside.brackets ∷ (expr_entries inside operand ++ plain ∷ [])
  expr_entries around (expr.OwnType token) = plain ∷ []
  expr_entries around (expr.Group opening inner) =
      let inside = in_bracket around in
      opens inside.brackets ∷ (expr_entries inside inner ++ plain ∷ [])
  expr_entries around (expr.Call callee opening args) =
      let inside = in_bracket around in
      expr_entries around callee ++ opens inside.brackets
      ∷ (exprs_entries inside args ++ plain ∷ [])
  expr_entries around (expr.Index base opening index) =
      let inside = in_bracket around in
      expr_entries around base ++ opens inside.brackets ∷ (expr_entries inside index ++ plain ∷ [])
  expr_entries around (expr.Member base name) = expr_entries around base ++ plain ∷ plain ∷ []
  expr_entries around (expr.Unary operator token operand) =
      let inside = in_unary around in opens inside.unary ∷ expr_entries inside operand
  expr_entries around (expr.Cast opening word token operand) =
      opens (suc around.brackets) ∷ plain ∷ plain ∷ expr_entries around operand
  expr_entries around (expr.Binary operator token left right) =
      expr_entries around left ++ (replicate (operator_tokens operator) plain
      ++ expr_entries around right)
  expr_entries around (expr.Conditional condition question yes' no') =
      expr_entries around condition ++ plain
      ∷ (expr_entries around yes' ++ plain ∷ expr_entries around no')

  -- expressions with a comma between them
  pub exprs_entries : Nesting → ExprTrees → List Entry
  exprs_entries around NoExprs = []
  exprs_entries around (MoreExprs first more) =
      expr_entries around first ++ more_exprs_entries around more

  -- expressions with a comma before each
  pub more_exprs_entries : Nesting → ExprTrees → List Entry
  more_exprs_entries around NoExprs = []
  more_exprs_entries around (MoreExprs first more) =
      plain ∷ (expr_entries around first ++ more_exprs_entries around more)

-- the entries of an expression that stands in no other
abbrev pub whole_entries : Nesting → ExprTree → List Entry
whole_entries around whole = at_most_long (expr_entries around whole)

-- the entries of whole expressions with a comma before each
abbrev pub more_values_entries : Nesting → ExprTrees → List Entry
more_values_entries around NoExprs = []
more_values_entries around (MoreExprs first more) =
    plain ∷ (whole_entries around first ++ more_values_entries around more)

-- the entries of whole expressions with a comma between them
abbrev pub values_entries : Nesting → ExprTrees → List Entry
values_entries around NoExprs = []
values_entries around (MoreExprs first more) =
    whole_entries around first ++ more_values_entries around more

-- the entries of an initialiser; its braces are no block
abbrev pub init_entries : Nesting → InitTree → List Entry
init_entries around (tree.Value value) = whole_entries around value
init_entries around (tree.Fields opening values) =
    plain ∷ (values_entries around values ++ plain ∷ [])

-- the entries of an initialiser with its mark, if there is one
abbrev pub maybe_init_entries : Nesting → Option InitTree → List Entry
maybe_init_entries around None = []
maybe_init_entries around (Some init) = plain ∷ init_entries around init

-- the entries of a name with its initialiser
abbrev pub declarator_entries : Nesting → Declarator → List Entry
declarator_entries around declarator = plain ∷ maybe_init_entries around declarator.init

-- the entries of declarators with a comma before each
abbrev pub more_declarators_entries : Nesting → List Declarator → List Entry
more_declarators_entries around [] = []
more_declarators_entries around (first ∷ more) =
    plain ∷ (declarator_entries around first ++ more_declarators_entries around more)

-- the entries of declarators with a comma between them
abbrev pub declarators_entries : Nesting → List Declarator → List Entry
declarators_entries around [] = []
declarators_entries around (first ∷ more) =
    declarator_entries around first ++ more_declarators_entries around more

-- the entries of a word, if it is written
abbrev pub word_entries : Option Token → List Entry
word_entries None = []
word_entries (Some word) = plain ∷ []

-- the entries of a type with its mark, if there is one
abbrev pub maybe_type_entries : Nesting → Option TypeTree → List Entry
maybe_type_entries around None = []
maybe_type_entries around (Some type) = plain ∷ type_entries around.types type

-- the entries of a local
abbrev pub local_entries : Nesting → LocalTree → List Entry
local_entries around (tree.Typed word type declarators) =
    word_entries word ++ (type_entries around.types type ++ declarators_entries around declarators)
local_entries around (tree.Inferred binding word name type value) =
    plain ∷ plain ∷ (maybe_type_entries around type ++ plain ∷ whole_entries around value)

-- the entries of a simple statement
abbrev pub simple_entries : Nesting → SimpleTree → List Entry
simple_entries around (tree.Assign assignment token place value) =
    whole_entries around place
    ++ (replicate (assignment_tokens assignment) plain ++ whole_entries around value)
simple_entries around (tree.PostfixStep step place token) = whole_entries around place ++ plain ∷ []
simple_entries around (tree.PrefixStep step token place) = plain ∷ whole_entries around place
simple_entries around (tree.CallStatement call) = whole_entries around call

-- the entries of what a `for` begins with, and the semicolon
abbrev pub start_entries : Nesting → StartTree → List Entry
start_entries around tree.NoStart = plain ∷ []
start_entries around (tree.LocalStart local) = local_entries around local ++ plain ∷ []
start_entries around (tree.SimpleStart simple) = simple_entries around simple ++ plain ∷ []

-- the entries of an expression, if there is one, and the semicolon
abbrev pub maybe_expr_entries : Nesting → Option ExprTree → List Entry
maybe_expr_entries around None = plain ∷ []
maybe_expr_entries around (Some value) = whole_entries around value ++ plain ∷ []

-- the entries of a simple statement, if there is one, and the closing bracket
abbrev pub maybe_simple_entries : Nesting → Option SimpleTree → List Entry
maybe_simple_entries around None = plain ∷ []
maybe_simple_entries around (Some simple) = simple_entries around simple ++ plain ∷ []

-- the entries of a condition in its brackets
abbrev pub condition_entries : Nesting → ExprTree → List Entry
condition_entries around condition =
    let inside = in_bracket around in
    opens inside.brackets ∷ (whole_entries inside condition ++ plain ∷ [])

-- the entries of statements, inside what is open
abbrev mutual
  pub stmt_entries : Nesting → StmtTree → List Entry
  stmt_entries around (tree.Block opening stmts) =
      let inside = in_block around in opens inside.blocks ∷ stmts_entries inside stmts
  stmt_entries around (tree.Local local) = local_entries around local ++ plain ∷ []
  stmt_entries around (tree.Simple simple) = simple_entries around simple ++ plain ∷ []
  stmt_entries around (tree.Empty semicolon) = plain ∷ []
  stmt_entries around (tree.Return word value) = plain ∷ maybe_expr_entries around value
  stmt_entries around (tree.Break word) = plain ∷ plain ∷ []
  stmt_entries around (tree.Continue word) = plain ∷ plain ∷ []
  stmt_entries around (tree.If word condition yes') =
      let inside = in_statement around in
      plain ∷ (condition_entries around condition
      ++ led_by (opens inside.statements) (stmt_entries inside yes'))
  stmt_entries around (tree.IfElse word condition yes' no') =
      let inside = in_statement around in
      plain ∷ (condition_entries around condition
      ++ (led_by (opens inside.statements) (stmt_entries inside yes')
      ++ plain ∷ led_by (opens inside.statements) (stmt_entries inside no')))
  stmt_entries around (tree.While word condition body) =
      let inside = in_statement around in
      plain ∷ (condition_entries around condition
      ++ led_by (opens inside.statements) (stmt_entries inside body))
  stmt_entries around (tree.For word start condition step body) =
      let bracket = in_bracket around in
      let inside = in_statement around in
      plain ∷ opens bracket.brackets ∷ (start_entries bracket start
      ++ (maybe_expr_entries bracket condition
      ++ (maybe_simple_entries bracket step
      ++ led_by (opens inside.statements) (stmt_entries inside body))))

  -- statements, and the closing brace
  pub stmts_entries : Nesting → StmtTrees → List Entry
  stmts_entries around NoStmts = plain ∷ []
  stmts_entries around (MoreStmts first more) =
      stmt_entries around first ++ stmts_entries around more
