-- How statements are read: the function that the readers of statements are.
use Rattle.std.specs.Prelude.{ℕ, zero, suc, Bool, true, false, ◌&&◌, List, [], ◌∷◌, length, replicate, Option, Some, None}
use Prim.Native.String.{String}
use Rattle.def_token.specs.Lexical.{Token}
use Rattle.def_tree.specs.ExprTree.{ExprTree, ExprTrees, NoExprs, MoreExprs}
use Rattle.def_tree.specs.Limits.{Nesting, Entry, plain, opens, in_bracket, in_block, in_statement, assignment_tokens}
use Rattle.def_tree.specs.Operator.{Assignment, Set, AddTo, SubtractFrom, MultiplyBy, DivideBy, RemainderBy, BitAndWith, BitOrWith, BitXorWith, ShiftLeftBy, ShiftRightBy, assignment_text, Increment, Decrement, sign_at}
use Rattle.def_tree.specs.Statements.{is_call, begins_with}
use Rattle.def_tree.specs.StmtTree as tree
use Rattle.def_tree.specs.StmtTree.{Binding, Let, Var, Declarator, InitTree, LocalTree, SimpleTree, StartTree, StmtTree, StmtTrees, NoStmts, MoreStmts}
use Rattle.def_tree.specs.Symbol.{symbol, is_sign}
use Rattle.def_tree.specs.TypeTree.{TypeTree}
use Rattle.def_reading.specs.Machine.{sign_of, written}
use Rattle.def_reading.specs.Cursor.{Cursor, At, passed, FarthestFailure}
use Rattle.def_reading.specs.Try.{Try, Reads, Reader, try_then, try_as, or_else, refused, opened, choice, token_then, up_to, listed, ahead, expr_in, type_in, read_by}
use Rattle.def_reading.specs.TypeAhead.{LookAhead, Found, Missing, names, type_ahead}
use Rattle.def_reading.specs.TypeReading.{Reading}

-- initialisers
abbrev pub values_in : Nesting → Reader ExprTrees
values_in around reach place =
    listed MoreExprs NoExprs (expr_in false around) (suc (length (ahead place))) reach place

-- the values of fields behind an opening brace
abbrev pub fields_in : Nesting → Token → Reader InitTree
fields_in around opening =
    choice (is_sign "}") plain
    (λ closing reach place. Reads (tree.Fields opening NoExprs) place reach)
    (λ reach place. try_as (tree.Fields opening)
    (up_to (is_sign "}") (values_in around reach place)))

-- an initialiser
abbrev pub init_in : Nesting → Reader InitTree
init_in around =
    choice (is_sign "{") plain (fields_in around)
    (λ reach place. try_as tree.Value (expr_in false around reach place))

-- an initialiser behind its mark, if there is one
abbrev pub maybe_init_in : Nesting → Reader (Option InitTree)
maybe_init_in around =
    choice (is_sign "=") plain (λ equals reach place. try_as Some (init_in around reach place))
    (λ reach place. Reads None place reach)

-- a name with its initialiser
abbrev pub declarator : Token → Option InitTree → Declarator
declarator name init = record { name = name; init = init }

-- a name with its initialiser, if there is one
abbrev pub declarator_in : Nesting → Reader Declarator
declarator_in around =
    token_then names plain (λ name reach place.
    try_as (declarator name) (maybe_init_in around reach place))

-- a declarator before others
abbrev pub with_more : Declarator → List Declarator → List Declarator
with_more first more = first ∷ more

-- declarators with a comma between them
abbrev pub declarators_in : Nesting → Reader (List Declarator)
declarators_in around reach place =
    listed with_more [] (declarator_in around) (suc (length (ahead place))) reach place

-- a local with its type
abbrev pub typed_in : Nesting → Option Token → Reader LocalTree
typed_in around word reach place =
    try_then (λ type reach place. try_as (tree.Typed word type) (declarators_in around reach place))
    (type_in around reach place)

-- a type behind its mark, if there is one
abbrev pub maybe_type_in : Nesting → Reader (Option TypeTree)
maybe_type_in around =
    choice (is_sign ":") plain (λ colon reach place. try_as Some (type_in around reach place))
    (λ reach place. Reads None place reach)

-- the value of a local behind its mark
abbrev pub valued_in : Nesting → (ExprTree → LocalTree) → Reader LocalTree
valued_in around make =
    token_then (is_sign "=") plain
    (λ equals reach place. try_as make (expr_in false around reach place))

-- a local whose type need not be written
abbrev pub inferred_in : Nesting → Binding → Token → Reader LocalTree
inferred_in around binding word =
    token_then names plain (λ name reach place.
    try_then (λ type. valued_in around (tree.Inferred binding word name type))
    (maybe_type_in around reach place))

-- a local
abbrev pub local_in : Nesting → Reader LocalTree
local_in around =
    choice (is_sign "let") plain (inferred_in around Let)
    (choice (is_sign "var") plain (inferred_in around Var)
    (choice (is_sign "const") plain (λ word. typed_in around (Some word)) (typed_in around None)))

-- all assignments
abbrev pub assignments : List Assignment
assignments =
    Set ∷ AddTo ∷ SubtractFrom ∷ MultiplyBy ∷ DivideBy ∷ RemainderBy ∷ BitAndWith ∷ BitOrWith
    ∷ BitXorWith
    ∷ ShiftLeftBy ∷ ShiftRightBy ∷ []

-- the assignment with which tokens begin, if they do
abbrev pub assignment_at : List Token → Option Assignment
assignment_at tokens = written assignment_text assignments (sign_at tokens).0

-- an expression alone is a call
abbrev pub alone_by : Bool → ExprTree → Reader SimpleTree
alone_by true call reach place = Reads (tree.CallStatement call) place reach
alone_by false call reach place = refused reach place

-- an expression with no assignment behind it
abbrev pub stepped_in : ExprTree → Reader SimpleTree
stepped_in expr =
    choice (is_sign "++") plain
    (λ token reach place. Reads (tree.PostfixStep Increment expr token) place reach)
    (choice (is_sign "--") plain
    (λ token reach place. Reads (tree.PostfixStep Decrement expr token) place reach)
    (alone_by (is_call expr) expr))

-- an assignment of an expression, or what else stands behind it
abbrev pub assigned_by : Nesting → Option Assignment → ExprTree → Option FarthestFailure → Token
    → Cursor → Try SimpleTree
assigned_by around None expr reach token place = stepped_in expr reach place
assigned_by around (Some assignment) expr reach token place =
    try_as (tree.Assign assignment token expr)
    (expr_in false around reach (passed (replicate (assignment_tokens assignment) plain) place))

-- what stands behind the expression with which a simple statement begins
abbrev pub assigned_in : Nesting → ExprTree → Reader SimpleTree
assigned_in around expr reach (At at limit []) = alone_by (is_call expr) expr reach (At at limit [])
assigned_in around expr reach (At at limit (token ∷ tokens)) =
    assigned_by around (assignment_at (token ∷ tokens)) expr reach token
    (At at limit (token ∷ tokens))

-- simple statements
abbrev pub simple_in : Nesting → Reader SimpleTree
simple_in around =
    choice (is_sign "++") plain
    (λ token reach place. try_as (tree.PrefixStep Increment token)
    (expr_in false around reach place))
    (choice (is_sign "--") plain
    (λ token reach place. try_as (tree.PrefixStep Decrement token)
    (expr_in false around reach place))
    (λ reach place. try_then (assigned_in around) (expr_in true around reach place)))

-- a name and `=` behind it
abbrev pub names_a_value : List Token → Bool
names_a_value [] = false
names_a_value (name ∷ tokens) = names (symbol name) && begins_with "=" tokens

-- a name and `=` stand behind a type that is found
abbrev pub values_behind : LookAhead TypeTree → Bool
values_behind (Found type place) = names_a_value (ahead place)
values_behind (Missing place) = false

-- A type, a name and `=` stand at a place: whatever else goes on there is a local.
abbrev pub declares : Nesting → Cursor → Bool
declares around place = values_behind (type_ahead (length (ahead place)) around.types place)

-- a local up to a semicolon
abbrev pub local_up_to : {A : Type 0} → (LocalTree → A) → Nesting → Reader A
local_up_to local around reach place =
    try_as local (up_to (is_sign ";") (local_in around reach place))

-- a simple statement up to a semicolon
abbrev pub simple_up_to : {A : Type 0} → (SimpleTree → A) → Nesting → Reader A
simple_up_to simple around reach place =
    try_as simple (up_to (is_sign ";") (simple_in around reach place))

-- a local alone, or a local or else a simple statement
abbrev pub either_by : {A : Type 0} → Bool → (LocalTree → A) → (SimpleTree → A) → Nesting → Reader A
either_by true local simple around reach place = local_up_to local around reach place
either_by false local simple around reach place =
    or_else (simple_up_to simple around) place (local_up_to local around reach place)

-- A local up to a semicolon, or else a simple statement. What is both is a local.
abbrev pub either_in : {A : Type 0} → (LocalTree → A) → (SimpleTree → A) → Nesting → Reader A
either_in local simple around reach place =
    either_by (declares around place) local simple around reach place

-- heads of loops
abbrev pub start_in : Nesting → Reader StartTree
start_in around =
    choice (is_sign ";") plain (λ semicolon reach place. Reads tree.NoStart place reach)
    (either_in tree.LocalStart tree.SimpleStart around)

-- an expression up to a semicolon, if there is one
abbrev pub maybe_expr_in : Nesting → Reader (Option ExprTree)
maybe_expr_in around =
    choice (is_sign ";") plain (λ semicolon reach place. Reads None place reach)
    (λ reach place. try_as Some (up_to (is_sign ";") (expr_in false around reach place)))

-- a simple statement up to a closing bracket, if there is one
abbrev pub maybe_simple_in : Nesting → Reader (Option SimpleTree)
maybe_simple_in around =
    choice (is_sign ")") plain (λ closing reach place. Reads None place reach)
    (λ reach place. try_as Some (up_to (is_sign ")") (simple_in around reach place)))

-- an expression in brackets
abbrev pub condition_in : Nesting → Reader ExprTree
condition_in around =
    let inside = in_bracket around in
    token_then (is_sign "(") (opens inside.brackets)
    (λ opening reach place. up_to (is_sign ")") (expr_in false inside reach place))

-- the signs with which statements begin that are no locals and no simple statements
pub data Opening : Type 0 where
  Brace : Opening
  Semicolon : Opening
  Return : Opening
  Break : Opening
  Continue : Opening
  If : Opening
  While : Opening
  For : Opening

-- how these signs are written
abbrev pub opening_text : Opening → String
opening_text Brace = "{"
opening_text Semicolon = ";"
opening_text Return = "return"
opening_text Break = "break"
opening_text Continue = "continue"
opening_text If = "if"
opening_text While = "while"
opening_text For = "for"

-- all of them
abbrev pub openings : List Opening
openings = Brace ∷ Semicolon ∷ Return ∷ Break ∷ Continue ∷ If ∷ While ∷ For ∷ []

-- statements up to the closing brace, in at most so many turns
abbrev pub stmts_in : Reader StmtTree → ℕ → Reader StmtTrees
stmts_in stmt zero reach place = refused reach place
stmts_in stmt (suc turns) reach place =
    choice (is_sign "}") plain (λ closing reach place. Reads NoStmts place reach)
    (λ reach place.
    try_then (λ first reach place. try_as (MoreStmts first) (stmts_in stmt turns reach place))
    (stmt reach place))
    reach place

-- a word alone
abbrev pub ended_in : StmtTree → Reader StmtTree
ended_in stmt = token_then (is_sign ";") plain (λ semicolon reach place. Reads stmt place reach)

module _ (around : Nesting) (stmt : Nesting → Reader StmtTree) where
  -- a statement behind `if (..)`, `else`, `while (..)` or `for (..)`
  abbrev pub body_in : Reader StmtTree
  body_in reach place =
      let inside = in_statement around in stmt inside reach (opened (opens inside.statements) place)

  abbrev pub block_in : Token → Reader StmtTree
  block_in opening reach place =
      try_as (tree.Block opening)
      (stmts_in (stmt (in_block around)) (suc (length (ahead place))) reach place)

  -- `else` belongs to the nearest `if`
  abbrev pub else_in : Token → ExprTree → StmtTree → Reader StmtTree
  else_in word condition yes' =
      choice (is_sign "else") plain
      (λ otherwise reach place. try_as (tree.IfElse word condition yes') (body_in reach place))
      (λ reach place. Reads (tree.If word condition yes') place reach)

  abbrev pub if_in : Token → Reader StmtTree
  if_in word reach place =
      try_then (λ condition reach place. try_then (else_in word condition) (body_in reach place))
      (condition_in around reach place)

  abbrev pub while_in : Token → Reader StmtTree
  while_in word reach place =
      try_then (λ condition reach place. try_as (tree.While word condition) (body_in reach place))
      (condition_in around reach place)

  abbrev pub for_in : Token → Reader StmtTree
  for_in word =
      let bracket = in_bracket around in
      token_then (is_sign "(") (opens bracket.brackets) (λ opening reach place.
      try_then (λ start reach place.
      try_then (λ condition reach place.
      try_then (λ step reach place.
      try_as (tree.For word start condition step) (body_in reach place))
      (maybe_simple_in bracket reach place)) (maybe_expr_in bracket reach place))
      (start_in bracket reach place))

  -- a statement behind the sign with which it begins
  abbrev pub behind_in : Opening → Token → Reader StmtTree
  behind_in Brace token reach place = block_in token reach place
  behind_in Semicolon token reach place = Reads (tree.Empty token) place reach
  behind_in Return token reach place = try_as (tree.Return token) (maybe_expr_in around reach place)
  behind_in Break token reach place = ended_in (tree.Break token) reach place
  behind_in Continue token reach place = ended_in (tree.Continue token) reach place
  behind_in If token reach place = if_in token reach place
  behind_in While token reach place = while_in token reach place
  behind_in For token reach place = for_in token reach place

  -- what ends at the sign with which a statement begins
  abbrev pub opening_entry : Opening → Entry
  opening_entry Brace = opens (in_block around).blocks
  opening_entry _ = plain

  abbrev pub stmt_by : Option Opening → Option FarthestFailure → Token → Cursor → Try StmtTree
  stmt_by None reach token place = either_in tree.Local tree.Simple around reach place
  stmt_by (Some opening) reach token place =
      behind_in opening token reach (passed (opening_entry opening ∷ []) place)

  abbrev pub stmt_at : Reader StmtTree
  stmt_at reach (At at limit []) = refused reach (At at limit [])
  stmt_at reach (At at limit (token ∷ tokens)) =
      stmt_by (sign_of opening_text openings (symbol token)) reach token
      (At at limit (token ∷ tokens))

-- statements that nest at most so deep
abbrev pub stmt_in : ℕ → Nesting → Reader StmtTree
stmt_in zero around reach place = refused reach place
stmt_in (suc turns) around reach place = stmt_at around (stmt_in turns) reach place

-- a statement inside what is open
abbrev pub stmt_of : Nesting → List Token → Reading StmtTree
stmt_of around tokens = read_by (stmt_in (suc (length tokens)) around None (At 0 None tokens))
