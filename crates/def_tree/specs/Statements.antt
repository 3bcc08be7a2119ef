-- The grammar of statements.
use Rattle.std.specs.Prelude.{◌≡◌, Bool, true, false, List, [], ◌∷◌, Option, Some, None, IsTrue, codes}
use Prim.Native.String.{String}
use Rattle.def_token.specs.Lexical.{Token}
use Rattle.def_tree.specs.Symbol.{Is, IsName, is_sign, symbol}
use Rattle.def_tree.specs.TypeTree.{TypeTree}
use Rattle.def_tree.specs.Types.{IsType}
use Rattle.def_tree.specs.Operator.{Assignment, assignment_text, Step, step_text, sign_at}
use Rattle.def_tree.specs.ExprTree as expr
use Rattle.def_tree.specs.ExprTree.{ExprTree, ExprTrees, NoExprs}
use Rattle.def_tree.specs.Expressions.{IsExpr, IsExprList}
use Rattle.def_tree.specs.StmtTree as tree
use Rattle.def_tree.specs.StmtTree.{Binding, Let, Var, Declarator, InitTree, LocalTree, SimpleTree, StartTree, StmtTree, StmtTrees, NoStmts, MoreStmts}

-- how the word of a local is written
abbrev pub binding_text : Binding → String
binding_text Let = "let"
binding_text Var = "var"

-- an expression is a call
abbrev pub is_call : ExprTree → Bool
is_call (expr.Call callee opening args) = true
is_call _ = false

-- tokens begin with a sign
abbrev pub begins_with : String → List Token → Bool
begins_with sign [] = false
begins_with sign (token ∷ tokens) = is_sign sign (symbol token)

-- Init = Expr | "{" [ Expr { "," Expr } ] "}"
pub data IsInit : List Token → InitTree → List Token → Type 0 where
  of_value : {tokens rest : List Token} {value : ExprTree}
      → IsExpr tokens value rest
      → IsInit tokens (tree.Value value) rest
  of_no_fields : {opening closing : Token} {rest : List Token}
      → Is "{" opening → Is "}" closing
      → IsInit (opening ∷ closing ∷ rest) (tree.Fields opening NoExprs) rest
  of_fields : {opening closing : Token} {tokens rest : List Token} {values : ExprTrees}
      → Is "{" opening → IsExprList tokens values (closing ∷ rest) → Is "}" closing
      → IsInit (opening ∷ tokens) (tree.Fields opening values) rest

-- [ "=" Init ]
pub data MayHaveInit : List Token → Option InitTree → List Token → Type 0 where
  without_init : {rest : List Token} → MayHaveInit rest None rest
  with_init : {equals : Token} {tokens rest : List Token} {init : InitTree}
      → Is "=" equals → IsInit tokens init rest
      → MayHaveInit (equals ∷ tokens) (Some init) rest

-- Name [ "=" Init ] { "," Name [ "=" Init ] }
pub data AreDeclarators : List Token → List Declarator → List Token → Type 0 where
  last_declarator : {name : Token} {tokens rest : List Token} {init : Option InitTree}
      → IsName name → MayHaveInit tokens init rest
      → AreDeclarators (name ∷ tokens) (record { name = name; init = init } ∷ []) rest
  more_declarators : {name comma : Token} {tokens behind rest : List Token} {init : Option InitTree}
      {declarators : List Declarator}
      → IsName name → MayHaveInit tokens init (comma ∷ behind) → Is "," comma
      → AreDeclarators behind declarators rest
      → AreDeclarators (name ∷ tokens) (record { name = name; init = init } ∷ declarators) rest

-- [ ":" Type ]
pub data MayHaveType : List Token → Option TypeTree → List Token → Type 0 where
  without_type : {rest : List Token} → MayHaveType rest None rest
  with_type : {colon : Token} {tokens rest : List Token} {type : TypeTree}
      → Is ":" colon → IsType tokens type rest
      → MayHaveType (colon ∷ tokens) (Some type) rest

-- Local = [ "const" ] Type Name [ "=" Init ] { "," Name [ "=" Init ] }
--       | ( "let" | "var" ) Name [ ":" Type ] "=" Expr
pub data IsLocal : List Token → LocalTree → List Token → Type 0 where
  of_type : {tokens behind rest : List Token} {type : TypeTree} {declarators : List Declarator}
      → IsType tokens type behind → AreDeclarators behind declarators rest
      → IsLocal tokens (tree.Typed None type declarators) rest
  of_const : {word : Token} {tokens behind rest : List Token} {type : TypeTree}
      {declarators : List Declarator}
      → Is "const" word → IsType tokens type behind → AreDeclarators behind declarators rest
      → IsLocal (word ∷ tokens) (tree.Typed (Some word) type declarators) rest
  of_binding : {binding : Binding} {word name equals : Token} {tokens behind rest : List Token}
      {type : Option TypeTree} {value : ExprTree}
      → Is (binding_text binding) word → IsName name → MayHaveType tokens type (equals ∷ behind)
      → Is "=" equals → IsExpr behind value rest
      → IsLocal (word ∷ name ∷ tokens) (tree.Inferred binding word name type value) rest

-- Simple = Expr ( "=" | "+=" | "-=" | "*=" | "/=" | "%=" | "&=" | "|=" | "^=" | "<<=" | ">>=" )
--     Expr | Expr "++" | Expr "--" | "++" Expr | "--" Expr | Expr
-- An expression alone is a call.
pub data IsSimple : List Token → SimpleTree → List Token → Type 0 where
  of_assignment : {assignment : Assignment} {token : Token} {tokens after behind rest : List Token}
      {place value : ExprTree}
      → IsExpr tokens place (token ∷ after)
      → sign_at (token ∷ after) ≡ (codes (assignment_text assignment), behind)
      → IsExpr behind value rest
      → IsSimple tokens (tree.Assign assignment token place value) rest
  of_postfix_step : {step : Step} {token : Token} {tokens rest : List Token} {place : ExprTree}
      → IsExpr tokens place (token ∷ rest) → Is (step_text step) token
      → IsSimple tokens (tree.PostfixStep step place token) rest
  of_prefix_step : {step : Step} {token : Token} {tokens rest : List Token} {place : ExprTree}
      → Is (step_text step) token → IsExpr tokens place rest
      → IsSimple (token ∷ tokens) (tree.PrefixStep step token place) rest
  of_call_statement : {tokens rest : List Token} {call : ExprTree}
      → IsExpr tokens call rest → IsTrue (is_call call)
      → IsSimple tokens (tree.CallStatement call) rest

-- the tokens begin with no Local that a semicolon ends
abbrev pub NoLocal : List Token → Type 0
NoLocal tokens =
    (local : LocalTree) (semicolon : Token) (rest : List Token)
    → IsLocal tokens local (semicolon ∷ rest) → Is ";" semicolon → ⊥

-- [ Local | Simple ] ";"
-- What is both a Local and a Simple is a Local.
pub data IsStart : List Token → StartTree → List Token → Type 0 where
  without_start : {semicolon : Token} {rest : List Token}
      → Is ";" semicolon
      → IsStart (semicolon ∷ rest) tree.NoStart rest
  with_local : {semicolon : Token} {tokens rest : List Token} {local : LocalTree}
      → IsLocal tokens local (semicolon ∷ rest) → Is ";" semicolon
      → IsStart tokens (tree.LocalStart local) rest
  with_simple : {semicolon : Token} {tokens rest : List Token} {simple : SimpleTree}
      → IsSimple tokens simple (semicolon ∷ rest) → Is ";" semicolon → NoLocal tokens
      → IsStart tokens (tree.SimpleStart simple) rest

-- [ Expr ] ";"
pub data MayBeExpr : List Token → Option ExprTree → List Token → Type 0 where
  without_expr : {semicolon : Token} {rest : List Token}
      → Is ";" semicolon
      → MayBeExpr (semicolon ∷ rest) None rest
  with_expr : {semicolon : Token} {tokens rest : List Token} {value : ExprTree}
      → IsExpr tokens value (semicolon ∷ rest) → Is ";" semicolon
      → MayBeExpr tokens (Some value) rest

-- [ Simple ] ")"
pub data MayBeSimple : List Token → Option SimpleTree → List Token → Type 0 where
  without_simple : {closing : Token} {rest : List Token}
      → Is ")" closing
      → MayBeSimple (closing ∷ rest) None rest
  with_step : {closing : Token} {tokens rest : List Token} {simple : SimpleTree}
      → IsSimple tokens simple (closing ∷ rest) → Is ")" closing
      → MayBeSimple tokens (Some simple) rest

-- "(" Expr ")"
pub data IsCondition : List Token → ExprTree → List Token → Type 0 where
  of_brackets : {opening closing : Token} {tokens rest : List Token} {condition : ExprTree}
      → Is "(" opening → IsExpr tokens condition (closing ∷ rest) → Is ")" closing
      → IsCondition (opening ∷ tokens) condition rest

mutual
  -- Stmt = Block | Local ";" | Simple ";" | ";" | "return" [ Expr ] ";" | "break" ";"
  --     | "continue" ";" | "if" "(" Expr ")" Stmt [ "else" Stmt ] | "while" "(" Expr ")" Stmt
  --     | "for" "(" [ Local | Simple ] ";" [ Expr ] ";" [ Simple ] ")" Stmt
  -- An `if` without `else` stands before no `else`, which would be its own.
  pub data IsStmt : List Token → StmtTree → List Token → Type 0 where
    of_block : {opening : Token} {tokens rest : List Token} {stmts : StmtTrees}
        → Is "{" opening → AreStmts tokens stmts rest
        → IsStmt (opening ∷ tokens) (tree.Block opening stmts) rest
    of_local : {semicolon : Token} {tokens rest : List Token} {local : LocalTree}
        → IsLocal tokens local (semicolon ∷ rest) → Is ";" semicolon
        → IsStmt tokens (tree.Local local) rest
    of_simple : {semicolon : Token} {tokens rest : List Token} {simple : SimpleTree}
        → IsSimple tokens simple (semicolon ∷ rest) → Is ";" semicolon → NoLocal tokens
        → IsStmt tokens (tree.Simple simple) rest
    of_nothing : {semicolon : Token} {rest : List Token}
        → Is ";" semicolon
        → IsStmt (semicolon ∷ rest) (tree.Empty semicolon) rest
    of_return : {word : Token} {tokens rest : List Token} {value : Option ExprTree}
        → Is "return" word → MayBeExpr tokens value rest
        → IsStmt (word ∷ tokens) (tree.Return word value) rest
    of_break : {word semicolon : Token} {rest : List Token}
        → Is "break" word → Is ";" semicolon
        → IsStmt (word ∷ semicolon ∷ rest) (tree.Break word) rest
    of_continue : {word semicolon : Token} {rest : List Token}
        → Is "continue" word → Is ";" semicolon
        → IsStmt (word ∷ semicolon ∷ rest) (tree.Continue word) rest
    of_if : {word : Token} {tokens behind rest : List Token} {condition : ExprTree}
        {yes' : StmtTree}
        → Is "if" word → IsCondition tokens condition behind → IsStmt behind yes' rest
        → begins_with "else" rest ≡ false
        → IsStmt (word ∷ tokens) (tree.If word condition yes') rest
    of_if_else : {word otherwise : Token} {tokens behind after rest : List Token}
        {condition : ExprTree}
        {yes' no' : StmtTree}
        → Is "if" word → IsCondition tokens condition behind
        → IsStmt behind yes' (otherwise ∷ after)
        → Is "else" otherwise → IsStmt after no' rest
        → IsStmt (word ∷ tokens) (tree.IfElse word condition yes' no') rest
    of_while : {word : Token} {tokens behind rest : List Token} {condition : ExprTree}
        {body : StmtTree}
        → Is "while" word → IsCondition tokens condition behind → IsStmt behind body rest
        → IsStmt (word ∷ tokens) (tree.While word condition body) rest
    of_for : {word opening : Token} {tokens second third behind rest : List Token}
        {start : StartTree}
        {condition : Option ExprTree} {step : Option SimpleTree} {body : StmtTree}
        → Is "for" word → Is "(" opening → IsStart tokens start second
        → MayBeExpr second condition third → MayBeSimple third step behind → IsStmt behind body rest
        → IsStmt (word ∷ opening ∷ tokens) (tree.For word start condition step body) rest

  -- { Stmt } "}"
  pub data AreStmts : List Token → StmtTrees → List Token → Type 0 where
    no_stmts : {closing : Token} {rest : List Token}
        → Is "}" closing
        → AreStmts (closing ∷ rest) NoStmts rest
    more_stmts : {tokens behind rest : List Token} {stmt : StmtTree} {stmts : StmtTrees}
        → IsStmt tokens stmt behind → AreStmts behind stmts rest
        → AreStmts tokens (MoreStmts stmt stmts) rest
