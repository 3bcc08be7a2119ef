-- Where a limit stands before statements and their parts that no way reaches, whatever is read of them tells it.
use Rattle.std.proofs.Common.{ℕ, zero, suc, ◌<◌, Bool, true, false, List, [], ◌∷◌, length}
use Rattle.std.specs.Prelude.{Option, Some, None, replicate}
use Rattle.def_token.specs.Lexical.{Token}
use Rattle.def_tree.specs.ExprTree.{ExprTree, NoExprs, MoreExprs}
use Rattle.def_tree.specs.Limits.{Nesting, Entry, plain, opens, in_bracket, in_block, in_statement, assignment_tokens}
use Rattle.def_tree.specs.Operator.{Assignment, Increment, Decrement}
use Rattle.def_tree.specs.Statements.{is_call}
use Rattle.def_tree.specs.StmtTree as tree
use Rattle.def_tree.specs.StmtTree.{Binding, Let, Var, InitTree, LocalTree, SimpleTree, StmtTree, NoStmts, MoreStmts}
use Rattle.def_tree.specs.Symbol.{symbol, is_sign}
use Rattle.def_tree.specs.TypeTree.{TypeTree}
use Rattle.def_reading.specs.Machine.{sign_of}
use Rattle.def_reading.specs.Cursor.{Told, Cursor, At, passed, FarthestFailure}
use Rattle.def_reading.specs.StmtReading.{values_in, fields_in, init_in, maybe_init_in, declarator, declarator_in, with_more, declarators_in, typed_in, maybe_type_in, valued_in, inferred_in, local_in, assignment_at, alone_by, stepped_in, assigned_by, assigned_in, simple_in, declares, local_up_to, simple_up_to, either_by, either_in, start_in, maybe_expr_in, maybe_simple_in, condition_in, Opening, Brace, Semicolon, Return, Break, Continue, If, While, For, opening_text, openings, stmts_in, ended_in, body_in, block_in, else_in, if_in, while_in, for_in, behind_in, opening_entry, stmt_by, stmt_at, stmt_in}
use Rattle.def_reading.specs.Try.{Reads, Reader, try_then, try_as, opened, choice, up_to, listed, ahead, expr_in, type_in}
use Rattle.def_reading.specs.TypeAhead.{names}
use Rattle.sl_stmt.specs.Settling.{IsOver, IsDecided}
use Rattle.sl_stmt.proofs.Deciding.{Decides, decides_refused, decides_end, decides_as, decides_then, decides_behind, decides_choice, decides_token, decides_up_to, decides_else, decides_listed, decides_type, decides_expr}

-- a reader with as many turns as there are tokens
decides_ahead : {A : Type 0} (reader : ℕ → Reader A) → ((turns : ℕ) → Decides (reader turns)) → Decides (λ reach place. reader (suc (length (ahead place))) reach place)
decides_ahead reader k told at tokens reach h o = k (suc (length tokens)) told at tokens reach h o

decides_values : (around : Nesting) → Decides (values_in around)
decides_values around = decides_ahead (listed MoreExprs NoExprs (expr_in false around)) (decides_listed MoreExprs NoExprs (expr_in false around) (decides_expr false around))

decides_fields : (around : Nesting) (opening : Token) → Decides (fields_in around opening)
decides_fields around opening =
    decides_choice (is_sign "}") plain (λ closing reach place. Reads (tree.Fields opening NoExprs) place reach)
    (λ reach place. try_as (tree.Fields opening) (up_to (is_sign "}") (values_in around reach place))) (λ closing. decides_end (tree.Fields opening NoExprs))
    (decides_as (tree.Fields opening) (λ reach place. up_to (is_sign "}") (values_in around reach place)) (decides_up_to (is_sign "}") (values_in around) (decides_values around)))

decides_init : (around : Nesting) → Decides (init_in around)
decides_init around =
    decides_choice (is_sign "{") plain (fields_in around) (λ reach place. try_as tree.Value (expr_in false around reach place)) (decides_fields around)
    (decides_as tree.Value (expr_in false around) (decides_expr false around))

decides_maybe_init : (around : Nesting) → Decides (maybe_init_in around)
decides_maybe_init around =
    decides_choice (is_sign "=") plain (λ equals reach place. try_as Some (init_in around reach place)) (λ reach place. Reads None place reach)
    (λ equals. decides_as Some (init_in around) (decides_init around)) (decides_end {A = Option InitTree} None)

decides_declarator : (around : Nesting) → Decides (declarator_in around)
decides_declarator around =
    decides_token names plain (λ name reach place. try_as (declarator name) (maybe_init_in around reach place)) (λ name. decides_as (declarator name) (maybe_init_in around) (decides_maybe_init around))

decides_declarators : (around : Nesting) → Decides (declarators_in around)
decides_declarators around = decides_ahead (listed with_more [] (declarator_in around)) (decides_listed with_more [] (declarator_in around) (decides_declarator around))

decides_typed : (around : Nesting) (word : Option Token) → Decides (typed_in around word)
decides_typed around word =
    decides_then (λ type reach place. try_as (tree.Typed word type) (declarators_in around reach place)) (type_in around) (decides_type around)
    (λ type. decides_as (tree.Typed word type) (declarators_in around) (decides_declarators around))

decides_maybe_type : (around : Nesting) → Decides (maybe_type_in around)
decides_maybe_type around =
    decides_choice (is_sign ":") plain (λ colon reach place. try_as Some (type_in around reach place)) (λ reach place. Reads None place reach)
    (λ colon. decides_as Some (type_in around) (decides_type around)) (decides_end {A = Option TypeTree} None)

decides_valued : (around : Nesting) (make : ExprTree → LocalTree) → Decides (valued_in around make)
decides_valued around make =
    decides_token (is_sign "=") plain (λ equals reach place. try_as make (expr_in false around reach place)) (λ equals. decides_as make (expr_in false around) (decides_expr false around))

decides_inferred : (around : Nesting) (binding : Binding) (word : Token) → Decides (inferred_in around binding word)
decides_inferred around binding word =
    decides_token names plain (λ name reach place. try_then (λ type. valued_in around (tree.Inferred binding word name type)) (maybe_type_in around reach place))
    (λ name. decides_then (λ type. valued_in around (tree.Inferred binding word name type)) (maybe_type_in around) (decides_maybe_type around)
    (λ type. decides_valued around (tree.Inferred binding word name type)))

decides_local : (around : Nesting) → Decides (local_in around)
decides_local around =
    let typed = choice (is_sign "const") plain (λ word. typed_in around (Some word)) (typed_in around None) in
    decides_choice (is_sign "let") plain (inferred_in around Let) (choice (is_sign "var") plain (inferred_in around Var) typed) (decides_inferred around Let)
    (decides_choice (is_sign "var") plain (inferred_in around Var) typed (decides_inferred around Var)
    (decides_choice (is_sign "const") plain (λ word. typed_in around (Some word)) (typed_in around None) (λ word. decides_typed around (Some word)) (decides_typed around None)))

decides_alone : (b : Bool) (call : ExprTree) → Decides (alone_by b call)
decides_alone true call = decides_end (tree.CallStatement call)
decides_alone false call = decides_refused SimpleTree

decides_stepped : (expr : ExprTree) → Decides (stepped_in expr)
decides_stepped expr =
    decides_choice (is_sign "++") plain (λ token reach place. Reads (tree.PostfixStep Increment expr token) place reach)
    (choice (is_sign "--") plain (λ token reach place. Reads (tree.PostfixStep Decrement expr token) place reach) (alone_by (is_call expr) expr)) (λ token. decides_end (tree.PostfixStep Increment expr token))
    (decides_choice (is_sign "--") plain (λ token reach place. Reads (tree.PostfixStep Decrement expr token) place reach) (alone_by (is_call expr) expr) (λ token. decides_end (tree.PostfixStep Decrement expr token))
    (decides_alone (is_call expr) expr))

-- a reader goes on behind so many tokens
decides_passed : {A : Type 0} (reader : Reader A) → Decides reader → (many : ℕ) → Decides (λ reach place. reader reach (passed (replicate many plain) place))
decides_passed reader k zero told at tokens reach h o = k told at tokens reach h o
decides_passed reader k (suc many) told at [] reach h o = decides_passed reader k many told at [] reach h o
decides_passed reader k (suc many) told at (token ∷ tokens) reach h o =
    decides_behind (λ reach place. reader reach (passed (replicate many plain) place)) (decides_passed reader k many) plain told at token tokens reach h o

assigned_by_decides : (around : Nesting) (o' : Option Assignment) (expr : ExprTree) (token : Token) → Decides (λ reach place. assigned_by around o' expr reach token place)
assigned_by_decides around None expr token = decides_stepped expr
assigned_by_decides around (Some assignment) expr token =
    decides_as (tree.Assign assignment token expr) (λ reach place. expr_in false around reach (passed (replicate (assignment_tokens assignment) plain) place))
    (decides_passed (expr_in false around) (decides_expr false around) (assignment_tokens assignment))

decides_assigned : (around : Nesting) (expr : ExprTree) → Decides (assigned_in around expr)
decides_assigned around expr told at [] reach h o = decides_alone (is_call expr) expr told at [] reach h o
decides_assigned around expr told at (token ∷ tokens) reach h o = assigned_by_decides around (assignment_at (token ∷ tokens)) expr token told at (token ∷ tokens) reach h o

decides_simple : (around : Nesting) → Decides (simple_in around)
decides_simple around =
    let begun = λ (reach : Option FarthestFailure) (place : Cursor). try_then (assigned_in around) (expr_in true around reach place) in
    let lowered = λ (token : Token) (reach : Option FarthestFailure) (place : Cursor). try_as (tree.PrefixStep Decrement token) (expr_in false around reach place) in
    decides_choice (is_sign "++") plain (λ token reach place. try_as (tree.PrefixStep Increment token) (expr_in false around reach place)) (choice (is_sign "--") plain lowered begun)
    (λ token. decides_as (tree.PrefixStep Increment token) (expr_in false around) (decides_expr false around))
    (decides_choice (is_sign "--") plain lowered begun (λ token. decides_as (tree.PrefixStep Decrement token) (expr_in false around) (decides_expr false around))
    (decides_then (assigned_in around) (expr_in true around) (decides_expr true around) (decides_assigned around)))

decides_local_up_to : {A : Type 0} (local : LocalTree → A) (around : Nesting) → Decides (local_up_to local around)
decides_local_up_to local around =
    decides_as local (λ reach place. up_to (is_sign ";") (local_in around reach place)) (decides_up_to (is_sign ";") (local_in around) (decides_local around))

decides_simple_up_to : {A : Type 0} (simple : SimpleTree → A) (around : Nesting) → Decides (simple_up_to simple around)
decides_simple_up_to simple around =
    decides_as simple (λ reach place. up_to (is_sign ";") (simple_in around reach place)) (decides_up_to (is_sign ";") (simple_in around) (decides_simple around))

either_by_decides : {A : Type 0} (b : Bool) (local : LocalTree → A) (simple : SimpleTree → A) (around : Nesting) → Decides (either_by b local simple around)
either_by_decides true local simple around = decides_local_up_to local around
either_by_decides false local simple around =
    decides_else (local_up_to local around) (simple_up_to simple around) (decides_local_up_to local around) (decides_simple_up_to simple around)

pub decides_either : {A : Type 0} (local : LocalTree → A) (simple : SimpleTree → A) (around : Nesting) → Decides (either_in local simple around)
decides_either local simple around told at tokens reach h o = either_by_decides (declares around (At at (Some told) tokens)) local simple around told at tokens reach h o

pub decides_start : (around : Nesting) → Decides (start_in around)
decides_start around =
    decides_choice (is_sign ";") plain (λ semicolon reach place. Reads tree.NoStart place reach) (either_in tree.LocalStart tree.SimpleStart around) (λ semicolon. decides_end tree.NoStart)
    (decides_either tree.LocalStart tree.SimpleStart around)

pub decides_maybe_expr : (around : Nesting) → Decides (maybe_expr_in around)
decides_maybe_expr around =
    decides_choice (is_sign ";") plain (λ semicolon reach place. Reads None place reach) (λ reach place. try_as Some (up_to (is_sign ";") (expr_in false around reach place))) (λ semicolon. decides_end {A = Option ExprTree} None)
    (decides_as Some (λ reach place. up_to (is_sign ";") (expr_in false around reach place)) (decides_up_to (is_sign ";") (expr_in false around) (decides_expr false around)))

pub decides_maybe_simple : (around : Nesting) → Decides (maybe_simple_in around)
decides_maybe_simple around =
    decides_choice (is_sign ")") plain (λ closing reach place. Reads None place reach) (λ reach place. try_as Some (up_to (is_sign ")") (simple_in around reach place))) (λ closing. decides_end {A = Option SimpleTree} None)
    (decides_as Some (λ reach place. up_to (is_sign ")") (simple_in around reach place)) (decides_up_to (is_sign ")") (simple_in around) (decides_simple around)))

decides_condition : (around : Nesting) → Decides (condition_in around)
decides_condition around =
    let inside = in_bracket around in
    decides_token (is_sign "(") (opens inside.brackets) (λ opening reach place. up_to (is_sign ")") (expr_in false inside reach place))
    (λ opening. decides_up_to (is_sign ")") (expr_in false inside) (decides_expr false inside))

pub decides_stmts : (stmt : Reader StmtTree) → Decides stmt → (turns : ℕ) → Decides (stmts_in stmt turns)
decides_stmts stmt k zero = decides_refused tree.StmtTrees
decides_stmts stmt k (suc turns) =
    decides_choice (is_sign "}") plain (λ closing reach place. Reads NoStmts place reach)
    (λ reach place. try_then (λ first reach place. try_as (MoreStmts first) (stmts_in stmt turns reach place)) (stmt reach place)) (λ closing. decides_end NoStmts)
    (decides_then (λ first reach place. try_as (MoreStmts first) (stmts_in stmt turns reach place)) stmt k
    (λ first. decides_as (MoreStmts first) (stmts_in stmt turns) (decides_stmts stmt k turns)))

decides_ended : (stmt : StmtTree) → Decides (ended_in stmt)
decides_ended stmt = decides_token (is_sign ";") plain (λ semicolon reach place. Reads stmt place reach) (λ semicolon. decides_end stmt)

decides_opened : {A : Type 0} (reader : Reader A) → Decides reader → (entry : Entry) → Decides (λ reach place. reader reach (opened entry place))
decides_opened reader k entry told at [] reach h o = k told at [] reach h o
decides_opened reader k None told at (token ∷ tokens) reach h o = k told at (token ∷ tokens) reach h o
decides_opened reader k (Some limit) told at (token ∷ tokens) reach h o = k told at (token ∷ tokens) reach h o

module _ (around : Nesting) (stmt : Nesting → Reader StmtTree) (k : (around : Nesting) → Decides (stmt around)) where
  pub decides_body : Decides (body_in around stmt)
  decides_body = let inside = in_statement around in decides_opened (stmt inside) (k inside) (opens inside.statements)

  decides_block : (opening : Token) → Decides (block_in around stmt opening)
  decides_block opening =
      decides_as (tree.Block opening) (λ reach place. stmts_in (stmt (in_block around)) (suc (length (ahead place))) reach place)
      (decides_ahead (stmts_in (stmt (in_block around))) (decides_stmts (stmt (in_block around)) (k (in_block around))))

  pub decides_else_in : (word : Token) (condition : ExprTree) (yes' : StmtTree) → Decides (else_in around stmt word condition yes')
  decides_else_in word condition yes' =
      decides_choice (is_sign "else") plain (λ otherwise reach place. try_as (tree.IfElse word condition yes') (body_in around stmt reach place)) (λ reach place. Reads (tree.If word condition yes') place reach)
      (λ otherwise. decides_as (tree.IfElse word condition yes') (body_in around stmt) decides_body) (decides_end (tree.If word condition yes'))

  decides_if : (word : Token) → Decides (if_in around stmt word)
  decides_if word =
      decides_then (λ condition reach place. try_then (else_in around stmt word condition) (body_in around stmt reach place)) (condition_in around) (decides_condition around)
      (λ condition. decides_then (else_in around stmt word condition) (body_in around stmt) decides_body (decides_else_in word condition))

  decides_while : (word : Token) → Decides (while_in around stmt word)
  decides_while word =
      decides_then (λ condition reach place. try_as (tree.While word condition) (body_in around stmt reach place)) (condition_in around) (decides_condition around)
      (λ condition. decides_as (tree.While word condition) (body_in around stmt) decides_body)

  decides_for : (word : Token) → Decides (for_in around stmt word)
  decides_for word =
      let bracket = in_bracket around in
      decides_token (is_sign "(") (opens bracket.brackets) (λ opening reach place.
      try_then (λ start reach place.
      try_then (λ condition reach place.
      try_then (λ step reach place. try_as (tree.For word start condition step) (body_in around stmt reach place))
      (maybe_simple_in bracket reach place)) (maybe_expr_in bracket reach place)) (start_in bracket reach place))
      (λ opening. decides_then (λ start reach place.
      try_then (λ condition reach place.
      try_then (λ step reach place. try_as (tree.For word start condition step) (body_in around stmt reach place))
      (maybe_simple_in bracket reach place)) (maybe_expr_in bracket reach place)) (start_in bracket) (decides_start bracket)
      (λ start. decides_then (λ condition reach place.
      try_then (λ step reach place. try_as (tree.For word start condition step) (body_in around stmt reach place))
      (maybe_simple_in bracket reach place)) (maybe_expr_in bracket) (decides_maybe_expr bracket)
      (λ condition. decides_then (λ step reach place. try_as (tree.For word start condition step) (body_in around stmt reach place)) (maybe_simple_in bracket) (decides_maybe_simple bracket)
      (λ step. decides_as (tree.For word start condition step) (body_in around stmt) decides_body))))

  decides_behind_in : (opening : Opening) (token : Token) → Decides (behind_in around stmt opening token)
  decides_behind_in Brace token = decides_block token
  decides_behind_in Semicolon token = decides_end (tree.Empty token)
  decides_behind_in Return token = decides_as (tree.Return token) (maybe_expr_in around) (decides_maybe_expr around)
  decides_behind_in Break token = decides_ended (tree.Break token)
  decides_behind_in Continue token = decides_ended (tree.Continue token)
  decides_behind_in If token = decides_if token
  decides_behind_in While token = decides_while token
  decides_behind_in For token = decides_for token

  stmt_by_decides : (o' : Option Opening) (told : Told) (at : ℕ) (token : Token) (tokens : List Token) (reach : Option FarthestFailure) → told.at < at → IsOver told at reach
      → IsDecided told (stmt_by around stmt o' reach token (At at (Some told) (token ∷ tokens)))
  stmt_by_decides None told at token tokens reach h o = decides_either tree.Local tree.Simple around told at (token ∷ tokens) reach h o
  stmt_by_decides (Some opening) told at token tokens reach h o =
      decides_behind (behind_in around stmt opening token) (decides_behind_in opening token) (opening_entry around stmt opening) told at token tokens reach h o

  decides_stmt_at : Decides (stmt_at around stmt)
  decides_stmt_at told at [] reach h o = decides_refused StmtTree told at [] reach h o
  decides_stmt_at told at (token ∷ tokens) reach h o = stmt_by_decides (sign_of opening_text openings (symbol token)) told at token tokens reach h o

pub decides_stmt : (turns : ℕ) (around : Nesting) → Decides (stmt_in turns around)
decides_stmt zero around = decides_refused StmtTree
decides_stmt (suc turns) around = decides_stmt_at around (stmt_in turns) (decides_stmt turns)
