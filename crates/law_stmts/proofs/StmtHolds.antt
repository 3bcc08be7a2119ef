-- What counts before a statement counts no more than what reading it comes to.
use Rattle.std.proofs.Common.{◌≡◌, ℕ, zero, suc, Bool, true, false, List, [], ◌∷◌, length, refl, sym, ap, subst, codes, arith}
use Rattle.std.specs.Prelude.{Option, Some, None}
use Rattle.def_token.specs.Lexical.{Token}
use Rattle.def_tree.specs.ExprTree.{ExprTree, NoExprs, MoreExprs}
use Rattle.def_tree.specs.Limits.{Nesting, plain, opens, in_bracket, in_block, in_statement}
use Rattle.def_tree.specs.Operator.{Assignment, assignment_text, Increment, Decrement, SignAt, sign_at}
use Rattle.def_tree.specs.Statements.{is_call}
use Rattle.def_tree.specs.StmtTree as tree
use Rattle.def_tree.specs.StmtTree.{Binding, Let, Var, Declarator, InitTree, LocalTree, SimpleTree, StartTree, StmtTree, StmtTrees, NoStmts, MoreStmts}
use Rattle.def_tree.specs.Symbol.{Symbol, End, symbol, is_sign, Is}
use Rattle.def_tree.specs.TypeTree.{TypeTree}
use Rattle.def_reading.specs.Machine.{sign_of}
use Rattle.def_reading.specs.Cursor.{Told, At, noted, FarthestFailure}
use Rattle.def_reading.specs.StmtReading.{values_in, fields_in, init_in, maybe_init_in, declarator, declarator_in, with_more, declarators_in, typed_in, maybe_type_in, valued_in, inferred_in, local_in, assignments, assignment_at, alone_by, stepped_in, assigned_by, assigned_in, simple_in, declares, local_up_to, simple_up_to, either_by, either_in, start_in, maybe_expr_in, maybe_simple_in, condition_in, Opening, Brace, Semicolon, Return, Break, Continue, If, While, For, opening_text, openings, stmts_in, body_in, block_in, else_in, behind_in, opening_entry, stmt_by, stmt_at, stmt_in}
use Rattle.def_reading.specs.Try.{Reads, Reader, try_then, try_as, choice, up_to, expr_in, type_in}
use Rattle.def_reading.specs.TypeAhead.{names}
use Rattle.def_reading.specs.TypeReading.{Ended}
use Rattle.law_exprs.proofs.ExprHolds.{keeps_expr, keeps_type}
use Rattle.law_machine.proofs.MachineSigns.{sign_of-some, written-some}
use Rattle.law_stmts.proofs.SimpleComes.{assignment_passes}
use Rattle.law_stmts.proofs.StmtAlien.{assign_ended}
use Rattle.law_types.proofs.Stopping.{ended_behind}
use Rattle.law_exprs.proofs.TryHolds.{Past, Holds, Keeps, past_later, keeps_refused, keeps_as, keeps_then, keeps_end, keeps_choice, keeps_token, keeps_up_to, keeps_else, keeps_listed, holds_as}

-- initialisers
keeps_values : (around : Nesting) → Keeps (values_in around)
keeps_values around w at limit tokens reach e p = keeps_listed MoreExprs NoExprs (expr_in false around) (keeps_expr false around) (suc (length tokens)) w at limit tokens reach e p

keeps_init : (around : Nesting) → Keeps (init_in around)
keeps_init around =
    keeps_choice (is_sign "{") plain (fields_in around) (λ reach place. try_as tree.Value (expr_in false around reach place)) refl
    (λ opening. keeps_choice (is_sign "}") plain (λ closing reach place. Reads (tree.Fields opening NoExprs) place reach)
    (λ reach place. try_as (tree.Fields opening) (up_to (is_sign "}") (values_in around reach place))) refl (λ closing. keeps_end (tree.Fields opening NoExprs))
    (keeps_as (tree.Fields opening) (λ reach place. up_to (is_sign "}") (values_in around reach place)) (keeps_up_to (is_sign "}") (values_in around) refl (keeps_values around))))
    (keeps_as tree.Value (expr_in false around) (keeps_expr false around))

keeps_maybe_init : (around : Nesting) → Keeps (maybe_init_in around)
keeps_maybe_init around =
    keeps_choice (is_sign "=") plain (λ equals reach place. try_as Some (init_in around reach place)) (λ reach place. Reads None place reach) refl
    (λ equals. keeps_as Some (init_in around) (keeps_init around)) (keeps_end {A = Option InitTree} None)

keeps_declarator : (around : Nesting) → Keeps (declarator_in around)
keeps_declarator around =
    keeps_token names plain (λ name reach place. try_as (declarator name) (maybe_init_in around reach place)) refl (λ name. keeps_as (declarator name) (maybe_init_in around) (keeps_maybe_init around))

keeps_declarators : (around : Nesting) → Keeps (declarators_in around)
keeps_declarators around w at limit tokens reach e p = keeps_listed with_more [] (declarator_in around) (keeps_declarator around) (suc (length tokens)) w at limit tokens reach e p

keeps_typed : (around : Nesting) (word : Option Token) → Keeps (typed_in around word)
keeps_typed around word =
    keeps_then (λ type reach place. try_as (tree.Typed word type) (declarators_in around reach place)) (type_in around) (keeps_type around)
    (λ type. keeps_as (tree.Typed word type) (declarators_in around) (keeps_declarators around))

keeps_maybe_type : (around : Nesting) → Keeps (maybe_type_in around)
keeps_maybe_type around =
    keeps_choice (is_sign ":") plain (λ colon reach place. try_as Some (type_in around reach place)) (λ reach place. Reads None place reach) refl
    (λ colon. keeps_as Some (type_in around) (keeps_type around)) (keeps_end {A = Option TypeTree} None)

keeps_inferred : (around : Nesting) (binding : Binding) (word : Token) → Keeps (inferred_in around binding word)
keeps_inferred around binding word =
    keeps_token names plain (λ name reach place. try_then (λ type. valued_in around (tree.Inferred binding word name type)) (maybe_type_in around reach place)) refl
    (λ name. keeps_then (λ type. valued_in around (tree.Inferred binding word name type)) (maybe_type_in around) (keeps_maybe_type around)
    (λ type. keeps_token (is_sign "=") plain (λ equals reach place. try_as (tree.Inferred binding word name type) (expr_in false around reach place)) refl
    (λ equals. keeps_as (tree.Inferred binding word name type) (expr_in false around) (keeps_expr false around))))

pub keeps_local : (around : Nesting) → Keeps (local_in around)
keeps_local around =
    let by_const : Reader LocalTree = choice (is_sign "const") plain (λ word. typed_in around (Some word)) (typed_in around None) in
    let by_var : Reader LocalTree = choice (is_sign "var") plain (inferred_in around Var) by_const in
    keeps_choice (is_sign "let") plain (inferred_in around Let) by_var refl (λ word. keeps_inferred around Let word)
    (keeps_choice (is_sign "var") plain (inferred_in around Var) by_const refl (λ word. keeps_inferred around Var word)
    (keeps_choice (is_sign "const") plain (λ word. typed_in around (Some word)) (typed_in around None) refl (λ word. keeps_typed around (Some word)) (keeps_typed around None)))

-- simple statements
keeps_alone : (b : Bool) (expr : ExprTree) → Keeps (alone_by b expr)
keeps_alone true expr = keeps_end (tree.CallStatement expr)
keeps_alone false expr = keeps_refused SimpleTree

keeps_stepped : (expr : ExprTree) → Keeps (stepped_in expr)
keeps_stepped expr =
    let decremented : Reader SimpleTree = choice (is_sign "--") plain (λ token reach place. Reads (tree.PostfixStep Decrement expr token) place reach) (alone_by (is_call expr) expr) in
    keeps_choice (is_sign "++") plain (λ token reach place. Reads (tree.PostfixStep Increment expr token) place reach) decremented refl (λ token. keeps_end (tree.PostfixStep Increment expr token))
    (keeps_choice (is_sign "--") plain (λ token reach place. Reads (tree.PostfixStep Decrement expr token) place reach) (alone_by (is_call expr) expr) refl
    (λ token. keeps_end (tree.PostfixStep Decrement expr token)) (keeps_alone (is_call expr) expr))

keeps_assigned_by : (around : Nesting) (found : Option Assignment) (expr : ExprTree) (w : FarthestFailure) (at : ℕ) (limit : Option Told) (token : Token) (tokens : List Token) (reach : Option FarthestFailure) → assignment_at (token ∷ tokens) ≡ found
    → Ended (token ∷ tokens) → Past w reach at → Holds w (assigned_by around found expr reach token (At at limit (token ∷ tokens)))
keeps_assigned_by around None expr w at limit token tokens reach is e p = keeps_stepped expr w at limit (token ∷ tokens) reach e p
keeps_assigned_by around (Some a) expr w at limit token tokens reach is e p =
    let text = written-some assignment_text assignments (sign_at (token ∷ tokens)).0 a is in
    let q = assignment_passes a at limit token tokens (sign_at (token ∷ tokens)).1 (sign_with (sign_at (token ∷ tokens)) a text) in
    let next = assign_ended a at limit token tokens (sign_at (token ∷ tokens)).1 (sign_with (sign_at (token ∷ tokens)) a text) e q.after q.is in
    subst (λ place. Holds w (try_as (tree.Assign a token expr) (expr_in false around reach place))) (sym q.is)
    (holds_as (tree.Assign a token expr) w (expr_in false around reach (At q.after limit (sign_at (token ∷ tokens)).1))
    (keeps_expr false around w q.after limit (sign_at (token ∷ tokens)).1 reach next.0 (past_later w reach at q.after next.1 p)))
  where
    sign_with : (found : SignAt) (a : Assignment) → found.0 ≡ codes (assignment_text a) → found ≡ (codes (assignment_text a), found.1)
    sign_with (text, rest) a h = ap (λ (t : List ℕ). (t, rest)) h

pub keeps_assigned : (around : Nesting) (expr : ExprTree) → Keeps (assigned_in around expr)
keeps_assigned around expr w at limit [] reach e p = absurd e
keeps_assigned around expr w at limit (token ∷ tokens) reach e p = keeps_assigned_by around (assignment_at (token ∷ tokens)) expr w at limit token tokens reach refl e p

pub keeps_simple : (around : Nesting) → Keeps (simple_in around)
keeps_simple around =
    let by_expr : Reader SimpleTree = λ reach place. try_then (assigned_in around) (expr_in true around reach place) in
    let by_decrement : Reader SimpleTree = choice (is_sign "--") plain (λ token reach place. try_as (tree.PrefixStep Decrement token) (expr_in false around reach place)) by_expr in
    keeps_choice (is_sign "++") plain (λ token reach place. try_as (tree.PrefixStep Increment token) (expr_in false around reach place)) by_decrement refl
    (λ token. keeps_as (tree.PrefixStep Increment token) (expr_in false around) (keeps_expr false around))
    (keeps_choice (is_sign "--") plain (λ token reach place. try_as (tree.PrefixStep Decrement token) (expr_in false around reach place)) by_expr refl
    (λ token. keeps_as (tree.PrefixStep Decrement token) (expr_in false around) (keeps_expr false around))
    (keeps_then (assigned_in around) (expr_in true around) (keeps_expr true around) (λ expr. keeps_assigned around expr)))

keeps_local_up : {A : Type 0} (of_a_local : LocalTree → A) (around : Nesting) → Keeps (local_up_to of_a_local around)
keeps_local_up of_a_local around =
    keeps_as of_a_local (λ reach place. up_to (is_sign ";") (local_in around reach place)) (keeps_up_to (is_sign ";") (local_in around) refl (keeps_local around))

keeps_simple_up : {A : Type 0} (of_a_simple : SimpleTree → A) (around : Nesting) → Keeps (simple_up_to of_a_simple around)
keeps_simple_up of_a_simple around =
    keeps_as of_a_simple (λ reach place. up_to (is_sign ";") (simple_in around reach place)) (keeps_up_to (is_sign ";") (simple_in around) refl (keeps_simple around))

keeps_either_by : {A : Type 0} (b : Bool) (of_a_local : LocalTree → A) (of_a_simple : SimpleTree → A) (around : Nesting) → Keeps (either_by b of_a_local of_a_simple around)
keeps_either_by true of_a_local of_a_simple around = keeps_local_up of_a_local around
keeps_either_by false of_a_local of_a_simple around =
    keeps_else (local_up_to of_a_local around) (simple_up_to of_a_simple around) (keeps_local_up of_a_local around) (keeps_simple_up of_a_simple around)

keeps_either : {A : Type 0} (of_a_local : LocalTree → A) (of_a_simple : SimpleTree → A) (around : Nesting) → Keeps (either_in of_a_local of_a_simple around)
keeps_either of_a_local of_a_simple around w at limit tokens reach e p =
    keeps_either_by (declares around (At at limit tokens)) of_a_local of_a_simple around w at limit tokens reach e p

-- heads of loops
keeps_start : (around : Nesting) → Keeps (start_in around)
keeps_start around =
    keeps_choice (is_sign ";") plain (λ semicolon reach place. Reads tree.NoStart place reach) (either_in tree.LocalStart tree.SimpleStart around) refl
    (λ semicolon. keeps_end tree.NoStart) (keeps_either tree.LocalStart tree.SimpleStart around)

keeps_maybe_expr : (around : Nesting) → Keeps (maybe_expr_in around)
keeps_maybe_expr around =
    keeps_choice (is_sign ";") plain (λ semicolon reach place. Reads None place reach) (λ reach place. try_as Some (up_to (is_sign ";") (expr_in false around reach place))) refl
    (λ semicolon. keeps_end {A = Option ExprTree} None) (keeps_as Some (λ reach place. up_to (is_sign ";") (expr_in false around reach place)) (keeps_up_to (is_sign ";") (expr_in false around) refl (keeps_expr false around)))

keeps_maybe_simple : (around : Nesting) → Keeps (maybe_simple_in around)
keeps_maybe_simple around =
    keeps_choice (is_sign ")") plain (λ closing reach place. Reads None place reach) (λ reach place. try_as Some (up_to (is_sign ")") (simple_in around reach place))) refl
    (λ closing. keeps_end {A = Option SimpleTree} None) (keeps_as Some (λ reach place. up_to (is_sign ")") (simple_in around reach place)) (keeps_up_to (is_sign ")") (simple_in around) refl (keeps_simple around)))

keeps_condition : (around : Nesting) → Keeps (condition_in around)
keeps_condition around =
    let inside = in_bracket around in
    keeps_token (is_sign "(") (opens inside.brackets) (λ opening reach place. up_to (is_sign ")") (expr_in false inside reach place)) refl
    (λ opening. keeps_up_to (is_sign ")") (expr_in false inside) refl (keeps_expr false inside))

-- statements
keeps_stmts : (stmt : Reader StmtTree) → Keeps stmt → (turns : ℕ) → Keeps (stmts_in stmt turns)
keeps_stmts stmt k zero = keeps_refused StmtTrees
keeps_stmts stmt k (suc turns) =
    keeps_choice (is_sign "}") plain (λ closing reach place. Reads NoStmts place reach)
    (λ reach place. try_then (λ first reach place. try_as (MoreStmts first) (stmts_in stmt turns reach place)) (stmt reach place)) refl (λ closing. keeps_end NoStmts)
    (keeps_then (λ first reach place. try_as (MoreStmts first) (stmts_in stmt turns reach place)) stmt k (λ first. keeps_as (MoreStmts first) (stmts_in stmt turns) (keeps_stmts stmt k turns)))

module _ (around : Nesting) (stmt : Nesting → Reader StmtTree) (k : (around : Nesting) → Keeps (stmt around)) where
  pub keeps_body : Keeps (body_in around stmt)
  keeps_body w at limit [] reach e p = absurd e
  keeps_body w at limit (token ∷ tokens) reach e p = k (in_statement around) w at (noted limit (opens (in_statement around).statements) at token) (token ∷ tokens) reach e p

  keeps_block : (token : Token) → Keeps (block_in around stmt token)
  keeps_block token w at limit tokens reach e p =
      keeps_as (tree.Block token) (stmts_in (stmt (in_block around)) (suc (length tokens))) (keeps_stmts (stmt (in_block around)) (k (in_block around)) (suc (length tokens))) w at limit tokens reach e p

  keeps_behind : (opening : Opening) (token : Token) → Keeps (behind_in around stmt opening token)
  keeps_behind Brace token = keeps_block token
  keeps_behind Semicolon token = keeps_end (tree.Empty token)
  keeps_behind Return token = keeps_as (tree.Return token) (maybe_expr_in around) (keeps_maybe_expr around)
  keeps_behind Break token = keeps_token (is_sign ";") plain (λ semicolon reach place. Reads (tree.Break token) place reach) refl (λ semicolon. keeps_end (tree.Break token))
  keeps_behind Continue token = keeps_token (is_sign ";") plain (λ semicolon reach place. Reads (tree.Continue token) place reach) refl (λ semicolon. keeps_end (tree.Continue token))
  keeps_behind If token =
      keeps_then (λ condition reach place. try_then (else_in around stmt token condition) (body_in around stmt reach place)) (condition_in around) (keeps_condition around)
      (λ condition. keeps_then (else_in around stmt token condition) (body_in around stmt) keeps_body
      (λ yes'. keeps_choice (is_sign "else") plain (λ otherwise reach place. try_as (tree.IfElse token condition yes') (body_in around stmt reach place)) (λ reach place. Reads (tree.If token condition yes') place reach) refl
      (λ otherwise. keeps_as (tree.IfElse token condition yes') (body_in around stmt) keeps_body) (keeps_end (tree.If token condition yes'))))
  keeps_behind While token =
      keeps_then (λ condition reach place. try_as (tree.While token condition) (body_in around stmt reach place)) (condition_in around) (keeps_condition around)
      (λ condition. keeps_as (tree.While token condition) (body_in around stmt) keeps_body)
  keeps_behind For token =
      let bracket = in_bracket around in
      keeps_token (is_sign "(") (opens bracket.brackets) (λ opening reach place.
      try_then (λ start reach place.
      try_then (λ condition reach place.
      try_then (λ step reach place. try_as (tree.For token start condition step) (body_in around stmt reach place))
      (maybe_simple_in bracket reach place)) (maybe_expr_in bracket reach place)) (start_in bracket reach place)) refl
      (λ opening. keeps_then (λ start reach place.
      try_then (λ condition reach place.
      try_then (λ step reach place. try_as (tree.For token start condition step) (body_in around stmt reach place))
      (maybe_simple_in bracket reach place)) (maybe_expr_in bracket reach place)) (start_in bracket) (keeps_start bracket)
      (λ start. keeps_then (λ condition reach place.
      try_then (λ step reach place. try_as (tree.For token start condition step) (body_in around stmt reach place)) (maybe_simple_in bracket reach place)) (maybe_expr_in bracket) (keeps_maybe_expr bracket)
      (λ condition. keeps_then (λ step reach place. try_as (tree.For token start condition step) (body_in around stmt reach place)) (maybe_simple_in bracket) (keeps_maybe_simple bracket)
      (λ step. keeps_as (tree.For token start condition step) (body_in around stmt) keeps_body))))

  pub sign_no_end : (opening : Opening) (token : Token) → Is (opening_text opening) token → symbol token ≡ End → ⊥
  sign_no_end opening token h e = no_sign (symbol token) _ h e
    where
      no_sign : (s : Symbol) (text : List ℕ) → s ≡ Rattle.def_tree.specs.Symbol.Sign text → s ≡ End → ⊥
      no_sign s text h e = cc

  keeps_by : (found : Option Opening) (w : FarthestFailure) (at : ℕ) (limit : Option Told) (token : Token) (tokens : List Token) (reach : Option FarthestFailure) → sign_of opening_text openings (symbol token) ≡ found
      → Ended (token ∷ tokens) → Past w reach at → Holds w (stmt_by around stmt found reach token (At at limit (token ∷ tokens)))
  keeps_by None w at limit token tokens reach is e p = keeps_either tree.Local tree.Simple around w at limit (token ∷ tokens) reach e p
  keeps_by (Some opening) w at limit token tokens reach is e p =
      keeps_behind opening token w (suc at) (noted limit (opening_entry around stmt opening) at token) tokens reach
      (ended_behind token tokens (sign_no_end opening token (sign_of-some opening_text openings (symbol token) opening is)) e) (past_later w reach at (suc at) (omega arith) p)

  pub keeps_at : Keeps (stmt_at around stmt)
  keeps_at w at limit [] reach e p = absurd e
  keeps_at w at limit (token ∷ tokens) reach e p = keeps_by (sign_of opening_text openings (symbol token)) w at limit token tokens reach refl e p

pub keeps_stmt : (turns : ℕ) (around : Nesting) → Keeps (stmt_in turns around)
keeps_stmt zero around = keeps_refused StmtTree
keeps_stmt (suc turns) around = keeps_at around (stmt_in turns) (keeps_stmt turns)
