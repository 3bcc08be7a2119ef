-- The readers of statements go on from their places, or are refused there; and places and limits only grow.
use Rattle.std.proofs.Common.{◌≡◌, inl, inr, ⊎_elim, ℕ, zero, suc, ◌≤◌, Bool, true, false, List, [], ◌∷◌, length, refl, sym, ap, subst, ◌∙◌, codes, arith, le_refl}
use Rattle.std.specs.Prelude.{Option, Some, None, nat_lt, replicate}
use Rattle.std.proofs.lemmas.Bool.Decides.{nat_tests}
use Rattle.def_token.specs.Lexical.{Token}
use Rattle.def_tree.specs.ExprTree.{ExprTree, NoExprs, MoreExprs}
use Rattle.def_tree.specs.Limits.{Nesting, Entry, plain, opens, in_bracket, in_block, in_statement, assignment_tokens}
use Rattle.def_tree.specs.Operator.{Assignment, Set, AddTo, SubtractFrom, MultiplyBy, DivideBy, RemainderBy, BitAndWith, BitOrWith, BitXorWith, ShiftLeftBy, ShiftRightBy, assignment_text, Increment, Decrement, SignAt, sign_at}
use Rattle.def_tree.specs.Statements.{is_call, IsStmt}
use Rattle.law_tree.proofs.StmtsCovered.{stmt_covered}
use Rattle.law_stmts.proofs.Leads.{stmt_led}
use Rattle.law_machine.proofs.MachineGrows.{Above}
use Rattle.law_machine.proofs.MachineWays.{way_at}
use Rattle.law_stmts.proofs.LocalSound.{SoundAt}
use Rattle.law_stmts.proofs.StmtSound.{stmt_sound}
use Rattle.law_exprs.proofs.TrySound.{Sound}
use Rattle.def_tree.specs.StmtTree as tree
use Rattle.def_tree.specs.StmtTree.{Binding, Let, Var, Declarator, InitTree, LocalTree, SimpleTree, StartTree, StmtTree, StmtTrees, NoStmts, MoreStmts}
use Rattle.def_tree.specs.Symbol.{symbol, is_sign}
use Rattle.def_tree.specs.TypeTree.{TypeTree}
use Rattle.def_reading.specs.Machine.{sign_of}
use Rattle.def_reading.specs.Cursor.{Told, Cursor, At, passed, noted, before, told_by, FarthestFailure}
use Rattle.def_reading.specs.StmtReading.{values_in, fields_in, init_in, maybe_init_in, declarator, declarator_in, with_more, declarators_in, typed_in, maybe_type_in, valued_in, inferred_in, local_in, assignments, assignment_at, alone_by, stepped_in, assigned_by, assigned_in, simple_in, declares, local_up_to, simple_up_to, either_by, either_in, start_in, maybe_expr_in, maybe_simple_in, condition_in, Opening, Brace, Semicolon, Return, Break, Continue, If, While, For, opening_text, openings, stmts_in, body_in, block_in, else_in, behind_in, opening_entry, stmt_by, stmt_at, stmt_in}
use Rattle.def_reading.specs.Try.{Reads, Stops, Reader, try_then, try_as, choice, up_to, listed, ahead, expr_in, type_in}
use Rattle.def_reading.specs.TypeAhead.{names}
use Rattle.def_reading.specs.TypeReading.{Ended}
use Rattle.law_types.proofs.AheadFaults.{Grows, grows_noted}
use Rattle.law_exprs.proofs.ExprFronts.{good_expr, good_type}
use Rattle.law_machine.proofs.MachineSigns.{sign_of-some, written-some}
use Rattle.law_stmts.proofs.SimpleComes.{assignment_passes}
use Rattle.law_stmts.proofs.StmtAlien.{assign_ended, passed_later, passed_grows}
use Rattle.law_types.proofs.Stopping.{ended_behind}
use Rattle.law_stmts.proofs.StmtHolds.{keeps_assigned, keeps_body, keeps_at, sign_no_end}
use Rattle.law_exprs.proofs.TryComes.{Noted, noted_stays, noted_later, passed_noted}
use Rattle.law_exprs.proofs.TryFronts.{Rises, WayTo, IsHere, Fronts, Good, good_refused, good_end, good_as, good_then, good_choice, good_token, good_up_to, good_else, good_listed, good_ahead, rises_on}
use Rattle.law_exprs.proofs.TryHolds.{Holds, holds_as}

-- initialisers
good_values : (around : Nesting) → Good (values_in around)
good_values around = good_ahead (listed MoreExprs NoExprs (expr_in false around)) (good_listed MoreExprs NoExprs (expr_in false around) (good_expr false around))

pub good_init : (around : Nesting) → Good (init_in around)
good_init around =
    good_choice (is_sign "{") plain (fields_in around) (λ reach place. try_as tree.Value (expr_in false around reach place)) refl
    (λ opening. good_choice (is_sign "}") plain (λ closing reach place. Reads (tree.Fields opening NoExprs) place reach)
    (λ reach place. try_as (tree.Fields opening) (up_to (is_sign "}") (values_in around reach place))) refl (λ closing. good_end (tree.Fields opening NoExprs))
    (good_as (tree.Fields opening) (λ reach place. up_to (is_sign "}") (values_in around reach place)) (good_up_to (is_sign "}") (values_in around) refl (good_values around))))
    (good_as tree.Value (expr_in false around) (good_expr false around))

good_maybe_init : (around : Nesting) → Good (maybe_init_in around)
good_maybe_init around =
    good_choice (is_sign "=") plain (λ equals reach place. try_as Some (init_in around reach place)) (λ reach place. Reads None place reach) refl
    (λ equals. good_as Some (init_in around) (good_init around)) (good_end {A = Option InitTree} None)

pub good_declarator : (around : Nesting) → Good (declarator_in around)
good_declarator around =
    good_token names plain (λ name reach place. try_as (declarator name) (maybe_init_in around reach place)) refl (λ name. good_as (declarator name) (maybe_init_in around) (good_maybe_init around))

good_declarators : (around : Nesting) → Good (declarators_in around)
good_declarators around = good_ahead (listed with_more [] (declarator_in around)) (good_listed with_more [] (declarator_in around) (good_declarator around))

good_typed : (around : Nesting) (word : Option Token) → Good (typed_in around word)
good_typed around word =
    good_then (λ type reach place. try_as (tree.Typed word type) (declarators_in around reach place)) (type_in around) (good_type around)
    (λ type. good_as (tree.Typed word type) (declarators_in around) (good_declarators around))

good_maybe_type : (around : Nesting) → Good (maybe_type_in around)
good_maybe_type around =
    good_choice (is_sign ":") plain (λ colon reach place. try_as Some (type_in around reach place)) (λ reach place. Reads None place reach) refl
    (λ colon. good_as Some (type_in around) (good_type around)) (good_end {A = Option TypeTree} None)

good_inferred : (around : Nesting) (binding : Binding) (word : Token) → Good (inferred_in around binding word)
good_inferred around binding word =
    good_token names plain (λ name reach place. try_then (λ type. valued_in around (tree.Inferred binding word name type)) (maybe_type_in around reach place)) refl
    (λ name. good_then (λ type. valued_in around (tree.Inferred binding word name type)) (maybe_type_in around) (good_maybe_type around)
    (λ type. good_token (is_sign "=") plain (λ equals reach place. try_as (tree.Inferred binding word name type) (expr_in false around reach place)) refl
    (λ equals. good_as (tree.Inferred binding word name type) (expr_in false around) (good_expr false around))))

pub good_local : (around : Nesting) → Good (local_in around)
good_local around =
    let by_const : Reader LocalTree = choice (is_sign "const") plain (λ word. typed_in around (Some word)) (typed_in around None) in
    let by_var : Reader LocalTree = choice (is_sign "var") plain (inferred_in around Var) by_const in
    good_choice (is_sign "let") plain (inferred_in around Let) by_var refl (λ word. good_inferred around Let word)
    (good_choice (is_sign "var") plain (inferred_in around Var) by_const refl (λ word. good_inferred around Var word)
    (good_choice (is_sign "const") plain (λ word. typed_in around (Some word)) (typed_in around None) refl (λ word. good_typed around (Some word)) (good_typed around None)))

-- simple statements
good_alone : (b : Bool) (expr : ExprTree) → Good (alone_by b expr)
good_alone true expr = good_end (tree.CallStatement expr)
good_alone false expr = good_refused SimpleTree

pub good_stepped : (expr : ExprTree) → Good (stepped_in expr)
good_stepped expr =
    let decremented : Reader SimpleTree = choice (is_sign "--") plain (λ token reach place. Reads (tree.PostfixStep Decrement expr token) place reach) (alone_by (is_call expr) expr) in
    good_choice (is_sign "++") plain (λ token reach place. Reads (tree.PostfixStep Increment expr token) place reach) decremented refl (λ token. good_end (tree.PostfixStep Increment expr token))
    (good_choice (is_sign "--") plain (λ token reach place. Reads (tree.PostfixStep Decrement expr token) place reach) (alone_by (is_call expr) expr) refl
    (λ token. good_end (tree.PostfixStep Decrement expr token)) (good_alone (is_call expr) expr))

sign_with : (found : SignAt) (a : Assignment) → found.0 ≡ codes (assignment_text a) → found ≡ (codes (assignment_text a), found.1)
sign_with (text, rest) a h = ap (λ (t : List ℕ). (t, rest)) h

passed_rises : (es : List Entry) (at : ℕ) (limit : Option Told) (ts : List Token) {at' : ℕ} {limit' : Option Told} {ts' : List Token} → Noted at limit → passed es (At at limit ts) ≡ At at' limit' ts'
    → (at ≤ at') × Grows at limit limit' × Noted at' limit'
passed_rises es at limit ts n is = (passed_later es at limit ts is, passed_grows es at limit ts is, passed_noted es at limit ts n is)

-- an assignment has a token
many_tokens : (a : Assignment) → (more : ℕ) × (assignment_tokens a ≡ suc more)
many_tokens Set = (0, refl)
many_tokens AddTo = (0, refl)
many_tokens SubtractFrom = (0, refl)
many_tokens MultiplyBy = (0, refl)
many_tokens DivideBy = (0, refl)
many_tokens RemainderBy = (0, refl)
many_tokens BitAndWith = (0, refl)
many_tokens BitOrWith = (0, refl)
many_tokens BitXorWith = (0, refl)
many_tokens ShiftLeftBy = (0, refl)
many_tokens ShiftRightBy = (2, refl)

assigned_later : (a : Assignment) (at : ℕ) (limit : Option Told) (token : Token) (tokens : List Token) {at' : ℕ} {limit' : Option Told} {ts' : List Token}
    → passed (replicate (assignment_tokens a) plain) (At at limit (token ∷ tokens)) ≡ At at' limit' ts' → suc at ≤ at'
assigned_later a at limit token tokens is =
    let more = many_tokens a in
    passed_later (replicate more.0 plain) (suc at) limit tokens (ap (λ n. passed (replicate n plain) (At at limit (token ∷ tokens))) (sym more.1) ∙ is)

assigned_rises : (around : Nesting) (found : Option Assignment) (expr : ExprTree) (at : ℕ) (limit : Option Told) (token : Token) (tokens : List Token) (reach : Option FarthestFailure) → assignment_at (token ∷ tokens) ≡ found
    → Noted at limit → Rises at limit (assigned_by around found expr reach token (At at limit (token ∷ tokens)))
assigned_rises around None expr at limit token tokens reach is n = (good_stepped expr).rises at limit (token ∷ tokens) reach n
assigned_rises around (Some a) expr at limit token tokens reach is n =
    let text = written-some assignment_text assignments (sign_at (token ∷ tokens)).0 a is in
    let q = assignment_passes a at limit token tokens (sign_at (token ∷ tokens)).1 (sign_with (sign_at (token ∷ tokens)) a text) in
    let up = passed_rises (replicate (assignment_tokens a) plain) at limit (token ∷ tokens) n q.is in
    subst (λ place. Rises at limit (try_as (tree.Assign a token expr) (expr_in false around reach place))) (sym q.is)
    (rises_on at q.after limit limit (try_as (tree.Assign a token expr) (expr_in false around reach (At q.after limit (sign_at (token ∷ tokens)).1))) up.0 up.1
    ((good_as (tree.Assign a token expr) (expr_in false around) (good_expr false around)).rises q.after limit (sign_at (token ∷ tokens)).1 reach up.2))

assigned_fronts : (around : Nesting) (found : Option Assignment) (expr : ExprTree) (at : ℕ) (limit : Option Told) (token : Token) (tokens : List Token) (reach : Option FarthestFailure) → assignment_at (token ∷ tokens) ≡ found
    → Ended (token ∷ tokens) → Fronts at limit (token ∷ tokens) (assigned_by around found expr reach token (At at limit (token ∷ tokens)))
assigned_fronts around None expr at limit token tokens reach is e = (good_stepped expr).fronts at limit (token ∷ tokens) reach e
assigned_fronts around (Some a) expr at limit token tokens reach is e =
    let text = written-some assignment_text assignments (sign_at (token ∷ tokens)).0 a is in
    let q = assignment_passes a at limit token tokens (sign_at (token ∷ tokens)).1 (sign_with (sign_at (token ∷ tokens)) a text) in
    let next = assign_ended a at limit token tokens (sign_at (token ∷ tokens)).1 (sign_with (sign_at (token ∷ tokens)) a text) e q.after q.is in
    inl (λ w way. subst (λ place. Holds w (try_as (tree.Assign a token expr) (expr_in false around reach place))) (sym q.is)
    (holds_as (tree.Assign a token expr) w (expr_in false around reach (At q.after limit (sign_at (token ∷ tokens)).1))
    ((good_expr false around).keeps w q.after limit (sign_at (token ∷ tokens)).1 reach next.0 (inr (omega (arith, way.many, assigned_later a at limit token tokens q.is))))))

assigned_rise : (around : Nesting) (expr : ExprTree) (at : ℕ) (limit : Option Told) (tokens : List Token) (reach : Option FarthestFailure) → Noted at limit → Rises at limit (assigned_in around expr reach (At at limit tokens))
assigned_rise around expr at limit [] reach n = (good_alone (is_call expr) expr).rises at limit [] reach n
assigned_rise around expr at limit (token ∷ tokens) reach n = assigned_rises around (assignment_at (token ∷ tokens)) expr at limit token tokens reach refl n

assigned_front : (around : Nesting) (expr : ExprTree) (at : ℕ) (limit : Option Told) (tokens : List Token) (reach : Option FarthestFailure) → Ended tokens → Fronts at limit tokens (assigned_in around expr reach (At at limit tokens))
assigned_front around expr at limit [] reach e = absurd e
assigned_front around expr at limit (token ∷ tokens) reach e = assigned_fronts around (assignment_at (token ∷ tokens)) expr at limit token tokens reach refl e

pub good_assigned : (around : Nesting) (expr : ExprTree) → Good (assigned_in around expr)
good_assigned around expr = record { keeps = keeps_assigned around expr; rises = assigned_rise around expr; fronts = assigned_front around expr }

pub good_simple : (around : Nesting) → Good (simple_in around)
good_simple around =
    let by_expr : Reader SimpleTree = λ reach place. try_then (assigned_in around) (expr_in true around reach place) in
    let by_decrement : Reader SimpleTree = choice (is_sign "--") plain (λ token reach place. try_as (tree.PrefixStep Decrement token) (expr_in false around reach place)) by_expr in
    good_choice (is_sign "++") plain (λ token reach place. try_as (tree.PrefixStep Increment token) (expr_in false around reach place)) by_decrement refl
    (λ token. good_as (tree.PrefixStep Increment token) (expr_in false around) (good_expr false around))
    (good_choice (is_sign "--") plain (λ token reach place. try_as (tree.PrefixStep Decrement token) (expr_in false around reach place)) by_expr refl
    (λ token. good_as (tree.PrefixStep Decrement token) (expr_in false around) (good_expr false around))
    (good_then (assigned_in around) (expr_in true around) (good_expr true around) (λ expr. good_assigned around expr)))

pub good_local_up : {A : Type 0} (of_a_local : LocalTree → A) (around : Nesting) → Good (local_up_to of_a_local around)
good_local_up of_a_local around =
    good_as of_a_local (λ reach place. up_to (is_sign ";") (local_in around reach place)) (good_up_to (is_sign ";") (local_in around) refl (good_local around))

pub good_simple_up : {A : Type 0} (of_a_simple : SimpleTree → A) (around : Nesting) → Good (simple_up_to of_a_simple around)
good_simple_up of_a_simple around =
    good_as of_a_simple (λ reach place. up_to (is_sign ";") (simple_in around reach place)) (good_up_to (is_sign ";") (simple_in around) refl (good_simple around))

good_either_by : {A : Type 0} (b : Bool) (of_a_local : LocalTree → A) (of_a_simple : SimpleTree → A) (around : Nesting) → Good (either_by b of_a_local of_a_simple around)
good_either_by true of_a_local of_a_simple around = good_local_up of_a_local around
good_either_by false of_a_local of_a_simple around =
    good_else (local_up_to of_a_local around) (simple_up_to of_a_simple around) (good_local_up of_a_local around) (good_simple_up of_a_simple around)

pub good_either : {A : Type 0} (of_a_local : LocalTree → A) (of_a_simple : SimpleTree → A) (around : Nesting) → Good (either_in of_a_local of_a_simple around)
good_either of_a_local of_a_simple around =
    let by : (b : Bool) → Good (either_by b of_a_local of_a_simple around) = λ b. good_either_by b of_a_local of_a_simple around in
    record {
      keeps = λ w at limit tokens reach e p. (by (declares around (At at limit tokens))).keeps w at limit tokens reach e p;
      rises = λ at limit tokens reach n. (by (declares around (At at limit tokens))).rises at limit tokens reach n;
      fronts = λ at limit tokens reach e. (by (declares around (At at limit tokens))).fronts at limit tokens reach e;
    }

-- heads of loops
good_start : (around : Nesting) → Good (start_in around)
good_start around =
    good_choice (is_sign ";") plain (λ semicolon reach place. Reads tree.NoStart place reach) (either_in tree.LocalStart tree.SimpleStart around) refl
    (λ semicolon. good_end tree.NoStart) (good_either tree.LocalStart tree.SimpleStart around)

good_maybe_expr : (around : Nesting) → Good (maybe_expr_in around)
good_maybe_expr around =
    good_choice (is_sign ";") plain (λ semicolon reach place. Reads None place reach) (λ reach place. try_as Some (up_to (is_sign ";") (expr_in false around reach place))) refl
    (λ semicolon. good_end {A = Option ExprTree} None) (good_as Some (λ reach place. up_to (is_sign ";") (expr_in false around reach place)) (good_up_to (is_sign ";") (expr_in false around) refl (good_expr false around)))

good_maybe_simple : (around : Nesting) → Good (maybe_simple_in around)
good_maybe_simple around =
    good_choice (is_sign ")") plain (λ closing reach place. Reads None place reach) (λ reach place. try_as Some (up_to (is_sign ")") (simple_in around reach place))) refl
    (λ closing. good_end {A = Option SimpleTree} None) (good_as Some (λ reach place. up_to (is_sign ")") (simple_in around reach place)) (good_up_to (is_sign ")") (simple_in around) refl (good_simple around)))

good_condition : (around : Nesting) → Good (condition_in around)
good_condition around =
    let inside = in_bracket around in
    good_token (is_sign "(") (opens inside.brackets) (λ opening reach place. up_to (is_sign ")") (expr_in false inside reach place)) refl
    (λ opening. good_up_to (is_sign ")") (expr_in false inside) refl (good_expr false inside))

-- statements
pub good_stmts : (stmt : Reader StmtTree) → Good stmt → (turns : ℕ) → Good (stmts_in stmt turns)
good_stmts stmt k zero = good_refused StmtTrees
good_stmts stmt k (suc turns) =
    good_choice (is_sign "}") plain (λ closing reach place. Reads NoStmts place reach)
    (λ reach place. try_then (λ first reach place. try_as (MoreStmts first) (stmts_in stmt turns reach place)) (stmt reach place)) refl (λ closing. good_end NoStmts)
    (good_then (λ first reach place. try_as (MoreStmts first) (stmts_in stmt turns reach place)) stmt k (λ first. good_as (MoreStmts first) (stmts_in stmt turns) (good_stmts stmt k turns)))

-- a statement has tokens
no_stmt_here : (around : Nesting) (tokens : List Token) (stmt : StmtTree) → IsStmt tokens stmt tokens → ⊥
no_stmt_here around tokens stmt s = omega (arith, stmt_covered around s, ap length (stmt_led around stmt).are)

before_noted : (limit : Option Told) (entry : Entry) (at : ℕ) (token : Token) → before at (noted limit entry at token) ≡ before at limit
before_noted limit None at token = refl
before_noted (Some told) (Some l) at token = refl
before_noted None (Some l) at token = let same : nat_lt at at ≡ false = grind (arith, nat_tests) in rw same refl

module _ (around : Nesting) (stmt : Nesting → Reader StmtTree) (k : (around : Nesting) → Good (stmt around)) (sound : (around : Nesting) → SoundAt IsStmt (stmt around)) where
  body_rises : (at : ℕ) (limit : Option Told) (tokens : List Token) (reach : Option FarthestFailure) → Noted at limit → Rises at limit (body_in around stmt reach (At at limit tokens))
  body_rises at limit [] reach n = (k (in_statement around)).rises at limit [] reach n
  body_rises at limit (token ∷ tokens) reach n =
      let entry = opens (in_statement around).statements in
      rises_on at at limit (noted limit entry at token) (stmt (in_statement around) reach (At at (noted limit entry at token) (token ∷ tokens))) (le_refl at) (grows_noted at limit entry token)
      ((k (in_statement around)).rises at (noted limit entry at token) (token ∷ tokens) reach (noted_stays limit entry at token n))

  body_fronts : (at : ℕ) (limit : Option Told) (tokens : List Token) (reach : Option FarthestFailure) → Ended tokens → Fronts at limit tokens (body_in around stmt reach (At at limit tokens))
  body_fronts at limit [] reach e = absurd e
  body_fronts at limit (token ∷ tokens) reach e =
      let inside = in_statement around in
      let limit' = noted limit (opens inside.statements) at token in
      ⊎_elim
      (λ (f : (w : FarthestFailure) → WayTo at limit' (token ∷ tokens) w → Holds w (stmt inside reach (At at limit' (token ∷ tokens)))).
      inl (λ w way. f w (record { many = way.many; told = ap (λ l. told_by l at (token ∷ tokens)) (before_noted limit (opens inside.statements) at token) ∙ way.told })))
      (λ (h : IsHere at limit' (token ∷ tokens) (stmt inside reach (At at limit' (token ∷ tokens)))).
      absurd (no_stmt_here inside (token ∷ tokens) h.tree (subst (Sound (IsStmt (token ∷ tokens))) h.is (sound inside at limit' (token ∷ tokens) reach))))
      ((k inside).fronts at limit' (token ∷ tokens) reach e)

  pub good_body : Good (body_in around stmt)
  good_body =
      let inside = in_statement around in
      record {
        keeps = keeps_body around stmt (λ around. (k around).keeps);
        rises = body_rises;
        fronts = body_fronts;
      }

  good_block : (token : Token) → Good (block_in around stmt token)
  good_block token =
      good_as (tree.Block token) (λ reach place. stmts_in (stmt (in_block around)) (suc (length (ahead place))) reach place)
      (good_ahead (stmts_in (stmt (in_block around))) (good_stmts (stmt (in_block around)) (k (in_block around))))

  pub good_behind : (opening : Opening) (token : Token) → Good (behind_in around stmt opening token)
  good_behind Brace token = good_block token
  good_behind Semicolon token = good_end (tree.Empty token)
  good_behind Return token = good_as (tree.Return token) (maybe_expr_in around) (good_maybe_expr around)
  good_behind Break token = good_token (is_sign ";") plain (λ semicolon reach place. Reads (tree.Break token) place reach) refl (λ semicolon. good_end (tree.Break token))
  good_behind Continue token = good_token (is_sign ";") plain (λ semicolon reach place. Reads (tree.Continue token) place reach) refl (λ semicolon. good_end (tree.Continue token))
  good_behind If token =
      good_then (λ condition reach place. try_then (else_in around stmt token condition) (body_in around stmt reach place)) (condition_in around) (good_condition around)
      (λ condition. good_then (else_in around stmt token condition) (body_in around stmt) good_body
      (λ yes'. good_choice (is_sign "else") plain (λ otherwise reach place. try_as (tree.IfElse token condition yes') (body_in around stmt reach place)) (λ reach place. Reads (tree.If token condition yes') place reach) refl
      (λ otherwise. good_as (tree.IfElse token condition yes') (body_in around stmt) good_body) (good_end (tree.If token condition yes'))))
  good_behind While token =
      good_then (λ condition reach place. try_as (tree.While token condition) (body_in around stmt reach place)) (condition_in around) (good_condition around)
      (λ condition. good_as (tree.While token condition) (body_in around stmt) good_body)
  good_behind For token =
      let bracket = in_bracket around in
      good_token (is_sign "(") (opens bracket.brackets) (λ opening reach place.
      try_then (λ start reach place.
      try_then (λ condition reach place.
      try_then (λ step reach place. try_as (tree.For token start condition step) (body_in around stmt reach place))
      (maybe_simple_in bracket reach place)) (maybe_expr_in bracket reach place)) (start_in bracket reach place)) refl
      (λ opening. good_then (λ start reach place.
      try_then (λ condition reach place.
      try_then (λ step reach place. try_as (tree.For token start condition step) (body_in around stmt reach place))
      (maybe_simple_in bracket reach place)) (maybe_expr_in bracket reach place)) (start_in bracket) (good_start bracket)
      (λ start. good_then (λ condition reach place.
      try_then (λ step reach place. try_as (tree.For token start condition step) (body_in around stmt reach place)) (maybe_simple_in bracket reach place)) (maybe_expr_in bracket) (good_maybe_expr bracket)
      (λ condition. good_then (λ step reach place. try_as (tree.For token start condition step) (body_in around stmt reach place)) (maybe_simple_in bracket) (good_maybe_simple bracket)
      (λ step. good_as (tree.For token start condition step) (body_in around stmt) good_body))))

  stmt_rises : (found : Option Opening) (at : ℕ) (limit : Option Told) (token : Token) (tokens : List Token) (reach : Option FarthestFailure) → Noted at limit → Rises at limit (stmt_by around stmt found reach token (At at limit (token ∷ tokens)))
  stmt_rises None at limit token tokens reach n = (good_either tree.Local tree.Simple around).rises at limit (token ∷ tokens) reach n
  stmt_rises (Some opening) at limit token tokens reach n =
      let entry = opening_entry around stmt opening in
      let limit' = noted limit entry at token in
      rises_on at (suc at) limit limit' (behind_in around stmt opening token reach (At (suc at) limit' tokens)) (omega arith) (grows_noted at limit entry token)
      ((good_behind opening token).rises (suc at) limit' tokens reach (noted_later limit' at (noted_stays limit entry at token n)))

  stmt_rise : (at : ℕ) (limit : Option Told) (tokens : List Token) (reach : Option FarthestFailure) → Noted at limit → Rises at limit (stmt_at around stmt reach (At at limit tokens))
  stmt_rise at limit [] reach n = tt
  stmt_rise at limit (token ∷ tokens) reach n = stmt_rises (sign_of opening_text openings (symbol token)) at limit token tokens reach n

  stmt_fronts : (found : Option Opening) (at : ℕ) (limit : Option Told) (token : Token) (tokens : List Token) (reach : Option FarthestFailure) → sign_of opening_text openings (symbol token) ≡ found → Ended (token ∷ tokens)
      → Fronts at limit (token ∷ tokens) (stmt_by around stmt found reach token (At at limit (token ∷ tokens)))
  stmt_fronts None at limit token tokens reach is e = (good_either tree.Local tree.Simple around).fronts at limit (token ∷ tokens) reach e
  stmt_fronts (Some opening) at limit token tokens reach is e =
      inl (λ w way. (good_behind opening token).keeps w (suc at) (noted limit (opening_entry around stmt opening) at token) tokens reach
      (ended_behind token tokens (sign_no_end around stmt (λ around. (k around).keeps) opening token (sign_of-some opening_text openings (symbol token) opening is)) e) (inr (omega (arith, way.many))))

  stmt_front : (at : ℕ) (limit : Option Told) (tokens : List Token) (reach : Option FarthestFailure) → Ended tokens → Fronts at limit tokens (stmt_at around stmt reach (At at limit tokens))
  stmt_front at limit [] reach e = absurd e
  stmt_front at limit (token ∷ tokens) reach e = stmt_fronts (sign_of opening_text openings (symbol token)) at limit token tokens reach refl e

  pub good_at : Good (stmt_at around stmt)
  good_at = record { keeps = keeps_at around stmt (λ around. (k around).keeps); rises = stmt_rise; fronts = stmt_front }

pub good_stmt : (turns : ℕ) (around : Nesting) → Good (stmt_in turns around)
good_stmt zero around = good_refused StmtTree
good_stmt (suc turns) around = good_at around (stmt_in turns) (good_stmt turns) (stmt_sound turns)

some_above : (w : FarthestFailure) (reach : Option FarthestFailure) → Above w reach → (r : FarthestFailure) × (reach ≡ Some r)
some_above w (Some r) a = (r, refl)
some_above w None a = elim a [ ]

-- Where tokens have an end, something is told wherever the reader stops.
pub stops_told : (turns : ℕ) (around : Nesting) (tokens : List Token) (reach : Option FarthestFailure) → Ended tokens → stmt_in turns around None (At 0 None tokens) ≡ Stops reach → (r : FarthestFailure) × (reach ≡ Some r)
stops_told turns around [] reach e is = absurd e
stops_told turns around (token ∷ tokens) reach e is =
    let w = way_at None 0 0 None token tokens in
    ⊎_elim
    (λ (f : (w : FarthestFailure) → WayTo 0 None (token ∷ tokens) w → Holds w (stmt_in turns around None (At 0 None (token ∷ tokens)))).
    some_above w.reach reach (subst (Holds w.reach) is (f w.reach (record { many = w.many; told = w.told }))))
    (λ (h : IsHere 0 None (token ∷ tokens) (stmt_in turns around None (At 0 None (token ∷ tokens)))). absurd (reads_stop h.tree (At 0 None (token ∷ tokens)) h.reach reach (sym h.is ∙ is)))
    ((good_stmt turns around).fronts 0 None (token ∷ tokens) None e)
  where
    reads_stop : (stmt : StmtTree) (place : Cursor) (r s : Option FarthestFailure) → Reads stmt place r ≡ Stops s → ⊥
    reads_stop stmt place r s h = cc
