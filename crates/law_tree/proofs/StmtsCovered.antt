-- Each statement has an entry for each of its tokens.
use Rattle.std.proofs.Common.{◌≡◌, ◌+◌, List, [], ◌∷◌, ◌++◌, length, take, drop, refl, sym, ap, ◌∙◌, codes, arith, length-append}
use Rattle.std.specs.Prelude.{Option, Some, replicate}
use Rattle.std.proofs.lemmas.List.{take-append-drop, length-replicate}
use Rattle.def_token.specs.Lexical.{Token}
use Rattle.def_tree.specs.ExprTree.{ExprTree, ExprTrees}
use Rattle.def_tree.specs.Expressions.{IsExpr, IsExprList, last_expr, more_exprs}
use Rattle.def_tree.specs.Laws.{AreCovered}
use Rattle.def_tree.specs.Limits.{Long, Entry, Nesting, in_bracket, in_block, in_statement, plain, opens, led_by, at_most_long, greatest_length, assignment_tokens, expr_entries, whole_entries, more_values_entries, values_entries, init_entries, maybe_init_entries, declarator_entries, more_declarators_entries, declarators_entries, type_entries, maybe_type_entries, local_entries, simple_entries, start_entries, maybe_expr_entries, maybe_simple_entries, condition_entries, stmt_entries, stmts_entries}
use Rattle.def_tree.specs.Operator.{Assignment, Set, AddTo, SubtractFrom, MultiplyBy, DivideBy, RemainderBy, BitAndWith, BitOrWith, BitXorWith, ShiftLeftBy, ShiftRightBy, assignment_text, SignAt, sign_at}
use Rattle.def_tree.specs.Statements.{IsInit, of_value, of_no_fields, of_fields, MayHaveInit, without_init, with_init, AreDeclarators, last_declarator, more_declarators, MayHaveType, without_type, with_type, IsLocal, of_type, of_const, of_binding, IsSimple, of_assignment, of_postfix_step, of_prefix_step, of_call_statement, IsStart, without_start, with_local, with_simple, MayBeExpr, without_expr, with_expr, MayBeSimple, without_simple, with_step, IsCondition, of_brackets, IsStmt, of_block, of_local, of_simple, of_nothing, of_return, of_break, of_continue, of_if, of_if_else, of_while, of_for, AreStmts, no_stmts, more_stmts}
use Rattle.def_tree.specs.StmtTree.{Declarator, InitTree, LocalTree, SimpleTree, StartTree, StmtTree, StmtTrees}
use Rattle.def_tree.specs.TypeTree.{TypeTree}
use Rattle.law_tree.proofs.Covered.{sign_tokens, sign_covered, type_covered, expr_covered}

led_length : (entry : Entry) (entries : List Entry) → length (led_by entry entries) ≡ length entries
led_length entry [] = refl
led_length entry (first ∷ entries) = refl

long_length : (entries : List Entry) → length (at_most_long entries) ≡ length entries
long_length entries =
    length-append (take greatest_length entries) (led_by (Some Long) (drop greatest_length entries))
    ∙ ap (λ n. length (take greatest_length entries) + n) (led_length (Some Long) (drop greatest_length entries))
    ∙ sym (length-append (take greatest_length entries) (drop greatest_length entries))
    ∙ ap length (take-append-drop greatest_length entries)

pub whole_covered : {tokens rest : List Token} {e : ExprTree} (around : Nesting) → IsExpr tokens e rest → length tokens ≡ length (whole_entries around e) + length rest
whole_covered {e = e} around p = omega (arith, expr_covered around p, long_length (expr_entries around e))

-- values with a comma before each
more_values_covered : {tokens rest : List Token} {values : ExprTrees} (around : Nesting) → IsExprList tokens values rest → length tokens + 1 ≡ length (more_values_entries around values) + length rest
more_values_covered around (last_expr {expr = e} p) = omega (arith, whole_covered around p, length-append (whole_entries around e) [])
more_values_covered around (more_exprs {expr = e} {exprs = es} p c l) =
    omega (arith, whole_covered around p, more_values_covered around l, length-append (whole_entries around e) (more_values_entries around es))

values_covered : {tokens rest : List Token} {values : ExprTrees} (around : Nesting) → IsExprList tokens values rest → length tokens ≡ length (values_entries around values) + length rest
values_covered around (last_expr {expr = e} p) = omega (arith, whole_covered around p, length-append (whole_entries around e) [])
values_covered around (more_exprs {expr = e} {exprs = es} p c l) =
    omega (arith, whole_covered around p, more_values_covered around l, length-append (whole_entries around e) (more_values_entries around es))

init_covered : {tokens rest : List Token} {init : InitTree} (around : Nesting) → IsInit tokens init rest → length tokens ≡ length (init_entries around init) + length rest
init_covered around (of_value e) = whole_covered around e
init_covered around (of_no_fields h k) = omega arith
init_covered around (of_fields {values = values} h l k) = omega (arith, values_covered around l, length-append (values_entries around values) (plain ∷ []))

maybe_init_covered : {tokens rest : List Token} {init : Option InitTree} (around : Nesting) → MayHaveInit tokens init rest → length tokens ≡ length (maybe_init_entries around init) + length rest
maybe_init_covered around without_init = omega arith
maybe_init_covered around (with_init h i) = omega (arith, init_covered around i)

-- declarators with a comma before each
more_declarators_covered : {tokens rest : List Token} {all : List Declarator} (around : Nesting) → AreDeclarators tokens all rest → length tokens + 1 ≡ length (more_declarators_entries around all) + length rest
more_declarators_covered around (last_declarator {name = n} {init = init} h i) =
    omega (arith, maybe_init_covered around i, length-append (declarator_entries around (record { name = n; init = init })) [])
more_declarators_covered around (more_declarators {name = n} {init = init} {declarators = all} h i c d) =
    omega (
      arith,
      maybe_init_covered around i,
      more_declarators_covered around d,
      length-append (declarator_entries around (record { name = n; init = init })) (more_declarators_entries around all),
    )

declarators_covered : {tokens rest : List Token} {all : List Declarator} (around : Nesting) → AreDeclarators tokens all rest → length tokens ≡ length (declarators_entries around all) + length rest
declarators_covered around (last_declarator {name = n} {init = init} h i) =
    omega (arith, maybe_init_covered around i, length-append (declarator_entries around (record { name = n; init = init })) [])
declarators_covered around (more_declarators {name = n} {init = init} {declarators = all} h i c d) =
    omega (
      arith,
      maybe_init_covered around i,
      more_declarators_covered around d,
      length-append (declarator_entries around (record { name = n; init = init })) (more_declarators_entries around all),
    )

maybe_type_covered : {tokens rest : List Token} {type : Option TypeTree} (around : Nesting) → MayHaveType tokens type rest → length tokens ≡ length (maybe_type_entries around type) + length rest
maybe_type_covered around without_type = omega arith
maybe_type_covered around (with_type h t) = omega (arith, type_covered around.types t)

local_covered : {tokens rest : List Token} {local : LocalTree} (around : Nesting) → IsLocal tokens local rest → length tokens ≡ length (local_entries around local) + length rest
local_covered around (of_type {type = type} {declarators = all} t d) =
    omega (arith, type_covered around.types t, declarators_covered around d, length-append (type_entries around.types type) (declarators_entries around all))
local_covered around (of_const {type = type} {declarators = all} h t d) =
    omega (arith, type_covered around.types t, declarators_covered around d, length-append (type_entries around.types type) (declarators_entries around all))
local_covered around (of_binding {type = type} {value = value} h n t e v) =
    omega (arith, maybe_type_covered around t, whole_covered around v, length-append (maybe_type_entries around type) (plain ∷ whole_entries around value))

pub of_assignment_text : (assignment : Assignment) → sign_tokens (codes (assignment_text assignment)) ≡ assignment_tokens assignment
of_assignment_text Set = refl
of_assignment_text AddTo = refl
of_assignment_text SubtractFrom = refl
of_assignment_text MultiplyBy = refl
of_assignment_text DivideBy = refl
of_assignment_text RemainderBy = refl
of_assignment_text BitAndWith = refl
of_assignment_text BitOrWith = refl
of_assignment_text BitXorWith = refl
of_assignment_text ShiftLeftBy = refl
of_assignment_text ShiftRightBy = refl

pub assignment_covered : (assignment : Assignment) (token : Token) (tokens rest : List Token) → sign_at (token ∷ tokens) ≡ (codes (assignment_text assignment), rest)
    → length (token ∷ tokens) ≡ assignment_tokens assignment + length rest
assignment_covered assignment token tokens rest h =
    sign_covered token tokens ∙ ap (λ (q : SignAt). sign_tokens q.0 + length q.1) h ∙ ap (λ n. n + length rest) (of_assignment_text assignment)

simple_covered : {tokens rest : List Token} {simple : SimpleTree} (around : Nesting) → IsSimple tokens simple rest → length tokens ≡ length (simple_entries around simple) + length rest
simple_covered around (of_assignment {assignment = a} {token = t} {after = after} {behind = next} {place = place} {value = value} p s v) =
    omega (
      arith,
      whole_covered around p,
      assignment_covered a t after next s,
      whole_covered around v,
      length-append (whole_entries around place) (replicate (assignment_tokens a) plain ++ whole_entries around value),
      length-append (replicate (assignment_tokens a) plain) (whole_entries around value),
      length-replicate (assignment_tokens a) plain,
    )
simple_covered around (of_postfix_step {place = place} p s) = omega (arith, whole_covered around p, length-append (whole_entries around place) (plain ∷ []))
simple_covered around (of_prefix_step s p) = omega (arith, whole_covered around p)
simple_covered around (of_call_statement p c) = whole_covered around p

start_covered : {tokens rest : List Token} {start : StartTree} (around : Nesting) → IsStart tokens start rest → length tokens ≡ length (start_entries around start) + length rest
start_covered around (without_start h) = omega arith
start_covered around (with_local {local = l} p h) = omega (arith, local_covered around p, length-append (local_entries around l) (plain ∷ []))
start_covered around (with_simple {simple = s} p h none) = omega (arith, simple_covered around p, length-append (simple_entries around s) (plain ∷ []))

maybe_expr_covered : {tokens rest : List Token} {value : Option ExprTree} (around : Nesting) → MayBeExpr tokens value rest → length tokens ≡ length (maybe_expr_entries around value) + length rest
maybe_expr_covered around (without_expr h) = omega arith
maybe_expr_covered around (with_expr {value = value} e h) = omega (arith, whole_covered around e, length-append (whole_entries around value) (plain ∷ []))

maybe_simple_covered : {tokens rest : List Token} {simple : Option SimpleTree} (around : Nesting) → MayBeSimple tokens simple rest → length tokens ≡ length (maybe_simple_entries around simple) + length rest
maybe_simple_covered around (without_simple h) = omega arith
maybe_simple_covered around (with_step {simple = s} p h) = omega (arith, simple_covered around p, length-append (simple_entries around s) (plain ∷ []))

condition_covered : {tokens rest : List Token} {condition : ExprTree} (around : Nesting) → IsCondition tokens condition rest → length tokens ≡ length (condition_entries around condition) + length rest
condition_covered around (of_brackets {condition = c} h e k) =
    omega (arith, whole_covered (in_bracket around) e, length-append (whole_entries (in_bracket around) c) (plain ∷ []))

abbrev nested : Nesting → StmtTree → List Entry
nested around stmt = led_by (opens (in_statement around).statements) (stmt_entries (in_statement around) stmt)

nested_length : (around : Nesting) (stmt : StmtTree) → length (nested around stmt) ≡ length (stmt_entries (in_statement around) stmt)
nested_length around stmt = led_length (opens (in_statement around).statements) (stmt_entries (in_statement around) stmt)

mutual
  pub stmt_covered : {tokens rest : List Token} {stmt : StmtTree} (around : Nesting) → IsStmt tokens stmt rest → length tokens ≡ length (stmt_entries around stmt) + length rest
  stmt_covered around (of_block h s) = omega (arith, stmts_covered (in_block around) s)
  stmt_covered around (of_local {local = l} p h) = omega (arith, local_covered around p, length-append (local_entries around l) (plain ∷ []))
  stmt_covered around (of_simple {simple = s} p h none) = omega (arith, simple_covered around p, length-append (simple_entries around s) (plain ∷ []))
  stmt_covered around (of_nothing h) = omega arith
  stmt_covered around (of_return h e) = omega (arith, maybe_expr_covered around e)
  stmt_covered around (of_break h e) = omega arith
  stmt_covered around (of_continue h e) = omega arith
  stmt_covered around (of_if {condition = c} {yes' = yes'} h p s none) =
      omega (
        arith,
        condition_covered around p,
        stmt_covered (in_statement around) s,
        nested_length around yes',
        length-append (condition_entries around c) (nested around yes'),
      )
  stmt_covered around (of_if_else {condition = c} {yes' = yes'} {no' = no'} h p s e t) =
      omega (
        arith,
        condition_covered around p,
        stmt_covered (in_statement around) s,
        stmt_covered (in_statement around) t,
        nested_length around yes',
        nested_length around no',
        length-append (condition_entries around c) (nested around yes' ++ plain ∷ nested around no'),
        length-append (nested around yes') (plain ∷ nested around no'),
      )
  stmt_covered around (of_while {condition = c} {body = body} h p s) =
      omega (
        arith,
        condition_covered around p,
        stmt_covered (in_statement around) s,
        nested_length around body,
        length-append (condition_entries around c) (nested around body),
      )
  stmt_covered around (of_for {start = start} {condition = condition} {step = step} {body = body} h b p c t s) =
      let bracket = in_bracket around in
      omega (
        arith,
        start_covered bracket p,
        maybe_expr_covered bracket c,
        maybe_simple_covered bracket t,
        stmt_covered (in_statement around) s,
        nested_length around body,
        length-append (start_entries bracket start) (maybe_expr_entries bracket condition ++ (maybe_simple_entries bracket step ++ nested around body)),
        length-append (maybe_expr_entries bracket condition) (maybe_simple_entries bracket step ++ nested around body),
        length-append (maybe_simple_entries bracket step) (nested around body),
      )

  stmts_covered : {tokens rest : List Token} {stmts : StmtTrees} (around : Nesting) → AreStmts tokens stmts rest → length tokens ≡ length (stmts_entries around stmts) + length rest
  stmts_covered around (no_stmts h) = omega arith
  stmts_covered around (more_stmts {stmt = stmt} {stmts = stmts} s m) =
      omega (arith, stmt_covered around s, stmts_covered around m, length-append (stmt_entries around stmt) (stmts_entries around stmts))

pub all_covered : (around : Nesting) (tokens rest : List Token) → AreCovered around tokens rest
all_covered around tokens rest =
    record {
      type = λ type t. type_covered around.types t;
      expr = λ expr e. expr_covered around e;
      stmt = λ stmt s. stmt_covered around s;
    }
