-- The depths along the tokens of a statement.
use Rattle.std.proofs.Common.{◌≡◌, ℕ, zero, suc, ◌<◌, List, ◌∷◌, ◌++◌, take, drop, refl, ap, ◌∙◌, subst, codes}
use Rattle.std.specs.Prelude.{Option, Some, replicate}
use Rattle.std.proofs.lemmas.Bool.{lt-ltb}
use Rattle.def_token.specs.Lexical.{Token}
use Rattle.def_tree.specs.ExprTree.{ExprTree, ExprTrees}
use Rattle.def_tree.specs.Expressions.{IsExpr, IsExprList, last_expr, more_exprs}
use Rattle.def_tree.specs.Limits.{Deep, Long, Entry, Nesting, in_bracket, in_block, in_statement, plain, opens, first_of, led_by, greatest_length, greatest_nesting, assignment_tokens, whole_entries, more_values_entries, values_entries, maybe_init_entries, more_declarators_entries, declarators_entries, type_entries, maybe_type_entries, local_entries, simple_entries, start_entries, maybe_expr_entries, maybe_simple_entries, condition_entries, stmt_entries, stmts_entries}
use Rattle.def_tree.specs.Operator.{Assignment, Set, AddTo, SubtractFrom, MultiplyBy, DivideBy, RemainderBy, BitAndWith, BitOrWith, BitXorWith, ShiftLeftBy, ShiftRightBy, assignment_text, Step, Increment, Decrement, step_text, sign_at}
use Rattle.def_tree.specs.Statements.{of_value, of_no_fields, of_fields, MayHaveInit, without_init, with_init, AreDeclarators, last_declarator, more_declarators, MayHaveType, without_type, with_type, IsLocal, of_type, of_const, of_binding, IsSimple, of_assignment, of_postfix_step, of_prefix_step, of_call_statement, IsStart, without_start, with_local, with_simple, MayBeExpr, without_expr, with_expr, MayBeSimple, without_simple, with_step, IsCondition, of_brackets, IsStmt, of_block, of_local, of_simple, of_nothing, of_return, of_break, of_continue, of_if, of_if_else, of_while, of_for, AreStmts, no_stmts, more_stmts, binding_text}
use Rattle.def_tree.specs.StmtTree.{Binding, Let, Var, Declarator, InitTree, LocalTree, SimpleTree, StartTree, StmtTree, StmtTrees}
use Rattle.def_tree.specs.Symbol.{Sign, symbol}
use Rattle.def_tree.specs.Types.{IsType}
use Rattle.def_tree.specs.TypeTree.{TypeTree}
use Rattle.law_tree.proofs.Depths.{Runs, here, passes, enters, leaves, begins, ends, gives, Lists, lists, runs_on, turn, stays}
use Rattle.law_tree.proofs.ExprDepths.{SignRuns, Stands, bracketed, type_run, sign_run, expr_run}
use Rattle.law_tree.proofs.StmtsCovered.{of_assignment_text}

-- the entry tells that so many forms are too many, if they are
abbrev pub Tells : ℕ → Entry → Type 0
Tells depth entry = greatest_nesting < depth → entry ≡ Some Deep

pub tells : (depth : ℕ) → Tells depth (opens depth)
tells depth deep = rw (lt-ltb greatest_nesting depth deep) refl

-- it tells so before another limit
first_tells : (depth : ℕ) (entry other : Entry) → Tells depth entry → Tells depth (first_of entry other)
first_tells depth entry other h deep = ap (λ (e : Entry). first_of e other) (h deep)

module _ (limit : Entry) where
  led_lists : {b c b' c' : ℕ} {tokens rest : List Token} {entries : List Entry}
      → Lists Tells b c tokens entries b' c' rest → Lists Tells b c tokens (led_by limit entries) b' c' rest
  led_lists (lists t p) = lists t p

  led_run : {b c b' c' : ℕ} {tokens rest : List Token} {entries : List Entry}
      → Runs Tells b c tokens entries b' c' rest → Runs Tells b c tokens (led_by limit entries) b' c' rest
  led_run here = here
  led_run (passes t p) = passes t p
  led_run {b = b} (enters {entry = entry} t f p) = enters t (first_tells (suc b) entry limit f) p
  led_run (leaves t p) = leaves t p
  led_run {c = c} (begins {entry = entry} t f p) = begins t (first_tells (suc c) entry limit f) p
  led_run (ends t p) = ends t p
  led_run (gives e l) = gives e l

  -- the limit can end at the token behind so many
  mutual
    later_run : {b c b' c' : ℕ} {tokens rest : List Token} {entries : List Entry} (many : ℕ)
        → Runs Tells b c tokens entries b' c' rest → Runs Tells b c tokens (take many entries ++ led_by limit (drop many entries)) b' c' rest
    later_run zero p = led_run p
    later_run (suc many) here = here
    later_run (suc many) (passes t p) = passes t (later_run many p)
    later_run (suc many) (enters t f p) = enters t f (later_run many p)
    later_run (suc many) (leaves t p) = leaves t (later_run many p)
    later_run (suc many) (begins t f p) = begins t f (later_run many p)
    later_run (suc many) (ends t p) = ends t (later_run many p)
    later_run (suc many) (gives e l) = gives e (later_lists many l)

    later_lists : {b c b' c' : ℕ} {tokens rest : List Token} {entries : List Entry} (many : ℕ)
        → Lists Tells b c tokens entries b' c' rest → Lists Tells b c tokens (take many entries ++ led_by limit (drop many entries)) b' c' rest
    later_lists zero l = led_lists l
    later_lists (suc many) (lists t p) = lists t (later_run many p)

pub whole_run : {tokens rest : List Token} {e : ExprTree} (c : ℕ) (around : Nesting) → IsExpr tokens e rest → Stands Tells around.brackets c tokens (whole_entries around e) rest
whole_run c around p = later_run (Some Long) greatest_length (expr_run Tells tells c around p)

-- values with a comma before each
more_values_run : {comma : Token} {tokens rest : List Token} {values : ExprTrees} (c : ℕ) (around : Nesting) → turn (symbol comma) ≡ stays
    → IsExprList tokens values rest → Stands Tells around.brackets c (comma ∷ tokens) (more_values_entries around values) rest
more_values_run c around m (last_expr p) = passes m (runs_on (whole_run c around p) here)
more_values_run c around m (more_exprs p h l) = passes m (runs_on (whole_run c around p) (more_values_run c around (ap turn h) l))

values_run : {tokens rest : List Token} {values : ExprTrees} (c : ℕ) (around : Nesting) → IsExprList tokens values rest → Stands Tells around.brackets c tokens (values_entries around values) rest
values_run c around (last_expr p) = runs_on (whole_run c around p) here
values_run c around (more_exprs p h l) = runs_on (whole_run c around p) (more_values_run c around (ap turn h) l)

assignment_stays : (assignment : Assignment) → turn (Sign (codes (assignment_text assignment))) ≡ stays
assignment_stays Set = refl
assignment_stays AddTo = refl
assignment_stays SubtractFrom = refl
assignment_stays MultiplyBy = refl
assignment_stays DivideBy = refl
assignment_stays RemainderBy = refl
assignment_stays BitAndWith = refl
assignment_stays BitOrWith = refl
assignment_stays BitXorWith = refl
assignment_stays ShiftLeftBy = refl
assignment_stays ShiftRightBy = refl

step_stays : (step : Step) → turn (Sign (codes (step_text step))) ≡ stays
step_stays Increment = refl
step_stays Decrement = refl

binding_stays : (binding : Binding) → turn (Sign (codes (binding_text binding))) ≡ stays
binding_stays Let = refl
binding_stays Var = refl

-- tokens of a statement come back to the depths around it
abbrev pub Keeps : Nesting → List Token → List Entry → List Token → Type 0
Keeps around tokens entries rest = Stands Tells around.brackets around.blocks tokens entries rest

maybe_init_run : {tokens rest : List Token} {init : Option InitTree} (around : Nesting) → MayHaveInit tokens init rest → Keeps around tokens (maybe_init_entries around init) rest
maybe_init_run around without_init = here
maybe_init_run around (with_init h (of_value e)) = passes (ap turn h) (whole_run around.blocks around e)
maybe_init_run around (with_init h (of_no_fields o k)) = gives h (lists (ap turn o) (ends (ap turn k) here))
maybe_init_run around (with_init h (of_fields o l k)) =
    gives h (lists (ap turn o) (runs_on (values_run (suc around.blocks) around l) (ends (ap turn k) here)))

-- declarators with a comma before each
more_declarators_run : {comma : Token} {tokens rest : List Token} {all : List Declarator} (around : Nesting) → turn (symbol comma) ≡ stays
    → AreDeclarators tokens all rest → Keeps around (comma ∷ tokens) (more_declarators_entries around all) rest
more_declarators_run around m (last_declarator n i) = passes m (passes (ap turn n) (runs_on (maybe_init_run around i) here))
more_declarators_run around m (more_declarators n i h d) =
    passes m (passes (ap turn n) (runs_on (maybe_init_run around i) (more_declarators_run around (ap turn h) d)))

declarators_run : {tokens rest : List Token} {all : List Declarator} (around : Nesting) → AreDeclarators tokens all rest → Keeps around tokens (declarators_entries around all) rest
declarators_run around (last_declarator n i) = passes (ap turn n) (runs_on (maybe_init_run around i) here)
declarators_run around (more_declarators n i h d) =
    passes (ap turn n) (runs_on (maybe_init_run around i) (more_declarators_run around (ap turn h) d))

pub type_keeps : {tokens rest : List Token} {type : TypeTree} (around : Nesting) → IsType tokens type rest → Keeps around tokens (type_entries around.types type) rest
type_keeps around t = type_run Tells around.brackets around.blocks around.types t

pub maybe_type_run : {tokens rest : List Token} {type : Option TypeTree} (around : Nesting) → MayHaveType tokens type rest → Keeps around tokens (maybe_type_entries around type) rest
maybe_type_run around without_type = here
maybe_type_run around (with_type h t) = passes (ap turn h) (type_keeps around t)

local_run : {tokens rest : List Token} {local : LocalTree} (around : Nesting) → IsLocal tokens local rest → Keeps around tokens (local_entries around local) rest
local_run around (of_type t d) = runs_on (type_keeps around t) (declarators_run around d)
local_run around (of_const h t d) = passes (ap turn h) (runs_on (type_keeps around t) (declarators_run around d))
local_run around (of_binding {binding = binding} h n t e v) =
    passes (ap turn h ∙ binding_stays binding)
    (passes (ap turn n) (runs_on (maybe_type_run around t) (passes (ap turn e) (whole_run around.blocks around v))))

assignment_run : (b c : ℕ) (assignment : Assignment) (token : Token) (tokens rest : List Token) → sign_at (token ∷ tokens) ≡ (codes (assignment_text assignment), rest)
    → Runs Tells b c (token ∷ tokens) (replicate (assignment_tokens assignment) plain) b c rest
assignment_run b c assignment token tokens rest h =
    subst (λ n. Runs Tells b c (token ∷ tokens) (replicate n plain) b c rest) (of_assignment_text assignment)
    (subst (SignRuns Tells b c (token ∷ tokens)) h (sign_run Tells b c token tokens) (assignment_stays assignment))

simple_run : {tokens rest : List Token} {simple : SimpleTree} (around : Nesting) → IsSimple tokens simple rest → Keeps around tokens (simple_entries around simple) rest
simple_run around (of_assignment {assignment = a} {token = t} {after = after} {behind = next} p s v) =
    runs_on (whole_run around.blocks around p)
    (runs_on (assignment_run around.brackets around.blocks a t after next s) (whole_run around.blocks around v))
simple_run around (of_postfix_step {step = step} p s) = runs_on (whole_run around.blocks around p) (passes (ap turn s ∙ step_stays step) here)
simple_run around (of_prefix_step {step = step} s p) = passes (ap turn s ∙ step_stays step) (whole_run around.blocks around p)
simple_run around (of_call_statement p is) = whole_run around.blocks around p

start_run : {tokens rest : List Token} {start : StartTree} (around : Nesting) → IsStart tokens start rest → Keeps around tokens (start_entries around start) rest
start_run around (without_start h) = passes (ap turn h) here
start_run around (with_local p h) = runs_on (local_run around p) (passes (ap turn h) here)
start_run around (with_simple p h none) = runs_on (simple_run around p) (passes (ap turn h) here)

maybe_expr_run : {tokens rest : List Token} {value : Option ExprTree} (around : Nesting) → MayBeExpr tokens value rest → Keeps around tokens (maybe_expr_entries around value) rest
maybe_expr_run around (without_expr h) = passes (ap turn h) here
maybe_expr_run around (with_expr e h) = runs_on (whole_run around.blocks around e) (passes (ap turn h) here)

-- a step and the bracket behind it, which the bracket of the `for` is
maybe_simple_run : {tokens rest : List Token} {simple : Option SimpleTree} (around : Nesting) → MayBeSimple tokens simple rest
    → Runs Tells (suc around.brackets) around.blocks tokens (maybe_simple_entries (in_bracket around) simple) around.brackets around.blocks rest
maybe_simple_run around (without_simple k) = leaves (ap turn k) here
maybe_simple_run around (with_step p k) = runs_on (simple_run (in_bracket around) p) (leaves (ap turn k) here)

condition_run : {tokens rest : List Token} {condition : ExprTree} (around : Nesting) → IsCondition tokens condition rest → Keeps around tokens (condition_entries around condition) rest
condition_run around (of_brackets h e k) =
    bracketed Tells (ap turn h) (tells (suc around.brackets)) (whole_run around.blocks (in_bracket around) e) (ap turn k)

-- a statement in another, with its limit
nested : {tokens rest : List Token} {entries : List Entry} (around : Nesting) → Keeps (in_statement around) tokens entries rest
    → Keeps around tokens (led_by (opens (in_statement around).statements) entries) rest
nested around p = led_run (opens (in_statement around).statements) p

mutual
  pub stmt_run : {tokens rest : List Token} {stmt : StmtTree} (around : Nesting) → IsStmt tokens stmt rest → Keeps around tokens (stmt_entries around stmt) rest
  stmt_run around (of_block h s) = begins (ap turn h) (tells (suc around.blocks)) (stmts_run around s)
  stmt_run around (of_local p h) = runs_on (local_run around p) (passes (ap turn h) here)
  stmt_run around (of_simple p h none) = runs_on (simple_run around p) (passes (ap turn h) here)
  stmt_run around (of_nothing h) = passes (ap turn h) here
  stmt_run around (of_return h e) = passes (ap turn h) (maybe_expr_run around e)
  stmt_run around (of_break h e) = passes (ap turn h) (passes (ap turn e) here)
  stmt_run around (of_continue h e) = passes (ap turn h) (passes (ap turn e) here)
  stmt_run around (of_if h p s none) = passes (ap turn h) (runs_on (condition_run around p) (nested around (stmt_run (in_statement around) s)))
  stmt_run around (of_if_else h p s e t) =
      passes (ap turn h)
      (runs_on (condition_run around p) (runs_on (nested around (stmt_run (in_statement around) s)) (passes (ap turn e) (nested around (stmt_run (in_statement around) t)))))
  stmt_run around (of_while h p s) = passes (ap turn h) (runs_on (condition_run around p) (nested around (stmt_run (in_statement around) s)))
  stmt_run around (of_for h o p e t s) =
      passes (ap turn h)
      (enters (ap turn o) (tells (suc around.brackets))
      (runs_on (start_run (in_bracket around) p)
      (runs_on (maybe_expr_run (in_bracket around) e) (runs_on (maybe_simple_run around t) (nested around (stmt_run (in_statement around) s))))))

  -- statements with the brace behind them
  stmts_run : {tokens rest : List Token} {stmts : StmtTrees} (around : Nesting) → AreStmts tokens stmts rest
      → Runs Tells around.brackets (suc around.blocks) tokens (stmts_entries (in_block around) stmts) around.brackets around.blocks rest
  stmts_run around (no_stmts k) = ends (ap turn k) here
  stmts_run around (more_stmts s m) = runs_on (stmt_run (in_block around) s) (stmts_run around m)
