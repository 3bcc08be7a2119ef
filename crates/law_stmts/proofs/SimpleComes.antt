-- The reader of simple statements comes to each of them.
use Rattle.std.proofs.Common.{◌≡◌, ℕ, Bool, true, false, List, [], ◌∷◌, ◌++◌, refl, sym, ap, subst, ◌∙◌, codes, append-nil}
use Rattle.std.specs.Prelude.{Option, Some, None, IsTrue, if◌then◌else◌, ◌==◌, replicate}
use Rattle.std.specs.List.{list_any}
use Rattle.std.specs.Str.{bytes_eq}
use Rattle.std.proofs.lemmas.Bool.{or_from}
use Prim.Native.String.{String}
use Rattle.def_token.specs.Lexical.{Token}
use Rattle.def_tree.specs.ExprTree.{ExprTree}
use Rattle.def_tree.specs.Limits.{Nesting, Entry, plain, assignment_tokens, whole_entries, simple_entries}
use Rattle.def_tree.specs.Operator.{Operator, operators, operator_text, Assignment, Set, AddTo, SubtractFrom, MultiplyBy, DivideBy, RemainderBy, BitAndWith, BitOrWith, BitXorWith, ShiftLeftBy, ShiftRightBy, assignment_text, Step, Increment, Decrement, step_text, SignAt, sign_at, sign_text, after_one}
use Rattle.def_tree.specs.Part.{expr_goes_on, begins_with_operator, signs_behind}
use Rattle.def_tree.specs.Statements.{is_call, IsSimple, of_assignment, of_postfix_step, of_prefix_step, of_call_statement}
use Rattle.def_tree.specs.StmtTree as tree
use Rattle.def_tree.specs.StmtTree.{SimpleTree}
use Rattle.def_tree.specs.Symbol.{Symbol, Name, Number, Text, End, Sign, symbol, is_sign, Is}
use Rattle.law_tree.proofs.Covered.{sign_tokens}
use Rattle.law_tree.proofs.Heads.{IsHeaded, begins_expr, expr_head}
use Rattle.law_tree.proofs.Symbols.{is_sign-true}
use Rattle.def_reading.specs.Machine.{written}
use Rattle.def_reading.specs.Cursor.{Told, At, passed}
use Rattle.def_reading.specs.StmtReading.{assignments, assignment_at, alone_by, stepped_in, assigned_by, assigned_in, simple_in}
use Rattle.def_reading.specs.Try.{Reads, Reader, try_then, try_as, choice, expr_in}
use Rattle.law_types.proofs.AheadComplete.{passed-append}
use Rattle.law_exprs.proofs.ExprComes.{expr_is}
use Rattle.law_stmts.proofs.LocalComes.{IsStop, headed_not}
use Rattle.law_machine.proofs.MachineSigns.{PassesSign, sign_passes}
use Rattle.law_exprs.proofs.TryComes.{passed_noted, Comes, comes_end, comes_as, comes_then, comes_with, comes_yes, comes_no}

pub assignment_found : (a : Assignment) → written assignment_text assignments (codes (assignment_text a)) ≡ Some a
assignment_found Set = refl
assignment_found AddTo = refl
assignment_found SubtractFrom = refl
assignment_found MultiplyBy = refl
assignment_found DivideBy = refl
assignment_found RemainderBy = refl
assignment_found BitAndWith = refl
assignment_found BitOrWith = refl
assignment_found BitXorWith = refl
assignment_found ShiftLeftBy = refl
assignment_found ShiftRightBy = refl

-- a text is an operator's
abbrev is_operator_text : List ℕ → Bool
is_operator_text text = list_any (λ (operator : Operator). bytes_eq text (codes (operator_text operator))) operators

-- an expression goes on with a symbol that is no operator
abbrev is_behind : Symbol → Bool
is_behind s = list_any (λ (sign : String). is_sign sign s) signs_behind

no_operator : (a : Assignment) → is_operator_text (codes (assignment_text a)) ≡ false
no_operator Set = refl
no_operator AddTo = refl
no_operator SubtractFrom = refl
no_operator MultiplyBy = refl
no_operator DivideBy = refl
no_operator RemainderBy = refl
no_operator BitAndWith = refl
no_operator BitOrWith = refl
no_operator BitXorWith = refl
no_operator ShiftLeftBy = refl
no_operator ShiftRightBy = refl

not_behind : (a : Assignment) → is_behind (Sign (codes (assignment_text a))) ≡ false
not_behind Set = refl
not_behind AddTo = refl
not_behind SubtractFrom = refl
not_behind MultiplyBy = refl
not_behind DivideBy = refl
not_behind RemainderBy = refl
not_behind BitAndWith = refl
not_behind BitOrWith = refl
not_behind BitXorWith = refl
not_behind ShiftLeftBy = refl
not_behind ShiftRightBy = refl

pub has_text : (a : Assignment) → [] ≡ codes (assignment_text a) → ⊥
has_text Set h = cc
has_text AddTo h = cc
has_text SubtractFrom h = cc
has_text MultiplyBy h = cc
has_text DivideBy h = cc
has_text RemainderBy h = cc
has_text BitAndWith h = cc
has_text BitOrWith h = cc
has_text BitXorWith h = cc
has_text ShiftLeftBy h = cc
has_text ShiftRightBy h = cc

text_is : (greater : Bool) (b : ℕ) (text : List ℕ) (a : Assignment) → (if greater then [] else b ∷ text) ≡ codes (assignment_text a) → Sign (b ∷ text) ≡ Sign (codes (assignment_text a))
text_is true b text a h = absurd (has_text a h)
text_is false b text a h = ap Sign h

pub sign_is : (s : Symbol) (a : Assignment) → sign_text s ≡ codes (assignment_text a) → s ≡ Sign (codes (assignment_text a))
sign_is Name a h = absurd (has_text a h)
sign_is (Number wide) a h = absurd (has_text a h)
sign_is Text a h = absurd (has_text a h)
sign_is End a h = absurd (has_text a h)
sign_is (Sign []) a h = absurd (has_text a h)
sign_is (Sign (b ∷ text)) a h = text_is (b == 62) b text a h

abbrev sign_by : Bool → Token → List Token → SignAt
sign_by b first tokens = if b then after_one first tokens else (sign_text (symbol first), tokens)

head_by : (b : Bool) (token : Token) (after next : List Token) (a : Assignment) → is_sign ">" (symbol token) ≡ b → sign_by b token after ≡ (codes (assignment_text a), next) → is_behind (symbol token) ≡ false
head_by true token after next a is h = ap is_behind (is_sign-true ">" (symbol token) is)
head_by false token after next a is h = ap is_behind (sign_is (symbol token) a (ap (λ (q : SignAt). q.0) h)) ∙ not_behind a

-- an expression ends before an assignment
pub ends_assigned : (a : Assignment) (token : Token) (after next : List Token) → sign_at (token ∷ after) ≡ (codes (assignment_text a), next) → expr_goes_on (token ∷ after) ≡ false
ends_assigned a token after next h =
    or_from (begins_with_operator (token ∷ after)) (is_behind (symbol token))
    (ap (λ (q : SignAt). is_operator_text q.0) h ∙ no_operator a) (head_by (is_sign ">" (symbol token)) token after next a refl h)

pub ends_stepped : (step : Step) (token : Token) (rest : List Token) → Is (step_text step) token → expr_goes_on (token ∷ rest) ≡ false
ends_stepped Increment token rest h = rw h refl
ends_stepped Decrement token rest h = rw h refl

tokens_are : (a : Assignment) → sign_tokens (codes (assignment_text a)) ≡ assignment_tokens a
tokens_are Set = refl
tokens_are AddTo = refl
tokens_are SubtractFrom = refl
tokens_are MultiplyBy = refl
tokens_are DivideBy = refl
tokens_are RemainderBy = refl
tokens_are BitAndWith = refl
tokens_are BitOrWith = refl
tokens_are BitXorWith = refl
tokens_are ShiftLeftBy = refl
tokens_are ShiftRightBy = refl

-- the place behind the tokens of an assignment
pub record PassesAssignment (a : Assignment) (at : ℕ) (limit : Option Told) (tokens next : List Token) : Type 0 where
  pub after : ℕ
  pub is : passed (replicate (assignment_tokens a) plain) (At at limit tokens) ≡ At after limit next

pub assignment_passes : (a : Assignment) (at : ℕ) (limit : Option Told) (token : Token) (after next : List Token) → sign_at (token ∷ after) ≡ (codes (assignment_text a), next)
    → PassesAssignment a at limit (token ∷ after) next
assignment_passes a at limit token after next h =
    let moved = subst (PassesSign at limit (token ∷ after)) h (sign_passes at limit token after) in
    record { after = moved.behind; is = ap (λ n. passed (replicate n plain) (At at limit (token ∷ after))) (sym (tokens_are a)) ∙ moved.is }

-- the readers behind the first expression
abbrev decremented : ExprTree → Reader SimpleTree
decremented expr = choice (is_sign "--") plain (λ token reach place. Reads (tree.PostfixStep Decrement expr token) place reach) (alone_by (is_call expr) expr)

abbrev incremented_by : ExprTree → Token → Reader SimpleTree
incremented_by expr token reach place = Reads (tree.PostfixStep Increment expr token) place reach

abbrev decremented_by : ExprTree → Token → Reader SimpleTree
decremented_by expr token reach place = Reads (tree.PostfixStep Decrement expr token) place reach

stepped_is : (step : Step) (expr : ExprTree) (token : Token) (rest : List Token) → Is (step_text step) token → Comes (stepped_in expr) (token ∷ rest) (tree.PostfixStep step expr token) (plain ∷ []) rest
stepped_is Increment expr token rest h =
    comes_yes (is_sign "++") plain (incremented_by expr) (decremented expr) token (rw h refl) (comes_end (tree.PostfixStep Increment expr token) rest)
stepped_is Decrement expr token rest h =
    comes_no (is_sign "++") plain (incremented_by expr) (decremented expr) (rw h refl)
    (comes_yes (is_sign "--") plain (decremented_by expr) (alone_by (is_call expr) expr) token (rw h refl) (comes_end (tree.PostfixStep Decrement expr token) rest))

-- what ends a simple statement that is a call alone
pub record IsAloneEnd (rest : List Token) : Type 0 where
  pub first : Token
  pub others : List Token
  pub are : rest ≡ first ∷ others
  pub assigns : assignment_at (first ∷ others) ≡ None
  pub increments : is_sign "++" (symbol first) ≡ false
  pub decrements : is_sign "--" (symbol first) ≡ false
  pub stops : IsStop (first ∷ others)

no_assignment : (token : Token) (tokens : List Token) (step : Step) → Is (step_text step) token → assignment_at (token ∷ tokens) ≡ None
no_assignment token tokens Increment h = rw h refl
no_assignment token tokens Decrement h = rw h refl

with_sign : (a : Assignment) (token : Token) (after next : List Token) → sign_at (token ∷ after) ≡ (codes (assignment_text a), next) → assignment_at (token ∷ after) ≡ Some a
with_sign a token after next h = ap (λ (q : SignAt). written assignment_text assignments q.0) h ∙ assignment_found a

-- behind the first expression
comes_unassigned : (around : Nesting) (expr : ExprTree) (token : Token) {tokens rest : List Token} {simple : SimpleTree} {entries : List Entry} → assignment_at (token ∷ tokens) ≡ None
    → Comes (stepped_in expr) (token ∷ tokens) simple entries rest → Comes (assigned_in around expr) (token ∷ tokens) simple entries rest
comes_unassigned around expr token {tokens = tokens} none c =
    record {
      comes = λ at limit reach.
          let g = c.comes at limit reach in
          record { at = g.at; limit = g.limit; reach = g.reach; is = ap (λ o. assigned_by around o expr reach token (At at limit (token ∷ tokens))) none ∙ g.is; passes = g.passes };
    }

comes_assigned : (around : Nesting) (a : Assignment) (expr value : ExprTree) (token : Token) {after next rest : List Token} → sign_at (token ∷ after) ≡ (codes (assignment_text a), next)
    → Comes (expr_in false around) next value (whole_entries around value) rest
    → Comes (assigned_in around expr) (token ∷ after) (tree.Assign a token expr value) (replicate (assignment_tokens a) plain ++ whole_entries around value) rest
comes_assigned around a expr value token {after = after} {next = next} sign c =
    record {
      comes = λ at limit reach.
          let p = assignment_passes a at limit token after next sign in
          let g = c.comes p.after limit reach in
          record {
            at = g.at;
            limit = g.limit;
            reach = g.reach;
            is = ap (λ o. assigned_by around o expr reach token (At at limit (token ∷ after))) (with_sign a token after next sign)
                ∙ ap (λ place. try_as (tree.Assign a token expr) (expr_in false around reach place)) p.is ∙ ap (try_as (tree.Assign a token expr)) g.is;
            passes = λ h.
                passed-append (replicate (assignment_tokens a) plain) (whole_entries around value) (At at limit (token ∷ after)) ∙ ap (passed (whole_entries around value)) p.is
                ∙ g.passes (passed_noted (replicate (assignment_tokens a) plain) at limit (token ∷ after) h p.is);
          };
    }

alone_is : (around : Nesting) (call : ExprTree) {rest : List Token} → IsTrue (is_call call) → IsAloneEnd rest → Comes (assigned_in around call) rest (tree.CallStatement call) [] rest
alone_is around call {rest = rest} c end =
    subst (λ ts. Comes (assigned_in around call) ts (tree.CallStatement call) [] ts) (sym end.are)
    (comes_unassigned around call end.first end.assigns
    (comes_no (is_sign "++") plain (incremented_by call) (decremented call) end.increments
    (comes_no (is_sign "--") plain (decremented_by call) (alone_by (is_call call) call) end.decrements
    (record { comes = λ at limit reach. record { at = at; limit = limit; reach = reach; is = rw c refl; passes = λ h. refl } }))))

abbrev by_expr : Nesting → Reader SimpleTree
by_expr around reach place = try_then (assigned_in around) (expr_in true around reach place)

abbrev before_by : Nesting → Step → Token → Reader SimpleTree
before_by around step token reach place = try_as (tree.PrefixStep step token) (expr_in false around reach place)

abbrev by_decrement : Nesting → Reader SimpleTree
by_decrement around = choice (is_sign "--") plain (before_by around Decrement) (by_expr around)

simple_by_expr : (around : Nesting) {tokens rest : List Token} {simple : SimpleTree} {entries : List Entry} → IsHeaded begins_expr tokens → Comes (by_expr around) tokens simple entries rest
    → Comes (simple_in around) tokens simple entries rest
simple_by_expr around head c =
    comes_no (is_sign "++") plain (before_by around Increment) (by_decrement around) (headed_not begins_expr "++" refl head)
    (comes_no (is_sign "--") plain (before_by around Decrement) (by_expr around) (headed_not begins_expr "--" refl head) c)

pub simple_is : (around : Nesting) {tokens rest : List Token} {simple : SimpleTree} → IsSimple tokens simple rest → IsAloneEnd rest → Comes (simple_in around) tokens simple (simple_entries around simple) rest
simple_is around {rest = rest} (of_assignment {assignment = a} {token = t} {after = after} {behind = next} {place = place} {value = value} p sign v) end =
    let stop : IsStop rest = subst IsStop (sym end.are) end.stops in
    simple_by_expr around (expr_head p)
    (comes_then (assigned_in around) (expr_in true around) (expr_is true around p (ends_assigned a t after next sign) refl)
    (comes_assigned around a place value t sign (expr_is false around v stop.goes stop.shifts)))
simple_is around {rest = rest} (of_postfix_step {step = step} {token = t} {place = place} p s) end =
    simple_by_expr around (expr_head p)
    (comes_then (assigned_in around) (expr_in true around) (expr_is true around p (ends_stepped step t rest s) refl)
    (comes_unassigned around place t (no_assignment t rest step s) (stepped_is step place t rest s)))
simple_is around {rest = rest} (of_prefix_step {step = Increment} {token = t} s p) end =
    let stop : IsStop rest = subst IsStop (sym end.are) end.stops in
    comes_yes (is_sign "++") plain (before_by around Increment) (by_decrement around) t (rw s refl)
    (comes_as (tree.PrefixStep Increment t) (expr_in false around) (expr_is false around p stop.goes stop.shifts))
simple_is around {rest = rest} (of_prefix_step {step = Decrement} {token = t} s p) end =
    let stop : IsStop rest = subst IsStop (sym end.are) end.stops in
    comes_no (is_sign "++") plain (before_by around Increment) (by_decrement around) (rw s refl)
    (comes_yes (is_sign "--") plain (before_by around Decrement) (by_expr around) t (rw s refl)
    (comes_as (tree.PrefixStep Decrement t) (expr_in false around) (expr_is false around p stop.goes stop.shifts)))
simple_is around {rest = rest} (of_call_statement {tokens = tokens} {call = call} p c) end =
    let stop : IsStop rest = subst IsStop (sym end.are) end.stops in
    simple_by_expr around (expr_head p)
    (comes_with (by_expr around) (whole_entries around call ++ []) (whole_entries around call) (append-nil (whole_entries around call))
    (comes_then (assigned_in around) (expr_in true around) (expr_is true around p stop.goes refl) (alone_is around call c end)))
