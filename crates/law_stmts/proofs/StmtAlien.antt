-- Locals before a semicolon, and statements before the end, do not hang on what stands behind it.
use Rattle.std.proofs.Common.{◌≡◌, ℕ, suc, ◌≤◌, Bool, true, false, List, [], ◌∷◌, refl, sym, ap, subst, ◌∙◌, codes, arith}
use Rattle.std.specs.Prelude.{Option, if◌then◌else◌, ◌==◌, replicate}
use Rattle.std.proofs.lemmas.Bool.{false≢true}
use Rattle.def_token.specs.Lexical.{Token}
use Rattle.def_tree.specs.ExprTree.{ExprTree}
use Rattle.def_tree.specs.Expressions.{IsExpr, IsExprList}
use Rattle.def_tree.specs.Operator.{Assignment, Set, AddTo, SubtractFrom, MultiplyBy, DivideBy, RemainderBy, BitAndWith, BitOrWith, BitXorWith, ShiftLeftBy, ShiftRightBy, assignment_text, Step, Increment, Decrement, step_text, SignAt, sign_at, sign_text, joins, after_one, after_two}
use Rattle.def_tree.specs.Statements.{binding_text, begins_with, IsInit, of_value, of_no_fields, of_fields, MayHaveInit, without_init, with_init, AreDeclarators, last_declarator, more_declarators, MayHaveType, without_type, with_type, IsLocal, of_type, of_const, of_binding, IsSimple, of_assignment, of_postfix_step, of_prefix_step, of_call_statement, NoLocal, IsStart, without_start, with_local, with_simple, MayBeExpr, without_expr, with_expr, MayBeSimple, without_simple, with_step, IsCondition, of_brackets, IsStmt, of_block, of_local, of_simple, of_nothing, of_return, of_break, of_continue, of_if, of_if_else, of_while, of_for, AreStmts, no_stmts, more_stmts}
use Rattle.def_tree.specs.StmtTree.{Binding, Let, Var, Declarator, InitTree, LocalTree, SimpleTree, StartTree, StmtTree, StmtTrees}
use Rattle.def_tree.specs.Symbol.{End, Sign, symbol, is_sign, Is}
use Rattle.def_tree.specs.TypeTree.{TypeTree}
use Rattle.def_tree.specs.Limits.{Entry, plain, assignment_tokens}
use Rattle.def_reading.specs.Cursor.{Told, At, passed, noted}
use Rattle.def_reading.specs.TypeReading.{Ended}
use Rattle.law_types.proofs.AheadFaults.{Grows, same_limit, grows_noted, grows_more}
use Rattle.law_types.proofs.LimitSpots.{same_place}
use Rattle.law_types.proofs.Stopping.{ended_behind}
use Rattle.law_stmts.proofs.Alien.{is_alien, Agree, at_mark, before, agree_back, Goes, goes, Kept, type_kept_is, expr_stays, exprs_stay}
use Rattle.law_machine.proofs.SignsBehind.{assigns}
use Rattle.law_stmts.proofs.SimpleComes.{has_text}
use Rattle.law_machine.proofs.SignParts.{assign_sign, joins_no_end}

binding_alien : (binding : Binding) → is_alien (Sign (codes (binding_text binding))) ≡ false
binding_alien Let = refl
binding_alien Var = refl

module _ (mark : Token) (alien : is_alien (symbol mark) ≡ true) where
  init_stays : {r r' tokens rest us : List Token} {init : InitTree} → IsInit tokens init rest → Agree mark r r' tokens us → Kept mark alien IsInit r r' us init rest
  init_stays (of_value e) a = let one = expr_stays mark alien e a in record { rest' = one.rest'; part = of_value one.part; agree = one.agree }
  init_stays {init = init} (of_no_fields {opening = o} {closing = c} h k) a =
      let one = goes mark alien a (rw h refl) in
      let two = goes mark alien one.agree (rw k refl) in
      record {
        rest' = two.others;
        part = subst (λ ts. IsInit ts init two.others) (sym (one.are ∙ ap (λ ts. o ∷ ts) two.are)) (of_no_fields {opening = o} {closing = c} h k);
        agree = two.agree;
      }
  init_stays {init = init} (of_fields {opening = o} {closing = c} {values = values} h l k) a =
      let one = goes mark alien a (rw h refl) in
      let list = exprs_stay mark alien l one.agree in
      let close = goes mark alien list.agree (rw k refl) in
      record {
        rest' = close.others;
        part = subst (λ ts. IsInit ts init close.others) (sym one.are) (of_fields {opening = o} {closing = c} h (subst (IsExprList one.others values) close.are list.part) k);
        agree = close.agree;
      }

  maybe_init_stays : {r r' tokens rest us : List Token} {init : Option InitTree} → MayHaveInit tokens init rest → Agree mark r r' tokens us → Kept mark alien MayHaveInit r r' us init rest
  maybe_init_stays {us = us} without_init a = record { rest' = us; part = without_init; agree = a }
  maybe_init_stays {init = init} (with_init {equals = t} h i) a =
      let one = goes mark alien a (rw h refl) in
      let more = init_stays i one.agree in
      record { rest' = more.rest'; part = subst (λ ts. MayHaveInit ts init more.rest') (sym one.are) (with_init {equals = t} h more.part); agree = more.agree }

  declarators_stay : {r r' tokens rest us : List Token} {all : List Declarator} → AreDeclarators tokens all rest → Agree mark r r' tokens us → Kept mark alien AreDeclarators r r' us all rest
  declarators_stay {all = all} (last_declarator {name = n} {init = init} h i) a =
      let one = goes mark alien a (rw h refl) in
      let more = maybe_init_stays i one.agree in
      record { rest' = more.rest'; part = subst (λ ts. AreDeclarators ts (record { name = n; init = init } ∷ []) more.rest') (sym one.are) (last_declarator {name = n} h more.part); agree = more.agree }
  declarators_stay {all = all} (more_declarators {name = n} {comma = comma} {init = init} {declarators = more'} h i c d) a =
      let one = goes mark alien a (rw h refl) in
      let two = maybe_init_stays i one.agree in
      let three = goes mark alien two.agree (rw c refl) in
      let more = declarators_stay d three.agree in
      record {
        rest' = more.rest';
        part = subst (λ ts. AreDeclarators ts (record { name = n; init = init } ∷ more') more.rest') (sym one.are) (more_declarators {name = n} {comma = comma} h (subst (MayHaveInit one.others init) three.are two.part) c more.part);
        agree = more.agree;
      }

  maybe_type_stays : {r r' tokens rest us : List Token} {type : Option TypeTree} → MayHaveType tokens type rest → Agree mark r r' tokens us → Kept mark alien MayHaveType r r' us type rest
  maybe_type_stays {us = us} without_type a = record { rest' = us; part = without_type; agree = a }
  maybe_type_stays {type = type} (with_type {colon = t} h ty) a =
      let one = goes mark alien a (rw h refl) in
      let more = type_kept_is mark alien ty one.agree in
      record { rest' = more.rest'; part = subst (λ ts. MayHaveType ts type more.rest') (sym one.are) (with_type {colon = t} h more.part); agree = more.agree }

  pub local_stays : {r r' tokens rest us : List Token} {local : LocalTree} → IsLocal tokens local rest → Agree mark r r' tokens us → Kept mark alien IsLocal r r' us local rest
  local_stays (of_type t d) a =
      let one = type_kept_is mark alien t a in
      let more = declarators_stay d one.agree in
      record { rest' = more.rest'; part = of_type one.part more.part; agree = more.agree }
  local_stays {local = local} (of_const {word = w} h t d) a =
      let word = goes mark alien a (rw h refl) in
      let one = type_kept_is mark alien t word.agree in
      let more = declarators_stay d one.agree in
      record { rest' = more.rest'; part = subst (λ ts. IsLocal ts local more.rest') (sym word.are) (of_const {word = w} h one.part more.part); agree = more.agree }
  local_stays {local = local} (of_binding {binding = binding} {word = w} {name = n} {equals = e} {type = type} h name t s v) a =
      let word = goes mark alien a (ap is_alien h ∙ binding_alien binding) in
      let two = goes mark alien word.agree (rw name refl) in
      let three = maybe_type_stays t two.agree in
      let equals = goes mark alien three.agree (rw s refl) in
      let more = expr_stays mark alien v equals.agree in
      record {
        rest' = more.rest';
        part = subst (λ ts. IsLocal ts local more.rest') (sym (word.are ∙ ap (λ ts. w ∷ ts) two.are))
            (of_binding {binding = binding} {word = w} {name = n} {equals = e} h name (subst (MayHaveType two.others type) equals.are three.part) s more.part);
        agree = more.agree;
      }

step_sign : (step : Step) (t : Token) → Is (step_text step) t → symbol t ≡ End → ⊥
step_sign Increment t h e = cc
step_sign Decrement t h e = cc

text_no_end : (t : Token) (text : List ℕ) → symbol t ≡ Sign text → symbol t ≡ End → ⊥
text_no_end t text h e = cc

-- an assignment by its tokens
pub data AssignParts (t : Token) (ts : List Token) (a : Assignment) (behind : List Token) : Type 0 where
  one_token : (symbol t ≡ End → ⊥) → ((more : List Token) → sign_at (t ∷ more) ≡ (codes (assignment_text a), more)) → behind ≡ ts → AssignParts t ts a behind
  three_tokens : (p q : Token) → ts ≡ p ∷ q ∷ behind → Is ">" t → joins t ">" p ≡ true → joins p "=" q ≡ true → a ≡ ShiftRightBy → AssignParts t ts a behind

-- an assignment is `>>=`, or does not begin with `>`
data AssignKind (a : Assignment) : Type 0 where
  shifts : a ≡ ShiftRightBy → AssignKind a
  others : ((more : List ℕ) → 62 ∷ more ≡ codes (assignment_text a) → ⊥) → AssignKind a

abbrev first_of : List ℕ → ℕ
first_of [] = 0
first_of (b ∷ text) = b

not_greater : (text : List ℕ) → (first_of text == 62) ≡ false → (more : List ℕ) → 62 ∷ more ≡ text → ⊥
not_greater text not more h = false≢true (sym not ∙ ap (λ (text : List ℕ). first_of text == 62) (sym h))

kind_of : (a : Assignment) → AssignKind a
kind_of Set = others (not_greater (codes (assignment_text Set)) refl)
kind_of AddTo = others (not_greater (codes (assignment_text AddTo)) refl)
kind_of SubtractFrom = others (not_greater (codes (assignment_text SubtractFrom)) refl)
kind_of MultiplyBy = others (not_greater (codes (assignment_text MultiplyBy)) refl)
kind_of DivideBy = others (not_greater (codes (assignment_text DivideBy)) refl)
kind_of RemainderBy = others (not_greater (codes (assignment_text RemainderBy)) refl)
kind_of BitAndWith = others (not_greater (codes (assignment_text BitAndWith)) refl)
kind_of BitOrWith = others (not_greater (codes (assignment_text BitOrWith)) refl)
kind_of BitXorWith = others (not_greater (codes (assignment_text BitXorWith)) refl)
kind_of ShiftLeftBy = others (not_greater (codes (assignment_text ShiftLeftBy)) refl)
kind_of ShiftRightBy = shifts refl

text_end : (t : Token) (a : Assignment) → sign_text (symbol t) ≡ codes (assignment_text a) → symbol t ≡ End → ⊥
text_end t a h e = has_text a (ap sign_text (sym e) ∙ h)

abbrev sign_by : Bool → Token → List Token → SignAt
sign_by b first tokens = if b then after_one first tokens else (sign_text (symbol first), tokens)

abbrev two_by : Bool → Token → List Token → SignAt
two_by b q ts = if b then (codes ">>=", ts) else (codes ">>", q ∷ ts)

abbrev one_by : Bool → Bool → Token → List Token → SignAt
one_by one equals p ts = if one then after_two p ts else (if equals then (codes ">=", ts) else (codes ">", p ∷ ts))

greater_two : (b : Bool) (q : Token) (ts : List Token) → (more : List ℕ) × ((two_by b q ts).0 ≡ 62 ∷ more)
greater_two true q ts = (codes ">=", refl)
greater_two false q ts = (codes ">", refl)

greater_after_two : (p : Token) (ts : List Token) → (more : List ℕ) × ((after_two p ts).0 ≡ 62 ∷ more)
greater_after_two p [] = (codes ">", refl)
greater_after_two p (q ∷ ts) = greater_two (joins p "=" q) q ts

greater_one : (one equals : Bool) (p : Token) (ts : List Token) → (more : List ℕ) × ((one_by one equals p ts).0 ≡ 62 ∷ more)
greater_one true equals p ts = greater_after_two p ts
greater_one false true p ts = (codes "=", refl)
greater_one false false p ts = ([], refl)

greater_text : (t : Token) (ts : List Token) → (more : List ℕ) × ((after_one t ts).0 ≡ 62 ∷ more)
greater_text t [] = ([], refl)
greater_text t (p ∷ ts) = greater_one (joins t ">" p) (joins t "=" p) p ts

parts_by : (b : Bool) (t : Token) (ts : List Token) (a : Assignment) (behind : List Token) → is_sign ">" (symbol t) ≡ b → ((more : List ℕ) → 62 ∷ more ≡ codes (assignment_text a) → ⊥)
    → sign_by b t ts ≡ (codes (assignment_text a), behind) → AssignParts t ts a behind
parts_by true t ts a behind is none h = let g = greater_text t ts in absurd (none g.0 (sym g.1 ∙ ap (λ (q : SignAt). q.0) h))
parts_by false t ts a behind is none h =
    let text : sign_text (symbol t) ≡ codes (assignment_text a) = ap (λ (q : SignAt). q.0) h in
    one_token (text_end t a text) (λ more. ap (λ b. sign_by b t more) is ∙ ap (λ (text : List ℕ). (text, more)) text) (sym (ap (λ (q : SignAt). q.1) h))

shift_parts : (t : Token) (ts : List Token) (a : Assignment) (behind : List Token) → a ≡ ShiftRightBy → sign_at (t ∷ ts) ≡ (codes (assignment_text a), behind) → AssignParts t ts a behind
shift_parts t ts a behind is h =
    let three = assigns t ts (ap (λ (q : SignAt). q.0) h ∙ ap (λ (a : Assignment). codes (assignment_text a)) is) in
    let sign = ap (λ ts. sign_at (t ∷ ts)) three.are ∙ assign_sign t three.second three.third three.others three.first three.shifts three.assigns in
    let same : three.others ≡ behind = ap (λ (q : SignAt). q.1) (sym sign ∙ h) in
    three_tokens three.second three.third (three.are ∙ ap (λ ts. three.second ∷ three.third ∷ ts) same) three.first three.shifts three.assigns is

parts_of : {a : Assignment} (kind : AssignKind a) (t : Token) (ts : List Token) (behind : List Token) → sign_at (t ∷ ts) ≡ (codes (assignment_text a), behind) → AssignParts t ts a behind
parts_of {a = a} (shifts is) t ts behind h = shift_parts t ts a behind is h
parts_of {a = a} (others none) t ts behind h = parts_by (is_sign ">" (symbol t)) t ts a behind refl none h

-- the tokens with which an assignment is written
pub assign_parts : (a : Assignment) (t : Token) (ts behind : List Token) → sign_at (t ∷ ts) ≡ (codes (assignment_text a), behind) → AssignParts t ts a behind
assign_parts a t ts behind h = parts_of (kind_of a) t ts behind h

parts_end : {t : Token} {ts behind : List Token} {a : Assignment} → AssignParts t ts a behind → symbol t ≡ End → ⊥
parts_end (one_token none each is) e = none e
parts_end {t = t} (three_tokens p q is g j k s) e = text_no_end t (codes ">") g e

module _ (mark : Token) (is_end : symbol mark ≡ End) where
  pub alien : is_alien (symbol mark) ≡ true
  alien = rw is_end refl

  other_by : {r r' all us : List Token} → Agree mark r r' all us → (t : Token) (ts : List Token) → all ≡ t ∷ ts → (symbol t ≡ End → ⊥) → Goes mark alien r r' t ts us
  other_by at_mark t ts is none = let same : mark ≡ t = cc in absurd (none (subst (λ (x : Token). symbol x ≡ End) same is_end))
  other_by {r = r} {r' = r'} (before {t = u} {ts = vs} {us = us} a) t ts is none =
      let same : u ≡ t = cc in
      let rest : vs ≡ ts = cc in
      record { others = us; are = ap (λ x. x ∷ us) same; agree = subst (λ vs. Agree mark r r' vs us) rest a }

  pub other : {r r' ts us : List Token} {t : Token} → Agree mark r r' (t ∷ ts) us → (symbol t ≡ End → ⊥) → Goes mark alien r r' t ts us
  other {ts = ts} {t = t} a h = other_by a t ts refl h

  abbrev Stays : {A : Type 0} → (List Token → A → List Token → Type 0) → List Token → List Token → List Token → A → List Token → Type 0
  Stays N r r' us a rest = Kept mark alien N r r' us a rest

  -- the tokens of an assignment
  record KeptAssign (r r' : List Token) (t : Token) (us : List Token) (x : Assignment) (behind : List Token) : Type 0 where
    behind' : List Token
    sign : sign_at (t ∷ us) ≡ (codes (assignment_text x), behind')
    agree : Agree mark r r' behind behind'

  assign_kept : {r r' ts us behind : List Token} {t : Token} {x : Assignment} → AssignParts t ts x behind → Agree mark r r' ts us → KeptAssign r r' t us x behind
  assign_kept {r = r} {r' = r'} {us = us} (one_token none each is) a = record { behind' = us; sign = each us; agree = subst (λ ts. Agree mark r r' ts us) (sym is) a }
  assign_kept {r = r} {r' = r'} {us = us} {t = t} (three_tokens p q is g j k s) a =
      let one = other (subst (λ ts. Agree mark r r' ts us) is a) (joins_no_end t p ">" j) in
      let two = other one.agree (joins_no_end p q "=" k) in
      record {
        behind' = two.others;
        sign = ap (λ ts. sign_at (t ∷ ts)) (one.are ∙ ap (λ ts. p ∷ ts) two.are) ∙ assign_sign t p q two.others g j k
            ∙ ap (λ (a : Assignment). (codes (assignment_text a), two.others)) (sym s);
        agree = two.agree;
      }

  simple_stays : {r r' tokens rest us : List Token} {simple : SimpleTree} → IsSimple tokens simple rest → Agree mark r r' tokens us → Stays IsSimple r r' us simple rest
  simple_stays {us = us} (of_assignment {assignment = x} {token = t} {after = after} {behind = behind} {place = place} p sign v) a =
      let one = expr_stays mark alien p a in
      let parts = assign_parts x t after behind sign in
      let two = other one.agree (parts_end parts) in
      let three = assign_kept parts two.agree in
      let more = expr_stays mark alien v three.agree in
      record { rest' = more.rest'; part = of_assignment {assignment = x} {token = t} (subst (IsExpr us place) two.are one.part) three.sign more.part; agree = more.agree }
  simple_stays {us = us} (of_postfix_step {step = step} {token = t} {place = place} p s) a =
      let one = expr_stays mark alien p a in
      let two = other one.agree (step_sign step t s) in
      record { rest' = two.others; part = of_postfix_step {step = step} {token = t} (subst (IsExpr us place) two.are one.part) s; agree = two.agree }
  simple_stays {simple = simple} (of_prefix_step {step = step} {token = t} s p) a =
      let one = other a (step_sign step t s) in
      let more = expr_stays mark alien p one.agree in
      record { rest' = more.rest'; part = subst (λ ts. IsSimple ts simple more.rest') (sym one.are) (of_prefix_step {step = step} {token = t} s more.part); agree = more.agree }
  simple_stays (of_call_statement p c) a =
      let one = expr_stays mark alien p a in record { rest' = one.rest'; part = of_call_statement one.part c; agree = one.agree }

  no_local_stays : {r r' tokens us : List Token} → NoLocal tokens → Agree mark r r' tokens us → NoLocal us
  no_local_stays none a local semicolon rest l s =
      let back = local_stays mark alien l (agree_back a) in
      let close = other back.agree (text_no_end semicolon _ s) in
      none local semicolon close.others (subst (IsLocal _ local) close.are back.part) s

  start_stays : {r r' tokens rest us : List Token} {start : StartTree} → IsStart tokens start rest → Agree mark r r' tokens us → Stays IsStart r r' us start rest
  start_stays {start = start} (without_start {semicolon = s} h) a =
      let one = other a (text_no_end s _ h) in
      record { rest' = one.others; part = subst (λ ts. IsStart ts start one.others) (sym one.are) (without_start {semicolon = s} h); agree = one.agree }
  start_stays {us = us} (with_local {semicolon = s} {local = local} l h) a =
      let one = local_stays mark alien l a in
      let close = other one.agree (text_no_end s _ h) in
      record { rest' = close.others; part = with_local {semicolon = s} (subst (IsLocal us local) close.are one.part) h; agree = close.agree }
  start_stays {us = us} (with_simple {semicolon = s} {simple = simple} p h none) a =
      let one = simple_stays p a in
      let close = other one.agree (text_no_end s _ h) in
      record { rest' = close.others; part = with_simple {semicolon = s} (subst (IsSimple us simple) close.are one.part) h (no_local_stays none a); agree = close.agree }

  maybe_expr_stays : {r r' tokens rest us : List Token} {value : Option ExprTree} → MayBeExpr tokens value rest → Agree mark r r' tokens us → Stays MayBeExpr r r' us value rest
  maybe_expr_stays {value = value} (without_expr {semicolon = s} h) a =
      let one = other a (text_no_end s _ h) in
      record { rest' = one.others; part = subst (λ ts. MayBeExpr ts value one.others) (sym one.are) (without_expr {semicolon = s} h); agree = one.agree }
  maybe_expr_stays {us = us} (with_expr {semicolon = s} {value = value} e h) a =
      let one = expr_stays mark alien e a in
      let close = other one.agree (text_no_end s _ h) in
      record { rest' = close.others; part = with_expr {semicolon = s} (subst (IsExpr us value) close.are one.part) h; agree = close.agree }

  maybe_simple_stays : {r r' tokens rest us : List Token} {step : Option SimpleTree} → MayBeSimple tokens step rest → Agree mark r r' tokens us → Stays MayBeSimple r r' us step rest
  maybe_simple_stays {step = step} (without_simple {closing = c} h) a =
      let one = other a (text_no_end c _ h) in
      record { rest' = one.others; part = subst (λ ts. MayBeSimple ts step one.others) (sym one.are) (without_simple {closing = c} h); agree = one.agree }
  maybe_simple_stays {us = us} (with_step {closing = c} {simple = simple} p h) a =
      let one = simple_stays p a in
      let close = other one.agree (text_no_end c _ h) in
      record { rest' = close.others; part = with_step {closing = c} (subst (IsSimple us simple) close.are one.part) h; agree = close.agree }

  condition_stays : {r r' tokens rest us : List Token} {condition : ExprTree} → IsCondition tokens condition rest → Agree mark r r' tokens us → Stays IsCondition r r' us condition rest
  condition_stays (of_brackets {opening = o} {closing = c} {condition = condition} b e h) a =
      let one = other a (text_no_end o _ b) in
      let two = expr_stays mark alien e one.agree in
      let close = other two.agree (text_no_end c _ h) in
      record {
        rest' = close.others;
        part = subst (λ ts. IsCondition ts condition close.others) (sym one.are) (of_brackets {opening = o} {closing = c} b (subst (IsExpr one.others condition) close.are two.part) h);
        agree = close.agree;
      }

  else_stays : {r r' ts us : List Token} → Agree mark r r' ts us → begins_with "else" ts ≡ false → begins_with "else" us ≡ false
  else_stays at_mark h = h
  else_stays (before a) h = h

  mutual
    stmt_kept : {r r' tokens rest us : List Token} {stmt : StmtTree} → IsStmt tokens stmt rest → Agree mark r r' tokens us → Stays IsStmt r r' us stmt rest
    stmt_kept {stmt = stmt} (of_block {opening = o} h m) a =
        let one = other a (text_no_end o _ h) in
        let more = stmts_kept m one.agree in
        record { rest' = more.rest'; part = subst (λ ts. IsStmt ts stmt more.rest') (sym one.are) (of_block {opening = o} h more.part); agree = more.agree }
    stmt_kept {us = us} (of_local {semicolon = s} {local = local} l h) a =
        let one = local_stays mark alien l a in
        let close = other one.agree (text_no_end s _ h) in
        record { rest' = close.others; part = of_local {semicolon = s} (subst (IsLocal us local) close.are one.part) h; agree = close.agree }
    stmt_kept {us = us} (of_simple {semicolon = s} {simple = simple} p h none) a =
        let one = simple_stays p a in
        let close = other one.agree (text_no_end s _ h) in
        record { rest' = close.others; part = of_simple {semicolon = s} (subst (IsSimple us simple) close.are one.part) h (no_local_stays none a); agree = close.agree }
    stmt_kept {stmt = stmt} (of_nothing {semicolon = s} h) a =
        let one = other a (text_no_end s _ h) in
        record { rest' = one.others; part = subst (λ ts. IsStmt ts stmt one.others) (sym one.are) (of_nothing {semicolon = s} h); agree = one.agree }
    stmt_kept {stmt = stmt} (of_return {word = w} h v) a =
        let one = other a (text_no_end w _ h) in
        let more = maybe_expr_stays v one.agree in
        record { rest' = more.rest'; part = subst (λ ts. IsStmt ts stmt more.rest') (sym one.are) (of_return {word = w} h more.part); agree = more.agree }
    stmt_kept {stmt = stmt} (of_break {word = w} {semicolon = s} h e) a =
        let one = other a (text_no_end w _ h) in
        let two = other one.agree (text_no_end s _ e) in
        record { rest' = two.others; part = subst (λ ts. IsStmt ts stmt two.others) (sym (one.are ∙ ap (λ ts. w ∷ ts) two.are)) (of_break {word = w} {semicolon = s} h e); agree = two.agree }
    stmt_kept {stmt = stmt} (of_continue {word = w} {semicolon = s} h e) a =
        let one = other a (text_no_end w _ h) in
        let two = other one.agree (text_no_end s _ e) in
        record { rest' = two.others; part = subst (λ ts. IsStmt ts stmt two.others) (sym (one.are ∙ ap (λ ts. w ∷ ts) two.are)) (of_continue {word = w} {semicolon = s} h e); agree = two.agree }
    stmt_kept {stmt = stmt} (of_if {word = w} h c s none) a =
        let one = other a (text_no_end w _ h) in
        let two = condition_stays c one.agree in
        let more = stmt_kept s two.agree in
        record { rest' = more.rest'; part = subst (λ ts. IsStmt ts stmt more.rest') (sym one.are) (of_if {word = w} h two.part more.part (else_stays more.agree none)); agree = more.agree }
    stmt_kept {stmt = stmt} (of_if_else {word = w} {otherwise = o} {yes' = yes'} h c s e t) a =
        let one = other a (text_no_end w _ h) in
        let two = condition_stays c one.agree in
        let three = stmt_kept s two.agree in
        let four = other three.agree (text_no_end o _ e) in
        let more = stmt_kept t four.agree in
        record {
          rest' = more.rest';
          part = subst (λ ts. IsStmt ts stmt more.rest') (sym one.are) (of_if_else {word = w} {otherwise = o} h two.part (subst (IsStmt two.rest' yes') four.are three.part) e more.part);
          agree = more.agree;
        }
    stmt_kept {stmt = stmt} (of_while {word = w} h c s) a =
        let one = other a (text_no_end w _ h) in
        let two = condition_stays c one.agree in
        let more = stmt_kept s two.agree in
        record { rest' = more.rest'; part = subst (λ ts. IsStmt ts stmt more.rest') (sym one.are) (of_while {word = w} h two.part more.part); agree = more.agree }
    stmt_kept {stmt = stmt} (of_for {word = w} {opening = o} h b s c t p) a =
        let one = other a (text_no_end w _ h) in
        let two = other one.agree (text_no_end o _ b) in
        let three = start_stays s two.agree in
        let four = maybe_expr_stays c three.agree in
        let five = maybe_simple_stays t four.agree in
        let more = stmt_kept p five.agree in
        record {
          rest' = more.rest';
          part = subst (λ ts. IsStmt ts stmt more.rest') (sym (one.are ∙ ap (λ ts. w ∷ ts) two.are)) (of_for {word = w} {opening = o} h b three.part four.part five.part more.part);
          agree = more.agree;
        }

    stmts_kept : {r r' tokens rest us : List Token} {stmts : StmtTrees} → AreStmts tokens stmts rest → Agree mark r r' tokens us → Stays AreStmts r r' us stmts rest
    stmts_kept {stmts = stmts} (no_stmts {closing = c} h) a =
        let one = other a (text_no_end c _ h) in
        record { rest' = one.others; part = subst (λ ts. AreStmts ts stmts one.others) (sym one.are) (no_stmts {closing = c} h); agree = one.agree }
    stmts_kept (more_stmts s m) a =
        let one = stmt_kept s a in
        let more = stmts_kept m one.agree in
        record { rest' = more.rest'; part = more_stmts one.part more.part; agree = more.agree }

  -- a statement before the end of tokens stands before whatever goes on there
  pub stmt_stays : {r r' tokens rest us : List Token} {stmt : StmtTree} → IsStmt tokens stmt rest → Agree mark r r' tokens us → Stays IsStmt r r' us stmt rest
  stmt_stays s a = stmt_kept s a

  -- and so do statements with the brace behind them
  pub stmts_stay : {r r' tokens rest us : List Token} {stmts : StmtTrees} → AreStmts tokens stmts rest → Agree mark r r' tokens us → Stays AreStmts r r' us stmts rest
  stmts_stay m a = stmts_kept m a

pub passed_later : (es : List Entry) (at : ℕ) (limit : Option Told) (ts : List Token) {at' : ℕ} {limit' : Option Told} {ts' : List Token} → passed es (At at limit ts) ≡ At at' limit' ts' → at ≤ at'
passed_later [] at limit ts is = omega (arith, (same_place is).0)
passed_later (e ∷ es) at limit [] is = passed_later es at limit [] is
passed_later (e ∷ es) at limit (t ∷ ts) is = omega (arith, passed_later es (suc at) (noted limit e at t) ts is)

pub passed_grows : (es : List Entry) (at : ℕ) (limit : Option Told) (ts : List Token) {at' : ℕ} {limit' : Option Told} {ts' : List Token} → passed es (At at limit ts) ≡ At at' limit' ts' → Grows at limit limit'
passed_grows [] at limit ts is = subst (Grows at limit) (same_place is).1 same_limit
passed_grows (e ∷ es) at limit [] is = passed_grows es at limit [] is
passed_grows (e ∷ es) at limit (t ∷ ts) {limit' = limit'} is =
    grows_more at (suc at) limit (noted limit e at t) limit' (omega arith) (grows_noted at limit e t) (passed_grows es (suc at) (noted limit e at t) ts is)

-- tokens end behind an assignment, which stands no earlier
pub assign_ended : (a : Assignment) (at : ℕ) (limit : Option Told) (token : Token) (tokens behind : List Token) → sign_at (token ∷ tokens) ≡ (codes (assignment_text a), behind) → Ended (token ∷ tokens)
    → (after : ℕ) → passed (replicate (assignment_tokens a) plain) (At at limit (token ∷ tokens)) ≡ At after limit behind → Ended behind × (at ≤ after)
assign_ended a at limit token tokens behind sign e after is = (ended_by (assign_parts a token tokens behind sign) e, passed_later (replicate (assignment_tokens a) plain) at limit (token ∷ tokens) is)
  where
    ended_by : {t : Token} {ts behind : List Token} {a : Assignment} → AssignParts t ts a behind → Ended (t ∷ ts) → Ended behind
    ended_by {t = t} {ts = ts} (one_token none each is) e = subst Ended (sym is) (ended_behind t ts none e)
    ended_by {t = t} {ts = ts} {behind = behind} (three_tokens p q is g j k s) e =
        ended_behind q behind (joins_no_end p q "=" k) (ended_behind p (q ∷ behind) (joins_no_end t p ">" j) (subst Ended is (ended_behind t ts (text_no_end t (codes ">") g) e)))
