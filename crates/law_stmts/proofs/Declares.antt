-- Where a type, a name and `=` stand, no simple statement stands that is no local too.
use Rattle.std.proofs.Common.{◌≡◌, ℕ, Bool, true, false, List, [], ◌∷◌, refl, sym, ap, subst, ◌∙◌, length, codes}
use Rattle.std.specs.Prelude.{Option, None, if◌then◌else◌}
use Rattle.std.proofs.lemmas.Bool.{false≢true, and_parts}
use Prim.Native.String.{String}
use Rattle.def_token.specs.Lexical.{Token}
use Rattle.def_tree.specs.ExprTree.{ExprTree}
use Rattle.def_tree.specs.Expressions.{IsExpr}
use Rattle.def_tree.specs.Limits.{Nesting}
use Rattle.def_tree.specs.Operator.{Assignment, Set, AddTo, SubtractFrom, MultiplyBy, DivideBy, RemainderBy, BitAndWith, BitOrWith, BitXorWith, ShiftLeftBy, ShiftRightBy, assignment_text, Step, Increment, Decrement, step_text, SignAt, sign_at, sign_text, after_one, joins}
use Rattle.def_tree.specs.Statements.{of_value, with_init, last_declarator, of_type, NoLocal, IsSimple, of_assignment, of_postfix_step, of_prefix_step, of_call_statement}
use Rattle.def_tree.specs.StmtTree as tree
use Rattle.def_tree.specs.StmtTree.{SimpleTree}
use Rattle.def_tree.specs.Symbol.{Sign, symbol, is_sign, Is, IsName}
use Rattle.def_tree.specs.TypeTree.{TypeTree}
use Rattle.def_tree.specs.Types.{IsType}
use Rattle.law_tree.proofs.Heads.{begins_type, type_head}
use Rattle.law_tree.proofs.Symbols.{is_sign-true}
use Rattle.def_reading.specs.Machine.{written}
use Rattle.def_reading.specs.Cursor.{Told, At}
use Rattle.def_reading.specs.StmtReading.{assignments, values_behind, declares}
use Rattle.def_reading.specs.TypeAhead.{LookAhead, Found, Missing, names, type_ahead}
use Rattle.law_types.proofs.AheadSound.{SoundLook, names-true, type_sound}
use Rattle.law_stmts.proofs.SimpleComes.{assignment_found, sign_is}
use Rattle.law_stmts.proofs.Spans.{in_type, Typed, here, typed, type_typed, Spans, none, one, joined, expr_spans}
use Rattle.law_stmts.proofs.StmtAlien.{AssignParts, one_token, three_tokens, assign_parts}

-- what stands behind the first expression of a simple statement: a sign that is in no type, or `>>=`
pub data StopsAt : List Token → Type 0 where
  other_sign : {t : Token} {ts : List Token} → in_type (symbol t) ≡ false → StopsAt (t ∷ ts)
  shifted : {t p q : Token} {ts : List Token} → Is ">" t → is_sign ">" (symbol p) ≡ true → is_sign "=" (symbol q) ≡ true → StopsAt (t ∷ p ∷ q ∷ ts)

assign_in_no_type : (a : Assignment) → in_type (Sign (codes (assignment_text a))) ≡ false
assign_in_no_type Set = refl
assign_in_no_type AddTo = refl
assign_in_no_type SubtractFrom = refl
assign_in_no_type MultiplyBy = refl
assign_in_no_type DivideBy = refl
assign_in_no_type RemainderBy = refl
assign_in_no_type BitAndWith = refl
assign_in_no_type BitOrWith = refl
assign_in_no_type BitXorWith = refl
assign_in_no_type ShiftLeftBy = refl
assign_in_no_type ShiftRightBy = refl

pub not_greater : (a : Assignment) → codes ">" ≡ codes (assignment_text a) → ⊥
not_greater a h = let found = ap (written assignment_text assignments) h ∙ assignment_found a in cc

abbrev pub sign_by : Bool → Token → SignAt
sign_by b t = if b then after_one t [] else (sign_text (symbol t), [])

alone_by : (b : Bool) (a : Assignment) (t : Token) → sign_by b t ≡ (codes (assignment_text a), []) → in_type (symbol t) ≡ false
alone_by true a t h = absurd (not_greater a (ap (λ (q : SignAt). q.0) h))
alone_by false a t h = ap in_type (sign_is (symbol t) a (ap (λ (q : SignAt). q.0) h)) ∙ assign_in_no_type a

pub joined_sign : (t p : Token) (sign : String) → joins t sign p ≡ true → is_sign sign (symbol p) ≡ true
joined_sign t p sign h = (and_parts _ (is_sign sign (symbol p)) h).1

pub assign_stops : {t : Token} {ts behind : List Token} {a : Assignment} → AssignParts t ts a behind → StopsAt (t ∷ ts)
assign_stops {t = t} {a = a} (one_token no_end each is) = other_sign (alone_by (is_sign ">" (symbol t)) a t (each []))
assign_stops {t = t} (three_tokens p q is g j k s) =
    subst (λ ts. StopsAt (t ∷ ts)) (sym is) (shifted g (joined_sign t p ">" j) (joined_sign p q "=" k))

pub step_stops : (step : Step) (t : Token) (ts : List Token) → Is (step_text step) t → StopsAt (t ∷ ts)
step_stops Increment t ts h = other_sign (ap in_type h)
step_stops Decrement t ts h = other_sign (ap in_type h)

-- tokens that begin with a name and `=`
record IsNamed (all : List Token) (name equals : Token) (others : List Token) : Type 0 where
  are : all ≡ name ∷ equals ∷ others
  named : IsName name
  marked : Is "=" equals

-- where a name stands, nothing stops
name_stops : {ts : List Token} → StopsAt ts → (name : Token) (others : List Token) → ts ≡ name ∷ others → IsName name → ⊥
name_stops (other_sign {t = t} apart) name others is h =
    let same : t ≡ name = cc in
    absurd (false≢true (sym apart ∙ ap (λ (x : Token). in_type (symbol x)) same ∙ ap in_type h))
name_stops (shifted {t = t} g p q) name others is h =
    let same : t ≡ name = cc in
    absurd (false≢true (ap (is_sign ">") (sym h) ∙ ap (λ (x : Token). is_sign ">" (symbol x)) (sym same) ∙ ap (is_sign ">") g))

name_no_sign : (sign : String) (t name : Token) → t ≡ name → IsName name → is_sign sign (symbol t) ≡ true → ⊥
name_no_sign sign t name same h k = false≢true (ap (is_sign sign) (sym h) ∙ ap (λ (x : Token). is_sign sign (symbol x)) (sym same) ∙ k)

-- behind a sign of `>>=` no type goes on up to a name and `=`
equals_stops : {q name equals : Token} {ts all others : List Token} → is_sign "=" (symbol q) ≡ true → Typed (q ∷ ts) all → IsNamed all name equals others → ⊥
equals_stops {q = q} {name = name} k here n = let same : q ≡ name = cc in name_no_sign "=" q name same n.named k
equals_stops {q = q} k (typed h more) n = false≢true (sym (ap in_type (is_sign-true "=" (symbol q) k)) ∙ h)

shift_stops : {p q name equals : Token} {ts all others : List Token} → is_sign ">" (symbol p) ≡ true → is_sign "=" (symbol q) ≡ true → Typed (p ∷ q ∷ ts) all → IsNamed all name equals others → ⊥
shift_stops {p = p} {name = name} j k here n = let same : p ≡ name = cc in name_no_sign ">" p name same n.named j
shift_stops j k (typed h more) n = equals_stops k more n

-- no expression stops before the name
type_stops : {ts all others : List Token} {name equals : Token} → StopsAt ts → Typed ts all → IsNamed all name equals others → ⊥
type_stops {others = others} {name = name} {equals = equals} s here n = name_stops s name (equals ∷ others) n.are n.named
type_stops (other_sign apart) (typed h more) n = false≢true (sym apart ∙ h)
type_stops (shifted g j k) (typed h more) n = shift_stops j k more n

-- an expression that comes to `=` stops there
at_equals : {ts stop : List Token} → Spans ts stop → (equals : Token) (others : List Token) → ts ≡ equals ∷ others → Is "=" equals → stop ≡ equals ∷ others
at_equals none equals others is h = is
at_equals (one {t = t} apart s) equals others is h =
    let same : t ≡ equals = cc in
    absurd (false≢true (sym apart ∙ ap (λ (x : Token). is_sign "=" (symbol x)) same ∙ ap (is_sign "=") h))
at_equals (joined {t = t} g s) equals others is h =
    let same : t ≡ equals = cc in
    absurd (false≢true (ap (is_sign ">") (sym h) ∙ ap (λ (x : Token). is_sign ">" (symbol x)) (sym same) ∙ ap (is_sign ">") g))

behind_first : (t u : Token) (ts us : List Token) → t ∷ ts ≡ u ∷ us → ts ≡ us
behind_first t u ts us h = cc

-- an expression that stops stops before the `=`
meets : {tokens stop all others : List Token} {name equals : Token} → Spans tokens stop → Typed tokens all → StopsAt stop → IsNamed all name equals others → stop ≡ equals ∷ others
meets none k s n = absurd (type_stops s k n)
meets {others = others} {name = name} {equals = equals} (one {t = t} {ts = ts} apart r) here s n =
    at_equals r equals others (behind_first t name ts (equals ∷ others) n.are) n.marked
meets (one apart r) (typed h k) s n = meets r k s n
meets {name = name} (joined {t = t} g r) here s n =
    let same : t ≡ name = cc in absurd (name_no_sign ">" t name same n.named (ap (is_sign ">") g))
meets {others = others} {name = name} {equals = equals} (joined {p = p} {ts = ts} g r) (typed h here) s n =
    at_equals r equals others (behind_first p name ts (equals ∷ others) n.are) n.marked
meets (joined g r) (typed h (typed h' k)) s n = meets r k s n

-- a type, a name and `=`
pub record IsDeclared (tokens : List Token) : Type 0 where
  pub type : TypeTree
  pub name : Token
  pub equals : Token
  pub others : List Token
  pub typed : IsType tokens type (name ∷ equals ∷ others)
  pub named : IsName name
  pub marked : Is "=" equals

pub declared_by : (look : LookAhead TypeTree) (tokens : List Token) → SoundLook IsType tokens look → values_behind look ≡ true → IsDeclared tokens
declared_by (Found type (At at limit [])) tokens t h = absurd (false≢true h)
declared_by (Found type (At at limit (name ∷ []))) tokens t h = absurd (false≢true (and_parts (names (symbol name)) false h).1)
declared_by (Found type (At at limit (name ∷ equals ∷ others))) tokens t h =
    let both = and_parts (names (symbol name)) (is_sign "=" (symbol equals)) h in
    record {
      type = type;
      name = name;
      equals = equals;
      others = others;
      typed = t;
      named = names-true (symbol name) both.0;
      marked = is_sign-true "=" (symbol equals) both.1;
    }
declared_by (Missing place) tokens t h = absurd (false≢true h)

abbrev named_of : {tokens : List Token} (d : IsDeclared tokens) → IsNamed (d.name ∷ d.equals ∷ d.others) d.name d.equals d.others
named_of d = record { are = refl; named = d.named; marked = d.marked }

-- where the first expression of a simple statement stops, the `=` stands
pub stop_is : {tokens stop : List Token} {e : ExprTree} (d : IsDeclared tokens) → IsExpr tokens e stop → StopsAt stop → stop ≡ d.equals ∷ d.others
stop_is d e s = meets (expr_spans e) (type_typed d.typed) s (named_of d)

no_step : (step : Step) (t equals : Token) → t ≡ equals → Is (step_text step) t → Is "=" equals → ⊥
no_step Increment t equals same h k = let none' : is_sign "++" (symbol equals) ≡ false = rw k refl in let yes' : is_sign "++" (symbol t) ≡ true = rw h refl in cc
no_step Decrement t equals same h k = let none' : is_sign "--" (symbol equals) ≡ false = rw k refl in let yes' : is_sign "--" (symbol t) ≡ true = rw h refl in cc

no_semicolon : (t equals : Token) → t ≡ equals → Is ";" t → Is "=" equals → ⊥
no_semicolon t equals same h k = let none' : is_sign ";" (symbol equals) ≡ false = rw k refl in let yes' : is_sign ";" (symbol t) ≡ true = rw h refl in cc

pub step_no_type : (step : Step) → begins_type (Sign (codes (step_text step))) ≡ false
step_no_type Increment = refl
step_no_type Decrement = refl

step_head : (step : Step) (t : Token) (ts : List Token) → Is (step_text step) t → IsDeclared (t ∷ ts) → ⊥
step_head step t ts h d =
    let head = type_head d.typed in
    let same : t ≡ head.token = let are = head.are in cc in
    false≢true (sym (step_no_type step) ∙ ap begins_type (sym h) ∙ ap (λ (x : Token). begins_type (symbol x)) same ∙ head.passes)

equals_behind : (t equals : Token) (after others behind : List Token) (text : List ℕ) → t ∷ after ≡ equals ∷ others → Is "=" equals → sign_at (t ∷ after) ≡ (text, behind) → others ≡ behind
equals_behind t equals after others behind text is h sign =
    let at : sign_at (equals ∷ others) ≡ (codes "=", others) = rw h refl in
    ap (λ (q : SignAt). q.1) (sym at ∙ sym (ap sign_at is) ∙ sign)

-- a simple statement where a type, a name and `=` stand is a local too
also_local : {tokens rest : List Token} {simple : SimpleTree} (semicolon : Token) → IsDeclared tokens → IsSimple tokens simple (semicolon ∷ rest) → Is ";" semicolon → NoLocal tokens → ⊥
also_local {rest = rest} semicolon d (of_assignment {assignment = a} {token = t} {after = after} {behind = behind} {value = value} p sign v) s no_local =
    let is = stop_is d p (assign_stops (assign_parts a t after behind sign)) in
    let at = equals_behind t d.equals after d.others behind (codes (assignment_text a)) is d.marked sign in
    no_local (tree.Typed None d.type (_ ∷ [])) semicolon rest
    (of_type d.typed (last_declarator {name = d.name} d.named (with_init {equals = d.equals} d.marked (of_value (subst (λ ts. IsExpr ts value (semicolon ∷ rest)) (sym at) v))))) s
also_local {rest = rest} semicolon d (of_postfix_step {step = step} {token = t} p h) s no_local =
    let is = stop_is d p (step_stops step t (semicolon ∷ rest) h) in
    let same : t ≡ d.equals = cc in no_step step t d.equals same h d.marked
also_local semicolon d (of_prefix_step {step = step} {token = t} {tokens = ts} h p) s no_local = step_head step t ts h d
also_local {rest = rest} semicolon d (of_call_statement p c) s no_local =
    let is = stop_is d p (other_sign {t = semicolon} {ts = rest} (ap in_type s)) in
    let same : semicolon ≡ d.equals = cc in no_semicolon semicolon d.equals same s d.marked

declares_by : (b : Bool) (around : Nesting) (at : ℕ) (limit : Option Told) {tokens rest : List Token} {simple : SimpleTree} (semicolon : Token) → declares around (At at limit tokens) ≡ b
    → IsSimple tokens simple (semicolon ∷ rest) → Is ";" semicolon → NoLocal tokens → b ≡ false
declares_by true around at limit {tokens = tokens} semicolon is p s no_local =
    let look = type_ahead (length tokens) around.types (At at limit tokens) in
    absurd (also_local semicolon (declared_by look tokens (type_sound (length tokens) around.types at limit tokens) is) p s no_local)
declares_by false around at limit semicolon is p s no_local = refl

-- before a simple statement that is no local, nothing declares
pub simple_declares : (around : Nesting) (at : ℕ) (limit : Option Told) {tokens rest : List Token} {simple : SimpleTree} (semicolon : Token)
    → IsSimple tokens simple (semicolon ∷ rest) → Is ";" semicolon → NoLocal tokens → declares around (At at limit tokens) ≡ false
simple_declares around at limit {tokens = tokens} semicolon p s no_local = declares_by (declares around (At at limit tokens)) around at limit semicolon refl p s no_local
