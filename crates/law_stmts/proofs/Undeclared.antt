-- A simple statement that begins with no type, name and `=` is no local.
use Rattle.std.proofs.Common.{◌≡◌, Bool, true, false, List, [], ◌∷◌, ◌++◌, refl, sym, ap, ◌∙◌, codes, append_assoc}
use Rattle.std.specs.Prelude.{None}
use Rattle.std.proofs.lemmas.Bool.{false≢true}
use Rattle.def_token.specs.Lexical.{Token}
use Rattle.def_tree.specs.ExprTree.{ExprTree, ExprTrees}
use Rattle.def_tree.specs.Expressions.{IsPrimary, of_number, of_true, of_false, of_itself, of_name, of_generic, of_functional_cast, of_own_type, of_group, IsPostfix, of_primary, of_call, of_index, of_member, IsArguments, no_arguments, some_arguments, of_operator, of_cast, of_postfix, of_unary, of_operands, IsExpr, of_binary, of_condition}
use Rattle.def_tree.specs.Operator.{Assignment, assignment_text, Step, Increment, Decrement, step_text, sign_at}
use Rattle.def_tree.specs.Statements.{is_call, binding_text, without_init, with_init, AreDeclarators, last_declarator, more_declarators, NoLocal, IsLocal, of_type, of_const, of_binding, IsSimple, of_assignment, of_postfix_step, of_prefix_step, of_call_statement}
use Rattle.def_tree.specs.StmtTree.{Binding, Let, Var, Declarator, LocalTree, SimpleTree}
use Rattle.def_tree.specs.Symbol.{symbol, is_sign, Is, IsName}
use Rattle.def_tree.specs.TypeTree.{TypeTree}
use Rattle.def_tree.specs.Types.{IsType}
use Rattle.law_tree.proofs.Heads.{begins_type, type_head, begins_expr, expr_head}
use Rattle.law_tree.proofs.Symbols.{is_sign-true}
use Rattle.def_reading.specs.Machine.{written}
use Rattle.def_reading.specs.StmtReading.{assignments}
use Rattle.law_stmts.proofs.Declares.{StopsAt, other_sign, shifted, assign_stops, step_stops, IsDeclared, step_no_type}
use Rattle.law_stmts.proofs.Levels.{Marks, a_comma, a_semicolon, typed_stop}
use Rattle.law_stmts.proofs.LocalComes.{headed_not}
use Rattle.law_stmts.proofs.SimpleComes.{assignment_found}
use Rattle.law_stmts.proofs.Spans.{in_type, Typed, here, typed, Spans, none, one, joined, expr_spans, exprs_spans}
use Rattle.law_stmts.proofs.StmtAlien.{assign_parts}
use Rattle.law_exprs.proofs.TryComes.{starts}
use Rattle.law_types.proofs.TypeStable.{cancel, type_stable}

-- a type, a name and a mark behind a declarator without a value
record IsMarked (tokens : List Token) : Type 0 where
  type : TypeTree
  name : Token
  m : Token
  others : List Token
  typed' : IsType tokens type (name ∷ m ∷ others)
  named : IsName name
  marks : Marks m

-- such a mark is no part of `>>=`
mark_greater : {m : Token} → Marks m → is_sign ">" (symbol m) ≡ true → ⊥
mark_greater (a_comma h) k = false≢true (sym (ap (is_sign ">") h) ∙ k)
mark_greater (a_semicolon h) k = false≢true (sym (ap (is_sign ">") h) ∙ k)

-- nor is it `=`
mark_equals : {m : Token} → Marks m → is_sign "=" (symbol m) ≡ true → ⊥
mark_equals (a_comma h) k = false≢true (sym (ap (is_sign "=") h) ∙ k)
mark_equals (a_semicolon h) k = false≢true (sym (ap (is_sign "=") h) ∙ k)

-- it is a comma, or in no type
mark_out : {m : Token} → Marks m → in_type (symbol m) ≡ false → is_sign ";" (symbol m) ≡ false → ⊥
mark_out (a_comma h) out no' = false≢true (sym out ∙ ap in_type h)
mark_out (a_semicolon h) out no' = false≢true (sym no' ∙ ap (is_sign ";") h)

-- `=` is in no type
equals_out : (q : Token) → is_sign "=" (symbol q) ≡ true → in_type (symbol q) ≡ true → ⊥
equals_out q k h = false≢true (sym (ap in_type (is_sign-true "=" (symbol q) k)) ∙ h)

-- a first expression does not stop before such a mark
stop_marks : {stop others : List Token} {m : Token} → StopsAt stop → starts (is_sign ";") stop ≡ false → Typed stop (m ∷ others) → Marks m → ⊥
stop_marks (other_sign out) no' here marks = mark_out marks out no'
stop_marks (other_sign out) no' (typed h k) marks = false≢true (sym out ∙ h)
stop_marks (shifted g j k) no' here marks = mark_greater marks (ap (is_sign ">") g)
stop_marks (shifted g j k) no' (typed h here) marks = mark_greater marks j
stop_marks (shifted g j k) no' (typed h (typed h' here)) marks = mark_equals marks k
stop_marks (shifted {q = q} g j k) no' (typed h (typed h' (typed h'' w))) marks = equals_out q k h''

-- an assignment begins with no semicolon
assign_no_by : (c : Bool) (a : Assignment) (t : Token) (after behind : List Token) → is_sign ";" (symbol t) ≡ c → sign_at (t ∷ after) ≡ (codes (assignment_text a), behind) → c ≡ false
assign_no_by false a t after behind is sign = refl
assign_no_by true a t after behind is sign =
    let semicolon : Is ";" t = is_sign-true ";" (symbol t) is in
    let found : written assignment_text assignments (sign_at (t ∷ after)).0 ≡ None = rw semicolon refl in
    let some = ap (λ (text : List _). written assignment_text assignments text) (ap (λ (x : _ × _). x.0) sign) ∙ assignment_found a in
    absurd (cc)

-- a step is no semicolon
step_no : (step : Step) (t : Token) → Is (step_text step) t → is_sign ";" (symbol t) ≡ false
step_no Increment t h = ap (is_sign ";") h
step_no Decrement t h = ap (is_sign ";") h

-- a call ends with a bracket
spans_suffix : {ts stop : List Token} → Spans ts stop → (piece : List Token) × (ts ≡ piece ++ stop)
spans_suffix none = ([], refl)
spans_suffix (one {t = t} h s) = let more = spans_suffix s in (t ∷ more.0, ap (λ ts. t ∷ ts) more.1)
spans_suffix (joined {t = t} {p = p} h s) = let more = spans_suffix s in (t ∷ p ∷ more.0, ap (λ ts. t ∷ p ∷ ts) more.1)

-- tokens that end with a closing bracket before others
record Closes (tokens rest : List Token) : Type 0 where
  piece : List Token
  closing : Token
  are : tokens ≡ piece ++ closing ∷ rest
  closes : Is ")" closing

-- the same behind other tokens
closes_behind : {tokens mid rest : List Token} → (front : List Token) → tokens ≡ front ++ mid → Closes mid rest → Closes tokens rest
closes_behind {rest = rest} front is c =
    record { piece = front ++ c.piece; closing = c.closing; are = is ∙ ap (λ ts. front ++ ts) c.are ∙ sym (append_assoc front c.piece (c.closing ∷ rest)); closes = c.closes }

-- arguments end with a bracket
arguments_close : {tokens rest : List Token} {args : ExprTrees} → IsArguments tokens args rest → Closes tokens rest
arguments_close (no_arguments {closing = closing} c) = record { piece = []; closing = closing; are = refl; closes = c }
arguments_close (some_arguments {closing = closing} l c) = let s = spans_suffix (exprs_spans l) in record { piece = s.0; closing = closing; are = s.1; closes = c }

-- no primary is a call
primary_close : {tokens rest : List Token} {e : ExprTree} → IsPrimary tokens e rest → is_call e ≡ true → ⊥
primary_close (of_number h) c = false≢true c
primary_close (of_true h) c = false≢true c
primary_close (of_false h) c = false≢true c
primary_close (of_itself h) c = false≢true c
primary_close (of_name h n) c = false≢true c
primary_close (of_generic h g) c = false≢true c
primary_close (of_functional_cast s h o e k) c = false≢true c
primary_close (of_own_type h) c = false≢true c
primary_close (of_group o e k) c = false≢true c

-- a postfix that is a call ends with a bracket
postfix_close : {tokens rest : List Token} {e : ExprTree} → IsPostfix tokens e rest → IsExpr tokens e rest → is_call e ≡ true → Closes tokens rest
postfix_close (of_primary p) e c = absurd (primary_close p c)
postfix_close (of_call {opening = opening} f o a) e c =
    let s = spans_suffix (expr_spans (of_binary (of_unary (of_postfix f)))) in
    closes_behind s.0 s.1 (closes_behind (opening ∷ []) refl (arguments_close a))
postfix_close (of_index f o i k) e c = absurd (false≢true c)
postfix_close (of_member f d n) e c = absurd (false≢true c)

-- an expression that is a call ends with a bracket
call_close : {tokens rest : List Token} {e : ExprTree} → IsExpr tokens e rest → is_call e ≡ true → Closes tokens rest
call_close (of_binary (of_unary (of_operator h u))) c = absurd (false≢true c)
call_close (of_binary (of_unary (of_cast o s h k u))) c = absurd (false≢true c)
call_close (of_binary (of_unary (of_postfix p))) c = postfix_close p (of_binary (of_unary (of_postfix p))) c
call_close (of_binary (of_operands le l sign r)) c = absurd (false≢true c)
call_close (of_condition b q x k y) c = absurd (false≢true c)

-- lists that are one have one last token
last_same : (front other : List Token) (a b : Token) → front ++ a ∷ [] ≡ other ++ b ∷ [] → a ≡ b
last_same [] [] a b h = cc
last_same [] (x ∷ []) a b h = absurd (cc)
last_same [] (x ∷ y ∷ other) a b h = absurd (cc)
last_same (x ∷ []) [] a b h = absurd (cc)
last_same (x ∷ y ∷ front) [] a b h = absurd (cc)
last_same (x ∷ front) (y ∷ other) a b h = let more : front ++ a ∷ [] ≡ other ++ b ∷ [] = cc in last_same front other a b more

-- a bracket is no name
bracket_name : (a b : Token) → a ≡ b → Is ")" a → IsName b → ⊥
bracket_name a b same h n = cc

-- a call is no name behind a type
call_marked : {tokens rest : List Token} {e : ExprTree} {type : TypeTree} (name : Token) → IsExpr tokens e rest → is_call e ≡ true → IsType tokens type (name ∷ rest) → IsName name → ⊥
call_marked {rest = rest} name e c t n =
    let k = call_close e c in
    let s = type_stable t in
    let same : (k.piece ++ k.closing ∷ []) ++ rest ≡ (s.piece ++ name ∷ []) ++ rest =
    append_assoc k.piece (k.closing ∷ []) rest ∙ sym k.are ∙ s.are ∙ sym (append_assoc s.piece (name ∷ []) rest) in
    bracket_name k.closing name (last_same k.piece s.piece k.closing name (cancel (k.piece ++ k.closing ∷ []) (s.piece ++ name ∷ []) rest same)) k.closes n

-- nor does it stop before such a mark
alone_marked : {tokens rest others : List Token} {e : ExprTree} {type : TypeTree} (name m semicolon : Token) → IsExpr tokens e (semicolon ∷ rest) → is_call e ≡ true → Is ";" semicolon → IsType tokens type (name ∷ m ∷ others) → IsName name → Marks m
    → Typed (semicolon ∷ rest) (m ∷ others) → ⊥
alone_marked name m semicolon e c s t n marks here = call_marked name e c t n
alone_marked name m semicolon e c s t n marks (typed h k) = false≢true (sym (ap in_type s) ∙ h)

-- no type begins with a step
pub step_head : (step : Step) (t : Token) (ts : List Token) {type : TypeTree} {rest : List Token} → Is (step_text step) t → IsType (t ∷ ts) type rest → ⊥
step_head step t ts h ty =
    let head = type_head ty in
    let same : t ≡ head.token = let are = head.are in cc in
    false≢true (sym (step_no_type step) ∙ ap begins_type (sym h) ∙ ap (λ (x : Token). begins_type (symbol x)) same ∙ head.passes)

-- no simple statement begins with a type, a name and such a mark
simple_marked : {tokens rest : List Token} {simple : SimpleTree} (semicolon : Token) → IsMarked tokens → IsSimple tokens simple (semicolon ∷ rest) → Is ";" semicolon → ⊥
simple_marked semicolon d (of_assignment {assignment = a} {token = t} {after = after} {behind = behind} p sign v) s =
    stop_marks (assign_stops (assign_parts a t after behind sign)) (assign_no_by (is_sign ";" (symbol t)) a t after behind refl sign) (typed_stop d.name d.m d.others p d.typed' d.named d.marks) d.marks
simple_marked {rest = rest} semicolon d (of_postfix_step {step = step} {token = t} p h) s =
    stop_marks (step_stops step t (semicolon ∷ rest) h) (step_no step t h) (typed_stop d.name d.m d.others p d.typed' d.named d.marks) d.marks
simple_marked semicolon d (of_prefix_step {step = step} {token = t} {tokens = ts} h p) s = step_head step t ts h d.typed'
simple_marked semicolon d (of_call_statement p c) s =
    alone_marked d.name d.m semicolon p c s d.typed' d.named d.marks (typed_stop d.name d.m d.others p d.typed' d.named d.marks)

-- words with which locals begin
simple_word : {tokens rest : List Token} {simple : SimpleTree} → IsSimple tokens simple rest → (starts (is_sign "const") tokens ≡ false) × (starts (is_sign "let") tokens ≡ false) × (starts (is_sign "var") tokens ≡ false)
simple_word (of_assignment p sign v) = let head = expr_head p in (headed_not begins_expr "const" refl head, headed_not begins_expr "let" refl head, headed_not begins_expr "var" refl head)
simple_word (of_postfix_step p h) = let head = expr_head p in (headed_not begins_expr "const" refl head, headed_not begins_expr "let" refl head, headed_not begins_expr "var" refl head)
simple_word (of_prefix_step {step = Increment} h p) = (ap (is_sign "const") h, ap (is_sign "let") h, ap (is_sign "var") h)
simple_word (of_prefix_step {step = Decrement} h p) = (ap (is_sign "const") h, ap (is_sign "let") h, ap (is_sign "var") h)
simple_word (of_call_statement p c) = let head = expr_head p in (headed_not begins_expr "const" refl head, headed_not begins_expr "let" refl head, headed_not begins_expr "var" refl head)

-- no simple statement begins with the word of a local
binding_word : (binding : Binding) (word : Token) (tokens : List Token) → Is (binding_text binding) word → (starts (is_sign "const") (word ∷ tokens) ≡ false) × (starts (is_sign "let") (word ∷ tokens) ≡ false) × (starts (is_sign "var") (word ∷ tokens) ≡ false) → ⊥
binding_word Let word tokens h w = false≢true (sym w.1 ∙ ap (is_sign "let") h)
binding_word Var word tokens h w = false≢true (sym w.2 ∙ ap (is_sign "var") h)

-- behind the first name of a local stands `=` or such a mark
declared_or : {tokens behind rest : List Token} {type : TypeTree} {all : List Declarator} (semicolon : Token) → IsType tokens type behind → AreDeclarators behind all (semicolon ∷ rest) → Is ";" semicolon → (IsDeclared tokens → ⊥) → (IsMarked tokens → ⊥) → ⊥
declared_or {rest = rest} semicolon t (last_declarator {name = name} n without_init) s no' clear =
    clear (record { type = _; name = name; m = semicolon; others = rest; typed' = t; named = n; marks = a_semicolon s })
declared_or semicolon t (last_declarator {name = name} n (with_init {equals = e} {tokens = ts} h i)) s no' clear = no' (record { type = _; name = name; equals = e; others = ts; typed = t; named = n; marked = h })
declared_or semicolon t (more_declarators {name = name} {comma = comma} {behind = behind} n without_init c d) s no' clear =
    clear (record { type = _; name = name; m = comma; others = behind; typed' = t; named = n; marks = a_comma c })
declared_or semicolon t (more_declarators {name = name} n (with_init {equals = e} {tokens = ts} h i) c d) s no' clear =
    no' (record { type = _; name = name; equals = e; others = ts; typed = t; named = n; marked = h })

-- no local begins as such a simple statement does
local_out : {tokens rest rest' : List Token} {simple : SimpleTree} {local : LocalTree} (semicolon semicolon' : Token) → IsSimple tokens simple (semicolon ∷ rest) → Is ";" semicolon → IsLocal tokens local (semicolon' ∷ rest') → Is ";" semicolon'
    → (IsDeclared tokens → ⊥) → ⊥
local_out semicolon semicolon' p s (of_type t d) s' no' = declared_or semicolon' t d s' no' (λ m. simple_marked semicolon m p s)
local_out semicolon semicolon' p s (of_const {word = word} h t d) s' no' = false≢true (sym (simple_word p).0 ∙ ap (is_sign "const") h)
local_out semicolon semicolon' p s (of_binding {binding = binding} {word = word} {name = name} {tokens = tokens} h n t e v) s' no' = binding_word binding word (name ∷ tokens) h (simple_word p)

-- a simple statement that no type, name and `=` begins is no local
pub simple_out : {tokens rest : List Token} {simple : SimpleTree} (semicolon : Token) → IsSimple tokens simple (semicolon ∷ rest) → Is ";" semicolon → (IsDeclared tokens → ⊥) → NoLocal tokens
simple_out semicolon p s no' local semicolon' rest' l s' = local_out semicolon semicolon' p s l s' no'
