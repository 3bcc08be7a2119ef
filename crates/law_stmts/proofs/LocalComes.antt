-- The reader of locals comes to each local.
use Rattle.std.proofs.Common.{◌≡◌, ℕ, zero, suc, ◌<◌, ◌≤◌, Bool, false, List, [], ◌∷◌, ◌++◌, length, refl, sym, ap, subst, codes, arith, le_refl}
use Rattle.std.specs.Prelude.{Option, Some, None}
use Prim.Native.String.{String}
use Rattle.def_token.specs.Lexical.{Token}
use Rattle.def_tree.specs.ExprTree.{ExprTree, ExprTrees, NoExprs, MoreExprs}
use Rattle.def_tree.specs.Expressions.{IsExpr, IsExprList, last_expr, more_exprs}
use Rattle.def_tree.specs.Limits.{Nesting, all_open, Entry, plain, type_entries, whole_entries, values_entries, more_values_entries, init_entries, maybe_init_entries, declarator_entries, declarators_entries, more_declarators_entries, maybe_type_entries, local_entries}
use Rattle.def_tree.specs.Part.{expr_goes_on, type_goes_on}
use Rattle.def_tree.specs.Statements.{IsInit, of_value, of_no_fields, of_fields, MayHaveInit, without_init, with_init, AreDeclarators, last_declarator, more_declarators, MayHaveType, without_type, with_type, IsLocal, of_type, of_const, of_binding}
use Rattle.def_tree.specs.StmtTree as tree
use Rattle.def_tree.specs.StmtTree.{Binding, Let, Var, Declarator, InitTree, LocalTree}
use Rattle.def_tree.specs.Symbol.{Symbol, Sign, symbol, is_sign, Is, IsName}
use Rattle.def_tree.specs.TypeTree.{TypeTree}
use Rattle.def_tree.specs.Types.{IsType}
use Rattle.law_tree.proofs.Covered.{expr_covered}
use Rattle.law_tree.proofs.Heads.{IsHeaded, begins_expr, begins_type, expr_head, list_head, type_head, other_sign}
use Rattle.law_tree.proofs.TypeEnds.{stops}
use Rattle.def_reading.specs.StmtReading.{values_in, fields_in, init_in, maybe_init_in, declarator, declarator_in, with_more, declarators_in, typed_in, maybe_type_in, valued_in, inferred_in, local_in}
use Rattle.def_reading.specs.Try.{Reads, Reader, try_then, try_as, refused, choice, up_to, listed, ahead, assign_ends, expr_in, type_in}
use Rattle.def_reading.specs.TypeAhead.{names}
use Rattle.law_exprs.proofs.ExprComes.{expr_is, type_is}
use Rattle.law_exprs.proofs.TryComes.{Comes, comes_end, comes_as, comes_then, comes_yes, comes_no, comes_up_to, comes_with, starts}

-- what ends a local or a simple statement, or a part of one: no comma behind an initialiser does
pub record IsStop (rest : List Token) : Type 0 where
  pub goes : expr_goes_on rest ≡ false
  pub equals : starts (is_sign "=") rest ≡ false
  pub shifts : assign_ends false rest ≡ false

-- tokens that begin as a test says begin with no sign that fails it
pub headed_not : (test : Symbol → Bool) (sign : String) {tokens : List Token} → test (Sign (codes sign)) ≡ false → IsHeaded test tokens → starts (is_sign sign) tokens ≡ false
headed_not test sign h k = rw (k.are) (other_sign test sign (symbol k.token) h k.passes)

-- parts with a comma between them
abbrev more_behind : {A B : Type 0} → (A → B → B) → B → Reader A → ℕ → A → Reader B
more_behind more none part turns a =
    choice (is_sign ",") plain (λ comma reach place. try_as (more a) (listed more none part turns reach place)) (λ reach place. Reads (more a none) place reach)

pub listed_last : {A B : Type 0} (more : A → B → B) (none : B) (part : Reader A) (turns : ℕ) {tokens rest : List Token} {a : A} {entries : List Entry} → Comes part tokens a entries rest → starts (is_sign ",") rest ≡ false
    → Comes (listed more none part (suc turns)) tokens (more a none) (entries ++ []) rest
listed_last more none part turns {rest = rest} {a = a} c end =
    comes_then (more_behind more none part turns) part c
    (comes_no (is_sign ",") plain (λ comma reach place. try_as (more a) (listed more none part turns reach place)) (λ reach place. Reads (more a none) place reach) end
    (comes_end (more a none) rest))

pub listed_more : {A B : Type 0} (more : A → B → B) (none : B) (part : Reader A) (turns : ℕ) (comma : Token) {tokens after rest : List Token} {a : A} {b : B} {entries others : List Entry}
    → Comes part tokens a entries (comma ∷ after) → Is "," comma → Comes (listed more none part turns) after b others rest
    → Comes (listed more none part (suc turns)) tokens (more a b) (entries ++ plain ∷ others) rest
listed_more more none part turns comma {a = a} c is d =
    comes_then (more_behind more none part turns) part c
    (comes_yes (is_sign ",") plain (λ comma reach place. try_as (more a) (listed more none part turns reach place)) (λ reach place. Reads (more a none) place reach) comma (rw is refl)
    (comes_as (more a) (listed more none part turns) d))

-- a reader with as many turns as there are tokens
pub comes_ahead : {A : Type 0} (reader : ℕ → Reader A) {tokens rest : List Token} {a : A} {entries : List Entry} → Comes (reader (suc (length tokens))) tokens a entries rest
    → Comes (λ reach place. reader (suc (length (ahead place))) reach place) tokens a entries rest
comes_ahead reader c = record { comes = λ at limit reach. c.comes at limit reach }

-- values
values_more : (around : Nesting) {tokens rest : List Token} {values : ExprTrees} → IsExprList tokens values rest → plain ∷ values_entries around values ≡ more_values_entries around values
values_more around (last_expr e) = refl
values_more around (more_exprs e c l) = refl

values_are : (around : Nesting) (turns : ℕ) {tokens rest : List Token} {values : ExprTrees} → IsExprList tokens values rest → IsStop rest → starts (is_sign ",") rest ≡ false → length tokens < turns
    → Comes (listed MoreExprs NoExprs (expr_in false around) turns) tokens values (values_entries around values) rest
values_are around zero l stop end few = absurd (omega (arith, few))
values_are around (suc turns) (last_expr e) stop end few =
    listed_last MoreExprs NoExprs (expr_in false around) turns (expr_is false around e stop.goes stop.shifts) end
values_are around (suc turns) (more_exprs {comma = comma} {expr = expr} {exprs = exprs} e c l) stop end few =
    comes_with (listed MoreExprs NoExprs (expr_in false around) (suc turns)) (whole_entries around expr ++ plain ∷ values_entries around exprs) _
    (ap (λ es. whole_entries around expr ++ es) (values_more around l))
    (listed_more MoreExprs NoExprs (expr_in false around) turns comma (expr_is false around e (rw c refl) (rw c refl)) c
    (values_are around turns l stop end (omega (arith, few, expr_covered around e))))

-- initialisers
brace_stops : (mark : Token) (rest : List Token) → Is "}" mark → IsStop (mark ∷ rest)
brace_stops mark rest h = record { goes = rw h refl; equals = rw h refl; shifts = rw h refl }

abbrev value_of : Nesting → Reader InitTree
value_of around reach place = try_as tree.Value (expr_in false around reach place)

abbrev no_fields : Token → Token → Reader InitTree
no_fields opening closing reach place = Reads (tree.Fields opening NoExprs) place reach

abbrev some_fields : Nesting → Token → Reader InitTree
some_fields around opening reach place = try_as (tree.Fields opening) (up_to (is_sign "}") (values_in around reach place))

pub init_is : (around : Nesting) {tokens rest : List Token} {init : InitTree} → IsInit tokens init rest → IsStop rest → Comes (init_in around) tokens init (init_entries around init) rest
init_is around (of_value e) stop =
    comes_no (is_sign "{") plain (fields_in around) (value_of around) (headed_not begins_expr "{" refl (expr_head e))
    (comes_as tree.Value (expr_in false around) (expr_is false around e stop.goes stop.shifts))
init_is around (of_no_fields {opening = o} {closing = c} {rest = rest} h k) stop =
    comes_yes (is_sign "{") plain (fields_in around) (value_of around) o (rw h refl)
    (comes_yes (is_sign "}") plain (no_fields o) (some_fields around o) c (rw k refl) (comes_end (tree.Fields o NoExprs) rest))
init_is around (of_fields {opening = o} {closing = c} {tokens = tokens} {rest = rest} {values = values} h l k) stop =
    comes_yes (is_sign "{") plain (fields_in around) (value_of around) o (rw h refl)
    (comes_no (is_sign "}") plain (no_fields o) (some_fields around o) (headed_not begins_expr "}" refl (list_head l))
    (comes_as (tree.Fields o) (λ reach place. up_to (is_sign "}") (values_in around reach place))
    (comes_up_to (is_sign "}") (values_in around) c (rw k refl)
    (comes_ahead (listed MoreExprs NoExprs (expr_in false around)) (values_are around (suc (length tokens)) l (brace_stops c rest k) (rw k refl) (omega arith))))))

abbrev some_init : Nesting → Token → Reader (Option InitTree)
some_init around equals reach place = try_as Some (init_in around reach place)

abbrev nothing : {A : Type 0} → Reader (Option A)
nothing reach place = Reads None place reach

maybe_init_is : (around : Nesting) {tokens rest : List Token} {init : Option InitTree} → MayHaveInit tokens init rest → IsStop rest → Comes (maybe_init_in around) tokens init (maybe_init_entries around init) rest
maybe_init_is around (without_init {rest = rest}) stop = comes_no (is_sign "=") plain (some_init around) nothing stop.equals (comes_end None rest)
maybe_init_is around (with_init {equals = t} h i) stop = comes_yes (is_sign "=") plain (some_init around) nothing t (rw h refl) (comes_as Some (init_in around) (init_is around i stop))

-- declarators
comma_stops : (mark : Token) (rest : List Token) → Is "," mark → IsStop (mark ∷ rest)
comma_stops mark rest h = record { goes = rw h refl; equals = rw h refl; shifts = rw h refl }

abbrev named : Nesting → Token → Reader Declarator
named around name reach place = try_as (declarator name) (maybe_init_in around reach place)

declarator_is : (around : Nesting) (name : Token) {tokens rest : List Token} {init : Option InitTree} → IsName name → MayHaveInit tokens init rest → IsStop rest
    → Comes (declarator_in around) (name ∷ tokens) (declarator name init) (declarator_entries around (declarator name init)) rest
declarator_is around name h i stop =
    comes_yes names plain (named around) refused name (rw h refl) (comes_as (declarator name) (maybe_init_in around) (maybe_init_is around i stop))

declarators_more : (around : Nesting) {tokens rest : List Token} {all : List Declarator} → AreDeclarators tokens all rest → plain ∷ declarators_entries around all ≡ more_declarators_entries around all
declarators_more around (last_declarator h i) = refl
declarators_more around (more_declarators h i c d) = refl

-- a list of declarators has fewer tokens behind its first one
list_shorter : {tokens rest : List Token} {values : ExprTrees} → IsExprList tokens values rest → length rest ≤ length tokens
list_shorter (last_expr e) = omega (arith, expr_covered (all_open 0) e)
list_shorter (more_exprs e c l) = omega (arith, expr_covered (all_open 0) e, list_shorter l)

init_shorter : {tokens rest : List Token} {init : Option InitTree} → MayHaveInit tokens init rest → length rest ≤ length tokens
init_shorter (without_init {rest = rest}) = le_refl (length rest)
init_shorter (with_init h (of_value e)) = omega (arith, expr_covered (all_open 0) e)
init_shorter (with_init h (of_no_fields o c)) = omega arith
init_shorter (with_init h (of_fields o l c)) = omega (arith, list_shorter l)

declarators_are : (around : Nesting) (turns : ℕ) {tokens rest : List Token} {all : List Declarator} → AreDeclarators tokens all rest → IsStop rest → starts (is_sign ",") rest ≡ false → length tokens < turns
    → Comes (listed with_more [] (declarator_in around) turns) tokens all (declarators_entries around all) rest
declarators_are around zero d stop end few = absurd (omega (arith, few))
declarators_are around (suc turns) (last_declarator {name = name} h i) stop end few =
    listed_last with_more [] (declarator_in around) turns (declarator_is around name h i stop) end
declarators_are around (suc turns) (more_declarators {name = name} {comma = comma} {behind = after} {init = init} {declarators = all} h i c d) stop end few =
    comes_with (listed with_more [] (declarator_in around) (suc turns)) (declarator_entries around (declarator name init) ++ plain ∷ declarators_entries around all) _
    (ap (λ es. declarator_entries around (declarator name init) ++ es) (declarators_more around d))
    (listed_more with_more [] (declarator_in around) turns comma (declarator_is around name h i (comma_stops comma after c)) c
    (declarators_are around turns d stop end (omega (arith, few, init_shorter i))))

-- locals
abbrev some_type : Nesting → Token → Reader (Option TypeTree)
some_type around colon reach place = try_as Some (type_in around reach place)

maybe_type_is : (around : Nesting) {tokens rest : List Token} {type : Option TypeTree} → MayHaveType tokens type rest → (mark : Token) (after : List Token) → rest ≡ mark ∷ after → Is "=" mark
    → Comes (maybe_type_in around) tokens type (maybe_type_entries around type) rest
maybe_type_is around (without_type {rest = rest}) mark after is h = comes_no (is_sign ":") plain (some_type around) nothing (rw is (rw h refl)) (comes_end None rest)
maybe_type_is around (with_type {colon = t} {type = type} c ty) mark after is h =
    comes_yes (is_sign ":") plain (some_type around) nothing t (rw c refl)
    (comes_as Some (type_in around) (type_is around ty (subst (λ r. type_goes_on type r ≡ false) (sym is) (stops type mark after (rw h refl) (rw h refl)))))

before_name : {tokens rest : List Token} {all : List Declarator} (type : TypeTree) → AreDeclarators tokens all rest → type_goes_on type tokens ≡ false
before_name type (last_declarator {name = n} {tokens = tokens} h i) = stops type n tokens (rw h refl) (rw h refl)
before_name type (more_declarators {name = n} {tokens = tokens} h i c d) = stops type n tokens (rw h refl) (rw h refl)

abbrev declared : Nesting → Option Token → TypeTree → Reader LocalTree
declared around word type reach place = try_as (tree.Typed word type) (declarators_in around reach place)

typed_is : (around : Nesting) (word : Option Token) {tokens after rest : List Token} {type : TypeTree} {all : List Declarator} → IsType tokens type after → AreDeclarators after all rest → IsStop rest
    → starts (is_sign ",") rest ≡ false → Comes (typed_in around word) tokens (tree.Typed word type all) (type_entries around.types type ++ declarators_entries around all) rest
typed_is around word {after = after} {type = type} t d stop end =
    comes_then (declared around word) (type_in around) (type_is around t (before_name type d))
    (comes_as (tree.Typed word type) (declarators_in around)
    (comes_ahead (listed with_more [] (declarator_in around)) (declarators_are around (suc (length after)) d stop end (omega arith))))

abbrev by_const : Nesting → Reader LocalTree
by_const around = choice (is_sign "const") plain (λ word. typed_in around (Some word)) (typed_in around None)

abbrev by_var : Nesting → Reader LocalTree
by_var around = choice (is_sign "var") plain (inferred_in around Var) (by_const around)

inferred_is : (around : Nesting) (binding : Binding) (word name equals : Token) {tokens after rest : List Token} {type : Option TypeTree} {value : ExprTree}
    → IsName name → MayHaveType tokens type (equals ∷ after) → Is "=" equals → IsExpr after value rest → IsStop rest
    → Comes (inferred_in around binding word) (name ∷ tokens) (tree.Inferred binding word name type value) (plain ∷ (maybe_type_entries around type ++ plain ∷ whole_entries around value)) rest
inferred_is around binding word name equals {after = after} {type = type} n t e v stop =
    comes_yes names plain (λ name reach place. try_then (λ type. valued_in around (tree.Inferred binding word name type)) (maybe_type_in around reach place)) refused name (rw n refl)
    (comes_then (λ type. valued_in around (tree.Inferred binding word name type)) (maybe_type_in around) (maybe_type_is around t equals after refl e)
    (comes_yes (is_sign "=") plain (λ equals reach place. try_as (tree.Inferred binding word name type) (expr_in false around reach place)) refused equals (rw e refl)
    (comes_as (tree.Inferred binding word name type) (expr_in false around) (expr_is false around v stop.goes stop.shifts))))

pub local_is : (around : Nesting) {tokens rest : List Token} {local : LocalTree} → IsLocal tokens local rest → IsStop rest → starts (is_sign ",") rest ≡ false → Comes (local_in around) tokens local (local_entries around local) rest
local_is around (of_type t d) stop end =
    let head = type_head t in
    comes_no (is_sign "let") plain (inferred_in around Let) (by_var around) (headed_not begins_type "let" refl head)
    (comes_no (is_sign "var") plain (inferred_in around Var) (by_const around) (headed_not begins_type "var" refl head)
    (comes_no (is_sign "const") plain (λ word. typed_in around (Some word)) (typed_in around None) (headed_not begins_type "const" refl head)
    (typed_is around None t d stop end)))
local_is around (of_const {word = w} h t d) stop end =
    comes_no (is_sign "let") plain (inferred_in around Let) (by_var around) (rw h refl)
    (comes_no (is_sign "var") plain (inferred_in around Var) (by_const around) (rw h refl)
    (comes_yes (is_sign "const") plain (λ word. typed_in around (Some word)) (typed_in around None) w (rw h refl)
    (typed_is around (Some w) t d stop end)))
local_is around (of_binding {binding = Let} {word = w} {name = n} {equals = e} h name t s v) stop end =
    comes_yes (is_sign "let") plain (inferred_in around Let) (by_var around) w (rw h refl) (inferred_is around Let w n e name t s v stop)
local_is around (of_binding {binding = Var} {word = w} {name = n} {equals = e} h name t s v) stop end =
    comes_no (is_sign "let") plain (inferred_in around Let) (by_var around) (rw h refl)
    (comes_yes (is_sign "var") plain (inferred_in around Var) (by_const around) w (rw h refl) (inferred_is around Var w n e name t s v stop))
