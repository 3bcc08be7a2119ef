-- What types, expressions, locals and simple statements begin with.
use Rattle.std.proofs.Common.{◌≡◌, ℕ, Bool, true, false, List, ◌∷◌, refl, sym, ap, ◌∙◌, codes}
use Rattle.std.specs.Prelude.{◌||◌, is_some, IsTrue}
use Rattle.std.proofs.lemmas.Bool.{false≢true}
use Prim.Native.String.{String}
use Rattle.def_token.specs.Lexical.{Token}
use Rattle.def_tree.specs.ExprTree.{ExprTree, ExprTrees}
use Rattle.def_tree.specs.Expressions.{IsPrimary, of_number, of_true, of_false, of_itself, of_name, of_generic, of_functional_cast, of_own_type, of_group, IsPostfix, of_primary, of_call, of_index, of_member, IsExprList, last_expr, more_exprs, IsUnary, of_operator, of_cast, of_postfix, IsBinary, of_unary, of_operands, IsExpr, of_binary, of_condition}
use Rattle.def_tree.specs.Operator.{UnaryOperator, Minus, Plus, Not, Complement, unary_text, Step, Increment, Decrement, step_text}
use Rattle.def_tree.specs.Statements.{binding_text, IsLocal, of_type, of_const, of_binding, IsSimple, of_assignment, of_postfix_step, of_prefix_step, of_call_statement}
use Rattle.def_tree.specs.StmtTree.{Binding, Let, Var, LocalTree, SimpleTree}
use Rattle.def_tree.specs.Symbol.{Symbol, Name, Number, Text, End, Sign, symbol, is_sign}
use Rattle.def_tree.specs.Types.{IsType, of_word, of_name as type_of_name, of_generic as type_of_generic}
use Rattle.def_tree.specs.TypeTree.{TypeWord, word_text, is_scalar, TypeTree}
use Rattle.law_tree.proofs.Tables.{lead_text, leads, unary_operators}
use Rattle.law_tree.proofs.Tables.{bindings, steps}
use Rattle.law_tree.proofs.Symbols.{found_in, is_name, is_sign-true}
use Rattle.law_tree.proofs.TypeEnds.{word_of}
use Rattle.law_tree.proofs.Words.{every_word}

-- the symbol begins a type, an expression, or one of these, a local, or a simple statement
abbrev pub begins_type : Symbol → Bool
begins_type s = is_name s || is_some (word_of s)

abbrev is_number : Symbol → Bool
is_number Name = false
is_number (Number wide) = true
is_number Text = false
is_number End = false
is_number (Sign text) = false

abbrev pub begins_expr : Symbol → Bool
begins_expr s = (is_name s || is_number s) || (is_some (found_in lead_text leads s) || is_some (found_in unary_text unary_operators s))

abbrev pub begins_plain : Symbol → Bool
begins_plain s = (begins_type s || begins_expr s) || (is_some (found_in step_text steps s) || (is_some (found_in binding_text bindings s) || is_sign "const" s))

-- tokens whose first one passes a test
pub record IsHeaded (test : Symbol → Bool) (tokens : List Token) : Type 0 where
  pub token : Token
  pub others : List Token
  pub are : tokens ≡ token ∷ others
  pub passes : test (symbol token) ≡ true

abbrev headed : (test : Symbol → Bool) (token : Token) (others : List Token) → test (symbol token) ≡ true → IsHeaded test (token ∷ others)
headed test token others h = record { token = token; others = others; are = refl; passes = h }

other_by : (b : Bool) (test : Symbol → Bool) (sign : String) (s : Symbol) → is_sign sign s ≡ b → test (Sign (codes sign)) ≡ false → test s ≡ true → b ≡ false
other_by true test sign s is h k = absurd (false≢true (sym h ∙ ap test (sym (is_sign-true sign s is)) ∙ k))
other_by false test sign s is h k = refl

-- what passes a test is no sign that fails it
pub other_sign : (test : Symbol → Bool) (sign : String) (s : Symbol) → test (Sign (codes sign)) ≡ false → test s ≡ true → is_sign sign s ≡ false
other_sign test sign s h k = other_by (is_sign sign s) test sign s refl h k

pub or_left : (x y : Bool) → x ≡ true → (x || y) ≡ true
or_left x y h = rw h refl

pub or_right : (x y : Bool) → y ≡ true → (x || y) ≡ true
or_right true y h = refl
or_right false y h = h

-- types
word_begins : (word : TypeWord) → begins_type (Sign (codes (word_text word))) ≡ true
word_begins = every_word (λ word. begins_type (Sign (codes (word_text word))) ≡ true) (refl, (refl, (refl, (refl, (refl, (refl, (refl, (refl, tt))))))))

pub type_head : {tokens rest : List Token} {type : TypeTree} → IsType tokens type rest → IsHeaded begins_type tokens
type_head (of_word {word = word} {first = t} {tokens = ts} h p) = headed begins_type t ts (ap begins_type h ∙ word_begins word)
type_head (type_of_name {first = t} {tokens = ts} h p) = headed begins_type t ts (ap begins_type h)
type_head (type_of_generic {first = t} {tokens = ts} h a p) = headed begins_type t ts (ap begins_type h)

-- expressions
scalar_begins : (word : TypeWord) → IsTrue (is_scalar word) → begins_expr (Sign (codes (word_text word))) ≡ true
scalar_begins = every_word (λ word. IsTrue (is_scalar word) → begins_expr (Sign (codes (word_text word))) ≡ true) ((λ h. refl), ((λ h. refl), ((λ h. refl), ((λ h. refl), ((λ h. refl), ((λ h. absurd (false≢true h)), ((λ h. absurd (false≢true h)), ((λ h. absurd (false≢true h)), tt))))))))

unary_begins : (operator : UnaryOperator) → begins_expr (Sign (codes (unary_text operator))) ≡ true
unary_begins Minus = refl
unary_begins Plus = refl
unary_begins Not = refl
unary_begins Complement = refl

primary_head : {tokens rest : List Token} {expr : ExprTree} → IsPrimary tokens expr rest → IsHeaded begins_expr tokens
primary_head (of_number {token = t} {rest = ts} h) = headed begins_expr t ts (ap begins_expr h)
primary_head (of_true {token = t} {rest = ts} h) = headed begins_expr t ts (ap begins_expr h)
primary_head (of_false {token = t} {rest = ts} h) = headed begins_expr t ts (ap begins_expr h)
primary_head (of_itself {token = t} {rest = ts} h) = headed begins_expr t ts (ap begins_expr h)
primary_head (of_name {token = t} {rest = ts} h n) = headed begins_expr t ts (ap begins_expr h)
primary_head (of_generic {token = t} {tokens = ts} h n) = headed begins_expr t ts (ap begins_expr h)
primary_head (of_functional_cast {word = word} {token = t} {opening = o} {tokens = ts} s h b e c) = headed begins_expr t (o ∷ ts) (ap begins_expr h ∙ scalar_begins word s)
primary_head (of_own_type {token = t} {rest = ts} h) = headed begins_expr t ts (ap begins_expr h)
primary_head (of_group {opening = t} {tokens = ts} h e c) = headed begins_expr t ts (ap begins_expr h)

postfix_head : {tokens rest : List Token} {expr : ExprTree} → IsPostfix tokens expr rest → IsHeaded begins_expr tokens
postfix_head (of_primary p) = primary_head p
postfix_head (of_call f o a) = postfix_head f
postfix_head (of_index f o e c) = postfix_head f
postfix_head (of_member f d n) = postfix_head f

unary_head : {tokens rest : List Token} {expr : ExprTree} → IsUnary tokens expr rest → IsHeaded begins_expr tokens
unary_head (of_operator {operator = operator} {token = t} {tokens = ts} h u) = headed begins_expr t ts (ap begins_expr h ∙ unary_begins operator)
unary_head (of_cast {opening = t} {token = w} {closing = c} {tokens = ts} h s i e u) = headed begins_expr t (w ∷ c ∷ ts) (ap begins_expr h)
unary_head (of_postfix p) = postfix_head p

binary_head : {least : ℕ} {tokens rest : List Token} {expr : ExprTree} → IsBinary least tokens expr rest → IsHeaded begins_expr tokens
binary_head (of_unary u) = unary_head u
binary_head (of_operands le left s right) = binary_head left

pub expr_head : {tokens rest : List Token} {expr : ExprTree} → IsExpr tokens expr rest → IsHeaded begins_expr tokens
expr_head (of_binary b) = binary_head b
expr_head (of_condition b q yes' c no') = binary_head b

pub list_head : {tokens rest : List Token} {exprs : ExprTrees} → IsExprList tokens exprs rest → IsHeaded begins_expr tokens
list_head (last_expr e) = expr_head e
list_head (more_exprs e c l) = expr_head e

-- locals and simple statements
step_begins : (step : Step) → begins_plain (Sign (codes (step_text step))) ≡ true
step_begins Increment = refl
step_begins Decrement = refl

binding_begins : (binding : Binding) → begins_plain (Sign (codes (binding_text binding))) ≡ true
binding_begins Let = refl
binding_begins Var = refl

plain_by_type : (s : Symbol) → begins_type s ≡ true → begins_plain s ≡ true
plain_by_type s h = or_left (begins_type s || begins_expr s) _ (or_left (begins_type s) (begins_expr s) h)

plain_by_expr : (s : Symbol) → begins_expr s ≡ true → begins_plain s ≡ true
plain_by_expr s h = or_left (begins_type s || begins_expr s) _ (or_right (begins_type s) (begins_expr s) h)

plain_type : {tokens : List Token} → IsHeaded begins_type tokens → IsHeaded begins_plain tokens
plain_type h = record { token = h.token; others = h.others; are = h.are; passes = plain_by_type (symbol h.token) h.passes }

plain_expr : {tokens : List Token} → IsHeaded begins_expr tokens → IsHeaded begins_plain tokens
plain_expr h = record { token = h.token; others = h.others; are = h.are; passes = plain_by_expr (symbol h.token) h.passes }

pub local_head : {tokens rest : List Token} {local : LocalTree} → IsLocal tokens local rest → IsHeaded begins_plain tokens
local_head (of_type t d) = plain_type (type_head t)
local_head (of_const {word = w} {tokens = ts} h t d) = headed begins_plain w ts (ap begins_plain h)
local_head (of_binding {binding = binding} {word = w} {name = n} {tokens = ts} h name t e v) = headed begins_plain w (n ∷ ts) (ap begins_plain h ∙ binding_begins binding)

pub simple_head : {tokens rest : List Token} {simple : SimpleTree} → IsSimple tokens simple rest → IsHeaded begins_plain tokens
simple_head (of_assignment p s v) = plain_expr (expr_head p)
simple_head (of_postfix_step p s) = plain_expr (expr_head p)
simple_head (of_prefix_step {step = step} {token = t} {tokens = ts} s p) = headed begins_plain t ts (ap begins_plain s ∙ step_begins step)
simple_head (of_call_statement p c) = plain_expr (expr_head p)
