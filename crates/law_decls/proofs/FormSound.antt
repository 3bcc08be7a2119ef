-- What holds of the tokens of a form: how it is shown part by part.
use Rattle.std.proofs.Common.{List, ◌∷◌}
use Rattle.def_token.specs.Lexical.{Token}
use Rattle.def_tree.specs.Expressions.{IsExpr}
use Rattle.def_tree.specs.Limits.{Nesting, Entry}
use Rattle.def_tree.specs.Statements.{AreStmts}
use Prim.Native.String.{String}
use Rattle.def_tree.specs.Symbol.{Symbol, Is}
use Rattle.def_tree.specs.StmtTree.{StmtTrees}
use Rattle.def_tree.specs.Types.{IsType}
use Rattle.def_tree.specs.TypeTree.{TypeTree}
use Rattle.def_tree.specs.ExprTree.{ExprTree}
use Rattle.def_module.specs.Repetition.{IsWord, of_word, MayBe, without, with_one, AreMany, no_more, one_more, AreListed, last_one, and_more}
use Rattle.std.specs.Prelude.{Bool}
use Rattle.def_decl_reading.specs.Form.{Front, Form, Made, Never, Branch, Then, As, Listed, Many, Until, AType, AnExpr, Stmts, closed, maybe}
use Rattle.law_decls.proofs.Gives.{Giving, Fits, is_made, is_part, is_yes, is_no, is_then, is_as, ListedBy, is_last, is_more, ManyBy, is_none, is_one, UntilBy, is_end, is_on, Gives}

-- tokens, a tree, and the tokens behind it
abbrev pub Holding : Type 0 → Type 1
Holding A = List Token → A → List Token → Type 0

-- this holds of the tokens of a form
pub record Sounds {A : Type 0} (form : Form A) (R : Holding A) : Type 0 where
  pub sound : (tokens : List Token) (a : A) (entries : List Entry) (rest : List Token) → Gives form tokens a entries rest → R tokens a rest

-- what follows from what holds
pub sound_by : {A : Type 0} {form : Form A} {P R : Holding A} → Sounds form P → ((tokens : List Token) (a : A) (rest : List Token) → P tokens a rest → R tokens a rest) → Sounds form R
sound_by s f = record { sound = λ tokens a entries rest g. f tokens a rest (s.sound tokens a entries rest g) }

-- nothing, with its tree
made_by : {A : Type 0} {made : A} (R : Holding A) → ((tokens : List Token) → R tokens made tokens) → (tokens : List Token) (a : A) (entries : List Entry) (rest : List Token)
    → Gives (Made made) tokens a entries rest → R tokens a rest
made_by R f tokens a entries rest is_made = f tokens

pub sound_made : {A : Type 0} {made : A} {R : Holding A} → ((tokens : List Token) → R tokens made tokens) → Sounds (Made made) R
sound_made {R = R} f = record { sound = made_by R f }

-- what never stands there
pub sound_never : {A : Type 0} {R : Holding A} → Sounds (Never {A = A}) R
sound_never = record { sound = λ tokens a entries rest g. absurd g }

-- a token with what stands behind it, or another form
branch_by : {A : Type 0} {front : Front} {entry : Entry} {yes' : Token → Form A} {no' : Form A} {R : Holding A} → ((token : Token) → Fits front token → Sounds (yes' token) (λ others a rest. R (token ∷ others) a rest))
    → Sounds no' R → (tokens : List Token) (a : A) (entries : List Entry) (rest : List Token) → Gives (Branch front entry yes' no') tokens a entries rest → R tokens a rest
branch_by f n tokens a entries rest (is_yes {token = token} {others = others} {entries = es} h g) = (f token h).sound others a es rest g
branch_by f n tokens a entries rest (is_no none g) = n.sound tokens a entries rest g

pub sound_branch : {A : Type 0} {front : Front} {entry : Entry} {yes' : Token → Form A} {no' : Form A} {R : Holding A}
    → ((token : Token) → Fits front token → Sounds (yes' token) (λ others a rest. R (token ∷ others) a rest)) → Sounds no' R → Sounds (Branch front entry yes' no') R
sound_branch {R = R} f n = record { sound = branch_by {R = R} f n }

-- a token and what stands behind it
pub sound_token : {A : Type 0} {front : Front} {entry : Entry} {next : Token → Form A} {R : Holding A}
    → ((token : Token) → Fits front token → Sounds (next token) (λ others a rest. R (token ∷ others) a rest)) → Sounds (Branch front entry next Never) R
sound_token {R = R} f = sound_branch {R = R} f sound_never

-- a form and one behind it
then_by : {A B : Type 0} {form : Form A} {next : A → Form B} {P : Holding A} {R : Holding B} → Sounds form P
    → ((a : A) → Sounds (next a) (λ mid b rest. (tokens : List Token) → P tokens a mid → R tokens b rest))
    → (tokens : List Token) (b : B) (entries : List Entry) (rest : List Token) → Gives (Then form next) tokens b entries rest → R tokens b rest
then_by s f tokens b entries rest (is_then {mid = mid} {a = a} {entries = es} {others = others} g h) = (f a).sound mid b others rest h tokens (s.sound tokens a es mid g)

pub sound_then : {A B : Type 0} {form : Form A} {next : A → Form B} {P : Holding A} {R : Holding B} → Sounds form P
    → ((a : A) → Sounds (next a) (λ mid b rest. (tokens : List Token) → P tokens a mid → R tokens b rest)) → Sounds (Then form next) R
sound_then {P = P} {R = R} s f = record { sound = then_by {P = P} {R = R} s f }

-- a tree made of another
as_by : {A B : Type 0} {make : A → B} {form : Form A} (R : Holding B) → Sounds form (λ tokens a rest. R tokens (make a) rest)
    → (tokens : List Token) (b : B) (entries : List Entry) (rest : List Token) → Gives (As make form) tokens b entries rest → R tokens b rest
as_by R s tokens b entries rest (is_as {a = a} g) = s.sound tokens a entries rest g

pub sound_as : {A B : Type 0} {make : A → B} {form : Form A} {R : Holding B} → Sounds form (λ tokens a rest. R tokens (make a) rest) → Sounds (As make form) R
sound_as {R = R} s = record { sound = as_by R s }

module _ {A : Type 0} {P : Holding A} where
  -- forms with a comma between them
  listed_by : {Part : Giving A} → ((tokens : List Token) (a : A) (entries : List Entry) (rest : List Token) → Part tokens a entries rest → P tokens a rest)
      → (tokens : List Token) (as' : List A) (entries : List Entry) (rest : List Token) → ListedBy Part tokens as' entries rest → AreListed P tokens as' rest
  listed_by f tokens as' entries rest (is_last {a = a} {entries = es} g) = last_one (f tokens a es rest g)
  listed_by f tokens as' entries rest (is_more {comma = comma} {behind = behind} {a = a} {more = more} {entries = es} {others = others} g c l) =
      and_more (f tokens a es (comma ∷ behind) g) c (listed_by f behind more others rest l)

  pub sound_listed : {form : Form A} → Sounds form P → Sounds (Listed form) (AreListed P)
  sound_listed s = record { sound = listed_by s.sound }

  -- forms that each begin with a token of one kind
  many_by : {front : Front} {entry : Entry} {Part : Token → Giving A}
      → ((token : Token) → Fits front token → (tokens : List Token) (a : A) (entries : List Entry) (rest : List Token) → Part token tokens a entries rest → P (token ∷ tokens) a rest)
      → (tokens : List Token) (as' : List A) (entries : List Entry) (rest : List Token) → ManyBy front entry Part tokens as' entries rest → AreMany P tokens as' rest
  many_by f tokens as' entries rest (is_none none) = no_more
  many_by f tokens as' entries rest (is_one {token = token} {others = others} {behind = behind} {a = a} {more = more} {entries = es} {es = rests} h g m) =
      one_more (f token h others a es behind g) (many_by f behind more rests rest m)

  pub sound_many : {front : Front} {entry : Entry} {form : Token → Form A} → ((token : Token) → Fits front token → Sounds (form token) (λ others a rest. P (token ∷ others) a rest))
      → Sounds (Many front entry form) (AreMany P)
  sound_many f = record { sound = many_by (λ token h. (f token h).sound) }

  -- forms up to a token that passes a test
  until_by : {test : Symbol → Bool} {Part : Giving A} → ((tokens : List Token) (a : A) (entries : List Entry) (rest : List Token) → Part tokens a entries rest → P tokens a rest)
      → (tokens : List Token) (as' : List A) (entries : List Entry) (rest : List Token) → UntilBy test Part tokens as' entries rest → AreMany P tokens as' rest
  until_by f tokens as' entries rest (is_end h) = no_more
  until_by f tokens as' entries rest (is_on {behind = behind} {a = a} {more = more} {entries = es} {others = others} n g u) =
      one_more (f tokens a es behind g) (until_by f behind more others rest u)

  pub sound_until : {test : Symbol → Bool} {form : Form A} → Sounds form P → Sounds (Until test form) (AreMany P)
  sound_until s = record { sound = until_by s.sound }

-- types, expressions and statements
part_type : (around : Nesting) (tokens : List Token) (a : TypeTree) (entries : List Entry) (rest : List Token) → Gives (AType around) tokens a entries rest → IsType tokens a rest
part_type around tokens a entries rest (is_part t) = t

pub sound_type : {around : Nesting} → Sounds (AType around) IsType
sound_type {around = around} = record { sound = part_type around }

part_expr : (around : Nesting) (tokens : List Token) (a : ExprTree) (entries : List Entry) (rest : List Token) → Gives (AnExpr around) tokens a entries rest → IsExpr tokens a rest
part_expr around tokens a entries rest (is_part t) = t

pub sound_expr : {around : Nesting} → Sounds (AnExpr around) IsExpr
sound_expr {around = around} = record { sound = part_expr around }

part_stmts : (around : Nesting) (tokens : List Token) (a : StmtTrees) (entries : List Entry) (rest : List Token) → Gives (Stmts around) tokens a entries rest → AreStmts tokens a rest
part_stmts around tokens a entries rest (is_part t) = t

pub sound_stmts : {around : Nesting} → Sounds (Stmts around) AreStmts
sound_stmts {around = around} = record { sound = part_stmts around }

-- a mark stands behind a form
pub record Closed {A : Type 0} (text : String) (P : Holding A) (tokens : List Token) (a : A) (rest : List Token) : Type 0 where
  pub mark : Token
  pub is : Is text mark
  pub part : P tokens a (mark ∷ rest)

pub sound_closed : {A : Type 0} {text : String} {form : Form A} {P : Holding A} → Sounds form P → Sounds (closed text form) (Closed text P)
sound_closed s = sound_then s (λ a. sound_token (λ mark h. sound_made (λ mid tokens p. record { mark = mark; is = h; part = p })))

-- a mark or a keyword, if it is written
pub sound_maybe : {text : String} → Sounds (maybe text) (MayBe (IsWord text))
sound_maybe = sound_branch (λ token h. sound_made (λ tokens. with_one (of_word h))) (sound_made (λ tokens. without))
