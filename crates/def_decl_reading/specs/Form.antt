-- Forms: what stands behind what in tokens, the tree that it is, and how it is read.
--
-- A form goes on by the next token alone, so that what is read never has to be read again in
-- another way. What it begins with is taken before a choice is made.
use Rattle.std.specs.Prelude.{ℕ, zero, suc, Bool, true, false, not, List, [], ◌∷◌, length, Option, Some, None}
use Prim.Native.String.{String}
use Rattle.def_token.specs.Lexical.{Token}
use Rattle.def_tree.specs.ExprTree.{ExprTree}
use Rattle.def_tree.specs.Limits.{Nesting, Entry, plain, opens}
use Rattle.def_tree.specs.StmtTree.{StmtTrees}
use Rattle.def_tree.specs.Symbol.{Symbol, Name, Number, Text, End, Sign, symbol, is_sign}
use Rattle.def_tree.specs.TypeTree.{TypeTree}
use Rattle.def_reading.specs.StmtReading.{stmts_in, stmt_in}
use Rattle.def_reading.specs.Try.{Reads, Reader, try_then, try_as, refused, choice, listed, ahead, expr_in, type_in}
use Rattle.def_reading.specs.TypeAhead.{names}

-- what a token is to be: a name, a number, a number of a type of 32 bits, a string, or a sign
pub data Front : Type 0 where
  AName : Front
  ANumber : Front
  ANarrow : Front
  AText : Front
  ASign : String → Front

-- the symbol is a number
abbrev pub numbers : Symbol → Bool
numbers Name = false
numbers (Number wide) = true
numbers Text = false
numbers End = false
numbers (Sign text) = false

-- the symbol is a number of a type of 32 bits
abbrev pub narrows : Symbol → Bool
narrows Name = false
narrows (Number wide) = not wide
narrows Text = false
narrows End = false
narrows (Sign text) = false

-- the symbol is a string
abbrev pub texts : Symbol → Bool
texts Name = false
texts (Number wide) = false
texts Text = true
texts End = false
texts (Sign text) = false

-- the symbol is the end
abbrev pub ends : Symbol → Bool
ends Name = false
ends (Number wide) = false
ends Text = false
ends End = true
ends (Sign text) = false

-- the symbol is what a token is to be
abbrev pub is_front : Front → Symbol → Bool
is_front AName = names
is_front ANumber = numbers
is_front ANarrow = narrows
is_front AText = texts
is_front (ASign sign) = is_sign sign

-- A form by what it consists of, with its tree: nothing, with a tree that is known; nothing that
-- there could be; a token that opens what its entry says, and what stands behind it, or else,
-- without such a token, another form; a form and one behind it that hangs on its tree; and a form
-- of whose tree another is made; forms with a comma between them; forms that each begin with a
-- token of one kind, as many as there are; and forms up to a token that passes a test, which is no
-- part of them; a type, an expression, and statements with the brace behind them, inside what is
-- open.
pub data Form : Type 0 → Type 1 where
  Made : {A : Type 0} → A → Form A
  Never : {A : Type 0} → Form A
  Branch : {A : Type 0} → Front → Entry → (Token → Form A) → Form A → Form A
  Then : {A B : Type 0} → Form A → (A → Form B) → Form B
  As : {A B : Type 0} → (A → B) → Form A → Form B
  Listed : {A : Type 0} → Form A → Form (List A)
  Many : {A : Type 0} → Front → Entry → (Token → Form A) → Form (List A)
  Until : {A : Type 0} → (Symbol → Bool) → Form A → Form (List A)
  AType : Nesting → Form TypeTree
  AnExpr : Nesting → Form ExprTree
  Stmts : Nesting → Form StmtTrees

-- a token, and what stands behind it
abbrev pub token : {A : Type 0} → Front → Entry → (Token → Form A) → Form A
token front entry next = Branch front entry next Never

-- a name, and what stands behind it
abbrev pub name : {A : Type 0} → (Token → Form A) → Form A
name next = token AName plain next

-- a number, and what stands behind it
abbrev pub number : {A : Type 0} → (Token → Form A) → Form A
number next = token ANumber plain next

-- a number of a type of 32 bits, and what stands behind it
abbrev pub narrow : {A : Type 0} → (Token → Form A) → Form A
narrow next = token ANarrow plain next

-- a mark or a keyword, and what stands behind it
abbrev pub sign : {A : Type 0} → String → (Token → Form A) → Form A
sign text next = token (ASign text) plain next

-- a mark that opens something, of which so many are open then, and what stands behind it
abbrev pub opening : {A : Type 0} → String → ℕ → (Token → Form A) → Form A
opening text open' next = token (ASign text) (opens open') next

-- what stands behind a mark or a keyword, or another form without it
abbrev pub when : {A : Type 0} → String → (Token → Form A) → Form A → Form A
when text next other = Branch (ASign text) plain next other

-- a mark or a keyword, if it is written
abbrev pub maybe : String → Form (Option Token)
maybe text = when text (λ token. Made (Some token)) (Made None)

-- a form with a mark behind it
abbrev pub closed : {A : Type 0} → String → Form A → Form A
closed text form = Then form (λ a. sign text (λ mark. Made a))

-- the first token passes a test
abbrev pub begins : (Symbol → Bool) → List Token → Bool
begins test [] = false
begins test (token ∷ tokens) = test (symbol token)

-- a form before others
abbrev pub with_first : {A : Type 0} → A → List A → List A
with_first first more = first ∷ more

-- forms, each behind a token that passes a test, in at most so many turns
abbrev pub many_in : {A : Type 0} → (Symbol → Bool) → Entry → (Token → Reader A) → ℕ
    → Reader (List A)
many_in test entry form zero reach place = refused reach place
many_in test entry form (suc turns) reach place =
    choice test entry
    (λ token reach place.
    try_then (λ first reach place.
    try_as (with_first first) (many_in test entry form turns reach place))
    (form token reach place))
    (λ reach place. Reads [] place reach)
    reach place

-- nothing more, or what is read
abbrev pub unless_by : {A : Type 0} → Bool → Reader (List A) → Reader (List A)
unless_by true more reach place = Reads [] place reach
unless_by false more reach place = more reach place

-- forms up to a token that passes a test, in at most so many turns
abbrev pub until_in : {A : Type 0} → (Symbol → Bool) → Reader A → ℕ → Reader (List A)
until_in test form zero reach place = refused reach place
until_in test form (suc turns) reach place =
    unless_by (begins test (ahead place))
    (λ reach place.
    try_then (λ first reach place. try_as (with_first first) (until_in test form turns reach place))
    (form reach place))
    reach place

-- how a form is read
abbrev pub reads : {A : Type 0} → Form A → Reader A
reads (Made a) reach place = Reads a place reach
reads Never reach place = refused reach place
reads (Branch front entry yes' no') reach place =
    choice (is_front front) entry (λ token. reads (yes' token)) (reads no') reach place
reads (Then form next) reach place = try_then (λ a. reads (next a)) (reads form reach place)
reads (As make form) reach place = try_as make (reads form reach place)
reads (Listed form) reach place =
    listed with_first [] (reads form) (suc (length (ahead place))) reach place
reads (Many front entry form) reach place =
    many_in (is_front front) entry (λ token. reads (form token))
    (suc (length (ahead place))) reach place
reads (Until test form) reach place =
    until_in test (reads form) (suc (length (ahead place))) reach place
reads (AType around) reach place = type_in around reach place
reads (AnExpr around) reach place = expr_in false around reach place
reads (Stmts around) reach place =
    let turns = suc (length (ahead place)) in stmts_in (stmt_in turns around) turns reach place
