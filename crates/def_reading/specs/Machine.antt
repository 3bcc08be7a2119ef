-- How expressions are read: a machine that goes from token to token, and keeps what is open in
-- frames.
use Rattle.std.specs.Prelude.{ℕ, suc, Bool, true, false, nat_le, List, [], ◌∷◌, ◌++◌, map, replicate, Option, Some, None, codes}
use Rattle.std.specs.Str.{bytes_eq}
use Prim.Native.String.{String}
use Rattle.def_token.specs.Lexical.{Token}
use Rattle.def_tree.specs.ExprTree as tree
use Rattle.def_tree.specs.ExprTree.{ExprTree, ExprTrees, NoExprs, MoreExprs}
use Rattle.def_tree.specs.Limits.{Nesting, Entry, plain, opens, in_bracket, in_unary, operator_tokens}
use Rattle.def_tree.specs.Operator.{Operator, operators, operator_text, level, Greater, ShiftRight, UnaryOperator, Minus, Plus, Not, Complement, unary_text, sign_at}
use Rattle.def_tree.specs.Statements.{begins_with}
use Rattle.def_tree.specs.Symbol.{Symbol, Name, Number, Text, End, Sign, symbol, is_sign}
use Rattle.def_tree.specs.TypeTree.{TypeWord, scalar_words, word_text, NoTypes, TypeTrees}
use Rattle.def_reading.specs.Cursor.{Told, Cursor, At, advance, passed, FarthestFailure, reach_at}
use Rattle.def_reading.specs.TypeAhead.{LookAhead, Found, Missing, names, taken_ahead}

-- What is open: an operator before its operand, a cast, a left operand with its operator, a
-- condition with its `?`, a condition and its first arm with the `:`, and brackets: of a group, a
-- conversion, a call with the arguments before the open one, an index.
pub data Frame : Type 0 where
  Prefix : UnaryOperator → Token → Frame
  Casting : Token → TypeWord → Token → Frame
  Left : ExprTree → Operator → Token → Frame
  Asked : ExprTree → Token → Frame
  Chosen : ExprTree → Token → ExprTree → Frame
  InGroup : Token → Frame
  InFunctionalCast : TypeWord → Token → Frame
  InCall : ExprTree → Token → List ExprTree → Frame
  InIndex : ExprTree → Token → Frame

-- What stands before the next token: nothing that is an operand yet, an operand, an operand and a
-- dot, or the word of a conversion or a cast.
pub data Mode : Type 0 where
  Expected : Mode
  Value : ExprTree → Mode
  Dotted : ExprTree → Mode
  Converting : TypeWord → Token → Mode

-- frames from the innermost, a mode, and a place
pub record Config : Type 0 where
  pub frames : List Frame
  pub mode : Mode
  pub place : Cursor

-- a step leads on, with how far another way goes if there is one; or the expression ends; or no
-- token goes on
pub data Step : Type 0 where
  On : Option FarthestFailure → Config → Step
  Ends : ExprTree → Cursor → Step
  Refused : Cursor → Step

-- how many forms are open inside frames
abbrev pub nesting : Nesting → List Frame → Nesting
nesting around [] = around
nesting around (Prefix operator token ∷ frames) = in_unary (nesting around frames)
nesting around (Casting opening word token ∷ frames) = nesting around frames
nesting around (Left left operator token ∷ frames) = nesting around frames
nesting around (Asked condition question ∷ frames) = nesting around frames
nesting around (Chosen condition question yes' ∷ frames) = nesting around frames
nesting around (InGroup opening ∷ frames) = in_bracket (nesting around frames)
nesting around (InFunctionalCast word token ∷ frames) = in_bracket (nesting around frames)
nesting around (InCall callee opening args ∷ frames) = in_bracket (nesting around frames)
nesting around (InIndex base opening ∷ frames) = in_bracket (nesting around frames)

-- what ends at a token that opens a bracket, or an operator before its operand, inside frames
abbrev pub bracket_opens : Nesting → List Frame → Entry
bracket_opens around frames = opens (suc (nesting around frames).brackets)

-- what ends at a token that opens an operator before its operand, inside frames
abbrev pub unary_opens : Nesting → List Frame → Entry
unary_opens around frames = opens (suc (nesting around frames).unary)

-- a value and the frames around it
abbrev pub Held : Type 0
Held = ExprTree × List Frame

-- the one of two values with the frames around them that a test takes
abbrev pub held_by : Bool → Held → Held → Held
held_by true closed open' = closed
held_by false closed open' = open'

-- A value with the forms around it that are complete before an operator of this level: operators
-- before it, casts, and left operands of operators of this level or a tighter one.
abbrev pub bound : ℕ → ExprTree → List Frame → Held
bound least value [] = (value, [])
bound least value (Prefix operator token ∷ frames) =
    bound least (tree.Unary operator token value) frames
bound least value (Casting opening word token ∷ frames) =
    bound least (tree.Cast opening word token value) frames
bound least value (Left left operator token ∷ frames) =
    held_by (nat_le least (level operator))
    (bound least (tree.Binary operator token left value) frames)
    (value, Left left operator token ∷ frames)
bound least value (Asked condition question ∷ frames) = (value, Asked condition question ∷ frames)
bound least value (Chosen condition question yes' ∷ frames) =
    (value, Chosen condition question yes' ∷ frames)
bound least value (InGroup opening ∷ frames) = (value, InGroup opening ∷ frames)
bound least value (InFunctionalCast word token ∷ frames) =
    (value, InFunctionalCast word token ∷ frames)
bound least value (InCall callee opening args ∷ frames) =
    (value, InCall callee opening args ∷ frames)
bound least value (InIndex base opening ∷ frames) = (value, InIndex base opening ∷ frames)

-- the whole expression that ends with a value, and the frames around it: an open `?`, brackets, or
-- none
abbrev pub whole : ExprTree → List Frame → Held
whole value [] = (value, [])
whole value (Prefix operator token ∷ frames) = whole (tree.Unary operator token value) frames
whole value (Casting opening word token ∷ frames) =
    whole (tree.Cast opening word token value) frames
whole value (Left left operator token ∷ frames) =
    whole (tree.Binary operator token left value) frames
whole value (Asked condition question ∷ frames) = (value, Asked condition question ∷ frames)
whole value (Chosen condition question yes' ∷ frames) =
    whole (tree.Conditional condition question yes' value) frames
whole value (InGroup opening ∷ frames) = (value, InGroup opening ∷ frames)
whole value (InFunctionalCast word token ∷ frames) = (value, InFunctionalCast word token ∷ frames)
whole value (InCall callee opening args ∷ frames) = (value, InCall callee opening args ∷ frames)
whole value (InIndex base opening ∷ frames) = (value, InIndex base opening ∷ frames)

-- the one of a table that is written so, if one is
abbrev pub written_by : {A : Type 0} → Bool → A → Option A → Option A
written_by true a others = Some a
written_by false a others = others

-- the first of a table that is written so
abbrev pub written : {A : Type 0} → (A → String) → List A → List ℕ → Option A
written text_of [] text = None
written text_of (a ∷ others) text =
    written_by (bytes_eq text (codes (text_of a))) a (written text_of others text)

-- the signs with which operands begin
pub data Start : Type 0 where
  True : Start
  False : Start
  Itself : Start
  OwnType : Start
  Bracket : Start
  Scalar : TypeWord → Start
  Unary : UnaryOperator → Start

-- how a sign is written with which an operand begins
abbrev pub start_text : Start → String
start_text True = "true"
start_text False = "false"
start_text Itself = "this"
start_text OwnType = "This"
start_text Bracket = "("
start_text (Scalar word) = word_text word
start_text (Unary operator) = unary_text operator

-- these signs
abbrev pub starts : List Start
starts =
    True ∷ False ∷ Itself ∷ OwnType ∷ Bracket ∷ Unary Minus ∷ Unary Plus ∷ Unary Not
    ∷ Unary Complement
    ∷ map Scalar scalar_words

-- the signs behind operands that are no operators with two operands
pub data Behind : Type 0 where
  Call : Behind
  Index : Behind
  Dot : Behind
  Colons : Behind
  Question : Behind
  Colon : Behind
  Comma : Behind
  Closing : Behind
  IndexClosing : Behind

-- how a sign behind an operand is written
abbrev pub behind_text : Behind → String
behind_text Call = "("
behind_text Index = "["
behind_text Dot = "."
behind_text Colons = "::"
behind_text Question = "?"
behind_text Colon = ":"
behind_text Comma = ","
behind_text Closing = ")"
behind_text IndexClosing = "]"

-- these signs
abbrev pub behinds : List Behind
behinds = Call ∷ Index ∷ Dot ∷ Colons ∷ Question ∷ Colon ∷ Comma ∷ Closing ∷ IndexClosing ∷ []

-- the sign of a table that a symbol is
abbrev pub sign_of : {A : Type 0} → (A → String) → List A → Symbol → Option A
sign_of text_of table Name = None
sign_of text_of table (Number wide) = None
sign_of text_of table Text = None
sign_of text_of table End = None
sign_of text_of table (Sign text) = written text_of table text

-- arguments of a call as a tree has them
abbrev pub exprs_of : List ExprTree → ExprTrees
exprs_of [] = NoExprs
exprs_of (expr ∷ exprs) = MoreExprs expr (exprs_of exprs)

-- an operand stands inside frames
abbrev pub stands : List Frame → ExprTree → Cursor → Step
stands frames value place = On None (record { frames = frames; mode = Value value; place = place })

-- an operand is expected inside frames
abbrev pub expects : List Frame → Cursor → Step
expects frames place = On None (record { frames = frames; mode = Expected; place = place })

-- `)` where an operand may stand: it closes a call without arguments
abbrev pub empty_by : Bool → List Frame → Cursor → Step
empty_by true (InCall callee opening [] ∷ frames) place =
    stands frames (tree.Call callee opening NoExprs) (advance plain place)
empty_by _ frames place = Refused place

-- `)` behind the word of a cast: it closes a group that begins with the word
abbrev pub cast_by : Bool → TypeWord → Token → List Frame → Cursor → Step
cast_by true word token (InGroup opening ∷ frames) place =
    expects (Casting opening word token ∷ frames) (advance plain place)
cast_by _ word token frames place = Refused place

-- the name behind a dot
abbrev pub member_by : Bool → ExprTree → Token → List Frame → Cursor → Step
member_by true base name frames place = stands frames (tree.Member base name) (advance plain place)
member_by false base name frames place = Refused place

-- Where an expression ends before tokens that do not go on with it. In brackets and behind `?` it
-- does not end there; there `>>=` is `>>`, and the `=` does not go on.
abbrev pub refused_by : Bool → Cursor → Step
refused_by true place = Refused (passed (plain ∷ plain ∷ []) place)
refused_by false place = Refused place

-- where a whole expression stands before tokens that nothing around it wants
abbrev pub ends_by : Held → List Token → Cursor → Step
ends_by (value, []) tokens place = Ends value place
ends_by (value, frame ∷ frames) tokens place =
    refused_by (bytes_eq (sign_at tokens).0 (codes ">>=")) place

-- signs behind a whole expression, by what is open around it; where nothing wants them the
-- expression ends
abbrev pub colon_by : Held → List Token → Cursor → Step
colon_by (value, Asked condition question ∷ frames) tokens place =
    expects (Chosen condition question value ∷ frames) (advance plain place)
colon_by held tokens place = ends_by held tokens place

-- a comma goes on in the arguments of a call
abbrev pub comma_by : Held → List Token → Cursor → Step
comma_by (value, InCall callee opening args ∷ frames) tokens place =
    expects (InCall callee opening (args ++ value ∷ []) ∷ frames) (advance plain place)
comma_by held tokens place = ends_by held tokens place

-- a closing bracket ends a group, a conversion or a call
abbrev pub closing_by : Held → List Token → Cursor → Step
closing_by (value, InGroup opening ∷ frames) tokens place =
    stands frames (tree.Group opening value) (advance plain place)
closing_by (value, InFunctionalCast word token ∷ frames) tokens place =
    stands frames (tree.FunctionalCast word token value) (advance plain place)
closing_by (value, InCall callee opening args ∷ frames) tokens place =
    stands frames (tree.Call callee opening (exprs_of (args ++ value ∷ []))) (advance plain place)
closing_by held tokens place = ends_by held tokens place

-- a closing square bracket ends an index
abbrev pub index_by : Held → List Token → Cursor → Step
index_by (value, InIndex base opening ∷ frames) tokens place =
    stands frames (tree.Index base opening value) (advance plain place)
index_by held tokens place = ends_by held tokens place

-- a question mark makes a condition of what stands before it
abbrev pub asked_by : Held → Token → Cursor → Step
asked_by held question place = expects (Asked held.0 question ∷ held.1) (advance plain place)

-- an operator with its left operand
abbrev pub operator_on : Operator → Held → Option FarthestFailure → Token → Cursor → Step
operator_on operator held other token place =
    On other (record {
      frames = Left held.0 operator token ∷ held.1;
      mode = Expected;
      place = place;
    })

-- `>` and `>>` go another way too: a whole expression may end before `>>=`.
abbrev pub may_assign : Operator → Held → Bool
may_assign Greater (value, []) = true
may_assign ShiftRight (value, []) = true
may_assign _ _ = false

module _ (around : Nesting) (long : Option Told) where
  -- a name with the type arguments that it takes, or without; then the way with them is another one
  abbrev pub name_by : LookAhead TypeTrees → List Frame → Token → Cursor → Step
  name_by (Found args place) frames name behind = stands frames (tree.Name name args) place
  name_by (Missing (At at limit tokens)) frames name behind =
      On (reach_at long at (At at limit tokens))
      (record { frames = frames; mode = Value (tree.Name name NoTypes); place = behind })

  abbrev pub name_if : Bool → List Frame → Token → ℕ → Option Told → List Token → Step
  name_if true frames name at limit tokens =
      name_by (taken_ahead (nesting around frames).types at limit tokens) frames name
      (At at limit tokens)
  name_if false frames name at limit tokens =
      stands frames (tree.Name name NoTypes) (At at limit tokens)

  -- an operand that begins with a sign
  abbrev pub start_by : Option Start → List Frame → Token → Cursor → Step
  start_by None frames token place = empty_by (is_sign ")" (symbol token)) frames place
  start_by (Some True) frames token place =
      stands frames (tree.BooleanLiteral true token) (advance plain place)
  start_by (Some False) frames token place =
      stands frames (tree.BooleanLiteral false token) (advance plain place)
  start_by (Some Itself) frames token place =
      stands frames (tree.Itself token) (advance plain place)
  start_by (Some OwnType) frames token place =
      stands frames (tree.OwnType token) (advance plain place)
  start_by (Some Bracket) frames token place =
      expects (InGroup token ∷ frames) (advance (bracket_opens around frames) place)
  start_by (Some (Scalar word)) frames token place =
      On None (record {
        frames = frames;
        mode = Converting word token;
        place = advance plain place;
      })
  start_by (Some (Unary operator)) frames token place =
      expects (Prefix operator token ∷ frames) (advance (unary_opens around frames) place)

  -- a token where an operand is expected
  abbrev pub operand_by : Symbol → List Frame → ℕ → Option Told → Token → List Token → Step
  operand_by Name frames at limit token tokens =
      name_if (begins_with "<" tokens) frames token (suc at) limit tokens
  operand_by (Number wide) frames at limit token tokens =
      stands frames (tree.Number token) (At (suc at) limit tokens)
  operand_by Text frames at limit token tokens = Refused (At at limit (token ∷ tokens))
  operand_by End frames at limit token tokens = Refused (At at limit (token ∷ tokens))
  operand_by (Sign text) frames at limit token tokens =
      start_by (written start_text starts text) frames token (At at limit (token ∷ tokens))

  -- a bracket behind the word of a conversion or a cast
  abbrev pub conversion_by : Bool → Bool → TypeWord → Token → List Frame → Cursor → Step
  conversion_by true closes word token frames place =
      expects (InFunctionalCast word token ∷ frames) (advance (bracket_opens around frames) place)
  conversion_by false closes word token frames place = cast_by closes word token frames place

  -- how far the way goes that ends before `>>=`, by a tree of so many tokens
  abbrev pub assign_by : Bool → ℕ → Cursor → Option FarthestFailure
  assign_by true least place = reach_at long least place
  assign_by false least place = None

  abbrev pub operator_by : Option Operator → ExprTree → List Frame → ℕ → Token → List Token → Cursor
      → Step
  operator_by None value frames at token tokens place =
      ends_by (whole value frames) (token ∷ tokens) place
  operator_by (Some operator) value frames at token tokens place =
      let behind = passed (replicate (operator_tokens operator) plain) place in
      operator_on operator (bound (level operator) value frames)
      (assign_by (may_assign operator (whole value frames)) at behind) token behind

  -- a token behind an operand
  abbrev pub behind_by : Option Behind → ExprTree → List Frame → ℕ → Token → List Token → Cursor
      → Step
  behind_by None value frames at token tokens place =
      operator_by (written operator_text operators (sign_at (token ∷ tokens)).0) value frames at
      token tokens place
  behind_by (Some Call) value frames at token tokens place =
      expects (InCall value token [] ∷ frames) (advance (bracket_opens around frames) place)
  behind_by (Some Index) value frames at token tokens place =
      expects (InIndex value token ∷ frames) (advance (bracket_opens around frames) place)
  behind_by (Some Dot) value frames at token tokens place =
      On None (record { frames = frames; mode = Dotted value; place = advance plain place })
  behind_by (Some Colons) value frames at token tokens place =
      On None (record { frames = frames; mode = Dotted value; place = advance plain place })
  behind_by (Some Question) value frames at token tokens place =
      asked_by (bound 1 value frames) token place
  behind_by (Some Colon) value frames at token tokens place =
      colon_by (whole value frames) (token ∷ tokens) place
  behind_by (Some Comma) value frames at token tokens place =
      comma_by (whole value frames) (token ∷ tokens) place
  behind_by (Some Closing) value frames at token tokens place =
      closing_by (whole value frames) (token ∷ tokens) place
  behind_by (Some IndexClosing) value frames at token tokens place =
      index_by (whole value frames) (token ∷ tokens) place

  -- a step at the first of these tokens
  abbrev pub step_by : Mode → List Frame → ℕ → Option Told → Token → List Token → Step
  step_by Expected frames at limit token tokens =
      operand_by (symbol token) frames at limit token tokens
  step_by (Value value) frames at limit token tokens =
      behind_by (sign_of behind_text behinds (symbol token)) value frames at token tokens
      (At at limit (token ∷ tokens))
  step_by (Dotted base) frames at limit token tokens =
      member_by (names (symbol token)) base token frames (At at limit (token ∷ tokens))
  step_by (Converting word first) frames at limit token tokens =
      conversion_by (is_sign "(" (symbol token)) (is_sign ")" (symbol token)) word first frames
      (At at limit (token ∷ tokens))

  -- Tokens end with their end, so that there is one; without one a whole expression ends.
  abbrev pub step_at : Mode → List Frame → Cursor → Step
  step_at (Value value) frames (At at limit []) = ends_by (whole value frames) [] (At at limit [])
  step_at mode frames (At at limit []) = Refused (At at limit [])
  step_at mode frames (At at limit (token ∷ tokens)) = step_by mode frames at limit token tokens

  abbrev pub step : Config → Step
  step config = step_at config.mode config.frames config.place
