-- The operators of expressions, and the marks that `>` makes with what touches it.
use Rattle.std.specs.Prelude.{ℕ, Bool, ◌&&◌, ◌==◌, List, [], ◌∷◌, if◌then◌else◌, codes}
use Prim.Native.String.{String}
use Rattle.def_token.specs.Lexical.{Token}
use Rattle.def_tree.specs.Symbol.{Symbol, Name, Number, Text, End, Sign, symbol, is_sign, touches}

-- the operators with two operands
pub data Operator : Type 0 where
  Or : Operator
  And : Operator
  BitOr : Operator
  BitXor : Operator
  BitAnd : Operator
  Equal : Operator
  NotEqual : Operator
  Less : Operator
  LessEqual : Operator
  Greater : Operator
  GreaterEqual : Operator
  ShiftLeft : Operator
  ShiftRight : Operator
  Add : Operator
  Subtract : Operator
  Multiply : Operator
  Divide : Operator
  Remainder : Operator

-- all of them
abbrev pub operators : List Operator
operators =
    Or ∷ And ∷ BitOr ∷ BitXor ∷ BitAnd ∷ Equal ∷ NotEqual ∷ Less ∷ LessEqual ∷ Greater
    ∷ GreaterEqual
    ∷ ShiftLeft ∷ ShiftRight ∷ Add ∷ Subtract ∷ Multiply ∷ Divide ∷ Remainder ∷ []

-- how an operator is written
abbrev pub operator_text : Operator → String
operator_text Or = "||"
operator_text And = "&&"
operator_text BitOr = "|"
operator_text BitXor = "^"
operator_text BitAnd = "&"
operator_text Equal = "=="
operator_text NotEqual = "!="
operator_text Less = "<"
operator_text LessEqual = "<="
operator_text Greater = ">"
operator_text GreaterEqual = ">="
operator_text ShiftLeft = "<<"
operator_text ShiftRight = ">>"
operator_text Add = "+"
operator_text Subtract = "-"
operator_text Multiply = "*"
operator_text Divide = "/"
operator_text Remainder = "%"

-- The level of an operator, from the weakest. Levels are numbered from 1.
abbrev pub level : Operator → ℕ
level Or = 1
level And = 2
level BitOr = 3
level BitXor = 4
level BitAnd = 5
level Equal = 6
level NotEqual = 6
level Less = 7
level LessEqual = 7
level Greater = 7
level GreaterEqual = 7
level ShiftLeft = 8
level ShiftRight = 8
level Add = 9
level Subtract = 9
level Multiply = 10
level Divide = 10
level Remainder = 10

-- the operators with one operand
pub data UnaryOperator : Type 0 where
  Minus : UnaryOperator
  Plus : UnaryOperator
  Not : UnaryOperator
  Complement : UnaryOperator

-- how an operator with one operand is written
abbrev pub unary_text : UnaryOperator → String
unary_text Minus = "-"
unary_text Plus = "+"
unary_text Not = "!"
unary_text Complement = "~"

-- what assignments write: the value, or the place's value and it under an operator
pub data Assignment : Type 0 where
  Set : Assignment
  AddTo : Assignment
  SubtractFrom : Assignment
  MultiplyBy : Assignment
  DivideBy : Assignment
  RemainderBy : Assignment
  BitAndWith : Assignment
  BitOrWith : Assignment
  BitXorWith : Assignment
  ShiftLeftBy : Assignment
  ShiftRightBy : Assignment

-- how an assignment is written
abbrev pub assignment_text : Assignment → String
assignment_text Set = "="
assignment_text AddTo = "+="
assignment_text SubtractFrom = "-="
assignment_text MultiplyBy = "*="
assignment_text DivideBy = "/="
assignment_text RemainderBy = "%="
assignment_text BitAndWith = "&="
assignment_text BitOrWith = "|="
assignment_text BitXorWith = "^="
assignment_text ShiftLeftBy = "<<="
assignment_text ShiftRightBy = ">>="

-- steps by one
pub data Step : Type 0 where
  Increment : Step
  Decrement : Step

-- how a step is written
abbrev pub step_text : Step → String
step_text Increment = "++"
step_text Decrement = "--"

-- a sign and the tokens behind it
abbrev pub SignAt : Type 0
SignAt = List ℕ × List Token

-- the text of a sign that does not begin with `>`; `>` is the one token that does
abbrev pub sign_text : Symbol → List ℕ
sign_text Name = []
sign_text (Number wide) = []
sign_text Text = []
sign_text End = []
sign_text (Sign []) = []
sign_text (Sign (b ∷ text)) = if b == 62 then [] else b ∷ text

-- a token is this sign and touches the one before it
abbrev pub joins : Token → String → Token → Bool
joins before sign token = touches before token && is_sign sign (symbol token)

-- what `>>` is with the tokens behind it
abbrev pub after_two : Token → List Token → SignAt
after_two second [] = (codes ">>", [])
after_two second (third ∷ tokens) =
    if joins second "=" third then (codes ">>=", tokens) else (codes ">>", third ∷ tokens)

-- what `>` is with the tokens behind it
abbrev pub after_one : Token → List Token → SignAt
after_one first [] = (codes ">", [])
after_one first (second ∷ tokens) =
    if joins first ">" second then after_two second tokens
    else (if joins first "=" second then (codes ">=", tokens) else (codes ">", second ∷ tokens))

-- The sign with which tokens begin, as expressions read it: `>>`, `>=` and `>>=` are `>` with
-- tokens that touch. Since `==` is one token, none of it joins a `>` before it.
abbrev pub sign_at : List Token → SignAt
sign_at [] = ([], [])
sign_at (first ∷ tokens) =
    if is_sign ">" (symbol first) then after_one first tokens
    else (sign_text (symbol first), tokens)
