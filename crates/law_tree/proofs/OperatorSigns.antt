-- Operators have texts, and how the sign is told with which tokens begin.
use Rattle.std.proofs.Common.{◌≡◌, Bool, List, [], codes}
use Rattle.std.specs.Prelude.{if◌then◌else◌}
use Rattle.def_token.specs.Lexical.{Token}
use Rattle.def_tree.specs.Operator.{Operator, operator_text, Or, And, BitOr, BitXor, BitAnd, Equal, NotEqual, Less, LessEqual, Greater, GreaterEqual, ShiftLeft, ShiftRight, Add, Subtract, Multiply, Divide, Remainder, SignAt, sign_text, after_one}
use Rattle.def_tree.specs.Symbol.{symbol}

-- an operator has a text
pub written : (operator : Operator) → [] ≡ codes (operator_text operator) → ⊥
written Or h = cc
written And h = cc
written BitOr h = cc
written BitXor h = cc
written BitAnd h = cc
written Equal h = cc
written NotEqual h = cc
written Less h = cc
written LessEqual h = cc
written Greater h = cc
written GreaterEqual h = cc
written ShiftLeft h = cc
written ShiftRight h = cc
written Add h = cc
written Subtract h = cc
written Multiply h = cc
written Divide h = cc
written Remainder h = cc

abbrev pub sign_by : Bool → Token → List Token → SignAt
sign_by b first tokens = if b then after_one first tokens else (sign_text (symbol first), tokens)
