-- The signs with which expressions and locals begin.
use Rattle.std.proofs.Common.{Bool, List, [], ◌∷◌}
use Rattle.std.specs.Prelude.{◌||◌, map}
use Prim.Native.String.{String}
use Rattle.def_token.specs.Lexical.{Token}
use Rattle.def_tree.specs.Operator.{UnaryOperator, Minus, Plus, Not, Complement, Step, Increment, Decrement}
use Rattle.def_tree.specs.StmtTree.{Binding, Let, Var}
use Rattle.def_tree.specs.Statements.{begins_with}
use Rattle.def_tree.specs.TypeTree.{TypeWord, scalar_words, word_text}

-- the operators with one operand
abbrev pub unary_operators : List UnaryOperator
unary_operators = Minus ∷ Plus ∷ Not ∷ Complement ∷ []

-- the signs with which a primary expression begins
pub data Lead : Type 0 where
  True : Lead
  False : Lead
  Itself : Lead
  OwnType : Lead
  Bracket : Lead
  Scalar : TypeWord → Lead

-- how a sign is written with which a primary expression begins
abbrev pub lead_text : Lead → String
lead_text True = "true"
lead_text False = "false"
lead_text Itself = "this"
lead_text OwnType = "This"
lead_text Bracket = "("
lead_text (Scalar word) = word_text word

-- these signs
abbrev pub leads : List Lead
leads = True ∷ False ∷ Itself ∷ OwnType ∷ Bracket ∷ map Scalar scalar_words

-- a token behind type arguments leads on
abbrev pub lead_on : List Token → Bool
lead_on tokens = begins_with "(" tokens || (begins_with "." tokens || begins_with "::" tokens)

-- the words of locals whose types need not be written
abbrev pub bindings : List Binding
bindings = Let ∷ Var ∷ []

-- the signs of steps by one
abbrev pub steps : List Step
steps = Increment ∷ Decrement ∷ []
