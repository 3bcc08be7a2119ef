-- What is told of tokens without a tree within the limits. A language is a relation of tokens, the
-- tree that they begin with, and a rest; a tree has entries, which tell limits.
use Rattle.std.specs.Prelude.{◌≡◌, ℕ, zero, suc, ◌<◌, ◌≤◌, List, [], ◌∷◌, ◌++◌, length, take, slice_get, Some, None, is_none, IsTrue, if◌then◌else◌, ◌==◌, codes}
use Rattle.std.specs.List.{list_all}
use Rattle.def_token.specs.Lexical as lexical
use Rattle.def_token.specs.Lexical.{Fault, Kind, Token}
use Rattle.def_tree.specs.Limits.{Limit, Deep, Long, Entry}

-- a number of a token, counted from 0, and the code of what is told there
pub record Spot : Type 0 where
  pub at : ℕ
  pub code : ℕ

-- one spot stands before another, or is the same; at one token E112 stands before E111, which is
-- told of the two
pub data IsUpTo (this other : Spot) : Type 0 where
  at_an_earlier : this.at < other.at → IsUpTo this other
  at_the_same : this.at ≡ other.at → other.code ≤ this.code → IsUpTo this other

-- the code of a limit
abbrev pub code_of : Limit → ℕ
code_of Deep = 111
code_of Long = 112

-- the first limit that ends at one of so many tokens, of which the first has this number; else E110
-- behind them
abbrev pub first_spot : ℕ → ℕ → List Entry → Spot
first_spot from zero entries = record { at = from; code = 110 }
first_spot from (suc many) [] = first_spot (suc from) many []
first_spot from (suc many) (None ∷ entries) = first_spot (suc from) many entries
first_spot from (suc many) (Some limit ∷ entries) = record { at = from; code = code_of limit }

-- where a tree is refused that has the first so many tokens, and not the one behind them
abbrev pub spot_of : ℕ → List Entry → Spot
spot_of many entries = first_spot 0 many entries

-- how a token is named where it is refused
abbrev pub named_by : Kind → List ℕ → List ℕ
named_by lexical.End text = codes "end of file"
named_by _ text = text

-- the arguments of what is told at a token: of E110 the token, of others none
abbrev pub args_at : ℕ → Token → List (List ℕ)
args_at code token = if code == 110 then named_by token.kind token.text ∷ [] else []

-- what is told by a code at a token
abbrev pub fault_at : ℕ → Token → Fault
fault_at code token = record { place = token.place; code = code; args = args_at code token }

module _ {Tree : Type 0} (IsPart : List Token → Tree → List Token → Type 0) where
  -- some tokens that begin with these begin with the tree
  pub record Continues (front : List Token) (tree : Tree) : Type 0 where
    pub more : List Token
    pub rest : List Token
    pub part : IsPart (front ++ more) tree rest

  -- tokens begin with one tree at most, and with this tree they have one rest
  abbrev pub AtMostOne : Type 0
  AtMostOne =
      (tokens rest behind : List Token) (this other : Tree)
      → IsPart tokens this rest → IsPart tokens other behind → (this ≡ other) × (rest ≡ behind)

  -- So many of the tokens are continued by a tree, and no more of them by any.
  pub record IsFurthest (tokens : List Token) (many : ℕ) : Type 0 where
    pub within : many ≤ length tokens
    pub tree : Tree
    pub reached : Continues (take many tokens) tree
    pub furthest : (more : ℕ) → many < more → more ≤ length tokens
        → (other : Tree) → Continues (take more tokens) other → ⊥

module _ {Tree : Type 0} (IsPart : List Token → Tree → List Token → Type 0)
    (entries_of : Tree → List Entry) where
  -- Each tree that continues so many of the tokens is refused at its own spot: at the first limit
  -- that ends on the way, and else at the token behind them. The last of these spots is the one, if
  -- it stays so: as long as any tree continues more tokens, one of them is refused there. So of all
  -- trees that continue the tokens as far as any does none is refused later.
  pub record IsRefused (tokens : List Token) (spot : Spot) : Type 0 where
    pub many : ℕ
    pub within : many ≤ length tokens
    pub tree : Tree
    pub reached : Continues IsPart (take many tokens) tree
    pub refused : spot_of many (entries_of tree) ≡ spot
    pub last : (other : Tree) → Continues IsPart (take many tokens) other
        → IsUpTo (spot_of many (entries_of other)) spot
    pub stays : (more : ℕ) → many < more → more ≤ length tokens
        → (other : Tree) → Continues IsPart (take more tokens) other
        → (this : Tree) × Continues IsPart (take more tokens) this
        × (spot_of more (entries_of this) ≡ spot)
    pub inside : spot.at < length tokens

  -- the tokens begin with the tree, which is within the limits
  pub record IsRead (tokens : List Token) (tree : Tree) (rest : List Token) : Type 0 where
    pub part : IsPart tokens tree rest
    pub limited : IsTrue (list_all is_none (entries_of tree))

  -- the fault is what is told of the tokens where they are refused
  pub record HasFault (tokens : List Token) (fault : Fault) : Type 0 where
    pub spot : Spot
    pub refused : IsRefused tokens spot
    pub token : Token
    pub stands : slice_get tokens spot.at ≡ Some token
    pub told : fault ≡ fault_at spot.code token

  -- Of the trees that continue so many of the tokens, the one that is refused last is refused at
  -- the spot.
  pub record IsLast (tokens : List Token) (many : ℕ) (spot : Spot) : Type 0 where
    pub tree : Tree
    pub reached : Continues IsPart (take many tokens) tree
    pub refused : spot_of many (entries_of tree) ≡ spot
    pub last : (other : Tree) → Continues IsPart (take many tokens) other
        → IsUpTo (spot_of many (entries_of other)) spot

  -- Tokens are refused where the tree is that is refused last of those that continue them furthest.
  pub record AreRefusedLast (tokens : List Token) (spot : Spot) : Type 0 where
    pub refused : IsRefused tokens spot → (many : ℕ) → IsFurthest IsPart tokens many
        → IsLast tokens many spot
    pub last : spot.at < length tokens → (many : ℕ) → IsFurthest IsPart tokens many
        → IsLast tokens many spot → IsRefused tokens spot

  -- Tokens begin with one tree within the limits at most, and have one fault at most, and not both.
  pub record IsDetermined (tokens : List Token) : Type 0 where
    pub tree : (rest behind : List Token) (this other : Tree)
        → IsRead tokens this rest → IsRead tokens other behind → (this ≡ other) × (rest ≡ behind)
    pub fault : (this other : Fault) → HasFault tokens this → HasFault tokens other → this ≡ other
    pub one : (rest : List Token) (tree : Tree) (fault : Fault) → IsRead tokens tree rest
        → HasFault tokens fault → ⊥
