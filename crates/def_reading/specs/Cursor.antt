-- Places in tokens, the first limit on the way to a place, and how far tokens are read.
use Rattle.std.specs.Prelude.{ℕ, suc, Bool, true, false, ◌||◌, ◌&&◌, ◌==◌, nat_lt, List, [], ◌∷◌, drop, Option, Some, None}
use Rattle.def_token.specs.Lexical.{Token}
use Rattle.def_tree.specs.Fault.{code_of}
use Rattle.def_tree.specs.Limits.{Entry, Long, greatest_length}

-- what is told: the number of a token, counted from 0, the token, and the code
pub record Told : Type 0 where
  pub at : ℕ
  pub token : Token
  pub code : ℕ

-- a place in tokens: how many stand before it, the first limit that ends at one of them, and those
-- from it on
pub data Cursor : Type 0 where
  At : ℕ → Option Told → List Token → Cursor

-- what is told by a code at the token with this number, the first of these
abbrev pub told_at : ℕ → ℕ → List Token → Option Told
told_at code at [] = None
told_at code at (token ∷ tokens) = Some (record { at = at; token = token; code = code })

-- the first limit, where this entry is that of the token with this number
abbrev pub noted : Option Told → Entry → ℕ → Token → Option Told
noted limit None at token = limit
noted (Some told) (Some limit) at token = Some told
noted None (Some limit) at token = Some (record { at = at; token = token; code = code_of limit })

-- the place behind a token with this entry
abbrev pub advance : Entry → Cursor → Cursor
advance entry (At at limit []) = At at limit []
advance entry (At at limit (token ∷ tokens)) = At (suc at) (noted limit entry at token) tokens

-- the place behind tokens with these entries
abbrev pub passed : List Entry → Cursor → Cursor
passed [] place = place
passed (entry ∷ entries) place = passed entries (advance entry place)

-- where an expression with these tokens is too long, if they are so many
abbrev pub long_of : List Token → Option Told
long_of tokens = told_at (code_of Long) greatest_length (drop greatest_length tokens)

-- what is told of the tokens before one
abbrev pub before_by : Bool → Told → Option Told
before_by true told = Some told
before_by false told = None

-- what is told, if it is told of one of so many tokens
abbrev pub before : ℕ → Option Told → Option Told
before at None = None
before at (Some told) = before_by (nat_lt told.at at) told

-- the earlier of two that are told; at one token the one that stands first here
abbrev pub earlier_by : Bool → Told → Told → Option Told
earlier_by true told other = Some other
earlier_by false told other = Some told

-- the earlier of what is told by two, if anything is
abbrev pub earlier : Option Told → Option Told → Option Told
earlier None other = other
earlier (Some told) None = Some told
earlier (Some told) (Some other) = earlier_by (nat_lt other.at told.at) told other

-- How far tokens are read in one way: how many of them, and what is told where no more are.
pub record FarthestFailure : Type 0 where
  pub many : ℕ
  pub told : Told

-- so many tokens are read, and then this is told, if anything is
abbrev pub reach_by : ℕ → Option Told → Option FarthestFailure
reach_by many None = None
reach_by many (Some told) = Some (record { many = many; told = told })

-- what is told at a place where no token goes on: the first limit on the way there, else E110 of
-- the next token
abbrev pub told_by : Option Told → ℕ → List Token → Option Told
told_by None at tokens = told_at 110 at tokens
told_by (Some told) at tokens = Some told

-- How far tokens are read up to a place, by a tree that has at least so many tokens, if trees are
-- too long at `long`.
abbrev pub reach_at : Option Told → ℕ → Cursor → Option FarthestFailure
reach_at long least (At at limit tokens) =
    reach_by at (told_by (earlier limit (before least long)) at tokens)

-- what is told stands behind another; at one token E111 stands behind E112
abbrev pub is_later : Told → Told → Bool
is_later this other =
    nat_lt other.at this.at || (this.at == other.at && nat_lt this.code other.code)

-- A way counts more than another if it goes further, and of those that go as far if what is told of
-- it is later.
abbrev pub counts_more : FarthestFailure → FarthestFailure → Bool
counts_more this other =
    nat_lt other.many this.many || (this.many == other.many && is_later this.told other.told)

-- the other of two ways where a test says so
abbrev pub further_by : Bool → FarthestFailure → FarthestFailure → Option FarthestFailure
further_by true this other = Some other
further_by false this other = Some this

-- the one of two ways that counts
abbrev pub further : Option FarthestFailure → Option FarthestFailure → Option FarthestFailure
further None other = other
further (Some this) None = Some this
further (Some this) (Some other) = further_by (counts_more other this) this other
