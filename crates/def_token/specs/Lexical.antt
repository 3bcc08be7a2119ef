-- The tokens of a text, or its first lexical fault.
use Rattle.std.specs.Prelude.{◌≡◌, ℕ, ◌+◌, ◌/◌, ◌%◌, Bool, true, false, ◌==◌, nat_lt, nat_eq, List, [], ◌∷◌, ◌++◌, length, is_some, IsSome, slice_index, if◌then◌else◌, IsTrue}
use Rattle.std.specs.Char.{is_ascii_digit}
use Rattle.std.specs.List.{All, count_by, suffix_len, list_all, starts_with}
use Rattle.def_slang.specs.Keyword.{is_keyword}
use Rattle.def_token.specs.Lexeme.{Class, Space, Comment, OpenComment, Word, Quoted, OpenQuoted, Symbol, Stray, Piece, Front, Cuts, IsQuoted, is_line_feed, is_in_line}
use Rattle.def_token.specs.Mark.{is_mark}
use Rattle.def_slang.specs.Name.{is_name}
use Rattle.def_token.specs.Number.{number_of}
use Rattle.def_slang.specs.Token.{byte_order_mark, without_mark}

-- the kinds of tokens
pub data Kind : Type 0 where
  Name : Kind
  Keyword : Kind
  Number : Kind
  Text : Kind
  Mark : Kind
  End : Kind

-- a place, whose line and column count from 1
pub record Place : Type 0 where
  pub line : ℕ
  pub column : ℕ

-- a token: its bytes, the offsets where they begin and end, and the place of its first byte
pub record Token : Type 0 where
  pub kind : Kind
  pub text : List ℕ
  pub start : ℕ
  pub end : ℕ
  pub place : Place

-- a fault: a diagnostic's place, code and arguments
pub record Fault : Type 0 where
  pub place : Place
  pub code : ℕ
  pub args : List (List ℕ)

-- The place behind these bytes: one line more than line feeds, and one column more than bytes
-- behind the last of them.
abbrev pub place_behind : List ℕ → Place
place_behind before =
    record {
      line = count_by is_line_feed before + 1;
      column = suffix_len is_in_line before + 1;
    }

-- what a piece is: no token, a token of a kind, or a fault with a code
pub data Verdict : Type 0 where
  Skipped : Verdict
  IsToken : Kind → Verdict
  IsFault : ℕ → Verdict

-- A word that is no keyword and no name either begins with a digit or is too long.
abbrev pub word_verdict : List ℕ → Verdict
word_verdict word =
    if is_keyword word then IsToken Keyword
    else if is_name word then IsToken Name
    else if is_some (number_of word) then IsToken Number
    else if is_ascii_digit (slice_index word 0) then IsFault 103
    else IsFault 104

-- what a piece of a class is
abbrev pub verdict_of : Class → List ℕ → Verdict
verdict_of Space bytes = Skipped
verdict_of Comment bytes = Skipped
verdict_of OpenComment bytes = IsFault 102
verdict_of Word bytes = word_verdict bytes
verdict_of Quoted bytes = IsToken Text
verdict_of OpenQuoted bytes = IsFault 105
verdict_of Symbol bytes = IsToken Mark
verdict_of Stray bytes = IsFault 101

-- what a piece is
abbrev pub verdict : Piece → Verdict
verdict piece = verdict_of piece.class piece.bytes

-- a verdict that is no fault
abbrev pub no_fault : Verdict → Bool
no_fault Skipped = true
no_fault (IsToken kind) = true
no_fault (IsFault code) = false

-- a piece has no fault
abbrev pub is_faultless : Piece → Bool
is_faultless piece = no_fault (verdict piece)

-- a digit of base 16, with lower-case letters
abbrev pub hexadecimal_digit : ℕ → ℕ
hexadecimal_digit n = if nat_lt n 10 then 48 + n else 87 + n

-- a byte in two digits of base 16
abbrev pub hexadecimal_byte : ℕ → List ℕ
hexadecimal_byte b = hexadecimal_digit (b / 16) ∷ hexadecimal_digit (b % 16) ∷ []

-- the arguments of a fault's code: of an unexpected byte its two digits, of others none
abbrev pub args_of : ℕ → List ℕ → List (List ℕ)
args_of code bytes = if code == 101 then hexadecimal_byte (slice_index bytes 0) ∷ [] else []

-- the bytes as a token that stands behind others
abbrev pub token_behind : List ℕ → Kind → List ℕ → Token
token_behind before kind bytes =
    record {
      kind = kind;
      text = bytes;
      start = length before;
      end = length (before ++ bytes);
      place = place_behind before;
    }

-- the token that bytes are, if they are one, where they stand behind others
abbrev pub tokens_by : Verdict → List ℕ → List ℕ → List Token
tokens_by Skipped before bytes = []
tokens_by (IsToken kind) before bytes = token_behind before kind bytes ∷ []
tokens_by (IsFault code) before bytes = []

-- the token that a piece behind these bytes is, if it is one
abbrev pub tokens_of : List ℕ → Piece → List Token
tokens_of before piece = tokens_by (verdict piece) before piece.bytes

-- the tokens among pieces that stand behind these bytes
abbrev pub tokens_among : List ℕ → List Piece → List Token
tokens_among before [] = []
tokens_among before (piece ∷ pieces) =
    tokens_of before piece ++ tokens_among (before ++ piece.bytes) pieces

-- the bytes of pieces, one piece behind the other
abbrev pub bytes_of : List Piece → List ℕ
bytes_of [] = []
bytes_of (piece ∷ pieces) = piece.bytes ++ bytes_of pieces

-- the byte order mark with which a text begins, or nothing
abbrev pub mark_before : List ℕ → List ℕ
mark_before text = if starts_with nat_eq text byte_order_mark then byte_order_mark else []

-- Behind a byte order mark the text is pieces without a fault.
-- The tokens are those among them, and then the end of the text.
pub record HasTokens (text : List ℕ) (tokens : List Token) : Type 0 where
  pub pieces : List Piece
  pub cut : Cuts (without_mark text) pieces []
  pub faultless : IsTrue (list_all is_faultless pieces)
  pub tokens_are : tokens ≡ tokens_among (mark_before text) pieces ++ token_behind text End [] ∷ []

-- Behind a byte order mark the text is pieces without a fault, and then a piece with this one.
pub record HasLexicalFault (text : List ℕ) (fault : Fault) : Type 0 where
  pub pieces : List Piece
  pub rest : List ℕ
  pub piece : Piece
  pub after : List ℕ
  pub cut : Cuts (without_mark text) pieces rest
  pub faultless : IsTrue (list_all is_faultless pieces)
  pub front : Front rest piece after
  pub faulty : verdict piece ≡ IsFault fault.code
  pub args_are : fault.args ≡ args_of fault.code piece.bytes
  pub place_is : fault.place ≡ place_behind (mark_before text ++ bytes_of pieces)

-- A text has at most one list of tokens and at most one fault, and not both.
pub record IsDetermined (text : List ℕ) : Type 0 where
  pub tokens : (these others : List Token) → HasTokens text these → HasTokens text others
      → these ≡ others
  pub fault : (this other : Fault) → HasLexicalFault text this → HasLexicalFault text other
      → this ≡ other
  pub one : (tokens : List Token) (fault : Fault) → HasTokens text tokens
      → HasLexicalFault text fault → ⊥

-- each text is determined
abbrev pub TextsAreDetermined : Type 0
TextsAreDetermined = (text : List ℕ) → IsDetermined text

-- what the bytes of a token are before the end, by its kind; the end is none of these
abbrev pub FitsKind : Kind → List ℕ → Type 0
FitsKind Name bytes = IsTrue (is_name bytes) × (is_keyword bytes ≡ false)
FitsKind Keyword bytes = IsTrue (is_keyword bytes)
FitsKind Number bytes = IsSome (number_of bytes)
FitsKind Text bytes = IsQuoted bytes
FitsKind Mark bytes = IsTrue (is_mark bytes)
FitsKind End bytes = ⊥

-- The last token alone is the end of the text, and each other one fits its kind.
pub record IsSequence (text : List ℕ) (tokens : List Token) : Type 0 where
  pub front : List Token
  pub ended : tokens ≡ front ++ token_behind text End [] ∷ []
  pub fits : All (λ (token : Token). FitsKind token.kind token.text) front

-- the tokens of each text are such a sequence
abbrev pub TokensAreSequences : Type 0
TokensAreSequences =
    (text : List ℕ) (tokens : List Token) → HasTokens text tokens → IsSequence text tokens
