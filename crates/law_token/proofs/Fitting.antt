-- Each token fits its kind.
use Rattle.std.proofs.Common.{◌≡◌, ℕ, zero, suc, Bool, true, false, List, [], ◌∷◌, ◌++◌, refl, arith}
use Rattle.std.specs.Prelude.{if◌then◌else◌, is_some, slice_index}
use Rattle.std.specs.Char.{is_ascii_digit}
use Rattle.std.specs.List.{All}
use Rattle.std.proofs.lemmas.List.Elements.{All-append}
use Rattle.def_slang.specs.Keyword.{is_keyword}
use Rattle.def_token.specs.Lexeme.{Class, Space, Comment, OpenComment, Word, Quoted, OpenQuoted, Symbol, Stray, Piece, IsPiece, Cuts}
use Rattle.def_token.specs.Lexical.{FitsKind, HasTokens, IsFault, IsSequence, IsToken, Keyword, Kind, Mark, Name, Number, Text, Token, Verdict, mark_before, token_behind, tokens_among, tokens_by, tokens_of, verdict_of}
use Rattle.def_slang.specs.Name.{is_name}
use Rattle.def_token.specs.Number.{number_of}
use Rattle.def_slang.specs.Token.{without_mark}

abbrev AllFit : List Token → Type 0
AllFit tokens = All (λ (token : Token). FitsKind token.kind token.text) tokens

none : AllFit []
none k d short = absurd (omega (arith, short))

one : (before : List ℕ) (kind : Kind) (bytes : List ℕ) → FitsKind kind bytes → AllFit (token_behind before kind bytes ∷ [])
one before kind bytes fits zero d short = fits
one before kind bytes fits (suc k) d short = absurd (omega (arith, short))

-- what a word is by its four tests
abbrev verdict_by : Bool → Bool → Bool → Bool → Verdict
verdict_by keyword name number digit =
    if keyword then IsToken Keyword else (if name then IsToken Name else (if number then IsToken Number else (if digit then IsFault 103 else IsFault 104)))

word_fits : (before bytes : List ℕ) (keyword name number digit : Bool) → is_keyword bytes ≡ keyword → is_name bytes ≡ name → is_some (number_of bytes) ≡ number
    → AllFit (tokens_by (verdict_by keyword name number digit) before bytes)
word_fits before bytes true name number digit h k l = one before Keyword bytes h
word_fits before bytes false true number digit h k l = one before Name bytes (k, h)
word_fits before bytes false false true digit h k l = one before Number bytes l
word_fits before bytes false false false true h k l = none
word_fits before bytes false false false false h k l = none

piece_fits : (before : List ℕ) (class : Class) (bytes : List ℕ) → IsPiece class bytes → AllFit (tokens_by (verdict_of class bytes) before bytes)
piece_fits before Space bytes h = none
piece_fits before Comment bytes h = none
piece_fits before OpenComment bytes h = none
piece_fits before Word bytes h =
    word_fits before bytes (is_keyword bytes) (is_name bytes) (is_some (number_of bytes)) (is_ascii_digit (slice_index bytes 0)) refl refl refl
piece_fits before Quoted bytes h = one before Text bytes h
piece_fits before OpenQuoted bytes h = none
piece_fits before Symbol bytes h = one before Mark bytes h
piece_fits before Stray bytes h = none

all_fit : (text before : List ℕ) (pieces : List Piece) (rest : List ℕ) → Cuts text pieces rest → AllFit (tokens_among before pieces)
all_fit text before [] rest cut = none
all_fit text before (piece ∷ pieces) rest cut =
    All-append (λ (token : Token). FitsKind token.kind token.text) (tokens_of before piece) (tokens_among (before ++ piece.bytes) pieces)
    (piece_fits before piece.class piece.bytes cut.1.kind) (all_fit cut.0 (before ++ piece.bytes) pieces rest cut.2)

pub sequence : (text : List ℕ) (tokens : List Token) → HasTokens text tokens → IsSequence text tokens
sequence text tokens h =
    record {
      front = tokens_among (mark_before text) h.pieces;
      ended = h.tokens_are;
      fits = all_fit (without_mark text) (mark_before text) h.pieces [] h.cut;
    }
