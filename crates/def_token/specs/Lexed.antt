-- The tokens of a text, or its first lexical fault: `HasTokens` and `HasLexicalFault` as a
-- function.
use Rattle.std.specs.Prelude.{◌≡◌, ◌↔◌, ℕ, zero, suc, ◌-◌, Bool, false, not, ◌&&◌, ◌||◌, nat_lt, nat_le, nat_eq, List, [], ◌∷◌, ◌++◌, length, take, drop, find, Option, Some, None, Result, Ok, Err, codes}
use Rattle.std.specs.List.{list_all, starts_with}
use Rattle.std.specs.Str.{bytes_eq}
use Rattle.def_slang.specs.Name.{is_word_byte}
use Rattle.def_slang.specs.Token.{is_white, without_mark}
use Rattle.def_token.specs.Lexeme.{Class, Space, Comment, OpenComment, Word, Quoted, OpenQuoted, Symbol, Stray, Piece, begins_nothing, has_comment_end, is_in_line, is_in_quotes}
use Rattle.def_token.specs.Lexical.{End, Fault, IsFault, IsToken, Skipped, Token, Verdict, HasTokens, HasLexicalFault, args_of, mark_before, place_behind, token_behind, verdict}
use Rattle.def_token.specs.Mark.{is_mark}

-- the bytes are the front, and then bytes that pass
abbrev pub is_behind : List ℕ → (List ℕ → Bool) → List ℕ → Bool
is_behind front passes bytes =
    starts_with nat_eq bytes front && passes (drop (length front) bytes)

-- the bytes are bytes that pass, and then the end
abbrev pub is_before : List ℕ → (List ℕ → Bool) → List ℕ → Bool
is_before end passes bytes =
    let count = length bytes - length end in
    nat_le (length end) (length bytes)
    && (bytes_eq (drop count bytes) end && passes (take count bytes))

-- one byte or more, all of a kind
abbrev pub is_run : (ℕ → Bool) → List ℕ → Bool
is_run passes bytes = nat_lt 0 (length bytes) && list_all passes bytes

-- the first end of a comment stands behind these bytes
abbrev pub ends_first_behind : List ℕ → Bool
ends_first_behind body = not (has_comment_end (body ++ codes "*"))

-- a line comment or a block comment
abbrev pub is_comment : List ℕ → Bool
is_comment bytes =
    is_behind (codes "//") (list_all is_in_line) bytes
    || is_behind (codes "/*") (is_before (codes "*/") ends_first_behind) bytes

-- a string
abbrev pub is_quoted : List ℕ → Bool
is_quoted bytes = is_behind (codes "\"") (is_before (codes "\"") (list_all is_in_quotes)) bytes

-- a byte that begins nothing
abbrev pub is_stray : List ℕ → Bool
is_stray (byte ∷ []) = begins_nothing byte
is_stray _ = false

-- the bytes are one piece of the class: `IsPiece` as a test
abbrev pub is_piece : Class → List ℕ → Bool
is_piece Space bytes = is_run is_white bytes
is_piece Comment bytes = is_comment bytes
is_piece OpenComment bytes = is_behind (codes "/*") (λ body. not (has_comment_end body)) bytes
is_piece Word bytes = is_run is_word_byte bytes
is_piece Quoted bytes = is_quoted bytes
is_piece OpenQuoted bytes = is_behind (codes "\"") (list_all is_in_quotes) bytes
is_piece Symbol bytes = is_mark bytes
is_piece Stray bytes = is_stray bytes

-- all classes
abbrev pub classes : List Class
classes = Space ∷ Comment ∷ OpenComment ∷ Word ∷ Quoted ∷ OpenQuoted ∷ Symbol ∷ Stray ∷ []

-- the class of which the bytes are one piece
abbrev pub class_of : List ℕ → Option Class
class_of bytes = find (λ class. is_piece class bytes) classes

-- the bytes as a piece of this class, or another piece
abbrev pub piece_or : List ℕ → Option Class → Option Piece → Option Piece
piece_or bytes (Some class) other = Some (record { class = class; bytes = bytes })
piece_or bytes None other = other

-- the longest front of the text, of at most this many bytes, that is a piece
abbrev pub longest : ℕ → List ℕ → Option Piece
longest zero text = None
longest (suc count) text =
    piece_or (take (suc count) text) (class_of (take (suc count) text)) (longest count text)

-- the longest front of the text that is a piece
abbrev pub front_of : List ℕ → Option Piece
front_of text = longest (length text) text

-- a piece of a text, and the pieces behind it
abbrev pub piece_and : (List ℕ → List Piece) → List ℕ → Option Piece → List Piece
piece_and behind text (Some piece) = piece ∷ behind (drop (length piece.bytes) text)
piece_and behind text None = []

-- The pieces of a text, of which there are at most so many. A text with a byte begins with a piece,
-- so none is left.
abbrev pub pieces_of : ℕ → List ℕ → List Piece
pieces_of zero text = []
pieces_of (suc most) text = piece_and (pieces_of most) text (front_of text)

-- a token before others
abbrev pub before : Token → Result (List Token) Fault → Result (List Token) Fault
before token (Ok tokens) = Ok (token ∷ tokens)
before token (Err fault) = Err fault

-- what is told by the verdict on a piece behind these bytes, and of what stands behind the piece
abbrev pub told_by : Verdict → List ℕ → Piece → Result (List Token) Fault
    → Result (List Token) Fault
told_by Skipped front piece more = more
told_by (IsToken kind) front piece more = before (token_behind front kind piece.bytes) more
told_by (IsFault code) front piece more =
    Err (record { place = place_behind front; code = code; args = args_of code piece.bytes })

-- what is told of pieces behind these bytes: their tokens and the end, or the first fault
abbrev pub told_of : List ℕ → List Piece → Result (List Token) Fault
told_of front [] = Ok (token_behind front End [] ∷ [])
told_of front (piece ∷ pieces) =
    told_by (verdict piece) front piece (told_of (front ++ piece.bytes) pieces)

-- the tokens of a text, or its first lexical fault
unfoldable pub lexed : List ℕ → Result (List Token) Fault
lexed text = let rest = without_mark text in
    told_of (mark_before text) (pieces_of (length rest) rest)

-- `lexed` tells the tokens of a text, and its first lexical fault
pub record IsLexed (text : List ℕ) : Type 0 where
  pub tokens : (tokens : List Token) → (lexed text ≡ Ok tokens) ↔ HasTokens text tokens
  pub fault : (fault : Fault) → (lexed text ≡ Err fault) ↔ HasLexicalFault text fault

-- each text has its tokens or its first lexical fault
abbrev pub TokensAreTold : Type 0
TokensAreTold = (text : List ℕ) → IsLexed text
