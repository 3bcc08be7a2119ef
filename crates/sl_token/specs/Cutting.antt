-- How the lexer cuts the first piece off a text.
use Rattle.std.specs.Prelude.{ℕ, suc, ◌+◌, ◌&&◌, ◌==◌, nat_lt, nat_eq, Option, Some, None, List, [], ◌∷◌, length, take, drop, find, slice_index, if◌then◌else◌, codes}
use Rattle.std.specs.List.{prefix_len, starts_with}
use Rattle.std.specs.Option.{option_map}
use Rattle.def_token.specs.Lexeme as definition
use Rattle.def_token.specs.Lexeme.{Piece, is_in_line, is_in_quotes}
use Rattle.def_token.specs.Mark.{marks}
use Rattle.def_slang.specs.Name.{is_word_byte}
use Rattle.def_slang.specs.Token.{is_white}
use Rattle.sl_token.specs.declared.piece.Class.{Class}
use Rattle.sl_token.specs.declared.piece.Class.TheVariants as class

-- the class of a piece, and how many bytes it has
abbrev pub Cut : Type 0
Cut = definition.Class × ℕ

-- a class as the definitions have it
abbrev pub class_of : Class → definition.Class
class_of class.Space = definition.Space
class_of class.Comment = definition.Comment
class_of class.OpenComment = definition.OpenComment
class_of class.Word = definition.Word
class_of class.Quoted = definition.Quoted
class_of class.OpenQuoted = definition.OpenQuoted
class_of class.Symbol = definition.Symbol
class_of class.Stray = definition.Stray

-- a class and a number of bytes as the definitions have them
abbrev pub cut_of : Class × ℕ → Cut
cut_of found = (class_of found.0, found.1)

-- the piece that is cut off a text
abbrev pub piece_by : List ℕ → Cut → Piece
piece_by text cut = record { class = cut.0; bytes = take cut.1 text }

-- how many bytes stand before the first `*/`, or all where there is none
abbrev pub before_end : List ℕ → ℕ
before_end [] = 0
before_end (b ∷ bytes) =
    if starts_with nat_eq (b ∷ bytes) (codes "*/") then 0 else suc (before_end bytes)

-- what `/*` with these bytes behind it begins
abbrev pub block_comment : List ℕ → Cut
block_comment body =
    let inside = before_end body in
    if nat_lt inside (length body)
    then (definition.Comment, inside + 4)
    else (definition.OpenComment, inside + 2)

-- what a quotation mark with these bytes behind it begins
abbrev pub quoted : List ℕ → Cut
quoted body =
    let inside = prefix_len is_in_quotes body in
    if nat_lt inside (length body) && (slice_index body inside == 34)
    then (definition.Quoted, inside + 2)
    else (definition.OpenQuoted, inside + 1)

-- a mark of so many bytes, or one byte that begins nothing
abbrev pub sign_by : Option ℕ → Cut
sign_by None = (definition.Stray, 1)
sign_by (Some bytes) = (definition.Symbol, bytes)

-- what a byte begins that begins nothing else
abbrev pub sign : List ℕ → Cut
sign text = sign_by (option_map length (find (starts_with nat_eq text) marks))

-- what a text begins with
abbrev pub first_piece : List ℕ → Cut
first_piece text =
    let b = slice_index text 0 in
    if is_white b then (definition.Space, prefix_len is_white text)
    else if is_word_byte b then (definition.Word, prefix_len is_word_byte text)
    else if b == 34 then quoted (drop 1 text)
    else if starts_with nat_eq text (codes "//")
    then (definition.Comment, prefix_len is_in_line text)
    else if starts_with nat_eq text (codes "/*") then block_comment (drop 2 text)
    else sign text
