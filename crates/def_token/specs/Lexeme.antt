-- The pieces of a text: white space, comments, words, strings and marks, and what should have been
-- one.
use Rattle.std.specs.Prelude.{◌≡◌, ℕ, ◌<◌, ◌≤◌, ◌⊎◌, Bool, false, not, ◌&&◌, ◌||◌, ◌==◌, nat_eq, List, [], ◌∷◌, ◌++◌, length, take, codes, IsTrue}
use Rattle.std.specs.List.{list_all, starts_with}
use Rattle.def_token.specs.Mark.{is_mark}
use Rattle.def_slang.specs.Name.{is_word_byte}
use Rattle.def_slang.specs.Token.{is_white}

-- the classes of pieces
pub data Class : Type 0 where
  Space : Class
  Comment : Class
  OpenComment : Class
  Word : Class
  Quoted : Class
  OpenQuoted : Class
  Symbol : Class
  Stray : Class

-- a piece with its class
pub record Piece : Type 0 where
  pub class : Class
  pub bytes : List ℕ

-- lines end with line feeds alone
abbrev pub is_line_feed : ℕ → Bool
is_line_feed b = b == 10

-- a byte that can stand in a line
abbrev pub is_in_line : ℕ → Bool
is_in_line b = not (is_line_feed b)

-- a byte that can stand in a string
abbrev pub is_in_quotes : ℕ → Bool
is_in_quotes b = not (b == 34) && (not (b == 10) && not (b == 13))

-- `*/` stands somewhere in the bytes
abbrev pub has_comment_end : List ℕ → Bool
has_comment_end [] = false
has_comment_end (b ∷ bytes) = starts_with nat_eq (b ∷ bytes) (codes "*/") || has_comment_end bytes

-- `//`, and no line feed behind it
pub record IsLineComment (bytes : List ℕ) : Type 0 where
  pub body : List ℕ
  pub parts : bytes ≡ codes "//" ++ body
  pub inside : IsTrue (list_all is_in_line body)

-- `/*`, and the first `*/` behind it stands at the end
pub record IsBlockComment (bytes : List ℕ) : Type 0 where
  pub body : List ℕ
  pub parts : bytes ≡ codes "/*" ++ (body ++ codes "*/")
  pub inside : has_comment_end (body ++ codes "*") ≡ false

-- `/*`, and no `*/` behind it
pub record IsOpenComment (bytes : List ℕ) : Type 0 where
  pub body : List ℕ
  pub parts : bytes ≡ codes "/*" ++ body
  pub inside : has_comment_end body ≡ false

-- one byte or more, all of them of a kind
pub record IsRun (test : ℕ → Bool) (bytes : List ℕ) : Type 0 where
  pub some : 0 < length bytes
  pub all : IsTrue (list_all test bytes)

-- a quotation mark, bytes that can stand in a string, and a quotation mark
pub record IsQuoted (bytes : List ℕ) : Type 0 where
  pub body : List ℕ
  pub parts : bytes ≡ codes "\"" ++ (body ++ codes "\"")
  pub inside : IsTrue (list_all is_in_quotes body)

-- a quotation mark, and bytes that can stand in a string
pub record IsOpenQuoted (bytes : List ℕ) : Type 0 where
  pub body : List ℕ
  pub parts : bytes ≡ codes "\"" ++ body
  pub inside : IsTrue (list_all is_in_quotes body)

-- the byte begins none of the others; each byte that begins a mark is one
abbrev pub begins_nothing : ℕ → Bool
begins_nothing b =
    (not (is_white b) && not (is_word_byte b)) && (not (b == 34) && not (is_mark (b ∷ [])))

-- one byte that begins nothing
pub record IsStray (bytes : List ℕ) : Type 0 where
  pub byte : ℕ
  pub parts : bytes ≡ byte ∷ []
  pub nothing : IsTrue (begins_nothing byte)

-- the bytes are one piece of the class
abbrev pub IsPiece : Class → List ℕ → Type 0
IsPiece Space bytes = IsRun is_white bytes
IsPiece Comment bytes = IsLineComment bytes ⊎ IsBlockComment bytes
IsPiece OpenComment bytes = IsOpenComment bytes
IsPiece Word bytes = IsRun is_word_byte bytes
IsPiece Quoted bytes = IsQuoted bytes
IsPiece OpenQuoted bytes = IsOpenQuoted bytes
IsPiece Symbol bytes = IsTrue (is_mark bytes)
IsPiece Stray bytes = IsStray bytes

-- The text is the piece and the rest, and no longer front of the text is a piece of any class.
pub record Front (text : List ℕ) (piece : Piece) (rest : List ℕ) : Type 0 where
  pub parts : text ≡ piece.bytes ++ rest
  pub kind : IsPiece piece.class piece.bytes
  pub longest : (class : Class) (k : ℕ)
      → k ≤ length text → IsPiece class (take k text) → k ≤ length piece.bytes

-- the text is these pieces, each the longest, and the rest
abbrev pub Cuts : List ℕ → List Piece → List ℕ → Type 0
Cuts text [] rest = text ≡ rest
Cuts text (piece ∷ pieces) rest = (after : List ℕ) × Front text piece after × Cuts after pieces rest
