-- The class of a piece is told by its bytes, so one text has one front.
use Rattle.std.proofs.Common.{◌≡◌, ℕ, ◌<◌, Bool, true, false, not, List, [], ◌∷◌, ◌++◌, length, take, drop, refl, sym, ap, subst, ◌∙◌, ⊎_elim, arith}
use Rattle.std.specs.Prelude.{◌==◌, if◌then◌else◌, nat_eq, codes}
use Rattle.std.specs.List.{list_all, list_any, starts_with}
use Rattle.std.specs.Str.{bytes_eq}
use Rattle.std.proofs.lemmas.Bool.{and_parts, and_right, or_cases, or_right, not-true, false≢true}
use Rattle.std.proofs.lemmas.Bool.Decides.{nat_tests}
use Rattle.std.proofs.lemmas.List.Folds.{list_all-append}
use Rattle.std.proofs.lemmas.Slice.Eq.{bytes_eq-Decides}
use Rattle.std.proofs.Math.Seq.{take-append_seam}
use Rattle.def_token.specs.Lexeme.{Class, Space, Comment, OpenComment, Word, Quoted, OpenQuoted, Symbol, Stray, Piece, IsPiece, IsRun, IsLineComment, IsBlockComment, IsOpenComment, IsQuoted, IsOpenQuoted, IsStray, is_in_quotes, has_comment_end, Front}
use Rattle.def_token.specs.Mark.{marks, is_mark}
use Rattle.def_slang.specs.Name.{is_word_byte}
use Rattle.def_slang.specs.Token.{is_white}

abbrev begins : List ℕ → List ℕ → Bool
begins front bytes = starts_with nat_eq bytes front

-- the class of bytes that are a piece
abbrev pub told : List ℕ → Class
told [] = Stray
told (b ∷ bytes) =
    if is_white b then Space
    else if is_word_byte b then Word
    else if b == 34 then (if list_all is_in_quotes bytes then OpenQuoted else Quoted)
    else if begins (codes "//") (b ∷ bytes) then Comment
    else if begins (codes "/*") (b ∷ bytes) then (if has_comment_end (drop 1 bytes) then Comment else OpenComment)
    else if is_mark (b ∷ bytes) then Symbol
    else Stray

pub word_not_white : (b : ℕ) → is_word_byte b ≡ true → is_white b ≡ false
word_not_white b h = grind (arith, nat_tests)

space_told : (bytes : List ℕ) → IsRun is_white bytes → told bytes ≡ Space
space_told [] h = absurd (omega (arith, h.some))
space_told (b ∷ bytes) h = let white = (and_parts (is_white b) (list_all is_white bytes) h.all).0 in rw white

word_told : (bytes : List ℕ) → IsRun is_word_byte bytes → told bytes ≡ Word
word_told [] h = absurd (omega (arith, h.some))
word_told (b ∷ bytes) h =
    let word = (and_parts (is_word_byte b) (list_all is_word_byte bytes) h.all).0 in
    let no_white = word_not_white b word in
    rw (no_white, word)

closed_not_inside : (body : List ℕ) → list_all is_in_quotes (body ++ codes "\"") ≡ false
closed_not_inside body = list_all-append is_in_quotes body (codes "\"") ∙ and_right (list_all is_in_quotes body) false refl

quoted_told : (bytes : List ℕ) → IsQuoted bytes → told bytes ≡ Quoted
quoted_told bytes h = subst (λ bs. told bs ≡ Quoted) (sym h.parts) (ap (λ t. if t then OpenQuoted else Quoted) (closed_not_inside h.body))

open_quoted_told : (bytes : List ℕ) → IsOpenQuoted bytes → told bytes ≡ OpenQuoted
open_quoted_told bytes h = subst (λ bs. told bs ≡ OpenQuoted) (sym h.parts) (ap (λ t. if t then OpenQuoted else Quoted) h.inside)

pub end_at_end : (body : List ℕ) → has_comment_end (body ++ codes "*/") ≡ true
end_at_end [] = refl
end_at_end (b ∷ body) = or_right (begins (codes "*/") (b ∷ (body ++ codes "*/"))) (has_comment_end (body ++ codes "*/")) (end_at_end body)

line_told : (bytes : List ℕ) → IsLineComment bytes → told bytes ≡ Comment
line_told bytes h = subst (λ bs. told bs ≡ Comment) (sym h.parts) refl

block_told : (bytes : List ℕ) → IsBlockComment bytes → told bytes ≡ Comment
block_told bytes h = subst (λ bs. told bs ≡ Comment) (sym h.parts) (ap (λ t. if t then Comment else OpenComment) (end_at_end h.body))

open_told : (bytes : List ℕ) → IsOpenComment bytes → told bytes ≡ OpenComment
open_told bytes h = subst (λ bs. told bs ≡ OpenComment) (sym h.parts) (ap (λ t. if t then Comment else OpenComment) h.inside)

-- a test that holds in the whole table holds at each entry
pub at_entry : (test : List ℕ → Bool) (table : List (List ℕ)) (bytes : List ℕ) → list_all test table ≡ true → list_any (bytes_eq bytes) table ≡ true → test bytes ≡ true
at_entry test [] bytes all any = absurd (false≢true any)
at_entry test (entry ∷ table) bytes all any =
    let both = and_parts (test entry) (list_all test table) all in
    ⊎_elim
    (λ same. subst (λ bs. test bs ≡ true) (sym ((bytes_eq-Decides bytes entry).0 same)) both.0)
    (λ later. at_entry test table bytes both.1 later)
    (or_cases (bytes_eq bytes entry) (list_any (bytes_eq bytes) table) any)

abbrev is_symbol : Class → Bool
is_symbol Symbol = true
is_symbol _ = false

symbol_is : (c : Class) → is_symbol c ≡ true → c ≡ Symbol
symbol_is Symbol h = refl
symbol_is Space h = absurd (false≢true h)
symbol_is Comment h = absurd (false≢true h)
symbol_is OpenComment h = absurd (false≢true h)
symbol_is Word h = absurd (false≢true h)
symbol_is Quoted h = absurd (false≢true h)
symbol_is OpenQuoted h = absurd (false≢true h)
symbol_is Stray h = absurd (false≢true h)

mark_told : (bytes : List ℕ) → is_mark bytes ≡ true → told bytes ≡ Symbol
mark_told bytes h = symbol_is (told bytes) (at_entry (λ bs. is_symbol (told bs)) marks bytes refl h)

stray_told : (bytes : List ℕ) → IsStray bytes → told bytes ≡ Stray
stray_told bytes h =
    let b = h.byte in
    let parts = and_parts _ _ h.nothing in
    let no_space = and_parts (not (is_white b)) (not (is_word_byte b)) parts.0 in
    let no_sign = and_parts (not (b == 34)) (not (is_mark (b ∷ []))) parts.1 in
    let white = not-true (is_white b) no_space.0 in
    let word = not-true (is_word_byte b) no_space.1 in
    let quote = not-true (b == 34) no_sign.0 in
    let line = and_right (nat_eq 47 b) false refl in
    let mark = not-true (is_mark (b ∷ [])) no_sign.1 in
    subst (λ bs. told bs ≡ Stray) (sym h.parts) (rw (white, word, quote, line, mark))

pub told_is : (class : Class) (bytes : List ℕ) → IsPiece class bytes → told bytes ≡ class
told_is Space bytes h = space_told bytes h
told_is Comment bytes h = ⊎_elim (line_told bytes) (block_told bytes) h
told_is OpenComment bytes h = open_told bytes h
told_is Word bytes h = word_told bytes h
told_is Quoted bytes h = quoted_told bytes h
told_is OpenQuoted bytes h = open_quoted_told bytes h
told_is Symbol bytes h = mark_told bytes h
told_is Stray bytes h = stray_told bytes h

pub front_take : {text rest : List ℕ} {piece : Piece} → Front text piece rest → take (length piece.bytes) text ≡ piece.bytes
front_take {rest = rest} {piece = piece} f = ap (take (length piece.bytes)) f.parts ∙ take-append_seam piece.bytes rest

mark_some : (bytes : List ℕ) → is_mark bytes ≡ true → 0 < length bytes
mark_some [] h = absurd (false≢true h)
mark_some (b ∷ bytes) h = omega arith

-- no piece is empty
pub piece_some : (class : Class) (bytes : List ℕ) → IsPiece class bytes → 0 < length bytes
piece_some Space bytes h = h.some
piece_some Comment bytes h = ⊎_elim (λ (line : IsLineComment bytes). omega (arith, ap length line.parts)) (λ (block : IsBlockComment bytes). omega (arith, ap length block.parts)) h
piece_some OpenComment bytes h = omega (arith, ap length h.parts)
piece_some Word bytes h = h.some
piece_some Quoted bytes h = omega (arith, ap length h.parts)
piece_some OpenQuoted bytes h = omega (arith, ap length h.parts)
piece_some Symbol bytes h = mark_some bytes h
piece_some Stray bytes h = omega (arith, ap length h.parts)
