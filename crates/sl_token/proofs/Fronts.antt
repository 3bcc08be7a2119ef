-- The piece that is cut off a text is the longest one.
use Rattle.std.proofs.Common.{◌≡◌, ℕ, zero, suc, ◌<◌, Bool, true, false, eqb, List, [], ◌∷◌, ◌++◌, length, take, drop, get_or, refl, sym, ap, subst, ◌∙◌, ⊎_elim, arith, ◌-◌, length-drop}
use Rattle.std.specs.Prelude.{if◌then◌else◌, find, nat_eq, codes}
use Rattle.std.specs.List.{prefix_len, starts_with}
use Rattle.std.proofs.lemmas.Bool.{false≢true, eqb-true, ne_eqb}
use Rattle.std.proofs.lemmas.List.{take-append-drop, take_all}
use Rattle.std.proofs.lemmas.Slice.Eq.{bytes_eq-Decides}
use Rattle.def_token.specs.Lexeme.{Class, Space, Comment, OpenComment, Word, Quoted, OpenQuoted, Symbol, Stray, IsPiece, IsLineComment, IsBlockComment, is_in_line}
use Rattle.def_token.specs.Mark.{marks}
use Rattle.def_slang.specs.Name.{is_word_byte}
use Rattle.def_slang.specs.Token.{is_white}
use Rattle.sl_token.specs.Cutting.{Cut, block_comment, first_piece, quoted, sign}
use Rattle.sl_token.proofs.Heads.{IsFirst, space_first, word_first}
use Rattle.sl_token.proofs.Comments.{block_first, line_first}
use Rattle.sl_token.proofs.Marks.{sign_first_by}
use Rattle.sl_token.proofs.Strings.{quoted_first}

-- all of them
block_start : (b : ℕ) (bytes : List ℕ) (t : Bool) → is_white b ≡ false → is_word_byte b ≡ false → eqb b 34 ≡ false → starts_with nat_eq (b ∷ bytes) (codes "//") ≡ false
    → starts_with nat_eq (b ∷ bytes) (codes "/*") ≡ t → IsFirst (b ∷ bytes) (if t then block_comment (drop 2 (b ∷ bytes)) else sign (b ∷ bytes))
block_start b bytes true white word quote line block =
    let front = (bytes_eq-Decides (codes "/*") (take 2 (b ∷ bytes))).0 block in
    let whole : 47 ∷ 42 ∷ drop 2 (b ∷ bytes) ≡ b ∷ bytes = ap (λ f. f ++ drop 2 (b ∷ bytes)) front ∙ take-append-drop 2 (b ∷ bytes) in
    subst (λ text. IsFirst text (block_comment (drop 2 (b ∷ bytes)))) whole (block_first (drop 2 (b ∷ bytes)))
block_start b bytes false white word quote line block =
    sign_first_by b bytes (find (starts_with nat_eq (b ∷ bytes)) marks) (record { white = white; word = word; quote = quote; line = line; block = block }) refl

line_start : (b : ℕ) (bytes : List ℕ) (t : Bool) → is_white b ≡ false → is_word_byte b ≡ false → eqb b 34 ≡ false → starts_with nat_eq (b ∷ bytes) (codes "//") ≡ t
    → IsFirst (b ∷ bytes) (if t then (Comment, prefix_len is_in_line (b ∷ bytes)) else (if starts_with nat_eq (b ∷ bytes) (codes "/*") then block_comment (drop 2 (b ∷ bytes)) else sign (b ∷ bytes)))
line_start b bytes true white word quote line =
    let front = (bytes_eq-Decides (codes "//") (take 2 (b ∷ bytes))).0 line in
    let whole : 47 ∷ 47 ∷ drop 2 (b ∷ bytes) ≡ b ∷ bytes = ap (λ f. f ++ drop 2 (b ∷ bytes)) front ∙ take-append-drop 2 (b ∷ bytes) in
    subst (λ text. IsFirst text (Comment, prefix_len is_in_line text)) whole (line_first (drop 2 (b ∷ bytes)))
line_start b bytes false white word quote line = block_start b bytes (starts_with nat_eq (b ∷ bytes) (codes "/*")) white word quote line refl

abbrev behind_quote : ℕ → List ℕ → Cut
behind_quote b bytes =
    if starts_with nat_eq (b ∷ bytes) (codes "//") then (Comment, prefix_len is_in_line (b ∷ bytes))
    else (if starts_with nat_eq (b ∷ bytes) (codes "/*") then block_comment (drop 2 (b ∷ bytes)) else sign (b ∷ bytes))

quote_start : (b : ℕ) (bytes : List ℕ) (t : Bool) → is_white b ≡ false → is_word_byte b ≡ false → eqb b 34 ≡ t → IsFirst (b ∷ bytes) (if t then quoted bytes else behind_quote b bytes)
quote_start b bytes true white word quote = subst (λ c. IsFirst (c ∷ bytes) (quoted bytes)) (sym (eqb-true b 34 quote)) (quoted_first bytes)
quote_start b bytes false white word quote = line_start b bytes (starts_with nat_eq (b ∷ bytes) (codes "//")) white word quote refl

abbrev behind_word : ℕ → List ℕ → Cut
behind_word b bytes = if eqb b 34 then quoted bytes else behind_quote b bytes

word_start : (b : ℕ) (bytes : List ℕ) (t : Bool) → is_white b ≡ false → is_word_byte b ≡ t → IsFirst (b ∷ bytes) (if t then (Word, prefix_len is_word_byte (b ∷ bytes)) else behind_word b bytes)
word_start b bytes true white word = word_first b bytes word
word_start b bytes false white word = quote_start b bytes (eqb b 34) white word refl

abbrev behind_white : ℕ → List ℕ → Cut
behind_white b bytes = if is_word_byte b then (Word, prefix_len is_word_byte (b ∷ bytes)) else behind_word b bytes

white_start : (b : ℕ) (bytes : List ℕ) (t : Bool) → is_white b ≡ t → IsFirst (b ∷ bytes) (if t then (Space, prefix_len is_white (b ∷ bytes)) else behind_white b bytes)
white_start b bytes true white = space_first b bytes white
white_start b bytes false white = word_start b bytes (is_word_byte b) white refl

pub first_is : (text : List ℕ) → 0 < length text → IsFirst text (first_piece text)
first_is [] some = absurd (omega arith)
first_is (b ∷ bytes) some = white_start b bytes (is_white b) refl

pub cut_block : (text : List ℕ) (cut : Cut) → false ≡ is_white (get_or text 0 0) → false ≡ is_word_byte (get_or text 0 0) → (get_or text 0 0 ≡ 34 → ⊥)
    → false ≡ starts_with nat_eq text (codes "//") → true ≡ starts_with nat_eq text (codes "/*") → cut ≡ block_comment (take (length text - 2) (drop 2 text)) → cut ≡ first_piece text
cut_block text cut white word no_quote line block is =
    let quote = ne_eqb (get_or text 0 0) 34 no_quote in
    let no_white = sym white in
    let no_word = sym word in
    let no_line = sym line in
    let opens = sym block in
    let first : first_piece text ≡ block_comment (drop 2 text) = rw (no_white, no_word, quote, no_line, opens) in
    is ∙ ap block_comment (take_all (length text - 2) (drop 2 text) (omega (arith, length-drop 2 text))) ∙ sym first

-- no piece is empty
none_empty : (class : Class) → IsPiece class [] → ⊥
none_empty Space h = omega (arith, h.some)
none_empty Comment h = ⊎_elim (λ (line : IsLineComment []). omega (arith, ap length line.parts)) (λ (block : IsBlockComment []). omega (arith, ap length block.parts)) h
none_empty OpenComment h = omega (arith, ap length h.parts)
none_empty Word h = omega (arith, h.some)
none_empty Quoted h = omega (arith, ap length h.parts)
none_empty OpenQuoted h = omega (arith, ap length h.parts)
none_empty Symbol h = false≢true h
none_empty Stray h = omega (arith, ap length h.parts)

some_by : (text : List ℕ) (class : Class) (n : ℕ) → IsPiece class (take n text) → 0 < n
some_by text class zero h = absurd (none_empty class h)
some_by text class (suc n) h = omega arith

pub first_some : (text : List ℕ) (cut : Cut) → IsFirst text cut → 0 < cut.1
first_some text cut h = some_by text cut.0 cut.1 h.kind
