-- Marks: the longest one of the table, or a byte that begins nothing.
use Rattle.std.proofs.Common.{◌≡◌, ℕ, zero, suc, ◌<◌, ◌≤◌, Bool, true, false, not, cond, eqb, ◌&&◌, List, [], ◌∷◌, ◌++◌, length, take, drop, refl, sym, ap, subst, ◌∙◌, ◌⊎◌, inl, inr, ⊎_elim, arith, append_assoc}
use Rattle.std.specs.Prelude.{Option, Some, None, find, nat_eq, nat_le, nat_lt, codes}
use Rattle.std.specs.List.{list_all, list_any, starts_with}
use Rattle.std.specs.Option.{option_map}
use Rattle.std.specs.Str.{bytes_eq}
use Rattle.std.proofs.lemmas.Bool.{and_parts, or_cases, or_right, false≢true, eq-eqb, ltb-true, leb-true, or_from, or_left, false_from_ne_true}
use Rattle.std.proofs.lemmas.List.{length-take, length-take-le, take-append-drop}
use Rattle.std.proofs.lemmas.Slice.Eq.{bytes_eq-Decides}
use Rattle.std.proofs.Math.Seq.{take-append_seam}
use Rattle.def_token.specs.Lexeme.{Class, Space, Comment, OpenComment, Word, Quoted, OpenQuoted, Symbol, Stray, IsPiece, IsLineComment, IsBlockComment, IsStray}
use Rattle.def_token.specs.Mark.{marks, is_mark}
use Rattle.def_slang.specs.Name.{is_word_byte}
use Rattle.def_slang.specs.Token.{is_white}
use Rattle.sl_token.specs.Cutting.{sign_by}
use Rattle.sl_token.proofs.Heads.{IsFirst, at_entry, begins, both_ways}

-- marks
starts_at : (text front rest : List ℕ) → text ≡ front ++ rest → starts_with nat_eq text front ≡ true
starts_at text front rest h = (bytes_eq-Decides front (take (length front) text)).1 (sym (ap (take (length front)) h ∙ take-append_seam front rest))

-- each row is at least as long as the later ones
abbrev falls : List (List ℕ) → Bool
falls [] = true
falls (row ∷ rows) = list_all (λ other. nat_le (length other) (length row)) rows && falls rows

some_is : (row other : List ℕ) → Some row ≡ Some other → row ≡ other
some_is row other h = cc

-- what a search among rows finds
pub record IsRow (text : List ℕ) (rows : List (List ℕ)) (row : List ℕ) : Type 0 where
  pub begins : starts_with nat_eq text row ≡ true
  pub listed : list_any (bytes_eq row) rows ≡ true

row_by : (text row other : List ℕ) (rows : List (List ℕ)) (b : Bool) → starts_with nat_eq text row ≡ b
    → (find (starts_with nat_eq text) rows ≡ Some other → IsRow text rows other)
    → cond b (Some row) (find (starts_with nat_eq text) rows) ≡ Some other → IsRow text (row ∷ rows) other
row_by text row other rows true h more is =
    let same : row ≡ other = some_is row other is in
    record {
      begins = subst (λ r. starts_with nat_eq text r ≡ true) same h;
      listed = or_left (bytes_eq other row) (list_any (bytes_eq other) rows) ((bytes_eq-Decides other row).1 (sym same));
    }
row_by text row other rows false h more is =
    let r = more is in
    record { begins = r.begins; listed = or_right (bytes_eq other row) (list_any (bytes_eq other) rows) r.listed }

found_row : (text other : List ℕ) (rows : List (List ℕ)) → find (starts_with nat_eq text) rows ≡ Some other → IsRow text rows other
found_row text other [] is = cc
found_row text other (row ∷ rows) is = row_by text row other rows (starts_with nat_eq text row) refl (found_row text other rows) is

-- a front of the text that is a row is no longer than the first row that begins the text
row_longest_by : (text front rest row other : List ℕ) (rows : List (List ℕ)) (b : Bool) → text ≡ front ++ rest → starts_with nat_eq text row ≡ b
    → list_all (λ next. nat_le (length next) (length row)) rows ≡ true
    → (find (starts_with nat_eq text) rows ≡ Some other → list_any (bytes_eq front) rows ≡ true → length front ≤ length other)
    → cond b (Some row) (find (starts_with nat_eq text) rows) ≡ Some other → list_any (bytes_eq front) (row ∷ rows) ≡ true → length front ≤ length other
row_longest_by text front rest row other rows true parts h fall more is any =
    let same : row ≡ other = some_is row other is in
    ⊎_elim
    (λ at. omega (arith, ap length ((bytes_eq-Decides front row).0 at), ap length same))
    (λ later. omega (arith, leb-true (length front) (length row) (at_entry (λ next. nat_le (length next) (length row)) rows front fall later), ap length same))
    (or_cases (bytes_eq front row) (list_any (bytes_eq front) rows) any)
row_longest_by text front rest row other rows false parts h fall more is any =
    ⊎_elim
    (λ at. absurd (false≢true (sym h ∙ ap (starts_with nat_eq text) (sym ((bytes_eq-Decides front row).0 at)) ∙ starts_at text front rest parts)))
    (λ later. more is later)
    (or_cases (bytes_eq front row) (list_any (bytes_eq front) rows) any)

row_longest : (text front rest other : List ℕ) (rows : List (List ℕ)) → text ≡ front ++ rest → falls rows ≡ true
    → find (starts_with nat_eq text) rows ≡ Some other → list_any (bytes_eq front) rows ≡ true → length front ≤ length other
row_longest text front rest other [] parts fall is any = cc
row_longest text front rest other (row ∷ rows) parts fall is any =
    let both = and_parts (list_all (λ next. nat_le (length next) (length row)) rows) (falls rows) fall in
    row_longest_by text front rest row other rows (starts_with nat_eq text row) parts refl both.0 (row_longest text front rest other rows parts both.1) is any

-- a front of the text is no row, where no row begins the text
row_missed_by : (text front rest row : List ℕ) (rows : List (List ℕ)) (b : Bool) → text ≡ front ++ rest → starts_with nat_eq text row ≡ b
    → (find (starts_with nat_eq text) rows ≡ None → list_any (bytes_eq front) rows ≡ false)
    → cond b (Some row) (find (starts_with nat_eq text) rows) ≡ None → list_any (bytes_eq front) (row ∷ rows) ≡ false
row_missed_by text front rest row rows true parts h more is = cc
row_missed_by text front rest row rows false parts h more is =
    or_from (bytes_eq front row) (list_any (bytes_eq front) rows)
    (false_from_ne_true (bytes_eq front row) (λ at. false≢true (sym h ∙ ap (starts_with nat_eq text) (sym ((bytes_eq-Decides front row).0 at)) ∙ starts_at text front rest parts)))
    (more is)

row_missed : (text front rest : List ℕ) (rows : List (List ℕ)) → text ≡ front ++ rest → find (starts_with nat_eq text) rows ≡ None → list_any (bytes_eq front) rows ≡ false
row_missed text front rest [] parts is = refl
row_missed text front rest (row ∷ rows) parts is = row_missed_by text front rest row rows (starts_with nat_eq text row) parts refl (row_missed text front rest rows parts) is

-- the text begins with a byte that begins no white space, word, string or comment
pub record IsSign (b : ℕ) (bytes : List ℕ) : Type 0 where
  pub white : is_white b ≡ false
  pub word : is_word_byte b ≡ false
  pub quote : eqb b 34 ≡ false
  pub line : starts_with nat_eq (b ∷ bytes) (codes "//") ≡ false
  pub block : starts_with nat_eq (b ∷ bytes) (codes "/*") ≡ false

no_comment : (text front body rest : List ℕ) → starts_with nat_eq text front ≡ false → text ≡ (front ++ body) ++ rest → ⊥
no_comment text front body rest h parts = false≢true (sym h ∙ starts_at text front (body ++ rest) (parts ∙ append_assoc front body rest))

whole_by : (b : ℕ) (bytes front : List ℕ) (j : ℕ) → b ∷ take j bytes ≡ front → b ∷ bytes ≡ front ++ drop j bytes
whole_by b bytes front j h = ap (λ bs. b ∷ bs) (sym (take-append-drop j bytes)) ∙ ap (λ f. f ++ drop j bytes) h

sign_cases : (b : ℕ) (bytes : List ℕ) (j : ℕ) (class : Class) → IsSign b bytes → IsPiece class (b ∷ take j bytes) → (is_mark (b ∷ take j bytes) ≡ true) ⊎ IsStray (b ∷ take j bytes)
sign_cases b bytes j Space s h = absurd (both_ways (is_white b) (begins Space b (take j bytes) h) s.white)
sign_cases b bytes j Comment s h = ⊎_elim
    (λ (line : IsLineComment (b ∷ take j bytes)). absurd (no_comment (b ∷ bytes) (codes "//") line.body (drop j bytes) s.line (whole_by b bytes (codes "//" ++ line.body) j line.parts)))
    (λ (block : IsBlockComment (b ∷ take j bytes)). absurd (no_comment (b ∷ bytes) (codes "/*") (block.body ++ codes "*/") (drop j bytes) s.block (whole_by b bytes (codes "/*" ++ (block.body ++ codes "*/")) j block.parts))) h
sign_cases b bytes j OpenComment s h = absurd (no_comment (b ∷ bytes) (codes "/*") h.body (drop j bytes) s.block (whole_by b bytes (codes "/*" ++ h.body) j h.parts))
sign_cases b bytes j Word s h = absurd (both_ways (is_word_byte b) (begins Word b (take j bytes) h) s.word)
sign_cases b bytes j Quoted s h = absurd (both_ways (eqb b 34) (eq-eqb b 34 (begins Quoted b (take j bytes) h)) s.quote)
sign_cases b bytes j OpenQuoted s h = absurd (both_ways (eqb b 34) (eq-eqb b 34 (begins OpenQuoted b (take j bytes) h)) s.quote)
sign_cases b bytes j Symbol s h = inl h
sign_cases b bytes j Stray s h = inr h

stray_short : (bytes : List ℕ) → IsStray bytes → length bytes ≤ 1
stray_short bytes h = omega (arith, ap length h.parts)

some_byte : (row : List ℕ) → list_any (bytes_eq row) marks ≡ true → 0 < length row
some_byte row h = ltb-true 0 (length row) (at_entry (λ next. nat_lt 0 (length next)) marks row refl h)

symbol_longest : (b : ℕ) (bytes row : List ℕ) → IsSign b bytes → find (starts_with nat_eq (b ∷ bytes)) marks ≡ Some row
    → (class : Class) (k : ℕ) → k ≤ length (b ∷ bytes) → IsPiece class (take k (b ∷ bytes)) → k ≤ length row
symbol_longest b bytes row s is class zero short piece = omega arith
symbol_longest b bytes row s is class (suc j) short piece =
    let count : length (take j bytes) ≡ j = length-take-le j bytes (omega arith) in
    ⊎_elim
    (λ mark. omega (arith, count, row_longest (b ∷ bytes) (b ∷ take j bytes) (drop j bytes) row marks (whole_by b bytes (b ∷ take j bytes) j refl) refl is mark))
    (λ stray. omega (arith, count, stray_short (b ∷ take j bytes) stray, some_byte row (found_row (b ∷ bytes) row marks is).listed))
    (sign_cases b bytes j class s piece)

symbol_first : (b : ℕ) (bytes row : List ℕ) → IsSign b bytes → find (starts_with nat_eq (b ∷ bytes)) marks ≡ Some row → IsFirst (b ∷ bytes) (Symbol, length row)
symbol_first b bytes row s is =
    let found = found_row (b ∷ bytes) row marks is in
    let front : row ≡ take (length row) (b ∷ bytes) = (bytes_eq-Decides row (take (length row) (b ∷ bytes))).0 found.begins in
    record {
      within = omega (arith, ap length front, length-take (length row) (b ∷ bytes));
      kind = subst (λ f. is_mark f ≡ true) front found.listed;
      longest = symbol_longest b bytes row s is;
    }

stray_longest : (b : ℕ) (bytes : List ℕ) → IsSign b bytes → find (starts_with nat_eq (b ∷ bytes)) marks ≡ None
    → (class : Class) (k : ℕ) → k ≤ length (b ∷ bytes) → IsPiece class (take k (b ∷ bytes)) → k ≤ 1
stray_longest b bytes s is class zero short piece = omega arith
stray_longest b bytes s is class (suc j) short piece =
    let count : length (take j bytes) ≡ j = length-take-le j bytes (omega arith) in
    ⊎_elim
    (λ mark. absurd (both_ways (is_mark (b ∷ take j bytes)) mark (row_missed (b ∷ bytes) (b ∷ take j bytes) (drop j bytes) marks (whole_by b bytes (b ∷ take j bytes) j refl) is)))
    (λ stray. omega (arith, count, stray_short (b ∷ take j bytes) stray))
    (sign_cases b bytes j class s piece)

nothing_by : (a b c d : Bool) → a ≡ false → b ≡ false → c ≡ false → d ≡ false → ((not a && not b) && (not c && not d)) ≡ true
nothing_by a b c d h k l m = rw (h, k, l, m)

stray_first : (b : ℕ) (bytes : List ℕ) → IsSign b bytes → find (starts_with nat_eq (b ∷ bytes)) marks ≡ None → IsFirst (b ∷ bytes) (Stray, 1)
stray_first b bytes s is =
    let no_mark = row_missed (b ∷ bytes) (b ∷ []) bytes marks refl is in
    record {
      within = omega arith;
      kind = record { byte = b; parts = refl; nothing = nothing_by (is_white b) (is_word_byte b) (eqb b 34) (is_mark (b ∷ [])) s.white s.word s.quote no_mark };
      longest = stray_longest b bytes s is;
    }

pub sign_first_by : (b : ℕ) (bytes : List ℕ) (o : Option (List ℕ)) → IsSign b bytes → find (starts_with nat_eq (b ∷ bytes)) marks ≡ o → IsFirst (b ∷ bytes) (sign_by (option_map length o))
sign_first_by b bytes None s is = stray_first b bytes s is
sign_first_by b bytes (Some row) s is = symbol_first b bytes row s is
