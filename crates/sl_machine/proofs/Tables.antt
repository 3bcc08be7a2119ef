-- Tables whose rows are those of a table of the functions on lists.
use Rattle.std.proofs.Common.{◌≡◌, ℕ, Bool, true, false, List, [], ◌∷◌, refl, ap, ◌∙◌, codes}
use Rattle.std.specs.Borrow.{Bor}
use Rattle.std.specs.Prelude.{Option, Some, cond, find}
use Rattle.std.specs.Option.{option_map}
use Rattle.std.specs.Str.{bytes_eq}
use Prim.Native.String.{String}
use Rattle.def_reading.specs.Machine.{written, written_by}
use Rattle.sl_machine.specs.Words.{row_in, with_text, AreRows}

text_is : {T A : Type 0} (view : T → A) (text_of : A → String) (row : Bor (List ℕ) × T) (a : A) → row_in view row ≡ with_text text_of a → row.0.now ≡ codes (text_of a)
text_is view text_of row a h = ap (λ x. x.0) h

held_is : {T A : Type 0} (view : T → A) (text_of : A → String) (row : Bor (List ℕ) × T) (a : A) → row_in view row ≡ with_text text_of a → view row.1 ≡ a
held_is view text_of row a h = ap (λ x. x.1) h

-- what a row that is found stands for
abbrev pub held_of : {T A : Type 0} → (T → A) → Option (Bor (List ℕ) × T) → Option A
held_of view found = option_map (λ row. view row.1) found

chosen : {T A : Type 0} {a : A} {rest : Option A} (view : T → A) (row : Bor (List ℕ) × T) (others : Option (Bor (List ℕ) × T)) (b : Bool) → held_of view others ≡ rest → view row.1 ≡ a
    → held_of view (cond b (Some row) others) ≡ written_by b a rest
chosen view row others true rest held = ap Some held
chosen view row others false rest held = rest

-- the row with a text stands for what is written so
pub rows_written : {T A : Type 0} (view : T → A) (text_of : A → String) (text : List ℕ) (rows : List (Bor (List ℕ) × T)) (table : List A) → AreRows view text_of table rows
    → held_of view (find (λ row. bytes_eq text row.0.now) rows) ≡ written text_of table text
rows_written view text_of text [] [] h = refl
rows_written view text_of text [] (a ∷ table) h = absurd (cc)
rows_written view text_of text (row ∷ rows) [] h = absurd (cc)
rows_written view text_of text (row ∷ rows) (a ∷ table) h =
    let same : row_in view row ≡ with_text text_of a = cc in
    chosen view row _ (bytes_eq text row.0.now) (rows_written view text_of text rows table (cc)) (held_is view text_of row a same)
    ∙ ap (λ word. written_by (bytes_eq text word) a (written text_of table text)) (text_is view text_of row a same)
