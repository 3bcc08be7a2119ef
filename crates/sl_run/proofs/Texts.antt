-- The texts of tokens: where two lists of them agree, and the text at a place.
use Rattle.std.proofs.Common.{◌≡◌, ℕ, zero, suc, Bool, true, ◌&&◌, List, [], ◌∷◌, length, get_or, refl, ap, ◌∙◌, arith}
use Rattle.std.specs.Borrow.{Bor}
use Rattle.std.specs.Str.{bytes_eq}
use Rattle.std.specs.Cmp.Lexicographic.{pointwise}
use Rattle.std.proofs.lemmas.Bool.{false≢true}
use Rattle.std.proofs.lemmas.Slice.Eq.{bytes_eq-Decides}
use Rattle.sl_run.specs.Reading.{texts}
use Rattle.sl_run.proofs.Runs.{both_by}

abbrev pub same_text : Bor (List ℕ) → Bor (List ℕ) → Bool
same_text a b = bytes_eq a.now b.now

pub texts_from_same : (xs ys : List (Bor (List ℕ))) → pointwise same_text xs ys ≡ true → texts xs ≡ texts ys
texts_from_same [] [] h = refl
texts_from_same [] (y ∷ ys) h = absurd (false≢true h)
texts_from_same (x ∷ xs) [] h = absurd (false≢true h)
texts_from_same (x ∷ xs) (y ∷ ys) h =
    let both = both_by (same_text x y) (pointwise same_text xs ys) h in
    ap (λ t. t ∷ texts xs) ((bytes_eq-Decides x.now y.now).0 both.0) ∙ ap (λ ts. y.now ∷ ts) (texts_from_same xs ys both.1)

both_true : (a b : Bool) → a ≡ true → b ≡ true → (a && b) ≡ true
both_true a b h k = rw (h, k)

pub same_from_texts : (xs ys : List (Bor (List ℕ))) → texts xs ≡ texts ys → pointwise same_text xs ys ≡ true
same_from_texts [] [] h = refl
same_from_texts [] (y ∷ ys) h = absurd (omega (arith, ap length h))
same_from_texts (x ∷ xs) [] h = absurd (omega (arith, ap length h))
same_from_texts (x ∷ xs) (y ∷ ys) h =
    let first : x.now ≡ y.now = cc in
    let others : texts xs ≡ texts ys = cc in
    both_true (same_text x y) (pointwise same_text xs ys) ((bytes_eq-Decides x.now y.now).1 first) (same_from_texts xs ys others)

-- the text of the token at a place
pub text_at : (xs : List (Bor (List ℕ))) (i : ℕ) (d : Bor (List ℕ)) → get_or (texts xs) i d.now ≡ (get_or xs i d).now
text_at [] i d = refl
text_at (x ∷ xs) zero d = refl
text_at (x ∷ xs) (suc i) d = text_at xs i d
