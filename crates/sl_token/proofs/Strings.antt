-- Strings: the piece that begins with a quotation mark.
use Rattle.std.proofs.Common.{◌≡◌, ℕ, zero, suc, ◌+◌, ◌<◌, ◌≤◌, Bool, true, false, eqb, ltb, ◌&&◌, List, [], ◌∷◌, ◌++◌, length, take, drop, get_or, refl, sym, ap, subst, ◌∙◌, ◌⊎◌, inl, inr, ⊎_elim, arith, append_assoc, length-append}
use Rattle.std.specs.Prelude.{if◌then◌else◌, codes}
use Rattle.std.specs.List.{list_all, prefix_len}
use Rattle.std.proofs.lemmas.Bool.{and_parts, and_from, false≢true, eqb-true, eq-eqb, ltb-true, lt-ltb}
use Rattle.std.proofs.lemmas.List.{length-take-le, take-append-drop}
use Rattle.std.proofs.lemmas.List.Sums.{prefix_len-le-length}
use Rattle.std.proofs.Math.Seq.{get_or-append_seam, take-suc}
use Rattle.def_token.specs.Lexeme.{Class, Space, Comment, OpenComment, Word, Quoted, OpenQuoted, Symbol, Stray, IsPiece, IsQuoted, IsOpenQuoted, is_in_quotes}
use Rattle.sl_token.specs.Cutting.{quoted}
use Rattle.sl_token.proofs.Runs.{front_passes, front_longest, front_is}
use Rattle.sl_token.proofs.Heads.{IsFirst, add-two, add-one', tail_is, begins, apart}

-- strings: a piece that begins with a quotation mark
quote_cases : (class : Class) (bytes : List ℕ) → IsPiece class (34 ∷ bytes) → IsQuoted (34 ∷ bytes) ⊎ IsOpenQuoted (34 ∷ bytes)
quote_cases Space bytes h = absurd (false≢true h.all)
quote_cases Comment bytes h = absurd (apart 34 47 refl (begins Comment 34 bytes h))
quote_cases OpenComment bytes h = absurd (apart 34 47 refl (begins OpenComment 34 bytes h))
quote_cases Word bytes h = absurd (false≢true h.all)
quote_cases Quoted bytes h = inl h
quote_cases OpenQuoted bytes h = inr h
quote_cases Symbol bytes h = absurd (false≢true h)
quote_cases Stray bytes h = absurd (false≢true (begins Stray 34 bytes h))

-- a string's closing quotation mark is the first byte that cannot stand inside
closes_at : (inside body rest : List ℕ) → list_all is_in_quotes inside ≡ true → body ≡ inside ++ 34 ∷ rest → (prefix_len is_in_quotes body ≡ length inside) × (get_or body (length inside) 0 ≡ 34)
closes_at inside body rest all parts = (
  ap (prefix_len is_in_quotes) parts ∙ front_is is_in_quotes inside 34 rest all refl,
  ap (λ bs. get_or bs (length inside) 0) parts ∙ get_or-append_seam inside 34 rest 0,
)

quoted_front : (body : List ℕ) (j : ℕ) → IsQuoted (34 ∷ take j body) → j ≤ length body
    → (j ≡ prefix_len is_in_quotes body + 1) × (get_or body (prefix_len is_in_quotes body) 0 ≡ 34)
quoted_front body j h short =
    let front : take j body ≡ h.body ++ 34 ∷ [] = tail_is 34 34 (take j body) (h.body ++ codes "\"") h.parts in
    let whole : body ≡ h.body ++ 34 ∷ drop j body =
    sym (take-append-drop j body) ∙ ap (λ f. f ++ drop j body) front ∙ append_assoc h.body (34 ∷ []) (drop j body) in
    let at = closes_at h.body body (drop j body) h.inside whole in
    (omega (arith, at.0, ap length front, length-append h.body (34 ∷ []), length-take-le j body short), ap (λ n. get_or body n 0) at.0 ∙ at.1)

quoted_longest : (body : List ℕ) (class : Class) (k : ℕ) → k ≤ length (34 ∷ body) → IsPiece class (take k (34 ∷ body)) → k ≤ prefix_len is_in_quotes body + 2
quoted_longest body class zero short piece = omega arith
quoted_longest body class (suc j) short piece =
    ⊎_elim (λ closed. omega (arith, (quoted_front body j closed (omega arith)).0))
    (λ (unclosed : IsOpenQuoted (34 ∷ take j body)).
    let inside = subst (λ bs. list_all is_in_quotes bs ≡ true) (sym (tail_is 34 34 (take j body) unclosed.body unclosed.parts)) unclosed.inside in
    omega (arith, front_longest is_in_quotes body j (omega arith) inside))
    (quote_cases class (take j body) piece)

open_quoted_longest : (body : List ℕ) → (get_or body (prefix_len is_in_quotes body) 0 ≡ 34 → ⊥) → (class : Class) (k : ℕ) → k ≤ length (34 ∷ body) → IsPiece class (take k (34 ∷ body)) → k ≤ prefix_len is_in_quotes body + 1
open_quoted_longest body unclosed class zero short piece = omega arith
open_quoted_longest body unclosed class (suc j) short piece =
    ⊎_elim (λ closed. absurd (unclosed (quoted_front body j closed (omega arith)).1))
    (λ (front : IsOpenQuoted (34 ∷ take j body)).
    let inside = subst (λ bs. list_all is_in_quotes bs ≡ true) (sym (tail_is 34 34 (take j body) front.body front.parts)) front.inside in
    omega (arith, front_longest is_in_quotes body j (omega arith) inside))
    (quote_cases class (take j body) piece)

closed_first : (body : List ℕ) → prefix_len is_in_quotes body < length body → get_or body (prefix_len is_in_quotes body) 0 ≡ 34 → IsFirst (34 ∷ body) (Quoted, prefix_len is_in_quotes body + 2)
closed_first body some at =
    let n = prefix_len is_in_quotes body in
    let close : take (suc n) body ≡ take n body ++ 34 ∷ [] = take-suc body n 0 some ∙ ap (λ b. take n body ++ b ∷ []) at in
    record {
      within = omega arith;
      kind = subst (λ m. IsPiece Quoted (take m (34 ∷ body))) (add-two n)
          (record { body = take n body; parts = ap (λ bs. 34 ∷ bs) close; inside = front_passes is_in_quotes body });
      longest = quoted_longest body;
    }

open_first : (body : List ℕ) → (get_or body (prefix_len is_in_quotes body) 0 ≡ 34 → ⊥) → IsFirst (34 ∷ body) (OpenQuoted, prefix_len is_in_quotes body + 1)
open_first body unclosed =
    let n = prefix_len is_in_quotes body in
    record {
      within = omega (arith, prefix_len-le-length is_in_quotes body);
      kind = subst (λ m. IsPiece OpenQuoted (take m (34 ∷ body))) (add-one' n)
          (record { body = take n body; parts = refl; inside = front_passes is_in_quotes body });
      longest = open_quoted_longest body unclosed;
    }

-- past the end of a list stands a zero, and no quotation mark
inside_if : (body : List ℕ) (n : ℕ) → get_or body n 0 ≡ 34 → n < length body
inside_if [] n h = absurd (omega (arith, h))
inside_if (b ∷ body) zero h = omega arith
inside_if (b ∷ body) (suc n) h = omega (arith, inside_if body n h)

not_closed : (body : List ℕ) → (ltb (prefix_len is_in_quotes body) (length body) && eqb (get_or body (prefix_len is_in_quotes body) 0) 34) ≡ false → get_or body (prefix_len is_in_quotes body) 0 ≡ 34 → ⊥
not_closed body h at =
    let n = prefix_len is_in_quotes body in
    false≢true (sym h ∙ and_from (ltb n (length body)) (eqb (get_or body n 0) 34) (lt-ltb n (length body) (inside_if body n at)) (eq-eqb (get_or body n 0) 34 at))

quoted_by : (body : List ℕ) (b : Bool) → (ltb (prefix_len is_in_quotes body) (length body) && eqb (get_or body (prefix_len is_in_quotes body) 0) 34) ≡ b
    → IsFirst (34 ∷ body) (if b then (Quoted, prefix_len is_in_quotes body + 2) else (OpenQuoted, prefix_len is_in_quotes body + 1))
quoted_by body true h =
    let both = and_parts (ltb (prefix_len is_in_quotes body) (length body)) (eqb (get_or body (prefix_len is_in_quotes body) 0) 34) h in
    closed_first body (ltb-true (prefix_len is_in_quotes body) (length body) both.0) (eqb-true (get_or body (prefix_len is_in_quotes body) 0) 34 both.1)
quoted_by body false h = open_first body (not_closed body h)

pub quoted_first : (body : List ℕ) → IsFirst (34 ∷ body) (quoted body)
quoted_first body = quoted_by body (ltb (prefix_len is_in_quotes body) (length body) && eqb (get_or body (prefix_len is_in_quotes body) 0) 34) refl
