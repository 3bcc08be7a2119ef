-- The tests of pieces tell what pieces are.
use Rattle.std.proofs.Common.{◌≡◌, ◌∙◌, refl, sym, ap, inl, inr, ℕ, ◌-◌, Bool, true, false, not, ◌&&◌, ◌||◌, List, [], ◌∷◌, ◌++◌, length, take, drop, arith, length-append}
use Rattle.std.specs.Prelude.{codes, nat_eq, nat_le, nat_lt}
use Rattle.std.specs.List.{list_all, starts_with}
use Rattle.std.specs.Str.{bytes_eq}
use Rattle.std.proofs.Math.Seq.{drop-append_seam, take-append_seam}
use Rattle.std.proofs.lemmas.Bool.{and_parts}
use Rattle.std.proofs.lemmas.Bool.Decides.{nat_tests}
use Rattle.std.proofs.lemmas.List.{take-append-drop}
use Rattle.std.proofs.lemmas.Slice.Eq.{bytes_eq-Decides}
use Rattle.def_slang.specs.Name.{is_word_byte}
use Rattle.def_slang.specs.Token.{is_white}
use Rattle.def_token.specs.Lexeme.{Class, Space, Comment, OpenComment, Word, Quoted, OpenQuoted, Symbol, Stray, IsBlockComment, IsLineComment, IsPiece, IsRun, has_comment_end, is_in_line, is_in_quotes}
use Rattle.def_token.specs.Lexed.{ends_first_behind, is_before, is_behind, is_comment, is_piece, is_run, is_stray}

-- ---- fronts and ends

pub starts_parts : (front bytes : List ℕ) → starts_with nat_eq bytes front ≡ true
    → bytes ≡ front ++ drop (length front) bytes
starts_parts [] bytes h = refl
starts_parts (f ∷ front) [] h = absurd (cc)
starts_parts (f ∷ front) (b ∷ bytes) h =
    let both = and_parts (nat_eq f b) (starts_with nat_eq bytes front) h in
    let same : b ≡ f = grind (arith, nat_tests, both.0) in
    ap (λ x. x ∷ bytes) same ∙ ap (λ t. f ∷ t) (starts_parts front bytes both.1)

starts_at : (front body : List ℕ) → starts_with nat_eq (front ++ body) front ≡ true
starts_at [] body = refl
starts_at (f ∷ front) body =
    let same : nat_eq f f ≡ true = grind (arith, nat_tests) in
    ap (λ b. b && starts_with nat_eq (front ++ body) front) same ∙ starts_at front body

record Behind (front : List ℕ) (passes : List ℕ → Bool) (bytes : List ℕ) : Type 0 where
  body : List ℕ
  parts : bytes ≡ front ++ body
  passed : passes body ≡ true

behind_told : (front : List ℕ) (passes : List ℕ → Bool) (bytes : List ℕ) → is_behind front passes bytes ≡ true
    → Behind front passes bytes
behind_told front passes bytes h =
    let both = and_parts (starts_with nat_eq bytes front) (passes (drop (length front) bytes)) h in
    record { body = drop (length front) bytes; parts = starts_parts front bytes both.0; passed = both.1 }

behind_tested : (front : List ℕ) (passes : List ℕ → Bool) (bytes body : List ℕ) → bytes ≡ front ++ body
    → passes body ≡ true
    → is_behind front passes bytes ≡ true
behind_tested front passes bytes body parts h =
    ap (is_behind front passes) parts
    ∙ ap (λ b. b && passes (drop (length front) (front ++ body))) (starts_at front body)
    ∙ ap passes (drop-append_seam front body) ∙ h

record Before (end : List ℕ) (passes : List ℕ → Bool) (bytes : List ℕ) : Type 0 where
  body : List ℕ
  parts : bytes ≡ body ++ end
  passed : passes body ≡ true

before_told : (end : List ℕ) (passes : List ℕ → Bool) (bytes : List ℕ) → is_before end passes bytes ≡ true
    → Before end passes bytes
before_told end passes bytes h =
    let count = length bytes - length end in
    let ends = bytes_eq (drop count bytes) end in
    let some = and_parts (nat_le (length end) (length bytes)) (ends && passes (take count bytes)) h in
    let both = and_parts ends (passes (take count bytes)) some.1 in
    let end_is = (bytes_eq-Decides (drop count bytes) end).0 both.0 in
    record {
      body = take count bytes;
      parts = sym (take-append-drop count bytes) ∙ ap (λ t. take count bytes ++ t) end_is;
      passed = both.1;
    }

before_at : (end body : List ℕ) (passes : List ℕ → Bool) (count : ℕ) → count ≡ length body → passes body ≡ true
    → (bytes_eq (drop count (body ++ end)) end && passes (take count (body ++ end))) ≡ true
before_at end body passes count is h =
    rw (is, drop-append_seam body end, take-append_seam body end, h, (bytes_eq-Decides end end).1 refl) refl

before_tested : (end : List ℕ) (passes : List ℕ → Bool) (bytes body : List ℕ) → bytes ≡ body ++ end → passes body ≡ true
    → is_before end passes bytes ≡ true
before_tested end passes bytes body parts h =
    let l = length-append body end in
    let count = length (body ++ end) - length end in
    let long : nat_le (length end) (length (body ++ end)) ≡ true = grind (arith, nat_tests) in
    let is : count ≡ length body = omega (arith, l) in
    ap (is_before end passes) parts
    ∙ ap (λ b. b && (bytes_eq (drop count (body ++ end)) end && passes (take count (body ++ end)))) long
    ∙ before_at end body passes count is h

-- ---- pieces

run_told : (passes : ℕ → Bool) (bytes : List ℕ) → is_run passes bytes ≡ true → IsRun passes bytes
run_told passes bytes h =
    let both = and_parts (nat_lt 0 (length bytes)) (list_all passes bytes) h in
    record { some = grind (arith, nat_tests, both.0); all = both.1 }

run_tested : (passes : ℕ → Bool) (bytes : List ℕ) → IsRun passes bytes → is_run passes bytes ≡ true
run_tested passes bytes h =
    let some = h.some in
    let long : nat_lt 0 (length bytes) ≡ true = grind (arith, nat_tests) in
    ap (λ b. b && list_all passes bytes) long ∙ h.all

not_true : (b : Bool) → not b ≡ true → b ≡ false
not_true true h = absurd (cc)
not_true false h = refl

comment_by : (bytes : List ℕ) (a b : Bool) → is_behind (codes "//") (list_all is_in_line) bytes ≡ a
    → is_behind (codes "/*") (is_before (codes "*/") ends_first_behind) bytes ≡ b → (a || b) ≡ true
    → IsPiece Comment bytes
comment_by bytes true b t u h =
    let line = behind_told (codes "//") (list_all is_in_line) bytes t in
    inl (record { body = line.body; parts = line.parts; inside = line.passed })
comment_by bytes false true t u h =
    let block = behind_told (codes "/*") (is_before (codes "*/") ends_first_behind) bytes u in
    let rest = before_told (codes "*/") ends_first_behind block.body block.passed in
    let parts = block.parts ∙ ap (λ t. codes "/*" ++ t) rest.parts in
    inr (record { body = rest.body; parts = parts; inside = not_true _ rest.passed })
comment_by bytes false false t u h = absurd (cc)

quoted_told : (bytes : List ℕ) → is_piece Quoted bytes ≡ true → IsPiece Quoted bytes
quoted_told bytes h =
    let open_part = behind_told (codes "\"") (is_before (codes "\"") (list_all is_in_quotes)) bytes h in
    let rest = before_told (codes "\"") (list_all is_in_quotes) open_part.body open_part.passed in
    record { body = rest.body; parts = open_part.parts ∙ ap (λ t. codes "\"" ++ t) rest.parts; inside = rest.passed }

stray_told : (bytes : List ℕ) → is_stray bytes ≡ true → IsPiece Stray bytes
stray_told [] h = absurd (cc)
stray_told (b ∷ []) h = record { byte = b; parts = refl; nothing = h }
stray_told (b ∷ c ∷ bytes) h = absurd (cc)

pub piece_told : (class : Class) (bytes : List ℕ) → is_piece class bytes ≡ true → IsPiece class bytes
piece_told Space bytes h = run_told is_white bytes h
piece_told Comment bytes h = comment_by bytes _ _ refl refl h
piece_told OpenComment bytes h =
    let part = behind_told (codes "/*") (λ body. not (has_comment_end body)) bytes h in
    record { body = part.body; parts = part.parts; inside = not_true _ part.passed }
piece_told Word bytes h = run_told is_word_byte bytes h
piece_told Quoted bytes h = quoted_told bytes h
piece_told OpenQuoted bytes h =
    let part = behind_told (codes "\"") (list_all is_in_quotes) bytes h in
    record { body = part.body; parts = part.parts; inside = part.passed }
piece_told Symbol bytes h = h
piece_told Stray bytes h = stray_told bytes h

line_tested : (bytes : List ℕ) → IsLineComment bytes → is_comment bytes ≡ true
line_tested bytes h = rw (behind_tested (codes "//") (list_all is_in_line) bytes h.body h.parts h.inside) refl

or_second : (a b : Bool) → b ≡ true → (a || b) ≡ true
or_second true b h = refl
or_second false b h = h

block_tested : (bytes : List ℕ) → IsBlockComment bytes → is_comment bytes ≡ true
block_tested bytes h =
    or_second _ _
    (behind_tested (codes "/*") (is_before (codes "*/") ends_first_behind) bytes (h.body ++ codes "*/") h.parts
    (before_tested (codes "*/") ends_first_behind (h.body ++ codes "*/") h.body refl (ap not h.inside)))

pub piece_tested : (class : Class) (bytes : List ℕ) → IsPiece class bytes → is_piece class bytes ≡ true
piece_tested Space bytes h = run_tested is_white bytes h
piece_tested Comment bytes (inl h) = line_tested bytes h
piece_tested Comment bytes (inr h) = block_tested bytes h
piece_tested OpenComment bytes h =
    behind_tested (codes "/*") (λ body. not (has_comment_end body)) bytes h.body h.parts (ap not h.inside)
piece_tested Word bytes h = run_tested is_word_byte bytes h
piece_tested Quoted bytes h =
    behind_tested (codes "\"") (is_before (codes "\"") (list_all is_in_quotes)) bytes (h.body ++ codes "\"") h.parts
    (before_tested (codes "\"") (list_all is_in_quotes) (h.body ++ codes "\"") h.body refl h.inside)
piece_tested OpenQuoted bytes h = behind_tested (codes "\"") (list_all is_in_quotes) bytes h.body h.parts h.inside
piece_tested Symbol bytes h = h
piece_tested Stray bytes h = ap is_stray h.parts ∙ h.nothing
