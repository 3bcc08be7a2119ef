-- Cutting a text into tokens.
use Rattle.std.proofs.Common.{◌≡◌, ℕ, zero, suc, ◌<◌, Bool, true, false, not, cond, eqb, List, [], ◌∷◌, ◌++◌, length, take, drop, refl, sym, ap, subst, inl, inr, ⊎_elim, ◌⊎◌, ◌∙◌, arith, length-append}
use Rattle.std.specs.Prelude.{Option, Some, None, position, MatchOption, if◌then◌else◌, nat_eq, nat_lt, ◌&&◌, ◌||◌, ◌==◌}
use Rattle.std.specs.List.{list_all, starts_with}
use Rattle.std.specs.Str.{bytes_eq}
use Rattle.std.specs.Cmp.Lexicographic.{pointwise}
use Rattle.std.proofs.lemmas.List.{take-append-drop, drop_all, append-nil}
use Rattle.std.proofs.lemmas.Bool.{false≢true, lt-ltb, eqb-true}
use Rattle.std.proofs.lemmas.Bool.Decides.{nat_tests}
use Rattle.std.proofs.lemmas.Slice.Eq.{bytes_eq-Decides}
use Rattle.std.proofs.Math.Seq.{drop-append_seam, take-append_seam}
use Rattle.def_slang.specs.Name.{is_word_byte}
use Rattle.def_slang.specs.Token.{is_white, ends_before, Begins, Spells, IsText}
use Rattle.sl_run.specs.Cutting.{behind, behind_white, is_word, is_mark, is_token, len_by, token_len, stage, CutsTo, Cuts}
use Rattle.sl_run.proofs.Runs.{StartsFailing, run, none_further, run_passes, run_ends, run_is, first_of_all, both_by, at_first}

pub cuts_one_more : (text : List ℕ) (tokens : List (List ℕ)) (rest token after : List ℕ) → CutsTo text tokens rest → 0 < length rest → token ≡ take (token_len rest) rest → after ≡ drop (token_len rest) rest → CutsTo text (tokens ++ token ∷ []) (behind_white after)
cuts_one_more text [] rest token after cut some front back = (
  subst (λ (r : List ℕ). 0 < length r) (sym cut) some,
  front ∙ ap (λ r. take (token_len r) r) (sym cut),
  ap behind_white (ap (λ r. drop (token_len r) r) cut ∙ sym back),
)
cuts_one_more text (first ∷ tokens) rest token after cut some front back =
    (cut.0, cut.1, cuts_one_more (drop (token_len (behind_white text)) (behind_white text)) tokens rest token after cut.2 some front back)

behind_by : (o : Option ℕ) (text : List ℕ) (k : ℕ) → MatchOption o (k ≡ length text) (λ j. (j ≡ k) × (j < length text)) → behind text o ≡ drop k text
behind_by None text k h = sym (drop_all k text (omega arith))
behind_by (Some j) text k h = ap (λ i. drop i text) h.0

-- what stands behind the white space
pub behind_is : (text : List ℕ) → behind_white text ≡ drop (run is_white text) text
behind_is text = behind_by (position (λ b. not (is_white b)) text) text (run is_white text) (at_first is_white text)

pub white_in_front : (text : List ℕ) → text ≡ take (run is_white text) text ++ behind_white text
white_in_front text =
    sym (ap (λ r. take (run is_white text) text ++ r) (behind_is text) ∙ take-append-drop (run is_white text) text)

-- the length of a token is that of the word in front
word_by : (o : Option ℕ) (text : List ℕ) (k : ℕ) → MatchOption o (suc k ≡ length text) (λ j. (j ≡ suc k) × (j < length text)) → len_by text o ≡ suc k
word_by None text k h = sym h
word_by (Some zero) text k h = absurd (omega arith)
word_by (Some (suc j)) text k h = h.0

pub word_token : (text : List ℕ) (k : ℕ) → run is_word_byte text ≡ suc k → token_len text ≡ suc k
word_token text k h = word_by (position (λ b. not (is_word_byte b)) text) text k (subst (λ n. MatchOption (position (λ b. not (is_word_byte b)) text) (n ≡ length text) (λ j. (j ≡ n) × (j < length text))) h (at_first is_word_byte text))

first_place : (b : ℕ) (rest : List ℕ) → is_word_byte b ≡ false → position (λ x. not (is_word_byte x)) (b ∷ rest) ≡ Some 0
first_place b rest h = rw (none_further is_word_byte b rest h) (ap (λ t. cond t (Some 0) None) (lt-ltb 0 (suc (length rest)) (omega arith)))

-- where no word begins, the token has nine bytes or one
pub other_token : (b : ℕ) (rest : List ℕ) → is_word_byte b ≡ false → token_len (b ∷ rest) ≡ (if starts_with nat_eq (b ∷ rest) stage then 9 else 1)
other_token b rest h = ap (len_by (b ∷ rest)) (first_place b rest h)

ends_by : (t : Bool) (b : ℕ) → is_word_byte b ≡ false → (if t then not (is_word_byte b) else true) ≡ true
ends_by true b h = ap not h
ends_by false b h = refl

ends_failing : (token after : List ℕ) → StartsFailing is_word_byte after → ends_before token after ≡ true
ends_failing token [] h = refl
ends_failing token (b ∷ after) h = ends_by (list_all is_word_byte token) b h

-- a token that begins with no byte of a word may stand before anything
ends_other : (b : ℕ) (token after : List ℕ) → is_word_byte b ≡ false → ends_before (b ∷ token) after ≡ true
ends_other b token [] h = refl
ends_other b token (c ∷ after) h = ap (λ t. if t && list_all is_word_byte token then not (is_word_byte c) else true) h

ends_special : (t : Bool) (b : ℕ) (rest after : List ℕ) → is_word_byte b ≡ false → ends_before (take (if t then 9 else 1) (b ∷ rest)) after ≡ true
ends_special true b rest after h = ends_other b (take 8 rest) after h
ends_special false b rest after h = ends_other b [] after h

-- a token ends where it is cut
cut_ends_by : (k : ℕ) (text : List ℕ) → run is_word_byte text ≡ k → 0 < length text → ends_before (take (token_len text) text) (drop (token_len text) text) ≡ true
cut_ends_by (suc k) text h some =
    ends_failing (take (token_len text) text) (drop (token_len text) text) (subst (λ (n : ℕ). StartsFailing is_word_byte (drop n text)) (h ∙ sym (word_token text k h)) (run_ends is_word_byte text))
cut_ends_by zero [] h some = absurd (omega arith)
cut_ends_by zero (b ∷ rest) h some =
    let fails : is_word_byte b ≡ false = subst (λ (n : ℕ). StartsFailing is_word_byte (drop n (b ∷ rest))) h (run_ends is_word_byte (b ∷ rest)) in
    subst (λ (n : ℕ). ends_before (take n (b ∷ rest)) (drop n (b ∷ rest)) ≡ true) (sym (other_token b rest fails))
    (ends_special (starts_with nat_eq (b ∷ rest) stage) b rest _ fails)

-- what is cut off is what the text begins with
pub cut_begins : (text : List ℕ) → 0 < length (behind_white text) → (token : List ℕ) → token ≡ take (token_len (behind_white text)) (behind_white text) → Begins text token (drop (token_len (behind_white text)) (behind_white text))
cut_begins text some token is =
    let rest = behind_white text in
    let n = token_len rest in
    subst (λ (t : List ℕ). Begins text t (drop n rest)) (sym is)
    (record {
      space = take (run is_white text) text;
      white = run_passes is_white text;
      parts = white_in_front text ∙ ap (λ r. take (run is_white text) text ++ r) (sym (take-append-drop n rest));
      ends = cut_ends_by (run is_word_byte rest) rest refl some;
    })

all_white : (text : List ℕ) → behind_white text ≡ [] → list_all is_white text ≡ true
all_white text none =
    subst (λ (t : List ℕ). list_all is_white t ≡ true)
    (sym (white_in_front text ∙ ap (λ r. take (run is_white text) text ++ r) none ∙ append-nil (take (run is_white text) text)))
    (run_passes is_white text)

pub cut_spells : (text : List ℕ) (tokens : List (List ℕ)) (rest : List ℕ) → CutsTo text tokens rest → (tail : List ℕ) × Spells text tokens tail × (behind_white tail ≡ rest)
cut_spells text [] rest cut = (text, refl, cut)
cut_spells text (token ∷ tokens) rest cut =
    let after = drop (token_len (behind_white text)) (behind_white text) in
    let r = cut_spells after tokens rest cut.2 in
    (r.0, (after, cut_begins text cut.0 token cut.1, r.1), r.2)

-- what was cut is a text of these tokens
pub cut_is_text : (text : List ℕ) (tokens : List (List ℕ)) → Cuts text tokens → IsText text tokens
cut_is_text text tokens cut =
    let r = cut_spells text tokens [] cut in
    record { rest = r.0; spelled = r.1; white = all_white r.0 r.2 }

either_by : (a b : Bool) → (a || b) ≡ true → (a ≡ true) ⊎ (b ≡ true)
either_by true b h = inl refl
either_by false b h = inr h

no_word_at : (b k : ℕ) → is_word_byte k ≡ false → is_word_byte b ≡ true → eqb b k ≡ true → ⊥
no_word_at b k fails h same = false≢true (sym fails ∙ ap is_word_byte (sym (eqb-true b k same)) ∙ h)

white_by : (w : Bool) (b : ℕ) → is_white b ≡ w → is_word_byte b ≡ true → is_white b ≡ false
white_by false b w h = w
white_by true b w h =
    let two = either_by (eqb b 32 || eqb b 9) (eqb b 10 || eqb b 13) w in
    absurd
    (⊎_elim (λ one. ⊎_elim (no_word_at b 32 refl h) (no_word_at b 9 refl h) (either_by (eqb b 32) (eqb b 9) one))
    (λ one. ⊎_elim (no_word_at b 10 refl h) (no_word_at b 13 refl h) (either_by (eqb b 10) (eqb b 13) one)) two)

word_not_white : (b : ℕ) → is_word_byte b ≡ true → is_white b ≡ false
word_not_white b h = white_by (is_white b) b refl h

-- a byte of a word begins no white space, and so on for each kind of token
abbrev IsKind : List ℕ → Type 0
IsKind token = (is_word token ≡ true) ⊎ ((token ≡ stage) ⊎ (is_mark token ≡ true))

kind_of : (token : List ℕ) → is_token token ≡ true → IsKind token
kind_of token h =
    ⊎_elim inl (λ other. ⊎_elim (λ same. inr (inl ((bytes_eq-Decides token stage).0 same))) (λ mark. inr (inr mark)) (either_by (bytes_eq token stage) (is_mark token) other)) (either_by (is_word token) (bytes_eq token stage || is_mark token) h)

-- how a token begins: with no white space, and it is as long as what is cut there
pub record IsCut (token after : List ℕ) : Type 0 where
  pub some : 0 < length token
  pub visible : StartsFailing is_white (token ++ after)
  pub len : token_len (token ++ after) ≡ length token

not_true : (b : Bool) → not b ≡ true → b ≡ false
not_true true h = absurd (false≢true h)
not_true false h = refl

starts_failing : (after : List ℕ) (token : List ℕ) → list_all is_word_byte token ≡ true → ends_before token after ≡ true → StartsFailing is_word_byte after
starts_failing [] token all ends = tt
starts_failing (b ∷ after) token all ends = not_true (is_word_byte b) (subst (λ t. (if t then not (is_word_byte b) else true) ≡ true) all ends)

word_cut : (token after : List ℕ) → is_word token ≡ true → ends_before token after ≡ true → IsCut token after
word_cut [] after word ends = absurd (false≢true word)
word_cut (b ∷ token) after word ends =
    let all : list_all is_word_byte (b ∷ token) ≡ true = (both_by (nat_lt 0 (length (b ∷ token))) (list_all is_word_byte (b ∷ token)) word).1 in
    let fails = starts_failing after (b ∷ token) all ends in
    record {
      some = omega arith;
      visible = word_not_white b (first_of_all is_word_byte b token all).0;
      len = word_token (b ∷ token ++ after) (length token) (run_is is_word_byte (b ∷ token) after all fails);
    }

stage_cut : (after : List ℕ) → IsCut stage after
stage_cut after = record { some = omega arith; visible = refl; len = other_token 34 (drop 1 stage ++ after) refl }

no_quote : (b : ℕ) → eqb b 34 ≡ false → eqb 34 b ≡ false
no_quote b h = grind (arith, nat_tests)

mark_cut : (token after : List ℕ) → is_mark token ≡ true → IsCut token after
mark_cut [] after mark = absurd (false≢true mark)
mark_cut (b ∷ c ∷ token) after mark = absurd (false≢true mark)
mark_cut (b ∷ []) after mark =
    let parts = both_by (not (is_word_byte b)) (not (is_white b) && not (b == 34)) mark in
    let others = both_by (not (is_white b)) (not (b == 34)) parts.1 in
    record {
      some = omega arith;
      visible = not_true (is_white b) others.0;
      len = other_token b after (not_true (is_word_byte b) parts.0) ∙ ap (λ t. if t && pointwise nat_eq (drop 1 stage) (take 8 after) then 9 else 1) (no_quote b (not_true (b == 34) others.1));
    }

cut_of : (token after : List ℕ) → is_token token ≡ true → ends_before token after ≡ true → IsCut token after
cut_of token after kind ends =
    ⊎_elim (λ word. word_cut token after word ends)
    (⊎_elim (λ same. subst (λ (t : List ℕ). IsCut t after) (sym same) (stage_cut after)) (mark_cut token after)) (kind_of token kind)

-- what stands behind white space is where the token begins
behind_of : (text token after : List ℕ) → is_token token ≡ true → Begins text token after → behind_white text ≡ token ++ after
behind_of text token after kind begins =
    let cut = cut_of token after kind begins.ends in
    let all = token ++ after in
    ap behind_white begins.parts ∙ behind_is (begins.space ++ all)
    ∙ ap (λ n. drop n (begins.space ++ all)) (run_is is_white begins.space all begins.white cut.visible) ∙ drop-append_seam begins.space all

no_token : (token after : List ℕ) → 0 < length token → token ++ after ≡ [] → ⊥
no_token token after some none = omega (arith, length-append token after, ap length none)

none_left : (rest : List ℕ) → list_all is_white rest ≡ true → behind_white rest ≡ []
none_left rest all =
    behind_is rest ∙ ap (λ n. drop n rest) (ap (run is_white) (sym (append-nil rest)) ∙ run_is is_white rest [] all tt) ∙ drop_all (length rest) rest (omega arith)

-- The tokens that are cut off a text are its tokens.
pub cut_is_only : (text : List ℕ) (tokens cut : List (List ℕ)) (rest : List ℕ) → list_all is_token tokens ≡ true → Spells text tokens rest → list_all is_white rest ≡ true → Cuts text cut → cut ≡ tokens
cut_is_only text [] [] rest kinds spelled white cuts = refl
cut_is_only text [] (other ∷ others) rest kinds spelled white cuts =
    absurd (omega (arith, cuts.0, ap length (ap behind_white spelled ∙ none_left rest white)))
cut_is_only text (token ∷ tokens) [] rest kinds spelled white cuts =
    let kind = both_by (is_token token) (list_all is_token tokens) kinds in
    let cut = cut_of token spelled.0 kind.0 spelled.1.ends in
    absurd (no_token token spelled.0 cut.some (sym (behind_of text token spelled.0 kind.0 spelled.1) ∙ cuts))
cut_is_only text (token ∷ tokens) (other ∷ others) rest kinds spelled white cuts =
    let kind = both_by (is_token token) (list_all is_token tokens) kinds in
    let after = spelled.0 in
    let cut = cut_of token after kind.0 spelled.1.ends in
    let behind = behind_of text token after kind.0 spelled.1 in
    let len : token_len (behind_white text) ≡ length token = ap token_len behind ∙ cut.len in
    let front : other ≡ token = cuts.1 ∙ ap (λ n. take n (behind_white text)) len ∙ ap (take (length token)) behind ∙ take-append_seam token after in
    let back : drop (token_len (behind_white text)) (behind_white text) ≡ after = ap (λ n. drop n (behind_white text)) len ∙ ap (drop (length token)) behind ∙ drop-append_seam token after in
    let more : others ≡ tokens = cut_is_only after tokens others rest kind.1 spelled.2 white (subst (λ (t : List ℕ). CutsTo t others []) back cuts.2) in
    ap (λ t. t ∷ others) front ∙ ap (λ ts. token ∷ ts) more

-- Two lists of tokens that a text is are the same.
pub spelled_once : (text : List ℕ) (tokens others : List (List ℕ)) (rest other_rest : List ℕ) → list_all is_token tokens ≡ true → list_all is_token others ≡ true → Spells text tokens rest → Spells text others other_rest → list_all is_white rest ≡ true → list_all is_white other_rest ≡ true → tokens ≡ others
spelled_once text [] [] rest other_rest kinds other_kinds spelled other_spelled white other_white = refl
spelled_once text [] (other ∷ others) rest other_rest kinds other_kinds spelled other_spelled white other_white =
    let kind = both_by (is_token other) (list_all is_token others) other_kinds in
    let cut = cut_of other other_spelled.0 kind.0 other_spelled.1.ends in
    absurd (no_token other other_spelled.0 cut.some (sym (behind_of text other other_spelled.0 kind.0 other_spelled.1) ∙ ap behind_white spelled ∙ none_left rest white))
spelled_once text (token ∷ tokens) [] rest other_rest kinds other_kinds spelled other_spelled white other_white =
    let kind = both_by (is_token token) (list_all is_token tokens) kinds in
    let cut = cut_of token spelled.0 kind.0 spelled.1.ends in
    absurd (no_token token spelled.0 cut.some (sym (behind_of text token spelled.0 kind.0 spelled.1) ∙ ap behind_white other_spelled ∙ none_left other_rest other_white))
spelled_once text (token ∷ tokens) (other ∷ others) rest other_rest kinds other_kinds spelled other_spelled white other_white =
    let kind = both_by (is_token token) (list_all is_token tokens) kinds in
    let other_kind = both_by (is_token other) (list_all is_token others) other_kinds in
    let after = spelled.0 in
    let other_after = other_spelled.0 in
    let cut = cut_of token after kind.0 spelled.1.ends in
    let other_cut = cut_of other other_after other_kind.0 other_spelled.1.ends in
    let behind : token ++ after ≡ other ++ other_after = sym (behind_of text token after kind.0 spelled.1) ∙ behind_of text other other_after other_kind.0 other_spelled.1 in
    let len : length token ≡ length other = sym cut.len ∙ ap token_len behind ∙ other_cut.len in
    let front : token ≡ other = sym (take-append_seam token after) ∙ ap (λ n. take n (token ++ after)) len ∙ ap (take (length other)) behind ∙ take-append_seam other other_after in
    let back : after ≡ other_after = sym (drop-append_seam token after) ∙ ap (λ n. drop n (token ++ after)) len ∙ ap (drop (length other)) behind ∙ drop-append_seam other other_after in
    let more : tokens ≡ others = spelled_once after tokens others rest other_rest kind.1 other_kind.1 spelled.2 (subst (λ (t : List ℕ). Spells t others other_rest) (sym back) other_spelled.2) white other_white in
    ap (λ t. t ∷ tokens) front ∙ ap (λ ts. other ∷ ts) more
