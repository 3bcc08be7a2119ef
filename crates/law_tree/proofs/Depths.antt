-- The depths of brackets and of blocks along the tokens of a tree, and what its entries tell at them.
use Rattle.std.proofs.Common.{◌≡◌, ℕ, suc, ◌+◌, ◌<◌, Bool, true, false, List, [], ◌∷◌, ◌++◌, length, refl, sym, ap, ◌∙◌, arith}
use Rattle.std.specs.Prelude.{Some, cond, slice_get, ◌||◌}
use Rattle.std.specs.List.{count_by}
use Rattle.std.proofs.lemmas.Bool.{false≢true}
use Rattle.std.proofs.lemmas.List.Sums.{sum_by-cons}
use Prim.Native.String.{String}
use Rattle.def_token.specs.Lexical.{Token}
use Rattle.def_tree.specs.Limits.{Entry}
use Rattle.def_tree.specs.Marks.{opens_bracket, closes_bracket, opens_brace, closes_brace, ends_with}
use Rattle.def_tree.specs.Symbol.{Symbol, symbol, is_sign, Is}

-- what a symbol does to brackets and to braces: it opens one, or closes one, of the first kind or of the second
abbrev pub Turn : Type 0
Turn = Bool × (Bool × (Bool × Bool))

abbrev pub turn : Symbol → Turn
turn s = (is_sign "(" s || is_sign "[" s, (is_sign ")" s || is_sign "]" s, (is_sign "{" s, is_sign "}" s)))

-- nothing
abbrev pub stays : Turn
stays = (false, (false, (false, false)))

abbrev pub opens_round : Turn
opens_round = (true, (false, (false, false)))

abbrev pub closes_round : Turn
closes_round = (false, (true, (false, false)))

abbrev pub opens_curly : Turn
opens_curly = (false, (false, (true, false)))

abbrev pub closes_curly : Turn
closes_curly = (false, (false, (false, true)))

-- From a depth of brackets and one of braces tokens come to others, each with an entry. An entry fits the depth that its
-- token comes to, if this opens a bracket or a block; the brace behind `=` opens no block.
mutual
  pub data Runs (Fits : ℕ → Entry → Type 0) : ℕ → ℕ → List Token → List Entry → ℕ → ℕ → List Token → Type 0 where
    here : {b c : ℕ} {rest : List Token} → Runs Fits b c rest [] b c rest
    passes : {b c b' c' : ℕ} {token : Token} {entry : Entry} {tokens rest : List Token} {entries : List Entry}
        → turn (symbol token) ≡ stays → Runs Fits b c tokens entries b' c' rest
        → Runs Fits b c (token ∷ tokens) (entry ∷ entries) b' c' rest
    enters : {b c b' c' : ℕ} {token : Token} {entry : Entry} {tokens rest : List Token} {entries : List Entry}
        → turn (symbol token) ≡ opens_round → Fits (suc b) entry → Runs Fits (suc b) c tokens entries b' c' rest
        → Runs Fits b c (token ∷ tokens) (entry ∷ entries) b' c' rest
    leaves : {b c b' c' : ℕ} {token : Token} {entry : Entry} {tokens rest : List Token} {entries : List Entry}
        → turn (symbol token) ≡ closes_round → Runs Fits b c tokens entries b' c' rest
        → Runs Fits (suc b) c (token ∷ tokens) (entry ∷ entries) b' c' rest
    begins : {b c b' c' : ℕ} {token : Token} {entry : Entry} {tokens rest : List Token} {entries : List Entry}
        → turn (symbol token) ≡ opens_curly → Fits (suc c) entry → Runs Fits b (suc c) tokens entries b' c' rest
        → Runs Fits b c (token ∷ tokens) (entry ∷ entries) b' c' rest
    ends : {b c b' c' : ℕ} {token : Token} {entry : Entry} {tokens rest : List Token} {entries : List Entry}
        → turn (symbol token) ≡ closes_curly → Runs Fits b c tokens entries b' c' rest
        → Runs Fits b (suc c) (token ∷ tokens) (entry ∷ entries) b' c' rest
    gives : {b c b' c' : ℕ} {token : Token} {entry : Entry} {tokens rest : List Token} {entries : List Entry}
        → Is "=" token → Lists Fits b c tokens entries b' c' rest
        → Runs Fits b c (token ∷ tokens) (entry ∷ entries) b' c' rest

  -- the same from the brace of an initialiser on, which stands behind `=`
  pub data Lists (Fits : ℕ → Entry → Type 0) : ℕ → ℕ → List Token → List Entry → ℕ → ℕ → List Token → Type 0 where
    lists : {b c b' c' : ℕ} {token : Token} {entry : Entry} {tokens rest : List Token} {entries : List Entry}
        → turn (symbol token) ≡ opens_curly → Runs Fits b (suc c) tokens entries b' c' rest
        → Lists Fits b c (token ∷ tokens) (entry ∷ entries) b' c' rest

module _ {Fits : ℕ → Entry → Type 0} where
  -- one run behind another
  pub runs_on : {b c b' c' b'' c'' : ℕ} {tokens behind rest : List Token} {these those : List Entry}
      → Runs Fits b c tokens these b' c' behind → Runs Fits b' c' behind those b'' c'' rest
      → Runs Fits b c tokens (these ++ those) b'' c'' rest
  runs_on here q = q
  runs_on (passes t p) q = passes t (runs_on p q)
  runs_on (enters t f p) q = enters t f (runs_on p q)
  runs_on (leaves t p) q = leaves t (runs_on p q)
  runs_on (begins t f p) q = begins t f (runs_on p q)
  runs_on (ends t p) q = ends t (runs_on p q)
  runs_on (gives e (lists t p)) q = gives e (lists t (runs_on p q))

-- what an entry tells behind tokens, of which some open and some close a form
pub record Told (Fits : ℕ → Entry → Type 0) (depth opening closing : ℕ) (entries : List Entry) (at : ℕ) : Type 0 where
  pub inside : ℕ
  pub entry : Entry
  pub is : depth + opening ≡ inside + closing
  pub stands : slice_get entries at ≡ Some entry
  pub fits : Fits (suc inside) entry

-- how many tokens pass a test, with one more before them
counts : (test : Token → Bool) (x : Token) (all : List Token) (b : Bool) → test x ≡ b → count_by test (x ∷ all) ≡ cond b 1 0 + count_by test all
counts test x all b h = sum_by-cons (λ x. cond (test x) 1 0) x all ∙ ap (λ b. cond b 1 0 + count_by test all) h

module _ {Fits : ℕ → Entry → Type 0} where
  -- the same is told with a token more before, which opens a form, or closes one, or neither
  later : (opens closes : Token → Bool) (x : Token) (before : List Token) (o c : Bool) {depth depth' at : ℕ} {entries : List Entry} {entry : Entry}
      → opens x ≡ o → closes x ≡ c → depth' + cond c 1 0 ≡ depth + cond o 1 0
      → Told Fits depth' (count_by opens before) (count_by closes before) entries at
      → Told Fits depth (count_by opens (x ∷ before)) (count_by closes (x ∷ before)) (entry ∷ entries) (suc at)
  later opens closes x before o c h k d told =
      record {
        inside = told.inside;
        entry = told.entry;
        is = omega (arith, d, told.is, counts opens x before o h, counts closes x before c k);
        stands = told.stands;
        fits = told.fits;
      }

  -- the same is told behind a token that does this
  bracket_later : {t : Turn} {depth depth' at : ℕ} {entries : List Entry} {entry : Entry} (x : Token) (before : List Token)
      → turn (symbol x) ≡ t → depth' + cond t.1.0 1 0 ≡ depth + cond t.0 1 0
      → Told Fits depth' (count_by opens_bracket before) (count_by closes_bracket before) entries at
      → Told Fits depth (count_by opens_bracket (x ∷ before)) (count_by closes_bracket (x ∷ before)) (entry ∷ entries) (suc at)
  bracket_later {t = t} x before h d told =
      later opens_bracket closes_bracket x before t.0 t.1.0 (ap (λ (t : Turn). t.0) h) (ap (λ (t : Turn). t.1.0) h) d told

  brace_later : {t : Turn} {depth depth' at : ℕ} {entries : List Entry} {entry : Entry} (x : Token) (before : List Token)
      → turn (symbol x) ≡ t → depth' + cond t.1.1.1 1 0 ≡ depth + cond t.1.1.0 1 0
      → Told Fits depth' (count_by opens_brace before) (count_by closes_brace before) entries at
      → Told Fits depth (count_by opens_brace (x ∷ before)) (count_by closes_brace (x ∷ before)) (entry ∷ entries) (suc at)
  brace_later {t = t} x before h d told =
      later opens_brace closes_brace x before t.1.1.0 t.1.1.1 (ap (λ (t : Turn). t.1.1.0) h) (ap (λ (t : Turn). t.1.1.1) h) d told

-- a token that opens a bracket, or a brace, does nothing else
no_bracket : {A : Type 0} (token : Token) (t : Turn) → turn (symbol token) ≡ t → t.0 ≡ false → opens_bracket token ≡ true → A
no_bracket token t h none is = absurd (false≢true (sym none ∙ ap (λ (t : Turn). t.0) (sym h) ∙ is))

no_brace : {A : Type 0} (token : Token) (t : Turn) → turn (symbol token) ≡ t → t.1.1.0 ≡ false → opens_brace token ≡ true → A
no_brace token t h none is = absurd (false≢true (sym none ∙ ap (λ (t : Turn). t.1.1.0) (sym h) ∙ is))

-- behind more tokens the last one is the same
behind_more : (sign : String) (x : Token) (tokens : List Token) → ends_with sign (x ∷ tokens) ≡ false → ends_with sign tokens ≡ false
behind_more sign x [] h = refl
behind_more sign x (y ∷ tokens) h = h

module _ {Fits : ℕ → Entry → Type 0} where
  mutual
    -- what is told at a token that opens a bracket
    pub at_bracket : {b c b' c' : ℕ} {entries : List Entry} {rest : List Token} (before : List Token) (token : Token) (behind : List Token)
        → Runs Fits b c (before ++ token ∷ behind) entries b' c' rest → length before < length entries → opens_bracket token ≡ true
        → Told Fits b (count_by opens_bracket before) (count_by closes_bracket before) entries (length before)
    at_bracket [] token behind here within is = absurd (omega (arith, within))
    at_bracket [] token behind (passes t p) within is = no_bracket token stays t refl is
    at_bracket {b = b} [] token behind (enters {entry = entry} t f p) within is =
        record { inside = b; entry = entry; is = refl; stands = refl; fits = f }
    at_bracket [] token behind (leaves t p) within is = no_bracket token closes_round t refl is
    at_bracket [] token behind (begins t f p) within is = no_bracket token opens_curly t refl is
    at_bracket [] token behind (ends t p) within is = no_bracket token closes_curly t refl is
    at_bracket [] token behind (gives e l) within is = no_bracket token stays (ap turn e) refl is
    at_bracket (x ∷ before) token behind here within is = absurd (omega (arith, within))
    at_bracket (x ∷ before) token behind (passes t p) within is =
        bracket_later x before t refl (at_bracket before token behind p (omega (arith, within)) is)
    at_bracket (x ∷ before) token behind (enters t f p) within is =
        bracket_later x before t (omega arith) (at_bracket before token behind p (omega (arith, within)) is)
    at_bracket (x ∷ before) token behind (leaves t p) within is =
        bracket_later x before t (omega arith) (at_bracket before token behind p (omega (arith, within)) is)
    at_bracket (x ∷ before) token behind (begins t f p) within is =
        bracket_later x before t refl (at_bracket before token behind p (omega (arith, within)) is)
    at_bracket (x ∷ before) token behind (ends t p) within is =
        bracket_later x before t refl (at_bracket before token behind p (omega (arith, within)) is)
    at_bracket (x ∷ before) token behind (gives e l) within is =
        bracket_later x before (ap turn e) refl (at_listed_bracket before token behind l (omega (arith, within)) is)

    at_listed_bracket : {b c b' c' : ℕ} {entries : List Entry} {rest : List Token} (before : List Token) (token : Token) (behind : List Token)
        → Lists Fits b c (before ++ token ∷ behind) entries b' c' rest → length before < length entries → opens_bracket token ≡ true
        → Told Fits b (count_by opens_bracket before) (count_by closes_bracket before) entries (length before)
    at_listed_bracket [] token behind (lists t p) within is = no_bracket token opens_curly t refl is
    at_listed_bracket (x ∷ before) token behind (lists t p) within is =
        bracket_later x before t refl (at_bracket before token behind p (omega (arith, within)) is)

  mutual
    -- what is told at a token that opens a block
    pub at_block : {b c b' c' : ℕ} {entries : List Entry} {rest : List Token} (before : List Token) (token : Token) (behind : List Token)
        → Runs Fits b c (before ++ token ∷ behind) entries b' c' rest → length before < length entries
        → opens_brace token ≡ true → ends_with "=" before ≡ false
        → Told Fits c (count_by opens_brace before) (count_by closes_brace before) entries (length before)
    at_block [] token behind here within is un = absurd (omega (arith, within))
    at_block [] token behind (passes t p) within is un = no_brace token stays t refl is
    at_block [] token behind (enters t f p) within is un = no_brace token opens_round t refl is
    at_block [] token behind (leaves t p) within is un = no_brace token closes_round t refl is
    at_block {c = c} [] token behind (begins {entry = entry} t f p) within is un =
        record { inside = c; entry = entry; is = refl; stands = refl; fits = f }
    at_block [] token behind (ends t p) within is un = no_brace token closes_curly t refl is
    at_block [] token behind (gives e l) within is un = no_brace token stays (ap turn e) refl is
    at_block (x ∷ before) token behind here within is un = absurd (omega (arith, within))
    at_block (x ∷ before) token behind (passes t p) within is un =
        brace_later x before t refl (at_block before token behind p (omega (arith, within)) is (behind_more "=" x before un))
    at_block (x ∷ before) token behind (enters t f p) within is un =
        brace_later x before t refl (at_block before token behind p (omega (arith, within)) is (behind_more "=" x before un))
    at_block (x ∷ before) token behind (leaves t p) within is un =
        brace_later x before t refl (at_block before token behind p (omega (arith, within)) is (behind_more "=" x before un))
    at_block (x ∷ before) token behind (begins t f p) within is un =
        brace_later x before t (omega arith) (at_block before token behind p (omega (arith, within)) is (behind_more "=" x before un))
    at_block (x ∷ before) token behind (ends t p) within is un =
        brace_later x before t (omega arith) (at_block before token behind p (omega (arith, within)) is (behind_more "=" x before un))
    at_block (x ∷ before) token behind (gives e l) within is un =
        brace_later x before (ap turn e) refl (at_listed_block x before token behind e l (omega (arith, within)) is un)

    at_listed_block : {b c b' c' : ℕ} {entries : List Entry} {rest : List Token} (x : Token) (before : List Token) (token : Token) (behind : List Token)
        → Is "=" x → Lists Fits b c (before ++ token ∷ behind) entries b' c' rest → length before < length entries
        → opens_brace token ≡ true → ends_with "=" (x ∷ before) ≡ false
        → Told Fits c (count_by opens_brace before) (count_by closes_brace before) entries (length before)
    at_listed_block x [] token behind e (lists t p) within is un = absurd (false≢true (sym un ∙ ap (is_sign "=") e))
    at_listed_block x (y ∷ before) token behind e (lists t p) within is un =
        brace_later y before t (omega arith) (at_block before token behind p (omega (arith, within)) is (behind_more "=" y before un))
