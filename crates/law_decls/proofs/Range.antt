-- What tokens begin with.
use Rattle.std.proofs.Common.{◌≡◌, ◌⊎◌, inl, inr, ⊎_elim, Bool, true, false, List, [], ◌∷◌, ◌++◌, refl, ap, ◌∙◌}
use Rattle.std.specs.Prelude.{◌&&◌, ◌||◌}
use Rattle.std.specs.Str.{bytes_eq}
use Rattle.std.proofs.lemmas.Bool.{false≢true, and_from, and_parts, or_left, or_right}
use Rattle.std.proofs.lemmas.Slice.Eq.{bytes_eq-Decides}
use Rattle.def_token.specs.Lexical.{Token}
use Rattle.def_tree.specs.Symbol.{Symbol, Name, Number, Text, End, Sign, symbol}
use Rattle.def_decl_reading.specs.Form.{begins}

-- two truth values are one
abbrev pub same_truth : Bool → Bool → Bool
same_truth true true = true
same_truth true false = false
same_truth false true = false
same_truth false false = true

truth_is : (one other : Bool) → same_truth one other ≡ true → other ≡ one
truth_is true true h = refl
truth_is true false h = absurd (false≢true h)
truth_is false true h = absurd (false≢true h)
truth_is false false h = refl

-- the symbol is this one
abbrev pub is_symbol : Symbol → Symbol → Bool
is_symbol Name Name = true
is_symbol Name _ = false
is_symbol (Number wide) (Number other) = same_truth wide other
is_symbol (Number wide) _ = false
is_symbol Text Text = true
is_symbol Text _ = false
is_symbol End End = true
is_symbol End _ = false
is_symbol (Sign sign) (Sign text) = bytes_eq text sign
is_symbol (Sign sign) _ = false

-- what the test passes is this one
symbol_is : (one s : Symbol) → is_symbol one s ≡ true → s ≡ one
symbol_is Name Name h = refl
symbol_is (Number wide) (Number other) h = ap Number (truth_is wide other h)
symbol_is Text Text h = refl
symbol_is End End h = refl
symbol_is (Sign sign) (Sign text) h = ap Sign ((bytes_eq-Decides text sign).0 h)
symbol_is Name (Number wide) h = absurd (false≢true h)
symbol_is Name Text h = absurd (false≢true h)
symbol_is Name End h = absurd (false≢true h)
symbol_is Name (Sign text) h = absurd (false≢true h)
symbol_is (Number wide) Name h = absurd (false≢true h)
symbol_is (Number wide) Text h = absurd (false≢true h)
symbol_is (Number wide) End h = absurd (false≢true h)
symbol_is (Number wide) (Sign text) h = absurd (false≢true h)
symbol_is Text Name h = absurd (false≢true h)
symbol_is Text (Number wide) h = absurd (false≢true h)
symbol_is Text End h = absurd (false≢true h)
symbol_is Text (Sign text) h = absurd (false≢true h)
symbol_is End Name h = absurd (false≢true h)
symbol_is End (Number wide) h = absurd (false≢true h)
symbol_is End Text h = absurd (false≢true h)
symbol_is End (Sign text) h = absurd (false≢true h)
symbol_is (Sign sign) Name h = absurd (false≢true h)
symbol_is (Sign sign) (Number wide) h = absurd (false≢true h)
symbol_is (Sign sign) Text h = absurd (false≢true h)
symbol_is (Sign sign) End h = absurd (false≢true h)

-- each symbol is itself
symbol_same : (s : Symbol) → is_symbol s s ≡ true
symbol_same Name = refl
symbol_same (Number true) = refl
symbol_same (Number false) = refl
symbol_same Text = refl
symbol_same End = refl
symbol_same (Sign text) = (bytes_eq-Decides text text).1 refl

-- the symbol is one of these
abbrev pub among : List Symbol → Symbol → Bool
among [] s = false
among (one ∷ more) s = is_symbol one s || among more s

-- each of these passes a test
abbrev pub all_pass : (Symbol → Bool) → List Symbol → Bool
all_pass test [] = true
all_pass test (one ∷ more) = test one && all_pass test more

-- false, or the other truth value
abbrev unless : Bool → Bool → Bool
unless true b = false
unless false b = b

-- none of these passes a test
abbrev pub none_passes : (Symbol → Bool) → List Symbol → Bool
none_passes test [] = true
none_passes test (one ∷ more) = unless (test one) (none_passes test more)

-- one of two tests passes
or_either : (a b : Bool) → (a || b) ≡ true → (a ≡ true) ⊎ (b ≡ true)
or_either true b h = inl refl
or_either false b h = inr h

-- the one is false, and the other true
unless_parts : (a b : Bool) → unless a b ≡ true → (a ≡ false) × (b ≡ true)
unless_parts true b h = absurd (false≢true h)
unless_parts false b h = (refl, h)

-- what all of some symbols pass each of them passes
among_passes : (test : Symbol → Bool) (symbols : List Symbol) (s : Symbol) → all_pass test symbols ≡ true → among symbols s ≡ true → test s ≡ true
among_passes test [] s all h = absurd (false≢true h)
among_passes test (one ∷ more) s all h =
    let both = and_parts (test one) (all_pass test more) all in
    ⊎_elim (λ is. ap test (symbol_is one s is) ∙ both.0) (λ rest. among_passes test more s both.1 rest) (or_either (is_symbol one s) (among more s) h)

-- what none of some symbols passes none of them passes
among_avoids : (test : Symbol → Bool) (symbols : List Symbol) (s : Symbol) → none_passes test symbols ≡ true → among symbols s ≡ true → test s ≡ false
among_avoids test [] s none h = absurd (false≢true h)
among_avoids test (one ∷ more) s none h =
    let both = unless_parts (test one) (none_passes test more) none in
    ⊎_elim (λ is. ap test (symbol_is one s is) ∙ both.0) (λ rest. among_avoids test more s both.1 rest) (or_either (is_symbol one s) (among more s) h)

-- symbols beside others
among_left : (one other : List Symbol) (s : Symbol) → among one s ≡ true → among (one ++ other) s ≡ true
among_left [] other s h = absurd (false≢true h)
among_left (a ∷ more) other s h =
    ⊎_elim (λ is. or_left (is_symbol a s) (among (more ++ other) s) is) (λ rest. or_right (is_symbol a s) (among (more ++ other) s) (among_left more other s rest)) (or_either (is_symbol a s) (among more s) h)

-- and the others
among_right : (one other : List Symbol) (s : Symbol) → among other s ≡ true → among (one ++ other) s ≡ true
among_right [] other s h = h
among_right (a ∷ more) other s h = or_right (is_symbol a s) (among (more ++ other) s) (among_right more other s h)

-- what tokens begin with: with anything, or with one of some symbols
pub data Range : Type 0 where
  Anything : Range
  Among : List Symbol → Range

-- tokens that begin so
abbrev pub In : Range → List Token → Type 0
In Anything tokens = Unit {0}
In (Among symbols) tokens = begins (among symbols) tokens ≡ true

-- one symbol more
abbrev pub with_symbol : Symbol → Range → Range
with_symbol one Anything = Anything
with_symbol one (Among symbols) = Among (one ∷ symbols)

-- one of two ranges
abbrev pub joined : Range → Range → Range
joined Anything other = Anything
joined (Among one) Anything = Anything
joined (Among one) (Among other) = Among (one ++ other)

-- all that is in one range is in the other
abbrev pub within : Range → Range → Bool
within one Anything = true
within Anything (Among other) = false
within (Among one) (Among other) = all_pass (among other) one

-- no symbol in the range passes a test
abbrev pub avoids : (Symbol → Bool) → Range → Bool
avoids test Anything = false
avoids test (Among symbols) = none_passes test symbols

-- each symbol in the range passes a test
abbrev pub passes : (Symbol → Bool) → Range → Bool
passes test Anything = false
passes test (Among symbols) = all_pass test symbols

-- tokens begin with what passes another test too
begins_by : (test other : Symbol → Bool) (tokens : List Token) → ((s : Symbol) → test s ≡ true → other s ≡ true) → begins test tokens ≡ true → begins other tokens ≡ true
begins_by test other [] f h = absurd (false≢true h)
begins_by test other (t ∷ tokens) f h = f (symbol t) h

-- tokens in a range are in a wider one
pub in_within : (one other : Range) (tokens : List Token) → within one other ≡ true → In one tokens → In other tokens
in_within Anything Anything tokens w h = tt
in_within (Among one) Anything tokens w h = tt
in_within Anything (Among other) tokens w h = absurd (false≢true w)
in_within (Among one) (Among other) tokens w h = begins_by (among one) (among other) tokens (λ s k. among_passes (among other) one s w k) h

-- tokens in a range pass a test that its symbols pass
pub in_passes : (test : Symbol → Bool) (range : Range) (tokens : List Token) → passes test range ≡ true → In range tokens → begins test tokens ≡ true
in_passes test Anything tokens p h = absurd (false≢true p)
in_passes test (Among symbols) tokens p h = begins_by (among symbols) test tokens (λ s k. among_passes test symbols s p k) h

-- tokens in a range pass no test that none of its symbols passes
pub in_avoids : (test : Symbol → Bool) (range : Range) (tokens : List Token) → avoids test range ≡ true → In range tokens → begins test tokens ≡ false
in_avoids test Anything tokens p h = absurd (false≢true p)
in_avoids test (Among symbols) [] p h = refl
in_avoids test (Among symbols) (t ∷ tokens) p h = among_avoids test symbols (symbol t) p h

-- tokens in a range are in it with one symbol more
pub in_with : (one : Symbol) (range : Range) (tokens : List Token) → In range tokens → In (with_symbol one range) tokens
in_with one Anything tokens h = tt
in_with one (Among symbols) tokens h = begins_by (among symbols) (among (one ∷ symbols)) tokens (λ s k. or_right (is_symbol one s) (among symbols s) k) h

-- tokens that begin with this symbol are in the range with it
pub in_first : (one : Symbol) (range : Range) (token : Token) (tokens : List Token) → symbol token ≡ one → In (with_symbol one range) (token ∷ tokens)
in_first one Anything token tokens is = tt
in_first one (Among symbols) token tokens is = or_left (is_symbol one (symbol token)) (among symbols (symbol token)) (ap (is_symbol one) is ∙ symbol_same one)

-- tokens in one of two ranges
pub in_left : (one other : Range) (tokens : List Token) → In one tokens → In (joined one other) tokens
in_left Anything other tokens h = tt
in_left (Among one) Anything tokens h = tt
in_left (Among one) (Among other) tokens h = begins_by (among one) (among (one ++ other)) tokens (λ s k. among_left one other s k) h

-- tokens in the other
pub in_right : (one other : Range) (tokens : List Token) → In other tokens → In (joined one other) tokens
in_right Anything other tokens h = tt
in_right (Among one) Anything tokens h = tt
in_right (Among one) (Among other) tokens h = begins_by (among other) (among (one ++ other)) tokens (λ s k. among_right one other s k) h

-- symbols that are among others pass the test for these
all_within : (one other : List Symbol) → ((s : Symbol) → among one s ≡ true → among other s ≡ true) → all_pass (among other) one ≡ true
all_within [] other f = refl
all_within (a ∷ more) other f =
    and_from (among other a) (all_pass (among other) more) (f a (or_left (is_symbol a a) (among more a) (symbol_same a))) (all_within more other (λ s h. f s (or_right (is_symbol a s) (among more s) h)))

-- each range is within itself
pub within_same : (range : Range) → within range range ≡ true
within_same Anything = refl
within_same (Among symbols) = all_within symbols symbols (λ s h. h)
