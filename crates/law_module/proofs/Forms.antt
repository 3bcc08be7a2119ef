-- What forms begin with that are optional or stand repeated.
use Rattle.std.proofs.Common.{◌≡◌, Bool, true, false, List, [], ◌∷◌, refl, ap, ◌∙◌, codes}
use Rattle.std.specs.Prelude.{◌||◌, Option}
use Rattle.std.specs.List.{list_any}
use Rattle.std.proofs.lemmas.Bool.{or_from, or_parts}
use Prim.Native.String.{String}
use Rattle.def_token.specs.Lexical.{Token}
use Rattle.def_tree.specs.Symbol.{Symbol, Sign, symbol, is_sign}
use Rattle.law_tree.proofs.Heads.{IsHeaded, other_sign, or_left, or_right}
use Rattle.def_module.specs.Repetition.{MayBe, without, with_one, MayHave, without_any, with_some, AreMany, no_more, one_more}

-- the symbol is one of these signs
abbrev pub one_of : List String → Symbol → Bool
one_of signs s = list_any (λ (sign : String). is_sign sign s) signs

-- the first token passes a test
abbrev pub heads : (Symbol → Bool) → List Token → Bool
heads test [] = false
heads test (token ∷ tokens) = test (symbol token)

fails_signs : (head : Symbol → Bool) (signs : List String) (s : Symbol) → list_any (λ (sign : String). head (Sign (codes sign))) signs ≡ false → head s ≡ true → one_of signs s ≡ false
fails_signs head [] s none h = refl
fails_signs head (sign ∷ signs) s none h =
    let both = or_parts (head (Sign (codes sign))) (list_any (λ (other : String). head (Sign (codes other))) signs) none in
    or_from (is_sign sign s) (one_of signs s) (other_sign head sign s both.0 h) (fails_signs head signs s both.1 h)

-- what is headed by a test begins with no sign that fails it
pub avoids : (head : Symbol → Bool) (signs : List String) (tokens : List Token) → list_any (λ (sign : String). head (Sign (codes sign))) signs ≡ false
    → IsHeaded head tokens → heads (one_of signs) tokens ≡ false
avoids head signs tokens none h = rw (h.are) (fails_signs head signs (symbol h.token) none h.passes)

-- one of two heads
abbrev pub either : (Symbol → Bool) → (Symbol → Bool) → Symbol → Bool
either this other s = this s || other s

pub this_head : (this other : Symbol → Bool) (tokens : List Token) → IsHeaded this tokens → IsHeaded (either this other) tokens
this_head this other tokens h = record { token = h.token; others = h.others; are = h.are; passes = or_left (this (symbol h.token)) (other (symbol h.token)) h.passes }

pub other_head : (this other : Symbol → Bool) (tokens : List Token) → IsHeaded other tokens → IsHeaded (either this other) tokens
other_head this other tokens h = record { token = h.token; others = h.others; are = h.are; passes = or_right (this (symbol h.token)) (other (symbol h.token)) h.passes }

-- a token that is a sign
pub headed_by : (test : Symbol → Bool) (token : Token) (tokens : List Token) (s : Symbol) → symbol token ≡ s → test s ≡ true → IsHeaded test (token ∷ tokens)
headed_by test token tokens s is h = record { token = token; others = tokens; are = refl; passes = ap test is ∙ h }

module _ {A : Type 0} (IsForm : List Token → A → List Token → Type 0) where
  -- each form has this head
  abbrev pub Headed : (Symbol → Bool) → Type 0
  Headed head = (tokens rest : List Token) (form : A) → IsForm tokens form rest → IsHeaded head tokens

module _ {A : Type 0} (IsForm : List Token → A → List Token → Type 0) (head : Symbol → Bool) where
  pub maybe_head : (more : Symbol → Bool) (tokens rest : List Token) (form : Option A) → Headed IsForm head → MayBe IsForm tokens form rest → IsHeaded more rest → IsHeaded (either head more) tokens
  maybe_head more tokens rest form each without h = other_head head more tokens h
  maybe_head more tokens rest form each (with_one {form = one} p) h = this_head head more tokens (each tokens rest one p)

  pub many_head : (more : Symbol → Bool) (tokens rest : List Token) (forms : List A) → Headed IsForm head → AreMany IsForm tokens forms rest → IsHeaded more rest → IsHeaded (either head more) tokens
  many_head more tokens rest forms each no_more h = other_head head more tokens h
  many_head more tokens rest forms each (one_more {behind = next} {form = one} p m) h = this_head head more tokens (each tokens next one p)

module _ {A : Type 0} (AreForms : List Token → List A → List Token → Type 0) (head : Symbol → Bool) where
  pub have_head : (more : Symbol → Bool) (tokens rest : List Token) (forms : List A) → Headed AreForms head → MayHave AreForms tokens forms rest → IsHeaded more rest → IsHeaded (either head more) tokens
  have_head more tokens rest forms each without_any h = other_head head more tokens h
  have_head more tokens rest forms each (with_some p) h = this_head head more tokens (each tokens rest forms p)
