-- Tokens that lead on behind type arguments.
use Rattle.std.proofs.Common.{◌≡◌, ◌⊎◌, inl, inr, ⊎_elim, Bool, true, false, List, [], ◌∷◌, refl}
use Rattle.std.specs.Prelude.{◌||◌}
use Rattle.std.proofs.lemmas.Bool.{false≢true}
use Rattle.def_token.specs.Lexical.{Token}
use Rattle.def_tree.specs.Expressions.{LeadsOn}
use Rattle.def_tree.specs.Symbol.{symbol, is_sign}
use Rattle.law_tree.proofs.Tables.{lead_on}
use Rattle.law_tree.proofs.Symbols.{is_sign-true}

either : (x y : Bool) → (x || y) ≡ true → (x ≡ true) ⊎ (y ≡ true)
either true y h = inl refl
either false y h = inr h

-- a token that leads on, and the tokens behind it
pub record IsLed (tokens : List Token) : Type 0 where
  pub next : Token
  pub others : List Token
  pub are : tokens ≡ next ∷ others
  pub leads : LeadsOn next

led_by : (next : Token) (others : List Token) → LeadsOn next → IsLed (next ∷ others)
led_by next others leads = record { next = next; others = others; are = refl; leads = leads }

pub led : (tokens : List Token) → lead_on tokens ≡ true → IsLed tokens
led [] h = absurd (false≢true h)
led (next ∷ others) h =
    ⊎_elim (λ bracket. led_by next others (inl (is_sign-true "(" (symbol next) bracket)))
    (λ more. ⊎_elim (λ dot. led_by next others (inr (inl (is_sign-true "." (symbol next) dot))))
    (λ colons. led_by next others (inr (inr (is_sign-true "::" (symbol next) colons))))
    (either (is_sign "." (symbol next)) (is_sign "::" (symbol next)) more))
    (either (is_sign "(" (symbol next)) _ h)
