-- What cut tokens say of the module that a text is.
use Rattle.std.proofs.Common.{◌≡◌, ℕ, List, refl, sym, subst, arith}
use Rattle.std.specs.Borrow.{Bor}
use Rattle.def_slang.specs.Token.{IsText, without_mark}
use Rattle.def_slang.specs.BufferWrite.{BufferWrite, tokens_of, IsAllowed, IsBufferWrite}
use Rattle.sl_run.specs.Cutting.{Cuts}
use Rattle.sl_run.specs.Reading.{texts, HasSmallNumbers}
use Rattle.sl_run.proofs.Cuts.{cut_is_text, cut_is_only}
use Rattle.sl_run.proofs.TokenKinds.{tokens_kinds}
use Rattle.sl_run.proofs.Writes.{same_parts}

pub small_allowed : (w : BufferWrite) → IsAllowed w → HasSmallNumbers w
small_allowed w allowed = record {
  x = omega (arith, allowed.threads.x);
  y = omega (arith, allowed.threads.y);
  z = omega (arith, allowed.threads.z);
  value = omega (arith, allowed.value);
}

-- what was cut, as the code has it: the text behind its mark, and references to the tokens
pub record IsCutOf (text cut : List ℕ) (tokens items : List (Bor (List ℕ))) : Type 0 where
  pub mark : cut ≡ without_mark text
  pub cuts : Cuts cut (texts items)
  pub same : tokens ≡ items

cuts_of : (text cut : List ℕ) (tokens items : List (Bor (List ℕ))) → IsCutOf text cut tokens items → Cuts (without_mark text) (texts tokens)
cuts_of text cut tokens items h =
    subst (λ (t : List ℕ). Cuts t (texts tokens)) h.mark (subst (λ (ts : List (Bor (List ℕ))). Cuts cut (texts ts)) (sym h.same) h.cuts)

pub found_module : (text cut : List ℕ) (tokens items : List (Bor (List ℕ))) (v : BufferWrite) → IsCutOf text cut tokens items → texts tokens ≡ tokens_of v → IsAllowed v → IsBufferWrite text v
found_module text cut tokens items v h same allowed = record {
  tokens = subst (λ (ts : List (List ℕ)). IsText (without_mark text) ts) same (cut_is_text (without_mark text) (texts tokens) (cuts_of text cut tokens items h));
  allowed = allowed;
}

pub only_tokens : (text cut : List ℕ) (tokens items : List (Bor (List ℕ))) (w : BufferWrite) → IsCutOf text cut tokens items → IsBufferWrite text w → texts tokens ≡ tokens_of w
only_tokens text cut tokens items w h is =
    cut_is_only (without_mark text) (tokens_of w) (texts tokens) is.tokens.rest (tokens_kinds w is.allowed) is.tokens.spelled is.tokens.white (cuts_of text cut tokens items h)

pub one_module : (v w : BufferWrite) → HasSmallNumbers v → HasSmallNumbers w → tokens_of v ≡ tokens_of w → v ≡ w
one_module v w small fits same =
    same_parts (tokens_of v) v w small fits (record { buffer = refl; x = refl; y = refl; z = refl; entry = refl; id = refl; value = refl }) same
