use Rattle.std.proofs.Common.{◌≡◌, ℕ, List, [], get_or, refl, sym, ap, ◌∙◌, arith}
use Rattle.std.specs.Borrow.{Bor}
use Rattle.std.proofs.lemmas.Bool.{false≢true}
use Rattle.def_slang.specs.BufferWrite.{BufferWrite, tokens_of}
use Rattle.sl_run.specs.Reading.{texts, HasSmallNumbers}
use Rattle.sl_run.proofs.Texts.{text_at}
use Rattle.sl_run.proofs.Writes.{HasParts, same_parts, if_none, no_number}
use Rattle.sl_run.proofs.buffer_write.parsed.Goals as goal

-- what a place past the end would hold
nothing : Bor (List ℕ)
nothing = record { ref_ptr = (0, 0); now = [] }

at : (tokens : List (Bor (List ℕ))) (i : ℕ) → get_or (texts tokens) i [] ≡ (get_or tokens i nothing).now
unfolding nothing
at tokens i = text_at tokens i nothing

pub returns-in_err-number-clause-none : goal.returns-in_err-number-clause-none
unfolding nothing
returns-in_err-number-clause-none c =
    if_none _ _ (no_number (texts c.args.tokens.now) 15 (λ w. w.threads.0) (λ w fits. fits.x) (λ w. refl) (λ n small same. c.in_err-number.ensures.none n small (sym (at c.args.tokens.now 15) ∙ same)))

pub returns-in_err-number-2-clause-none : goal.returns-in_err-number-2-clause-none
unfolding nothing
returns-in_err-number-2-clause-none c =
    if_none _ _ (no_number (texts c.args.tokens.now) 17 (λ w. w.threads.1) (λ w fits. fits.y) (λ w. refl) (λ n small same. c.in_err-number-2.ensures.none n small (sym (at c.args.tokens.now 17) ∙ same)))

pub returns-in_err-number-3-clause-none : goal.returns-in_err-number-3-clause-none
unfolding nothing
returns-in_err-number-3-clause-none c =
    if_none _ _ (no_number (texts c.args.tokens.now) 19 (λ w. w.threads.2) (λ w fits. fits.z) (λ w. refl) (λ n small same. c.in_err-number-3.ensures.none n small (sym (at c.args.tokens.now 19) ∙ same)))

pub returns-in_err-number-4-clause-none : goal.returns-in_err-number-4-clause-none
unfolding nothing
returns-in_err-number-4-clause-none c =
    if_none _ _ (no_number (texts c.args.tokens.now) 38 (λ w. w.value) (λ w fits. fits.value) (λ w. refl) (λ n small same. c.in_err-number-4.ensures.none n small (sym (at c.args.tokens.now 38) ∙ same)))

pub returns-else-are_same-clause-none : goal.returns-else-are_same-clause-none
unfolding nothing
returns-else-are_same-clause-none c = λ w fits same.
    let tokens = c.args.tokens.now in
    let v : BufferWrite = record {
      buffer = (get_or tokens 4 nothing).now;
      entry = (get_or tokens 23 nothing).now;
      id = (get_or tokens 26 nothing).now;
      threads = (c.in_ok-number.field-0, c.in_ok-number-2.field-0, c.in_ok-number-3.field-0);
      value = c.in_ok-number-4.field-0;
    } in
    let small : HasSmallNumbers v = record { x = omega arith; y = omega arith; z = omega arith; value = omega arith } in
    let parts : HasParts (texts tokens) v = record {
      buffer = at tokens 4;
      x = at tokens 15 ∙ c.in_ok-number.ensures.spelled;
      y = at tokens 17 ∙ c.in_ok-number-2.ensures.spelled;
      z = at tokens 19 ∙ c.in_ok-number-3.ensures.spelled;
      entry = at tokens 23;
      id = at tokens 26;
      value = at tokens 38 ∙ c.in_ok-number-4.ensures.spelled;
    } in
    let found = same_parts (texts tokens) v w small fits parts same in
    false≢true (sym c.if-are_same.false ∙ c.are_same.ensures.1 (same ∙ ap tokens_of (sym found) ∙ sym c.spelling.ensures))
