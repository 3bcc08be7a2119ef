use Rattle.std.proofs.Common.{sym, ap, ◌∙◌}
use Rattle.std.proofs.lemmas.Bool.{false≢true}
use Rattle.sl_run.specs.Number.{has_other_spelling}
use Rattle.sl_run.proofs.Numbers.{plain_decimal, utf8_decimal}
use Rattle.sl_run.proofs.number.number.Goals as goal

pub returns-then-has_other_spelling-clause-none : goal.returns-then-has_other_spelling-clause-none
returns-then-has_other_spelling-clause-none c = λ n small same.
    false≢true (sym (plain_decimal n small) ∙ ap has_other_spelling (sym same) ∙ sym c.has_other_spelling.ensures ∙ c.if-has_other_spelling.true)

pub returns-in-Err-clause-none : goal.returns-in-Err-clause-none
returns-in-Err-clause-none c = λ n small same. c.in-Err.ensures.cases.0 (rw same (utf8_decimal n small))
