use Rattle.sl_run.proofs.Numbers.{parsed_spelling, parsed_decimal}
use Rattle.sl_run.proofs.number.parsed.Goals as goal

pub returns-in-Ok-clause-spelled : goal.returns-in-Ok-clause-spelled
returns-in-Ok-clause-spelled c = parsed_spelling c.args.text.now c.in-Ok.n c.requires c.in-Ok.ensures.value.0

pub returns-in-Err-clause-none : goal.returns-in-Err-clause-none
returns-in-Err-clause-none c = λ n small same. parsed_decimal c.args.text.now c.in-Err.field-0 n small same c.in-Err.ensures.value.0
