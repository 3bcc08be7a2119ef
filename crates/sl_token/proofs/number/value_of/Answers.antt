use Rattle.sl_token.proofs.Numbers.{utf8_digits}
use Rattle.sl_token.specs.Reading.{base_in}
use Rattle.sl_token.proofs.number.value_of.Goals as goal

pub returns-in-Err-clause-large : goal.returns-in-Err-clause-large
returns-in-Err-clause-large c = absurd (c.in-Err.ensures.cases.0 (utf8_digits (base_in c.args.base) c.args.digits.now c.requires.digits))
