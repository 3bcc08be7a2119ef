use Rattle.sl_token.proofs.Numbers.{too_large}
use Rattle.sl_token.specs.Reading.{base_in}
use Rattle.sl_token.proofs.number.parsed.Goals as goal

pub returns-in-Err-clause-large : goal.returns-in-Err-clause-large
returns-in-Err-clause-large c = too_large (base_in c.args.base) c.args.text.now c.requires.some c.requires.digits c.radix_of.result c.radix_of.ensures c.in-Err.ensures.value
