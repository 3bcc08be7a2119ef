use Rattle.sl_token.proofs.Numbers.{none_spelled, some_spelled}
use Rattle.sl_token.proofs.number.number_of.Goals as goal

pub returns-clause-some : goal.returns-clause-some
returns-clause-some c = some_spelled c.args.word.now c.number_told.result c.number_told.ensures

pub returns-clause-none : goal.returns-clause-none
returns-clause-none c = none_spelled c.args.word.now c.number_told.result c.number_told.ensures
