use Rattle.sl_machine.proofs.Plainly.{long_some, long_none}
use Rattle.sl_machine.proofs.run.long_from.Goals as goal

pub returns : goal.returns
returns c = λ source. long_some source c.args.place.now.rest.now c.args.place.now.at _ c.if-place-le-MOST_TOKENS.false

pub returns-then-place-le-MOST_TOKENS : goal.returns-then-place-le-MOST_TOKENS
returns-then-place-le-MOST_TOKENS c = λ source. long_none source c.args.place.now.rest.now c.args.place.now.at c.if-place-le-MOST_TOKENS.true
