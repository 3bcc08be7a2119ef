use Rattle.std.specs.Prelude.{None, Some}
use Rattle.sl_token.proofs.Numbers.{number_by_range}
use Rattle.sl_token.proofs.number.number_with.Goals as goal

pub returns-in-None : goal.returns-in-None
returns-in-None c = number_by_range c.args.value c.args.ranges.now None c.in-None.ensures

pub returns-in-Some : goal.returns-in-Some
returns-in-Some c = number_by_range c.args.value c.args.ranges.now (Some c.in-Some.range.now) c.in-Some.ensures
