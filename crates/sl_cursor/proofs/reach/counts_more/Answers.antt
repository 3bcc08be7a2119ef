use Rattle.std.proofs.Common.{◌∙◌}
use Rattle.sl_cursor.proofs.Reaches.{as_far}
use Rattle.sl_cursor.proofs.reach.counts_more.Goals as goal

pub returns-then-this-other : goal.returns-then-this-other
returns-then-this-other c =
    λ source. c.is_later.ensures source ∙ as_far source c.args.this.now c.args.other.now c.if-other-this.false c.if-this-other.true
