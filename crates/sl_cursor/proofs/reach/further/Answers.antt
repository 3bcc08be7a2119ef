use Rattle.std.proofs.Common.{true, false, sym, ◌∙◌}
use Rattle.sl_cursor.proofs.Reaches.{further_is}
use Rattle.sl_cursor.proofs.reach.further.Goals as goal

pub returns-then-counts_more : goal.returns-then-counts_more
returns-then-counts_more c =
    λ source. further_is source true c.args.this c.args.other c.in-Some-Some.one c.in-Some-Some.another c.in-Some-Some.is-0 c.in-Some-Some.is-1
    (sym c.if-counts_more.true ∙ c.counts_more.ensures source)

pub returns-else-counts_more : goal.returns-else-counts_more
returns-else-counts_more c =
    λ source. further_is source false c.args.this c.args.other c.in-Some-Some.one c.in-Some-Some.another c.in-Some-Some.is-0 c.in-Some-Some.is-1
    (sym c.if-counts_more.false ∙ c.counts_more.ensures source)
