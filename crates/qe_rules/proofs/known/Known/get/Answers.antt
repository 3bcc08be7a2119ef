use Rattle.std.proofs.Common.{Some, sym, ◌∙◌, ap, subst}
use Rattle.def_query.specs.Map.{get}
use Rattle.qe_rules.specs.Known.{Pairs, IsAt}
use Rattle.qe_rules.proofs.Rising.{get_at, get_gap}
use Rattle.qe_rules.proofs.known.Known.get.Goals as goal

-- the key is at its place, and the pair there is the one that was read
pub returns-in-Ok-clause-answer : goal.returns-in-Ok-clause-answer
returns-in-Ok-clause-answer g c =
    let pairs = ap (λ (v : Pairs g.row.K.Denot g.row.A.Denot). v.pairs) c.self.view_is in
    let at = subst (λ m. IsAt g.K.Ord.cmp m c.args.key.now c.in-Ok.at) (sym pairs) c.in-Ok.ensures.found in
    let value = get_at g.K.Ord.cmp g.met.K.Ord.total _ _ _ c.index.result.now c.self.invariant at in
    ap (λ m. get g.K.Ord.cmp m c.args.key.now) (sym pairs)
    ∙ (value ∙ ap (λ (p : g.row.K.Denot × g.row.A.Denot). Some p.1) (sym c.index.ensures))

pub returns-in-Err-clause-answer : goal.returns-in-Err-clause-answer
returns-in-Err-clause-answer g c = get_gap g.K.Ord.cmp g.met.K.Ord.total _ _ _ c.in-Err.ensures.absent
