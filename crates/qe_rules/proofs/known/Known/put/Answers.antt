use Rattle.std.proofs.Common.{◌∷◌, sym, ◌∙◌, ap, subst}
use Rattle.def_query.specs.Map.{get}
use Rattle.qe_rules.specs.Known.{Pairs, IsAt, IsGapFor, HasRisingKeys}
use Rattle.qe_rules.proofs.Rising.{get_at, gains_insert, rising_insert}
use Rattle.qe_rules.proofs.known.Known.put.Goals as goal

-- the key would be in the map
pub unreachable-requires : goal.unreachable-requires
unreachable-requires g c =
    let pairs = ap (λ (v : Pairs g.row.K.Denot g.row.A.Denot). v.pairs) c.self.view_is in
    let at = subst (λ m. IsAt g.K.Ord.cmp m c.args.key c.in-Ok.field-0) (sym pairs) c.in-Ok.ensures.found in
    let value = get_at g.K.Ord.cmp g.met.K.Ord.total _ _ _ (c.args.key, c.args.answer) c.self.invariant at in
    let lacks = ap (λ m. get g.K.Ord.cmp m c.args.key) pairs ∙ c.requires in
    let both = sym value ∙ lacks in
    cc

pub invariant_of-self-in-Err : goal.invariant_of-self-in-Err
invariant_of-self-in-Err g c =
    let pairs = ap (λ (v : Pairs g.row.K.Denot g.row.A.Denot). v.pairs) c.self.view_is in
    let gap = subst (λ m. IsGapFor g.K.Ord.cmp m c.args.key c.in-Err.at) (sym pairs) c.in-Err.ensures.absent in
    subst (HasRisingKeys g.K.Ord.cmp) (sym c.in_ok-insert-in-Err.ensures.items)
    (rising_insert g.K.Ord.cmp g.met.K.Ord.total _ c.args.key c.args.answer c.in-Err.at gap c.self.invariant)

pub returns-clause-gains : goal.returns-clause-gains
returns-clause-gains g c =
    let pairs = ap (λ (v : Pairs g.row.K.Denot g.row.A.Denot). v.pairs) c.self.view_is in
    let gap = subst (λ m. IsGapFor g.K.Ord.cmp m c.args.key c.in-Err.at) (sym pairs) c.in-Err.ensures.absent in
    let same = gains_insert g.K.Ord.cmp g.met.K.Ord.total _ c.args.key c.args.answer c.in-Err.at gap in
    λ q.
    ap (λ m. get g.K.Ord.cmp m q) c.in_ok-insert-in-Err.ensures.items
    ∙ (same q ∙ ap (λ m. get g.K.Ord.cmp ((c.args.key, c.args.answer) ∷ m) q) pairs)
