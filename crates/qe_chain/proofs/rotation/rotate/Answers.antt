use Rattle.std.proofs.Common.{◌∙◌, ◌≡◌, ◌∷◌, List, ap, length, arith, slice_index_or, subst}
use Rattle.def_core.specs.Needs.{least}
use Rattle.qe_chain.proofs.Rotating.{rotates}
use Rattle.qe_chain.proofs.rotation.rotate.Goals as goal

pub returns : goal.returns
returns g c =
    let same = c.as_slice.ensures.keys in
    c.rotate_left.ensures
    ∙ rotates g.K.Ord.cmp g.met.K.Ord.total c.requires.one_key c.args.cycle.now c.least_place-least.result c.requires.distinct
    (let h = c.least_place-least.ensures.within in let e = ap length same in omega arith)
    (subst (λ l. (x : g.row.K.Denot) (rest : List g.row.K.Denot) → l ≡ x ∷ rest → slice_index_or l c.least_place-least.result x ≡ least g.K.Ord.cmp x rest) same c.least_place-least.ensures.least)
