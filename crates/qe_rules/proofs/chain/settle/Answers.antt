use Rattle.std.proofs.Common.{[], ◌∷◌, sym, subst, refl, inl}
use Rattle.def_query.specs.Keys.{IsIn}
use Rattle.def_query.proofs.Walks.{in_append_right}
use Rattle.qe_rules.proofs.chain.settle.Goals as goal

-- the key that leaves stood in the chain
pub put-put-requires : goal.put-put-requires
put-put-requires g c =
    c.requires.unknown c.in-Some.top
    (subst (IsIn c.in-Some.top) (sym c.in-Some.ensures.items)
    (in_append_right c.in-Some.top c.pop.new.self.items (c.in-Some.top ∷ []) (inl refl)))
