use Rattle.std.proofs.Common.{rules}
use Rattle.std.proofs.lemmas.Fn.{always_returns_same}
use Rattle.qe_rules.proofs.Rising.{searched_ok, searched_err}
use Rattle.qe_rules.proofs.known.Known.search.Goals as goal

-- the closure compares a pair's key, and the slice is the map's pairs
pub returns-clause-found : goal.returns-clause-found
returns-clause-found g c =
    let facts = c.binary_search_by.ensures in
    let by_key = facts.position (λ pair. g.K.Ord.cmp pair.0 c.args.key.now) (always_returns_same _ _ _ (λ a r h called. search rules)) in
    rw (← c.self.view_is, ← c.deref.ensures.value) (searched_ok g.K.Ord.cmp g.met.K.Ord.total _ c.args.key.now _ facts.bound by_key)

pub returns-clause-absent : goal.returns-clause-absent
returns-clause-absent g c =
    let facts = c.binary_search_by.ensures in
    let by_key = facts.position (λ pair. g.K.Ord.cmp pair.0 c.args.key.now) (always_returns_same _ _ _ (λ a r h called. search rules)) in
    rw (← c.self.view_is, ← c.deref.ensures.value)
    (searched_err g.K.Ord.cmp g.met.K.Ord.total _ c.args.key.now _ (rw c.deref.ensures.value c.self.invariant) facts.bound by_key)
