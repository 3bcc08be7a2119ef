use Rattle.std.proofs.Common.{ℕ, List, map}
use Rattle.std.specs.List.{flat_map}
use Rattle.def_module.specs.Scopes.{Scope, item_scopes}
use Rattle.sl_tree.specs.DeclView.{item_in}
use Rattle.sl_tree.specs.declared.members.ItemTree.{ItemTree}
use Rattle.sl_scopes.proofs.Searching.{AreSearched}
use Rattle.sl_scopes.proofs.search.Search.inside_items.Given as goal

-- the scopes inside items
abbrev pub scopes_of : List ℕ → List ItemTree → List Scope
scopes_of source items = flat_map item_scopes (map (item_in source) items)

abbrev pub invariant-loop-item : goal.invariant-loop-item
invariant-loop-item l = AreSearched (scopes_of (l.self.source).now) l.items l.item-index
