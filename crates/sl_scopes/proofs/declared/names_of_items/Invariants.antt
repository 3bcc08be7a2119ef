use Rattle.std.proofs.Common.{ℕ, List, [], map}
use Rattle.std.specs.List.{flat_map}
use Rattle.def_module.specs.Scopes.{Scope, item_names}
use Rattle.sl_tree.specs.DeclView.{item_in}
use Rattle.sl_tree.specs.declared.members.ItemTree.{ItemTree}
use Rattle.sl_scopes.proofs.Noting.{AreNoted}
use Rattle.sl_scopes.proofs.declared.names_of_items.Given as goal

-- what items declare
abbrev pub scope_of : List ℕ → List ItemTree → Scope
scope_of source items = flat_map item_names (map (item_in source) items)

abbrev pub invariant-loop-item : goal.invariant-loop-item
invariant-loop-item l = AreNoted scope_of [] l.items l.item-index l.names
