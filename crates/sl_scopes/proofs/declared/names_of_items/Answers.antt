use Rattle.std.proofs.Common.{[], refl}
use Rattle.def_module.specs.Scopes.{item_names}
use Rattle.sl_tree.specs.DeclView.{item_in}
use Rattle.sl_scopes.proofs.Noting.{adds_one, noted_all, noted_more, noted_none}
use Rattle.sl_scopes.proofs.declared.names_of_items.Goals as goal
use Rattle.sl_scopes.proofs.declared.names_of_items.Invariants.{scope_of}

pub loop-item-init : goal.loop-item-init
loop-item-init c = rw c.new-names.ensures (noted_none scope_of [] c.args.items.now)

pub loop-item-preserved : goal.loop-item-preserved
loop-item-preserved c =
    noted_more scope_of (λ source item. item_names (item_in source item)) (λ source x xs. refl) [] c.args.items.now c.loop-item.item-index
    c.item-item.result c.item-item.result c.loop-item.names c.push.new.self c.item-item.is c.loop-item-test.true c.loop-item.invariant
    (adds_one (λ source. item_names (item_in source c.item-item.result)) c.loop-item.names c.push.new.self c.name_of_item.result
    c.in_ok-push.ensures.ok c.name_of_item.ensures)

pub returns : goal.returns
returns c =
    noted_all scope_of [] c.args.items.now c.loop-item.item-index c.loop-item.names (λ source. refl) c.loop-item-test.false
    c.loop-item.invariant
