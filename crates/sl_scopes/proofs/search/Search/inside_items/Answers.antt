use Rattle.std.proofs.Common.{refl}
use Rattle.std.proofs.lemmas.Result.{err_from_is_err_and}
use Rattle.def_module.specs.Scopes.{item_scopes}
use Rattle.sl_tree.specs.DeclView.{item_in}
use Rattle.sl_scopes.proofs.Searching.{searched_all, searched_early, searched_more, searched_none}
use Rattle.sl_scopes.proofs.search.Search.inside_items.Goals as goal
use Rattle.sl_scopes.proofs.search.Search.inside_items.Invariants.{scopes_of}

pub loop-item-init : goal.loop-item-init
loop-item-init c = searched_none (scopes_of c.args.self.now.source.now) c.args.items.now

pub loop-item-preserved : goal.loop-item-preserved
loop-item-preserved c =
    let source = c.args.self.now.source.now in
    searched_more (scopes_of source) (λ item. item_scopes (item_in source item)) (λ x xs. refl) c.args.items.now c.loop-item.item-index
    c.item-item.result c.item-item.is c.loop-item-test.true c.loop-item.invariant c.in_ok-item.ensures

pub returns-in_err-item : goal.returns-in_err-item
returns-in_err-item c =
    let source = c.args.self.now.source.now in
    let p = err_from_is_err_and c.from_residual.result c.from_residual.ensures.1 in
    rw (p.1, p.2)
    (searched_early (scopes_of source) (λ item. item_scopes (item_in source item)) (λ x xs. refl) source c.args.items.now c.loop-item.item-index
    c.item-item.result c.in_err-item.field-0.0 c.item-item.is c.loop-item-test.true c.loop-item.invariant c.in_err-item.ensures)

pub returns : goal.returns
returns c =
    searched_all (scopes_of c.args.self.now.source.now) c.args.items.now c.loop-item.item-index refl c.loop-item-test.false
    c.loop-item.invariant
