use Rattle.sl_scopes.specs.Search.{twice_in}
use Rattle.sl_tree.specs.DeclView.{module_in}
use Rattle.sl_token.specs.View.{token_in}
use Rattle.law_module.proofs.Names.{names_told}
use Rattle.sl_scopes.proofs.twice.declared_twice.Goals as goal

pub returns-in-Ok : goal.returns-in-Ok
unfolding twice_in
returns-in-Ok c = (names_told (module_in c.args.source.now c.args.tree.now)).once.0 c.in-Ok.ensures

pub returns-in-Err-Twice : goal.returns-in-Err-Twice
unfolding twice_in
returns-in-Err-Twice c =
    let source = c.args.source.now in
    ((names_told (module_in source c.args.tree.now)).twice (token_in source c.in-Err-Twice.name)).0
    (rw c.in-Err-Twice.field-0-is at c.in-Err-Twice.ensures)
