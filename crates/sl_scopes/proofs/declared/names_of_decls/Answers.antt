use Rattle.std.proofs.Common.{[], refl}
use Rattle.def_module.specs.Scopes.{decl_names}
use Rattle.sl_tree.specs.DeclView.{decl_in}
use Rattle.sl_scopes.proofs.Noting.{noted_all, noted_more, noted_none}
use Rattle.sl_scopes.proofs.declared.names_of_decls.Goals as goal
use Rattle.sl_scopes.proofs.declared.names_of_decls.Invariants.{scope_of}

pub loop-decl-init : goal.loop-decl-init
loop-decl-init c = rw c.new-names.ensures (noted_none scope_of [] c.args.decls.now)

pub loop-decl-preserved : goal.loop-decl-preserved
loop-decl-preserved c =
    noted_more scope_of (λ source decl. decl_names (decl_in source decl)) (λ source x xs. refl) [] c.args.decls.now c.loop-decl.decl-index
    c.decl-item.result c.decl-item.result c.loop-decl.names c.note_decl.new.names c.decl-item.is c.loop-decl-test.true c.loop-decl.invariant
    c.in_ok-note_decl.ensures

pub returns : goal.returns
returns c =
    noted_all scope_of [] c.args.decls.now c.loop-decl.decl-index c.loop-decl.names (λ source. refl) c.loop-decl-test.false
    c.loop-decl.invariant
