use Rattle.std.proofs.Common.{ℕ, List, [], map}
use Rattle.std.specs.List.{flat_map}
use Rattle.def_module.specs.Scopes.{Scope, decl_names}
use Rattle.sl_tree.specs.DeclView.{decl_in}
use Rattle.sl_tree.specs.declared.declarations.DeclTree.{DeclTree}
use Rattle.sl_scopes.proofs.Noting.{AreNoted}
use Rattle.sl_scopes.proofs.declared.names_of_decls.Given as goal

-- what declarations declare
abbrev pub scope_of : List ℕ → List DeclTree → Scope
scope_of source decls = flat_map decl_names (map (decl_in source) decls)

abbrev pub invariant-loop-decl : goal.invariant-loop-decl
invariant-loop-decl l = AreNoted scope_of [] l.decls l.decl-index l.names
