use Rattle.std.proofs.Common.{ℕ, List, map}
use Rattle.std.specs.List.{flat_map}
use Rattle.def_module.specs.Scopes.{Scope, decl_scopes}
use Rattle.sl_tree.specs.DeclView.{decl_in}
use Rattle.sl_tree.specs.declared.declarations.DeclTree.{DeclTree}
use Rattle.sl_scopes.proofs.Searching.{AreSearched}
use Rattle.sl_scopes.proofs.search.Search.decls.Given as goal

-- the scopes inside declarations
abbrev pub scopes_of : List ℕ → List DeclTree → List Scope
scopes_of source decls = flat_map decl_scopes (map (decl_in source) decls)

abbrev pub invariant-loop-decl : goal.invariant-loop-decl
invariant-loop-decl l = AreSearched (scopes_of (l.self.source).now) l.decls l.decl-index
