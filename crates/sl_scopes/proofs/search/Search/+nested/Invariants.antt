use Rattle.std.proofs.Common.{ℕ, List, map}
use Rattle.def_module.specs.Scopes.{Scope, block_scopes}
use Rattle.sl_tree.specs.View.{stmt_in, stmts_of}
use Rattle.sl_tree.specs.declared.statements.StmtTree.{StmtTree}
use Rattle.sl_scopes.proofs.Searching.{AreSearched}
use Rattle.sl_scopes.proofs.search.Search.+nested.Given as goal

-- the scopes inside statements
abbrev pub scopes_of : List ℕ → List StmtTree → List Scope
scopes_of source stmts = block_scopes (stmts_of (map (stmt_in source) stmts))

abbrev pub invariant-stmts-loop-stmt : goal.invariant-stmts-loop-stmt
invariant-stmts-loop-stmt l = AreSearched (scopes_of (l.self.source).now) l.stmts l.stmt-index
