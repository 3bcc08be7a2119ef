use Rattle.std.proofs.Common.{ℕ, List, [], map}
use Rattle.def_module.specs.Scopes.{Scope, block_names}
use Rattle.sl_tree.specs.View.{stmt_in, stmts_of}
use Rattle.sl_tree.specs.declared.statements.StmtTree.{StmtTree}
use Rattle.sl_scopes.proofs.Noting.{AreNoted}
use Rattle.sl_scopes.proofs.declared.names_of_stmts.Given as goal

-- what statements declare in their block
abbrev pub scope_of : List ℕ → List StmtTree → Scope
scope_of source stmts = block_names (stmts_of (map (stmt_in source) stmts))

abbrev pub invariant-loop-stmt : goal.invariant-loop-stmt
invariant-loop-stmt l = AreNoted scope_of [] l.stmts l.stmt-index l.names
