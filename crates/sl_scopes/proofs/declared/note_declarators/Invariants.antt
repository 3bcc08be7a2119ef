use Rattle.std.proofs.Common.{ℕ, List, map}
use Rattle.def_tree.specs.StmtTree as trees
use Rattle.def_module.specs.Scopes.{Scope, single}
use Rattle.sl_tree.specs.View.{declarator_in}
use Rattle.sl_tree.specs.declared.statements.Declarator.{Declarator}
use Rattle.sl_scopes.proofs.Noting.{AreNoted}
use Rattle.sl_scopes.proofs.declared.note_declarators.Given as goal

-- what names with initialisers declare
abbrev pub scope_of : List ℕ → List Declarator → Scope
scope_of source declarators = map (λ (declarator : trees.Declarator). single declarator.name) (map (declarator_in source) declarators)

abbrev pub invariant-loop-declarator : goal.invariant-loop-declarator
invariant-loop-declarator l = AreNoted scope_of l.initial.names l.declarators l.declarator-index l.names
