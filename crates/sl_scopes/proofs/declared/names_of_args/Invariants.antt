use Rattle.std.proofs.Common.{ℕ, List, [], map}
use Rattle.def_module.specs.Scopes.{Scope, args_scope}
use Rattle.sl_tree.specs.DeclView.{arg_in}
use Rattle.sl_tree.specs.declared.members.ArgTree.{ArgTree}
use Rattle.sl_scopes.proofs.Noting.{AreNoted}
use Rattle.sl_scopes.proofs.declared.names_of_args.Given as goal

-- the scope of parameters
abbrev pub scope_of : List ℕ → List ArgTree → Scope
scope_of source args = args_scope (map (arg_in source) args)

abbrev pub invariant-loop-arg : goal.invariant-loop-arg
invariant-loop-arg l = AreNoted scope_of [] l.args l.arg-index l.names
