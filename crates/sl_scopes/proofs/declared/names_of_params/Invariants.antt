use Rattle.std.proofs.Common.{ℕ, List, [], map}
use Rattle.def_module.specs.Scopes.{Scope, params_scope}
use Rattle.sl_tree.specs.DeclView.{param_in}
use Rattle.sl_tree.specs.declared.members.ParamTree.{ParamTree}
use Rattle.sl_scopes.proofs.Noting.{AreNoted}
use Rattle.sl_scopes.proofs.declared.names_of_params.Given as goal

-- the scope of type parameters
abbrev pub scope_of : List ℕ → List ParamTree → Scope
scope_of source params = params_scope (map (param_in source) params)

abbrev pub invariant-loop-param : goal.invariant-loop-param
invariant-loop-param l = AreNoted scope_of [] l.params l.param-index l.names
