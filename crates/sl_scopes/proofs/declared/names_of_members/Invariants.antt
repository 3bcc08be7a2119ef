use Rattle.std.proofs.Common.{ℕ, List, [], map}
use Rattle.std.specs.List.{flat_map}
use Rattle.def_module.specs.Scopes.{Scope, member_names}
use Rattle.sl_tree.specs.DeclView.{member_in}
use Rattle.sl_tree.specs.declared.members.MemberTree.{MemberTree}
use Rattle.sl_scopes.proofs.Noting.{AreNoted}
use Rattle.sl_scopes.proofs.declared.names_of_members.Given as goal

-- what members declare
abbrev pub scope_of : List ℕ → List MemberTree → Scope
scope_of source members = flat_map member_names (map (member_in source) members)

abbrev pub invariant-loop-member : goal.invariant-loop-member
invariant-loop-member l = AreNoted scope_of [] l.members l.member-index l.names
