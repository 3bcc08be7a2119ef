use Rattle.std.proofs.Common.{ℕ, List, map}
use Rattle.std.specs.List.{flat_map}
use Rattle.def_module.specs.Scopes.{Scope, member_scopes}
use Rattle.sl_tree.specs.DeclView.{member_in}
use Rattle.sl_tree.specs.declared.members.MemberTree.{MemberTree}
use Rattle.sl_scopes.proofs.Searching.{AreSearched}
use Rattle.sl_scopes.proofs.search.Search.inside_members.Given as goal

-- the scopes inside members
abbrev pub scopes_of : List ℕ → List MemberTree → List Scope
scopes_of source members = flat_map member_scopes (map (member_in source) members)

abbrev pub invariant-loop-member : goal.invariant-loop-member
invariant-loop-member l = AreSearched (scopes_of (l.self.source).now) l.members l.member-index
