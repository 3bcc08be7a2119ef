use Rattle.std.proofs.Common.{[], refl}
use Rattle.def_module.specs.Scopes.{member_names}
use Rattle.sl_tree.specs.DeclView.{member_in}
use Rattle.sl_scopes.proofs.Noting.{noted_all, noted_more, noted_none}
use Rattle.sl_scopes.proofs.declared.names_of_members.Goals as goal
use Rattle.sl_scopes.proofs.declared.names_of_members.Invariants.{scope_of}

pub loop-member-init : goal.loop-member-init
loop-member-init c = rw c.new-names.ensures (noted_none scope_of [] c.args.members.now)

pub loop-member-preserved : goal.loop-member-preserved
loop-member-preserved c =
    noted_more scope_of (λ source member. member_names (member_in source member)) (λ source x xs. refl) [] c.args.members.now c.loop-member.member-index
    c.member-item.result c.member-item.result c.loop-member.names c.note_member.new.names c.member-item.is c.loop-member-test.true c.loop-member.invariant
    c.in_ok-note_member.ensures

pub returns : goal.returns
returns c =
    noted_all scope_of [] c.args.members.now c.loop-member.member-index c.loop-member.names (λ source. refl) c.loop-member-test.false
    c.loop-member.invariant
