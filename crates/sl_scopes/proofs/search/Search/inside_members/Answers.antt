use Rattle.std.proofs.Common.{refl}
use Rattle.std.proofs.lemmas.Result.{err_from_is_err_and}
use Rattle.def_module.specs.Scopes.{member_scopes}
use Rattle.sl_tree.specs.DeclView.{member_in}
use Rattle.sl_scopes.proofs.Searching.{searched_all, searched_early, searched_more, searched_none}
use Rattle.sl_scopes.proofs.search.Search.inside_members.Goals as goal
use Rattle.sl_scopes.proofs.search.Search.inside_members.Invariants.{scopes_of}

pub loop-member-init : goal.loop-member-init
loop-member-init c = searched_none (scopes_of c.args.self.now.source.now) c.args.members.now

pub loop-member-preserved : goal.loop-member-preserved
loop-member-preserved c =
    let source = c.args.self.now.source.now in
    searched_more (scopes_of source) (λ member. member_scopes (member_in source member)) (λ x xs. refl) c.args.members.now c.loop-member.member-index
    c.member-item.result c.member-item.is c.loop-member-test.true c.loop-member.invariant c.in_ok-member.ensures

pub returns-in_err-member : goal.returns-in_err-member
returns-in_err-member c =
    let source = c.args.self.now.source.now in
    let p = err_from_is_err_and c.from_residual.result c.from_residual.ensures.1 in
    rw (p.1, p.2)
    (searched_early (scopes_of source) (λ member. member_scopes (member_in source member)) (λ x xs. refl) source c.args.members.now c.loop-member.member-index
    c.member-item.result c.in_err-member.field-0.0 c.member-item.is c.loop-member-test.true c.loop-member.invariant c.in_err-member.ensures)

pub returns : goal.returns
returns c =
    searched_all (scopes_of c.args.self.now.source.now) c.args.members.now c.loop-member.member-index refl c.loop-member-test.false
    c.loop-member.invariant
