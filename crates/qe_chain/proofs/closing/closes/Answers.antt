use Rattle.std.proofs.Common.{◌≡◌, ◌∙◌, ◌↔◌, ap, sym, subst, true, length}
use Rattle.std.specs.Prelude.{is_some}
use Rattle.def_core.specs.State.{claimed}
use Rattle.def_core.specs.Needs.{Closes, closing, path, rotated}
use Rattle.def_core.proofs.Closing.{last_claimed, closing_exact, closing_is}
use Rattle.qe_chain.proofs.Following.{some_map}
use Rattle.qe_chain.proofs.closing.closes.Goals as goal

pub reaches-requires-clause-claimed : goal.reaches-requires-clause-claimed
reaches-requires-clause-claimed g c = last_claimed c.args.waits.now c.args.caller c.in-Some.last.now c.in-Some.ensures

pub returns-in-Some-clause-exactly : goal.returns-in-Some-clause-exactly
returns-in-Some-clause-exactly g c =
    let cmp = g.K.Ord.cmp in
    let found = path cmp c.args.waits.now (length (claimed c.args.waits.now)) c.args.key.now c.in-Some.last.now in
    let e : c.reaches.result ≡ is_some (closing cmp c.args.waits.now c.args.caller c.args.key.now) =
    c.reaches.ensures
    ∙ sym (ap is_some (closing_is cmp g.met.K.Ord.total c.open_count-count.ensures.one_key c.args.waits.now c.args.caller c.args.key.now c.in-Some.last.now c.in-Some.ensures)
    ∙ some_map (rotated cmp) found) in
    subst (λ b. (b ≡ true) ↔ Closes cmp c.args.waits.now c.args.caller c.args.key.now) (sym e)
    (closing_exact cmp g.met.K.Ord.total c.open_count-count.ensures.one_key c.args.waits.now c.args.caller c.args.key.now)
