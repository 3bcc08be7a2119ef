use Rattle.std.proofs.Common.{◌≡◌, Some, None, ap, sym, ◌∙◌}
use Rattle.sl_turn.proofs.Ends.{ends}
use Rattle.sl_turn.proofs.turn.Turn.end.Goals as goal

pub unreachable-requires : goal.unreachable-requires
unreachable-requires g c =
    let idle = c.requires.idle in
    let all = c.requires.all in
    let ended = ends _ _ _ _ _ _ _ _ _ c.take-slot.result idle.not_in_turn idle.numbered all.0 all.1 c.close_with-closed.ensures.values.2 c.take-slot.ensures.value in
    let some : Some ended.0 ≡ None = sym ended.1 ∙ c.in_default.is in
    cc (some)

pub returns : goal.returns
returns g c =
    let idle = c.requires.idle in
    let all = c.requires.all in
    let ended = ends _ _ _ _ _ _ _ _ _ c.take-slot.result idle.not_in_turn idle.numbered all.0 all.1 c.close_with-closed.ensures.values.2 c.take-slot.ensures.value in
    let some : Some ended.0 ≡ Some c.in-Some.value = sym ended.1 ∙ c.in-Some.is in
    let value : ended.0 ≡ c.in-Some.value = cc (some) in
    let subject : g.T.StandsFor.subject c.self.inside.table.shared.key.value ≡ c.args.self.subject = ap (λ o. g.T.StandsFor.subject o.value) c.self.invariant.2 ∙ ap (λ l. l.subject) c.self.view_is in
    rw (← subject, ← value) ended.2
