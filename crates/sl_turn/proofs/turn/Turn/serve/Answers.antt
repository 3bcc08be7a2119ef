use Rattle.std.proofs.Common.{rules, ◌≡◌, ap, ◌∙◌}
use Rattle.sl_turn.proofs.Turning.{fits_taken, gather, raise_allowed, turn_done, sound_done, begins_done, holds_done}
use Rattle.sl_turn.proofs.turn.Turn.serve.Goals as goal

pub run-turned-requires-clause-taken : goal.run-turned-requires-clause-taken
run-turned-requires-clause-taken g c =
    fits_taken c.args.seat.now.me.0 (g.W.Work.entry c.args.work.now) (g.W.Work.fits c.args.work.now) (g.W.Work.tells c.args.work.now) c.requires.subject c.requires.may c.begin.ensures.taken

pub fetch_add-requires : goal.fetch_add-requires
fetch_add-requires g c =
    let taken = c.begin.ensures.taken in
    let done = c.run-turned.ensures.done taken.1.value taken.1.carried in
    let facts = gather {fits = g.W.Work.fits c.args.work.now} {tells = g.W.Work.tells c.args.work.now} c.requires.subject c.requires.idle.numbered c.requires.sound c.requires.entry c.requires.may taken c.run-turned.ensures.seat.2 done in
    let subject : g.T.StandsFor.subject c.self.inside.table.shared.key.value ≡ c.args.self.now.subject = ap (λ o. g.T.StandsFor.subject o.value) c.self.invariant.2 ∙ ap (λ l. l.subject) c.self.view_is in (
      search rules,
      search rules,
      rw subject (raise_allowed {after = c.run-turned.new.seat.me} facts _ _),
    )

pub returns-clause-sound : goal.returns-clause-sound
returns-clause-sound g c =
    let taken = c.begin.ensures.taken in
    let done = c.run-turned.ensures.done taken.1.value taken.1.carried in
    let facts = gather {fits = g.W.Work.fits c.args.work.now} {tells = g.W.Work.tells c.args.work.now} c.requires.subject c.requires.idle.numbered c.requires.sound c.requires.entry c.requires.may taken c.run-turned.ensures.seat.2 done in
    sound_done facts _ (c.fetch_add.ensures.2 done.0 done.1)

pub returns-clause-begins : goal.returns-clause-begins
returns-clause-begins g c =
    let taken = c.begin.ensures.taken in
    let done = c.run-turned.ensures.done taken.1.value taken.1.carried in
    let facts = gather {fits = g.W.Work.fits c.args.work.now} {tells = g.W.Work.tells c.args.work.now} c.requires.subject c.requires.idle.numbered c.requires.sound c.requires.entry c.requires.may taken c.run-turned.ensures.seat.2 done in
    begins_done facts _ (c.fetch_add.ensures.2 done.0 done.1)

pub returns-clause-holds : goal.returns-clause-holds
returns-clause-holds g c =
    let taken = c.begin.ensures.taken in
    let done = c.run-turned.ensures.done taken.1.value taken.1.carried in
    let facts = gather {fits = g.W.Work.fits c.args.work.now} {tells = g.W.Work.tells c.args.work.now} c.requires.subject c.requires.idle.numbered c.requires.sound c.requires.entry c.requires.may taken c.run-turned.ensures.seat.2 done in
    holds_done facts _ (c.fetch_add.ensures.2 done.0 done.1)

pub returns-clause-turned : goal.returns-clause-turned
returns-clause-turned g c =
    let taken = c.begin.ensures.taken in
    let done = c.run-turned.ensures.done taken.1.value taken.1.carried in
    let facts = gather {fits = g.W.Work.fits c.args.work.now} {tells = g.W.Work.tells c.args.work.now} c.requires.subject c.requires.idle.numbered c.requires.sound c.requires.entry c.requires.may taken c.run-turned.ensures.seat.2 done in
    turn_done facts _ (c.fetch_add.ensures.2 done.0 done.1)
