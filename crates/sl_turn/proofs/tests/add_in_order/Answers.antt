use Rattle.std.proofs.Common.{[], ◌∷◌, inl, inr}
use mir.Syntax.{named}
use denote.Exit.{no}
use denote.Struct.Field.{u64-field}
use denote.Param.Send.{sendable, param_send, shr_send}
use Rattle.sl_turn.proofs.Crossing.{pass_send, turn_sync, captures_send}
use Rattle.sl_turn.specs.contracts.tally.Tally as Tally
use Rattle.sl_turn.specs.contracts.tally.Entry as Entry
use Rattle.sl_turn.specs.contracts.tally.TallyStandsFor.TheImpl as stands
use Rattle.sl_turn.proofs.tally.Tally.TheSendSync as tally
use Rattle.std.proofs.sync.atomic.AtomicBool.TheSendSync as flag
use Rattle.sl_turn.proofs.tests.add_in_order.Lts as rows
use Rattle.sl_turn.proofs.tests.add_in_order.Goals as goal

pub join-one-requires-send-F : goal.join-one-requires-send-F
join-one-requires-send-F g c κs within =
    let turn = turn_sync Tally.the_row u64-field.row Entry.the_row stands.ghosts tally.the_send in
    let pass = pass_send Tally.the_row u64-field.row Entry.the_row stands.ghosts tally.the_send in
    let s = captures_send (_ ∷ _ ∷ _ ∷ _ ∷ []) (shr_send (named 0) _ _ c.type_bounds.sync-R, (shr_send (named 0) _ _ turn, (pass, (shr_send (named 0) _ _ flag.the_sync, tt)))) in
    param_send 1 (rows.arg-1-1 g.row.R g.R.laws g.R.Threads-dict g.R.Wait-dict g.R.Clock-dict κs) (record { owned = s.owned; leaving = λ _. s.leaving no })

pub join-one-requires-send-A : goal.join-one-requires-send-A
join-one-requires-send-A g c κs within = search (pass_send, tally.the_send, sendable) depth 40

pub returns-clause-one : goal.returns-clause-one
returns-clause-one g c n held = c.join.ensures.holds n (inl (c.join-one.ensures.first.2 n held))

pub returns-clause-two : goal.returns-clause-two
returns-clause-two g c n held = c.join.ensures.holds n (inr (c.join-one.ensures.second.2 n held))
