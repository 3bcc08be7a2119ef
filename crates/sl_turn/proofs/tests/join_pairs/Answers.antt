use Rattle.std.proofs.Common.{[], ◌∷◌}
use mir.Syntax.{named}
use denote.Exit.{no}
use denote.Param.{param}
use denote.Param.Send.{param_send, shr_send}
use Rattle.sl_turn.proofs.Crossing.{pass_send, turn_sync, captures_send}
use Rattle.sl_turn.proofs.tests.join_pairs.Lts as rows
use Rattle.sl_turn.proofs.tests.join_pairs.Goals as goal

pub join-requires-send-F : goal.join-requires-send-F
join-requires-send-F g c κs within =
    let turn = turn_sync _ (param 2 g.row.T-Subject) (param 3 g.row.T-Entry) g.T.StandsFor c.type_bounds.send-T in
    let pass = pass_send _ (param 2 g.row.T-Subject) (param 3 g.row.T-Entry) g.T.StandsFor c.type_bounds.send-T in
    let s = captures_send (_ ∷ _ ∷ _ ∷ []) (shr_send (named 0) _ _ turn, (pass, (pass, tt))) in
    param_send 1 (rows.arg-0-1 g.row.T g.row.R g.row.T-Subject g.row.T-Entry g.T.laws g.R.laws g.T.Subject.laws g.T.Entry.laws g.T.StandsFor g.T.StandsFor-dict g.R.Threads g.R.Threads-dict g.T.Destruct-dict κs)
    (record { owned = s.owned; leaving = λ _. s.leaving no })

pub join-requires-send-A : goal.join-requires-send-A
join-requires-send-A g c κs within =
    let s = pass_send _ (param 2 g.row.T-Subject) (param 3 g.row.T-Entry) g.T.StandsFor c.type_bounds.send-T in
    param_send 3 (rows.arg-0-3 g.row.T g.row.R g.row.T-Subject g.row.T-Entry g.T.laws g.R.laws g.T.Subject.laws g.T.Entry.laws g.T.StandsFor g.T.StandsFor-dict g.R.Threads g.R.Threads-dict g.T.Destruct-dict κs)
    (record { owned = s.owned; leaving = λ _. s.leaving no })
