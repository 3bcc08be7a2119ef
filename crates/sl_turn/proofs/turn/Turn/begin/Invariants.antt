use Rattle.std.proofs.Common.{◌≡◌, Some, []}
use Rattle.sl_turn.proofs.turn.Turn.begin.Given as goal

abbrev pub invariant-loop : goal.invariant-loop
invariant-loop g l = (l.seat.table_id ≡ l.fn.seat.table_id) × (l.seat.id ≡ l.fn.seat.id) × (l.seat.me ≡ (record l.fn.seat.me.0 { ticket = Some l.ticket }, []))
