use Rattle.std.proofs.Common.{rules, ◌≡◌, ◌≤◌, ap, arith}
use Rattle.sl_turn.proofs.Splitting.{splits}
use Rattle.sl_turn.proofs.Drawing.{looks}
use Rattle.sl_turn.proofs.turn.Turn.split.Goals as goal

pub split_seat-seat-requires : goal.split_seat-seat-requires
split_seat-seat-requires g c = let idle = c.pass.invariant.2 in (
  search rules,
  search rules,
  splits _ _ _ _ _ _ _ idle.numbered idle.no_ticket idle.not_in_turn (search rules) (search rules),
)

pub load-requires : goal.load-requires
load-requires g c =
    let next : c.pass.inside.seat.me.0.next ≡ c.args.pass.now.next = ap (λ p. p.next) c.pass.view_is in
    let gives = c.requires.gives.0 in
    let some : 1 ≤ c.pass.inside.seat.me.0.next = omega arith in
    let number : 1 ≤ c.split_seat-seat.result.me.0.number = rw c.split_seat-seat.ensures.4 some in
    (search rules, search rules, looks _ _ _ _ _ _ _ _ number)
