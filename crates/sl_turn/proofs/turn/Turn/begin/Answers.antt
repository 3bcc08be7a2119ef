use Rattle.std.proofs.Common.{rules, ◌≡◌, ◌≤◌, Some, [], false}
use Rattle.sl_turn.proofs.Drawing.{draws}
use Rattle.sl_turn.proofs.Entering.{enters}
use Rattle.sl_turn.proofs.turn.Turn.begin.Goals as goal

pub fetch_add-ticket-requires : goal.fetch_add-ticket-requires
fetch_add-ticket-requires g c = let idle = c.requires.idle in (
  search rules,
  search rules,
  draws _ _ _ _ _ _ _ _ idle.numbered idle.no_ticket idle.not_in_turn,
)

pub load-requires : goal.load-requires
load-requires g c =
    let idle = c.requires.idle in
    let is = c.loop.invariant.2 in
    let some : 1 ≤ c.loop.seat.me.0.number = rw is idle.numbered in
    let has : c.loop.seat.me.0.ticket ≡ Some c.fetch_add-ticket.result = rw is in
    let resting : c.loop.seat.me.0.in_turn ≡ false = rw is idle.not_in_turn in
    let nothing : c.loop.seat.me.1 ≡ [] = rw is in (
      search rules,
      search rules,
      enters _ _ _ _ _ _ _ _ c.fetch_add-ticket.result some has resting nothing,
    )
