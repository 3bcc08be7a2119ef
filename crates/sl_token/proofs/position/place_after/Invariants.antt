-- The place so far, moved by what is left, is the place behind all bytes. Each byte adds at most one to line and column.
use Rattle.std.proofs.Common.{◌≡◌, ◌≤◌, ◌+◌, drop}
use Rattle.sl_token.specs.Moving.{place_after}
use Rattle.sl_token.specs.View.{place_of}
use Rattle.sl_token.proofs.position.place_after.Given as goal

abbrev pub invariant-loop-byte : goal.invariant-loop-byte
invariant-loop-byte l =
    (place_after (place_of l.place) (drop l.byte-index l.bytes) ≡ place_after (place_of l.fn.place) l.bytes)
    × (l.place.line ≤ l.fn.place.line + l.byte-index)
    × (l.place.column ≤ l.fn.place.column + l.byte-index)
