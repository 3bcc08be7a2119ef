use Rattle.std.proofs.Common.{take}
use Rattle.sp_places.specs.Index.{IsIndex}
use Rattle.sp_places.proofs.index.first_places.Given as goal

abbrev pub invariant-loop-place : goal.invariant-loop-place
invariant-loop-place l = IsIndex (take l.place l.keys) l.places
