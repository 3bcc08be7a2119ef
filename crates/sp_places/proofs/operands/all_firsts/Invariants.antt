use Rattle.std.proofs.Common.{◌≡◌, map, take, slice_index}
use Rattle.sp_places.proofs.operands.all_firsts.Given as goal

abbrev pub invariant-loop-list : goal.invariant-loop-list
invariant-loop-list l = l.ids.items ≡ map (λ ids. slice_index ids 0) (take l.list-index l.lists)
