-- The order of slots.
use Rattle.std.specs.Ordering.{nat_cmp, on, then_cmp}
use Rattle.std.specs.declared.cmp.Ordering.{Ordering}
use Rattle.def_layout.specs.declared.slot.Slot.{Slot}

-- slots are ordered by their sets, and then by their bindings
abbrev pub slot_cmp : Slot → Slot → Ordering
slot_cmp = then_cmp (on (λ slot. slot.set) nat_cmp) (on (λ slot. slot.binding) nat_cmp)
