-- Bindings that nothing has yet.
use Rattle.std.specs.Prelude.{◌≡◌, ℕ, ◌+◌, ◌-◌, ◌<◌, ◌≤◌, List, length, Option, Some, None, nat_eq, if◌then◌else◌, slice_index}
use Rattle.std.specs.List.{Contains, filter_map}
use Rattle.std.specs.List.Sorted.{IsNonDecreasing, IsPermutation}
use Rattle.def_layout.specs.declared.slot.Wanted.{Wanted}
use Rattle.def_layout.specs.declared.slot.Wanted.TheVariants.{Any, At}
use Rattle.lay_out.specs.declared.free.Free.{Free}

-- the binding of set 0 that a buffer wants
abbrev pub fixed_binding : Wanted → Option ℕ
fixed_binding Any = None
fixed_binding (At slot) = if nat_eq slot.set 0 then Some slot.binding else None

-- the fixed bindings rise, and those that are passed are below the next one
pub record IsReady (free : Free) : Type 0 where
  pub rises : IsNonDecreasing free.fixed.items
  pub below : (i : ℕ) → i < free.passed → slice_index free.fixed.items i < free.next
  pub within : free.passed ≤ length free.fixed.items

-- the first binding from the next one on was taken that is not fixed
pub record Takes (old : Free) (binding : ℕ) (new : Free) : Type 0 where
  pub same : new.fixed.items ≡ old.fixed.items
  pub ready : IsReady new
  pub from : old.next ≤ binding
  pub next : new.next ≡ binding + 1
  pub free : ¬ Contains old.fixed.items binding
  pub first : (other : ℕ) → old.next ≤ other → other < binding → Contains old.fixed.items other
  -- the next binding rises by one, and by one more at most for each that is passed
  pub spends : new.next + (length new.fixed.items - new.passed)
      ≤ old.next + (length old.fixed.items - old.passed) + 1

-- no binding is taken yet, and those that buffers want of set 0 are fixed
pub record IsStart (wanted : List Wanted) (free : Free) : Type 0 where
  pub ready : IsReady free
  pub start : free.next ≡ 0
  pub unpassed : free.passed ≡ 0
  pub fixed : IsPermutation (filter_map fixed_binding wanted) free.fixed.items
