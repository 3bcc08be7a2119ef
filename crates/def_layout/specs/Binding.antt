-- To which slots buffers are bound.
use Rattle.std.specs.Prelude.{◌≡◌, ◌≢◌, ℕ, ◌<◌, ◌≤◌, List, length, Some, slice_get}
use Rattle.def_layout.specs.declared.slot.Slot.{Slot}
use Rattle.def_layout.specs.declared.slot.Wanted.{Wanted}
use Rattle.def_layout.specs.declared.slot.Wanted.TheVariants.{Any, At}

-- two buffers, the first of which stands before the other, want this slot
pub record WantBoth (wanted : List Wanted) (one later : ℕ) (slot : Slot) : Type 0 where
  pub order : one < later
  pub first : slice_get wanted one ≡ Some (At slot)
  pub second : slice_get wanted later ≡ Some (At slot)

-- no two buffers want one slot
abbrev pub HasNoClash : List Wanted → Type 0
HasNoClash wanted = (one later : ℕ) (slot : Slot) → ¬ WantBoth wanted one later slot

-- the first buffer that wants the slot of one before it, and that one
pub record IsFirstClash (wanted : List Wanted) (first second : ℕ) : Type 0 where
  pub slot : Slot
  pub both : WantBoth wanted first second slot
  pub least : (one later : ℕ) (other : Slot) → WantBoth wanted one later other → second ≤ later

-- no buffer wants this slot, and none before the one of a number is bound to it
pub record IsFree (wanted : List Wanted) (slots : List Slot) (number : ℕ) (slot : Slot)
    : Type 0 where
  pub unwanted : (other : ℕ) → slice_get wanted other ≢ Some (At slot)
  pub unbound : (earlier : ℕ) → earlier < number → slice_get slots earlier ≢ Some slot

-- the slot of set 0 with the least binding that is free for the buffer of a number
pub record IsFirstFree (wanted : List Wanted) (slots : List Slot) (number : ℕ) (slot : Slot)
    : Type 0 where
  pub set : slot.set ≡ 0
  pub free : IsFree wanted slots number slot
  pub least : (binding : ℕ) → IsFree wanted slots number (record { set = 0; binding = binding })
      → slot.binding ≤ binding

-- The buffers are bound to these slots: each to the one that it wants, and where it wants none, to
-- the first that is free.
pub record AreBound (wanted : List Wanted) (slots : List Slot) : Type 0 where
  pub all : length slots ≡ length wanted
  pub fixed : (number : ℕ) (slot : Slot) → slice_get wanted number ≡ Some (At slot)
      → slice_get slots number ≡ Some slot
  pub others : (number : ℕ) (slot : Slot) → slice_get wanted number ≡ Some Any
      → slice_get slots number ≡ Some slot → IsFirstFree wanted slots number slot
