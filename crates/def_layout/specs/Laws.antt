-- What follows from the rules of layouts and of bindings.
use Rattle.std.specs.Prelude.{◌≡◌, ◌≢◌, ℕ, ◌+◌, ◌*◌, ◌≤◌, List, All, AllPairs}
use Rattle.def_layout.specs.Binding.{AreBound, HasNoClash, IsFirstClash}
use Rattle.def_layout.specs.Shape.{bytes, Shape}
use Rattle.def_layout.specs.declared.laid.Laid.{Laid}
use Rattle.def_layout.specs.declared.laid.Leaf.{Leaf}
use Rattle.def_layout.specs.declared.slot.Slot.{Slot}
use Rattle.def_layout.specs.declared.slot.Wanted.{Wanted}
use Rattle.def_layout.specs.Std430.{IsMultiple, IsLaidOut}

-- the byte at which a number ends
abbrev pub end_of : Leaf → ℕ
end_of leaf = leaf.offset + bytes leaf.scalar

-- a shape has one layout at most
abbrev pub LayoutsAreDetermined : Type 0
LayoutsAreDetermined = (shape : Shape) (one other : Laid)
    → IsLaidOut shape one → IsLaidOut shape other → one ≡ other

-- each shape has a layout
abbrev pub ShapesAreLaidOut : Type 0
ShapesAreLaidOut = (shape : Shape) → (laid : Laid) × IsLaidOut shape laid

-- each number ends before the later ones begin
abbrev pub LeavesAreApart : Type 0
LeavesAreApart = (shape : Shape) (laid : Laid) → IsLaidOut shape laid
    → AllPairs (λ one later. end_of one ≤ later.offset) laid.leaves

-- each number ends within the size
abbrev pub LeavesLieInside : Type 0
LeavesLieInside = (shape : Shape) (laid : Laid) → IsLaidOut shape laid
    → All (λ leaf. end_of leaf ≤ laid.size) laid.leaves

-- in each element each number begins at a multiple of its size
abbrev pub LeavesAreAligned : Type 0
LeavesAreAligned = (shape : Shape) (laid : Laid) → IsLaidOut shape laid
    → (index : ℕ)
    → All (λ leaf. IsMultiple (bytes leaf.scalar) (index * laid.stride + leaf.offset)) laid.leaves

-- a number of bytes holds all numbers
abbrev pub HoldsAll : Laid → ℕ → Type 0
HoldsAll laid n = All (λ leaf. end_of leaf ≤ n) laid.leaves

-- the stride is the least multiple of the alignment that holds all numbers, and it is the size
pub record HasLeastStride (laid : Laid) : Type 0 where
  pub multiple : IsMultiple laid.align laid.stride
  pub holds : HoldsAll laid laid.stride
  pub least : (n : ℕ) → IsMultiple laid.align n → HoldsAll laid n → laid.stride ≤ n
  pub is_size : laid.stride ≡ laid.size

-- strides hold all numbers of an element, and no more than the alignment asks
abbrev pub StridesHoldAll : Type 0
StridesHoldAll = (shape : Shape) (laid : Laid) → IsLaidOut shape laid → HasLeastStride laid

-- what buffers want determines their slots
abbrev pub SlotsAreDetermined : Type 0
SlotsAreDetermined = (wanted : List Wanted) (one other : List Slot)
    → AreBound wanted one → AreBound wanted other → one ≡ other

-- where no two buffers want one slot, no two are bound to one
abbrev pub SlotsAreDistinct : Type 0
SlotsAreDistinct = (wanted : List Wanted) (slots : List Slot)
    → HasNoClash wanted → AreBound wanted slots → AllPairs (λ one later. one ≢ later) slots

-- buffers have one first clash at most
abbrev pub FirstClashIsDetermined : Type 0
FirstClashIsDetermined = (wanted : List Wanted) (first second other last : ℕ)
    → IsFirstClash wanted first second → IsFirstClash wanted other last
    → (first ≡ other) × (second ≡ last)
