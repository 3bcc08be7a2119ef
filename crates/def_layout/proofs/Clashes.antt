-- Of buffers that want slots there is one first clash at most.
use Rattle.std.proofs.Common.{◌≡◌, ℕ, ◌≤◌, List, subst, sym, ◌∙◌, ap, ⊎_elim, arith}
use Rattle.std.specs.Prelude.{slice_get, Some}
use Rattle.std.proofs.lemmas.Bool.{cases_order}
use Rattle.std.proofs.lemmas.Option.{same_Some}
use Rattle.std.proofs.Math.Nat.{le_antisymm}
use Rattle.def_layout.specs.declared.slot.Slot.{Slot}
use Rattle.def_layout.specs.declared.slot.Wanted.{Wanted}
use Rattle.def_layout.specs.declared.slot.Wanted.TheVariants.{Any, At}
use Rattle.def_layout.specs.Binding.{IsFirstClash, WantBoth}

-- the slot of a buffer that wants one
abbrev slot_or : Slot → Wanted → Slot
slot_or slot Any = slot
slot_or slot (At other) = other

-- a buffer wants one slot at most
same_slot : (wanted : List Wanted) (number : ℕ) (slot other : Slot)
    → slice_get wanted number ≡ Some (At slot) → slice_get wanted number ≡ Some (At other) → slot ≡ other
same_slot wanted number slot other p q = ap (slot_or slot) (same_Some (At slot) (At other) (sym p ∙ q))

-- of two that want the slot of a later one, none stands before the other if that is the first clash
not_before : (wanted : List Wanted) (one other later : ℕ) (slot : Slot)
    → ((a b : ℕ) (s : Slot) → WantBoth wanted a b s → later ≤ b)
    → WantBoth wanted one later slot → WantBoth wanted other later slot → other ≤ one
not_before wanted one other later slot least p q =
    ⊎_elim (λ e. omega arith)
    (⊎_elim
    (λ l. let late = least one other slot (record { order = l; first = p.first; second = q.first }) in
    let below = q.order in
    absurd (omega (arith, late, below)))
    (λ l. omega arith))
    (cases_order one other)

pub one_clash : (wanted : List Wanted) (first second other last : ℕ)
    → IsFirstClash wanted first second → IsFirstClash wanted other last → (first ≡ other) × (second ≡ last)
one_clash wanted first second other last p q =
    let e : second ≡ last = le_antisymm (p.least other last q.slot q.both) (q.least first second p.slot p.both) in
    let later : WantBoth wanted other second q.slot = subst (λ n. WantBoth wanted other n q.slot) (sym e) q.both in
    let s : q.slot ≡ p.slot = same_slot wanted second q.slot p.slot later.second p.both.second in
    let both : WantBoth wanted other second p.slot = subst (λ s. WantBoth wanted other second s) s later in
    (le_antisymm (not_before wanted other first second p.slot p.least both p.both) (not_before wanted first other second p.slot p.least p.both both), e)
