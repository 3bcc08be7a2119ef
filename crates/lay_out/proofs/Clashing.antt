-- What a map knows of the slots that buffers want.
use Rattle.std.proofs.Common.{◌≡◌, ℕ, ◌+◌, ◌<◌, ◌≤◌, List, length, Bool, true, false, subst, sym, ◌∙◌, ap, ⊎_elim, ◌⊎◌, inl, inr, arith, refl}
use Rattle.std.specs.Prelude.{slice_get, Some, None}
use Rattle.std.specs.declared.cmp.Ordering.TheVariants.{Equal}
use Rattle.std.specs.BTreeMap.{BTreeMap, IsEmpty, Updates, get, is_at}
use Rattle.std.specs.Map.{lookup}
use Rattle.std.specs.Cmp.{Equal-is}
use Rattle.std.specs.Ordering.{nat_cmp}
use Rattle.std.proofs.lemmas.Bool.{cases_order, false≢true}
use Rattle.std.proofs.lemmas.Map.Lookups.{exact_pairs, exact_unsigned}
use Rattle.std.proofs.lemmas.Option.{same_Some, none-some, slice_get_within}
use Rattle.def_layout.specs.declared.slot.Slot.{Slot}
use Rattle.def_layout.specs.declared.slot.Wanted.{Wanted}
use Rattle.def_layout.specs.declared.slot.Wanted.TheVariants.{Any, At}
use Rattle.def_layout.specs.Binding.{HasNoClash, IsFirstClash, WantBoth}
use Rattle.def_layout.specs.Slots.{slot_cmp}

-- the map has exactly the slots that the first buffers want, each at the number of the buffer that wants it
pub record HasSeen (wanted : List Wanted) (count : ℕ) (seen : BTreeMap Slot ℕ) : Type 0 where
  pub kept : (number : ℕ) (slot : Slot) → number < count → slice_get wanted number ≡ Some (At slot)
      → get slot_cmp seen slot ≡ Some number
  pub within : (number : ℕ) (slot : Slot) → get slot_cmp seen slot ≡ Some number → number < count
  pub wants : (number : ℕ) (slot : Slot) → get slot_cmp seen slot ≡ Some number
      → slice_get wanted number ≡ Some (At slot)

-- slots that are equal in the order are one
same_slot : (slot other : Slot) → slot_cmp slot other ≡ Equal → slot ≡ other
same_slot slot other e =
    ap (λ (p : ℕ × ℕ). record { set = p.0; binding = p.1 })
    (exact_pairs nat_cmp nat_cmp exact_unsigned exact_unsigned (slot.set, slot.binding) (other.set, other.binding) e)

split : (b : Bool) → (b ≡ true) ⊎ (b ≡ false)
split true = inl refl
split false = inr refl

-- a change at one slot is no change at others
only_there : (seen new : BTreeMap Slot ℕ) (slot : Slot) (number : ℕ) → Updates slot_cmp seen new slot (Some number)
    → (other : Slot) → (slot ≡ other) ⊎ (get slot_cmp new other ≡ get slot_cmp seen other)
only_there seen new slot number updates other =
    ⊎_elim (λ e. inl (same_slot slot other ((Equal-is (slot_cmp slot other)).0 e)))
    (λ e. inr (updates.2 other e))
    (split (is_at (slot_cmp slot) other))

-- the slot of a buffer that wants one
abbrev slot_or : Slot → Wanted → Slot
slot_or slot Any = slot
slot_or slot (At other) = other

wants_one : (wanted : List Wanted) (number : ℕ) (slot other : Slot)
    → slice_get wanted number ≡ Some (At slot) → slice_get wanted number ≡ Some (At other) → slot ≡ other
wants_one wanted number slot other p q = ap (slot_or slot) (same_Some (At slot) (At other) (sym p ∙ q))

-- whether a buffer wants a slot
abbrev wants_a_slot : Wanted → Bool
wants_a_slot Any = false
wants_a_slot (At slot) = true

wants_none : (wanted : List Wanted) (number : ℕ) (slot : Slot)
    → slice_get wanted number ≡ Some Any → slice_get wanted number ≡ Some (At slot) → ⊥
wants_none wanted number slot p q = false≢true (ap wants_a_slot (same_Some Any (At slot) (sym p ∙ q)))

-- a number below the next one is the last, or below it
below_or_last : (number count : ℕ) → number < count + 1 → (number ≡ count) ⊎ (number < count)
below_or_last number count below =
    ⊎_elim (λ e. inl e) (⊎_elim (λ l. inr l) (λ l. absurd (omega (arith, l, below)))) (cases_order number count)

-- before all buffers no slot is wanted
pub seen_none : (wanted : List Wanted) (seen : BTreeMap Slot ℕ) → IsEmpty seen → HasSeen wanted 0 seen
seen_none wanted seen empty =
    let nothing : (slot : Slot) → get slot_cmp seen slot ≡ None =
    λ slot. ap (λ entries. lookup (is_at (slot_cmp slot)) entries) empty in
    record {
      kept = λ number slot below want. absurd (omega (arith, below));
      within = λ number slot found. absurd (none-some number (sym (nothing slot) ∙ found));
      wants = λ number slot found. absurd (none-some number (sym (nothing slot) ∙ found));
    }

-- none of the first buffers wants the slot of another
pub seen_apart : (wanted : List Wanted) (count : ℕ) (seen : BTreeMap Slot ℕ) → HasSeen wanted count seen
    → (one later : ℕ) (slot : Slot) → WantBoth wanted one later slot → count ≤ later
seen_apart wanted count seen all one later slot both =
    let order = both.order in
    ⊎_elim (λ e. omega (arith, e))
    (⊎_elim (λ l. omega (arith, l))
    (λ (l : later < count).
    let below : one < count = omega (arith, order, l) in
    let same : one ≡ later =
    same_Some one later (sym (all.kept one slot below both.first) ∙ all.kept later slot l both.second) in
    absurd (omega (arith, order, same))))
    (cases_order count later)

-- where the first buffers are all, no two want one slot
pub seen_all : (wanted : List Wanted) (count : ℕ) (seen : BTreeMap Slot ℕ) → length wanted ≤ count
    → HasSeen wanted count seen → HasNoClash wanted
seen_all wanted count seen end all one later slot both =
    let within : later < length wanted = slice_get_within wanted later (At slot) both.second in
    let behind : count ≤ later = seen_apart wanted count seen all one later slot both in
    omega (arith, within, behind, end)

-- a buffer that wants none
pub seen_any : (wanted : List Wanted) (count : ℕ) (seen : BTreeMap Slot ℕ) → HasSeen wanted count seen
    → slice_get wanted count ≡ Some Any → HasSeen wanted (count + 1) seen
seen_any wanted count seen all this = record {
  kept = λ number slot below want.
      ⊎_elim
      (λ (e : number ≡ count).
      absurd (wants_none wanted count slot this (subst (λ n. slice_get wanted n ≡ Some (At slot)) e want)))
      (λ l. all.kept number slot l want)
      (below_or_last number count below);
  within = λ number slot found. let l = all.within number slot found in omega (arith, l);
  wants = all.wants;
}

-- a buffer that wants a slot which none before it wants
pub seen_more : (wanted : List Wanted) (count : ℕ) (seen new : BTreeMap Slot ℕ) (slot : Slot)
    → HasSeen wanted count seen → slice_get wanted count ≡ Some (At slot) → get slot_cmp seen slot ≡ None
    → Updates slot_cmp seen new slot (Some count) → HasSeen wanted (count + 1) new
seen_more wanted count seen new slot all this absent updates =
    let here : get slot_cmp new slot ≡ Some count = updates.1 in
    let there = only_there seen new slot count updates in
    let last : (number : ℕ) (other : Slot) → slot ≡ other → get slot_cmp new other ≡ Some number → count ≡ number =
    λ number other e found.
    same_Some count number (sym here ∙ subst (λ s. get slot_cmp new s ≡ Some number) (sym e) found) in
    record {
      kept = λ number other below want.
          ⊎_elim
          (λ (e : number ≡ count).
          let s : slot ≡ other =
          wants_one wanted count slot other this (subst (λ n. slice_get wanted n ≡ Some (At other)) e want) in
          subst (λ s. get slot_cmp new s ≡ Some number) s (here ∙ ap (λ n. Some n) (sym e)))
          (λ (l : number < count).
          let had : get slot_cmp seen other ≡ Some number = all.kept number other l want in
          ⊎_elim
          (λ (s : slot ≡ other).
          absurd (none-some number (sym absent ∙ subst (λ s. get slot_cmp seen s ≡ Some number) (sym s) had)))
          (λ e. e ∙ had)
          (there other))
          (below_or_last number count below);
      within = λ number other found.
          ⊎_elim (λ (s : slot ≡ other). let e = last number other s found in omega (arith, e))
          (λ e. let l = all.within number other (sym e ∙ found) in omega (arith, l))
          (there other);
      wants = λ number other found.
          ⊎_elim
          (λ (s : slot ≡ other).
          subst (λ s. slice_get wanted number ≡ Some (At s)) s
          (subst (λ n. slice_get wanted n ≡ Some (At slot)) (last number other s found) this))
          (λ e. all.wants number other (sym e ∙ found))
          (there other);
    }

-- a buffer that wants the slot of one before it
pub seen_clash : (wanted : List Wanted) (count : ℕ) (seen : BTreeMap Slot ℕ) (slot : Slot) (first : ℕ)
    → HasSeen wanted count seen → slice_get wanted count ≡ Some (At slot) → get slot_cmp seen slot ≡ Some first
    → IsFirstClash wanted first count
seen_clash wanted count seen slot first all this found = record {
  slot = slot;
  both = record { order = all.within first slot found; first = all.wants first slot found; second = this };
  least = seen_apart wanted count seen all;
}
