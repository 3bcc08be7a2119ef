-- To which slots buffers are bound: to one list of slots, of which no two are alike where no two buffers want one.
use Rattle.std.proofs.Common.{◌≡◌, ℕ, ◌<◌, ◌≤◌, zero, suc, List, [], ◌∷◌, length, get_or, Option, Some, None, refl, sym, ap, ◌∙◌, subst, arith, ⊎_elim}
use Rattle.std.specs.List.{AllPairs, slice_get}
use Rattle.std.proofs.lemmas.Bool.{cases_lt}
use Rattle.std.proofs.lemmas.List.{ext_get_or}
use Rattle.std.proofs.lemmas.Option.{same_Some, slice_get-get_or, slice_get_past}
use Rattle.def_layout.specs.Binding.{AreBound, HasNoClash, IsFirstFree, IsFree}
use Rattle.def_layout.specs.declared.slot.Slot.{Slot}
use Rattle.def_layout.specs.declared.slot.Wanted.{Wanted}
use Rattle.def_layout.specs.declared.slot.Wanted.TheVariants.{Any, At}

-- the slot of set 0 with this binding
abbrev pub first_set : ℕ → Slot
first_set binding = record { set = 0; binding = binding }

pub is_first_set : (slot : Slot) (binding : ℕ) → slot.set ≡ 0 → slot.binding ≡ binding → slot ≡ first_set binding
is_first_set slot binding set is = ap (λ n. record { set = n; binding = slot.binding }) set ∙ ap (λ n. record { set = 0; binding = n }) is

-- each buffer wants something
pub wants_some : (wanted : List Wanted) (number : ℕ) → number < length wanted → slice_get wanted number ≡ None → ⊥
wants_some [] number within is = omega arith
wants_some (this ∷ more) zero within is = cc
wants_some (this ∷ more) (suc number) within is = wants_some more number (omega arith) is

-- the first buffers got the same slots
pub record Agree (one other : List Slot) (number : ℕ) : Type 0 where
  pub same : (earlier : ℕ) → earlier < number → slice_get one earlier ≡ slice_get other earlier

pub agree_back : (one other : List Slot) (number : ℕ) → Agree one other number → Agree other one number
agree_back one other number agree = record { same = λ earlier h. sym (agree.same earlier h) }

-- which slots are free for a buffer is told by the slots of those before it
pub free_along : (wanted : List Wanted) (one other : List Slot) (number : ℕ) (slot : Slot) → Agree one other number
    → IsFree wanted one number slot → IsFree wanted other number slot
free_along wanted one other number slot agree free = record {
  unwanted = free.unwanted;
  unbound = λ earlier h is. free.unbound earlier h (agree.same earlier h ∙ is);
}

pub first_free_along : (wanted : List Wanted) (one other : List Slot) (number : ℕ) (slot : Slot) → Agree one other number
    → IsFirstFree wanted one number slot → IsFirstFree wanted other number slot
first_free_along wanted one other number slot agree first = record {
  set = first.set;
  free = free_along wanted one other number slot agree first.free;
  least = λ binding free. first.least binding (free_along wanted other one number _ (agree_back one other number agree) free);
}

-- the first free slot is not above another one
first_is_least : (wanted : List Wanted) (slots : List Slot) (number : ℕ) (one other : Slot) → IsFirstFree wanted slots number one
    → IsFirstFree wanted slots number other → one.binding ≤ other.binding
first_is_least wanted slots number one other p q =
    p.least other.binding (subst (IsFree wanted slots number) (is_first_set other other.binding q.set refl) q.free)

one_first : (wanted : List Wanted) (slots : List Slot) (number : ℕ) (one other : Slot) → IsFirstFree wanted slots number one
    → IsFirstFree wanted slots number other → one ≡ other
one_first wanted slots number one other p q =
    let low = first_is_least wanted slots number one other p q in
    let high = first_is_least wanted slots number other one q p in
    is_first_set one other.binding p.set (omega arith) ∙ sym (is_first_set other other.binding q.set refl)

-- what the next buffer got is the same too
same_by : (wanted : List Wanted) (one other : List Slot) (number : ℕ) → AreBound wanted one → AreBound wanted other → Agree one other number
    → number < length wanted → (this : Option Wanted) → slice_get wanted number ≡ this → slice_get one number ≡ slice_get other number
same_by wanted one other number p q agree within None is = absurd (wants_some wanted number within is)
same_by wanted one other number p q agree within (Some (At slot)) is = p.fixed number slot is ∙ sym (q.fixed number slot is)
same_by wanted one other number p q agree within (Some Any) is =
    let n = p.all in
    let m = q.all in
    let a = get_or one number (first_set 0) in
    let b = get_or other number (first_set 0) in
    let d : slice_get one number ≡ Some a = slice_get-get_or one number (first_set 0) (omega arith) in
    let e : slice_get other number ≡ Some b = slice_get-get_or other number (first_set 0) (omega arith) in
    let f = first_free_along wanted one other number a agree (p.others number a is d) in
    d ∙ ap Some (one_first wanted other number a b f (q.others number b is e)) ∙ sym e

same_next : (wanted : List Wanted) (one other : List Slot) (number : ℕ) → AreBound wanted one → AreBound wanted other → Agree one other number
    → slice_get one number ≡ slice_get other number
same_next wanted one other number p q agree =
    let n = p.all in
    let m = q.all in
    ⊎_elim
    (λ (h : number < length wanted). same_by wanted one other number p q agree h (slice_get wanted number) refl)
    (λ (h : length wanted ≤ number). slice_get_past one number (omega arith) ∙ sym (slice_get_past other number (omega arith)))
    (cases_lt number (length wanted))

agree_all : (wanted : List Wanted) (one other : List Slot) → AreBound wanted one → AreBound wanted other → (number : ℕ) → Agree one other number
agree_all wanted one other p q zero = record { same = λ earlier h. absurd (omega arith) }
agree_all wanted one other p q (suc number) =
    let before = agree_all wanted one other p q number in
    record {
      same = λ earlier h. ⊎_elim
          (λ (k : earlier < number). before.same earlier k)
          (λ (k : number ≤ earlier).
          let e : number ≡ earlier = omega arith in
          subst (λ n. slice_get one n ≡ slice_get other n) e (same_next wanted one other number p q before))
          (cases_lt earlier number);
    }

pub one_binding : (wanted : List Wanted) (one other : List Slot) → AreBound wanted one → AreBound wanted other → one ≡ other
one_binding wanted one other p q =
    let n = p.all in
    let m = q.all in
    ext_get_or (first_set 0) one other (omega arith)
    (λ number h.
    let agree = agree_all wanted one other p q (suc number) in
    same_Some (get_or one number (first_set 0)) (get_or other number (first_set 0))
    (sym (slice_get-get_or one number (first_set 0) h) ∙ agree.same number (omega arith)
    ∙ slice_get-get_or other number (first_set 0) (omega arith)))

-- a buffer and an earlier one are not bound to one slot
apart_by : (wanted : List Wanted) (slots : List Slot) → HasNoClash wanted → AreBound wanted slots → (one later : ℕ) (slot : Slot) → one < later
    → later < length wanted → slice_get slots one ≡ Some slot → slice_get slots later ≡ Some slot
    → (this other : Option Wanted) → slice_get wanted one ≡ this → slice_get wanted later ≡ other → ⊥
apart_by wanted slots none bound one later slot order within first second this None is also = wants_some wanted later within also
apart_by wanted slots none bound one later slot order within first second this (Some Any) is also =
    (bound.others later slot also second).free.unbound one order first
apart_by wanted slots none bound one later slot order within first second None (Some (At next)) is also =
    wants_some wanted one (omega arith) is
apart_by wanted slots none bound one later slot order within first second (Some Any) (Some (At next)) is also =
    let e : next ≡ slot = same_Some next slot (sym (bound.fixed later next also) ∙ second) in
    (bound.others one slot is first).free.unwanted later (also ∙ ap (λ s. Some (At s)) e)
apart_by wanted slots none bound one later slot order within first second (Some (At this)) (Some (At next)) is also =
    let d : this ≡ slot = same_Some this slot (sym (bound.fixed one this is) ∙ first) in
    let e : next ≡ slot = same_Some next slot (sym (bound.fixed later next also) ∙ second) in
    none one later slot (record { order = order; first = is ∙ ap (λ s. Some (At s)) d; second = also ∙ ap (λ s. Some (At s)) e })

pub all_distinct : (wanted : List Wanted) (slots : List Slot) → HasNoClash wanted → AreBound wanted slots
    → AllPairs (λ one later. one ≡ later → ⊥) slots
all_distinct wanted slots none bound i j d before within same =
    let all = bound.all in
    apart_by wanted slots none bound i j (get_or slots i d) before (omega arith)
    (slice_get-get_or slots i d (omega arith)) (slice_get-get_or slots j d within ∙ ap Some (sym same))
    (slice_get wanted i) (slice_get wanted j) refl refl
