-- What is known of the slots of the first buffers while the others are bound.
use Rattle.std.proofs.Common.{◌≡◌, ℕ, ◌+◌, ◌-◌, ◌<◌, ◌≤◌, ◌⊎◌, zero, suc, List, [], ◌∷◌, ◌++◌, length, Option, Some, None, inl, inr, ⊎_elim, refl, sym, ap, ◌∙◌, subst, arith, length-append}
use Rattle.std.specs.List.{Contains, filter_map, slice_get}
use Rattle.std.specs.List.Sorted.{IsPermutation}
use Rattle.std.proofs.lemmas.Bool.{cases_lt}
use Rattle.std.proofs.lemmas.List.Sorted.{Contains-permutation, IsPermutation-sym, length_permutation}
use Rattle.std.proofs.lemmas.Option.{slice_get_within, same_Some}
use Rattle.def_layout.specs.Binding.{AreBound, IsFirstFree, IsFree}
use Rattle.def_layout.specs.declared.slot.Slot.{Slot}
use Rattle.def_layout.specs.declared.slot.Wanted.{Wanted}
use Rattle.def_layout.specs.declared.slot.Wanted.TheVariants.{Any, At}
use Rattle.def_layout.proofs.Bound.{Agree, first_free_along, first_set, wants_some}
use Rattle.lay_out.proofs.Wants.{any_before, any_more, any_same, fixed_is_wanted, room_for_any, wanted_is_fixed}
use Rattle.lay_out.specs.Free.{IsReady, Takes, fixed_binding}
use Rattle.lay_out.specs.declared.free.Free.{Free}

-- one more slot stands behind the others
pub get_before : (slots : List Slot) (slot : Slot) (number : ℕ) → number < length slots
    → slice_get (slots ++ slot ∷ []) number ≡ slice_get slots number
get_before [] slot number within = absurd (omega arith)
get_before (first ∷ more) slot zero within = refl
get_before (first ∷ more) slot (suc number) within = get_before more slot number (omega arith)

pub get_last : (slots : List Slot) (slot : Slot) → slice_get (slots ++ slot ∷ []) (length slots) ≡ Some slot
get_last [] slot = refl
get_last (first ∷ more) slot = get_last more slot

length_push : (slots : List Slot) (slot : Slot) → length (slots ++ slot ∷ []) ≡ suc (length slots)
length_push slots slot = length-append slots (slot ∷ []) ∙ omega arith

-- a slot of the longer list is one of the shorter one, or it is the last one
pub get_cases : (slots : List Slot) (last : Slot) (number : ℕ) (slot : Slot) → slice_get (slots ++ last ∷ []) number ≡ Some slot
    → ((number < length slots) × (slice_get slots number ≡ Some slot)) ⊎ ((number ≡ length slots) × (last ≡ slot))
get_cases slots last number slot is =
    let within = slice_get_within (slots ++ last ∷ []) number slot is in
    let all = length_push slots last in
    ⊎_elim
    (λ (h : number < length slots). inl (h, sym (get_before slots last number h) ∙ is))
    (λ (h : length slots ≤ number).
    let e : number ≡ length slots = omega arith in
    inr (e, same_Some last slot (sym (get_last slots last) ∙ ap (slice_get (slots ++ last ∷ [])) (sym e) ∙ is)))
    (cases_lt number (length slots))

-- a buffer is bound to this binding of set 0
pub record IsBoundBefore (slots : List Slot) (binding : ℕ) : Type 0 where
  pub earlier : ℕ
  pub is : slice_get slots earlier ≡ Some (first_set binding)

-- the first buffers are bound to these slots, and each binding below the next one is taken
pub record AreBoundSoFar (wanted : List Wanted) (slots : List Slot) (free : Free) : Type 0 where
  pub ready : IsReady free
  pub fixed : IsPermutation (filter_map fixed_binding wanted) free.fixed.items
  pub spends : free.next + (length free.fixed.items - free.passed) ≤ length free.fixed.items + any_before wanted (length slots)
  pub wants : (number : ℕ) (slot : Slot) → number < length slots → slice_get wanted number ≡ Some (At slot) → slice_get slots number ≡ Some slot
  pub first : (number : ℕ) (slot : Slot) → slice_get wanted number ≡ Some Any → slice_get slots number ≡ Some slot
      → IsFirstFree wanted slots number slot × (slot.binding < free.next)
  pub covered : (binding : ℕ) → binding < free.next → Contains free.fixed.items binding ⊎ IsBoundBefore slots binding

agree_pushed : (slots : List Slot) (slot : Slot) (number : ℕ) → number ≤ length slots → Agree slots (slots ++ slot ∷ []) number
agree_pushed slots slot number h = record { same = λ earlier k. sym (get_before slots slot earlier (omega arith)) }

bound_before : (slots : List Slot) (slot : Slot) (binding : ℕ) → IsBoundBefore slots binding → IsBoundBefore (slots ++ slot ∷ []) binding
bound_before slots slot binding b =
    record { earlier = b.earlier; is = get_before slots slot b.earlier (slice_get_within slots b.earlier (first_set binding) b.is) ∙ b.is }

-- the next buffer gets the slot that it wants
pub wanted_bound : (wanted : List Wanted) (slots : List Slot) (free : Free) (slot : Slot) → slice_get wanted (length slots) ≡ Some (At slot)
    → AreBoundSoFar wanted slots free → AreBoundSoFar wanted (slots ++ slot ∷ []) free
wanted_bound wanted slots free slot this before =
    let all = length_push slots slot in
    let same : any_before wanted (length (slots ++ slot ∷ [])) ≡ any_before wanted (length slots) =
    ap (any_before wanted) all ∙ any_same wanted (length slots) slot this in
    record {
      ready = before.ready;
      fixed = before.fixed;
      spends = (let p = before.spends in omega arith);
      wants = λ number other h is. ⊎_elim
          (λ (k : number < length slots). get_before slots slot number k ∙ before.wants number other k is)
          (λ (k : length slots ≤ number).
          let e : number ≡ length slots = omega arith in
          let one : slice_get wanted (length slots) ≡ Some (At other) = ap (slice_get wanted) (sym e) ∙ is in
          let f : slot ≡ other = cc in
          ap (slice_get (slots ++ slot ∷ [])) e ∙ get_last slots slot ∙ ap Some f)
          (cases_lt number (length slots));
      first = λ number other is got. ⊎_elim
          (λ (k : (number < length slots) × (slice_get slots number ≡ Some other)).
          let p = before.first number other is k.1 in
          (first_free_along wanted slots (slots ++ slot ∷ []) number other (agree_pushed slots slot number (let h = k.0 in omega arith)) p.0, p.1))
          (λ (k : (number ≡ length slots) × (slot ≡ other)).
          let one : slice_get wanted number ≡ Some (At slot) = ap (slice_get wanted) k.0 ∙ this in
          absurd cc)
          (get_cases slots slot number other got);
      covered = λ binding h. ⊎_elim
          (λ (k : Contains free.fixed.items binding). inl k)
          (λ (k : IsBoundBefore slots binding). inr (bound_before slots slot binding k))
          (before.covered binding h);
    }

-- no buffer so far has this slot of set 0, whose binding is neither fixed nor below the next one
abbrev IsUnwanted : List Wanted → ℕ → Type 0
IsUnwanted wanted binding = (number : ℕ) → slice_get wanted number ≡ Some (At (first_set binding)) → ⊥

not_bound_by : (wanted : List Wanted) (slots : List Slot) (free : Free) (binding : ℕ) → AreBoundSoFar wanted slots free
    → length slots ≤ length wanted → free.next ≤ binding → IsUnwanted wanted binding
    → (earlier : ℕ) (this : Option Wanted) → slice_get wanted earlier ≡ this → earlier < length slots
    → slice_get slots earlier ≡ Some (first_set binding) → ⊥
not_bound_by wanted slots free binding before within from unwanted earlier None is h got = wants_some wanted earlier (omega arith) is
not_bound_by wanted slots free binding before within from unwanted earlier (Some Any) is h got =
    let p = (before.first earlier (first_set binding) is got).1 in omega arith
not_bound_by wanted slots free binding before within from unwanted earlier (Some (At slot)) is h got =
    let p = before.wants earlier slot h is in
    let same : slot ≡ first_set binding = same_Some slot (first_set binding) (sym p ∙ got) in
    unwanted earlier (is ∙ ap (λ s. Some (At s)) same)

not_bound : (wanted : List Wanted) (slots : List Slot) (free : Free) (binding : ℕ) → AreBoundSoFar wanted slots free
    → length slots ≤ length wanted → free.next ≤ binding → IsUnwanted wanted binding
    → (earlier : ℕ) → earlier < length slots → slice_get slots earlier ≡ Some (first_set binding) → ⊥
not_bound wanted slots free binding before within from unwanted earlier h got =
    not_bound_by wanted slots free binding before within from unwanted earlier (slice_get wanted earlier) refl h got

-- no buffer wants a binding of set 0 that is not fixed
unwanted_if_unfixed : (wanted : List Wanted) (items : List ℕ) (binding : ℕ) → IsPermutation (filter_map fixed_binding wanted) items
    → (Contains items binding → ⊥) → IsUnwanted wanted binding
unwanted_if_unfixed wanted items binding fixed unfixed number is =
    unfixed (Contains-permutation _ items binding fixed (wanted_is_fixed wanted number (first_set binding) is refl))

-- a binding that is free for the next buffer is not fixed
unfixed_if_free : (wanted : List Wanted) (slots : List Slot) (items : List ℕ) (number binding : ℕ) → IsPermutation (filter_map fixed_binding wanted) items
    → IsFree wanted slots number (first_set binding) → Contains items binding → ⊥
unfixed_if_free wanted slots items number binding fixed free among =
    let w = fixed_is_wanted wanted binding (Contains-permutation items (filter_map fixed_binding wanted) binding (IsPermutation-sym _ items fixed) among) in
    free.unwanted w.number w.is

-- the binding that is taken is the first that is free
taken_is_first : (wanted : List Wanted) (slots : List Slot) (old new : Free) (binding : ℕ) → length slots ≤ length wanted
    → AreBoundSoFar wanted slots old → Takes old binding new → IsFirstFree wanted slots (length slots) (first_set binding)
taken_is_first wanted slots old new binding within before takes =
    let unwanted = unwanted_if_unfixed wanted old.fixed.items binding before.fixed takes.free in
    record {
      set = refl;
      free = record {
        unwanted = unwanted;
        unbound = not_bound wanted slots old binding before within takes.from unwanted;
      };
      least = λ other free.
          let unfixed : Contains old.fixed.items other → ⊥ = unfixed_if_free wanted slots old.fixed.items (length slots) other before.fixed free in
          ⊎_elim
          (λ (h : other < binding). ⊎_elim
          (λ (k : other < old.next). ⊎_elim
          (λ (among : Contains old.fixed.items other). absurd (unfixed among))
          (λ (b : IsBoundBefore slots other). absurd (free.unbound b.earlier (slice_get_within slots b.earlier (first_set other) b.is) b.is))
          (before.covered other k))
          (λ (k : old.next ≤ other). absurd (unfixed (takes.first other k h)))
          (cases_lt other old.next))
          (λ (h : binding ≤ other). h)
          (cases_lt other binding);
    }

-- the next buffer gets the first slot that is free
pub any_bound : (wanted : List Wanted) (slots : List Slot) (old new : Free) (binding : ℕ) → slice_get wanted (length slots) ≡ Some Any
    → AreBoundSoFar wanted slots old → Takes old binding new → AreBoundSoFar wanted (slots ++ first_set binding ∷ []) new
any_bound wanted slots old new binding this before takes =
    let slot = first_set binding in
    let pushed = slots ++ first_set binding ∷ [] in
    let within = slice_get_within wanted (length slots) Any this in
    let all = length_push slots slot in
    let more : any_before wanted (length pushed) ≡ any_before wanted (length slots) + 1 =
    ap (any_before wanted) all ∙ any_more wanted (length slots) this in
    let count : length new.fixed.items ≡ length old.fixed.items = ap length takes.same in
    record {
      ready = takes.ready;
      fixed = subst (IsPermutation (filter_map fixed_binding wanted)) (sym takes.same) before.fixed;
      spends = (let p = before.spends in let q = takes.spends in omega arith);
      wants = λ number other h is. ⊎_elim
          (λ (k : number < length slots). get_before slots slot number k ∙ before.wants number other k is)
          (λ (k : length slots ≤ number).
          let e : number ≡ length slots = omega arith in
          let one : slice_get wanted number ≡ Some Any = ap (slice_get wanted) e ∙ this in
          absurd cc)
          (cases_lt number (length slots));
      first = λ number other is got. ⊎_elim
          (λ (k : (number < length slots) × (slice_get slots number ≡ Some other)).
          let p = before.first number other is k.1 in
          let low : other.binding < new.next = (let q = p.1 in let f = takes.from in let n = takes.next in omega arith) in
          (first_free_along wanted slots pushed number other (agree_pushed slots slot number (let h = k.0 in omega arith)) p.0, low))
          (λ (k : (number ≡ length slots) × (slot ≡ other)).
          let f = first_free_along wanted slots pushed (length slots) slot (agree_pushed slots slot (length slots) (omega arith))
          (taken_is_first wanted slots old new binding (omega arith) before takes) in
          let low : binding < new.next = (let n = takes.next in omega arith) in
          subst (λ (s : Slot). IsFirstFree wanted pushed number s × (s.binding < new.next)) k.1
          (subst (λ n. IsFirstFree wanted pushed n slot) (sym k.0) f, low))
          (get_cases slots slot number other got);
      covered = λ other h. ⊎_elim
          (λ (k : other < old.next). ⊎_elim
          (λ (among : Contains old.fixed.items other). inl (subst (λ l. Contains l other) (sym takes.same) among))
          (λ (b : IsBoundBefore slots other). inr (bound_before slots slot other b))
          (before.covered other k))
          (λ (k : old.next ≤ other). ⊎_elim
          (λ (l : other < binding). inl (subst (λ l. Contains l other) (sym takes.same) (takes.first other k l)))
          (λ (l : binding ≤ other).
          let e : binding ≡ other = (let n = takes.next in omega arith) in
          inr (record { earlier = length slots; is = get_last slots slot ∙ ap (λ b. Some (first_set b)) e }))
          (cases_lt other binding))
          (cases_lt other old.next);
    }

-- there is room for the next binding
pub room : (wanted : List Wanted) (slots : List Slot) (free : Free) → slice_get wanted (length slots) ≡ Some Any
    → AreBoundSoFar wanted slots free → free.next + (length free.fixed.items - free.passed) + 1 ≤ length wanted
room wanted slots free this before =
    let p = before.spends in
    let q = room_for_any wanted (length slots) this in
    let e = length_permutation _ free.fixed.items before.fixed in
    omega arith

-- all buffers are bound
pub all_bound : (wanted : List Wanted) (slots : List Slot) (free : Free) → length slots ≡ length wanted
    → AreBoundSoFar wanted slots free → AreBound wanted slots
all_bound wanted slots free all before = record {
  all = all;
  fixed = λ number slot is. let within = slice_get_within wanted number (At slot) is in before.wants number slot (omega arith) is;
  others = λ number slot is got. (before.first number slot is got).0;
}
