-- Which bindings of set 0 buffers want, and how many slots they leave to choose.
use Rattle.std.proofs.Common.{◌≡◌, ℕ, ◌+◌, ◌≤◌, zero, suc, Bool, true, false, cond, nat_eq, List, [], ◌∷◌, length, Option, Some, None, refl, sym, ap, ◌∙◌, subst, arith, eq-eqb}
use Rattle.std.specs.List.{Contains, cons_option, filter_map, slice_get}
use Rattle.std.proofs.lemmas.Bool.{eqb-true}
use Rattle.std.proofs.lemmas.Option.{same_Some}
use Rattle.def_layout.specs.declared.slot.Slot.{Slot}
use Rattle.def_layout.specs.declared.slot.Wanted.{Wanted}
use Rattle.def_layout.specs.declared.slot.Wanted.TheVariants.{Any, At}
use Rattle.def_layout.proofs.Bound.{first_set, is_first_set}
use Rattle.lay_out.specs.Free.{fixed_binding}

-- one of the further ones is one of all
behind : (first : Option ℕ) (xs : List ℕ) (x : ℕ) → Contains xs x → Contains (cons_option first xs) x
behind None xs x among = among
behind (Some first) xs x (k, inside, is) = (suc k, omega arith, is)

fixed_at : (this : Wanted) (slot : Slot) → this ≡ At slot → slot.set ≡ 0 → fixed_binding this ≡ Some slot.binding
fixed_at this slot is set = ap fixed_binding is ∙ ap (λ b. cond b (Some slot.binding) None) (eq-eqb slot.set 0 set)

-- a binding of set 0 that a buffer wants is fixed
pub wanted_is_fixed : (wanted : List Wanted) (number : ℕ) (slot : Slot) → slice_get wanted number ≡ Some (At slot) → slot.set ≡ 0
    → Contains (filter_map fixed_binding wanted) slot.binding
wanted_is_fixed [] number slot is set = cc
wanted_is_fixed (this ∷ more) zero slot is set =
    subst (λ o. Contains (cons_option o (filter_map fixed_binding more)) slot.binding) (sym (fixed_at this slot (same_Some _ _ is) set))
    (zero, omega arith, refl)
wanted_is_fixed (this ∷ more) (suc number) slot is set =
    behind (fixed_binding this) (filter_map fixed_binding more) slot.binding (wanted_is_fixed more number slot is set)

-- a buffer that wants this binding of set 0
pub record IsWanted (wanted : List Wanted) (binding : ℕ) : Type 0 where
  pub number : ℕ
  pub is : slice_get wanted number ≡ Some (At (first_set binding))

later : (this : Wanted) (more : List Wanted) (binding : ℕ) → IsWanted more binding → IsWanted (this ∷ more) binding
later this more binding w = record { number = suc w.number; is = w.is }

at_head : (slot : Slot) (more : List Wanted) (fixed : List ℕ) (binding : ℕ) → slot.set ≡ 0 → (Contains fixed binding → IsWanted more binding)
    → Contains (slot.binding ∷ fixed) binding → IsWanted (At slot ∷ more) binding
at_head slot more fixed binding set rest (zero, inside, is) =
    record { number = zero; is = ap (λ s. Some (At s)) (is_first_set slot binding set is) }
at_head slot more fixed binding set rest (suc k, inside, is) = later (At slot) more binding (rest (k, omega arith, is))

at_either : (slot : Slot) (more : List Wanted) (fixed : List ℕ) (binding : ℕ) (b : Bool) → nat_eq slot.set 0 ≡ b
    → (Contains fixed binding → IsWanted more binding)
    → Contains (cons_option (cond b (Some slot.binding) None) fixed) binding → IsWanted (At slot ∷ more) binding
at_either slot more fixed binding true set rest among = at_head slot more fixed binding (eqb-true slot.set 0 set) rest among
at_either slot more fixed binding false set rest among = later (At slot) more binding (rest among)

-- each fixed binding is wanted
pub fixed_is_wanted : (wanted : List Wanted) (binding : ℕ) → Contains (filter_map fixed_binding wanted) binding → IsWanted wanted binding
fixed_is_wanted [] binding (k, inside, is) = absurd (omega arith)
fixed_is_wanted (Any ∷ more) binding among = later Any more binding (fixed_is_wanted more binding among)
fixed_is_wanted (At slot ∷ more) binding among =
    at_either slot more (filter_map fixed_binding more) binding (nat_eq slot.set 0) refl (fixed_is_wanted more binding) among

-- how many of the first buffers want any slot
abbrev pub any_before : List Wanted → ℕ → ℕ
any_before [] number = 0
any_before (this ∷ more) zero = 0
any_before (Any ∷ more) (suc number) = suc (any_before more number)
any_before (At slot ∷ more) (suc number) = any_before more number

few_more : (first : Option ℕ) (xs : List ℕ) → length (cons_option first xs) ≤ length xs + 1
few_more None xs = omega arith
few_more (Some first) xs = omega arith

few_fixed : (wanted : List Wanted) → length (filter_map fixed_binding wanted) ≤ length wanted
few_fixed [] = omega arith
few_fixed (this ∷ more) =
    let p = few_fixed more in
    let q = few_more (fixed_binding this) (filter_map fixed_binding more) in
    omega arith

-- the fixed bindings and those that were chosen are fewer than the buffers, where one is to be chosen
pub room_for_any : (wanted : List Wanted) (number : ℕ) → slice_get wanted number ≡ Some Any
    → length (filter_map fixed_binding wanted) + any_before wanted number + 1 ≤ length wanted
room_for_any [] number is = absurd cc
room_for_any (Any ∷ more) zero is = let p = few_fixed more in omega arith
room_for_any (At slot ∷ more) zero is = absurd cc
room_for_any (Any ∷ more) (suc number) is = let p = room_for_any more number is in omega arith
room_for_any (At slot ∷ more) (suc number) is =
    let p = room_for_any more number is in
    let q = few_more (fixed_binding (At slot)) (filter_map fixed_binding more) in
    omega arith

pub any_more : (wanted : List Wanted) (number : ℕ) → slice_get wanted number ≡ Some Any
    → any_before wanted (suc number) ≡ any_before wanted number + 1
any_more [] number is = absurd cc
any_more (Any ∷ []) zero is = omega arith
any_more (Any ∷ (this ∷ more)) zero is = omega arith
any_more (At slot ∷ more) zero is = absurd cc
any_more (Any ∷ more) (suc number) is = let p = any_more more number is in omega arith
any_more (At slot ∷ more) (suc number) is = any_more more number is

pub any_same : (wanted : List Wanted) (number : ℕ) (slot : Slot) → slice_get wanted number ≡ Some (At slot)
    → any_before wanted (suc number) ≡ any_before wanted number
any_same [] number slot is = absurd cc
any_same (Any ∷ more) zero slot is = absurd cc
any_same (At this ∷ []) zero slot is = refl
any_same (At this ∷ (next ∷ more)) zero slot is = refl
any_same (Any ∷ more) (suc number) slot is = ap suc (any_same more number slot is)
any_same (At this ∷ more) (suc number) slot is = any_same more number slot is
