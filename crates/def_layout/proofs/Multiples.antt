-- Multiples, and the next one from a number.
use Rattle.std.proofs.Common.{◌≡◌, ℕ, ◌+◌, ◌-◌, ◌*◌, ◌/◌, ◌%◌, ◌<◌, ◌≤◌, arith, sym, ◌∙◌, ap, refl}
use Rattle.std.proofs.Math.Nat.{lt_of_mul-lt-mul_right, mul-le-mul_right, add-mul, mul_assoc, div-mul-le_self, lt-div-mul-add, mul-sub, mul_comm}
use Rattle.std.proofs.lemmas.Nat.{div-add-mod'}
use Rattle.def_layout.specs.Std430.{IsMultiple, IsNextMultiple}

-- the next multiple is one number
pub same_next : {unit from one other : ℕ} → IsNextMultiple unit from one → IsNextMultiple unit from other → one ≡ other
same_next {unit} {from} {one} {other} p q =
    let below : one ≤ other = p.first other q.multiple q.reached in
    let above : other ≤ one = q.first one p.multiple p.reached in
    omega arith

-- of two multiples the one that is less than one unit behind a number is not behind the other
first_from : (unit from to other : ℕ) → IsMultiple unit to → IsMultiple unit other → from ≤ other → to < from + unit → to ≤ other
first_from unit from to other m n past near =
    let e = m.is in
    let f = n.is in
    let shifted : (n.count + 1) * unit ≡ n.count * unit + unit = grind arith in
    let less : m.count * unit < (n.count + 1) * unit = omega arith in
    let fewer : m.count < n.count + 1 = lt_of_mul-lt-mul_right unit less in
    let few : m.count ≤ n.count = omega arith in
    let le : m.count * unit ≤ n.count * unit = mul-le-mul_right unit few in
    omega arith

-- a multiple that is less than one unit behind is the next one
pub next_from : (unit from to : ℕ) → IsMultiple unit to → from ≤ to → to < from + unit → IsNextMultiple unit from to
next_from unit from to m reached near =
    record { multiple = m; reached = reached; first = λ other n past. first_from unit from to other m n past near }

-- there is a next multiple
pub a_next : (unit from : ℕ) → 0 < unit → (to : ℕ) × IsNextMultiple unit from to
a_next unit from some =
    let all = from + (unit - 1) in
    let above : all < all / unit * unit + unit = lt-div-mul-add some in
    let below : all / unit * unit ≤ all = div-mul-le_self all unit in
    (all / unit * unit, next_from unit from (all / unit * unit) (record { count = all / unit; is = refl }) (omega arith) (omega arith))

-- a number without a rest is a multiple
pub multiple_from : (unit n : ℕ) → n % unit ≡ 0 → IsMultiple unit n
multiple_from unit n whole = record { count = n / unit; is = (let e = div-add-mod' n unit in omega arith) }

-- the sum of multiples is a multiple
pub multiple_sum : {unit m n : ℕ} → IsMultiple unit m → IsMultiple unit n → IsMultiple unit (m + n)
multiple_sum {unit} {m} {n} p q = record {
  count = p.count + q.count;
  is = ap (λ k. k + n) p.is ∙ ap (λ k. p.count * unit + k) q.is ∙ sym (add-mul p.count q.count unit);
}

-- the difference of multiples is a multiple
pub multiple_difference : {unit m n : ℕ} → IsMultiple unit m → IsMultiple unit n → m ≤ n → IsMultiple unit (n - m)
multiple_difference {unit} {m} {n} p q le = record {
  count = q.count - p.count;
  is =
      let apart = mul-sub unit q.count p.count in
      ap (λ k. k - m) q.is ∙ ap (λ k. q.count * unit - k) p.is ∙ ap (λ k. k - p.count * unit) (mul_comm q.count unit)
      ∙ ap (λ k. unit * q.count - k) (mul_comm p.count unit) ∙ sym apart ∙ mul_comm unit (q.count - p.count);
}

-- a multiple of a multiple is a multiple
pub multiple_through : {unit m n : ℕ} → IsMultiple unit m → IsMultiple m n → IsMultiple unit n
multiple_through {unit} p q =
    record { count = q.count * p.count; is = q.is ∙ ap (λ k. q.count * k) p.is ∙ sym (mul_assoc q.count p.count unit) }

-- a multiple of a multiple, by the index
pub multiple_times : {unit n : ℕ} (index : ℕ) → IsMultiple unit n → IsMultiple unit (index * n)
multiple_times {unit} index p =
    record { count = index * p.count; is = ap (λ k. index * k) p.is ∙ sym (mul_assoc index p.count unit) }

-- a multiple is the next one from itself
pub next_of_itself : (unit n : ℕ) → IsMultiple unit n → IsNextMultiple unit n n
next_of_itself unit n m = record { multiple = m; reached = omega arith; first = λ other k past. past }
