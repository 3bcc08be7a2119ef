-- How lists beat each other.
use Rattle.std.proofs.Common.{◌≡◌, ℕ, ◌+◌, ◌<◌, ◌≤◌, List, [], length, get_or, Bool, true, false, arith, sym, ◌∙◌, subst, inl, inr}
use Rattle.std.specs.Prelude.{slice_get, Some, ◌↔◌, IsTrue}
use Rattle.std.proofs.lemmas.Bool.{cases_lt, cases_order}
use Rattle.std.proofs.lemmas.Option.{slice_get_within, get_or_from_slice_get, slice_get-get_or}
use Rattle.qs_overload.specs.Best.{Beats, HaveOneLength, IsUnbeaten}
use Rattle.qs_overload.specs.Search.{AreBeaten, IsNextUnbeaten}

-- what beats a list beats each list that this one beats
pub beats_through : (one middle other : List ℕ) → length one ≡ length middle → Beats one middle → Beats middle other → Beats one other
beats_through one middle other e p q = record {
  at_most = λ place within. (let a = p.at_most place within in let b = q.at_most place (omega arith) in omega arith);
  place = p.place;
  within = p.within;
  less = (let w = p.within in let a = p.less in let b = q.at_most p.place (omega arith) in omega arith);
}

-- no list beats itself
pub not_itself : (one : List ℕ) → ¬ Beats one one
not_itself one p = let less = p.less in absurd (omega arith)

-- the first places of a list are at most those of another, and one of them is less exactly where this is told
pub record IsSoFar (one other : List ℕ) (count : ℕ) (less : Bool) : Type 0 where
  pub at_most : (place : ℕ) → place < count → get_or one place 0 ≤ get_or other place 0
  pub found : less ≡ true → (place : ℕ) × (place < count) × (get_or one place 0 < get_or other place 0)
  pub none : less ≡ false → (place : ℕ) → place < count → get_or other place 0 ≤ get_or one place 0

-- none of the first lists beats the one of a number
abbrev pub NoneBeats : List (List ℕ) → ℕ → ℕ → Type 0
NoneBeats costs count number = (k : ℕ) (beater list : List ℕ) → k < count
    → slice_get costs k ≡ Some beater → slice_get costs number ≡ Some list → ¬ Beats beater list

-- a list's length
len_of : (costs : List (List ℕ)) (h : HaveOneLength costs) (k : ℕ) (x : List ℕ) → slice_get costs k ≡ Some x → length x ≡ h.len
len_of costs h k x is = subst (λ y. length y ≡ h.len) (get_or_from_slice_get costs k x x is) (h.each k x (slice_get_within costs k x is))

-- two lists of one number are one
same_list : (costs : List (List ℕ)) (k : ℕ) (x y : List ℕ) → slice_get costs k ≡ Some x → slice_get costs k ≡ Some y → x ≡ y
same_list costs k x y p q = cc

-- one further list does not beat it either
pub none_more : (costs : List (List ℕ)) (count number : ℕ) (this list : List ℕ)
    → slice_get costs count ≡ Some this → slice_get costs number ≡ Some list → ¬ Beats this list → NoneBeats costs count number → NoneBeats costs (count + 1) number
none_more costs count number this list here there apart before k beater one within is at beats =
    elim (cases_lt k count) [
      | inl lt ↦ before k beater one lt is at beats
      | inr ge ↦
          (let e : k ≡ count = omega arith in
          let b : beater ≡ this = same_list costs k beater this is (subst (λ n. slice_get costs n ≡ Some this) (sym e) here) in
          let o : one ≡ list = same_list costs number one list at there in
          apart (subst (λ x. Beats x list) b (subst (λ x. Beats beater x) o beats)))
    ]

-- a list that beats the one that none before it beats is beaten by none so far
pub none_beats_next : (costs : List (List ℕ)) → HaveOneLength costs → (count number : ℕ) (this list : List ℕ)
    → slice_get costs count ≡ Some this → slice_get costs number ≡ Some list → Beats this list → NoneBeats costs count number → NoneBeats costs (count + 1) count
none_beats_next costs h count number this list here there beats before =
    none_more costs count count this this here here (not_itself this)
    (λ k beater one within is at better.
    let o : one ≡ this = same_list costs count one this at here in
    let lengths : length beater ≡ length this = len_of costs h k beater is ∙ sym (len_of costs h count this here) in
    before k beater list within is there (beats_through beater this list lengths (subst (λ x. Beats beater x) o better) beats))

-- what none of all lists beats is unbeaten
pub unbeaten_of_all : (costs : List (List ℕ)) (count number : ℕ) → number < length costs → length costs ≤ count → NoneBeats costs count number → IsUnbeaten costs number
unbeaten_of_all costs count number within past none =
    let is = slice_get-get_or costs number [] within in
    record {
      list = get_or costs number [];
      is = is;
      unbeaten = λ other beater at.
          (let lt = slice_get_within costs other beater at in none other beater (get_or costs number []) (omega arith) at is);
    }

-- no list is left where each is beaten
pub no_list : (costs : List (List ℕ)) (best : ℕ) → IsUnbeaten costs best → AreBeaten costs 0 (length costs) → ⊥
no_list costs best one all = all best (omega arith) (slice_get_within costs best one.list one.is) one

-- the first unbeaten list is the only one where each behind it is beaten
pub only_one : (costs : List (List ℕ)) (first : ℕ) → IsNextUnbeaten costs 0 first → AreBeaten costs (first + 1) (length costs)
    → IsUnbeaten costs first × ((other : ℕ) → IsUnbeaten costs other → other ≡ first)
only_one costs first next behind = (
  next.unbeaten,
  λ other one.
      elim (cases_order other first) [
        | inl e ↦ e
        | inr apart ↦ elim apart [
          | inl lt ↦ absurd (next.first other (omega arith) lt one)
          | inr gt ↦ absurd (behind other (omega arith) (slice_get_within costs other one.list one.is) one)
        ]
      ],
)

-- the first two unbeaten lists
pub first_two : (costs : List (List ℕ)) (first second : ℕ) → IsNextUnbeaten costs 0 first → IsNextUnbeaten costs (first + 1) second
    → (first < second) × IsUnbeaten costs first × IsUnbeaten costs second × ((other : ℕ) → IsUnbeaten costs other → other < second → other ≡ first)
first_two costs first second next then =
    let reached = then.reached in (
      omega arith,
      next.unbeaten,
      then.unbeaten,
      λ other one below.
          elim (cases_order other first) [
            | inl e ↦ e
            | inr apart ↦ elim apart [
              | inl lt ↦ absurd (next.first other (omega arith) lt one)
              | inr gt ↦ absurd (then.first other (omega arith) below one)
            ]
          ],
    )

-- a test that is false tells that what it tests does not hold
pub told_false : (P : Type 0) (b : Bool) → IsTrue b ↔ P → b ≡ false → ¬ P
told_false P b tells is p = let holds : b ≡ true = tells.1 p in cc

-- a test that is true tells that what it tests holds
pub told_true : (P : Type 0) (b : Bool) → IsTrue b ↔ P → b ≡ true → P
told_true P b tells is = tells.0 is
