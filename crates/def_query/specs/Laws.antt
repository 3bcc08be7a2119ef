-- What follows from the laws of rules.
use Rattle.std.specs.Prelude.{◌≡◌, ◌↔◌, List, [], ◌∷◌, ◌++◌, Some, None}
use Rattle.std.specs.List.{AllByRecursion}
use Rattle.std.specs.declared.cmp.Ordering.{Ordering}
use Rattle.std.specs.declared.cmp.Ordering.TheVariants.{Less}
use Rattle.def_query.specs.Answer.{Answers, TellsCycle}
use Rattle.def_query.specs.Cycle.{MeetsCycle, IsCycleOf}
use Rattle.def_query.specs.Keys.{AreDistinct, IsWalk}
use Rattle.def_query.specs.Map.{get}
use Rattle.def_query.specs.Meaning.{Meaning}
use Rattle.def_query.specs.Settles.{Settles, IsSettled, IsGiven, Depends, Stuck}
use Rattle.def_query.specs.declared.step.Step.TheVariants.{Needs, Done}

module _ {K A : Type 0} (cmp : K → K → Ordering) (r : Meaning K A) where
  -- the list begins with its least key, its keys are distinct, and they are a cycle of Depends
  pub record IsLeastFirst (x : K) (xs : List K) : Type 0 where
    pub closed : IsWalk (Depends cmp r) x (xs ++ x ∷ [])
    pub distinct : AreDistinct (x ∷ xs)
    pub least : AllByRecursion (λ y. cmp x y ≡ Less) xs

  -- the same of a list, which has a key
  abbrev pub IsRotated : List K → Type 0
  IsRotated [] = ⊥
  IsRotated (x ∷ xs) = IsLeastFirst x xs

  -- settled answers: one for a key, and that exactly where no walk of Depends meets a cycle; else
  -- there is one cycle
  pub record IsSettling : Type 0 where
    pub one_answer : (k : K) (a b : A) → Settles cmp r k a → Settles cmp r k b → a ≡ b
    pub meets_none : (k : K) → IsSettled cmp r k → ¬ MeetsCycle cmp r k
    pub settles : (k : K) → ¬ MeetsCycle cmp r k → IsSettled cmp r k
    pub has_cycle : (k : K) → ¬ IsSettled cmp r k → (c : List K) × IsCycleOf cmp r k c
    pub one_cycle : (k : K) (c d : List K) → IsCycleOf cmp r k c → IsCycleOf cmp r k d → c ≡ d
    pub rotated : (k : K) (c : List K) → IsCycleOf cmp r k c → IsRotated c

  -- the answer of a key
  pub record IsAnswering : Type 0 where
    pub has_answer : (k : K) → (a : A) × Answers cmp r k a
    pub one_answer : (k : K) (a b : A) → Answers cmp r k a → Answers cmp r k b → a ≡ b
    -- one key at most is what k is stuck at, and it has the cycle of k
    pub one_way : (k x y : K) → Stuck cmp r k x → Stuck cmp r k y → x ≡ y
    pub same_cycle : (k x : K) (c : List K) → Stuck cmp r k x → IsCycleOf cmp r x c
        → IsCycleOf cmp r k c
    -- a key that depends on one that does not settle has the answer of that one
    pub handed_on : (k x : K) (a : A) → Depends cmp r k x → ¬ IsSettled cmp r x → Answers cmp r x a
        → Answers cmp r k a

  -- the answer of a key tells a cycle exactly where the key does not settle
  abbrev pub IsTellingCycles : Type 0
  IsTellingCycles = (k : K) (a : A) → Answers cmp r k a → TellsCycle cmp r a ↔ (¬ IsSettled cmp r k)

  -- n has what the body of k uses of m
  abbrev pub Agrees : K → List (K × A) → List (K × A) → Type 0
  Agrees k m n =
      (used : List (K × A)) → IsGiven cmp r (λ y a. get cmp m y ≡ Some a) k used
      → AllByRecursion (λ p. get cmp n p.0 ≡ Some p.1) used

  -- what a body gives rests on the answers that it uses
  pub record IsGrowing : Type 0 where
    pub done : (k : K) (m n : List (K × A)) (a : A) → r.body k m ≡ Done a → Agrees k m n
        → r.body k n ≡ Done a
    pub needs :
        (k : K) (m n : List (K × A)) (y : K)
        → r.body k m ≡ Needs y → Agrees k m n → get cmp n y ≡ None → r.body k n ≡ Needs y
