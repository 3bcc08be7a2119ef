-- What an asker on one thread has and keeps to.
use Rattle.std.specs.Prelude.{Bool, false, ◌≡◌, List}
use Rattle.std.specs.declared.cmp.Ordering.{Ordering}
use Rattle.def_query.specs.Answer.{IsCorrect}
use Rattle.def_query.specs.Keys.{IsIn, Reaches}
use Rattle.def_query.specs.Meaning.{Meaning}
use Rattle.def_query.specs.Settles.{Depends}
use Rattle.qe_rules.specs.Worker.{IsKnown, IsClosed}

-- the rules, the pairs that are known, and whether memory ran out in an earlier call
pub record AskerState (R K A : Type 0) : Type 0 where
  pub rules : R
  pub pairs : List (K × A)
  pub failed : Bool

module _ {K A : Type 0} (cmp : K → K → Ordering) (r : Meaning K A) where
  -- all that the key leads to is known
  abbrev pub HasClosure : List (K × A) → K → Type 0
  HasClosure m k = (x : K) → Reaches (Depends cmp r) k x → IsKnown cmp r m x

  -- one of the keys leads to each key that is known
  abbrev pub LiesWithin : List (K × A) → List K → Type 0
  LiesWithin m keys =
      (k : K) → IsKnown cmp r m k → (x : K) × IsIn x keys × Reaches (Depends cmp r) x k

  -- what is known is right, and while memory lasted it is closed under Depends
  pub record IsSound (m : List (K × A)) (failed : Bool) : Type 0 where
    pub correct : IsCorrect cmp r m
    pub closed : failed ≡ false → IsClosed cmp r m
