-- What rules mean.
use Rattle.std.specs.Prelude.{List}
use Rattle.def_query.specs.declared.step.Step.{Step}

-- body k m: what the body of k gives where it may use the answers of m; circular c: the answer that
-- tells the cycle c; bound k: finitely many keys, beyond which nothing that k depends on lies
pub record Meaning (K A : Type 0) : Type 0 where
  pub body : K → List (K × A) → Step K A
  pub circular : List K → A
  pub bound : K → List K
