-- How parts in turn are run, and which keys they use.
use Rattle.std.proofs.Common.{◌≡◌, refl, Option, Some, None, Bool, true, false, cond}
use Rattle.sl_base.specs.declared.diag.Site.{Site}
use Rattle.sl_key.specs.Flow.{Facts, Flow, Holds, Needs, Stop, Value, and_then, used}
use Rattle.sl_key.specs.declared.fault.Fault.{Fault}
use Rattle.sl_key.specs.declared.key.Key.{Key}
use Rattle.def_body.specs.Part.{Break, Give, Part, Use, in_turn, or_break, run}
use Rattle.def_body.proofs.Sound.{UsesOnly}

-- what follows a part is run where the part has a value
run_rest : {K A B : Type 0} (facts : Facts) (flow : Flow K) (rest : K → Part A) (next : A → Part B)
    → ((v : K) → run facts (in_turn (rest v) next) ≡ and_then (run facts (rest v)) (λ w. run facts (next w)))
    → and_then flow (λ v. run facts (in_turn (rest v) next))
    ≡ and_then (and_then flow (λ v. run facts (rest v))) (λ w. run facts (next w))
run_rest facts (Needs key) rest next each = refl
run_rest facts (Stop answer) rest next each = refl
run_rest facts (Value v) rest next each = each v

pub run_then : {A B : Type 0} (facts : Facts) (part : Part A) (next : A → Part B)
    → run facts (in_turn part next) ≡ and_then (run facts part) (λ v. run facts (next v))
run_then facts (Give v) next = refl
run_then facts (Break site fault) next = refl
run_then facts (Use key rest) next =
    run_rest facts (used facts key) rest next (λ held. run_then facts (rest held) next)

module _ (P : Key → Type 0) (H : (key : Key) → Holds key.kind → Type 0) where
  pub uses_then : {A B : Type 0} (part : Part A) (next : A → Part B) → UsesOnly P H part
      → ((v : A) → UsesOnly P H (next v)) → UsesOnly P H (in_turn part next)
  uses_then (Give v) next uses behind = behind v
  uses_then (Break site fault) next uses behind = tt
  uses_then (Use key rest) next uses behind =
      (uses.0, λ held h. uses_then (rest held) next (uses.1 held h) behind)

  pub uses_rule : {A : Type 0} (o : Option A) (site : Site) (fault : Fault) → UsesOnly P H (or_break o site fault)
  uses_rule (Some v) site fault = tt
  uses_rule None site fault = tt

  pub uses_choice : {A : Type 0} (b : Bool) (one other : Part A) → UsesOnly P H one → UsesOnly P H other
      → UsesOnly P H (cond b one other)
  uses_choice true one other u v = u
  uses_choice false one other u v = v
