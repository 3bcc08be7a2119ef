-- Bodies of keys as data, and the one function that runs them over answers.
use Rattle.std.specs.Prelude.{Option, Some, None, Result, Ok, Err}
use Rattle.sl_base.specs.declared.diag.Diag.{Diag}
use Rattle.sl_base.specs.declared.diag.Site.{Site}
use Rattle.sl_key.specs.Fault.{told_at}
use Rattle.sl_key.specs.Flow.{Facts, Flow, Holds, Stop, Value, and_then, finished, hold, used}
use Rattle.sl_key.specs.declared.answer.Answer.{Answer}
use Rattle.sl_key.specs.declared.answer.Answer.TheVariants.{Good, Bad}
use Rattle.sl_key.specs.declared.fault.Fault.{Fault}
use Rattle.sl_key.specs.declared.key.Key.{Key}
use Rattle.sl_key.specs.declared.key.Kind.{Kind}
use Rattle.def_query.specs.declared.step.Step.{Step}
use Rattle.def_query.specs.declared.step.Step.TheVariants.{Done}

-- a part of a body: a value, a rule that is broken at a site, or the use of a key and what follows
-- from what its answer holds
pub data Part (A : Type 0) : Type 0 where
  Give : A → Part A
  Break : Site → Fault → Part A
  Use : (key : Key) → (Holds key.kind → Part A) → Part A

-- a part, and then the next one, which is read where the first has a value
abbrev pub in_turn : {A B : Type 0} → Part A → (A → Part B) → Part B
in_turn (Give value) next = next value
in_turn (Break site fault) next = Break site fault
in_turn (Use key rest) next = Use key (λ held. in_turn (rest held) next)

-- a rule: the value where it is kept
abbrev pub or_break : {A : Type 0} → Option A → Site → Fault → Part A
or_break (Some value) site fault = Give value
or_break None site fault = Break site fault

-- what a part comes to under these answers
abbrev pub run : {A : Type 0} → Facts → Part A → Flow A
run facts (Give value) = Value value
run facts (Break site fault) = Stop (Bad (told_at site fault))
run facts (Use key rest) = and_then (used facts key) (λ held. run facts (rest held))

-- the body of a key of a kind: what is known without any other key, or parts that are read in order
pub data Body (kind : Kind) : Type 0 where
  Known : Result (Holds kind) Diag → Body kind
  Reads : Part (Holds kind) → Body kind

-- what is known, as an answer
abbrev pub answer_of : (kind : Kind) → Result (Holds kind) Diag → Answer
answer_of kind (Ok value) = Good (hold kind value)
answer_of kind (Err told) = Bad told

-- what a body gives under these answers
abbrev pub run_body : (kind : Kind) → Facts → Body kind → Step Key Answer
run_body kind facts (Known known) = Done (answer_of kind known)
run_body kind facts (Reads part) =
    finished (and_then (run facts part) (λ value. Value (hold kind value)))
