-- What parts of definitions come to, and the use of keys.
use Rattle.std.specs.Prelude.{◌≡◌, ℕ, List, Option, Some, None, Result, Ok, Err}
use Rattle.def_query.specs.Map.{get}
use Rattle.def_query.specs.declared.step.Step.{Step}
use Rattle.def_query.specs.declared.step.Step.TheVariants as step
use Rattle.sl_key.specs.Order.{key_cmp}
use Rattle.sl_key.specs.declared.answer.Answer.{Answer}
use Rattle.sl_key.specs.declared.answer.Answer.TheVariants.{Good, Bad, Spoiled, Circular}
use Rattle.sl_key.specs.declared.answer.Good.{Good as Held}
use Rattle.sl_key.specs.declared.answer.Good.TheVariants as held
use Rattle.sl_key.specs.declared.flow.Early.{Early}
use Rattle.sl_key.specs.declared.flow.Early.TheVariants as early
use Rattle.sl_key.specs.declared.key.Key.{Key}
use Rattle.sl_key.specs.declared.key.Kind.{Kind}
use Rattle.sl_key.specs.declared.key.Kind.TheVariants.{Syntax, Imports, Alias, Const}
use Rattle.sl_key.specs.declared.value.Ty.{Ty}
use Rattle.sl_key.specs.declared.value.Value.{Value as Number}

-- the answers that may be used
abbrev pub Facts : Type 0
Facts = List (Key × Answer)

-- what a part of a definition comes to: a key that it uses first and that has no answer, the answer
-- of the key that is worked out, whatever follows, or its value
pub data Flow (A : Type 0) : Type 0 where
  Needs : Key → Flow A
  Stop : Answer → Flow A
  Value : A → Flow A

-- a part, and then the next one, which is read where the first has a value
abbrev pub and_then : {A B : Type 0} → Flow A → (A → Flow B) → Flow B
and_then (Needs need) next = Needs need
and_then (Stop answer) next = Stop answer
and_then (Value value) next = next value

-- the part ends the reading so, if memory did not run out
abbrev pub EndsEarly : {A : Type 0} → Early → Flow A → Type 0
EndsEarly (early.Needs key) flow = flow ≡ Needs key
EndsEarly (early.Stop answer) flow = flow ≡ Stop answer
EndsEarly early.NoMemory flow = Unit {0}

-- the part comes to this, if memory did not run out
abbrev pub Tells : {A : Type 0} → Result A Early → Flow A → Type 0
Tells (Ok value) flow = flow ≡ Value value
Tells (Err early) flow = EndsEarly early flow

-- what the good answer of a key of each kind holds: a module's text of which nothing is told, the
-- modules that a module sees, a type, a value
abbrev pub Holds : Kind → Type 0
Holds Syntax = List ℕ
Holds Imports = List (List ℕ)
Holds Alias = Ty
Holds Const = Number

-- such a thing as part of an answer
abbrev pub hold : (kind : Kind) → Holds kind → Held
hold Syntax text = held.Syntax text
hold Imports modules = held.Imports modules
hold Alias type = held.Alias type
hold Const value = held.Const value

-- what is held, if it is of the kind
abbrev pub held_as : (kind : Kind) → Held → Option (Holds kind)
held_as Syntax (held.Syntax text) = Some text
held_as Imports (held.Imports modules) = Some modules
held_as Alias (held.Alias type) = Some type
held_as Const (held.Const value) = Some value
held_as _ _ = None

-- The use of a key. One that is at fault spoils what uses it, one that is spoilt hands its culprit
-- on, and a circular one its cycle.
abbrev pub used_by : Key → Option Answer → Flow Held
used_by key None = Needs key
used_by key (Some (Good value)) = Value value
used_by key (Some (Bad told)) = Stop (Spoiled key)
used_by key (Some (Spoiled culprit)) = Stop (Spoiled culprit)
used_by key (Some (Circular cycle)) = Stop (Circular cycle)

-- No key's answer holds a thing of another kind. Where answers say so, the key is at fault.
abbrev pub or_spoiled : {A : Type 0} → Key → Option A → Flow A
or_spoiled key (Some value) = Value value
or_spoiled key None = Stop (Spoiled key)

-- the use of a key under these answers, and what it holds
abbrev pub used : Facts → (key : Key) → Flow (Holds key.kind)
used facts key =
    and_then (used_by key (get key_cmp facts key))
    (λ value. or_spoiled key (held_as key.kind value))

-- what a definition gives whose parts come to this
abbrev pub finished : Flow Held → Step Key Answer
finished (Needs need) = step.Needs need
finished (Stop answer) = step.Done answer
finished (Value value) = step.Done (Good value)
