-- The culprits of spoilt answers break rules themselves.
use Rattle.std.proofs.Common.{◌≡◌, ◌∙◌, refl, sym, ap, subst, inl, inr, ℕ, zero, suc, Option, Some, None}
use Rattle.std.specs.Prelude.{Result, Ok, Err}
use Rattle.sl_base.specs.declared.diag.Diag.{Diag}
use Rattle.sl_key.specs.Flow.{Facts, Flow, Holds, Needs, Stop, Value as Given, and_then, finished, held_as, hold, or_spoiled, used, used_by}
use Rattle.sl_key.specs.Order.{key_cmp}
use Rattle.sl_key.specs.declared.answer.Answer.{Answer}
use Rattle.sl_key.specs.declared.answer.Answer.TheVariants.{Good, Bad, Spoiled, Circular}
use Rattle.sl_key.specs.declared.answer.Good.{Good as Held}
use Rattle.sl_key.specs.declared.key.Key.{Key}
use Rattle.sl_key.specs.declared.key.Kind.{Kind}
use Rattle.sl_key.specs.declared.key.Kind.TheVariants.{Syntax, Imports, Alias, Const}
use Rattle.def_query.specs.Map.{get}
use Rattle.def_query.specs.Settles.{Settled, Settles}
use Rattle.def_query.specs.declared.step.Step.TheVariants as step
use Rattle.def_sources.specs.Sources.{Sources}
use Rattle.def_body.specs.Part.{Body, Break, Give, Known, Part, Reads, Use, answer_of, run, run_body}
use Rattle.def_check.specs.Body.{body, meaning_of}
use Rattle.def_reply.specs.Laws.{CulpritsAreBad}

-- ---- whom a spoilt answer blames

-- an answer of a key that is used blames this one
abbrev Blames : Key → Answer → Key → Type 0
Blames k (Good v) q = (held_as k.kind v ≡ None) × (q ≡ k)
Blames k (Bad told) q = q ≡ k
Blames k (Spoiled p) q = p ≡ q
Blames k (Circular c) q = ⊥

-- one of the answers blames it
record IsBlamed (m : Facts) (q : Key) : Type 0 where
  key : Key
  answer : Answer
  has : get key_cmp m key ≡ Some answer
  blames : Blames key answer q

-- a flow that ends with a spoilt answer blames as the answers do
abbrev BlamesRightly : {A : Type 0} → Facts → Flow A → Type 0
BlamesRightly m flow = (q : Key) → flow ≡ Stop (Spoiled q) → IsBlamed m q

blame_then : {A B : Type 0} (m : Facts) (flow : Flow A) (next : A → Flow B) → BlamesRightly m flow
    → ((v : A) → BlamesRightly m (next v)) → BlamesRightly m (and_then flow next)
blame_then m (Needs key) next one behind q e = absurd (cc)
blame_then m (Stop answer) next one behind q e = one q (let same : answer ≡ Spoiled q = cc in ap Stop same)
blame_then m (Given v) next one behind q e = behind v q e

blame_kind : (m : Facts) (k q : Key) (v : Held) (o : Option (Holds k.kind)) → get key_cmp m k ≡ Some (Good v)
    → held_as k.kind v ≡ o → or_spoiled k o ≡ Stop (Spoiled q) → IsBlamed m q
blame_kind m k q v (Some x) h is e = absurd (cc)
blame_kind m k q v None h is e =
    record { key = k; answer = Good v; has = h; blames = (is, let same : q ≡ k = cc in same) }

blame_by : (m : Facts) (k : Key) (o : Option Answer) → get key_cmp m k ≡ o
    → BlamesRightly m (and_then (used_by k o) (λ v. or_spoiled k (held_as k.kind v)))
blame_by m k None h q e = absurd (cc)
blame_by m k (Some (Good v)) h q e = blame_kind m k q v (held_as k.kind v) h refl e
blame_by m k (Some (Bad d)) h q e =
    record { key = k; answer = Bad d; has = h; blames = (let same : q ≡ k = cc in same) }
blame_by m k (Some (Spoiled p)) h q e =
    record { key = k; answer = Spoiled p; has = h; blames = (let same : p ≡ q = cc in same) }
blame_by m k (Some (Circular c)) h q e = absurd (cc)

blame_run : {A : Type 0} (m : Facts) (part : Part A) → BlamesRightly m (run m part)
blame_run m (Give v) = λ q e. absurd (cc)
blame_run m (Break site fault) = λ q e. absurd (cc)
blame_run m (Use k rest) =
    blame_then m (used m k) (λ held. run m (rest held)) (blame_by m k (get key_cmp m k) refl)
    (λ held. blame_run m (rest held))

spoilt_of : (flow : Flow Held) (q : Key) → finished flow ≡ step.Done (Spoiled q) → flow ≡ Stop (Spoiled q)
spoilt_of (Needs key) q e = absurd (cc)
spoilt_of (Stop answer) q e = let same : answer ≡ Spoiled q = cc in ap Stop same
spoilt_of (Given value) q e = absurd (cc)

known_spoilt : (kind : Kind) (known : Result (Holds kind) Diag) (q : Key) → answer_of kind known ≡ Spoiled q → ⊥
known_spoilt kind (Ok value) q e = cc
known_spoilt kind (Err told) q e = cc

blame_body : (kind : Kind) (m : Facts) (b : Body kind) (q : Key) → run_body kind m b ≡ step.Done (Spoiled q) → IsBlamed m q
blame_body kind m (Known known) q e =
    absurd (known_spoilt kind known q (let same : answer_of kind known ≡ Spoiled q = cc in same))
blame_body kind m (Reads part) q e =
    blame_then m (run m part) (λ v. Given (hold kind v)) (blame_run m part) (λ v p f. absurd (cc)) q
    (spoilt_of (and_then (run m part) (λ v. Given (hold kind v))) q e)

-- ---- good answers hold what their kind says

held_hold : (kind : Kind) (x : Holds kind) → held_as kind (hold kind x) ≡ Some x
held_hold Syntax x = refl
held_hold Imports x = refl
held_hold Alias x = refl
held_hold Const x = refl

-- a flow that ends early does not end with a good answer
abbrev NeverGood : {A : Type 0} → Flow A → Type 0
NeverGood flow = (v : Held) → flow ≡ Stop (Good v) → ⊥

never_then : {A B : Type 0} (flow : Flow A) (next : A → Flow B) → NeverGood flow → ((x : A) → NeverGood (next x))
    → NeverGood (and_then flow next)
never_then (Needs key) next one behind v e = cc
never_then (Stop answer) next one behind v e = one v (let same : answer ≡ Good v = cc in ap Stop same)
never_then (Given x) next one behind v e = behind x v e

never_by : (k : Key) (o : Option Answer) → NeverGood (used_by k o)
never_by k None v e = cc
never_by k (Some (Good x)) v e = cc
never_by k (Some (Bad d)) v e = cc
never_by k (Some (Spoiled p)) v e = cc
never_by k (Some (Circular c)) v e = cc

never_or : {A : Type 0} (k : Key) (o : Option A) → NeverGood (or_spoiled k o)
never_or k (Some x) v e = cc
never_or k None v e = cc

never_run : {A : Type 0} (m : Facts) (part : Part A) → NeverGood (run m part)
never_run m (Give x) = λ v e. cc
never_run m (Break site fault) = λ v e. cc
never_run m (Use k rest) =
    never_then (used m k) (λ held. run m (rest held))
    (never_then (used_by k (get key_cmp m k)) (λ x. or_spoiled k (held_as k.kind x)) (never_by k (get key_cmp m k))
    (λ x. never_or k (held_as k.kind x)))
    (λ held. never_run m (rest held))

none_held : (kind : Kind) (x : Holds kind) (v : Held) → hold kind x ≡ v → held_as kind v ≡ None → ⊥
none_held kind x v same none =
    let is : Some x ≡ None = sym (held_hold kind x) ∙ ap (held_as kind) same ∙ none in cc

known_kind : (kind : Kind) (known : Result (Holds kind) Diag) (v : Held) → answer_of kind known ≡ Good v
    → held_as kind v ≡ None → ⊥
known_kind kind (Ok x) v e none = none_held kind x v (let same : hold kind x ≡ v = cc in same) none
known_kind kind (Err told) v e none = cc

flow_kind : (kind : Kind) (flow : Flow (Holds kind)) (v : Held) → NeverGood flow
    → finished (and_then flow (λ x. Given (hold kind x))) ≡ step.Done (Good v) → held_as kind v ≡ None → ⊥
flow_kind kind (Needs key) v never e none = cc
flow_kind kind (Stop answer) v never e none = never v (let same : answer ≡ Good v = cc in ap Stop same)
flow_kind kind (Given x) v never e none = none_held kind x v (let same : hold kind x ≡ v = cc in same) none

body_kind : (kind : Kind) (m : Facts) (b : Body kind) (v : Held) → run_body kind m b ≡ step.Done (Good v)
    → held_as kind v ≡ None → ⊥
body_kind kind m (Known known) v e none =
    known_kind kind known v (let same : answer_of kind known ≡ Good v = cc in same) none
body_kind kind m (Reads part) v e none = flow_kind kind (run m part) v (never_run m part) e none

-- ---- answers

module _ (sources : Sources) where
  settled_kind : (n : ℕ) (k : Key) (v : Held) → Settled key_cmp (meaning_of sources) n k (Good v)
      → held_as k.kind v ≡ None → ⊥
  settled_kind zero k v s none = s
  settled_kind (suc n) k v s none = body_kind k.kind s.0 (body sources k.kind k.path) v s.2 none

  bad_by : (n : ℕ) (k q : Key) (a : Answer)
      → ((p : Key) → Settled key_cmp (meaning_of sources) n k (Spoiled p) → (told : Diag) × Settles key_cmp (meaning_of sources) p (Bad told))
      → Settled key_cmp (meaning_of sources) n k a → Blames k a q
      → (told : Diag) × Settles key_cmp (meaning_of sources) q (Bad told)
  bad_by n k q (Good v) again s blames = absurd (settled_kind n k v s blames.0)
  bad_by n k q (Bad told) again s blames =
      (told, subst (λ z. Settles key_cmp (meaning_of sources) z (Bad told)) (sym blames) (record { round = n; settled = s }))
  bad_by n k q (Spoiled p) again s blames =
      subst (λ z. (told : Diag) × Settles key_cmp (meaning_of sources) z (Bad told)) blames (again p s)
  bad_by n k q (Circular c) again s blames = absurd blames

  culprit_bad : (n : ℕ) (k q : Key) → Settled key_cmp (meaning_of sources) n k (Spoiled q)
      → (told : Diag) × Settles key_cmp (meaning_of sources) q (Bad told)
  culprit_bad zero k q s = absurd s
  culprit_bad (suc n) k q s =
      let blamed = blame_body k.kind s.0 (body sources k.kind k.path) q s.2 in
      bad_by n blamed.key q blamed.answer (λ p t. culprit_bad n blamed.key p t)
      (s.1 blamed.key blamed.answer blamed.has) blamed.blames

-- the culprit of a spoilt answer breaks a rule itself
pub culprits_are_bad : CulpritsAreBad
culprits_are_bad sources key culprit (inl settles) =
    let bad = culprit_bad sources settles.round key culprit settles.settled in (bad.0, inl bad.1)
culprits_are_bad sources key culprit (inr circular) =
    let told : Spoiled culprit ≡ Circular circular.cycle = circular.told in absurd (cc)
