-- Each diagnostic that is told has a text.
use Rattle.std.proofs.Common.{◌≡◌, ℕ, zero, suc, inl, inr, List, [], ◌∷◌, Option, Some, None, map, length, subst, refl, sym, arith, lt-ltb}
use Rattle.std.specs.List.{flat_map}
use Rattle.std.specs.Prelude.{Result, Ok, Err}
use Rattle.std.proofs.lemmas.List.Elements.{All-from_recursion}
use Rattle.sl_base.specs.declared.diag.Diag.{Diag}
use Rattle.sl_base.specs.declared.diag.Site.{Site}
use Rattle.sl_key.specs.Fault.{told_at}
use Rattle.sl_key.specs.Flow.{Facts, Flow, Holds, Needs, Stop, Value as Given, and_then, finished, held_as, hold, or_spoiled, used, used_by}
use Rattle.sl_key.specs.Order.{key_cmp}
use Rattle.sl_key.specs.declared.answer.Answer.{Answer}
use Rattle.sl_key.specs.declared.answer.Answer.TheVariants.{Good, Bad, Spoiled, Circular}
use Rattle.sl_key.specs.declared.answer.Good.{Good as Held}
use Rattle.sl_key.specs.declared.fault.Fault.{Fault}
use Rattle.sl_key.specs.declared.fault.Fault.TheVariants.{NotBuilt, NoModule, UnknownName, NoConversion, NotAType, NotAValue, NotTaken}
use Rattle.sl_key.specs.declared.key.Key.{Key}
use Rattle.sl_key.specs.declared.key.Kind.{Kind}
use Rattle.sl_key.specs.declared.key.Kind.TheVariants.{Syntax, Imports, Alias, Const}
use Rattle.sl_key.specs.declared.path.DeclPath.{DeclPath}
use Rattle.sl_key.specs.declared.request.Reply.{Reply}
use Rattle.sl_key.specs.declared.request.Reply.TheVariants.{Made, Failed}
use Rattle.sl_key.specs.declared.request.Request.{Request}
use Rattle.sl_key.specs.declared.request.Request.TheVariants.{Make}
use Rattle.sl_key.specs.declared.request.Term.TheVariants.{Load}
use Rattle.sl_io.specs.Root.{bytes_of}
use Rattle.def_module.specs.Syntax as module_syntax
use Rattle.def_built.specs.Told.{told_in}
use Rattle.def_query.specs.Answer.{Answers}
use Rattle.def_query.specs.Keys.{IsIn}
use Rattle.def_query.specs.Map.{get}
use Rattle.def_query.specs.Settles.{Settled}
use Rattle.def_query.specs.declared.step.Step.TheVariants as step
use Rattle.def_query.proofs.Walks.{in_append_cases}
use Rattle.def_sources.specs.Sources.{Sources}
use Rattle.def_body.specs.Part.{Break, Give, Part, Reads, Use, answer_of, run, run_body}
use Rattle.def_check.specs.Body.{alias_part, body, const_part, imports_part, meaning_of}
use Rattle.def_check.specs.Reply.{IsReplyOf, TellsAnswers, broken, cycle_told, key_text, told_by, told_for, told_of}
use Rattle.def_check.specs.Roots.{asked_for}
use Rattle.def_check.specs.Syntax.{read, syntax_known, syntax_of, told}
use Rattle.rl_all.specs.Telling.{CanBeTold, HasText}
use Rattle.rl_all.proofs.Faults as faults
use Rattle.rl_all.proofs.Faults.{syntax_text}
use Rattle.rl_all.proofs.Sorted.{all_of}

-- where the answer is a diagnostic, it has a text
abbrev HasTextIfBad : Answer → Type 0
HasTextIfBad (Bad told) = HasText told
HasTextIfBad _ = Unit {0}

-- each fault has a text for its arguments
fault_text : (site : Site) (fault : Fault) → HasText (told_at site fault)
fault_text site NotBuilt = refl
fault_text site (NoModule name) = refl
fault_text site (UnknownName name) = refl
fault_text site (NoConversion from to) = refl
fault_text site (NotAType name) = refl
fault_text site (NotAValue name) = refl
fault_text site (NotTaken operator type) = refl

-- where a flow ends with a diagnostic, it has a text
abbrev EndsWell : {A : Type 0} → Flow A → Type 0
EndsWell (Stop answer) = HasTextIfBad answer
EndsWell _ = Unit {0}

well_then : {A B : Type 0} (flow : Flow A) (next : A → Flow B) → EndsWell flow → ((x : A) → EndsWell (next x))
    → EndsWell (and_then flow next)
well_then (Needs need) next h n = tt
well_then (Stop answer) next h n = h
well_then (Given value) next h n = n value

well_use : (k : Key) (o : Option Answer) → EndsWell (used_by k o)
well_use k None = tt
well_use k (Some (Good value)) = tt
well_use k (Some (Bad told)) = tt
well_use k (Some (Spoiled culprit)) = tt
well_use k (Some (Circular cycle)) = tt

well_or : {A : Type 0} (k : Key) (o : Option A) → EndsWell (or_spoiled k o)
well_or k (Some value) = tt
well_or k None = tt

well_used : (facts : Facts) (k : Key) → EndsWell (used facts k)
well_used facts k =
    well_then (used_by k (get key_cmp facts k)) (λ v. or_spoiled k (held_as k.kind v)) (well_use k (get key_cmp facts k))
    (λ v. well_or k (held_as k.kind v))

-- each part ends well
well_run : {A : Type 0} (facts : Facts) (part : Part A) → EndsWell (run facts part)
well_run facts (Give value) = tt
well_run facts (Break site fault) = fault_text site fault
well_run facts (Use k rest) =
    well_then (used facts k) (λ held. run facts (rest held)) (well_used facts k) (λ held. well_run facts (rest held))

-- ---- answers

abbrev KnownWell : {A : Type 0} → Result A Diag → Type 0
KnownWell (Ok value) = Unit {0}
KnownWell (Err told) = HasText told

told_well : (name text : List ℕ) (answer : module_syntax.Answer) → faults.HasTextIfBad answer → KnownWell (told name text answer)
told_well name text (module_syntax.Good module_tree) h = tt
told_well name text (module_syntax.Bad fault) h = h

read_well : (name : List ℕ) (o : Option (List ℕ)) → KnownWell (read name o)
read_well name (Some text) = told_well name text (told_in text) (syntax_text text)
read_well name None = refl

known_well : (kind : Kind) (known : Result (Holds kind) Diag) → KnownWell known → HasTextIfBad (answer_of kind known)
known_well kind (Ok value) h = tt
known_well kind (Err told) h = h

finished_well : (flow : Flow Held) (a : Answer) → EndsWell flow → finished flow ≡ step.Done a → HasTextIfBad a
finished_well (Needs need) a h e = absurd (cc)
finished_well (Stop answer) a h e = subst HasTextIfBad (let same : answer ≡ a = cc in same) h
finished_well (Given value) a h e = subst HasTextIfBad (let same : Good value ≡ a = cc in same) tt

part_well : (kind : Kind) (facts : Facts) (part : Part (Holds kind)) (a : Answer)
    → run_body kind facts (Reads part) ≡ step.Done a → HasTextIfBad a
part_well kind facts part a e =
    finished_well (and_then (run facts part) (λ v. Given (hold kind v))) a
    (well_then (run facts part) (λ v. Given (hold kind v)) (well_run facts part) (λ v. tt)) e

module _ (sources : Sources) where
  body_well : (kind : Kind) (path : DeclPath) (facts : Facts) (a : Answer)
      → run_body kind facts (body sources kind path) ≡ step.Done a → HasTextIfBad a
  body_well Syntax path facts a e =
      subst HasTextIfBad (let same : syntax_of sources path.module ≡ a = cc in same)
      (known_well Syntax (syntax_known sources path.module) (read_well path.module (bytes_of sources.modules path.module)))
  body_well Imports path facts a e = part_well Imports facts (imports_part path.module) a e
  body_well Alias path facts a e = part_well Alias facts (alias_part path) a e
  body_well Const path facts a e = part_well Const facts (const_part path) a e

  settled_well : (n : ℕ) (k : Key) (a : Answer) → Settled key_cmp (meaning_of sources) n k a → HasTextIfBad a
  settled_well zero k a s = absurd s
  settled_well (suc n) k a s = body_well k.kind k.path s.0 a s.2

  answer_well : (k : Key) (a : Answer) → Answers key_cmp (meaning_of sources) k a → HasTextIfBad a
  answer_well k a (inl settles) = settled_well settles.round k a settles.settled
  answer_well k a (inr circular) = subst HasTextIfBad (sym circular.told) tt

  module _ (answer : Key → Answer) (tells : TellsAnswers sources answer) where
    broken_text : (a : Answer) → HasTextIfBad a → (told : Diag) → IsIn told (broken sources answer a) → HasText told
    broken_text (Good value) h told i = absurd i
    broken_text (Bad d) h told (inl e) = subst HasText (sym e) h
    broken_text (Bad d) h told (inr i) = absurd i
    broken_text (Spoiled culprit) h told i = absurd i
    broken_text (Circular cycle) h told i = absurd i

    cycle_text : (cycle : List Key) (told : Diag) → IsIn told (cycle_told sources answer cycle) → HasText told
    cycle_text [] told i = absurd i
    cycle_text (least ∷ others) told (inl e) = subst HasText (sym e) (lt-ltb 0 (suc (length (map key_text others))) (omega arith))
    cycle_text (least ∷ others) told (inr i) = absurd i

    told_text : (a : Answer) → HasTextIfBad a → (told : Diag) → IsIn told (told_by sources answer a) → HasText told
    told_text (Good value) h told i = absurd i
    told_text (Bad d) h told (inl e) = subst HasText (sym e) h
    told_text (Bad d) h told (inr i) = absurd i
    told_text (Spoiled culprit) h told i = broken_text (answer culprit) (answer_well culprit _ (tells culprit)) told i
    told_text (Circular cycle) h told i = cycle_text cycle told i

    each_text : (keys : List Key) (told : Diag) → IsIn told (flat_map (λ k. told_by sources answer (answer k)) keys) → HasText told
    each_text [] told i = absurd i
    each_text (k ∷ keys) told i =
        elim (in_append_cases told (told_by sources answer (answer k)) (flat_map (λ k. told_by sources answer (answer k)) keys) i) [
          | inl here ↦ told_text (answer k) (answer_well k _ (tells k)) told here
          | inr there ↦ each_text keys told there
        ]

    of_text : (name : List ℕ) (o : Option (List ℕ)) (told : Diag) → IsIn told (told_of sources answer name o) → HasText told
    of_text name (Some bytes) told i = each_text (asked_for sources answer name) told i
    of_text name None told (inl e) = subst HasText (sym e) refl
    of_text name None told (inr i) = absurd i

    -- all that a request is told has a text
    pub has_text : (request : Request) (told : Diag) → IsIn told (told_for sources answer request) → HasText told
    has_text (Make (Load name)) told i = of_text name (bytes_of sources.modules name) told i

    -- and so has all that a reply tells
    pub reply_well : (request : Request) (all : List Diag) (reply : Reply) → all ≡ told_for sources answer request → IsReplyOf all reply → CanBeTold reply
    reply_well request all Made e is = tt
    reply_well request all (Failed sorted) e is =
        All-from_recursion HasText sorted
        (all_of HasText sorted (λ told i. has_text request told (subst (IsIn told) e (is.1.only told i))))
