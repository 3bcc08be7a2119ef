-- A module is told to be made exactly where it is there and all that is asked for it is good.
use Rattle.std.proofs.Common.{◌≡◌, ◌≢◌, ◌∙◌, ℕ, refl, sym, ap, subst, inl, inr, List, [], ◌∷◌, ◌++◌, Option, Some, None}
use Rattle.std.specs.List.{AllByRecursion, flat_map}
use Rattle.sl_io.specs.Root.{bytes_of}
use Rattle.sl_key.specs.Order.{key_cmp}
use Rattle.sl_key.specs.Ordered.{key_total}
use Rattle.sl_key.specs.declared.answer.Answer.{Answer}
use Rattle.sl_key.specs.declared.answer.Answer.TheVariants.{Good, Bad, Spoiled, Circular}
use Rattle.sl_key.specs.declared.key.Key.{Key}
use Rattle.sl_key.specs.declared.request.Request.TheVariants.{Make}
use Rattle.sl_key.specs.declared.request.Term.TheVariants.{Load}
use Rattle.def_query.specs.Answer.{Answers}
use Rattle.def_query.specs.Cycle.{IsCycleOf}
use Rattle.def_query.proofs.Laws.{one_answer, telling_cycles}
use Rattle.def_sources.specs.Sources.{Sources}
use Rattle.def_check.specs.Body.{meaning_of}
use Rattle.def_check.specs.Reply.{TellsAnswers, broken, told_by, told_for, told_of}
use Rattle.def_check.specs.Roots.{asked_for}
use Rattle.def_check.proofs.Lawful.{bodies_lawful}
use Rattle.def_check.proofs.Replies.{same_answers}
use Rattle.def_reply.specs.Laws.{IsGood, MadeOfGood}
use Rattle.def_reply.proofs.Culprits.{culprits_are_bad}

first_empty : {A : Type 0} (xs ys : List A) → xs ++ ys ≡ [] → xs ≡ []
first_empty [] ys e = refl
first_empty (x ∷ xs) ys e = absurd (cc)

second_empty : {A : Type 0} (xs ys : List A) → xs ++ ys ≡ [] → ys ≡ []
second_empty [] ys e = e
second_empty (x ∷ xs) ys e = absurd (cc)

module _ (sources : Sources) (answer : Key → Answer) (answers : TellsAnswers sources answer) where
  -- no cycle is without keys
  never_empty : (key : Key) → Answers key_cmp (meaning_of sources) key (Circular []) → ⊥
  never_empty key (inl settles) =
      (telling_cycles key_cmp key_total (meaning_of sources) (bodies_lawful sources) key (Circular []) (inl settles)).0
      ([], refl) (Circular [], settles)
  never_empty key (inr circular) =
      let none : circular.cycle ≡ [] = (let told : Circular [] ≡ Circular circular.cycle = circular.told in cc) in
      subst (IsCycleOf key_cmp (meaning_of sources) key) none circular.is_cycle

  -- an answer that tells nothing is good
  good_by : (key : Key) (a : Answer) → answer key ≡ a → told_by sources answer a ≡ [] → IsGood (answer key)
  good_by key (Good value) e none = (value, e)
  good_by key (Bad told) e none = absurd (cc)
  good_by key (Spoiled culprit) e none =
      let bad = culprits_are_bad sources key culprit
      (subst (Answers key_cmp (meaning_of sources) key) e (answers key)) in
      let same : answer culprit ≡ Bad bad.0 =
      one_answer key_cmp key_total (meaning_of sources) (bodies_lawful sources) culprit (answer culprit) (Bad bad.0)
      (answers culprit) bad.1 in
      let told : bad.0 ∷ [] ≡ [] = sym (ap (broken sources answer) same) ∙ none in
      absurd (cc)
  good_by key (Circular []) e none =
      absurd (never_empty key (subst (Answers key_cmp (meaning_of sources) key) e (answers key)))
  good_by key (Circular (least ∷ others)) e none = absurd (cc)

  all_good : (keys : List Key) → flat_map (λ key. told_by sources answer (answer key)) keys ≡ []
      → AllByRecursion (λ key. IsGood (answer key)) keys
  all_good [] none = tt
  all_good (key ∷ keys) none = (
    good_by key (answer key) refl (first_empty (told_by sources answer (answer key)) (flat_map (λ k. told_by sources answer (answer k)) keys) none),
    all_good keys (second_empty (told_by sources answer (answer key)) (flat_map (λ k. told_by sources answer (answer k)) keys) none),
  )

  untold : (keys : List Key) → AllByRecursion (λ key. IsGood (answer key)) keys
      → flat_map (λ key. told_by sources answer (answer key)) keys ≡ []
  untold [] good = refl
  untold (key ∷ keys) good =
      ap (λ a. told_by sources answer a ++ flat_map (λ k. told_by sources answer (answer k)) keys) good.0.1
      ∙ untold keys good.1

  sound_by : (name : List ℕ) (bytes : Option (List ℕ)) → told_of sources answer name bytes ≡ []
      → (bytes ≢ None) × AllByRecursion (λ key. IsGood (answer key)) (asked_for sources answer name)
  sound_by name None none = absurd (cc)
  sound_by name (Some bytes) none = ((λ e. cc), all_good (asked_for sources answer name) none)

  made_by : (name : List ℕ) (bytes : Option (List ℕ)) → bytes ≢ None
      → AllByRecursion (λ key. IsGood (answer key)) (asked_for sources answer name)
      → told_of sources answer name bytes ≡ []
  made_by name None there good = absurd (there refl)
  made_by name (Some bytes) there good = untold (asked_for sources answer name) good

pub made_of_good : MadeOfGood
made_of_good sources answer name answers = (
  (λ made.
      let same : made.answer ≡ answer = same_answers sources made.answer answer made.answers answers in
      let none : told_for sources answer (Make (Load name)) ≡ [] =
      subst (λ f. told_for sources f (Make (Load name)) ≡ []) same made.replied in
      let sound = sound_by sources answer answers name (bytes_of sources.modules name) none in
      record { there = sound.0; good = sound.1 }),
  (λ sound. record {
    answer = answer;
    answers = answers;
    replied = made_by sources answer answers name (bytes_of sources.modules name) sound.there sound.good;
  }),
)
