-- What an asker knows that kept to one request's keys and has them.
use Rattle.std.proofs.Common.{◌≡◌, ◌∙◌, inl, inr, ap, subst, sym, refl, suc, List, [], ◌∷◌, map, length, append-nil}
use Rattle.std.proofs.lemmas.Option.{none-some}
use Rattle.std.specs.List.{AllByRecursion, flat_map}
use Rattle.std.specs.Prelude.{Some}
use Rattle.std.specs.declared.cmp.Ordering.TheVariants.{Less}
use Rattle.sl_key.specs.Flow.{Facts}
use Rattle.sl_key.specs.Order.{key_cmp}
use Rattle.sl_key.specs.Ordered.{key_apart, key_total}
use Rattle.sl_key.specs.declared.answer.Answer.{Answer}
use Rattle.sl_key.specs.declared.key.Key.{Key}
use Rattle.sl_key.specs.declared.request.Request.{Request}
use Rattle.def_query.specs.Keys.{IsIn}
use Rattle.def_query.specs.Map.{get}
use Rattle.def_query.proofs.Maps.{Apart, Same, compared, get_cases, get_here, get_there}
use Rattle.def_sources.specs.Sources.{Sources}
use Rattle.def_check.specs.Body.{meaning_of}
use Rattle.def_check.specs.Reply.{HasRisingKeys, IsClosure, IsReached, TellsAnswers}
use Rattle.def_check.specs.Roots.{roots_of}
use Rattle.qe_rules.specs.Asker.{HasClosure, LiesWithin}
use Rattle.qe_rules.specs.Known as known
use Rattle.qe_rules.specs.Worker.{IsKnown}

-- the keys of pairs
pub keys_in : Facts → List Key
keys_in facts = map (λ (pair : Key × Answer). pair.0) facts

all_less : (key : Key) (facts : Facts) → AllByRecursion (λ (pair : Key × Answer). key_cmp key pair.0 ≡ Less) facts
    → AllByRecursion (λ other. key_cmp key other ≡ Less) (keys_in facts)
unfolding keys_in
all_less key [] all = tt
all_less key (pair ∷ facts) all = (all.0, all_less key facts all.1)

rising_keys : (facts : Facts) → known.HasRisingKeys key_cmp facts → HasRisingKeys (keys_in facts)
unfolding keys_in
rising_keys [] rise = tt
rising_keys (pair ∷ facts) rise = (all_less pair.0 facts rise.0, rising_keys facts rise.1)

pub length_keys : (facts : Facts) → length (keys_in facts) ≡ length facts
unfolding keys_in
length_keys [] = refl
length_keys (pair ∷ facts) = ap suc (length_keys facts)

module _ (sources : Sources) where
  -- an asker that knows nothing keeps to no keys
  pub lies_none : (facts : Facts) → facts ≡ [] → LiesWithin key_cmp (meaning_of sources) facts []
  lies_none facts none k known = absurd (none-some known.0 (subst (λ (ps : Facts). get key_cmp ps k ≡ Some known.0) none known.1))

  in_known : (facts : Facts) (key : Key) (a : Answer) → get key_cmp facts key ≡ Some a → IsIn key (keys_in facts)
  unfolding keys_in
  in_known [] key a h = absurd (cc)
  in_known (pair ∷ facts) key a h =
      elim (get_cases key_cmp key_total key_apart pair.0 key pair.1 a facts h) [
        | inl here ↦ inl here.0
        | inr there ↦ inr (in_known facts key a there)
      ]

  known_first : (pair : Key × Answer) (facts : Facts) (key : Key) → key ≡ pair.0 → IsKnown key_cmp (meaning_of sources) (pair ∷ facts) key
  known_first pair facts key e =
      (pair.1, subst (λ q. get key_cmp (pair ∷ facts) q ≡ Some pair.1) (sym e) (get_here key_cmp key_total key_apart pair.0 pair.1 facts))

  known_in : (facts : Facts) (key : Key) → IsIn key (keys_in facts) → IsKnown key_cmp (meaning_of sources) facts key
  unfolding keys_in
  known_in [] key i = absurd i
  known_in (pair ∷ facts) key (inl e) = known_first pair facts key e
  known_in (pair ∷ facts) key (inr i) =
      let rest = known_in facts key i in
      elim (compared key_cmp key_total key_apart key pair.0) [
        | Same e _ ↦ known_first pair facts key e
        | Apart apart _ ↦ (rest.0, get_there key_cmp key_total key_apart pair.0 key pair.1 facts apart ∙ rest.1)
      ]

  -- the keys that are known are all that one request comes to
  pub closure_of :
      (request : Request) (f : Key → Answer) → TellsAnswers sources f → (facts : Facts) → known.HasRisingKeys key_cmp facts
      → ((key : Key) → IsIn key (roots_of sources f request) → HasClosure key_cmp (meaning_of sources) facts key)
      → LiesWithin key_cmp (meaning_of sources) facts (roots_of sources f request)
      → IsClosure sources (request ∷ []) (keys_in facts)
  closure_of request f tells facts rise has lies =
      let one : flat_map (roots_of sources f) (request ∷ []) ≡ roots_of sources f request = append-nil (roots_of sources f request) in
      record {
        answer = f;
        answers = tells;
        rising = rising_keys facts rise;
        reached = λ key. (
          λ i.
              let from = lies key (known_in facts key i) in
              subst (λ roots. IsReached sources roots key) (sym one) (from.0, from.1, from.2),
          λ r.
              let from = subst (λ roots. IsReached sources roots key) one r in
              let k = has from.0 from.1 key from.2 in
              in_known facts key k.0 k.1,
        );
      }
