-- What events come to, case by case, and what every event keeps.
use Rattle.std.proofs.Common.{◌≡◌, ℕ, ◌-◌, ◌<◌, List, [], ◌∷◌, ◌++◌, length, Option, Some, None, refl, sym, ◌∙◌, ap, arith}
use Rattle.std.specs.declared.cmp.Ordering.{Ordering}
use Rattle.std.proofs.lemmas.List.{set-get_or, length-set}
use Rattle.def_query.specs.Keys.{IsIn, AreDistinct}
use Rattle.def_query.specs.Map.{get}
use Rattle.def_core.specs.declared.event.Event.{Event}
use Rattle.def_core.specs.declared.event.Event.TheVariants.{Ask, Publish, Look, Abandon}
use Rattle.def_core.specs.declared.outcome.Outcome.{Outcome}
use Rattle.def_core.specs.declared.outcome.Outcome.TheVariants.{Known, Yours, Circle, Wait}
use Rattle.def_core.specs.State.{Caller, State, idle, caller_at, with_caller, claimed, last, without_last}
use Rattle.def_core.specs.Needs.{owner, closing}
use Rattle.def_core.specs.Replay.{caller_of, asked, looked, has_asked, has_looked, look, outcome, after_look, after, with_answer, Fits}

-- a caller is put into the place of itself
pub with_itself :
    {K : Type 0} → (callers : List (Caller K)) (c : ℕ) → with_caller callers c (caller_at callers c) ≡ callers
with_itself callers c = set-get_or callers (c - 1) idle

module _ {K A : Type 0} (cmp : K → K → Ordering) where
  -- what the state is with another caller
  abbrev pub with_next : State K A → ℕ → Caller K → State K A
  with_next s c next = record { published = s.published; callers = with_caller s.callers c next }

  pub next_itself : (s : State K A) (c : ℕ) → with_next s c (caller_at s.callers c) ≡ s
  next_itself s c = ap (λ l. record { published = s.published; callers = l }) (with_itself s.callers c)

  -- what an Ask finds
  pub data AskView (s : State K A) (c : ℕ) (k : K) : Type 0 where
    AsksKnown :
        (a : A) → get cmp s.published k ≡ Some a → outcome cmp s (Ask c k) ≡ Known → after cmp s (Ask c k) ≡ s
        → AskView s c k
    AsksFree :
        get cmp s.published k ≡ None → owner cmp s.callers k ≡ None → outcome cmp s (Ask c k) ≡ Yours
        → after cmp s (Ask c k) ≡ with_next s c record { chain = (caller_at s.callers c).chain ++ k ∷ []; awaits = None }
        → AskView s c k
    AsksCircle :
        (w : ℕ) (y : List K) → get cmp s.published k ≡ None → owner cmp s.callers k ≡ Some w
        → closing cmp s.callers c k ≡ Some y
        → outcome cmp s (Ask c k) ≡ Circle y → after cmp s (Ask c k) ≡ s → AskView s c k
    AsksClaimed :
        (w : ℕ) → get cmp s.published k ≡ None → owner cmp s.callers k ≡ Some w → closing cmp s.callers c k ≡ None
        → outcome cmp s (Ask c k) ≡ Wait w
        → after cmp s (Ask c k) ≡ with_next s c record { chain = (caller_at s.callers c).chain; awaits = Some k }
        → AskView s c k

  asks_so :
      (s : State K A) (c : ℕ) (k : K) (o : Outcome (List K)) → outcome cmp s (Ask c k) ≡ o
      → after cmp s (Ask c k) ≡ with_next s c (has_asked (caller_at s.callers c) k o)
  asks_so s c k o e = ap (λ o. with_next s c (has_asked (caller_at s.callers c) k o)) e

  pub ask_view : (s : State K A) (c : ℕ) (k : K) → AskView s c k
  ask_view s c k = go (get cmp s.published k) refl (owner cmp s.callers k) refl (closing cmp s.callers c k) refl
    where
      comes :
          (a : Option A) (w : Option ℕ) (y : Option (List K)) → get cmp s.published k ≡ a → owner cmp s.callers k ≡ w
          → closing cmp s.callers c k ≡ y → outcome cmp s (Ask c k) ≡ asked a w y
      comes a w y e f g =
          ap (λ a. asked a (owner cmp s.callers k) (closing cmp s.callers c k)) e
          ∙ (ap (λ w. asked a w (closing cmp s.callers c k)) f ∙ ap (asked a w) g)

      go :
          (a : Option A) → get cmp s.published k ≡ a → (w : Option ℕ) → owner cmp s.callers k ≡ w
          → (y : Option (List K)) → closing cmp s.callers c k ≡ y → AskView s c k
      go (Some a) e w f y g =
          let o : outcome cmp s (Ask c k) ≡ Known = comes (Some a) w y e f g in
          AsksKnown a e o (asks_so s c k Known o ∙ next_itself s c)
      go None e None f y g =
          let o : outcome cmp s (Ask c k) ≡ Yours = comes None None y e f g in
          AsksFree e f o (asks_so s c k Yours o)
      go None e (Some w) f (Some y) g =
          let o : outcome cmp s (Ask c k) ≡ Circle y = comes None (Some w) (Some y) e f g in
          AsksCircle w y e f g o (asks_so s c k (Circle y) o ∙ next_itself s c)
      go None e (Some w) f None g =
          let o : outcome cmp s (Ask c k) ≡ Wait w = comes None (Some w) None e f g in
          AsksClaimed w e f g o (asks_so s c k (Wait w) o)

  -- what a Look finds
  pub data LookView (s : State K A) (c : ℕ) (k : K) : Type 0 where
    LooksKnown :
        (a : A) → get cmp s.published k ≡ Some a → outcome cmp s (Look c) ≡ Known
        → after cmp s (Look c) ≡ with_next s c record { chain = (caller_at s.callers c).chain; awaits = None }
        → LookView s c k
    LooksFree :
        get cmp s.published k ≡ None → owner cmp s.callers k ≡ None → outcome cmp s (Look c) ≡ Yours
        → after cmp s (Look c) ≡ with_next s c record { chain = (caller_at s.callers c).chain ++ k ∷ []; awaits = None }
        → LookView s c k
    LooksClaimed :
        (w : ℕ) → get cmp s.published k ≡ None → owner cmp s.callers k ≡ Some w → outcome cmp s (Look c) ≡ Wait w
        → after cmp s (Look c) ≡ s → LookView s c k

  pub look_view : (s : State K A) (c : ℕ) (k : K) → (caller_at s.callers c).awaits ≡ Some k → LookView s c k
  look_view s c k h = go (get cmp s.published k) refl (owner cmp s.callers k) refl
    where
      comes :
          (a : Option A) (w : Option ℕ) → get cmp s.published k ≡ a → owner cmp s.callers k ≡ w
          → outcome cmp s (Look c) ≡ looked a w
      comes a w e f =
          ap (look cmp s) h ∙ (ap (λ a. looked a (owner cmp s.callers k)) e ∙ ap (looked a) f)

      leads :
          (o : Outcome (List K)) → outcome cmp s (Look c) ≡ o
          → after cmp s (Look c) ≡ with_next s c (has_looked (caller_at s.callers c) k o)
      leads o e =
          ap (λ q. with_next s c (after_look cmp s (caller_at s.callers c) q)) h
          ∙ ap (λ o. with_next s c (has_looked (caller_at s.callers c) k o)) (sym (ap (look cmp s) h) ∙ e)

      go : (a : Option A) → get cmp s.published k ≡ a → (w : Option ℕ) → owner cmp s.callers k ≡ w → LookView s c k
      go (Some a) e w f =
          let o : outcome cmp s (Look c) ≡ Known = comes (Some a) w e f in LooksKnown a e o (leads Known o)
      go None e None f = let o : outcome cmp s (Look c) ≡ Yours = comes None None e f in LooksFree e f o (leads Yours o)
      go None e (Some w) f =
          let o : outcome cmp s (Look c) ≡ Wait w = comes None (Some w) e f in
          LooksClaimed w e f o (leads (Wait w) o ∙ next_itself s c)

  -- what a Publish does to a chain that has a last key
  pub publish_is :
      (s : State K A) (c : ℕ) (a : A) (t : K) → last (caller_at s.callers c).chain ≡ Some t
      → after cmp s (Publish c a) ≡ record {
        published = (t, a) ∷ s.published;
        callers =
            with_caller s.callers c record { chain = without_last (caller_at s.callers c).chain; awaits = (caller_at s.callers c).awaits };
      }
  publish_is s c a t e =
      ap (λ o. record {
        published = with_answer cmp o a s.published;
        callers =
            with_caller s.callers c record { chain = without_last (caller_at s.callers c).chain; awaits = (caller_at s.callers c).awaits };
      }) e

  -- the keys of all chains differ, and none is published
  pub record IsTidy (s : State K A) : Type 0 where
    pub distinct : AreDistinct (claimed s.callers)
    pub unpublished : (k : K) → IsIn k (claimed s.callers) → get cmp s.published k ≡ None

  pub within : (s : State K A) (e : Event K A) → Fits cmp s e → caller_of e - 1 < length s.callers
  within s e f = let l = f.least in let g = f.greatest in omega arith

  -- the number of callers stays
  pub same_length : (s : State K A) (e : Event K A) → length (after cmp s e).callers ≡ length s.callers
  same_length s (Ask c k) = length-set s.callers (c - 1) (has_asked (caller_at s.callers c) k (outcome cmp s (Ask c k)))
  same_length s (Publish c a) =
      length-set s.callers (c - 1) record { chain = without_last (caller_at s.callers c).chain; awaits = (caller_at s.callers c).awaits }
  same_length s (Look c) =
      length-set s.callers (c - 1) (after_look cmp s (caller_at s.callers c) (caller_at s.callers c).awaits)
  same_length s (Abandon c) = length-set s.callers (c - 1) idle
