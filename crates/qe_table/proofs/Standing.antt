-- States that have the same answers published and the same callers: what events come to in them, and what
-- they stand for.
use Rattle.std.proofs.Common.{◌≡◌, ◌≢◌, ◌⊎◌, ℕ, suc, ◌≤◌, cond, List, [], ◌∷◌, ◌++◌, length, replicate, Option, Some, None, IsSome, refl, sym, ◌∙◌, ap, subst, inl, inr}
use Rattle.std.proofs.lemmas.List.{length-replicate}
use Rattle.std.specs.Ordering.{eq_by_cmp}
use Rattle.std.specs.declared.cmp.Ordering.{Ordering}
use Rattle.def_query.specs.Map.{get}
use Rattle.def_core.specs.declared.event.Event.{Event}
use Rattle.def_core.specs.declared.event.Event.TheVariants.{Ask, Publish, Look, Abandon}
use Rattle.def_core.specs.State.{Caller, State, IsSame, opening, caller_at, with_caller, idle, last}
use Rattle.def_core.specs.Needs.{owner, closing}
use Rattle.def_core.specs.Replay.{asked, looked, has_asked, outcome, look, after, after_look, has_looked, with_answer, replay_from, replay, Fits}
use Rattle.qe_table.specs.Table.{TableState, state}
use Rattle.def_core.proofs.Events.{same_length, with_next, next_itself}
use Rattle.def_core.proofs.Histories.{replay_snoc}

-- a caller that has neither a chain nor a wait
idle_if : {K : Type 0} → (w : Caller K) → ¬ ((w.chain ≢ []) ⊎ IsSome w.awaits) → w ≡ idle
idle_if {K} w none = go w.chain w.awaits refl refl
  where
    go : (chain : List K) (awaits : Option K) → w.chain ≡ chain → w.awaits ≡ awaits → w ≡ idle
    go [] None e f =
        ap (λ (l : List K). record { chain = l; awaits = w.awaits }) e ∙ ap (λ (o : Option K). record { chain = []; awaits = o }) f
    go [] (Some k) e f = absurd (none (inr (subst IsSome (sym f) refl)))
    go (x ∷ xs) o e f = absurd (none (inl (λ n. let z : x ∷ xs ≡ [] = sym e ∙ n in cc)))

module _ {K A : Type 0} (cmp : K → K → Ordering) where
  -- the state with these pairs published
  abbrev over : List (K × A) → List (Caller K) → State K A
  over pairs callers = record { published = pairs; callers = callers }

  module _ (m n : List (K × A)) (callers : List (Caller K)) (same : (k : K) → get cmp m k ≡ get cmp n k) (count : length m ≡ length n) where
    look_over : (o : Option K) → look cmp (over m callers) o ≡ look cmp (over n callers) o
    look_over None = refl
    look_over (Some k) = ap (λ a. looked a (owner cmp callers k)) (same k)

    outcome_over : (e : Event K A) → outcome cmp (over m callers) e ≡ outcome cmp (over n callers) e
    outcome_over (Ask c k) = ap (λ a. asked a (owner cmp callers k) (closing cmp callers c k)) (same k)
    outcome_over (Publish c a) = refl
    outcome_over (Look c) = look_over (caller_at callers c).awaits
    outcome_over (Abandon c) = refl

    answered : (t : Option K) (a : A) (k : K) → get cmp (with_answer cmp t a m) k ≡ get cmp (with_answer cmp t a n) k
    answered None a k = same k
    answered (Some t) a k = ap (cond (eq_by_cmp cmp k t) (Some a)) (same k)

    counted : (t : Option K) (a : A) → length (with_answer cmp t a m) ≡ length (with_answer cmp t a n)
    counted None a = count
    counted (Some t) a = ap suc count

    looks_over :
        (was : Caller K) (o : Option K) → after_look cmp (over m callers) was o ≡ after_look cmp (over n callers) was o
    looks_over was None = refl
    looks_over was (Some k) = ap (has_looked was k) (look_over (Some k))

    after_over : (e : Event K A) → IsSame cmp (after cmp (over m callers) e) (after cmp (over n callers) e)
    after_over (Ask c k) = record {
      published = same;
      count = count;
      callers = ap (λ o. with_caller callers c (has_asked (caller_at callers c) k o)) (outcome_over (Ask c k));
    }
    after_over (Publish c a) = record {
      published = answered (last (caller_at callers c).chain) a;
      count = counted (last (caller_at callers c).chain) a;
      callers = refl;
    }
    after_over (Look c) = record {
      published = same;
      count = count;
      callers = ap (with_caller callers c) (looks_over (caller_at callers c) (caller_at callers c).awaits);
    }
    after_over (Abandon c) = record { published = same; count = count; callers = refl }

  -- the event comes to the same in both states
  pub same_outcome : (s t : State K A) (e : Event K A) → IsSame cmp s t → outcome cmp s e ≡ outcome cmp t e
  same_outcome s t e i =
      subst (λ l. outcome cmp s e ≡ outcome cmp (over t.published l) e) i.callers
      (outcome_over s.published t.published s.callers i.published i.count e)

  pub same_after : (s t : State K A) (e : Event K A) → IsSame cmp s t → IsSame cmp (after cmp s e) (after cmp t e)
  same_after s t e i =
      subst (λ l. IsSame cmp (after cmp s e) (after cmp (over t.published l) e)) i.callers
      (after_over s.published t.published s.callers i.published i.count e)

  pub fits_same : (s t : State K A) (e : Event K A) → IsSame cmp s t → Fits cmp t e → Fits cmp s e
  fits_same s t e i f = subst (λ l. Fits cmp (over s.published l) e) (sym i.callers) (over_fits f)
    where
      over_fits : Fits cmp t e → Fits cmp (over s.published t.callers) e
      over_fits f = record { least = f.least; greatest = f.greatest; allowed = f.allowed }

  pub same_fits : (s t : State K A) (e : Event K A) → IsSame cmp s t → Fits cmp s e → Fits cmp t e
  same_fits s t e i f = subst (λ l. Fits cmp (over t.published l) e) i.callers (over_fits f)
    where
      over_fits : Fits cmp s e → Fits cmp (over t.published s.callers) e
      over_fits f = record { least = f.least; greatest = f.greatest; allowed = f.allowed }

  -- the state is that after the history, for as many callers
  abbrev pub Stands : State K A → List (Event K A) → Type 0
  Stands s h = IsSame cmp s (replay cmp (length s.callers) h)

  same_trans : (s t u : State K A) → IsSame cmp s t → IsSame cmp t u → IsSame cmp s u
  same_trans s t u i j = record {
    published = λ k. i.published k ∙ j.published k;
    count = i.count ∙ j.count;
    callers = i.callers ∙ j.callers;
  }

  -- as many callers as before
  pub still_many :
      (s t : State K A) (e : Event K A) → t.callers ≡ (after cmp s e).callers → length t.callers ≡ length s.callers
  still_many s t e i = ap length i ∙ same_length cmp s e

  -- a state that the event leads to stands for the history with the event
  pub stands_after :
      (s t : State K A) (h : List (Event K A)) (e : Event K A) → Stands s h → IsSame cmp t (after cmp s e)
      → Stands t (h ++ e ∷ [])
  stands_after s t h e i j =
      let far : IsSame cmp t (after cmp (replay cmp (length s.callers) h) e) =
      same_trans t (after cmp s e) (after cmp (replay cmp (length s.callers) h) e) j (same_after s (replay cmp (length s.callers) h) e i) in
      subst (λ n. IsSame cmp t (replay cmp n (h ++ e ∷ []))) (sym (still_many s t e j.callers))
      (subst (IsSame cmp t) (sym (replay_snoc cmp (length s.callers) h e)) far)

  same_itself : (s : State K A) → IsSame cmp s s
  same_itself s = record { published = λ k. refl; count = refl; callers = refl }

  -- the same, where the event was noted before it was done
  pub enters :
      (s t : State K A) (h g : List (Event K A)) (e noted : Event K A) → Stands s h
      → ((u : State K A) → IsSame cmp s u → IsSame cmp t (after cmp u e)) → noted ≡ e → g ≡ h ++ noted ∷ [] → Stands t g
  enters s t h g e noted i j n m =
      subst (λ l. Stands t l) (sym (m ∙ ap (λ x. h ++ x ∷ []) n)) (stands_after s t h e i (j s (same_itself s)))

  -- as many callers as before
  pub keeps_many :
      (s t : State K A) (e : Event K A) → ((u : State K A) → IsSame cmp s u → IsSame cmp t (after cmp u e))
      → length t.callers ≡ length s.callers
  keeps_many s t e j = still_many s t e (j s (same_itself s)).callers

  more_callers : (s : State K A) (h : List (Event K A)) → length (replay_from cmp s h).callers ≡ length s.callers
  more_callers s [] = refl
  more_callers s (e ∷ h) = more_callers (after cmp s e) h ∙ same_length cmp s e

  -- the state of a table has as many callers as the table
  pub all_callers : (t : TableState K A) → length (state cmp t).callers ≡ t.callers
  all_callers t = more_callers (opening t.callers) t.history ∙ length-replicate t.callers (idle {K = K})

  -- the state that a table of these callers and this history has
  abbrev tabled : ℕ → List (Event K A) → State K A
  tabled n h = state cmp record { callers = n; history = h }

  -- after an Abandon its caller has nothing, and all else is as before
  pub given_back :
      (t : TableState K A) (n m : ℕ) (h g : List (Event K A)) (c : ℕ) (noted : Event K A)
      → record { callers = n; history = h } ≡ t → m ≡ n → noted ≡ Abandon c → g ≡ h ++ noted ∷ []
      → tabled m g ≡ record { published = (state cmp t).published; callers = with_caller (state cmp t).callers c idle }
  given_back t n m h g c noted v e i j =
      subst (λ (u : TableState K A). tabled m g ≡ record { published = (state cmp u).published; callers = with_caller (state cmp u).callers c idle }) v
      (ap (λ k. tabled k g) e ∙ ap (tabled n) (j ∙ ap (λ x. h ++ x ∷ []) i) ∙ replay_snoc cmp n h (Abandon c))

  -- where no Abandon fits, its caller has nothing
  pub nothing_back :
      (t : TableState K A) (s : State K A) (h : List (Event K A)) (c : ℕ) → record { callers = length s.callers; history = h } ≡ t
      → Stands s h → (1 ≤ c) × (c ≤ t.callers) → ¬ Fits cmp s (Abandon c)
      → state cmp t ≡ record { published = (state cmp t).published; callers = with_caller (state cmp t).callers c idle }
  nothing_back t s h c v i b none =
      let within : c ≤ length s.callers = subst (λ n. c ≤ n) (sym (ap (λ u. u.callers) v)) b.1 in
      let free : caller_at s.callers c ≡ idle =
      idle_if (caller_at s.callers c) (λ busy. none record { least = b.0; greatest = within; allowed = busy }) in
      let same : (state cmp t).callers ≡ s.callers = ap (λ u. (state cmp u).callers) (sym v) ∙ sym i.callers in
      let there : caller_at (state cmp t).callers c ≡ idle = ap (λ l. caller_at l c) same ∙ free in
      sym (next_itself cmp (state cmp t) c) ∙ ap (with_next cmp (state cmp t) c) there

  pub is_opening : (n : ℕ) (s : State K A) → s ≡ opening n → Stands s []
  is_opening n s e =
      let few : length (replicate n (idle {K = K})) ≡ n = length-replicate n (idle {K = K}) in
      let start : State K A = opening n in
      let itself : IsSame cmp start (opening n) = record { published = λ k. refl; count = refl; callers = refl } in
      subst (λ (t : State K A). Stands t []) (sym e)
      (subst (λ m. IsSame cmp start (opening m)) (sym few) itself)
