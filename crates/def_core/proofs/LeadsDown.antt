-- Current needs lead down, and where something is claimed or awaited there is a way on.
use Rattle.std.proofs.Common.{◌≡◌, ◌≢◌, ◌⊎◌, inl, inr, ℕ, zero, suc, ◌+◌, ◌-◌, ◌<◌, ◌≤◌, List, [], ◌∷◌, ◌++◌, length, get_or, Option, Some, None, IsSome, refl, sym, ◌∙◌, ap, subst, arith}
use Rattle.std.specs.Cmp.{IsTotalOrder}
use Rattle.std.specs.List.{AllByRecursion}
use Rattle.std.specs.declared.cmp.Ordering.{Ordering}
use Rattle.def_query.specs.Answer.{IsCorrect}
use Rattle.def_query.specs.Keys.{IsIn, IsPath, Leads}
use Rattle.def_query.specs.Lawful.{IsLawful}
use Rattle.def_query.specs.Map.{get, IsWithin}
use Rattle.def_query.specs.Meaning.{Meaning}
use Rattle.def_query.specs.Settles.{Settles, IsGiven, Depends}
use Rattle.def_query.specs.declared.step.Step.{Step}
use Rattle.def_query.specs.declared.step.Step.TheVariants.{Needs as Lacks, Done}
use Rattle.def_query.proofs.Walks.{Without, take_out, Place, place_of, path_from, leads_join}
use Rattle.def_query.proofs.Maps.{Same, Apart, compared, get_here, get_there, cons_within, has_or_lacks, decide_in}
use Rattle.def_query.proofs.Runs.{IsTrueTo, lacks_cons, none_in}
use Rattle.def_query.proofs.Correct.{correct_true, needs_depends}
use Rattle.def_core.specs.declared.event.Event.{Event}
use Rattle.def_core.specs.declared.event.Event.TheVariants.{Ask, Publish, Look}
use Rattle.def_core.specs.declared.outcome.Outcome.TheVariants.{Known, Yours, Wait}
use Rattle.def_core.specs.State.{Caller, State, caller_at, idle, claimed, last, AreIdle}
use Rattle.def_core.specs.Needs.{Needs, owner}
use Rattle.def_core.specs.Replay.{looked, look, replay}
use Rattle.def_core.specs.Legal.{MayAsk, MayPublish, told, top, Legal}
use Rattle.def_core.specs.Laws.{HasWayOn, WaitsLeadDown}
use Rattle.def_core.proofs.Closing.{chain_claimed}
use Rattle.def_core.proofs.Lists.{append_more, last_exists}
use Rattle.def_core.proofs.Chains.{Holds, claimed_holds, owner_none}
use Rattle.def_core.proofs.Histories.{legal_snoc}
use Rattle.def_core.proofs.Lines.{some_or_none, is_there, Follows, line, line_waits, line_need}
use Rattle.def_core.proofs.Tidy.{some_is}
use Rattle.def_core.proofs.Invariant.{Sound, Standing, Telling, told_correct}
use Rattle.def_core.proofs.Circles.{needs_depend}
use Rattle.def_core.proofs.PublishedRight.{standing}
use Rattle.def_core.proofs.Acyclic.{acyclic}
use Rattle.def_core.proofs.Asked.{not_asked}

module _ {X : Type 0} where
  -- a list each of whose elements is related to the next is a path
  path_of : (R : X → X → Type 0) (l : List X) → ((x y : X) → Follows l x y → R x y) → IsPath R l
  path_of R [] f = tt
  path_of R (x ∷ []) f = tt
  path_of R (x ∷ y ∷ l) f = (
    f x y record { before = []; behind = l; is = refl },
    path_of R (y ∷ l) (λ z w g. f z w record { before = x ∷ g.before; behind = g.behind; is = ap (λ m. x ∷ m) g.is }),
  )

module _ {K A : Type 0} (cmp : K → K → Ordering) (total : IsTotalOrder cmp) (r : Meaning K A)
    (lawful : IsLawful cmp r) where
  some_cons : (k q : K) (a : A) (m : List (K × A)) → IsSome (get cmp m q) → IsSome (get cmp ((k, a) ∷ m) q)
  some_cons k q a m h =
      elim (compared cmp total lawful.one_key q k) [
        | Same e _ ↦
            is_there (get cmp ((k, a) ∷ m) q) a
            (subst (λ z. get cmp ((k, a) ∷ m) z ≡ Some a) (sym e) (get_here cmp total lawful.one_key k a m))
        | Apart apart _ ↦ subst IsSome (sym (get_there cmp total lawful.one_key k q a m apart)) h
      ]

  all_cons :
      (k : K) (a : A) (m l : List (K × A)) → AllByRecursion (λ p. IsSome (get cmp m p.0)) l
      → AllByRecursion (λ p. IsSome (get cmp ((k, a) ∷ m) p.0)) l
  all_cons k a m [] h = tt
  all_cons k a m (p ∷ l) h = (some_cons k p.0 a m h.0, all_cons k a m l h.1)

  -- settled needs whose keys a true map has
  settled_within :
      (t : K) (n m : List (K × A)) → IsTrueTo cmp total r lawful n → IsGiven cmp r (Settles cmp r) t m
      → AllByRecursion (λ p. IsSome (get cmp n p.0)) m → IsWithin cmp m n
  settled_within t n [] true g all = λ q a h. let h' : None ≡ Some a = h in absurd (cc)
  settled_within t n (p ∷ m) true g all =
      let a = some_is (get cmp n p.0) all.0 in
      cons_within cmp total lawful.one_key p.0 p.1 m n (settled_within t n m true g.2 all.1)
      (a.1 ∙ ap Some (true p.0 p.1 a.0 a.1 g.1))

  -- where t needs k under a true map, the map has all that t needs before k
  earlier_has :
      (t k : K) (n m : List (K × A)) → IsTrueTo cmp total r lawful n → r.body t n ≡ Lacks k
      → IsGiven cmp r (Settles cmp r) t m → get cmp m k ≡ None
      → IsWithin cmp m n × AllByRecursion (λ p. IsSome (get cmp n p.0)) m
  earlier_has t k n [] true e g lacks = ((λ q a h. let h' : None ≡ Some a = h in absurd (cc)), tt)
  earlier_has t k n (p ∷ m) true e g lacks =
      let l = lacks_cons cmp total r lawful p.0 k p.1 m lacks in
      let ih = earlier_has t k n m true e g.2 l.1 in
      elim (has_or_lacks cmp total lawful.one_key n p.0) [
        | inl h ↦ (
          cons_within cmp total lawful.one_key p.0 p.1 m n ih.0 (h.1 ∙ ap Some (true p.0 p.1 h.0 h.1 g.1)),
          (is_there (get cmp n p.0) h.0 h.1, ih.1),
        )
        | inr none ↦
            (let f : Lacks k ≡ Lacks p.0 = sym e ∙ lawful.needs_stay t m n p.0 g.0 ih.0 none in
            absurd (l.0 (let q : k ≡ p.0 = cc in q)))
      ]

  -- the body of a key that was told a cycle is done with the answer that tells it
  told_done :
      (n : ℕ) (h : List (Event K A)) (c : ℕ) → Standing cmp total r lawful n h → 1 ≤ c
      → (t : Telling cmp total r lawful n h c)
      → r.body t.final (told cmp r n h c ++ (replay cmp n h).published) ≡ Done (r.circular t.cycle)
  told_done n h c st l t =
      let known : List (K × A) = (t.key, r.circular t.cycle) ∷ (replay cmp n h).published in
      let same : known ≡ told cmp r n h c ++ (replay cmp n h).published =
      ap (λ w. w ++ (replay cmp n h).published) (sym t.is) in
      let correct : IsCorrect cmp r known =
      subst (IsCorrect cmp r) (sym same) (told_correct cmp total r lawful n h c st l) in
      let w : IsWithin cmp t.depends.earlier known =
      settled_within t.final known t.depends.earlier (correct_true cmp total r lawful known correct) t.depends.given
      (all_cons t.key (r.circular t.cycle) (replay cmp n h).published t.depends.earlier t.earlier) in
      subst (λ m. r.body t.final m ≡ Done (r.circular t.cycle)) same
      (lawful.done_stays t.final ((t.key, r.circular t.cycle) ∷ t.depends.earlier) known (r.circular t.cycle)
      (lawful.circular_stays t.final t.depends.earlier t.key t.cycle t.depends.needs)
      (cons_within cmp total lawful.one_key t.key (r.circular t.cycle) t.depends.earlier known w
      (get_here cmp total lawful.one_key t.key (r.circular t.cycle) (replay cmp n h).published)))

  -- a caller that does not wait and whose chain has a last key
  record Awake (n : ℕ) (h : List (Event K A)) (c : ℕ) (t : K) : Type 0 where
    least : 1 ≤ c
    greatest : c ≤ length (replay cmp n h).callers
    awake : (caller_at (replay cmp n h).callers c).awaits ≡ None
    is_top : top cmp r n h c ≡ Some t

  not_idle : (w : Caller K) (t : K) → last w.chain ≡ Some t → w ≢ idle
  not_idle w t e same = let f : None ≡ Some t = sym (ap (λ (q : Caller K). last q.chain) same) ∙ e in cc

  not_empty : (l : List K) (t : K) → last l ≡ Some t → l ≢ []
  not_empty l t e same = let f : None ≡ Some t = sym (ap last same) ∙ e in cc

  publish_way :
      (n : ℕ) (h : List (Event K A)) (c : ℕ) (t : K) (a : A) → Legal cmp r n h → Awake n h c t
      → r.body t (told cmp r n h c ++ (replay cmp n h).published) ≡ Done a → HasWayOn cmp r n h
  publish_way n h c t a legal w e = record {
    event = Publish c a;
    busy = not_idle (caller_at (replay cmp n h).callers c) t w.is_top;
    forward = tt;
    legal = legal_snoc cmp r n h (Publish c a) legal record {
      fits = record {
        least = w.least;
        greatest = w.greatest;
        allowed = (w.awake, not_empty (caller_at (replay cmp n h).callers c).chain t w.is_top);
      };
      may = subst (MayPublish cmp r n h c a) (sym w.is_top) e;
    };
  }

  ask_way :
      (n : ℕ) (h : List (Event K A)) (c : ℕ) (t k : K) → Legal cmp r n h → Awake n h c t
      → told cmp r n h c ≡ [] → r.body t (replay cmp n h).published ≡ Lacks k → HasWayOn cmp r n h
  ask_way n h c t k legal w untold e =
      let s : State K A = replay cmp n h in
      let correct : IsCorrect cmp r s.published = (standing cmp total r lawful n h legal).sound.correct in
      let d : Depends cmp r t k = needs_depends cmp total r lawful t s.published k correct e in
      let lacks : get cmp s.published k ≡ None = lawful.needs_lacking t s.published k e in
      record {
        event = Ask c k;
        busy = not_idle (caller_at s.callers c) t w.is_top;
        forward = tt;
        legal = legal_snoc cmp r n h (Ask c k) legal record {
          fits = record { least = w.least; greatest = w.greatest; allowed = w.awake };
          may = subst (MayAsk cmp r n h c k) (sym w.is_top) record {
            depends = d;
            earlier =
                (earlier_has t k s.published d.earlier (correct_true cmp total r lawful s.published correct) e d.given
                (lawful.needs_lacking t d.earlier k d.needs)).1;
            once = not_asked cmp total r lawful n h c t k legal w.is_top w.awake untold lacks;
            untold = untold;
          };
        };
      }

  awake_way : (n : ℕ) (h : List (Event K A)) (c : ℕ) (t : K) → Legal cmp r n h → Awake n h c t → HasWayOn cmp r n h
  awake_way n h c t legal w =
      let st : Standing cmp total r lawful n h = standing cmp total r lawful n h legal in
      elim (st.tells c w.least) [
        | inr tells ↦
            (let f : Some tells.final ≡ Some t = sym tells.is_last ∙ w.is_top in
            let same : tells.final ≡ t = cc in
            publish_way n h c t (r.circular tells.cycle) legal w
            (subst (λ z. r.body z (told cmp r n h c ++ (replay cmp n h).published) ≡ Done (r.circular tells.cycle)) same
            (told_done n h c st w.least tells)))
        | inl untold ↦ go untold (r.body t (replay cmp n h).published) refl
      ]
    where
      go : told cmp r n h c ≡ [] → (s : Step K A) → r.body t (replay cmp n h).published ≡ s → HasWayOn cmp r n h
      go untold (Lacks k) e = ask_way n h c t k legal w untold e
      go untold (Done a) e =
          publish_way n h c t a legal w
          (subst (λ m. r.body t (m ++ (replay cmp n h).published) ≡ Done a) (sym untold) e)

  -- nobody has claimed the awaited key: it is published, or the caller may claim it
  look_way :
      (n : ℕ) (h : List (Event K A)) (c : ℕ) (k : K) → Legal cmp r n h → 1 ≤ c → c ≤ length (replay cmp n h).callers
      → (caller_at (replay cmp n h).callers c).awaits ≡ Some k
      → ¬ IsIn k (claimed (replay cmp n h).callers) → HasWayOn cmp r n h
  look_way n h c k legal l g waits free = record {
    event = Look c;
    busy = λ e. let f : Some k ≡ None = sym waits ∙ ap (λ (w : Caller K). w.awaits) e in cc;
    forward = tt;
    legal = legal_snoc cmp r n h (Look c) legal record {
      fits = record { least = l; greatest = g; allowed = is_there (caller_at s.callers c).awaits k waits };
      may = λ w e. not_waits (get cmp s.published k) w (sym (ap (look cmp s) waits ∙ unowned) ∙ e);
    };
  }
    where
      s : State K A
      s = replay cmp n h

      unowned :
          looked {C = List K} (get cmp s.published k) (owner cmp s.callers k) ≡ looked {C = List K}
          (get cmp s.published k) None
      unowned =
          ap (λ o. looked {C = List K} (get cmp s.published k) o) (owner_none cmp total lawful.one_key s.callers k free)

      not_waits : (o : Option A) (w : ℕ) → looked {C = List K} o None ≡ Wait w → ⊥
      not_waits (Some a) w e = let f : Known ≡ Wait w = e in cc
      not_waits None w e = let f : Yours ≡ Wait w = e in cc

  -- from a claimed key along the line of its caller one comes to what this caller waits for
  leads_to_awaited :
      (s : State K A) (i : ℕ) (x k : K) → Sound cmp total r lawful s → Holds s.callers i x
      → (get_or s.callers i idle).awaits ≡ Some k
      → Leads (Needs cmp s.callers) x k
  leads_to_awaited s i x k sound held waits =
      let w : Caller K = get_or s.callers i idle in
      let p : Place x w.chain = place_of x w.chain held.has in
      let path : IsPath (Needs cmp s.callers) (line w) =
      path_of (Needs cmp s.callers) (line w)
      (λ y z f. line_need cmp total lawful.one_key s.callers i y z sound.tidy.distinct held.within f) in
      let is : line w ≡ p.before ++ x ∷ (p.after ++ k ∷ []) =
      line_waits w k waits ∙ (ap (λ l. l ++ k ∷ []) p.is ∙ append_more p.before (x ∷ p.after) (k ∷ [])) in (
        p.after,
        path_from (Needs cmp s.callers) p.before x (p.after ++ k ∷ [])
            (subst (IsPath (Needs cmp s.callers)) is path),
      )

  pub at_number : (callers : List (Caller K)) (i : ℕ) → get_or callers i idle ≡ caller_at callers (i + 1)
  at_number callers i = ap (λ j. get_or callers j idle) (let e : i ≡ (i + 1) - 1 = omega arith in e)

  -- the caller of a claimed key may go on, or waits for a key that is still claimed
  holder_way :
      (n : ℕ) (h : List (Event K A)) (i : ℕ) (x : K) → Legal cmp r n h → Holds (replay cmp n h).callers i x
      → HasWayOn cmp r n h
      ⊎ ((k : K) × ((get_or (replay cmp n h).callers i idle).awaits ≡ Some k) × IsIn k (claimed (replay cmp n h).callers))
  holder_way n h i x legal held =
      let s : State K A = replay cmp n h in
      let same : get_or s.callers i idle ≡ caller_at s.callers (i + 1) = at_number s.callers i in
      let within : i < length s.callers = held.within in
      elim (some_or_none (get_or s.callers i idle).awaits) [
        | inl k ↦ elim (decide_in cmp total lawful.one_key k.0 (claimed s.callers)) [
          | inr free ↦
              inl (look_way n h (i + 1) k.0 legal (omega arith) (omega arith)
              (subst (λ (w : Caller K). w.awaits ≡ Some k.0) same k.1) free)
          | inl claims ↦ inr (k.0, k.1, claims)
        ]
        | inr awake ↦
            (let t = last_exists (get_or s.callers i idle).chain
            (λ e. let q : IsIn x [] = subst (IsIn x) e held.has in q) in
            inl (awake_way n h (i + 1) t.0 legal record {
              least = omega arith;
              greatest = omega arith;
              awake = subst (λ (w : Caller K). w.awaits ≡ None) same awake;
              is_top = subst (λ (w : Caller K). last w.chain ≡ Some t.0) same t.1;
            }))
      ]

  -- each claimed key but x is of the list, or leads to x
  abbrev IsLeft : State K A → List K → K → Type 0
  IsLeft s rest x = (z : K) → IsIn z (claimed s.callers) → z ≢ x → IsIn z rest ⊎ Leads (Needs cmp s.callers) z x

  -- a claimed key of the list to which current needs lead from x
  record Next (s : State K A) (rest : List K) (x : K) : Type 0 where
    key : K
    claims : IsIn key (claimed s.callers)
    leads : Leads (Needs cmp s.callers) x key
    isin : IsIn key rest

  way_or_next :
      (n : ℕ) (h : List (Event K A)) (rest : List K) (x : K) → Legal cmp r n h → IsIn x (claimed (replay cmp n h).callers)
      → IsLeft (replay cmp n h) rest x → HasWayOn cmp r n h ⊎ Next (replay cmp n h) rest x
  way_or_next n h rest x legal held left =
      let s : State K A = replay cmp n h in
      let b = claimed_holds s.callers x held in
      elim (holder_way n h b.0 x legal b.1) [
        | inl way ↦ inl way
        | inr k ↦
            (let leads : Leads (Needs cmp s.callers) x k.0 =
            leads_to_awaited s b.0 x k.0 (standing cmp total r lawful n h legal).sound b.1 k.1 in
            let apart : k.0 ≢ x =
            λ e. acyclic cmp total r lawful n h legal x (subst (Leads (Needs cmp s.callers) x) e leads) in
            elim (left k.0 k.2 apart) [
              | inr back ↦
                  absurd (acyclic cmp total r lawful n h legal x (leads_join (Needs cmp s.callers) x k.0 x leads back))
              | inl i ↦ inr record { key = k.0; claims = k.2; leads = leads; isin = i }
            ])
      ]

  left_after :
      (s : State K A) (rest : List K) (x : K) → IsLeft s rest x → (next : Next s rest x) → (w : Without next.key rest)
      → IsLeft s w.rest next.key
  left_after s rest x left next w z claims apart =
      elim (compared cmp total lawful.one_key z x) [
        | Same e _ ↦ inr (subst (λ q. Leads (Needs cmp s.callers) q next.key) (sym e) next.leads)
        | Apart other _ ↦ elim (left z claims other) [
          | inl i ↦ inl (w.keeps z apart i)
          | inr leads ↦ inr (leads_join (Needs cmp s.callers) z x next.key leads next.leads)
        ]
      ]

  -- following current needs from a claimed key one comes to a caller that may go on
  follow :
      (fuel n : ℕ) (h : List (Event K A)) (rest : List K) (x : K) → Legal cmp r n h → length rest ≡ fuel
      → IsIn x (claimed (replay cmp n h).callers) → IsLeft (replay cmp n h) rest x → HasWayOn cmp r n h
  follow zero n h rest x legal len held left =
      elim (way_or_next n h rest x legal held left) [
        | inl way ↦ way
        | inr next ↦ absurd (none_in cmp total r lawful rest next.key len next.isin)
      ]
  follow (suc fuel) n h rest x legal len held left =
      elim (way_or_next n h rest x legal held left) [
        | inl way ↦ way
        | inr next ↦
            (let w : Without next.key rest = take_out next.key rest next.isin in
            follow fuel n h w.rest next.key legal
            (let e : length rest ≡ suc (length w.rest) = w.shorter in omega arith)
            next.claims (left_after (replay cmp n h) rest x left next w))
      ]

  claimed_way :
      (n : ℕ) (h : List (Event K A)) (x : K) → Legal cmp r n h → IsIn x (claimed (replay cmp n h).callers)
      → HasWayOn cmp r n h
  claimed_way n h x legal held =
      let keys : List K = claimed (replay cmp n h).callers in
      follow (length keys) n h keys x legal refl held (λ z claims _. inl claims)

  -- a caller has claimed a key, or waits for one, or has nothing
  data Busy (w : Caller K) : Type 0 where
    Claiming : (x : K) → IsIn x w.chain → Busy w
    Waiting : (k : K) → w.awaits ≡ Some k → Busy w

  busy_or_idle : (w : Caller K) → Busy w ⊎ (w ≡ idle)
  busy_or_idle w = go w.chain w.awaits refl refl
    where
      go : (chain : List K) (awaits : Option K) → w.chain ≡ chain → w.awaits ≡ awaits → Busy w ⊎ (w ≡ idle)
      go (x ∷ xs) awaits e f = inl (Claiming x (subst (IsIn x) (sym e) (inl refl)))
      go [] (Some k) e f = inl (Waiting k f)
      go [] None e f =
          inr (let make : List K → Option K → Caller K = λ l o. record { chain = l; awaits = o } in ap
          (λ l. make l w.awaits) e ∙ ap (make []) f)

  record SomeBusy (callers : List (Caller K)) : Type 0 where
    at : ℕ
    within : at < length callers
    busy : Busy (get_or callers at idle)

  some_busy : (callers : List (Caller K)) → SomeBusy callers ⊎ ((i : ℕ) → get_or callers i idle ≡ idle)
  some_busy [] = inr (λ i. refl)
  some_busy (c ∷ callers) =
      elim (busy_or_idle c) [
        | inl b ↦ inl record { at = 0; within = omega arith; busy = b }
        | inr e ↦ elim (some_busy callers) [
          | inl b ↦
              inl record {
                at = suc b.at;
                within =
                    (let w : b.at < length callers = b.within in omega arith);
                busy = b.busy;
              }
          | inr all ↦ inr (idle_at e all)
        ]
      ]
    where
      idle_at : c ≡ idle → ((i : ℕ) → get_or callers i idle ≡ idle) → (i : ℕ) → get_or (c ∷ callers) i idle ≡ idle
      idle_at e all zero = e
      idle_at e all (suc i) = all i

  busy_way :
      (n : ℕ) (h : List (Event K A)) (i : ℕ) → Legal cmp r n h → i < length (replay cmp n h).callers
      → Busy (get_or (replay cmp n h).callers i idle) → HasWayOn cmp r n h
  busy_way n h i legal at (Claiming x isin) =
      claimed_way n h x legal (chain_claimed (replay cmp n h).callers i x isin)
  busy_way n h i legal at (Waiting k waits) =
      elim (decide_in cmp total lawful.one_key k (claimed (replay cmp n h).callers)) [
        | inr free ↦
            look_way n h (i + 1) k legal (omega arith) (omega arith)
            (subst (λ (w : Caller K). w.awaits ≡ Some k) (at_number (replay cmp n h).callers i) waits) free
        | inl claims ↦ claimed_way n h k legal claims
      ]

  way_on : (n : ℕ) (h : List (Event K A)) → Legal cmp r n h → ¬ AreIdle (replay cmp n h).callers → HasWayOn cmp r n h
  way_on n h legal not =
      elim (some_busy (replay cmp n h).callers) [
        | inl b ↦ busy_way n h b.at legal b.within b.busy
        | inr all ↦ absurd (not (λ c. all (c - 1)))
      ]

  pub waits_lead_down : WaitsLeadDown cmp r
  waits_lead_down n h legal =
      let sound : Sound cmp total r lawful (replay cmp n h) = (standing cmp total r lawful n h legal).sound in
      record {
        depends = λ x y e. needs_depend cmp total r lawful (replay cmp n h) x y sound e;
        distinct = sound.tidy.distinct;
        unpublished = sound.tidy.unpublished;
        no_way_back = acyclic cmp total r lawful n h legal;
        way_on = way_on n h legal;
      }
