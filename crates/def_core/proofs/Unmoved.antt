-- What others do moves no caller.
use Rattle.std.proofs.Common.{◌≡◌, ◌≢◌, ℕ, ◌≤◌, ◌==◌, cond, List, [], ◌∷◌, ◌++◌, length, filter, Option, Some, None, refl, sym, ◌∙◌, ap, subst, eq-eqb}
use Rattle.std.specs.Cmp.{IsTotalOrder}
use Rattle.std.specs.declared.cmp.Ordering.{Ordering}
use Rattle.std.proofs.lemmas.List.Elements.{filter-append}
use Rattle.def_query.specs.Lawful.{IsLawful}
use Rattle.def_query.specs.Map.{get, IsWithin}
use Rattle.def_query.specs.Meaning.{Meaning}
use Rattle.def_query.specs.declared.step.Step.TheVariants.{Done}
use Rattle.def_query.proofs.Maps.{get_here, get_there, Same, Apart, compared}
use Rattle.def_core.specs.declared.event.Event.{Event}
use Rattle.def_core.specs.declared.event.Event.TheVariants.{Ask, Publish, Look, Abandon}
use Rattle.def_core.specs.State.{Caller, State, opening, caller_at, last}
use Rattle.def_core.specs.Replay.{caller_of, after, replay_from, replay, FitsCaller}
use Rattle.def_core.specs.Legal.{MayAsk, MayPublish, MayBe, MayFollow, HasAsked, told, top, Legal}
use Rattle.def_core.specs.Laws.{events_of, IsNoLook, UnmovedByOthers}
use Rattle.def_core.proofs.Lists.{append_nil, append_more}
use Rattle.def_core.proofs.Events.{same_length}
use Rattle.def_core.proofs.Histories.{grown, parts, InFront, InBack, no_mid, replay_snoc, told_other, legal_front, legal_last, legal_snoc}
use Rattle.def_core.proofs.PublishedRight.{all_kept, others_stay, published_stays, standing}

module _ {X : Type 0} where
  same_front : (xs ys : List X) → xs ++ ys ≡ xs → ys ≡ []
  same_front [] ys e = e
  same_front (x ∷ xs) ys e = same_front xs ys (let f : xs ++ ys ≡ xs = cc in f)

module _ {K A : Type 0} (cmp : K → K → Ordering) where
  -- no event brings a caller or takes one
  all_length : (s : State K A) (h : List (Event K A)) → length (replay_from cmp s h).callers ≡ length s.callers
  all_length s [] = refl
  all_length s (e ∷ h) = all_length (after cmp s e) h ∙ same_length cmp s e

  -- each event is one of others
  abbrev pub AreOfOthers : ℕ → List (Event K A) → Type 0
  AreOfOthers c further =
      (more : List (Event K A)) (e : Event K A) (behind : List (Event K A)) → further ≡ more ++ e ∷ behind
      → caller_of e ≢ c

  none_of : (c : ℕ) (further : List (Event K A)) → filter (λ e. caller_of e == c) further ≡ [] → AreOfOthers c further
  none_of c further none more e behind is same =
      no_mid (filter (λ x. caller_of x == c) more) e (filter (λ x. caller_of x == c) behind)
      (sym none
      ∙ (ap (filter (λ x. caller_of x == c)) is
      ∙ (filter-append (λ x. caller_of x == c) more (e ∷ behind)
      ∙ ap (λ b. filter (λ x. caller_of x == c) more ++ cond b (e ∷ filter (λ x. caller_of x == c) behind)
      (filter (λ x. caller_of x == c) behind)) (eq-eqb (caller_of e) c same))))

module _ {K A : Type 0} (cmp : K → K → Ordering) (total : IsTotalOrder cmp) (r : Meaning K A)
    (lawful : IsLawful cmp r) where
  of_others :
      (c : ℕ) (h further : List (Event K A)) → events_of cmp r c (h ++ further) ≡ events_of cmp r c h
      → AreOfOthers cmp c further
  of_others c h further e =
      none_of cmp c further
      (same_front (events_of cmp r c h) (events_of cmp r c further)
      (sym (filter-append (λ (x : Event K A). caller_of x == c) h further) ∙ e))

  within_behind : (l m n : List (K × A)) → IsWithin cmp m n → IsWithin cmp (l ++ m) (l ++ n)
  within_behind [] m n w k a g = w k a g
  within_behind (p ∷ l) m n w k a g =
      elim (compared cmp total lawful.one_key k p.0) [
        | Same e _ ↦
            subst (λ z. get cmp (p ∷ (l ++ n)) z ≡ Some a) (sym e)
            (let here : get cmp (p ∷ (l ++ m)) p.0 ≡ Some p.1 = get_here cmp total lawful.one_key p.0 p.1 (l ++ m) in
            let f : Some p.1 ≡ Some a = sym here ∙ subst (λ z. get cmp (p ∷ (l ++ m)) z ≡ Some a) e g in
            get_here cmp total lawful.one_key p.0 p.1 (l ++ n) ∙ f)
        | Apart apart _ ↦
            get_there cmp total lawful.one_key p.0 k p.1 (l ++ n) apart
            ∙ within_behind l m n w k a (sym (get_there cmp total lawful.one_key p.0 k p.1 (l ++ m) apart) ∙ g)
      ]

  -- after g the caller is as after h, was told the same, and all is published that was
  pub record IsAs (n : ℕ) (h g : List (Event K A)) (c : ℕ) : Type 0 where
    pub caller : caller_at (replay cmp n g).callers c ≡ caller_at (replay cmp n h).callers c
    pub told : told cmp r n g c ≡ told cmp r n h c
    pub published : IsWithin cmp (replay cmp n h).published (replay cmp n g).published

  as_after :
      (n : ℕ) (h g : List (Event K A)) (c : ℕ) (e : Event K A) → Legal cmp r n (g ++ e ∷ []) → 1 ≤ c → caller_of e ≢ c
      → IsAs n h g c → IsAs n h (g ++ e ∷ []) c
  as_after n h g c e legal l apart like =
      let m : MayFollow cmp r n g e = legal_last cmp r n g e legal in
      let st = standing cmp total r lawful n g (legal_front cmp r n g (e ∷ []) legal) in
      record {
        caller =
            ap (λ s. caller_at s.callers c) (replay_snoc cmp n g e)
            ∙ (others_stay cmp total r lawful (replay cmp n g) e c m.fits.least l apart ∙ like.caller);
        told = told_other cmp r n g e c apart ∙ like.told;
        published = λ k a p.
            subst (λ s. get cmp s.published k ≡ Some a) (sym (replay_snoc cmp n g e))
            (published_stays cmp total r lawful n g e st.sound m k a (like.published k a p));
      }

  pub as_before :
      (n : ℕ) (h further : List (Event K A)) (c : ℕ) → Legal cmp r n (h ++ further) → 1 ≤ c → AreOfOthers cmp c further
      → IsAs n h (h ++ further) c
  as_before n h further c legal l others =
      grown (λ mid. (rest : List (Event K A)) → further ≡ mid ++ rest → IsAs n h (h ++ mid) c)
      (λ rest is. subst (λ g. IsAs n h g c)
      (sym (append_nil h)) record { caller = refl; told = refl; published = λ k a p. p })
      (λ mid e ih rest is.
      let is' : further ≡ mid ++ e ∷ rest = is ∙ append_more mid (e ∷ []) rest in
      let all : h ++ further ≡ (h ++ (mid ++ e ∷ [])) ++ rest =
      ap (λ w. h ++ w) is ∙ sym (append_more h (mid ++ e ∷ []) rest) in
      let joined : h ++ (mid ++ e ∷ []) ≡ (h ++ mid) ++ e ∷ [] = sym (append_more h mid (e ∷ [])) in
      let front : Legal cmp r n (h ++ (mid ++ e ∷ [])) =
      legal_front cmp r n (h ++ (mid ++ e ∷ [])) rest (subst (Legal cmp r n) all legal) in
      subst (λ g. IsAs n h g c) (sym joined)
      (as_after n h (h ++ mid) c e (subst (Legal cmp r n) joined front) l (others mid e rest is') (ih (e ∷ rest) is')))
      further [] (sym (append_nil further))

  -- what the caller has asked after h and further it has asked after h
  asked_before :
      (n : ℕ) (h further : List (Event K A)) (c : ℕ) (t k : K) → AreOfOthers cmp c further
      → HasAsked cmp r n (h ++ further) c t k → HasAsked cmp r n h c t k
  asked_before n h further c t k others asked =
      elim (parts h further asked.before (Ask c k) asked.behind asked.is) [
        | InBack more i _ ↦ absurd (others more (Ask c k) asked.behind i refl)
        | InFront rest i j ↦ record {
          before = asked.before;
          behind = rest;
          is = j;
          as_last = asked.as_last;
          since = λ mid end e.
              asked.since mid (end ++ further) (i ∙ (ap (λ w. w ++ further) e ∙ append_more mid end further));
        }
      ]

  next_still :
      (n : ℕ) (h further : List (Event K A)) (c : ℕ) (k : K) → AreOfOthers cmp c further → IsAs n h (h ++ further) c
      → (o : Option K) → MayAsk cmp r n h c k o → MayAsk cmp r n (h ++ further) c k o
  next_still n h further c k others like None may = tt
  next_still n h further c k others like (Some t) may = record {
    depends = may.depends;
    earlier =
        all_kept cmp total r lawful (replay cmp n h).published (replay cmp n (h ++ further)).published may.depends.earlier
        like.published may.earlier;
    once = λ asked. may.once (asked_before n h further c t k others asked);
    untold = like.told ∙ may.untold;
  }

  answer_still :
      (n : ℕ) (h g : List (Event K A)) (c : ℕ) (a : A) → IsAs n h g c
      → (o : Option K) → MayPublish cmp r n h c a o → MayPublish cmp r n g c a o
  answer_still n h g c a like None may = may
  answer_still n h g c a like (Some t) may =
      subst (λ l. r.body t (l ++ (replay cmp n g).published) ≡ Done a) (sym like.told)
      (lawful.done_stays t (told cmp r n h c ++ (replay cmp n h).published)
      (told cmp r n h c ++ (replay cmp n g).published) a may
      (within_behind (told cmp r n h c) (replay cmp n h).published (replay cmp n g).published like.published))

  may_still :
      (n : ℕ) (h further : List (Event K A)) (e : Event K A) → AreOfOthers cmp (caller_of e) further
      → IsAs n h (h ++ further) (caller_of e)
      → IsNoLook cmp r e → MayBe cmp r n h e → MayBe cmp r n (h ++ further) e
  may_still n h further (Ask c k) others like no_look may =
      let same : top cmp r n (h ++ further) c ≡ top cmp r n h c = ap (λ (w : Caller K). last w.chain) like.caller in
      subst (MayAsk cmp r n (h ++ further) c k) (sym same) (next_still n h further c k others like (top cmp r n h c) may)
  may_still n h further (Publish c a) others like no_look may =
      let same : top cmp r n (h ++ further) c ≡ top cmp r n h c = ap (λ (w : Caller K). last w.chain) like.caller in
      subst (MayPublish cmp r n (h ++ further) c a) (sym same)
      (answer_still n h (h ++ further) c a like (top cmp r n h c) may)
  may_still n h further (Look c) others like no_look may = absurd no_look
  may_still n h further (Abandon c) others like no_look may = tt

  pub unmoved_by_others : UnmovedByOthers cmp r
  unmoved_by_others n h further c l legal longer same = record {
    legal = λ e own no_look next.
        let others : AreOfOthers cmp (caller_of e) further =
        subst (λ d. AreOfOthers cmp d further) (sym own) (of_others c h further same) in
        let like : IsAs n h (h ++ further) (caller_of e) =
        subst (IsAs n h (h ++ further)) (sym own) (as_before n h further c longer l (of_others c h further same)) in
        let m : MayFollow cmp r n h e = legal_last cmp r n h e next in
        let long : length (replay cmp n h).callers ≡ length (replay cmp n (h ++ further)).callers =
        all_length cmp (opening n) h ∙ sym (all_length cmp (opening n) (h ++ further)) in
        legal_snoc cmp r n (h ++ further) e longer record {
          fits = record {
            least = m.fits.least;
            greatest = subst (λ z. caller_of e ≤ z) long m.fits.greatest;
            allowed = subst (λ w. FitsCaller cmp w e) (sym like.caller) m.fits.allowed;
          };
          may = may_still n h further e others like no_look m.may;
        };
    same = (as_before n h further c longer l (of_others c h further same)).caller;
  }
