-- What holds of the state after each legal history.
use Rattle.std.proofs.Common.{◌≡◌, ◌⊎◌, inl, inr, ℕ, zero, suc, ◌-◌, ◌<◌, ◌≤◌, List, [], ◌∷◌, ◌++◌, length, replicate, get_or, Some, None, IsSome, option_to_list, refl, sym, subst, get_or-set_same, get_or-set_other}
use Rattle.std.specs.Cmp.{IsTotalOrder}
use Rattle.std.specs.List.{AllByRecursion}
use Rattle.std.specs.declared.cmp.Ordering.{Ordering}
use Rattle.def_query.specs.Answer.{IsCorrect}
use Rattle.def_query.specs.Cycle.{IsCycleOf}
use Rattle.def_query.specs.Keys.{IsPath}
use Rattle.def_query.specs.Lawful.{IsLawful}
use Rattle.def_query.specs.Map.{get}
use Rattle.def_query.specs.Meaning.{Meaning}
use Rattle.def_query.specs.Settles.{Depends}
use Rattle.def_query.proofs.Walks.{path_front}
use Rattle.def_query.proofs.Correct.{correct_cons, done_answers}
use Rattle.def_core.specs.declared.event.Event.{Event}
use Rattle.def_core.specs.State.{Caller, State, opening, caller_at, with_caller, idle, without_last}
use Rattle.def_core.specs.Replay.{caller_of, after, replay}
use Rattle.def_core.specs.Legal.{MayAsk, MayFollow, told, top}
use Rattle.def_core.proofs.Lists.{append_nil, last_some}
use Rattle.def_core.proofs.Lines.{same_or_apart, line, line_awake, line_waits, path_grows}
use Rattle.def_core.proofs.Events.{IsTidy, within}
use Rattle.def_core.proofs.Tidy.{tidy_opening, tidy_after}
use Rattle.def_core.proofs.Effects.{was, Cause, Knows, Circles, Claims, Waits, Publishes, Stops, Drops, effect}

module _ {K A : Type 0} (cmp : K → K → Ordering) (total : IsTotalOrder cmp) (r : Meaning K A)
    (lawful : IsLawful cmp r) where
  -- the published pairs are right, the claimed keys are distinct and unpublished, and each key of a line
  -- depends on the next
  pub record Sound (s : State K A) : Type 0 where
    pub correct : IsCorrect cmp r s.published
    pub tidy : IsTidy cmp s
    pub paths : (i : ℕ) → IsPath (Depends cmp r) (line (get_or s.callers i idle))

  pub all_idle : (n i : ℕ) → get_or {A = Caller K} (replicate n idle) i idle ≡ idle
  all_idle zero i = refl
  all_idle (suc n) zero = refl
  all_idle (suc n) (suc i) = all_idle n i

  pub sound_opening : (n : ℕ) → Sound (opening n)
  sound_opening n = record {
    correct = λ k a h. let h' : None ≡ Some a = h in absurd (cc);
    tidy = tidy_opening cmp total lawful.one_key n;
    paths = λ i. subst (λ c. IsPath (Depends cmp r) (line c)) (sym (all_idle n i)) tt;
  }

  -- the pair that was told is of a key and its cycle; the last key of the chain depends on that key, and
  -- all that it needs before is published
  pub record Telling (n : ℕ) (h : List (Event K A)) (c : ℕ) : Type 0 where
    pub key : K
    pub cycle : List K
    pub is : told cmp r n h c ≡ (key, r.circular cycle) ∷ []
    pub is_cycle : IsCycleOf cmp r key cycle
    pub final : K
    pub is_last : top cmp r n h c ≡ Some final
    pub depends : Depends cmp r final key
    pub earlier : AllByRecursion (λ p. IsSome (get cmp (replay cmp n h).published p.0)) depends.earlier
    pub awake : (caller_at (replay cmp n h).callers c).awaits ≡ None

  pub record Standing (n : ℕ) (h : List (Event K A)) : Type 0 where
    pub sound : Sound (replay cmp n h)
    pub tells : (c : ℕ) → 1 ≤ c → (told cmp r n h c ≡ []) ⊎ Telling n h c

  -- with what was told the published pairs are right too
  pub told_correct :
      (n : ℕ) (h : List (Event K A)) (c : ℕ) → Standing n h → 1 ≤ c
      → IsCorrect cmp r (told cmp r n h c ++ (replay cmp n h).published)
  told_correct n h c st l =
      elim (st.tells c l) [
        | inl e ↦ subst (λ w. IsCorrect cmp r (w ++ (replay cmp n h).published)) (sym e) st.sound.correct
        | inr t ↦
            subst (λ w. IsCorrect cmp r (w ++ (replay cmp n h).published)) (sym t.is)
            (correct_cons cmp total r lawful (replay cmp n h).published t.key (r.circular t.cycle) st.sound.correct
            (inr record { cycle = t.cycle; is_cycle = t.is_cycle; told = refl }))
      ]

  -- the last key of a chain depends on what may be asked
  pub ask_depends :
      (n : ℕ) (h : List (Event K A)) (c : ℕ) (k t : K) → MayAsk cmp r n h c k (top cmp r n h c) → top cmp r n h c ≡ Some t
      → Depends cmp r t k
  ask_depends n h c k t m e = let m' : MayAsk cmp r n h c k (Some t) = subst (MayAsk cmp r n h c k) e m in m'.depends

  -- a line to which a key is added
  asked_path :
      (n : ℕ) (h : List (Event K A)) (e : Event K A) (k : K) → Sound (replay cmp n h)
      → Cause cmp r n h e k
      → IsPath (Depends cmp r) ((was cmp n h e).chain ++ k ∷ [])
  asked_path n h e k sound (inl q) =
      let w : Caller K = was cmp n h e in
      path_grows (Depends cmp r) w.chain k
      (subst (IsPath (Depends cmp r)) (line_awake w q.1) (sound.paths (caller_of e - 1)))
      (λ t g. ask_depends n h (caller_of e) k t q.2 g)
  asked_path n h e k sound (inr q) =
      let w : Caller K = was cmp n h e in
      subst (IsPath (Depends cmp r)) (line_waits w k q.1) (sound.paths (caller_of e - 1))

  -- where one line is replaced by a path, all lines are paths
  paths_changed :
      (callers : List (Caller K)) (c : ℕ) (next : Caller K) → c - 1 < length callers
      → ((i : ℕ) → IsPath (Depends cmp r) (line (get_or callers i idle))) → IsPath (Depends cmp r) (line next)
      → (i : ℕ) → IsPath (Depends cmp r) (line (get_or (with_caller callers c next) i idle))
  paths_changed callers c next h paths p i =
      elim (same_or_apart i (c - 1)) [
        | inl e ↦
            subst (λ j. IsPath (Depends cmp r) (line (get_or (with_caller callers c next) j idle))) (sym e)
            (subst (λ w. IsPath (Depends cmp r) (line w)) (sym (get_or-set_same callers (c - 1) next idle h)) p)
        | inr e ↦
            subst (λ w. IsPath (Depends cmp r) (line w)) (sym (get_or-set_other callers (c - 1) i next idle e)) (paths i)
      ]

  paths_after :
      (n : ℕ) (h : List (Event K A)) (e : Event K A) → Sound (replay cmp n h) → MayFollow cmp r n h e
      → (i : ℕ) → IsPath (Depends cmp r) (line (get_or (after cmp (replay cmp n h) e).callers i idle))
  paths_after n h e sound m =
      elim (effect cmp r n h e m) [
        | Knows _ _ _ _ _ _ is ↦ subst ArePaths (sym is) sound.paths
        | Circles _ _ _ _ _ _ _ is ↦ subst ArePaths (sym is) sound.paths
        | Claims k cause _ is ↦
            subst ArePaths (sym is)
            (change (record { chain = w.chain ++ k ∷ []; awaits = None })
            (subst (IsPath (Depends cmp r)) (sym (append_nil (w.chain ++ k ∷ []))) (asked_path n h e k sound cause)))
        | Waits k _ ask awake may _ is ↦
            subst ArePaths (sym is)
            (change (record { chain = w.chain; awaits = Some k }) (asked_path n h e k sound (inl (ask, awake, may))))
        | Publishes t _ _ _ is_last _ is ↦
            subst ArePaths (sym is)
            (change (record { chain = without_last w.chain; awaits = None })
            (subst (IsPath (Depends cmp r)) (sym (append_nil (without_last w.chain)))
            (path_front (Depends cmp r) (without_last w.chain) (t ∷ [])
            (subst (IsPath (Depends cmp r)) (last_some w.chain t is_last) chain_path))))
        | Stops _ _ _ _ is ↦
            subst ArePaths (sym is)
            (change (record { chain = w.chain; awaits = None })
            (subst (IsPath (Depends cmp r)) (sym (append_nil w.chain)) chain_path))
        | Drops _ is ↦ subst ArePaths (sym is) (change idle tt)
      ]
    where
      ArePaths : State K A → Type 0
      ArePaths s = (i : ℕ) → IsPath (Depends cmp r) (line (get_or s.callers i idle))

      w : Caller K
      w = was cmp n h e

      change :
          (next : Caller K) → IsPath (Depends cmp r) (line next)
          → (i : ℕ)
          → IsPath (Depends cmp r) (line (get_or (with_caller (replay cmp n h).callers (caller_of e) next) i idle))
      change next p =
          paths_changed (replay cmp n h).callers (caller_of e) next (within cmp (replay cmp n h) e m.fits) sound.paths p

      chain_path : IsPath (Depends cmp r) w.chain
      chain_path = path_front (Depends cmp r) w.chain (option_to_list w.awaits) (sound.paths (caller_of e - 1))

  correct_after :
      (n : ℕ) (h : List (Event K A)) (e : Event K A) → Standing n h → MayFollow cmp r n h e
      → IsCorrect cmp r (after cmp (replay cmp n h) e).published
  correct_after n h e st m =
      elim (effect cmp r n h e m) [
        | Knows _ _ _ _ _ _ is ↦ subst (λ s. IsCorrect cmp r s.published) (sym is) st.sound.correct
        | Circles _ _ _ _ _ _ _ is ↦ subst (λ s. IsCorrect cmp r s.published) (sym is) st.sound.correct
        | Claims _ _ _ is ↦ subst (λ s. IsCorrect cmp r s.published) (sym is) st.sound.correct
        | Waits _ _ _ _ _ _ is ↦ subst (λ s. IsCorrect cmp r s.published) (sym is) st.sound.correct
        | Publishes t a _ _ _ may is ↦
            subst (λ s. IsCorrect cmp r s.published) (sym is)
            (correct_cons cmp total r lawful (replay cmp n h).published t a st.sound.correct
            (done_answers cmp total r lawful t (told cmp r n h (caller_of e) ++ (replay cmp n h).published) a
            (told_correct n h (caller_of e) st m.fits.least) may))
        | Stops _ _ _ _ is ↦ subst (λ s. IsCorrect cmp r s.published) (sym is) st.sound.correct
        | Drops _ is ↦ subst (λ s. IsCorrect cmp r s.published) (sym is) st.sound.correct
      ]

  pub sound_after :
      (n : ℕ) (h : List (Event K A)) (e : Event K A) → Standing n h → MayFollow cmp r n h e
      → Sound (after cmp (replay cmp n h) e)
  sound_after n h e st m = record {
    correct = correct_after n h e st m;
    tidy = tidy_after cmp total lawful.one_key (replay cmp n h) e st.sound.tidy m.fits;
    paths = paths_after n h e st.sound m;
  }
