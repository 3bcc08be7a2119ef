-- Histories: their parts, and the state, the steps and the roots after one more event.
use Rattle.std.proofs.Common.{◌≡◌, ◌≢◌, ℕ, cond, ◌==◌, List, [], ◌∷◌, ◌++◌, filter, refl, sym, ◌∙◌, ap, subst, eq-eqb, ne_eqb}
use Rattle.std.specs.declared.cmp.Ordering.{Ordering}
use Rattle.std.proofs.lemmas.List.Elements.{filter-append}
use Rattle.def_query.specs.Meaning.{Meaning}
use Rattle.def_core.specs.declared.event.Event.{Event}
use Rattle.def_core.specs.declared.outcome.Outcome.{Outcome}
use Rattle.def_core.specs.State.{State, opening, last}
use Rattle.def_core.specs.Replay.{caller_of, outcome, after, replay_from, replay, steps_from, steps}
use Rattle.def_core.specs.Legal.{steps_of, pair_of, pair_of_last, told, MayFollow, Legal}
use Rattle.def_core.proofs.RootKeys.{root_of, roots_from, roots}
use Rattle.def_core.proofs.Lists.{append_nil, append_more, last_snoc}

module _ {X : Type 0} where
  -- what holds of the empty list, and of each list with one more element at its end, holds of every list
  pub grown : (P : List X → Type 0) → P [] → ((xs : List X) (x : X) → P xs → P (xs ++ x ∷ [])) → (xs : List X) → P xs
  grown P base step xs = go [] xs base
    where
      go : (front rest : List X) → P front → P (front ++ rest)
      go front [] h = subst P (sym (append_nil front)) h
      go front (x ∷ rest) h = subst P (append_more front (x ∷ []) rest) (go (front ++ x ∷ []) rest (step front x h))

  -- an element of two lists one after the other stands in the first or in the second
  pub data Parts (h further before : List X) (e : X) (behind : List X) : Type 0 where
    InFront : (rest : List X) → behind ≡ rest ++ further → h ≡ before ++ e ∷ rest → Parts h further before e behind
    InBack : (more : List X) → further ≡ more ++ e ∷ behind → before ≡ h ++ more → Parts h further before e behind

  pub parts :
      (h further before : List X) (e : X) (behind : List X) → h ++ further ≡ before ++ e ∷ behind
      → Parts h further before e behind
  parts [] further before e behind s = InBack before s refl
  parts (x ∷ h) further [] e behind s =
      let s' : x ∷ (h ++ further) ≡ e ∷ behind = s in
      InFront h (let f : behind ≡ h ++ further = cc in f) (let f : x ∷ h ≡ e ∷ h = cc in f)
  parts (x ∷ h) further (b ∷ before) e behind s =
      let s' : x ∷ (h ++ further) ≡ b ∷ (before ++ e ∷ behind) = s in
      let f : h ++ further ≡ before ++ e ∷ behind = cc in
      let g : x ≡ b = cc in
      elim (parts h further before e behind f) [
        | InFront rest i j ↦ InFront rest i (let k : x ∷ h ≡ b ∷ (before ++ e ∷ rest) = cc in k)
        | InBack more i j ↦ InBack more i (let k : b ∷ before ≡ x ∷ (h ++ more) = cc in k)
      ]

  pub no_mid : (xs : List X) (x : X) (ys : List X) → [] ≡ xs ++ x ∷ ys → ⊥
  no_mid [] x ys e = cc
  no_mid (z ∷ xs) x ys e = cc

  -- an element of a list and one more is of the list, or is the last one
  pub data Split (h : List X) (x : X) (before : List X) (e : X) (behind : List X) : Type 0 where
    Within : (rest : List X) → behind ≡ rest ++ x ∷ [] → h ≡ before ++ e ∷ rest → Split h x before e behind
    AtEnd : behind ≡ [] → before ≡ h → e ≡ x → Split h x before e behind

  pub split :
      (h : List X) (x : X) (before : List X) (e : X) (behind : List X) → h ++ x ∷ [] ≡ before ++ e ∷ behind
      → Split h x before e behind
  split h x before e behind s =
      elim (parts h (x ∷ []) before e behind s) [
        | InFront rest i j ↦ Within rest i j
        | InBack more i j ↦ at_end more i j
      ]
    where
      at_end : (more : List X) → x ∷ [] ≡ more ++ e ∷ behind → before ≡ h ++ more → Split h x before e behind
      at_end [] i j = AtEnd (let f : behind ≡ [] = cc in f) (j ∙ append_nil h) (let f : e ≡ x = cc in f)
      at_end (z ∷ more) i j =
          let i' : x ∷ [] ≡ z ∷ (more ++ e ∷ behind) = i in
          absurd (no_mid more e behind (let f : [] ≡ more ++ e ∷ behind = cc in f))

module _ {K A : Type 0} (cmp : K → K → Ordering) where
  replay_more :
      (s : State K A) (h g : List (Event K A)) → replay_from cmp s (h ++ g) ≡ replay_from cmp (replay_from cmp s h) g
  replay_more s [] g = refl
  replay_more s (e ∷ h) g = replay_more (after cmp s e) h g

  pub replay_snoc :
      (n : ℕ) (h : List (Event K A)) (e : Event K A) → replay cmp n (h ++ e ∷ []) ≡ after cmp (replay cmp n h) e
  replay_snoc n h e = replay_more (opening n) h (e ∷ [])

  steps_more :
      (s : State K A) (h : List (Event K A)) (e : Event K A)
      → steps_from cmp s (h ++ e ∷ []) ≡ steps_from cmp s h ++ (e, outcome cmp (replay_from cmp s h) e) ∷ []
  steps_more s [] e = refl
  steps_more s (x ∷ h) e = ap (λ l. (x, outcome cmp s x) ∷ l) (steps_more (after cmp s x) h e)

  roots_more :
      (r : Meaning K A) (s : State K A) (h : List (Event K A)) (e : Event K A)
      → roots_from cmp r s (h ++ e ∷ []) ≡ roots_from cmp r s h ++ root_of cmp r (replay_from cmp s h) e
  roots_more r s [] e = append_nil (root_of cmp r s e)
  roots_more r s (x ∷ h) e =
      ap (λ l. root_of cmp r s x ++ l) (roots_more r (after cmp s x) h e)
      ∙ sym (append_more (root_of cmp r s x) (roots_from cmp r (after cmp s x) h)
      (root_of cmp r (replay_from cmp (after cmp s x) h) e))

  pub roots_snoc :
      (r : Meaning K A) (n : ℕ) (h : List (Event K A)) (e : Event K A)
      → roots cmp r n (h ++ e ∷ []) ≡ roots cmp r n h ++ root_of cmp r (replay cmp n h) e
  roots_snoc r n h e = roots_more r (opening n) h e

  module _ (r : Meaning K A) where
    steps_of_snoc :
        (n : ℕ) (h : List (Event K A)) (e : Event K A) (c : ℕ)
        → steps_of cmp r n (h ++ e ∷ []) c
        ≡ steps_of cmp r n h c ++ cond (caller_of e == c) ((e, outcome cmp (replay cmp n h) e) ∷ []) []
    steps_of_snoc n h e c =
        ap (filter (λ (s : Event K A × Outcome (List K)). caller_of s.0 == c)) (steps_more (opening n) h e)
        ∙ filter-append (λ (s : Event K A × Outcome (List K)). caller_of s.0 == c) (steps cmp n h)
        ((e, outcome cmp (replay cmp n h) e) ∷ [])

    -- what another caller does tells this one nothing
    pub told_other :
        (n : ℕ) (h : List (Event K A)) (e : Event K A) (c : ℕ) → caller_of e ≢ c
        → told cmp r n (h ++ e ∷ []) c ≡ told cmp r n h c
    told_other n h e c apart =
        ap (λ l. pair_of_last cmp r (last l))
        (steps_of_snoc n h e c
        ∙ (ap (λ b. steps_of cmp r n h c ++ cond b ((e, outcome cmp (replay cmp n h) e) ∷ []) [])
        (ne_eqb (caller_of e) c apart)
        ∙ append_nil (steps_of cmp r n h c)))

    pub told_own :
        (n : ℕ) (h : List (Event K A)) (e : Event K A) (c : ℕ) → caller_of e ≡ c
        → told cmp r n (h ++ e ∷ []) c ≡ pair_of cmp r e (outcome cmp (replay cmp n h) e)
    told_own n h e c same =
        ap (λ l. pair_of_last cmp r (last l))
        (steps_of_snoc n h e c
        ∙ ap (λ b. steps_of cmp r n h c ++ cond b ((e, outcome cmp (replay cmp n h) e) ∷ []) [])
        (eq-eqb (caller_of e) c same))
        ∙ ap (pair_of_last cmp r) (last_snoc (steps_of cmp r n h c) (e, outcome cmp (replay cmp n h) e))

    -- legal histories
    pub legal_front : (n : ℕ) (h g : List (Event K A)) → Legal cmp r n (h ++ g) → Legal cmp r n h
    legal_front n h g legal before e behind s =
        legal before e (behind ++ g) (ap (λ l. l ++ g) s ∙ append_more before (e ∷ behind) g)

    pub legal_last : (n : ℕ) (h : List (Event K A)) (e : Event K A) → Legal cmp r n (h ++ e ∷ []) → MayFollow cmp r n h e
    legal_last n h e legal = legal h e [] refl

    pub legal_snoc :
        (n : ℕ) (h : List (Event K A)) (e : Event K A) → Legal cmp r n h → MayFollow cmp r n h e
        → Legal cmp r n (h ++ e ∷ [])
    legal_snoc n h e legal may before x behind s =
        elim (split h e before x behind s) [
          | Within rest i j ↦ legal before x rest j
          | AtEnd i j k ↦
              subst (λ b. MayFollow cmp r n b x) (sym j) (subst (MayFollow cmp r n h) (sym k) may)
        ]

    -- what holds at the start, and after each event that may follow, holds after every legal history
    pub always :
        (n : ℕ) (P : List (Event K A) → Type 0) → P []
        → ((h : List (Event K A)) (e : Event K A) → Legal cmp r n h → P h → MayFollow cmp r n h e → P (h ++ e ∷ []))
        → (h : List (Event K A)) → Legal cmp r n h → P h
    always n P base step h =
        grown (λ g. Legal cmp r n g → P g) (λ legal. base)
        (λ g e ih legal.
        let l = legal_front n g (e ∷ []) legal in
        step g e l (ih l) (legal_last n g e legal)) h
