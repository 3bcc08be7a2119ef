-- The line of a caller: its chain, and then what it waits for. Current needs follow one another in lines.
use Rattle.std.proofs.Common.{◌≡◌, ◌≢◌, ◌⊎◌, inl, inr, ℕ, ◌-◌, ◌<◌, ◌≤◌, Bool, true, false, List, [], ◌∷◌, ◌++◌, length, get_or, Option, Some, None, IsSome, is_some, option_to_list, refl, sym, ◌∙◌, ap, subst, arith, eqb, eqb-true, get_or-set_same, get_or-set_other, suc, zero}
use Rattle.std.specs.Cmp.{IsTotalOrder}
use Rattle.std.specs.declared.cmp.Ordering.{Ordering}
use Rattle.std.specs.declared.cmp.Ordering.TheVariants.{Equal}
use Rattle.std.proofs.lemmas.Bool.{eqb-false}
use Rattle.def_query.specs.Keys.{IsIn, AreDistinct, IsPath}
use Rattle.def_query.proofs.Walks.{Place, place_of, path_from, path_push}
use Rattle.def_core.specs.State.{Caller, caller_at, with_caller, idle, claimed, last, without_last}
use Rattle.def_core.specs.Needs.{need, first}
use Rattle.def_core.proofs.Lists.{append_nil, append_more, last_snoc, last_some, last_none, in_mid}
use Rattle.def_core.proofs.Chains.{claimed_holds, need_at}
use Rattle.def_core.proofs.Paths.{need_claimed}
use Rattle.def_core.proofs.Histories.{InFront, InBack, parts, Within, AtEnd, split, no_mid}

pub same_or_apart : (i j : ℕ) → (i ≡ j) ⊎ (i ≢ j)
same_or_apart i j = go (eqb i j) refl
  where
    go : (b : Bool) → eqb i j ≡ b → (i ≡ j) ⊎ (i ≢ j)
    go true e = inl (eqb-true i j e)
    go false e = inr (eqb-false i j e)

module _ {X : Type 0} where
  pub some_or_none : (o : Option X) → ((x : X) × (o ≡ Some x)) ⊎ (o ≡ None)
  some_or_none (Some x) = inl (x, refl)
  some_or_none None = inr refl

  pub is_there : (o : Option X) (x : X) → o ≡ Some x → IsSome o
  is_there o x e = ap is_some e

  pub not_none : (o : Option X) → IsSome o → o ≡ None → ⊥
  not_none o h e = let f : false ≡ true = sym (ap is_some e) ∙ h in cc

  pub no_more : (x : X) (xs : List X) → x ∷ xs ≡ [] → ⊥
  no_more x xs e = cc

  -- y stands directly behind x
  pub record Follows (l : List X) (x y : X) : Type 0 where
    pub before : List X
    pub behind : List X
    pub is : l ≡ before ++ x ∷ y ∷ behind

  pub follows_front : (l g : List X) (x y : X) → Follows l x y → Follows (l ++ g) x y
  follows_front l g x y f = record {
    before = f.before;
    behind = f.behind ++ g;
    is = ap (λ w. w ++ g) f.is ∙ append_more f.before (x ∷ y ∷ f.behind) g;
  }

  pub follows_push : (l : List X) (k x y : X) → Follows (l ++ k ∷ []) x y → Follows l x y ⊎ ((last l ≡ Some x) × (y ≡ k))
  follows_push l k x y f =
      elim (split l k f.before x (y ∷ f.behind) f.is) [
        | AtEnd i _ _ ↦ absurd (let j : y ∷ f.behind ≡ [] = i in cc)
        | Within rest i j ↦ go rest i j
      ]
    where
      go :
          (rest : List X) → y ∷ f.behind ≡ rest ++ k ∷ [] → l ≡ f.before ++ x ∷ rest
          → Follows l x y ⊎ ((last l ≡ Some x) × (y ≡ k))
      go [] i j = inr (ap last j ∙ last_snoc f.before x, (let i' : y ∷ f.behind ≡ k ∷ [] = i in cc))
      go (z ∷ rest) i j =
          let i' : y ∷ f.behind ≡ z ∷ (rest ++ k ∷ []) = i in
          let e : z ≡ y = cc in
          inl record { before = f.before; behind = rest; is = j ∙ ap (λ w. f.before ++ x ∷ w ∷ rest) e }

  pub follows_last : (l : List X) (x k : X) → last l ≡ Some x → Follows (l ++ k ∷ []) x k
  follows_last l x k e =
      record {
        before = without_last l;
        behind = [];
        is = ap (λ w. w ++ k ∷ []) (last_some l x e) ∙ append_more (without_last l) (x ∷ []) (k ∷ []);
      }

  pub follows_path : (R : X → X → Type 0) (l : List X) (x y : X) → IsPath R l → Follows l x y → R x y
  follows_path R l x y p f = (path_from R f.before x (y ∷ f.behind) (subst (IsPath R) f.is p)).0

  pub follows_in : (l : List X) (x y : X) → Follows l x y → IsIn x l
  follows_in l x y f = subst (IsIn x) (sym f.is) (in_mid f.before x (y ∷ f.behind))

  -- a path to which what its last element is related to is added
  pub path_grows :
      (R : X → X → Type 0) (l : List X) (k : X) → IsPath R l → ((t : X) → last l ≡ Some t → R t k)
      → IsPath R (l ++ k ∷ [])
  path_grows R l k p f = go (last l) refl
    where
      go : (o : Option X) → last l ≡ o → IsPath R (l ++ k ∷ [])
      go None e = subst (λ w. IsPath R (w ++ k ∷ [])) (sym (last_none l e)) tt
      go (Some t) e =
          let s = last_some l t e in
          subst (λ w. IsPath R (w ++ k ∷ [])) (sym s)
          (path_push R (without_last l) t k (subst (IsPath R) s p) (f t e))

module _ {K : Type 0} where
  abbrev pub line : Caller K → List K
  line c = c.chain ++ option_to_list c.awaits

  pub line_awake : (c : Caller K) → c.awaits ≡ None → line c ≡ c.chain
  line_awake c e = ap (λ o. c.chain ++ option_to_list o) e ∙ append_nil c.chain

  pub line_waits : (c : Caller K) (k : K) → c.awaits ≡ Some k → line c ≡ c.chain ++ k ∷ []
  line_waits c k e = ap (λ o. c.chain ++ option_to_list o) e

  -- who has claimed a key is one of the callers
  pub in_range : (callers : List (Caller K)) (i : ℕ) (k : K) → IsIn k (get_or callers i idle).chain → i < length callers
  in_range [] i k h = absurd h
  in_range (c ∷ callers) zero k h = omega arith
  in_range (c ∷ callers) (suc i) k h = let w = in_range callers i k h in omega arith

  awaits_short :
      (o : Option K) (more : List K) (x y : K) (behind : List K) → option_to_list o ≡ more ++ x ∷ y ∷ behind → ⊥
  awaits_short None more x y behind e = no_mid more x (y ∷ behind) e
  awaits_short (Some k) [] x y behind e = let f : k ∷ [] ≡ x ∷ y ∷ behind = e in cc
  awaits_short (Some k) (z ∷ more) x y behind e =
      let f : k ∷ [] ≡ z ∷ (more ++ x ∷ y ∷ behind) = e in
      no_mid more x (y ∷ behind) (let g : [] ≡ more ++ x ∷ y ∷ behind = cc in g)

  -- callers by number
  pub own_caller :
      (callers : List (Caller K)) (c : ℕ) (next : Caller K) → c - 1 < length callers
      → caller_at (with_caller callers c next) c ≡ next
  own_caller callers c next h = get_or-set_same callers (c - 1) next idle h

  pub other_caller :
      (callers : List (Caller K)) (c d : ℕ) (next : Caller K) → 1 ≤ c → 1 ≤ d → c ≢ d
      → caller_at (with_caller callers c next) d ≡ caller_at callers d
  other_caller callers c d next h g apart =
      get_or-set_other callers (c - 1) (d - 1) next idle (λ e. apart (let f : d - 1 ≡ c - 1 = e in omega arith))

module _ {K : Type 0} (cmp : K → K → Ordering) (total : IsTotalOrder cmp)
    (one_key : (x y : K) → cmp x y ≡ Equal → x ≡ y) where
  first_some : (l : List K) (y : K) → first cmp l ≡ Some y → (rest : List K) × (l ≡ y ∷ rest)
  first_some [] y e = absurd (let f : None ≡ Some y = e in cc)
  first_some (x ∷ xs) y e = (xs, (let f : Some x ≡ Some y = e in let g : x ≡ y = cc in ap (λ w. w ∷ xs) g))

  -- what follows a key in a line is its current need
  pub line_need :
      (callers : List (Caller K)) (i : ℕ) (x y : K) → AreDistinct (claimed callers) → i < length callers
      → Follows (line (get_or callers i idle)) x y → need cmp callers x ≡ Some y
  line_need callers i x y d h f =
      elim (parts (get_or callers i idle).chain (option_to_list (get_or callers i idle).awaits) f.before x
      (y ∷ f.behind) f.is) [
        | InFront rest e g ↦
            need_at cmp total one_key i callers f.before x rest d h g ∙ ap (first cmp) (sym e)
        | InBack more e g ↦ absurd (awaits_short (get_or callers i idle).awaits more x y f.behind e)
      ]

  pub record InLine (callers : List (Caller K)) (x y : K) : Type 0 where
    pub at : ℕ
    pub within : at < length callers
    pub has : IsIn x (get_or callers at idle).chain
    pub follows : Follows (line (get_or callers at idle)) x y

  -- and each current need follows its key in a line
  pub need_line :
      (callers : List (Caller K)) (x y : K) → AreDistinct (claimed callers) → need cmp callers x ≡ Some y
      → InLine callers x y
  need_line callers x y d e =
      let h = claimed_holds callers x (need_claimed cmp total one_key callers x y e) in
      let was : Caller K = get_or callers h.0 idle in
      let p : Place x was.chain = place_of x was.chain h.1.has in
      let f : first cmp (p.after ++ option_to_list was.awaits) ≡ Some y =
      sym (need_at cmp total one_key h.0 callers p.before x p.after d h.1.within p.is) ∙ e in
      let g = first_some (p.after ++ option_to_list was.awaits) y f in
      record {
        at = h.0;
        within = h.1.within;
        has = h.1.has;
        follows = record {
          before = p.before;
          behind = g.0;
          is =
              ap (λ w. w ++ option_to_list was.awaits) p.is
              ∙ (append_more p.before (x ∷ p.after) (option_to_list was.awaits) ∙ ap (λ w. p.before ++ x ∷ w) g.1);
        };
      }
