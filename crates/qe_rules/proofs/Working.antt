-- What a worker keeps.
use Rattle.std.proofs.Common.{◌≡◌, ◌⊎◌, inl, inr, ℕ, suc, ◌+◌, ◌-◌, ◌*◌, ◌<◌, List, [], ◌∷◌, ◌++◌, length, None, refl, sym, ◌∙◌, ap, subst, arith}
use Rattle.std.specs.Cmp.{IsTotalOrder}
use Rattle.std.specs.declared.cmp.Ordering.{Ordering}
use Rattle.def_query.specs.Answer.{IsCorrect}
use Rattle.def_query.specs.Keys.{IsIn, AreDistinct, IsPath, Reaches, IsWalk}
use Rattle.def_query.specs.Lawful.{IsLawful}
use Rattle.def_query.specs.Map.{get}
use Rattle.def_query.specs.Meaning.{Meaning}
use Rattle.def_query.specs.Settles.{Depends}
use Rattle.def_query.proofs.Correct.{correct_cons}
use Rattle.def_query.proofs.Maps.{get_here, get_there, has_or_lacks, not_both, within_cons, get_cases}
use Rattle.def_query.proofs.Runs.{lacks_cons}
use Rattle.def_query.proofs.Walks.{Without, take_out, path_push, path_front, path_reaches, distinct_push, distinct_front, distinct_apart, in_append_left, in_append_right, in_append_cases}
use Rattle.qe_rules.specs.Known.{IsSameMap}
use Rattle.qe_rules.specs.Worker.{IsKnown, IsClosed, IsPut, Advances, IsWorking}
use Rattle.qe_rules.proofs.Lists.{length_snoc}

module _ {K A : Type 0} (cmp : K → K → Ordering) (total : IsTotalOrder cmp) (r : Meaning K A) (lawful : IsLawful cmp r) where
  pub start : (key : K) (m : List (K × A)) → IsCorrect cmp r m → get cmp m key ≡ None → IsWorking cmp r key m m (key ∷ [])
  start key m correct lacks =
      let w : Without key (r.bound key) = take_out key (r.bound key) (lawful.bound_has key) in
      record {
        correct = correct;
        keeps = λ k a h. h;
        chained = record {
          path = tt;
          distinct = ((λ h. h), tt);
          unknown = λ k i. elim i [ inl e ↦ ap (get cmp m) e ∙ lacks | inr n ↦ absurd n ];
        };
        begun = inr ([], refl);
        gained = λ k h l. absurd (not_both cmp total lawful.one_key m k h.0 h.1 l);
        around = λ k y h l d. absurd (not_both cmp total lawful.one_key m k h.0 h.1 l);
        rest = w.rest;
        left = λ k i _ out. w.keeps k (λ e. out (inl e)) i;
        count = (let s : length (r.bound key) ≡ suc (length w.rest) = w.shorter in omega arith);
      }

  -- all that a key leads to lies within its bound
  bound_reaches : (key y : K) → Reaches (Depends cmp r) key y → IsIn y (r.bound key)
  bound_reaches key y (inl e) = subst (λ z. IsIn z (r.bound key)) e (lawful.bound_has key)
  bound_reaches key y (inr w) = go key w.0 w.1 (lawful.bound_has key)
    where
      go : (x : K) (zs : List K) → IsWalk (Depends cmp r) x (zs ++ y ∷ []) → IsIn x (r.bound key) → IsIn y (r.bound key)
      go x [] v i = lawful.bound_closed key x y i v.0
      go x (z ∷ zs) v i = go z zs v.1 (lawful.bound_closed key x z i v.0)

  no_last : (xs : List K) (x : K) → xs ++ x ∷ [] ≡ [] → ⊥
  no_last [] x e = cc
  no_last (y ∷ xs) x e = cc

  begun_with :
      (key : K) (m n : List (K × A)) (chain before : List K) (top : K) → IsWorking cmp r key m n chain
      → chain ≡ before ++ top ∷ [] → (behind : List K) × (chain ≡ key ∷ behind)
  begun_with key m n chain before top w was =
      elim w.begun [
        | inl h ↦ absurd (no_last before top (sym was ∙ h.0))
        | inr h ↦ h
      ]

  -- a key of the chain is one that the asked key leads to
  chain_reaches : (key : K) (m n : List (K × A)) (chain : List K) → IsWorking cmp r key m n chain → (behind : List K) → chain ≡ key ∷ behind → (k : K) → IsIn k chain → Reaches (Depends cmp r) key k
  chain_reaches key m n chain w behind e k i =
      path_reaches (Depends cmp r) key behind k (subst (IsPath (Depends cmp r)) e w.chained.path) (subst (IsIn k) e i)

  pushed :
      (key : K) (m n : List (K × A)) (chain before : List K) (top need : K)
      → IsWorking cmp r key m n chain → chain ≡ before ++ top ∷ [] → Depends cmp r top need
      → ¬ IsIn need chain → get cmp n need ≡ None
      → IsWorking cmp r key m n (chain ++ need ∷ [])
  pushed key m n chain before top need w was d new lacks =
      let b = begun_with key m n chain before top w was in
      let reach : Reaches (Depends cmp r) key top = chain_reaches key m n chain w b.0 b.1 top (subst (IsIn top) (sym was) (in_append_right top before (top ∷ []) (inl refl))) in
      let bound : IsIn need (r.bound key) = lawful.bound_closed key top need (bound_reaches key top reach) d in
      let t : Without need w.rest = take_out need w.rest (w.left need bound lacks new) in
      record {
        correct = w.correct;
        keeps = w.keeps;
        chained = record {
          path = subst (λ l. IsPath (Depends cmp r) (l ++ need ∷ [])) (sym was) (path_push (Depends cmp r) before top need (subst (IsPath (Depends cmp r)) was w.chained.path) d);
          distinct = distinct_push chain need w.chained.distinct new;
          unknown = λ k i. elim (in_append_cases k chain (need ∷ []) i) [
            | inl j ↦ w.chained.unknown k j
            | inr j ↦ elim j [ inl e ↦ ap (get cmp n) e ∙ lacks | inr z ↦ absurd z ]
          ];
        };
        begun = inr (b.0 ++ need ∷ [], ap (λ l. l ++ need ∷ []) b.1);
        gained = w.gained;
        around = λ k y h l e. elim (w.around k y h l e) [
          | inl f ↦ inl f
          | inr f ↦ inr (in_append_left y chain (need ∷ []) f)
        ];
        rest = t.rest;
        left = λ k i u out.
            t.keeps k (λ e. out (in_append_right k chain (need ∷ []) (inl e)))
            (w.left k i u (λ j. out (in_append_left k chain (need ∷ []) j)));
        count = (
            let s : length w.rest ≡ suc (length t.rest) = t.shorter in
            let l : length (chain ++ need ∷ []) ≡ length chain + 1 = length_snoc chain need in
            let c = w.count in
            omega arith);
      }

  -- maps with the same answers
  known_same : (m n : List (K × A)) (k : K) → IsSameMap cmp m n → IsKnown cmp r n k → IsKnown cmp r m k
  known_same m n k s h = (h.0, s k ∙ h.1)

  -- what one more answer makes known
  pub known_more : (m n : List (K × A)) (top k : K) (a : A) → IsSameMap cmp n ((top, a) ∷ m) → get cmp m top ≡ None → IsKnown cmp r m k → IsKnown cmp r n k
  known_more m n top k a s l h = (h.0, s k ∙ within_cons cmp total lawful.one_key top a m l k h.0 h.1)

  pub known_top : (m n : List (K × A)) (top : K) (a : A) → IsSameMap cmp n ((top, a) ∷ m) → IsKnown cmp r n top
  known_top m n top a s = (a, s top ∙ get_here cmp total lawful.one_key top a m)

  known_cases : (m n : List (K × A)) (top k : K) (a : A) → IsSameMap cmp n ((top, a) ∷ m) → IsKnown cmp r n k → (k ≡ top) ⊎ IsKnown cmp r m k
  known_cases m n top k a s h =
      elim (get_cases cmp total lawful.one_key top k a h.0 m (sym (s k) ∙ h.1)) [
        | inl e ↦ inl e.0
        | inr g ↦ inr (h.0, g)
      ]

  begun_put :
      (key : K) (n' : List (K × A)) (chain next behind : List K) (top : K)
      → chain ≡ key ∷ behind → chain ≡ next ++ top ∷ [] → IsKnown cmp r n' top
      → ((next ≡ []) × IsKnown cmp r n' key) ⊎ ((behind : List K) × (next ≡ key ∷ behind))
  begun_put key n' chain [] behind top e f h =
      let g : top ∷ [] ≡ key ∷ behind = sym f ∙ e in
      let k : top ≡ key = cc in
      inl (refl, subst (IsKnown cmp r n') k h)
  begun_put key n' chain (x ∷ next) behind top e f h =
      let g : x ∷ (next ++ top ∷ []) ≡ key ∷ behind = sym f ∙ e in
      let k : x ≡ key = cc in
      inr (next, ap (λ z. z ∷ next) k)

  put :
      (key : K) (m n n' : List (K × A)) (chain next : List K)
      → IsWorking cmp r key m n chain → IsPut cmp r n chain n' next → IsWorking cmp r key m n' next
  put key m n n' chain next w p =
      let top = p.taken.top in
      let was : chain ≡ next ++ top ∷ [] = p.taken.was in
      let same : IsSameMap cmp n' ((top, p.answer) ∷ n) = p.taken.gains in
      let b = begun_with key m n chain next top w was in
      let isin : IsIn top chain = subst (IsIn top) (sym was) (in_append_right top next (top ∷ []) (inl refl)) in
      let lacks : get cmp n top ≡ None = w.chained.unknown top isin in
      let reach : Reaches (Depends cmp r) key top = chain_reaches key m n chain w b.0 b.1 top isin in
      let correct = correct_cons cmp total r lawful n top p.answer w.correct p.answers in
      let distinct : AreDistinct (next ++ top ∷ []) = subst AreDistinct was w.chained.distinct in
      record {
        correct = λ k a h. correct k a (sym (same k) ∙ h);
        keeps = λ k a h. same k ∙ within_cons cmp total lawful.one_key top p.answer n lacks k a (w.keeps k a h);
        chained = record {
          path = path_front (Depends cmp r) next (top ∷ []) (subst (IsPath (Depends cmp r)) was w.chained.path);
          distinct = distinct_front next (top ∷ []) distinct;
          unknown = λ k i.
              same k
              ∙ (get_there cmp total lawful.one_key top k p.answer n (λ e. distinct_apart next top distinct (subst (λ z. IsIn z next) e i))
              ∙ w.chained.unknown k (subst (IsIn k) (sym was) (in_append_left k next (top ∷ []) i)));
        };
        begun = begun_put key n' chain next b.0 top b.1 was (known_top n n' top p.answer same);
        gained = λ k h l. elim (known_cases n n' top k p.answer same h) [
          | inl e ↦ subst (Reaches (Depends cmp r) key) (sym e) reach
          | inr g ↦ w.gained k g l
        ];
        around = λ k y h l d. elim (known_cases n n' top k p.answer same h) [
          | inl e ↦ p.around y (subst (λ z. Depends cmp r z y) e d)
          | inr g ↦ elim (w.around k y g l d) [
            | inl q ↦ inl (known_more n n' top y p.answer same lacks q)
            | inr q ↦ elim (in_append_cases y next (top ∷ []) (subst (IsIn y) was q)) [
              | inl i ↦ inr i
              | inr i ↦ elim i [
                | inl e ↦ inl (subst (IsKnown cmp r n') (sym e) (known_top n n' top p.answer same))
                | inr z ↦ absurd z
              ]
            ]
          ]
        ];
        rest = w.rest;
        left = λ k i u out.
            let f = lacks_cons cmp total r lawful top k p.answer n (sym (same k) ∙ u) in
            w.left k i f.1 (λ j. elim (in_append_cases k next (top ∷ []) (subst (IsIn k) was j)) [
              | inl q ↦ out q
              | inr q ↦ elim q [ inl e ↦ f.0 e | inr z ↦ z ]
            ]);
        count = (
            let l : length chain ≡ length next + 1 = ap length was ∙ length_snoc next top in
            let o : length n' ≡ length n + 1 = p.taken.one in
            let c = w.count in
            omega arith);
      }

  -- a worker goes on
  pub advanced :
      (key : K) (m n n' : List (K × A)) (chain next : List K)
      → IsWorking cmp r key m n chain → Advances cmp r n chain n' next → IsWorking cmp r key m n' next
  advanced key m n n' chain next w (inl p) =
      subst (λ z. IsWorking cmp r key m z next) (sym p.same)
      (subst (IsWorking cmp r key m n) (sym p.becomes) (pushed key m n chain p.before p.top p.need w p.was p.depends p.new p.unknown))
  advanced key m n n' chain next w (inr p) = put key m n n' chain next w p

  -- how much there is to do
  abbrev pub work_left : K → List (K × A) → List (K × A) → List K → ℕ
  work_left key m n chain = 2 * (length (r.bound key) + length m - length n) - length chain

  pub less_left :
      (key : K) (m n n' : List (K × A)) (chain next : List K)
      → IsWorking cmp r key m n chain → Advances cmp r n chain n' next
      → work_left key m n' next < work_left key m n chain
  less_left key m n n' chain next w (inl p) =
      let l : length next ≡ length chain + 1 = ap length p.becomes ∙ length_snoc chain p.need in
      let s : length chain ≡ length p.before + 1 = ap length p.was ∙ length_snoc p.before p.top in
      let e : length n' ≡ length n = ap length p.same in
      let c = w.count in
      omega arith
  less_left key m n n' chain next w (inr p) =
      let l : length chain ≡ length next + 1 = ap length p.taken.was ∙ length_snoc next p.taken.top in
      let o : length n' ≡ length n + 1 = p.taken.one in
      let c = w.count in
      omega arith

  -- a worker whose chain is empty has the key
  pub ended : (key : K) (m n : List (K × A)) → IsWorking cmp r key m n [] → IsKnown cmp r n key
  ended key m n w =
      elim w.begun [
        | inl h ↦ h.1
        | inr h ↦ absurd (let e : [] ≡ key ∷ h.0 = h.1 in cc)
      ]

  pub ended_closed : (key : K) (m n : List (K × A)) → IsWorking cmp r key m n [] → IsClosed cmp r m → IsClosed cmp r n
  ended_closed key m n w closed k y h d =
      elim (has_or_lacks cmp total lawful.one_key m k) [
        | inl g ↦ (let f = closed k y g d in (f.0, w.keeps y f.0 f.1))
        | inr l ↦ elim (w.around k y h l d) [ inl f ↦ f | inr z ↦ absurd z ]
      ]
