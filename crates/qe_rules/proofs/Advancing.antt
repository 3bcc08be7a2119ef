-- The ways in which a worker goes on.
use Rattle.std.proofs.Common.{◌≡◌, inl, inr, ℕ, suc, ◌<◌, false, true, List, [], ◌∷◌, ◌++◌, length, take, drop, get_or, map, None, refl, sym, ◌∙◌, subst}
use Rattle.std.specs.Cmp.{IsTotalOrder}
use Rattle.std.specs.Ordering.{is_eq}
use Rattle.std.specs.declared.cmp.Ordering.{Ordering}
use Rattle.std.proofs.lemmas.Cmp.{tied_itself}
use Rattle.def_query.specs.Answer.{Answers, IsCorrect}
use Rattle.def_query.specs.Keys.{IsIn}
use Rattle.def_query.specs.Lawful.{IsLawful}
use Rattle.def_query.specs.Map.{get}
use Rattle.def_query.specs.Meaning.{Meaning}
use Rattle.def_query.specs.Settles.{Depends}
use Rattle.def_query.specs.declared.step.Step.TheVariants.{Needs, Done}
use Rattle.def_query.proofs.Correct.{done_answers, needs_depends, done_closed, stuck_closed}
use Rattle.def_query.proofs.Walks.{in_append_right, in_append_cases}
use Rattle.def_query.specs.declared.step.Step.{Step}
use Rattle.qe_rules.specs.Frame.{Frame, IsResumed, IsStack}
use Rattle.qe_rules.specs.declared.frame.Stage.TheVariants.{Begun}
use Rattle.qe_rules.specs.Worker.{IsKnown, IsChain, IsTaken, IsTurned, Advances}
use Rattle.qe_rules.proofs.Closing.{key_at, lacks_key, need_unsettled, turned_cycle}
use Rattle.qe_rules.proofs.Lists.{same_last, split_at}
use Rattle.qe_rules.proofs.Stacks.{stack_keys, top_within, resumed_body, pop_stack, push_stack}
use Rattle.qe_rules.proofs.Working.{known_more, known_top}

module _ {K A : Type 0} (cmp : K → K → Ordering) (total : IsTotalOrder cmp) (r : Meaning K A) (lawful : IsLawful cmp r)
    (m : List (K × A)) (chain before : List K) (top : K)
    (correct : IsCorrect cmp r m) (chained : IsChain cmp r m chain) (was : chain ≡ before ++ top ∷ []) where
  taken_top : (n : List (K × A)) (next : List K) (a : A) → (t : IsTaken cmp m chain n next a) → top ≡ t.top
  taken_top n next a t = same_last before next top t.top (sym was ∙ t.was)

  lacks_top : (n : List (K × A)) (next : List K) (a : A) → (t : IsTaken cmp m chain n next a) → get cmp m t.top ≡ None
  lacks_top n next a t = chained.unknown t.top (subst (IsIn t.top) (sym t.was) (in_append_right t.top next (t.top ∷ []) (inl refl)))

  -- the body of the last key is done
  pub done_case :
      (n : List (K × A)) (next : List K) (a : A) → r.body top m ≡ Done a → IsTaken cmp m chain n next a
      → Advances cmp r m chain n next
  done_case n next a e t =
      inr record {
        answer = a;
        taken = t;
        answers = subst (λ k. Answers cmp r k a) (taken_top n next a t) (done_answers cmp total r lawful top m a correct e);
        around = λ y d.
            inl (known_more cmp total r lawful m n t.top y a t.gains (lacks_top n next a t)
            (done_closed cmp total r lawful top y m a correct e (subst (λ k. Depends cmp r k y) (sym (taken_top n next a t)) d)));
      }

  -- it needs a key that is not in the chain
  pub push_case :
      (next : List K) (need : K) → r.body top m ≡ Needs need
      → ((j : ℕ) (d : K) → j < length chain → is_eq (cmp (get_or chain j d) need) ≡ false)
      → next ≡ chain ++ need ∷ [] → Advances cmp r m chain m next
  push_case next need e new becomes =
      inl record {
        before = before;
        top = top;
        need = need;
        was = was;
        becomes = becomes;
        depends = needs_depends cmp total r lawful top m need correct e;
        new = lacks_key cmp total lawful.one_key chain need (tied_itself total need) new;
        unknown = lawful.needs_lacking top m need e;
        same = refl;
      }

  -- it needs a key of the chain
  pub close_case :
      (n : List (K × A)) (next : List K) (a : A) (need : K) (at : ℕ)
      → r.body top m ≡ Needs need → at < length chain
      → ((d : K) → is_eq (cmp (get_or chain at d) need) ≡ true)
      → (c : List K) × IsTurned cmp (drop at chain) c × (a ≡ r.circular c)
      → IsTaken cmp m chain n next a
      → Advances cmp r m chain n next
  close_case n next a need at e within tests c t =
      let here = key_at cmp total lawful.one_key chain need at tests in
      let d = needs_depends cmp total r lawful top m need correct e in
      let u = need_unsettled cmp total r lawful chain before top need at was chained.path d within here in
      let cycle = turned_cycle cmp total r lawful chain before top need at was chained.path chained.distinct d within here c.0 c.1 in
      let isin : IsIn need chain =
      subst (λ k. IsIn k chain) (here top)
      (subst (IsIn (get_or chain at top)) (sym (split_at chain at top within))
      (in_append_right (get_or chain at top) (take at chain) (get_or chain at top ∷ drop (suc at) chain) (inl refl))) in
      inr record {
        answer = a;
        taken = t;
        answers = subst (λ k. Answers cmp r k a) (taken_top n next a t) (inr record { cycle = c.0; is_cycle = cycle; told = c.2 });
        around = λ y f.
            elim (stuck_closed cmp total r lawful top need y m correct e u (subst (λ k. Depends cmp r k y) (sym (taken_top n next a t)) f)) [
              | inl h ↦ inl (known_more cmp total r lawful m n t.top y a t.gains (lacks_top n next a t) h)
              | inr same ↦
                  elim (in_append_cases need next (t.top ∷ []) (subst (IsIn need) t.was isin)) [
                    | inl j ↦ inr (subst (λ k. IsIn k next) (sym same) j)
                    | inr j ↦ elim j [
                      | inl g ↦ inl (subst (IsKnown cmp r n) (sym (same ∙ g)) (known_top cmp total r lawful m n t.top a t.gains))
                      | inr z ↦ absurd z
                    ]
                  ]
            ];
      }

-- what one turn of a worker comes to
module _ {K A : Type 0} (cmp : K → K → Ordering) (total : IsTotalOrder cmp) (r : Meaning K A) (lawful : IsLawful cmp r)
    (m : List (K × A)) (keys : List K) (frames rest : List (Frame K A)) (top over : Frame K A)
    (correct : IsCorrect cmp r m) (chained : IsChain cmp r m keys) (stack : IsStack cmp r m frames keys)
    (was : frames ≡ rest ++ top ∷ []) where
  last : keys ≡ map (λ (f : Frame K A). f.key) rest ++ top.key ∷ []
  last = stack_keys cmp total r lawful m frames rest top keys stack was

  lacks : get cmp m top.key ≡ None
  lacks = chained.unknown top.key (subst (IsIn top.key) (sym last) (in_append_right top.key (map (λ (f : Frame K A). f.key) rest) (top.key ∷ []) (inl refl)))

  gives : (s : Step K A) → IsResumed cmp r top m s over → r.body top.key m ≡ s
  gives s h = resumed_body cmp total r lawful top over m s (top_within cmp total r lawful m frames rest top keys stack was) h

  pub done_turn :
      (n : List (K × A)) (next : List K) (a : A) → IsResumed cmp r top m (Done a) over → IsTaken cmp m keys n next a
      → Advances cmp r m keys n next × IsStack cmp r n rest next
  done_turn n next a h t = (
    done_case cmp total r lawful m keys (map (λ (f : Frame K A). f.key) rest) top.key correct chained last n next a (gives (Done a) h) t,
    pop_stack cmp total r lawful m frames rest top keys stack was n next a lacks t,
  )

  pub push_turn :
      (new : Frame K A) (next : List K) (need : K) → IsResumed cmp r top m (Needs need) over
      → ((j : ℕ) (d : K) → j < length keys → is_eq (cmp (get_or keys j d) need) ≡ false)
      → new ≡ record { key = need; read = []; stage = Begun } → next ≡ keys ++ need ∷ []
      → Advances cmp r m keys m next × IsStack cmp r m ((rest ++ over ∷ []) ++ new ∷ []) next
  push_turn new next need h absent begun becomes = (
    push_case cmp total r lawful m keys (map (λ (f : Frame K A). f.key) rest) top.key correct chained last next need (gives (Needs need) h) absent becomes,
    push_stack cmp total r lawful m frames rest top keys stack was over new next need h begun becomes,
  )

  pub close_turn :
      (n : List (K × A)) (next : List K) (a : A) (need : K) (at : ℕ) → IsResumed cmp r top m (Needs need) over
      → at < length keys → ((d : K) → is_eq (cmp (get_or keys at d) need) ≡ true)
      → (c : List K) × IsTurned cmp (drop at keys) c × (a ≡ r.circular c)
      → IsTaken cmp m keys n next a
      → Advances cmp r m keys n next × IsStack cmp r n rest next
  close_turn n next a need at h within tests c t = (
    close_case cmp total r lawful m keys (map (λ (f : Frame K A). f.key) rest) top.key correct chained last n next a need at (gives (Needs need) h) within tests c t,
    pop_stack cmp total r lawful m frames rest top keys stack was n next a lacks t,
  )
