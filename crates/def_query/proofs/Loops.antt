-- Loops of Depends, and the cycles that they are.
use Rattle.std.proofs.Common.{◌≡◌, inl, inr, List, [], ◌∷◌, ◌++◌, refl, sym, ap, subst}
use Rattle.std.specs.Cmp.{IsTotalOrder}
use Rattle.std.specs.declared.cmp.Ordering.{Ordering}
use Rattle.def_query.specs.Keys.{IsWalk, Reaches}
use Rattle.def_query.specs.Meaning.{Meaning}
use Rattle.def_query.specs.Settles.{IsSettled, Depends, Stuck}
use Rattle.def_query.specs.Cycle.{IsCycleOf}
use Rattle.def_query.specs.Lawful.{IsLawful}
use Rattle.def_query.proofs.Walks.{leads_reaches, regroup, turned}
use Rattle.def_query.proofs.Runs.{loop_unsettled, leads_settled}
use Rattle.def_query.proofs.Least.{LeastOf, less_append}

module _ {K A : Type 0} (cmp : K → K → Ordering) (total : IsTotalOrder cmp) (r : Meaning K A) (lawful : IsLawful cmp r) where
  -- a walk to a key that does not settle goes by keys that do not settle
  pub walk_stuck :
      (x : K) (zs : List K) (t : K) → IsWalk (Depends cmp r) x (zs ++ t ∷ []) → ¬ IsSettled cmp r t
      → IsWalk (Stuck cmp r) x (zs ++ t ∷ [])
  walk_stuck x [] t w u = (record { depends = w.0; unsettled = u }, tt)
  walk_stuck x (z ∷ zs) t w u = (
    record { depends = w.0; unsettled = λ s. u (leads_settled cmp total r lawful z t (zs, w.1) s) },
    walk_stuck z zs t w.1 u,
  )

  pub reaches_stuck : (x t : K) → Reaches (Depends cmp r) x t → ¬ IsSettled cmp r t → Reaches (Stuck cmp r) x t
  reaches_stuck x t (inl e) u = inl e
  reaches_stuck x t (inr w) u = inr (w.0, walk_stuck x w.0 t w.1 u)

  pub reaches_settled : (x t : K) → Reaches (Depends cmp r) x t → IsSettled cmp r x → IsSettled cmp r t
  reaches_settled x t (inl e) s = subst (IsSettled cmp r) e s
  reaches_settled x t (inr w) s = leads_settled cmp total r lawful x t w s

  append_nil : (xs : List K) → xs ++ [] ≡ xs
  append_nil [] = refl
  append_nil (x ∷ xs) = ap (λ w. x ∷ w) (append_nil xs)

  -- the keys of a loop, from its least key on
  turned_least :
      (y : K) (after : List K) (before : List K) (key : K) (behind : List K)
      → y ∷ after ≡ before ++ key ∷ behind
      → IsWalk (Depends cmp r) y (after ++ y ∷ [])
      → IsWalk (Depends cmp r) key ((behind ++ before) ++ key ∷ []) × Reaches (Depends cmp r) y key
  turned_least y after [] key behind e w =
      let e1 : y ≡ key = cc in
      let e2 : after ≡ behind = cc in
      let w1 : IsWalk (Depends cmp r) key (after ++ key ∷ []) = subst (λ z. IsWalk (Depends cmp r) z (after ++ z ∷ [])) e1 w in
      let w2 : IsWalk (Depends cmp r) key (behind ++ key ∷ []) = subst (λ l. IsWalk (Depends cmp r) key (l ++ key ∷ [])) e2 w1 in
      (subst (λ l. IsWalk (Depends cmp r) key (l ++ key ∷ [])) (sym (append_nil behind)) w2, inl e1)
  turned_least y after (b ∷ bs) key behind e w =
      let e1 : y ≡ b = cc in
      let e2 : after ≡ bs ++ key ∷ behind = cc in
      let w1 : IsWalk (Depends cmp r) b (after ++ b ∷ []) = subst (λ z. IsWalk (Depends cmp r) z (after ++ z ∷ [])) e1 w in
      let w2 : IsWalk (Depends cmp r) b ((bs ++ key ∷ behind) ++ b ∷ []) = subst (λ l. IsWalk (Depends cmp r) b (l ++ b ∷ [])) e2 w1 in
      let w3 : IsWalk (Depends cmp r) b (bs ++ key ∷ (behind ++ b ∷ [])) = subst (IsWalk (Depends cmp r) b) (regroup bs behind key b) w2 in (
        subst (IsWalk (Depends cmp r) key) (sym (regroup behind bs b key)) (turned (Depends cmp r) b key bs behind w3),
        subst (λ z. Reaches (Depends cmp r) z key) (sym e1) (inr (bs, to b bs key (behind ++ b ∷ []) w3)),
      )
    where
      to : (x : K) (xs : List K) (t : K) (ys : List K) → IsWalk (Depends cmp r) x (xs ++ t ∷ ys) → IsWalk (Depends cmp r) x (xs ++ t ∷ [])
      to x [] t ys v = (v.0, tt)
      to x (z ∷ xs) t ys v = (v.0, to z xs t ys v.1)

  -- a loop that k reaches, turned to its least key, is the cycle of k
  pub loop_cycle :
      (k y : K) (after : List K) → Reaches (Depends cmp r) k y → IsWalk (Depends cmp r) y (after ++ y ∷ [])
      → (l : LeastOf cmp total lawful.one_key (y ∷ after))
      → IsCycleOf cmp r k (l.key ∷ (l.after ++ l.before))
  loop_cycle k y after reach w l =
      let t = turned_least y after l.before l.key l.after l.is w in
      let u : ¬ IsSettled cmp r l.key = loop_unsettled cmp total r lawful l.key (l.after ++ l.before, t.0) in
      let to : Reaches (Depends cmp r) k l.key =
      elim reach as (λ _. Reaches (Depends cmp r) k l.key) [
        | inl e ↦ subst (λ z. Reaches (Depends cmp r) z l.key) (sym e) t.1
        | inr v ↦ inr (leads_reaches (Depends cmp r) k y l.key v t.1)
      ] in
      record {
        unsettled = λ s. u (reaches_settled k l.key to s);
        reached = reaches_stuck k l.key to u;
        closed = walk_stuck l.key (l.after ++ l.before) l.key t.0 u;
        least = less_append cmp total lawful.one_key l.key l.after l.before l.less_after l.less_before;
      }
