-- Each key settles or reaches a loop.
use Rattle.std.proofs.Common.{◌≡◌, ◌⊎◌, inl, inr, ℕ, zero, suc, List, [], ◌∷◌, ◌++◌, length, Some, None, refl, sym, ◌∙◌, ap, subst, arith}
use Rattle.std.specs.Cmp.{IsTotalOrder}
use Rattle.std.specs.declared.cmp.Ordering.{Ordering}
use Rattle.def_query.specs.Keys.{IsIn, AreDistinct, IsWalk, IsPath, Reaches}
use Rattle.def_query.specs.Map.{get}
use Rattle.def_query.specs.Meaning.{Meaning}
use Rattle.def_query.specs.Settles.{Settles, IsSettled, Depends}
use Rattle.def_query.specs.Answer.{IsCorrect}
use Rattle.def_query.specs.Lawful.{IsLawful}
use Rattle.def_query.specs.declared.step.Step.{Step}
use Rattle.def_query.specs.declared.step.Step.TheVariants.{Needs, Done}
use Rattle.def_query.proofs.Walks.{Without, take_out, in_append_right, in_append_left, Place, place_of, path_push, path_closed, path_reaches, distinct_push, distinct_from}
use Rattle.def_query.proofs.Maps.{has_or_lacks, get_cases, decide_in}
use Rattle.def_query.proofs.Runs.{Has, run, given_map, lacks_cons, settles_given, none_in}
use Rattle.def_query.proofs.Correct.{needs_depends}

module _ {K A : Type 0} (cmp : K → K → Ordering) (total : IsTotalOrder cmp) (r : Meaning K A) (lawful : IsLawful cmp r) where
  -- a loop that k reaches
  pub record Loop (k : K) : Type 0 where
    pub key : K
    pub after : List K
    pub reached : Reaches (Depends cmp r) k key
    pub closed : IsWalk (Depends cmp r) key (after ++ key ∷ [])
    pub distinct : AreDistinct (key ∷ after)

  -- the map has settled answers alone
  abbrev AllSettle : List (K × A) → Type 0
  AllSettle m = (y : K) (b : A) → get cmp m y ≡ Some b → Settles cmp r y b

  -- the map has an answer of the key, or its body needs another one
  abbrev HasOrNeeds : List (K × A) → K → Type 0
  HasOrNeeds m x = ((b : A) × (get cmp m x ≡ Some b)) ⊎ ((y : K) × (r.body x m ≡ Needs y))

  record Found (m : List (K × A)) (xs : List K) : Type 0 where
    key : K
    answer : A
    isin : IsIn key xs
    lacks : get cmp m key ≡ None
    done : r.body key m ≡ Done answer

  look : (m : List (K × A)) (x : K) → HasOrNeeds m x ⊎ ((a : A) × (get cmp m x ≡ None) × (r.body x m ≡ Done a))
  look m x = go (r.body x m) refl
    where
      go : (s : Step K A) → r.body x m ≡ s → HasOrNeeds m x ⊎ ((a : A) × (get cmp m x ≡ None) × (r.body x m ≡ Done a))
      go (Needs y) e = inl (inr (y, e))
      go (Done a) e = elim (has_or_lacks cmp total lawful.one_key m x) [ inl h ↦ inl (inl h) | inr l ↦ inr (a, l, e) ]

  scan : (m : List (K × A)) (xs : List K) → Found m xs ⊎ ((x : K) → IsIn x xs → HasOrNeeds m x)
  scan m [] = inr (λ x h. absurd h)
  scan m (x ∷ xs) =
      elim (look m x) [
        | inr f ↦ inl record { key = x; answer = f.0; isin = inl refl; lacks = f.1; done = f.2 }
        | inl h ↦ elim (scan m xs) [
          | inl f ↦ inl record { key = f.key; answer = f.answer; isin = inr f.isin; lacks = f.lacks; done = f.done }
          | inr g ↦ inr (λ z i. elim i [ inl e ↦ subst (HasOrNeeds m) (sym e) h | inr i' ↦ g z i' ])
        ]
      ]

  settled_correct : (m : List (K × A)) → AllSettle m → IsCorrect cmp r m
  settled_correct m s y b h = inl (s y b h)

  settles_map : (m : List (K × A)) (x : K) (a : A) → AllSettle m → r.body x m ≡ Done a → Settles cmp r x a
  settles_map m x a s e =
      let u = run cmp total r lawful x m in
      settles_given cmp total r lawful x u.used a
      (given_map cmp total r lawful (Has cmp total r lawful m) (Settles cmp r) s x u.used u.given)
      (u.same ∙ e)

  settles_cons : (m : List (K × A)) (x : K) (a : A) → AllSettle m → r.body x m ≡ Done a → AllSettle ((x, a) ∷ m)
  settles_cons m x a s e y b h =
      elim (get_cases cmp total lawful.one_key x y a b m h) [
        | inr g ↦ s y b g
        | inl q ↦ subst (λ z. Settles cmp r z b) (sym q.0) (subst (Settles cmp r x) q.1 (settles_map m x a s e))
      ]

  -- settled answers to which no round adds one of a key of the list
  record Saturated (keys : List K) : Type 0 where
    answers : List (K × A)
    settle : AllSettle answers
    each : (x : K) → IsIn x keys → HasOrNeeds answers x

  saturate :
      (fuel : ℕ) (keys rest : List K) (m : List (K × A)) → length rest ≡ fuel → AllSettle m
      → ((z : K) → IsIn z keys → get cmp m z ≡ None → IsIn z rest) → Saturated keys
  saturate zero keys rest m len s keeps =
      elim (scan m keys) [
        | inr g ↦ record { answers = m; settle = s; each = g }
        | inl f ↦ absurd (none_in cmp total r lawful rest f.key len (keeps f.key f.isin f.lacks))
      ]
  saturate (suc fuel) keys rest m len s keeps =
      elim (scan m keys) [
        | inr g ↦ record { answers = m; settle = s; each = g }
        | inl f ↦
            (let w : Without f.key rest = take_out f.key rest (keeps f.key f.isin f.lacks) in
            saturate fuel keys w.rest ((f.key, f.answer) ∷ m)
            (let t : length rest ≡ suc (length w.rest) = w.shorter in omega arith)
            (settles_cons m f.key f.answer s f.done)
            (λ z i lacks.
            let l = lacks_cons cmp total r lawful f.key z f.answer m lacks in
            w.keeps z l.0 (keeps z i l.1)))
      ]

  -- a path that comes back to one of its keys has a loop
  pub path_loop :
      (k : K) (zs before : List K) (top y : K)
      → before ++ top ∷ [] ≡ k ∷ zs
      → IsPath (Depends cmp r) (before ++ top ∷ []) → AreDistinct (before ++ top ∷ [])
      → Depends cmp r top y → (p : Place y (before ++ top ∷ [])) → Loop k
  path_loop k zs before top y e path distinct d p = record {
    key = y;
    after = p.after;
    reached = path_reaches (Depends cmp r) k zs y (subst (IsPath (Depends cmp r)) e path)
        (subst (IsIn y) (sym p.is ∙ e) (in_append_right y p.before (y ∷ p.after) (inl refl)));
    closed = path_closed (Depends cmp r) before top p.before y p.after p.is path d;
    distinct = distinct_from p.before (y ∷ p.after) (subst AreDistinct p.is distinct);
  }

  follow :
      (fuel : ℕ) (k : K) (keys : List K) (s : Saturated keys)
      → ((x y : K) → IsIn x keys → Depends cmp r x y → IsIn y keys)
      → (rest zs before : List K) (top : K)
      → length rest ≡ fuel
      → before ++ top ∷ [] ≡ k ∷ zs
      → IsPath (Depends cmp r) (before ++ top ∷ []) → AreDistinct (before ++ top ∷ [])
      → IsIn top keys → get cmp s.answers top ≡ None
      → ((z : K) → IsIn z keys → ¬ IsIn z (before ++ top ∷ []) → IsIn z rest)
      → Loop k
  follow zero k keys s closed rest zs before top len e path distinct isin lacks keeps =
      elim (s.each top isin) [
        | inl h ↦ absurd (let f : Some h.0 ≡ None = sym h.1 ∙ lacks in cc)
        | inr n ↦
            (let d : Depends cmp r top n.0 = needs_depends cmp total r lawful top s.answers n.0 (settled_correct s.answers s.settle) n.1 in
            elim (decide_in cmp total lawful.one_key n.0 (before ++ top ∷ [])) [
              | inl i ↦ path_loop k zs before top n.0 e path distinct d (place_of n.0 (before ++ top ∷ []) i)
              | inr new ↦ absurd (none_in cmp total r lawful rest n.0 len (keeps n.0 (closed top n.0 isin d) new))
            ])
      ]
  follow (suc fuel) k keys s closed rest zs before top len e path distinct isin lacks keeps =
      elim (s.each top isin) [
        | inl h ↦ absurd (let f : Some h.0 ≡ None = sym h.1 ∙ lacks in cc)
        | inr n ↦
            (let d : Depends cmp r top n.0 = needs_depends cmp total r lawful top s.answers n.0 (settled_correct s.answers s.settle) n.1 in
            elim (decide_in cmp total lawful.one_key n.0 (before ++ top ∷ [])) [
              | inl i ↦ path_loop k zs before top n.0 e path distinct d (place_of n.0 (before ++ top ∷ []) i)
              | inr new ↦
                  (let w : Without n.0 rest = take_out n.0 rest (keeps n.0 (closed top n.0 isin d) new) in
                  follow fuel k keys s closed w.rest (zs ++ n.0 ∷ []) (before ++ top ∷ []) n.0
                  (let t : length rest ≡ suc (length w.rest) = w.shorter in omega arith)
                  (ap (λ l. l ++ n.0 ∷ []) e)
                  (path_push (Depends cmp r) before top n.0 path d)
                  (distinct_push (before ++ top ∷ []) n.0 distinct new)
                  (closed top n.0 isin d)
                  (lawful.needs_lacking top s.answers n.0 n.1)
                  (λ z i out.
                  w.keeps z (λ q. out (in_append_right z (before ++ top ∷ []) (n.0 ∷ []) (inl q)))
                  (keeps z i (λ j. out (in_append_left z (before ++ top ∷ []) (n.0 ∷ []) j)))))
            ])
      ]

  pub settles_or_loops : (k : K) → IsSettled cmp r k ⊎ Loop k
  settles_or_loops k =
      let s : Saturated (r.bound k) = saturate (length (r.bound k)) (r.bound k) (r.bound k) [] refl (λ y b h. let h' : None ≡ Some b = h in absurd (cc)) (λ z i _. i) in
      elim (has_or_lacks cmp total lawful.one_key s.answers k) [
        | inl h ↦ inl (h.0, s.settle k h.0 h.1)
        | inr lacks ↦
            inr (follow (length (r.bound k)) k (r.bound k) s (lawful.bound_closed k) (r.bound k) [] [] k refl refl tt ((λ h. h), tt) (lawful.bound_has k) lacks (λ z i _. i))
      ]
