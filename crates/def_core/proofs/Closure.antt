-- The closure of finitely many keys under Depends is finite: what one key depends on is a list, which its body
-- gives, and all that is reached lies within the bounds.
use Rattle.std.proofs.Common.{◌≡◌, ◌⊎◌, inl, inr, ℕ, zero, suc, List, [], ◌∷◌, ◌++◌, length, map, None, refl, sym, ◌∙◌, ap, subst, arith}
use Rattle.std.specs.Cmp.{IsTotalOrder}
use Rattle.std.specs.declared.cmp.Ordering.{Ordering}
use Rattle.def_query.specs.Keys.{IsIn, AreDistinct, IsWalk, Reaches}
use Rattle.def_query.specs.Lawful.{IsLawful}
use Rattle.def_query.specs.Map.{get}
use Rattle.def_query.specs.Meaning.{Meaning}
use Rattle.def_query.specs.Settles.{Settles, IsSettled, IsGiven, Depends}
use Rattle.def_query.specs.declared.step.Step.{Step}
use Rattle.def_query.specs.declared.step.Step.TheVariants.{Needs, Done}
use Rattle.def_query.proofs.Walks.{Without, take_out, in_append_left, in_append_right, in_append_cases, distinct_push}
use Rattle.def_query.proofs.Maps.{decide_in, key_is_in}
use Rattle.def_query.proofs.Runs.{IsTrueTo, Lack, not_needs_and_done, given_has, lacks_cons, none_in, one_answer, depends_within, loop_unsettled}
use Rattle.def_query.proofs.Loops.{reaches_settled}
use Rattle.def_query.proofs.Decide.{settles_or_loops}
use Rattle.def_core.specs.Laws.{IsUnder, IsClosure}
use Rattle.def_core.proofs.Lists.{append_nil, distinct_join}
use Rattle.def_core.proofs.Roots.{lacking, depends_under}

module _ {K A : Type 0} (cmp : K → K → Ordering) (total : IsTotalOrder cmp) (r : Meaning K A)
    (lawful : IsLawful cmp r) where
  -- where a body ends that is given settled answers: it is done, or needs a key that does not settle
  abbrev End : K → List (K × A) → Type 0
  End x used = ((a : A) × (r.body x used ≡ Done a)) ⊎ ((y : K) × (r.body x used ≡ Needs y) × (¬ IsSettled cmp r y))

  -- all that the body of a key is given
  record Course (x : K) : Type 0 where
    used : List (K × A)
    given : IsGiven cmp r (Settles cmp r) x used
    ends : End x used

  -- the body needs one more key, which settles
  record OneMore (x : K) (m : List (K × A)) : Type 0 where
    key : K
    answer : A
    needs : r.body x m ≡ Needs key
    settles : Settles cmp r key answer

  end_or_more : (x : K) (m : List (K × A)) → End x m ⊎ OneMore x m
  end_or_more x m = go (r.body x m) refl
    where
      go : (s : Step K A) → r.body x m ≡ s → End x m ⊎ OneMore x m
      go (Done a) e = inl (inl (a, e))
      go (Needs y) e =
          elim (settles_or_loops cmp total r lawful y) [
            | inl s ↦ inr record { key = y; answer = s.0; needs = e; settles = s.1 }
            | inr l ↦
                inl (inr (
                  y,
                  e,
                  λ s.
                      loop_unsettled cmp total r lawful l.key (l.after, l.closed)
                      (reaches_settled cmp total r lawful y l.key l.reached s),
                ))
          ]

  course_from :
      (fuel : ℕ) (x : K) (rest : List K) (m : List (K × A)) → length rest ≡ fuel → IsGiven cmp r (Settles cmp r) x m
      → ((z : K) → IsIn z (r.bound x) → get cmp m z ≡ None → IsIn z rest) → Course x
  course_from zero x rest m len g keeps =
      elim (end_or_more x m) [
        | inl e ↦ record { used = m; given = g; ends = e }
        | inr o ↦
            absurd (none_in cmp total r lawful rest o.key len
            (keeps o.key
            (lawful.bound_closed x x o.key (lawful.bound_has x) record { earlier = m; given = g; needs = o.needs })
            (lawful.needs_lacking x m o.key o.needs)))
      ]
  course_from (suc fuel) x rest m len g keeps =
      elim (end_or_more x m) [
        | inl e ↦ record { used = m; given = g; ends = e }
        | inr o ↦
            (let w : Without o.key rest =
            take_out o.key rest
            (keeps o.key
            (lawful.bound_closed x x o.key (lawful.bound_has x) record { earlier = m; given = g; needs = o.needs })
            (lawful.needs_lacking x m o.key o.needs)) in
            course_from fuel x w.rest ((o.key, o.answer) ∷ m)
            (let s : length rest ≡ suc (length w.rest) = w.shorter in omega arith)
            (o.needs, o.settles, g)
            (λ z i lacks.
            let l = lacks_cons cmp total r lawful o.key z o.answer m lacks in
            w.keeps z l.0 (keeps z i l.1)))
      ]

  course : (x : K) → Course x
  course x = course_from (length (r.bound x)) x (r.bound x) [] refl tt (λ z i _. i)

  abbrev last_need : (x : K) (used : List (K × A)) → End x used → List K
  last_need x used (inl e) = []
  last_need x used (inr e) = e.0 ∷ []

  abbrev needs_in : (x : K) (c : Course x) → List K
  needs_in x c = map (λ (p : K × A). p.0) c.used ++ last_need x c.used c.ends

  -- all that a key depends on
  abbrev needs_of : K → List K
  needs_of x = needs_in x (course x)

  given_depends :
      (x y : K) (m : List (K × A)) → IsGiven cmp r (Settles cmp r) x m → IsIn y (map (λ (p : K × A). p.0) m)
      → Depends cmp r x y
  given_depends x y [] g h = absurd h
  given_depends x y (p ∷ m) g (inl e) = record { earlier = m; given = g.2; needs = g.0 ∙ ap Needs (sym e) }
  given_depends x y (p ∷ m) g (inr h) = given_depends x y m g.2 h

  last_depends :
      (x y : K) (used : List (K × A)) → IsGiven cmp r (Settles cmp r) x used → (e : End x used)
      → IsIn y (last_need x used e) → Depends cmp r x y
  last_depends x y used g (inl e) h = absurd h
  last_depends x y used g (inr e) (inl same) = record { earlier = used; given = g; needs = e.1 ∙ ap Needs (sym same) }
  last_depends x y used g (inr e) (inr h) = absurd h

  in_depends : (x y : K) (c : Course x) → IsIn y (needs_in x c) → Depends cmp r x y
  in_depends x y c h =
      elim (in_append_cases y (map (λ (p : K × A). p.0) c.used) (last_need x c.used c.ends) h) [
        | inl i ↦ given_depends x y c.used c.given i
        | inr i ↦ last_depends x y c.used c.given c.ends i
      ]

  last_is : (x y : K) (used : List (K × A)) (e : End x used) → r.body x used ≡ Needs y → IsIn y (last_need x used e)
  last_is x y used (inl e) needs = absurd (not_needs_and_done cmp total r lawful x used y e.0 needs e.1)
  last_is x y used (inr e) needs = inl (let f : Needs y ≡ Needs e.0 = sym needs ∙ e.1 in let g : y ≡ e.0 = cc in g)

  lacks_none : (x : K) (used : List (K × A)) → End x used → ¬ Lack cmp total r lawful x used
  lacks_none x used (inl e) l = not_needs_and_done cmp total r lawful x used l.key e.0 l.needs e.1
  lacks_none x used (inr e) l =
      let f : Needs l.key ≡ Needs e.0 = sym l.needs ∙ e.1 in
      let g : l.key ≡ e.0 = cc in
      e.2 (subst (IsSettled cmp r) g l.settles)

  depends_in : (x y : K) (c : Course x) → Depends cmp r x y → IsIn y (needs_in x c)
  depends_in x y c d =
      let true_to : IsTrueTo cmp total r lawful c.used =
      λ z b a h s. one_answer cmp total r lawful z b a s
      (given_has cmp total r lawful (Settles cmp r) x c.used c.given z a h) in
      elim (depends_within cmp total r lawful x y c.used true_to d) [
        | inl h ↦
            in_append_left y (map (λ (p : K × A). p.0) c.used) (last_need x c.used c.ends)
            (key_is_in cmp total lawful.one_key c.used y h.0 h.1)
        | inr q ↦ elim q [
          | inl e ↦
              in_append_right y (map (λ (p : K × A). p.0) c.used) (last_need x c.used c.ends)
              (last_is x y c.used c.ends e)
          | inr l ↦ absurd (lacks_none x c.used c.ends l)
        ]
      ]

  given_distinct :
      (x : K) (m : List (K × A)) → IsGiven cmp r (Settles cmp r) x m → AreDistinct (map (λ (p : K × A). p.0) m)
  given_distinct x [] g = tt
  given_distinct x (p ∷ m) g =
      (lacking cmp total r lawful m p.0 (lawful.needs_lacking x m p.0 g.0), given_distinct x m g.2)

  needs_distinct : (x : K) (c : Course x) → AreDistinct (needs_in x c)
  needs_distinct x c = go c.ends
    where
      keys : List K
      keys = map (λ (p : K × A). p.0) c.used

      go : (e : End x c.used) → AreDistinct (keys ++ last_need x c.used e)
      go (inl e) = subst AreDistinct (sym (append_nil keys)) (given_distinct x c.used c.given)
      go (inr e) =
          distinct_push keys e.0 (given_distinct x c.used c.given)
          (lacking cmp total r lawful c.used e.0 (lawful.needs_lacking x c.used e.0 e.1))

  -- all that keys of a list depend on
  abbrev all_needs : List K → List K
  all_needs [] = []
  all_needs (x ∷ xs) = needs_of x ++ all_needs xs

  needs_from : (keys : List K) (y : K) → IsIn y (all_needs keys) → (x : K) × IsIn x keys × IsIn y (needs_of x)
  needs_from [] y h = absurd h
  needs_from (x ∷ xs) y h =
      elim (in_append_cases y (needs_of x) (all_needs xs) h) [
        | inl i ↦ (x, inl refl, i)
        | inr i ↦ (let q = needs_from xs y i in (q.0, inr q.1, q.2))
      ]

  needs_to : (keys : List K) (x y : K) → IsIn x keys → IsIn y (needs_of x) → IsIn y (all_needs keys)
  needs_to [] x y h i = absurd h
  needs_to (z ∷ xs) x y (inl e) i =
      in_append_left y (needs_of z) (all_needs xs) (subst (λ w. IsIn y (needs_of w)) e i)
  needs_to (z ∷ xs) x y (inr h) i = in_append_right y (needs_of z) (all_needs xs) (needs_to xs x y h i)

  -- distinct keys under others, to which nothing can be added
  record Closed (from : List K) : Type 0 where
    keys : List K
    distinct : AreDistinct keys
    under : (k : K) → IsIn k keys → IsUnder cmp r from k
    each : (k : K) → IsIn k from → IsIn k keys
    all : (x y : K) → IsIn x keys → Depends cmp r x y → IsIn y keys

  missing : (keys wanted : List K) → ((x : K) × IsIn x wanted × (¬ IsIn x keys)) ⊎ ((x : K) → IsIn x wanted → IsIn x keys)
  missing keys [] = inr (λ x h. absurd h)
  missing keys (y ∷ ys) =
      elim (decide_in cmp total lawful.one_key y keys) [
        | inr not ↦ inl (y, inl refl, not)
        | inl has ↦ elim (missing keys ys) [
          | inl m ↦ inl (m.0, inr m.1, m.2)
          | inr f ↦ inr (λ x h. elim h [ inl e ↦ subst (λ z. IsIn z keys) (sym e) has | inr i ↦ f x i ])
        ]
      ]

  wanted_under :
      (from keys : List K) (x : K) → ((k : K) → IsIn k keys → IsUnder cmp r from k) → IsIn x (from ++ all_needs keys)
      → IsUnder cmp r from x
  wanted_under from keys x under h =
      elim (in_append_cases x from (all_needs keys) h) [
        | inl i ↦ (x, i, inl refl)
        | inr i ↦
            (let q = needs_from keys x i in
            depends_under cmp total r lawful from q.0 x (under q.0 q.1) (in_depends q.0 x (course q.0) q.2))
      ]

  none_missing :
      (from keys : List K) → AreDistinct keys → ((k : K) → IsIn k keys → IsUnder cmp r from k)
      → ((x : K) → IsIn x (from ++ all_needs keys) → IsIn x keys) → Closed from
  none_missing from keys d under f = record {
    keys = keys;
    distinct = d;
    under = under;
    each = λ k h. f k (in_append_left k from (all_needs keys) h);
    all = λ x y h e. f y (in_append_right y from (all_needs keys) (needs_to keys x y h (depends_in x y (course x) e)));
  }

  close :
      (fuel : ℕ) (from keys rest : List K) → length rest ≡ fuel → AreDistinct keys
      → ((k : K) → IsIn k keys → IsUnder cmp r from k)
      → ((z : K) → IsUnder cmp r from z → ¬ IsIn z keys → IsIn z rest) → Closed from
  close zero from keys rest len d under keeps =
      elim (missing keys (from ++ all_needs keys)) [
        | inr f ↦ none_missing from keys d under f
        | inl m ↦ absurd (none_in cmp total r lawful rest m.0 len (keeps m.0 (wanted_under from keys m.0 under m.1) m.2))
      ]
  close (suc fuel) from keys rest len d under keeps =
      elim (missing keys (from ++ all_needs keys)) [
        | inr f ↦ none_missing from keys d under f
        | inl m ↦
            (let u : IsUnder cmp r from m.0 = wanted_under from keys m.0 under m.1 in
            let w : Without m.0 rest = take_out m.0 rest (keeps m.0 u m.2) in
            close fuel from (m.0 ∷ keys) w.rest
            (let s : length rest ≡ suc (length w.rest) = w.shorter in omega arith)
            (m.2, d)
            (λ k h. elim h [ inl e ↦ subst (IsUnder cmp r from) (sym e) u | inr i ↦ under k i ])
            (λ z v out. w.keeps z (λ e. out (inl e)) (keeps z v (λ i. out (inr i)))))
      ]

  abbrev all_bounds : List K → List K
  all_bounds [] = []
  all_bounds (x ∷ xs) = r.bound x ++ all_bounds xs

  bounds_to : (from : List K) (x z : K) → IsIn x from → IsIn z (r.bound x) → IsIn z (all_bounds from)
  bounds_to [] x z h i = absurd h
  bounds_to (y ∷ from) x z (inl e) i =
      in_append_left z (r.bound y) (all_bounds from) (subst (λ w. IsIn z (r.bound w)) e i)
  bounds_to (y ∷ from) x z (inr h) i = in_append_right z (r.bound y) (all_bounds from) (bounds_to from x z h i)

  reached_bound : (x z : K) → Reaches (Depends cmp r) x z → IsIn z (r.bound x)
  reached_bound x z (inl e) = subst (λ w. IsIn w (r.bound x)) e (lawful.bound_has x)
  reached_bound x z (inr w) = go x w.0 w.1 (lawful.bound_has x)
    where
      go : (y : K) (zs : List K) → IsWalk (Depends cmp r) y (zs ++ z ∷ []) → IsIn y (r.bound x) → IsIn z (r.bound x)
      go y [] v i = lawful.bound_closed x y z i v.0
      go y (u ∷ zs) v i = go u zs v.1 (lawful.bound_closed x y u i v.0)

  closed : (from : List K) → Closed from
  closed from =
      close (length (all_bounds from)) from [] (all_bounds from) refl tt (λ k h. absurd h)
      (λ z u _. bounds_to from u.0 z u.1 (reached_bound u.0 z u.2))

  under_in : (from : List K) (c : Closed from) (k : K) → IsUnder cmp r from k → IsIn k c.keys
  under_in from c k (x, i, inl e) = subst (λ z. IsIn z c.keys) e (c.each x i)
  under_in from c k (x, i, inr w) = go x w.0 w.1 (c.each x i)
    where
      go : (y : K) (zs : List K) → IsWalk (Depends cmp r) y (zs ++ k ∷ []) → IsIn y c.keys → IsIn k c.keys
      go y [] v h = c.all y k h v.0
      go y (u ∷ zs) v h = go u zs v.1 (c.all y u h v.0)

  -- pairs
  abbrev pairs_with : K → List K → List (K × K)
  pairs_with x ys = map (λ (y : K). (x, y)) ys

  abbrev edges_of : List K → List (K × K)
  edges_of [] = []
  edges_of (x ∷ xs) = pairs_with x (needs_of x) ++ edges_of xs

  pair_in : (x : K) (ys : List K) (p : K × K) → IsIn p (pairs_with x ys) → (p.0 ≡ x) × IsIn p.1 ys
  pair_in x [] p h = absurd h
  pair_in x (y ∷ ys) p (inl e) = (ap (λ (q : K × K). q.0) e, inl (ap (λ (q : K × K). q.1) e))
  pair_in x (y ∷ ys) p (inr h) = (let q = pair_in x ys p h in (q.0, inr q.1))

  in_pair : (x : K) (ys : List K) (y : K) → IsIn y ys → IsIn (x, y) (pairs_with x ys)
  in_pair x [] y h = absurd h
  in_pair x (z ∷ ys) y (inl e) = inl (ap (λ (w : K). (x, w)) e)
  in_pair x (z ∷ ys) y (inr h) = inr (in_pair x ys y h)

  edge_in : (keys : List K) (p : K × K) → IsIn p (edges_of keys) → IsIn p.0 keys × IsIn p.1 (needs_of p.0)
  edge_in [] p h = absurd h
  edge_in (x ∷ xs) p h =
      elim (in_append_cases p (pairs_with x (needs_of x)) (edges_of xs) h) [
        | inl i ↦ (let q = pair_in x (needs_of x) p i in (inl q.0, subst (λ z. IsIn p.1 (needs_of z)) (sym q.0) q.1))
        | inr i ↦ (let q = edge_in xs p i in (inr q.0, q.1))
      ]

  in_edge : (keys : List K) (x y : K) → IsIn x keys → IsIn y (needs_of x) → IsIn (x, y) (edges_of keys)
  in_edge [] x y h i = absurd h
  in_edge (z ∷ xs) x y (inl e) i =
      in_append_left (x, y) (pairs_with z (needs_of z)) (edges_of xs)
      (subst (λ w. IsIn (x, y) (pairs_with w (needs_of w))) e (in_pair x (needs_of x) y i))
  in_edge (z ∷ xs) x y (inr h) i = in_append_right (x, y) (pairs_with z (needs_of z)) (edges_of xs) (in_edge xs x y h i)

  pairs_distinct : (x : K) (ys : List K) → AreDistinct ys → AreDistinct (pairs_with x ys)
  pairs_distinct x [] d = tt
  pairs_distinct x (y ∷ ys) d = ((λ h. d.0 (pair_in x ys (x, y) h).1), pairs_distinct x ys d.1)

  edges_distinct : (keys : List K) → AreDistinct keys → AreDistinct (edges_of keys)
  edges_distinct [] d = tt
  edges_distinct (x ∷ xs) d =
      distinct_join (pairs_with x (needs_of x)) (edges_of xs)
      (pairs_distinct x (needs_of x) (needs_distinct x (course x)))
      (edges_distinct xs d.1)
      (λ p h g. d.0 (subst (λ z. IsIn z xs) (pair_in x (needs_of x) p h).0 (edge_in xs p g).0))

  -- the closure of keys is finite
  pub finite : (from : List K) → (keys : List K) × (edges : List (K × K)) × IsClosure cmp r from keys edges
  finite from =
      let c : Closed from = closed from in (
        c.keys,
        edges_of c.keys,
        record {
          distinct = c.distinct;
          lies = λ k. (c.under k, under_in from c k);
          distinct_edges = edges_distinct c.keys c.distinct;
          pairs = λ x y. (
            (λ h. let q = edge_in c.keys (x, y) h in (q.0, in_depends x y (course x) q.1)),
            (λ h. in_edge c.keys x y h.0 (depends_in x y (course x) h.1)),
          );
        },
      )
