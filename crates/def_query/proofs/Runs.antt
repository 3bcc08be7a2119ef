-- What a body is given, and which answers settle.
use Rattle.std.proofs.Common.{◌≡◌, ◌≢◌, ◌⊎◌, inl, inr, ℕ, zero, suc, ◌+◌, ◌≤◌, List, [], ◌∷◌, ◌++◌, length, Some, None, refl, sym, ◌∙◌, ap, subst, map, arith}
use Rattle.std.specs.Cmp.{IsTotalOrder}
use Rattle.std.specs.declared.cmp.Ordering.{Ordering}
use Rattle.def_query.specs.Keys.{IsIn, IsWalk, Leads}
use Rattle.def_query.specs.Map.{get, IsWithin}
use Rattle.def_query.specs.Meaning.{Meaning}
use Rattle.def_query.specs.Settles.{Settled, Settles, IsSettled, IsGiven, Depends, Stuck}
use Rattle.def_query.specs.Lawful.{IsLawful}
use Rattle.def_query.specs.declared.step.Step.{Step}
use Rattle.def_query.specs.declared.step.Step.TheVariants.{Needs, Done}
use Rattle.def_query.proofs.Walks.{Without, take_out}
use Rattle.def_query.proofs.Maps.{Same, Apart, compared, get_there, get_here, cons_within, has_or_lacks, key_is_in, not_both, one_value}

module _ {K A : Type 0} (cmp : K → K → Ordering) (total : IsTotalOrder cmp) (r : Meaning K A) (lawful : IsLawful cmp r) where
  -- the map has the pair
  abbrev pub Has : List (K × A) → K → A → Type 0
  Has m y a = get cmp m y ≡ Some a

  pub not_needs_and_done : (k : K) (m : List (K × A)) (y : K) (a : A) → r.body k m ≡ Needs y → r.body k m ≡ Done a → ⊥
  not_needs_and_done k m y a e f = let h : Needs y ≡ Done a = sym e ∙ f in cc

  pub used_within : (k : K) (n m : List (K × A)) → IsGiven cmp r (Has n) k m → IsWithin cmp m n
  used_within k n [] g = λ q a h. let h' : None ≡ Some a = h in absurd (cc)
  used_within k n (p ∷ m) g = cons_within cmp total lawful.one_key p.0 p.1 m n (used_within k n m g.2) g.1

  pub given_map : (P Q : K → A → Type 0) → ((y : K) (a : A) → P y a → Q y a) → (k : K) (m : List (K × A)) → IsGiven cmp r P k m → IsGiven cmp r Q k m
  given_map P Q f k [] g = tt
  given_map P Q f k (p ∷ m) g = (g.0, f p.0 p.1 g.1, given_map P Q f k m g.2)

  -- what is given is told
  pub given_has : (P : K → A → Type 0) (k : K) (m : List (K × A)) → IsGiven cmp r P k m → (y : K) (a : A) → Has m y a → P y a
  given_has P k [] g y a h = let h' : None ≡ Some a = h in absurd (cc)
  given_has P k (p ∷ m) g y a h =
      elim (compared cmp total lawful.one_key y p.0) [
        | Same e _ ↦
            (let h' : get cmp ((p.0, p.1) ∷ m) p.0 ≡ Some a = ap (get cmp ((p.0, p.1) ∷ m)) (sym e) ∙ h in
            let v : p.1 ≡ a = one_value cmp total lawful.one_key ((p.0, p.1) ∷ m) p.0 p.1 a (get_here cmp total lawful.one_key p.0 p.1 m) h' in
            subst (λ z. P z a) (sym e) (subst (P p.0) v g.1))
        | Apart apart _ ↦ given_has P k m g.2 y a (sym (get_there cmp total lawful.one_key p.0 y p.1 m apart) ∙ h)
      ]

  pub lacks_cons : (y z : K) (a : A) (m : List (K × A)) → get cmp ((y, a) ∷ m) z ≡ None → (z ≢ y) × (get cmp m z ≡ None)
  lacks_cons y z a m h =
      elim (compared cmp total lawful.one_key z y) [
        | Same e _ ↦ absurd (not_both cmp total lawful.one_key ((y, a) ∷ m) y a (get_here cmp total lawful.one_key y a m) (ap (get cmp ((y, a) ∷ m)) (sym e) ∙ h))
        | Apart apart _ ↦ (apart, sym (get_there cmp total lawful.one_key y z a m apart) ∙ h)
      ]

  -- what the body of k uses of n, and gives from it
  pub record Run (k : K) (n : List (K × A)) : Type 0 where
    pub used : List (K × A)
    pub given : IsGiven cmp r (Has n) k used
    pub same : r.body k used ≡ r.body k n

  -- one key more that n has
  record More (k : K) (n m : List (K × A)) : Type 0 where
    key : K
    answer : A
    needs : r.body k m ≡ Needs key
    has : Has n key answer
    lacks : get cmp m key ≡ None

  run_or_more : (k : K) (n m : List (K × A)) → IsGiven cmp r (Has n) k m → Run k n ⊎ More k n m
  run_or_more k n m g = go (r.body k m) refl
    where
      go : (s : Step K A) → r.body k m ≡ s → Run k n ⊎ More k n m
      go (Done a) e = inl record {
        used = m;
        given = g;
        same = e ∙ sym (lawful.done_stays k m n a e (used_within k n m g));
      }
      go (Needs y) e =
          elim (has_or_lacks cmp total lawful.one_key n y) [
            | inl h ↦ inr record { key = y; answer = h.0; needs = e; has = h.1; lacks = lawful.needs_lacking k m y e }
            | inr l ↦ inl record {
              used = m;
              given = g;
              same = e ∙ sym (lawful.needs_stay k m n y e (used_within k n m g) l);
            }
          ]

  pub none_in : (xs : List K) (z : K) → length xs ≡ 0 → IsIn z xs → ⊥
  none_in [] z e h = h
  none_in (x ∷ xs) z e h = absurd (omega arith)

  run_from :
      (fuel : ℕ) (k : K) (n : List (K × A)) (rest : List K) (m : List (K × A))
      → length rest ≡ fuel
      → IsGiven cmp r (Has n) k m
      → ((z : K) (a : A) → Has n z a → get cmp m z ≡ None → IsIn z rest)
      → Run k n
  run_from zero k n rest m len g keeps =
      elim (run_or_more k n m g) [
        | inl x ↦ x
        | inr h ↦ absurd (none_in rest h.key len (keeps h.key h.answer h.has h.lacks))
      ]
  run_from (suc fuel) k n rest m len g keeps =
      elim (run_or_more k n m g) [
        | inl x ↦ x
        | inr h ↦
            (let w : Without h.key rest = take_out h.key rest (keeps h.key h.answer h.has h.lacks) in
            run_from fuel k n w.rest ((h.key, h.answer) ∷ m)
            (let s : length rest ≡ suc (length w.rest) = w.shorter in omega arith)
            (h.needs, h.has, g)
            (λ z a has lacks.
            let l = lacks_cons h.key z h.answer m lacks in
            w.keeps z l.0 (keeps z a has l.1)))
      ]

  pub run : (k : K) (n : List (K × A)) → Run k n
  run k n =
      run_from (length (map (λ (p : K × A). p.0) n)) k n (map (λ (p : K × A). p.0) n) [] refl tt
      (λ z a h _. key_is_in cmp total lawful.one_key n z a h)

  -- rounds
  pub settled_upto : (n l : ℕ) (k : K) (a : A) → n ≤ l → Settled cmp r n k a → Settled cmp r l k a
  settled_upto zero l k a h s = absurd s
  settled_upto (suc n) zero k a h s = absurd (omega arith)
  settled_upto (suc n) (suc l) k a h s =
      (s.0, (λ y b g. settled_upto n l y b (omega arith) (s.1 y b g)), s.2)

  -- one round has all that is given
  given_round :
      (k : K) (m : List (K × A)) → IsGiven cmp r (Settles cmp r) k m
      → (n : ℕ) × ((y : K) (b : A) → Has m y b → Settled cmp r n y b)
  given_round k [] g = (0, λ y b h. let h' : None ≡ Some b = h in absurd (cc))
  given_round k (p ∷ m) g =
      let ih = given_round k m g.2 in
      let s : Settles cmp r p.0 p.1 = g.1 in (
        s.round + ih.0,
        λ y b h.
            elim (compared cmp total lawful.one_key y p.0) [
              | Same e _ ↦
                  (let h' : get cmp ((p.0, p.1) ∷ m) p.0 ≡ Some b = ap (get cmp ((p.0, p.1) ∷ m)) (sym e) ∙ h in
                  let v : p.1 ≡ b = one_value cmp total lawful.one_key ((p.0, p.1) ∷ m) p.0 p.1 b (get_here cmp total lawful.one_key p.0 p.1 m) h' in
                  settled_upto s.round (s.round + ih.0) y b (omega arith)
                  (subst (λ z. Settled cmp r s.round z b) (sym e) (subst (Settled cmp r s.round p.0) v s.settled)))
              | Apart apart _ ↦
                  settled_upto ih.0 (s.round + ih.0) y b (omega arith)
                  (ih.1 y b (sym (get_there cmp total lawful.one_key p.0 y p.1 m apart) ∙ h))
            ],
      )

  pub settles_given :
      (k : K) (m : List (K × A)) (a : A)
      → IsGiven cmp r (Settles cmp r) k m → r.body k m ≡ Done a → Settles cmp r k a
  settles_given k m a g e =
      let f = given_round k m g in
      record { round = suc f.0; settled = (m, f.1, e) }

  -- what is used is in another map too, where that is done and the two agree
  agree_within :
      (k : K) (n l : List (K × A)) (b : A) → r.body k l ≡ Done b
      → ((y : K) (a c : A) → Has n y a → Has l y c → c ≡ a)
      → (m : List (K × A)) → IsGiven cmp r (Has n) k m → IsWithin cmp m l
  agree_within k n l b e f [] g = λ q a h. let h' : None ≡ Some a = h in absurd (cc)
  agree_within k n l b e f (p ∷ m) g =
      let w = agree_within k n l b e f m g.2 in
      elim (has_or_lacks cmp total lawful.one_key l p.0) [
        | inl h ↦ cons_within cmp total lawful.one_key p.0 p.1 m l w (h.1 ∙ ap Some (f p.0 p.1 h.0 g.1 h.1))
        | inr lacks ↦ absurd (not_needs_and_done k l p.0 b (lawful.needs_stay k m l p.0 g.0 w lacks) e)
      ]

  one_settled : (n l : ℕ) (k : K) (a b : A) → Settled cmp r n k a → Settled cmp r l k b → b ≡ a
  one_settled zero l k a b s t = absurd s
  one_settled (suc n) zero k a b s t = absurd t
  one_settled (suc n) (suc l) k a b s t =
      let u = run k s.0 in
      let w = agree_within k s.0 t.0 b t.2 (λ y c d h g. one_settled n l y c d (s.1 y c h) (t.1 y d g)) u.used u.given in
      let e : r.body k t.0 ≡ Done a = lawful.done_stays k u.used t.0 a (u.same ∙ s.2) w in
      let f : Done b ≡ Done a = sym t.2 ∙ e in
      cc

  pub one_answer : (k : K) (a b : A) → Settles cmp r k a → Settles cmp r k b → b ≡ a
  one_answer k a b s t = one_settled s.round t.round k a b s.settled t.settled

  -- a settled key that the map lacks and the body needs
  pub record Lack (k : K) (n : List (K × A)) : Type 0 where
    pub key : K
    pub settles : IsSettled cmp r key
    pub needs : r.body k n ≡ Needs key

  -- the map has no other answer of a key that settles
  abbrev pub IsTrueTo : List (K × A) → Type 0
  IsTrueTo n = (y : K) (b c : A) → Has n y c → Settles cmp r y b → c ≡ b

  pub given_within :
      (k : K) (m n : List (K × A)) → IsTrueTo n → IsGiven cmp r (Settles cmp r) k m
      → IsWithin cmp m n ⊎ Lack k n
  given_within k [] n t g = inl (λ q a h. let h' : None ≡ Some a = h in absurd (cc))
  given_within k (p ∷ m) n t g =
      elim (given_within k m n t g.2) [
        | inr l ↦ inr l
        | inl w ↦
            elim (has_or_lacks cmp total lawful.one_key n p.0) [
              | inl h ↦ inl (cons_within cmp total lawful.one_key p.0 p.1 m n w (h.1 ∙ ap Some (t p.0 p.1 h.0 h.1 g.1)))
              | inr lacks ↦ inr record { key = p.0; settles = (p.1, g.1); needs = lawful.needs_stay k m n p.0 g.0 w lacks }
            ]
      ]

  -- what k depends on, a true map has, or the body needs it, or a settled key, of this map
  pub depends_within :
      (k y : K) (n : List (K × A)) → IsTrueTo n → Depends cmp r k y
      → ((b : A) × Has n y b) ⊎ (r.body k n ≡ Needs y) ⊎ Lack k n
  depends_within k y n t d =
      elim (given_within k d.earlier n t d.given) [
        | inr l ↦ inr (inr l)
        | inl w ↦
            elim (has_or_lacks cmp total lawful.one_key n y) [
              | inl h ↦ inl h
              | inr lacks ↦ inr (inl (lawful.needs_stay k d.earlier n y d.needs w lacks))
            ]
      ]

  settled_true : (n : ℕ) (m : List (K × A)) → ((y : K) (b : A) → Has m y b → Settled cmp r n y b) → IsTrueTo m
  settled_true n m f y b c h s = one_answer y b c s record { round = n; settled = f y c h }

  -- what a settled key depends on settled before it
  settled_depends : (n : ℕ) (k y : K) (a : A) → Settled cmp r (suc n) k a → Depends cmp r k y → (b : A) × Settled cmp r n y b
  settled_depends n k y a s d =
      elim (depends_within k y s.0 (settled_true n s.0 s.1) d) [
        | inl h ↦ (h.0, s.1 y h.0 h.1)
        | inr q ↦ elim q [
          | inl e ↦ absurd (not_needs_and_done k s.0 y a e s.2)
          | inr l ↦ absurd (not_needs_and_done k s.0 l.key a l.needs s.2)
        ]
      ]

  pub depends_settles : (k y : K) → IsSettled cmp r k → Depends cmp r k y → IsSettled cmp r y
  depends_settles k y s d = go s.1.round s.1.settled
    where
      go : (n : ℕ) → Settled cmp r n k s.0 → IsSettled cmp r y
      go zero t = absurd t
      go (suc n) t = let h = settled_depends n k y s.0 t d in (h.0, record { round = n; settled = h.1 })

  down_walk :
      (n : ℕ) (x : K) (zs : List K) (y : K) → IsWalk (Depends cmp r) x (zs ++ y ∷ [])
      → (a : A) → Settled cmp r (suc n) x a → (b : A) × Settled cmp r n y b
  down_walk n x [] y w a s = settled_depends n x y a s w.0
  down_walk zero x (z ∷ zs) y w a s = let h = settled_depends zero x z a s w.0 in absurd h.1
  down_walk (suc n) x (z ∷ zs) y w a s =
      let h = settled_depends (suc n) x z a s w.0 in
      let i = down_walk n z zs y w.1 h.0 h.1 in
      (i.0, settled_upto n (suc n) y i.0 (omega arith) i.1)

  no_loop : (n : ℕ) (x : K) → Leads (Depends cmp r) x x → (a : A) → Settled cmp r n x a → ⊥
  no_loop zero x w a s = s
  no_loop (suc n) x w a s = let h = down_walk n x w.0 x w.1 a s in no_loop n x w h.0 h.1

  -- a key on a cycle does not settle
  pub loop_unsettled : (x : K) → Leads (Depends cmp r) x x → ¬ IsSettled cmp r x
  loop_unsettled x w s = no_loop s.1.round x w s.0 s.1.settled

  pub leads_settled : (x y : K) → Leads (Depends cmp r) x y → IsSettled cmp r x → IsSettled cmp r y
  leads_settled x y w s = go x w.0 w.1 s
    where
      go : (x : K) (zs : List K) → IsWalk (Depends cmp r) x (zs ++ y ∷ []) → IsSettled cmp r x → IsSettled cmp r y
      go x [] v s = depends_settles x y s v.0
      go x (z ∷ zs) v s = go z zs v.1 (depends_settles x z s v.0)

  -- there is one way on at most
  pub one_way : (k x y : K) → Stuck cmp r k x → Stuck cmp r k y → x ≡ y
  one_way k x y s t =
      let m = t.depends.earlier in
      elim (depends_within k x m (λ z b c h s'. one_answer z b c s' (given_has (Settles cmp r) k m t.depends.given z c h)) s.depends) [
        | inl h ↦ absurd (s.unsettled (h.0, given_has (Settles cmp r) k m t.depends.given x h.0 h.1))
        | inr q ↦ elim q [
          | inl e ↦ (let f : Needs x ≡ Needs y = sym e ∙ t.depends.needs in cc)
          | inr l ↦ absurd (t.unsettled (subst (IsSettled cmp r) (let f : Needs l.key ≡ Needs y = sym l.needs ∙ t.depends.needs in cc) l.settles))
        ]
      ]
