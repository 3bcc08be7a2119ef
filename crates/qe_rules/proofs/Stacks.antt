-- The frames of a chain.
use Rattle.std.proofs.Common.{◌≡◌, Bool, true, false, cond, List, [], ◌∷◌, ◌++◌, Some, None, map, refl, sym, ◌∙◌, ap, subst, inl, inr}
use Rattle.std.specs.Cmp.{IsTotalOrder}
use Rattle.std.specs.List.{AllByRecursion}
use Rattle.std.specs.declared.cmp.Ordering.{Ordering}
use Rattle.std.specs.Ordering.{eq_by_cmp}
use Rattle.def_query.specs.Answer.{IsCorrect}
use Rattle.def_query.specs.Keys.{AreDistinct}
use Rattle.def_query.specs.Lawful.{IsLawful}
use Rattle.def_query.specs.Map.{get, IsWithin}
use Rattle.def_query.specs.Meaning.{Meaning}
use Rattle.def_query.specs.declared.step.Step.{Step}
use Rattle.def_query.specs.declared.step.Step.TheVariants.{Needs, Done}
use Rattle.def_query.proofs.Maps.{get_cases, has_or_lacks, one_value, within_cons}
use Rattle.qe_rules.specs.Frame.{Frame, IsResumed, IsRight, CanResume, Resumes, WaitsFor, AreWaiting, IsStack}
use Rattle.qe_rules.specs.Worker.{IsTaken, IsKnown}
use Rattle.qe_rules.specs.declared.frame.Stage.TheVariants.{Begun, Waiting}
use Rattle.qe_rules.proofs.Lists.{same_front, same_last}
use Rattle.qe_rules.proofs.Working.{known_top}

module _ {X Y : Type 0} where
  pub map_snoc : (f : X → Y) (xs : List X) (x : X) → map f (xs ++ x ∷ []) ≡ map f xs ++ f x ∷ []
  map_snoc f [] x = refl
  map_snoc f (y ∷ xs) x = ap (λ l. f y ∷ l) (map_snoc f xs x)

module _ {X : Type 0} (P : X → Type 0) where
  pub all_front : (xs ys : List X) → AllByRecursion P (xs ++ ys) → AllByRecursion P xs
  all_front [] ys h = tt
  all_front (x ∷ xs) ys h = (h.0, all_front xs ys h.1)

  pub all_last : (xs : List X) (y : X) → AllByRecursion P (xs ++ y ∷ []) → P y
  all_last [] y h = h.0
  all_last (x ∷ xs) y h = all_last xs y h.1

  pub all_snoc : (xs : List X) (y : X) → AllByRecursion P xs → P y → AllByRecursion P (xs ++ y ∷ [])
  all_snoc [] y h p = (p, tt)
  all_snoc (x ∷ xs) y h p = (h.0, all_snoc xs y h.1 p)

  all_more : (Q : X → Type 0) → ((x : X) → P x → Q x) → (xs : List X) → AllByRecursion P xs → AllByRecursion Q xs
  all_more Q f [] h = tt
  all_more Q f (x ∷ xs) h = (f x h.0, all_more Q f xs h.1)

module _ {K A : Type 0} (cmp : K → K → Ordering) (total : IsTotalOrder cmp) (r : Meaning K A) (lawful : IsLawful cmp r) where
  -- two maps, one before the other
  pub get_first : (xs m : List (K × A)) (q : K) (a : A) → get cmp xs q ≡ Some a → get cmp (xs ++ m) q ≡ Some a
  get_first [] m q a h = let h' : None ≡ Some a = h in absurd (cc)
  get_first (p ∷ xs) m q a h = go (eq_by_cmp cmp q p.0) (get_first xs m q a) h
    where
      go :
          (b : Bool) → (get cmp xs q ≡ Some a → get cmp (xs ++ m) q ≡ Some a)
          → cond b (Some p.1) (get cmp xs q) ≡ Some a → cond b (Some p.1) (get cmp (xs ++ m) q) ≡ Some a
      go true f e = e
      go false f e = f e

  pub get_second : (xs m : List (K × A)) (q : K) → get cmp xs q ≡ None → get cmp (xs ++ m) q ≡ get cmp m q
  get_second [] m q h = refl
  get_second (p ∷ xs) m q h = go (eq_by_cmp cmp q p.0) (get_second xs m q) h
    where
      go :
          (b : Bool) → (get cmp xs q ≡ None → get cmp (xs ++ m) q ≡ get cmp m q)
          → cond b (Some p.1) (get cmp xs q) ≡ None → cond b (Some p.1) (get cmp (xs ++ m) q) ≡ get cmp m q
      go true f e = let e' : Some p.1 ≡ None = e in absurd (cc)
      go false f e = f e

  append_within : (xs ys m : List (K × A)) → IsWithin cmp xs m → IsWithin cmp ys m → IsWithin cmp (xs ++ ys) m
  append_within xs ys m v w q b h =
      elim (has_or_lacks cmp total lawful.one_key xs q) [
        | inl s ↦ v q b (s.1 ∙ ap Some (one_value cmp total lawful.one_key (xs ++ ys) q s.0 b (get_first xs ys q s.0 s.1) h))
        | inr l ↦ w q b (sym (get_second xs ys q l) ∙ h)
      ]

  within_append : (xs m : List (K × A)) → IsWithin cmp xs m → IsWithin cmp m (xs ++ m)
  within_append xs m w q b h =
      elim (has_or_lacks cmp total lawful.one_key xs q) [
        | inl s ↦ get_first xs m q b (s.1 ∙ ap Some (one_value cmp total lawful.one_key m q s.0 b (w q s.0 s.1) h))
        | inr l ↦ get_second xs m q l ∙ h
      ]

  pub from_within : (xs m : List (K × A)) → AllByRecursion (λ (p : K × A). get cmp m p.0 ≡ Some p.1) xs → IsWithin cmp xs m
  from_within [] m h q b e = let e' : None ≡ Some b = e in absurd (cc)
  from_within (p ∷ xs) m h q b e =
      elim (get_cases cmp total lawful.one_key p.0 q p.1 b xs e) [
        | inl s ↦ ap (get cmp m) s.0 ∙ (h.0 ∙ ap Some s.1)
        | inr g ↦ from_within xs m h.1 q b g
      ]

  -- maps with the same answers give the same
  pub same_body : (k : K) (m n : List (K × A)) → IsWithin cmp m n → IsWithin cmp n m → r.body k m ≡ r.body k n
  same_body k m n v w = go (r.body k m) refl
    where
      lacks : (y : K) → get cmp m y ≡ None → get cmp n y ≡ None
      lacks y l =
          elim (has_or_lacks cmp total lawful.one_key n y) [
            | inl s ↦ absurd (let e : Some s.0 ≡ None = sym (w y s.0 s.1) ∙ l in cc)
            | inr l' ↦ l'
          ]

      go : (s : Step K A) → r.body k m ≡ s → r.body k m ≡ r.body k n
      go (Needs y) e = e ∙ sym (lawful.needs_stay k m n y e v (lacks y (lawful.needs_lacking k m y e)))
      go (Done a) e = e ∙ sym (lawful.done_stays k m n a e v)

  -- a frame whose answers the map has gives what the body gives
  pub resumed_body :
      (f g : Frame K A) (m : List (K × A)) (s : Step K A) → IsWithin cmp f.read m → IsResumed cmp r f m s g
      → r.body f.key m ≡ s
  resumed_body f g m s w h =
      same_body f.key m (f.read ++ m) (within_append f.read m w) (append_within f.read m m w (λ q b e. e)) ∙ sym h.worked.gives

  resumed_within :
      (f g : Frame K A) (m : List (K × A)) (s : Step K A) → IsWithin cmp f.read m → IsResumed cmp r f m s g
      → IsWithin cmp g.read m
  resumed_within f g m s w h =
      subst (λ l. IsWithin cmp l m) (sym h.worked.uses) (append_within f.read h.worked.further m w (from_within h.worked.further m h.worked.from_map))

  waiting_snoc :
      (fs : List (Frame K A)) (f : Frame K A) (y : K) → AreWaiting cmp r fs f.key → WaitsFor cmp r f y
      → AreWaiting cmp r (fs ++ f ∷ []) y
  waiting_snoc [] f y w v = (v, tt)
  waiting_snoc (g ∷ []) f y w v = (w.0, (v, tt))
  waiting_snoc (g ∷ h ∷ fs) f y w v = (w.0, waiting_snoc (h ∷ fs) f y w.1 v)

  waiting_front :
      (fs : List (Frame K A)) (f : Frame K A) (y : K) → AreWaiting cmp r (fs ++ f ∷ []) y
      → AreWaiting cmp r fs f.key × WaitsFor cmp r f y
  waiting_front [] f y w = (tt, w.0)
  waiting_front (g ∷ []) f y w = ((w.0, tt), w.1.0)
  waiting_front (g ∷ h ∷ fs) f y w = let t = waiting_front (h ∷ fs) f y w.1 in ((w.0, t.0), t.1)

  module _ (m : List (K × A)) (frames rest : List (Frame K A)) (top : Frame K A) (keys : List K)
      (stack : IsStack cmp r m frames keys) (was : frames ≡ rest ++ top ∷ []) where
    -- the last key is that of the last frame
    pub stack_keys : keys ≡ map (λ (f : Frame K A). f.key) rest ++ top.key ∷ []
    stack_keys = sym stack.keys_of ∙ (ap (map (λ (f : Frame K A). f.key)) was ∙ map_snoc (λ (f : Frame K A). f.key) rest top)

    all_within : AllByRecursion (λ (f : Frame K A). IsWithin cmp f.read m) (rest ++ top ∷ [])
    all_within = subst (AllByRecursion (λ (f : Frame K A). IsWithin cmp f.read m)) was stack.within

    pub top_within : IsWithin cmp top.read m
    top_within = all_last (λ (f : Frame K A). IsWithin cmp f.read m) rest top all_within

    -- the last key has its answer
    pub pop_stack :
        (n : List (K × A)) (next : List K) (a : A) → get cmp m top.key ≡ None → IsTaken cmp m keys n next a
        → IsStack cmp r n rest next
    pop_stack n next a lacks t =
        let both : map (λ (f : Frame K A). f.key) rest ++ top.key ∷ [] ≡ next ++ t.top ∷ [] = sym stack_keys ∙ t.was in
        let same : top.key ≡ t.top = same_last (map (λ (f : Frame K A). f.key) rest) next top.key t.top both in
        let grows : IsWithin cmp m n =
        λ q b h. t.gains q ∙ within_cons cmp total lawful.one_key t.top a m (ap (get cmp m) (sym same) ∙ lacks) q b h in
        record {
          keys_of = same_front (map (λ (f : Frame K A). f.key) rest) next top.key t.top both;
          within =
              all_more (λ (f : Frame K A). IsWithin cmp f.read m) (λ (f : Frame K A). IsWithin cmp f.read n)
              (λ f w q b h. grows q b (w q b h)) rest
              (all_front (λ (f : Frame K A). IsWithin cmp f.read m) rest (top ∷ []) all_within);
          waiting = λ before f e. (front before f e).0;
          resumes = λ before f e. resumes f (front before f e).1 (subst (IsKnown cmp r n) (sym same) (known_top cmp total r lawful m n t.top a t.gains));
        }
      where
        front : (before : List (Frame K A)) (f : Frame K A) → rest ≡ before ++ f ∷ [] → AreWaiting cmp r before f.key × WaitsFor cmp r f top.key
        front before f e = waiting_front before f top.key (subst (λ l. AreWaiting cmp r l top.key) e (stack.waiting rest top was))

        resumes : (f : Frame K A) → WaitsFor cmp r f top.key → IsKnown cmp r n top.key → CanResume cmp r f n
        resumes f w known =
            subst (Resumes cmp r f n) {x = Waiting} (sym w.stage)
            (λ y e. subst (IsKnown cmp r n) (let u : Needs top.key ≡ Needs y = sym w.needs ∙ e in cc) known)

    -- the last key needs another one, whose frame is begun
    pub push_stack :
        (over new : Frame K A) (next : List K) (need : K)
        → IsResumed cmp r top m (Needs need) over → new ≡ record { key = need; read = []; stage = Begun }
        → next ≡ keys ++ need ∷ [] → IsStack cmp r m ((rest ++ over ∷ []) ++ new ∷ []) next
    push_stack over new next need h begun becomes = record {
      keys_of =
          map_snoc (λ (f : Frame K A). f.key) (rest ++ over ∷ []) new
          ∙ (ap (λ l. l ++ new.key ∷ []) (map_snoc (λ (f : Frame K A). f.key) rest over ∙ ap (λ k. map (λ (f : Frame K A). f.key) rest ++ k ∷ []) h.key ∙ sym stack_keys)
          ∙ (ap (λ (f : Frame K A). keys ++ f.key ∷ []) begun ∙ sym becomes));
      within =
          all_snoc (λ (f : Frame K A). IsWithin cmp f.read m) (rest ++ over ∷ []) new
          (all_snoc (λ (f : Frame K A). IsWithin cmp f.read m) rest over
          (all_front (λ (f : Frame K A). IsWithin cmp f.read m) rest (top ∷ []) all_within)
          (resumed_within top over m (Needs need) top_within h))
          (subst (λ (f : Frame K A). IsWithin cmp f.read m) (sym begun) (λ q b e. let e' : None ≡ Some b = e in absurd (cc)));
      waiting = λ before f e.
          let same : rest ++ over ∷ [] ≡ before = same_front (rest ++ over ∷ []) before new f e in
          let last : new ≡ f = same_last (rest ++ over ∷ []) before new f e in
          subst (λ l. AreWaiting cmp r l f.key) same
          (subst (λ k. AreWaiting cmp r (rest ++ over ∷ []) k) (ap (λ (g : Frame K A). g.key) (sym begun ∙ last)) waits);
      resumes = λ before f e.
          let last : new ≡ f = same_last (rest ++ over ∷ []) before new f e in
          subst (λ (g : Frame K A). CanResume cmp r g m) (sym begun ∙ last) tt;
    }
      where
        waits : AreWaiting cmp r (rest ++ over ∷ []) need
        waits =
            waiting_snoc rest over need (subst (AreWaiting cmp r rest) (sym h.key) (stack.waiting rest top was))
            record { stage = h.stage; needs = ap (λ k. r.body k over.read) h.key ∙ h.worked.needs need refl }

  -- the chain of one key, whose frame is begun
  pub one_stack :
      (m : List (K × A)) (frames : List (Frame K A)) (new : Frame K A) (keys : List K) (key : K)
      → frames ≡ new ∷ [] → new ≡ record { key = key; read = []; stage = Begun } → keys ≡ key ∷ []
      → IsStack cmp r m frames keys
  one_stack m frames new keys key one begun is =
      subst (λ l. IsStack cmp r m l keys) (sym (one ∙ ap (λ f. f ∷ []) begun))
      (subst (IsStack cmp r m (record { key = key; read = []; stage = Begun } ∷ [])) (sym is)
      record {
        keys_of = refl;
        within = ((λ q b e. let e' : None ≡ Some b = e in absurd (cc)), tt);
        waiting = λ before f e. let same : [] ≡ before = same_front [] before record { key = key; read = []; stage = Begun } f e in
            subst (λ l. AreWaiting cmp r l f.key) same tt;
        resumes = λ before f e. let last : record { key = key; read = []; stage = Begun } ≡ f = same_last [] before record { key = key; read = []; stage = Begun } f e in
            subst (λ (g : Frame K A). CanResume cmp r g m) last tt;
      })

  -- a frame that has used nothing
  pub nothing_used : (f : Frame K A) → f.read ≡ [] → IsRight cmp r f
  nothing_used f none = record {
    correct = subst (IsCorrect cmp r) (sym none) (λ k a h. let h' : None ≡ Some a = h in absurd (cc));
    distinct = subst (λ (l : List (K × A)). AreDistinct (map (λ (p : K × A). p.0) l)) (sym none) tt;
  }
