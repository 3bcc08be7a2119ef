-- The reader of expressions before tokens with the same front.
use Rattle.std.proofs.Common.{◌≡◌, inl, inr, ℕ, zero, suc, ◌+◌, ◌≤◌, Bool, false, List, [], ◌∷◌, ◌++◌, length, refl, sym, ap, subst, ◌∙◌, arith, le_refl}
use Rattle.std.specs.Prelude.{Option, Some, None}
use Rattle.std.proofs.lemmas.Bool.{false≢true}
use Rattle.def_token.specs.Lexical.{Token}
use Rattle.def_tree.specs.ExprTree.{ExprTree}
use Rattle.def_tree.specs.Fault.{at_the_same}
use Rattle.def_tree.specs.Limits.{Nesting}
use Rattle.def_tree.specs.Part.{expr_goes_on}
use Rattle.def_reading.specs.Cursor.{Told, Cursor, At, before, earlier, told_by, FarthestFailure}
use Rattle.def_reading.specs.Machine.{Expected}
use Rattle.def_reading.specs.Try.{Try, Reads, Stops, expr_in, long_from, finished}
use Rattle.def_reading.specs.TypeReading.{Ended}
use Rattle.law_types.proofs.AheadFaults.{Within, a_limit, Grows, same_limit}
use Rattle.law_exprs.proofs.ExprFollows.{expr_goes}
use Rattle.law_exprs.proofs.ExprFronts.{earlier_noted, good_expr}
use Rattle.law_exprs.proofs.ExprReads.{run_finished, finishes_long, long_same, told_inside, told_behind}
use Rattle.law_exprs.proofs.ExprWays.{holds_up, finishes_goes, Goes, as_other, ends_at, told_at as told_there, past_all, over}
use Rattle.law_machine.proofs.MachineComplete.{config}
use Rattle.law_machine.proofs.MachineGrows.{AtMost, as_far}
use Rattle.law_machine.proofs.MachineWays.{LeastOf}
use Rattle.law_exprs.proofs.TryComes.{Noted}
use Rattle.law_exprs.proofs.TryFollows.{Share, here, one, share_ended, Followed, same, ends_here, told, past, Follows, follows_place, Local, Always}
use Rattle.law_exprs.proofs.TryFronts.{Rises, WayTo}
use Rattle.law_exprs.proofs.TryHolds.{Holds}

-- what is told of a limit, or of a next token, stands at one spot
told_same : (o : Option Told) (m : ℕ) (us : List Token) (t : Token) (ts : List Token) (this other : Told) → told_by o m us ≡ Some this → told_by o m (t ∷ ts) ≡ Some other → (this.at ≡ other.at) × (this.code ≡ other.code)
told_same (Some x) m us t ts this other h k =
    let one : x ≡ this = cc in
    let two : x ≡ other = cc in
    (ap (λ (x : Told). x.at) (sym one ∙ two), ap (λ (x : Told). x.code) (sym one ∙ two))
told_same None m [] t ts this other h k = absurd (cc)
told_same None m (u ∷ us) t ts this other h k =
    (ap (λ (x : Told). x.at) (some_is this h) ∙ sym (ap (λ (x : Told). x.at) (some_is other k)), ap (λ (x : Told). x.code) (some_is this h) ∙ sym (ap (λ (x : Told). x.code) (some_is other k)))
  where
    some_is : {x : Told} (y : Told) → Some x ≡ Some y → y ≡ x
    some_is {x = x} y h = cc

-- ways that end at one place and are told at one spot
pub same_many : (w r : FarthestFailure) → w.many ≡ r.many → (w.told.at ≡ r.told.at) × (w.told.code ≡ r.told.code) → AtMost w r
same_many w r h k = as_far h (at_the_same k.0 (omega (arith, k.1)))

module _ (us us' : List Token) (m : ℕ) (end : Ended us) where
  -- shared tokens as a front
  pub record Front (n : ℕ) (ts ts' : List Token) : Type 0 where
    pub front : List Token
    pub long : n ≡ length front
    pub are : ts ≡ front ++ us
    pub others : ts' ≡ front ++ us'

  -- lists with the same first tokens have a front
  pub share_front : {n : ℕ} {ts ts' : List Token} → Share us us' m end n ts ts' → Front n ts ts'
  share_front here = record { front = []; long = refl; are = refl; others = refl }
  share_front (one {t = t} s) =
      let f = share_front s in
      record { front = t ∷ f.front; long = omega (arith, f.long); are = ap (λ ts. t ∷ ts) f.are; others = ap (λ ts. t ∷ ts) f.others }

  -- and back
  pub front_share : (front : List Token) → Share us us' m end (length front) (front ++ us) (front ++ us')
  front_share [] = here
  front_share (t ∷ front) = one (front_share front)

  -- what follows at a place
  abbrev pub FollowedAt : {A : Type 0} → Try A → A → Cursor → Type 0
  FollowedAt look a (At at limit rest') = Followed us us' m end look a at limit rest'

  -- what follows, by what the other reader reads
  pub follows_by : {A : Type 0} (look look' : Try A) → ((a : A) (at : ℕ) (limit : Option Told) (rest : List Token) (reach : Option FarthestFailure) → look' ≡ Reads a (At at limit rest) reach → Noted at limit × Followed us us' m end look a at limit rest)
      → Follows us us' m end look look'
  follows_by look (Reads a (At at limit rest) reach) f = f a at limit rest reach refl
  follows_by look (Stops reach) f = tt

  -- what is told of the tree at the place
  pub way_spot : (long long' : Option Told) (n : ℕ) (lf limit : Option Told) (least : ℕ) → ((k : ℕ) → k ≤ m → before k long ≡ before k long') → Grows m limit lf → Within m limit → LeastOf n m least
      → before m (earlier lf (before n long')) ≡ earlier limit (before least long)
  way_spot long long' n lf limit least agree g w (inl h) =
      told_inside m n limit lf long' h.0 g w ∙ ap (earlier limit) (sym (agree m (le_refl m))) ∙ ap (λ k. earlier limit (before k long)) (sym h.1)
  way_spot long long' n lf limit least agree g w (inr h) =
      told_behind m n limit lf long' (omega (arith, h.0)) g w ∙ ap (earlier limit) (sym (agree n (omega (arith, h.0)))) ∙ ap (λ k. earlier limit (before k long)) (sym h.1)

  -- and no way to the place counts more
  pub way_holds : {A : Type 0} (look : Try A) (long long' : Option Told) (n : ℕ) (lf limit : Option Told) (least : ℕ) (t : Token) (ts : List Token) (r : FarthestFailure) → ((k : ℕ) → k ≤ m → before k long ≡ before k long') → r.many ≡ m
      → told_by (earlier limit (before least long)) m (t ∷ ts) ≡ Some r.told → Holds r look → Grows m limit lf → Within m limit → LeastOf n m least → (w : FarthestFailure) → WayTo m (earlier lf (before n long')) us w → Holds w look
  way_holds look long long' n lf limit least t ts r agree many told_is holds g w' least_of w way =
      let spot = way_spot long long' n lf limit least agree g w' least_of in
      let same = told_same (earlier limit (before least long)) m us t ts w.told r.told (ap (λ l. told_by l m us) (sym spot) ∙ way.told) told_is in
      holds_up w r look (same_many w r (omega (arith, way.many, many)) same) (omega (arith, way.many, many)) holds

  -- where the machine ends at the place
  pub ends_same : (long long' : Option Told) (n : ℕ) (lf l : Option Told) → ((k : ℕ) → k ≤ m → before k long ≡ before k long') → m ≤ n → Grows m l lf → Within m l
      → before m (earlier lf (before n long')) ≡ before m (earlier l (before m long))
  ends_same long long' n lf l agree up g w =
      told_inside m n l lf long' up g w ∙ ap (earlier l) (sym (agree m (le_refl m))) ∙ sym (told_inside m m l l long (le_refl m) same_limit w)

  -- a limit before the place is noted at it
  pub within_noted : (limit : Option Told) → Within m limit → Noted m limit
  within_noted None w = tt
  within_noted (Some x) (a_limit y h) = omega (arith, h)

  goes_followed : (assigns' : Bool) (long long' : Option Told) (e : ExprTree) (n : ℕ) (lf : Option Told) (rest' : List Token) (look : Try ExprTree) → ((k : ℕ) → k ≤ m → before k long ≡ before k long') → assigns' ≡ false
      → Goes assigns' long us us' m e n lf rest' look → Followed us us' m end look e n (earlier lf (before n long')) rest'
  goes_followed assigns' long long' e n lf rest' look agree no' (as_other front reach rest_is is goes look_is) =
      same (length front) (front ++ us) reach is (subst (Share us us' m end (length front) (front ++ us)) (sym rest_is) (front_share front))
      (look_is ∙ ap (λ l. Reads e (At n (earlier lf l) (front ++ us)) reach) (agree n (omega (arith, is))))
  goes_followed assigns' long long' e n lf rest' look agree no' (ends_at b l reach look_is up g w) =
      ends_here b (earlier l (before m long)) reach up (earlier_noted m l long (within_noted l w)) (ends_same long long' n lf l agree up g w) look_is
  goes_followed assigns' long long' e n lf rest' look agree no' (told_there limit least t ts r many told_is holds g w least_of (inl up)) =
      told up (way_holds look long long' n lf limit least t ts r agree many told_is holds g w least_of)
  goes_followed assigns' long long' e n lf rest' look agree no' (told_there limit least t ts r many told_is holds g w least_of (inr (yes', across))) = absurd (false≢true (sym no' ∙ yes'))
  goes_followed assigns' long long' e n lf rest' look agree no' (past_all f) = past f
  goes_followed assigns' long long' e n lf rest' look agree no' (over b at' limit' rest reach look_is e' yes' across) = absurd (false≢true (sym no' ∙ yes'))

  -- what the machine comes to beside an expression that is read before the other tokens
  pub record GoesBy (assigns' : Bool) (around : Nesting) (at : ℕ) (limit : Option Told) (ts : List Token) (reach : Option FarthestFailure) (e : ExprTree) (place : Cursor) : Type 0 where
    pub long : Option Told
    pub long' : Option Told
    pub agree : (k : ℕ) → k ≤ m → before k long ≡ before k long'
    pub n : ℕ
    pub lf : Option Told
    pub rest : List Token
    pub is : place ≡ finished long' (At n lf rest)
    pub ended : expr_goes_on rest ≡ false
    pub goes : Goes assigns' long us us' m e n lf rest (expr_in assigns' around reach (At at limit ts))

  goes_front : (assigns' : Bool) (around : Nesting) (at : ℕ) (limit : Option Told) (p : Token) (front : List Token) (reach reach' : Option FarthestFailure) (e : ExprTree) (place : Cursor) (s : Option FarthestFailure) → m ≡ at + suc (length front) → Noted at limit
      → Ended (p ∷ (front ++ us)) → expr_in assigns' around reach' (At at limit (p ∷ (front ++ us'))) ≡ Reads e place s → GoesBy assigns' around at limit (p ∷ (front ++ us)) reach e place
  goes_front assigns' around at limit p front reach reach' e place s is w end' look =
      let long = long_from (At at limit (p ∷ (front ++ us))) in
      let long' = long_from (At at limit (p ∷ (front ++ us'))) in
      let f = run_finished around assigns' long' (suc (length (p ∷ (front ++ us')))) reach' (config [] Expected at limit (p ∷ (front ++ us'))) e place s look in
      record {
        long = long;
        long' = long';
        agree = λ k h. long_same 1024 k (at + 1024) at (p ∷ front) us us' refl (omega (arith, h, is));
        n = f.n;
        lf = f.lf;
        rest = f.rest;
        is = f.is;
        ended = finishes_goes around long' f.finishes;
        goes = expr_goes around assigns' long us us' m e f.n f.lf f.rest f.free reach at limit p front end' w (finishes_long around long' long f.finishes) is;
      }

  -- what the machine comes to before the front
  pub goes_by : (assigns' : Bool) (around : Nesting) (n at : ℕ) (limit : Option Told) (p : Token) (ts ts' : List Token) (reach reach' : Option FarthestFailure) (e : ExprTree) (place : Cursor) (s : Option FarthestFailure) → m ≡ at + suc n → Share us us' m end n ts ts' → Noted at limit
      → expr_in assigns' around reach' (At at limit (p ∷ ts')) ≡ Reads e place s → GoesBy assigns' around at limit (p ∷ ts) reach e place
  goes_by assigns' around n at limit p ts ts' reach reach' e place s is share w look =
      let f = share_front share in
      subst (λ ts. GoesBy assigns' around at limit (p ∷ ts) reach e place) (sym f.are)
      (goes_front assigns' around at limit p f.front reach reach' e place s (omega (arith, is, f.long)) w (subst (λ ts. Ended (p ∷ ts)) f.are (share_ended us us' m end (one {t = p} share)))
      (subst (λ ts'. expr_in assigns' around reach' (At at limit (p ∷ ts')) ≡ Reads e place s) f.others look))

  expr_local : (around : Nesting) (most : ℕ) → Local us us' m end most (expr_in false around) (expr_in false around)
  expr_local around most zero at limit ts ts' reach reach' few is here h = follows_place us us' m end (expr_in false around) (expr_in false around) (good_expr false around) (good_expr false around) at limit reach reach' (omega (arith, is)) h
  expr_local around most (suc n) at limit ts ts' reach reach' few is (one {t = p} {ts = rest} {ts' = rest'} share) h =
      let look = expr_in false around reach (At at limit (p ∷ rest)) in
      follows_by look (expr_in false around reach' (At at limit (p ∷ rest')))
      (λ e at' limit' left s look_is.
      let g = goes_by false around n at limit p rest rest' reach reach' e (At at' limit' left) s is share h look_is in
      (noted_of e at' limit' left s look_is, subst (FollowedAt look e) (sym g.is) (goes_followed false g.long g.long' e g.n g.lf g.rest look g.agree refl g.goes)))
    where
      noted_of : (e : ExprTree) (at' : ℕ) (limit' : Option Told) (left : List Token) (s : Option FarthestFailure) → expr_in false around reach' (At at limit (p ∷ rest')) ≡ Reads e (At at' limit' left) s → Noted at' limit'
      noted_of e at' limit' left s look_is = (subst (Rises at limit) look_is ((good_expr false around).rises at limit (p ∷ rest') reach' h)).2

  -- expressions before the same front
  pub always_expr : (around : Nesting) → Always us us' m end (expr_in false around) (expr_in false around)
  always_expr around most = record { this = good_expr false around; that = good_expr false around; local = expr_local around most }
