-- The reader of simple statements before tokens with the same front.
use Rattle.std.proofs.Common.{◌≡◌, inl, inr, ℕ, zero, suc, ◌+◌, ◌-◌, ◌<◌, ◌≤◌, Bool, true, false, List, [], ◌∷◌, ◌++◌, length, refl, sym, ap, subst, ◌∙◌, codes, arith, le_refl}
use Rattle.std.specs.Prelude.{Option, Some, None, replicate}
use Rattle.std.specs.Str.{bytes_eq}
use Rattle.std.proofs.lemmas.Bool.{false≢true}
use Rattle.def_token.specs.Lexical.{Token}
use Rattle.def_tree.specs.ExprTree.{ExprTree}
use Rattle.def_tree.specs.Limits.{Nesting, plain, assignment_tokens}
use Rattle.def_tree.specs.Operator.{Assignment, Set, AddTo, SubtractFrom, MultiplyBy, DivideBy, RemainderBy, BitAndWith, BitOrWith, BitXorWith, ShiftLeftBy, ShiftRightBy, assignment_text, Increment, Decrement, SignAt, sign_at}
use Rattle.def_tree.specs.Part.{expr_goes_on}
use Rattle.def_tree.specs.Statements.{is_call}
use Rattle.def_tree.specs.StmtTree as tree
use Rattle.def_tree.specs.StmtTree.{SimpleTree}
use Rattle.def_tree.specs.Symbol.{symbol, is_sign}
use Rattle.law_tree.proofs.Symbols.{is_sign-true}
use Rattle.def_reading.specs.Machine.{written}
use Rattle.def_reading.specs.Cursor.{Told, Cursor, At, passed, before, earlier, FarthestFailure}
use Rattle.def_reading.specs.StmtReading.{assignments, assignment_at, alone_by, stepped_in, assigned_by, assigned_in, simple_in}
use Rattle.def_reading.specs.Try.{Try, Reads, Stops, Reader, try_then, try_as, choice, expr_in}
use Rattle.def_reading.specs.TypeReading.{Ended}
use Rattle.law_types.proofs.AheadFaults.{heads}
use Rattle.law_exprs.proofs.ExprBeside.{front_share, way_holds, ends_same, within_noted, goes_by, always_expr}
use Rattle.law_exprs.proofs.ExprFronts.{earlier_noted, noted_up, good_expr}
use Rattle.law_exprs.proofs.ExprWays.{Across, Goes, as_other, ends_at, told_at, past_all, over, sign_same, greater_assigns, assign_parts}
use Rattle.law_machine.proofs.MachineKinds.{sign_no_end}
use Rattle.law_machine.proofs.MachineSigns.{written-some}
use Rattle.law_machine.proofs.SignParts.{assign_sign, joins_no_end}
use Rattle.law_machine.proofs.SignsBehind.{IsAssignment}
use Rattle.law_types.proofs.Stopping.{ended_behind}
use Rattle.law_stmts.proofs.StmtFronts.{good_assigned}
use Rattle.law_exprs.proofs.TryComes.{Noted, noted_later}
use Rattle.law_exprs.proofs.TryFollows.{Share, here, one, share_ended, past, Follows, follows_here, follows_place, then_told, then_past, Local, Always, beside_as, beside_choice, beside_end, beside_refused}
use Rattle.law_exprs.proofs.TryFronts.{Rises, WayTo, Good, good_as, good_then}
use Rattle.law_exprs.proofs.TryHolds.{Holds}

-- an assignment other than `>>=` is one token
one_mark : (a : Assignment) → (a ≡ ShiftRightBy → ⊥) → assignment_tokens a ≡ 1
one_mark Set h = refl
one_mark AddTo h = refl
one_mark SubtractFrom h = refl
one_mark MultiplyBy h = refl
one_mark DivideBy h = refl
one_mark RemainderBy h = refl
one_mark BitAndWith h = refl
one_mark BitOrWith h = refl
one_mark BitXorWith h = refl
one_mark ShiftLeftBy h = refl
one_mark ShiftRightBy h = absurd (h refl)

-- `>>=` at a token
assign_at : (p : Token) (ts : List Token) (a : IsAssignment p ts) → sign_at (p ∷ ts) ≡ (codes ">>=", a.others)
assign_at p ts a = ap (λ ts. sign_at (p ∷ ts)) a.are ∙ assign_sign p a.second a.third a.others a.first a.shifts a.assigns

shift_at : (p : Token) (ts : List Token) → IsAssignment p ts → assignment_at (p ∷ ts) ≡ Some ShiftRightBy
shift_at p ts a = ap (λ (x : SignAt). written assignment_text assignments x.0) (assign_at p ts a)

others_ended : (p : Token) (ts : List Token) (a : IsAssignment p ts) → Ended (p ∷ ts) → Ended a.others
others_ended p ts a end =
    ended_behind a.third a.others (joins_no_end a.second a.third "=" a.assigns)
    (ended_behind a.second (a.third ∷ a.others) (joins_no_end p a.second ">" a.shifts) (subst Ended a.are (ended_behind p ts (sign_no_end p _ a.first) end)))

module _ (around : Nesting) (e : ExprTree) where
  -- an assignment by what is read behind it
  assigned_shift : (reach : Option FarthestFailure) (at : ℕ) (limit : Option Told) (p : Token) (ts : List Token) (a : IsAssignment p ts)
      → assigned_in around e reach (At at limit (p ∷ ts)) ≡ try_as (tree.Assign ShiftRightBy p e) (expr_in false around reach (At (suc (suc (suc at))) limit a.others))
  assigned_shift reach at limit p ts a =
      ap (λ o. assigned_by around o e reach p (At at limit (p ∷ ts))) (shift_at p ts a)
      ∙ ap (λ ts. try_as (tree.Assign ShiftRightBy p e) (expr_in false around reach (passed (plain ∷ plain ∷ plain ∷ []) (At at limit (p ∷ ts))))) a.are

  assigned_one : (reach : Option FarthestFailure) (at : ℕ) (limit : Option Told) (p : Token) (ts : List Token) (a : Assignment) → (a ≡ ShiftRightBy → ⊥)
      → assigned_by around (Some a) e reach p (At at limit (p ∷ ts)) ≡ try_as (tree.Assign a p e) (expr_in false around reach (At (suc at) limit ts))
  assigned_one reach at limit p ts a h = ap (λ k. try_as (tree.Assign a p e) (expr_in false around reach (passed (replicate k plain) (At at limit (p ∷ ts))))) (one_mark a h)

  good_assign : (a : Assignment) (p : Token) → Good (λ reach place. try_as (tree.Assign a p e) (expr_in false around reach place))
  good_assign a p = good_as (tree.Assign a p e) (expr_in false around) (good_expr false around)

  -- what is read behind `>>=` goes over each place up to there
  shift_past : (m : ℕ) (reach : Option FarthestFailure) (at : ℕ) (limit : Option Told) (p : Token) (ts : List Token) → IsAssignment p ts → Ended (p ∷ ts) → m < at + 3 → (w : FarthestFailure) → w.many ≡ m → Holds w (assigned_in around e reach (At at limit (p ∷ ts)))
  shift_past m reach at limit p ts a end h w is =
      subst (Holds w) (sym (assigned_shift reach at limit p ts a))
      ((good_assign ShiftRightBy p).keeps w (suc (suc (suc at))) limit a.others reach (others_ended p ts a end) (inr (omega (arith, is, h))))

abbrev NotedAt : Cursor → Type 0
NotedAt (At at limit ts) = Noted at limit

module _ (us us' : List Token) (m : ℕ) (end : Ended us) where
  -- what goes over the place follows whatever the other reads
  pub follows_past : {A : Type 0} (look look' : Try A) (at : ℕ) (limit : Option Told) → Rises at limit look' → ((w : FarthestFailure) → w.many ≡ m → Holds w look) → Follows us us' m end look look'
  follows_past look (Reads a (At at' limit' rest) reach) at limit r f = (r.2, past f)
  follows_past look (Stops reach) at limit r f = tt

  -- an expression with no assignment behind it
  always_alone : (b : Bool) (e : ExprTree) → Always us us' m end (alone_by b e) (alone_by b e)
  always_alone true e most = beside_end us us' m end (tree.CallStatement e)
  always_alone false e most = beside_refused us us' m end SimpleTree

  always_stepped : (e : ExprTree) → Always us us' m end (stepped_in e) (stepped_in e)
  always_stepped e most =
      let increments : Token → Reader SimpleTree = λ token reach place. Reads (tree.PostfixStep Increment e token) place reach in
      let decrements : Token → Reader SimpleTree = λ token reach place. Reads (tree.PostfixStep Decrement e token) place reach in
      let by_decrement : Reader SimpleTree = choice (is_sign "--") plain decrements (alone_by (is_call e) e) in
      beside_choice us us' m end (is_sign "++") plain increments increments by_decrement by_decrement refl (λ token. beside_end us us' m end (tree.PostfixStep Increment e token))
      (beside_choice us us' m end (is_sign "--") plain decrements decrements (alone_by (is_call e) e) (alone_by (is_call e) e) refl (λ token. beside_end us us' m end (tree.PostfixStep Decrement e token))
      (always_alone (is_call e) e most))

  always_assign : (around : Nesting) (e : ExprTree) (a : Assignment) (p : Token) → Always us us' m end (λ reach place. try_as (tree.Assign a p e) (expr_in false around reach place)) (λ reach place. try_as (tree.Assign a p e) (expr_in false around reach place))
  always_assign around e a p most = beside_as us us' m end (tree.Assign a p e) (expr_in false around) (expr_in false around) (always_expr us us' m end around most)

  module _ (around : Nesting) (e : ExprTree) (at : ℕ) (limit : Option Told) (reach reach' : Option FarthestFailure) (noted' : Noted at limit) where
    -- what stands behind an expression that ends in the front
    shift_no : (p : Token) (ts : List Token) (a : Assignment) → is_sign ">" (symbol p) ≡ false → assignment_at (p ∷ ts) ≡ Some a → a ≡ ShiftRightBy → ⊥
    shift_no p ts a g is twice =
        let text = written-some assignment_text assignments (sign_at (p ∷ ts)).0 a is ∙ ap (λ (a : Assignment). codes (assignment_text a)) twice in
        let parts = assign_parts p ts (ap (λ (text : List ℕ). bytes_eq text (codes ">>=")) text) in
        false≢true (sym g ∙ ap (is_sign ">") parts.first)

    other_mark : (o : Option Assignment) (p : Token) (front : List Token) → is_sign ">" (symbol p) ≡ false → assignment_at (p ∷ (front ++ us)) ≡ o → m ≡ at + suc (length front)
        → Follows us us' m end (assigned_by around o e reach p (At at limit (p ∷ (front ++ us)))) (assigned_by around o e reach' p (At at limit (p ∷ (front ++ us'))))
    other_mark None p front g o is =
        (always_stepped e (suc (length front))).local (suc (length front)) at limit (p ∷ (front ++ us)) (p ∷ (front ++ us')) reach reach' (le_refl (suc (length front))) is (one (front_share us us' m end front)) noted'
    other_mark (Some a) p front g o is =
        let no' = shift_no p (front ++ us) a g o in
        subst (λ look. Follows us us' m end look (assigned_by around (Some a) e reach' p (At at limit (p ∷ (front ++ us'))))) (sym (assigned_one around e reach at limit p (front ++ us) a no'))
        (subst (Follows us us' m end (try_as (tree.Assign a p e) (expr_in false around reach (At (suc at) limit (front ++ us))))) (sym (assigned_one around e reach' at limit p (front ++ us') a no'))
        ((always_assign around e a p (length front)).local (length front) (suc at) limit (front ++ us) (front ++ us') reach reach' (le_refl (length front)) (omega (arith, is)) (front_share us us' m end front)
        (noted_later limit at noted')))

    greater_mark : (p : Token) (front : List Token) → IsAssignment p (front ++ us) → IsAssignment p (front ++ us') → Ended (p ∷ (front ++ us)) → m ≡ at + suc (length front)
        → Follows us us' m end (assigned_in around e reach (At at limit (p ∷ (front ++ us)))) (assigned_in around e reach' (At at limit (p ∷ (front ++ us'))))
    greater_mark p [] a b end' is =
        follows_past (assigned_in around e reach (At at limit (p ∷ us))) (assigned_in around e reach' (At at limit (p ∷ us'))) at limit ((good_assigned around e).rises at limit (p ∷ us') reach' noted')
        (shift_past around e m reach at limit p us a end' (omega (arith, is)))
    greater_mark p (q ∷ []) a b end' is =
        follows_past (assigned_in around e reach (At at limit (p ∷ q ∷ us))) (assigned_in around e reach' (At at limit (p ∷ q ∷ us'))) at limit ((good_assigned around e).rises at limit (p ∷ q ∷ us') reach' noted')
        (shift_past around e m reach at limit p (q ∷ us) a end' (omega (arith, is)))
    greater_mark p (q ∷ r ∷ front) a b end' is =
        let behind = (heads r a.third (front ++ us) a.others (heads q a.second (r ∷ (front ++ us)) (a.third ∷ a.others) a.are).1).1 in
        let behind' = (heads r b.third (front ++ us') b.others (heads q b.second (r ∷ (front ++ us')) (b.third ∷ b.others) b.are).1).1 in
        let at' = suc (suc (suc at)) in
        subst (λ look. Follows us us' m end look (assigned_in around e reach' (At at limit (p ∷ q ∷ r ∷ (front ++ us')))))
        (ap (λ ts. try_as (tree.Assign ShiftRightBy p e) (expr_in false around reach (At at' limit ts))) behind ∙ sym (assigned_shift around e reach at limit p (q ∷ r ∷ (front ++ us)) a))
        (subst (Follows us us' m end (try_as (tree.Assign ShiftRightBy p e) (expr_in false around reach (At at' limit (front ++ us)))))
        (ap (λ ts. try_as (tree.Assign ShiftRightBy p e) (expr_in false around reach' (At at' limit ts))) behind' ∙ sym (assigned_shift around e reach' at limit p (q ∷ r ∷ (front ++ us')) b))
        ((always_assign around e ShiftRightBy p (length front)).local (length front) at' limit (front ++ us) (front ++ us') reach reach' (le_refl (length front)) (omega (arith, is)) (front_share us us' m end front)
        (noted_up at at' limit (omega arith) noted')))

    mark_by : (b : Bool) (p : Token) (front : List Token) → is_sign ">" (symbol p) ≡ b → expr_goes_on (p ∷ (front ++ us)) ≡ false → expr_goes_on (p ∷ (front ++ us')) ≡ false → Ended (p ∷ (front ++ us)) → m ≡ at + suc (length front)
        → Follows us us' m end (assigned_in around e reach (At at limit (p ∷ (front ++ us)))) (assigned_in around e reach' (At at limit (p ∷ (front ++ us'))))
    mark_by true p front g goes goes' end' is =
        let first = is_sign-true ">" (symbol p) g in
        greater_mark p front (assign_parts p (front ++ us) (greater_assigns p (front ++ us) first goes)) (assign_parts p (front ++ us') (greater_assigns p (front ++ us') first goes')) end' is
    mark_by false p front g goes goes' end' is =
        let same_mark : assignment_at (p ∷ (front ++ us)) ≡ assignment_at (p ∷ (front ++ us')) = ap (written assignment_text assignments) (sign_same p (front ++ us) (front ++ us') g) in
        subst (λ o. Follows us us' m end (assigned_in around e reach (At at limit (p ∷ (front ++ us)))) (assigned_by around o e reach' p (At at limit (p ∷ (front ++ us'))))) same_mark
        (other_mark (assignment_at (p ∷ (front ++ us))) p front g refl is)

    behind_front : (front : List Token) → expr_goes_on (front ++ us) ≡ false → expr_goes_on (front ++ us') ≡ false → m ≡ at + length front
        → Follows us us' m end (assigned_in around e reach (At at limit (front ++ us))) (assigned_in around e reach' (At at limit (front ++ us')))
    behind_front [] goes goes' is = follows_place us us' m end (assigned_in around e) (assigned_in around e) (good_assigned around e) (good_assigned around e) at limit reach reach' (omega (arith, is)) noted'
    behind_front (p ∷ front) goes goes' is =
        mark_by (is_sign ">" (symbol p)) p front refl goes goes' (share_ended us us' m end (front_share us us' m end (p ∷ front))) is

  -- an expression with what stands behind it
  module _ (around : Nesting) where
    abbrev by_expr : Reader SimpleTree
    by_expr reach place = try_then (assigned_in around) (expr_in true around reach place)

    good_by : Good by_expr
    good_by = good_then (assigned_in around) (expr_in true around) (good_expr true around) (λ e. good_assigned around e)

    across_follows : (look : Try ExprTree) (e : ExprTree) (n : ℕ) (limit : Option Told) (rest : List Token) (s : Option FarthestFailure) → Across m n rest → Noted n limit → ((w : FarthestFailure) → WayTo m limit us w → Holds w look)
        → Follows us us' m end (try_then (assigned_in around) look) (assigned_in around e s (At n limit rest))
    across_follows look e n limit [] s a h holds = absurd (false≢true a.sign)
    across_follows look e n limit (p ∷ rest) s a h holds =
        let parts = assign_parts p rest a.sign in
        let at' = suc (suc (suc n)) in
        subst (Follows us us' m end (try_then (assigned_in around) look)) (sym (assigned_shift around e s n limit p rest parts))
        (then_told us us' m end (assigned_in around) look (try_as (tree.Assign ShiftRightBy p e) (expr_in false around s (At at' limit parts.others))) at' limit (omega (arith, a.upto)) (λ e. (good_assigned around e).keeps) holds
        ((good_assign around e ShiftRightBy p).rises at' limit parts.others s (noted_up n at' limit (omega arith) h)))

    over_follows : (look : Try ExprTree) (look' : Try SimpleTree) (low : ℕ) (limit' : Option Told) (e : ExprTree) (at : ℕ) (limit : Option Told) (rest : List Token) (r : Option FarthestFailure) → look ≡ Reads e (At at limit rest) r → Ended rest → Across m at rest → Rises low limit' look'
        → Follows us us' m end (try_then (assigned_in around) look) look'
    over_follows look look' low limit' e at limit [] r look_is end' a up = absurd end'
    over_follows look look' low limit' e at limit (p ∷ rest) r look_is end' a up =
        subst (λ look. Follows us us' m end (try_then (assigned_in around) look) look') (sym look_is)
        (follows_past (assigned_in around e r (At at limit (p ∷ rest))) look' low limit' up (shift_past around e m r at limit p rest (assign_parts p rest a.sign) end' a.upto))

    goes_follows : (look : Try ExprTree) (long long' : Option Told) (e : ExprTree) (n : ℕ) (lf : Option Told) (rest : List Token) (s : Option FarthestFailure) → ((k : ℕ) → k ≤ m → before k long ≡ before k long') → expr_goes_on rest ≡ false
        → Noted n (earlier lf (before n long')) → Goes true long us us' m e n lf rest look
        → Follows us us' m end (try_then (assigned_in around) look) (assigned_in around e s (At n (earlier lf (before n long')) rest))
    goes_follows look long long' e n lf rest s agree ended h (as_other front r rest_is is goes look_is) =
        let limit' = earlier lf (before n long') in
        let look_same : look ≡ Reads e (At n limit' (front ++ us)) r = look_is ∙ ap (λ l. Reads e (At n (earlier lf l) (front ++ us)) r) (agree n (omega (arith, is))) in
        subst (λ look. Follows us us' m end (try_then (assigned_in around) look) (assigned_in around e s (At n limit' rest))) (sym look_same)
        (subst (λ rest. Follows us us' m end (assigned_in around e r (At n limit' (front ++ us))) (assigned_in around e s (At n limit' rest))) (sym rest_is)
        (behind_front around e n limit' r s h front goes (subst (λ rest. expr_goes_on rest ≡ false) rest_is ended) is))
    goes_follows look long long' e n lf rest s agree ended h (ends_at b l r look_is up g w) =
        let limit' = earlier l (before m long) in
        let noted' = earlier_noted m l long (within_noted us us' m end l w) in
        subst (λ look. Follows us us' m end (try_then (assigned_in around) look) (assigned_in around e s (At n (earlier lf (before n long')) rest))) (sym look_is)
        (follows_here us us' m end (assigned_in around b r (At m limit' us)) limit' (assigned_in around e s (At n (earlier lf (before n long')) rest)) noted' ((good_assigned around b).fronts m limit' us r end) n (earlier lf (before n long')) up
        (ends_same us us' m end long long' n lf l agree up g w) ((good_assigned around e).rises n (earlier lf (before n long')) rest s h))
    goes_follows look long long' e n lf rest s agree ended h (told_at limit least t ts r many told_is holds g w least_of (inl up)) =
        then_told us us' m end (assigned_in around) look (assigned_in around e s (At n (earlier lf (before n long')) rest)) n (earlier lf (before n long')) up (λ e. (good_assigned around e).keeps)
        (way_holds us us' m end look long long' n lf limit least t ts r agree many told_is holds g w least_of) ((good_assigned around e).rises n (earlier lf (before n long')) rest s h)
    goes_follows look long long' e n lf rest s agree ended h (told_at limit least t ts r many told_is holds g w least_of (inr (yes', across))) =
        across_follows look e n (earlier lf (before n long')) rest s across h (way_holds us us' m end look long long' n lf limit least t ts r agree many told_is holds g w least_of)
    goes_follows look long long' e n lf rest s agree ended h (past_all f) =
        then_past us us' m end (assigned_in around) look (assigned_in around e s (At n (earlier lf (before n long')) rest)) n (earlier lf (before n long')) (λ e. (good_assigned around e).keeps) f
        ((good_assigned around e).rises n (earlier lf (before n long')) rest s h)
    goes_follows look long long' e n lf rest s agree ended h (over b at' limit' left r look_is end' yes' across) =
        over_follows look (assigned_in around e s (At n (earlier lf (before n long')) rest)) n (earlier lf (before n long')) b at' limit' left r look_is end' across
        ((good_assigned around e).rises n (earlier lf (before n long')) rest s h)

    by_look : (n at : ℕ) (limit : Option Told) (p : Token) (ts ts' : List Token) (reach reach' : Option FarthestFailure) → m ≡ at + suc n → Share us us' m end n ts ts' → Noted at limit
        → (look' : Try ExprTree) → expr_in true around reach' (At at limit (p ∷ ts')) ≡ look' → Rises at limit look'
        → Follows us us' m end (try_then (assigned_in around) (expr_in true around reach (At at limit (p ∷ ts)))) (try_then (assigned_in around) look')
    by_look n at limit p ts ts' reach reach' is share h (Stops r) look_is up = tt
    by_look n at limit p ts ts' reach reach' is share h (Reads e (At at' limit' left) s) look_is up =
        let look = expr_in true around reach (At at limit (p ∷ ts)) in
        let g = goes_by us us' m end true around n at limit p ts ts' reach reach' e (At at' limit' left) s is share h look_is in
        subst (λ place. Follows us us' m end (try_then (assigned_in around) look) (assigned_in around e s place)) (sym g.is)
        (goes_follows look g.long g.long' e g.n g.lf g.rest s g.agree g.ended (subst NotedAt g.is up.2) g.goes)

    by_local : (most : ℕ) → Local us us' m end most by_expr by_expr
    by_local most zero at limit ts ts' reach reach' few is here h = follows_place us us' m end by_expr by_expr good_by good_by at limit reach reach' (omega (arith, is)) h
    by_local most (suc n) at limit ts ts' reach reach' few is (one {t = p} {ts = rest} {ts' = rest'} share) h =
        by_look n at limit p rest rest' reach reach' is share h (expr_in true around reach' (At at limit (p ∷ rest'))) refl ((good_expr true around).rises at limit (p ∷ rest') reach' h)

  -- simple statements
  pub always_simple : (around : Nesting) → Always us us' m end (simple_in around) (simple_in around)
  always_simple around most =
      let increments : Token → Reader SimpleTree = λ token reach place. try_as (tree.PrefixStep Increment token) (expr_in false around reach place) in
      let decrements : Token → Reader SimpleTree = λ token reach place. try_as (tree.PrefixStep Decrement token) (expr_in false around reach place) in
      let by_decrement : Reader SimpleTree = choice (is_sign "--") plain decrements (by_expr around) in
      beside_choice us us' m end (is_sign "++") plain increments increments by_decrement by_decrement refl
      (λ token. beside_as us us' m end (tree.PrefixStep Increment token) (expr_in false around) (expr_in false around) (always_expr us us' m end around (most - 1)))
      (beside_choice us us' m end (is_sign "--") plain decrements decrements (by_expr around) (by_expr around) refl
      (λ token. beside_as us us' m end (tree.PrefixStep Decrement token) (expr_in false around) (expr_in false around) (always_expr us us' m end around (most - 1)))
      (record { this = good_by around; that = good_by around; local = by_local around most }))
