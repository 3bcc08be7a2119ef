-- The machine in front of tokens goes as it does in front of other tokens with the same front, or leaves a way there.
use Rattle.std.proofs.Common.{◌≡◌, inl, inr, ⊎_elim, ℕ, zero, suc, ◌+◌, ◌<◌, ◌≤◌, Bool, true, false, List, [], ◌∷◌, ◌++◌, length, refl, sym, ap, subst, ◌∙◌, codes, arith, length-append, append_assoc, append-nil}
use Rattle.std.specs.Prelude.{Option, Some, None}
use Rattle.std.specs.Str.{bytes_eq}
use Rattle.std.proofs.lemmas.Bool.{false≢true}
use Rattle.def_token.specs.Lexical.{Token}
use Rattle.def_tree.specs.ExprTree as tree
use Rattle.def_tree.specs.ExprTree.{ExprTree}
use Rattle.def_tree.specs.Expressions.{LeadsOn, TakesTypeArgs}
use Rattle.def_tree.specs.Limits.{Nesting, plain, operator_tokens}
use Rattle.def_tree.specs.Operator.{Operator, operator_text, Greater, GreaterEqual, ShiftRight, level, SignAt, sign_at, joins}
use Rattle.def_tree.specs.Part.{expr_goes_on}
use Rattle.def_tree.specs.Statements.{begins_with}
use Rattle.def_tree.specs.Symbol.{End, symbol, is_sign, Is, IsName}
use Rattle.def_tree.specs.TypeTree.{TypeTrees, NoTypes}
use Rattle.law_tree.proofs.Covered.{operator_covered}
use Rattle.law_tree.proofs.Symbols.{is_sign-true}
use Rattle.def_reading.specs.Cursor.{Told, At, noted, passed, before, earlier, told_by, FarthestFailure, reach_at, further}
use Rattle.def_reading.specs.TypeAhead.{LookAhead, Found, Missing, taken_ahead}
use Rattle.def_reading.specs.TypeReading.{Ended}
use Rattle.def_reading.specs.Machine.{Frame, Left, InCall, Mode, Expected, Value, Dotted, Step, On, Held, nesting, bracket_opens, bound, whole, may_assign, assign_by, name_by, step_by, step_at}
use Rattle.def_reading.specs.Try.{Try, Reads, way_by, assign_ends, refused_in, end_by, run_by, run, finished}
use Rattle.law_types.proofs.AheadFaults.{Within, a_limit, Grows, same_limit, grows_more, drive_grows, args_go, missing_dies, dead_none, Splits, longer, shorter, splits, heads, meets}
use Rattle.law_types.proofs.AheadSound.{SoundLook, taken_sound, taken_found}
use Rattle.law_types.proofs.AheadStages.{Dies, ended_alive}
use Rattle.law_exprs.proofs.ExprHolds.{EndedStep, step_ended, run_holds}
use Rattle.law_exprs.proofs.ExprWays.{noted_within, before_within, above_less, Across, Goes, as_other, ends_at, told_at, past_all, over, goes_same, assign_goes, greater_assigns, assign_parts, assign_none, assign_some, ends_goes, finish_there, finish_rest, finish_one}
use Rattle.law_types.proofs.LimitSpots.{same_place}
use Rattle.law_machine.proofs.MachineComplete.{config}
use Rattle.law_machine.proofs.MachineGrows.{Finishes, finishes_grows, GrowsStep, step_grows_at, Above, above_second, args_place, args_exact, replicated}
use Rattle.law_machine.proofs.MachineKinds.{Kind, uniform, bare, without, generic, operates, ends, stuck, stuck_behind, exhausted, kind_of, sign_no_end}
use Rattle.law_machine.proofs.MachineOpenEnds.{step_cons, operates_so, name_grows, OpenEnd, assign_ends as assign_end, open_two, open_one}
use Rattle.law_machine.proofs.MachineRun.{left, step_shorter, Shortens, ends_step}
use Rattle.law_machine.proofs.MachineWays.{way_at, behind_step, no_refusal, drive_within}
use Rattle.law_machine.proofs.SignParts.{SignParts, one_token, greater, greater_equal, shift, sign_parts, NoEqual, greater_sign, equal_sign, shift_sign, joins_no_end}
use Rattle.law_machine.proofs.SignsBehind.{IsAssignment}
use Rattle.law_types.proofs.Stopping.{ended_behind}
use Rattle.law_exprs.proofs.TryComes.{Noted, noted_stays}
use Rattle.law_exprs.proofs.TryHolds.{stop_way}
use Rattle.law_types.proofs.TypeStable.{cancel, takes_stable}
use Rattle.law_types.proofs.TypeStages.{Stage, Head, Closed, drive}

held_apart : (held : Held) (e e' : ExprTree) (frame : Frame) (frames : List Frame) → held ≡ (e, []) → held ≡ (e', frame ∷ frames) → ⊥
held_apart held e e' frame frames h k = let same : [] ≡ frame ∷ frames = ap (λ (x : Held). x.1) (sym h ∙ k) in cc

some_pair_of : (s s' : Stage) (l l' : Option Told) (o : Option (Stage × Option Told)) → o ≡ Some (s, l) → o ≡ Some (s', l') → l ≡ l'
some_pair_of s s' l l' o h k = some_limits (s, l) (s', l') (sym h ∙ k)
  where
    some_limits : (p q : Stage × Option Told) → Some p ≡ Some q → p.1 ≡ q.1
    some_limits p q h = let same : p ≡ q = cc in ap (λ (x : Stage × Option Told). x.1) same

way_expected : (b : Bool) (other : Option FarthestFailure) → way_by b Expected other ≡ other
way_expected true other = refl
way_expected false other = refl

-- The way of another tree, step by step.
module _ (around : Nesting) (assigns' : Bool) (long : Option Told) (us us' : List Token) (m : ℕ) (e : ExprTree) (n : ℕ) (lf : Option Told) (rest' : List Token) (free : assign_ends assigns' rest' ≡ false) where
  abbrev Other : List Frame → Mode → ℕ → Option Told → List Token → Type 0
  Other fs mode at limit toks = Finishes around long (config fs mode at limit toks) e n lf rest'

  abbrev Ways : Try ExprTree → Type 0
  Ways look = Goes assigns' long us us' m e n lf rest' look

  abbrev runs : ℕ → Option FarthestFailure → List Frame → Mode → ℕ → Option Told → List Token → Try ExprTree
  runs turns reach fs mode at limit ts = run around assigns' long turns reach (config fs mode at limit ts)

  abbrev stepped : ℕ → Mode → Option FarthestFailure → Step → Try ExprTree
  stepped turns mode reach s = run_by around assigns' long (run around assigns' long turns) mode reach s

  abbrev WaysIn : ℕ → Type 0
  WaysIn turns = (reach : Option FarthestFailure) (fs : List Frame) (mode : Mode) (at : ℕ) (limit : Option Told) (front : List Token)
      → length (front ++ us) < turns → Ended (front ++ us) → Within at limit → Other fs mode at limit (front ++ us') → m ≡ at + length front → Ways (runs turns reach fs mode at limit (front ++ us))

  -- behind the place
  later : (turns : ℕ) (reach : Option FarthestFailure) (fs : List Frame) (mode : Mode) (at : ℕ) (limit : Option Told) (ts : List Token) → Ended ts → m < at → Ways (runs turns reach fs mode at limit ts)
  later turns reach fs mode at limit ts end h = past_all (λ w is. run_holds around assigns' long turns w reach fs mode at limit ts end (inr (omega (arith, h, is))))

  refused_later : (reach : Option FarthestFailure) (at : ℕ) (limit : Option Told) (ts : List Token) → Ended ts → m < at → Ways (refused_in around assigns' long reach (At at limit ts))
  refused_later reach at limit ts end h = past_all (λ w is. stop_way w long at at (before at limit) ts reach end (inr (omega (arith, h, is))))

  -- at the place
  refused_here : (reach : Option FarthestFailure) (at : ℕ) (limit : Option Told) (t : Token) (ts : List Token) → at ≡ m → Within at limit → m ≤ n → Grows at limit lf → Ways (refused_in around assigns' long reach (At at limit (t ∷ ts)))
  refused_here reach at limit t ts is w up g =
      let same = before_within at limit w in
      let way = way_at long at at (before at limit) t ts in
      told_at limit m t ts way.reach (way.many ∙ is)
      (subst (λ m. told_by (earlier limit (before m long)) m (t ∷ ts) ≡ Some way.reach.told) is (subst (λ l. told_by (earlier l (before at long)) at (t ∷ ts) ≡ Some way.reach.told) same way.told))
      (subst (λ o. Above way.reach (further reach o)) (sym way.is) (above_second reach way.reach))
      (subst (λ k. Grows k limit lf) is g) (subst (λ k. Within k limit) is w) (inl (up, refl)) (inl up)

  -- `>>=` in front of which nothing ends
  record Shifted (at : ℕ) (limit : Option Told) (ts : List Token) : Type 0 where
    third : Token
    others : List Token
    on : passed (plain ∷ plain ∷ []) (At at limit ts) ≡ At (suc (suc at)) limit (third ∷ others)
    ended : Ended (third ∷ others)

  shifted : (at : ℕ) (limit : Option Told) (t : Token) (ts : List Token) → IsAssignment t ts → Ended (t ∷ ts) → Shifted at limit (t ∷ ts)
  shifted at limit t ts a end =
      record {
        third = a.third;
        others = a.others;
        on = ap (λ ts. passed (plain ∷ plain ∷ []) (At at limit (t ∷ ts))) a.are;
        ended = ended_behind a.second (a.third ∷ a.others) (joins_no_end t a.second ">" a.shifts) (subst Ended a.are (ended_behind t ts (sign_no_end t _ a.first) end));
      }

  shift_later : (reach : Option FarthestFailure) (at : ℕ) (limit : Option Told) (ts : List Token) → Shifted at limit ts → m < suc (suc at) → Ways (refused_in around assigns' long reach (passed (plain ∷ plain ∷ []) (At at limit ts)))
  shift_later reach at limit ts s h = subst (λ place. Ways (refused_in around assigns' long reach place)) (sym s.on) (refused_later reach (suc (suc at)) limit (s.third ∷ s.others) s.ended h)

  end_here : (b : Bool) (reach : Option FarthestFailure) (e' : ExprTree) (at : ℕ) (limit : Option Told) (ts : List Token) → assign_ends assigns' ts ≡ b → Ended ts → at ≡ m → ts ≡ us → Within at limit → m ≤ n → Grows at limit lf
      → Ways (end_by around assigns' long b reach e' (At at limit ts))
  end_here false reach e' at limit ts b end is are w up g =
      ends_at e' limit reach (ap (λ at. Reads e' (finished long (At at limit ts)) reach) is ∙ ap (λ ts. Reads e' (finished long (At m limit ts)) reach) are) up
      (subst (λ k. Grows k limit lf) is g) (subst (λ k. Within k limit) is w)
  end_here true reach e' at limit [] b end is are w up g = absurd end
  end_here true reach e' at limit (t ∷ ts) b end is are w up g =
      shift_later reach at limit (t ∷ ts) (shifted at limit t ts (assign_parts t ts (assign_some assigns' (t ∷ ts) b).1) end) (omega (arith, is))

  here_by : {fs : List Frame} {mode' : Mode} {at : ℕ} {limit : Option Told} {ts : List Token} {s : Step} (turns : ℕ) (reach : Option FarthestFailure) (mode : Mode) → Kind around long fs mode' at limit ts s → GrowsStep at limit ts s → EndedStep at s → Ended ts
      → at ≡ m → ts ≡ us → Within at limit → m ≤ n → Grows at limit lf → Ways (stepped turns mode reach s)
  here_by turns reach mode (uniform {at = at} {limit = limit} {t = t} {ts = ts} fs' mode' en no_end fits each) g ended end is are w up grown =
      later turns (further reach (way_by assigns' mode None)) fs' mode' (suc at) (noted limit en at t) ts ended (omega (arith, is))
  here_by turns reach mode (bare {fs = fs} {at = at} {limit = limit} {t = t} {ts = ts} h l) g ended end is are w up grown =
      later turns (further reach (way_by assigns' mode None)) fs (Value (tree.Name t NoTypes)) (suc at) limit ts ended (omega (arith, is))
  here_by turns reach mode (without {fs = fs} {at = at} {limit = limit} {t = t} {ts = ts} h l none at' limit' rest look) g ended end is are w up grown =
      later turns (further reach (way_by assigns' mode (reach_at long at' (At at' limit' rest)))) fs (Value (tree.Name t NoTypes)) (suc at) limit ts ended (omega (arith, is))
  here_by turns reach mode (generic {fs = fs} {t = t} h l args at' limit' rest takes look) g ended end is are w up grown =
      later turns (further reach (way_by assigns' mode None)) fs (Value (tree.Name t args)) at' limit' rest ended (omega (arith, is, g.0))
  here_by turns reach mode (operates {fs = fs} {at = at} {limit = limit} {t = t} {v = v} op behind next sign passes) g ended end is are w up grown =
      later turns (further reach (way_by assigns' mode (assign_by around long (may_assign op (whole v fs)) at (At next limit behind)))) (Left (bound (level op) v fs).0 op t ∷ (bound (level op) v fs).1) Expected next limit behind ended
      (omega (arith, is, g.0))
  here_by turns reach mode (ends {at = at} {limit = limit} {ts = ts} {e = e'} wh end') g ended end is are w up grown = end_here (assign_ends assigns' ts) reach e' at limit ts refl end is are w up grown
  here_by turns reach mode (stuck {at = at} {limit = limit} {t = t} {ts = ts} each) g ended end is are w up grown = refused_here reach at limit t ts is w up grown
  here_by turns reach mode (stuck_behind {at = at} {limit = limit} p q others wh g' j k are') g ended end is are w up grown = refused_later reach (suc (suc at)) limit (q ∷ others) ended.0 (omega (arith, is))
  here_by turns reach mode exhausted g ended end is are w up grown = absurd end

  here : (turns : ℕ) (reach : Option FarthestFailure) (fs : List Frame) (mode : Mode) (at : ℕ) (limit : Option Told) → length us < turns → Ended us → at ≡ m → Within at limit → m ≤ n → Grows at limit lf → Ways (runs turns reach fs mode at limit us)
  here zero reach fs mode at limit few end is w up g = absurd (omega (arith, few))
  here (suc turns) reach fs mode at limit few end is w up g =
      let kind = kind_of around long mode fs at limit us in
      here_by turns reach mode kind (step_grows_at around long mode fs at limit us) (step_ended around long kind end) end is refl w up g

  less_is : (o : Token) (toks : List Token) → begins_with "<" (o ∷ toks) ≡ true → Is "<" o
  less_is o toks h = is_sign-true "<" (symbol o) h

  -- a name without `<` behind it
  bare_way : (turns : ℕ) (reach : Option FarthestFailure) (fs : List Frame) (at : ℕ) (limit : Option Told) (p : Token) (front : List Token) → IsName p → begins_with "<" (front ++ us) ≡ false
      → length (front ++ us) < turns → Ended (front ++ us) → Noted at limit
      → Other fs Expected at limit (p ∷ (front ++ us')) → m ≡ at + suc (length front) → WaysIn turns → Ways (runs turns reach fs (Value (tree.Name p NoTypes)) (suc at) limit (front ++ us))
  bare_way turns reach fs at limit p [] h l few end w f is ways =
      let g = name_grows around long h f in
      here turns reach fs (Value (tree.Name p NoTypes)) (suc at) limit few end (omega (arith, is)) (noted_within at (suc at) limit (omega arith) w) (omega (arith, g.0, is)) g.1
  bare_way turns reach fs at limit p (q ∷ front) h l few end w f is ways =
      ways reach fs (Value (tree.Name p NoTypes)) (suc at) limit (q ∷ front) few end (noted_within at (suc at) limit (omega arith) w)
      (behind_step around long None (config fs (Value (tree.Name p NoTypes)) (suc at) limit (q ∷ (front ++ us'))) f (rw (h, l) refl)) (omega (arith, is))

  -- a name whose type arguments are missed, where the other tokens have some
  without_by : (turns : ℕ) (reach : Option FarthestFailure) (fs : List Frame) (at : ℕ) (limit : Option Told) (p o : Token) (front : List Token) (at' : ℕ) (limit' : Option Told) (t : Token) (others : List Token)
      → (d : Dies (Head (nesting around fs).types zero) (suc (suc at)) limit (front ++ us) at' limit' (t ∷ others)) → Ended (o ∷ (front ++ us))
      → ((w : FarthestFailure) → reach_at long at' (At at' limit' (t ∷ others)) ≡ Some w → Above w reach)
      → Noted at limit → m ≡ at + suc (suc (length front)) → (args : TypeTrees) (a : ℕ) (l : Option Told) (r : List Token) → (takes : TakesTypeArgs (o ∷ (front ++ us')) args r)
      → taken_ahead (nesting around fs).types (suc at) limit (o ∷ (front ++ us')) ≡ Found args (At a l r) → (a ≤ n) × Grows a l lf
      → Splits d.alive.piece (t ∷ others) front us → Ways (runs turns reach fs (Value (tree.Name p NoTypes)) (suc at) limit (o ∷ (front ++ us)))
  without_by turns reach fs at limit p o front at' limit' t others d end told w is args a l r takes look g (shorter u mid piece_is rest_is) =
      absurd (dead_none o u (mid ++ us) (mid ++ us') d rest_is args r
      (subst (λ toks. TakesTypeArgs (o ∷ toks) args r) (ap (λ front. front ++ us') piece_is ∙ append_assoc d.alive.piece (u ∷ mid) us') takes))
  without_by turns reach fs at limit p o front at' limit' t others d end told w is args a l r takes look g (longer [] piece_is rest_is) =
      let types = (nesting around fs).types in
      let piece : d.alive.piece ≡ front = piece_is ∙ append-nil front in
      let here : at' ≡ m = omega (arith, d.alive.is_at, ap length piece, is) in
      let way = way_at long at' at' limit' t others in
      let c = args_go takes types (suc at) limit in
      let exact = args_exact types (suc at) limit takes a l look in
      let meet = meets (Head types zero) d.stage' (suc (suc at)) limit limit' c.pieces.limit' front us' c.pieces.piece r c.pieces.are
      (subst (λ piece. drive (Head types zero) (suc (suc at)) limit piece ≡ Some (d.stage', limit')) piece d.alive.drives.is) c.pieces.drives.is in
      let upto : at' ≤ a = omega (arith, d.alive.is_at, ap length piece, exact.0, c.pieces.is_at, ap length meet.is, length-append front meet.more) in
      let grown : Grows at' limit' l = subst (Grows at' limit') (sym exact.1)
      (subst (λ k. Grows k limit' c.pieces.limit') (omega (arith, d.alive.is_at, ap length piece)) (drive_grows d.stage' Closed (suc (suc at) + length front) limit' c.pieces.limit' meet.more meet.drives)) in
      let within : Within at' limit' = subst (λ k. Within k limit') (sym d.alive.is_at)
      (drive_within (Head types zero) d.stage' (suc (suc at)) limit limit' d.alive.piece d.alive.drives.is (noted_within at (suc (suc at)) limit (omega arith) w)) in
      told_at limit' m t others way.reach (way.many ∙ here)
      (subst (λ m. told_by (earlier limit' (before m long)) m (t ∷ others) ≡ Some way.reach.told) here way.told)
      (run_holds around assigns' long turns way.reach reach fs (Value (tree.Name p NoTypes)) (suc at) limit (o ∷ (front ++ us)) end (inl (told way.reach way.is)))
      (subst (λ k. Grows k limit' lf) here (grows_more at' a limit' l lf upto grown g.1)) (subst (λ k. Within k limit') here within) (inl (omega (arith, upto, g.0, here), refl)) (inl (omega (arith, upto, g.0, here)))
  without_by turns reach fs at limit p o front at' limit' t others d end told w is args a l r takes look g (longer (u ∷ mid) piece_is rest_is) =
      let way = way_at long at' at' limit' t others in
      past_all (λ v same.
      let less : v.many < way.reach.many = omega (arith, same, way.many, is, d.alive.is_at, ap length piece_is, length-append front (u ∷ mid)) in
      run_holds around assigns' long turns v reach fs (Value (tree.Name p NoTypes)) (suc at) limit (o ∷ (front ++ us)) end (inl (above_less v way.reach reach less (told way.reach way.is))))

  without_rest : (turns : ℕ) (reach : Option FarthestFailure) (fs : List Frame) (at : ℕ) (limit : Option Told) (p o : Token) (front : List Token) (at' : ℕ) (limit' : Option Told) (left : List Token)
      → (d : Dies (Head (nesting around fs).types zero) (suc (suc at)) limit (front ++ us) at' limit' left) → Ended left → Ended (o ∷ (front ++ us))
      → ((w : FarthestFailure) → reach_at long at' (At at' limit' left) ≡ Some w → Above w reach)
      → Noted at limit → m ≡ at + suc (suc (length front)) → (args : TypeTrees) (a : ℕ) (l : Option Told) (r : List Token) → (takes : TakesTypeArgs (o ∷ (front ++ us')) args r)
      → taken_ahead (nesting around fs).types (suc at) limit (o ∷ (front ++ us')) ≡ Found args (At a l r) → (a ≤ n) × Grows a l lf → Ways (runs turns reach fs (Value (tree.Name p NoTypes)) (suc at) limit (o ∷ (front ++ us)))
  without_rest turns reach fs at limit p o front at' limit' [] d end end' told w is args a l r takes look g = absurd end
  without_rest turns reach fs at limit p o front at' limit' (t ∷ others) d end end' told w is args a l r takes look g =
      without_by turns reach fs at limit p o front at' limit' t others d end' told w is args a l r takes look g (splits d.alive.piece (t ∷ others) front us (sym d.alive.are))

  without_look : (turns : ℕ) (reach : Option FarthestFailure) (fs : List Frame) (at : ℕ) (limit : Option Told) (p o : Token) (front : List Token) (at' : ℕ) (limit' : Option Told) (left : List Token) → IsName p → (less : begins_with "<" (o ∷ (front ++ us)) ≡ true)
      → taken_ahead (nesting around fs).types (suc at) limit (o ∷ (front ++ us)) ≡ Missing (At at' limit' left)
      → ((w : FarthestFailure) → reach_at long at' (At at' limit' left) ≡ Some w → Above w reach)
      → length (o ∷ (front ++ us)) < turns → Ended (o ∷ (front ++ us)) → Noted at limit → Other fs Expected at limit (p ∷ o ∷ (front ++ us')) → m ≡ at + suc (suc (length front)) → WaysIn turns
      → (look : LookAhead TypeTrees) → taken_ahead (nesting around fs).types (suc at) limit (o ∷ (front ++ us')) ≡ look → SoundLook TakesTypeArgs (o ∷ (front ++ us')) look
      → Ways (runs turns reach fs (Value (tree.Name p NoTypes)) (suc at) limit (o ∷ (front ++ us)))
  without_look turns reach fs at limit p o front at' limit' left h less missing told few end w f is ways (Found args (At a l r)) look takes =
      let d = missing_dies (nesting around fs).types (suc at) limit o (front ++ us) (less_is o (front ++ us) less) end at' limit' left missing in
      let g = finishes_grows (behind_step around long None (config fs (Value (tree.Name p args)) a l r) f
      (rw (h, less) (ap (λ look. name_by around long look fs p (At (suc at) limit (o ∷ (front ++ us')))) look))) in
      without_rest turns reach fs at limit p o front at' limit' left d (ended_alive d.alive (ended_behind o (front ++ us) (sign_no_end o _ (less_is o (front ++ us) less)) end)) end told w is args a l r takes look g
  without_look turns reach fs at limit p o front at' limit' left h less missing told few end w f is ways (Missing (At a l r)) look takes =
      ways reach fs (Value (tree.Name p NoTypes)) (suc at) limit (o ∷ front) few end (noted_within at (suc at) limit (omega arith) w)
      (behind_step around long (reach_at long a (At a l r)) (config fs (Value (tree.Name p NoTypes)) (suc at) limit (o ∷ (front ++ us'))) f
      (rw (h, less) (ap (λ look. name_by around long look fs p (At (suc at) limit (o ∷ (front ++ us')))) look))) (omega (arith, is))

  without_way : (turns : ℕ) (reach : Option FarthestFailure) (fs : List Frame) (at : ℕ) (limit : Option Told) (p : Token) (front : List Token) (at' : ℕ) (limit' : Option Told) (left : List Token) → IsName p → begins_with "<" (front ++ us) ≡ true
      → taken_ahead (nesting around fs).types (suc at) limit (front ++ us) ≡ Missing (At at' limit' left)
      → ((w : FarthestFailure) → reach_at long at' (At at' limit' left) ≡ Some w → Above w reach)
      → length (front ++ us) < turns → Ended (front ++ us) → Noted at limit → Other fs Expected at limit (p ∷ (front ++ us')) → m ≡ at + suc (length front) → WaysIn turns
      → Ways (runs turns reach fs (Value (tree.Name p NoTypes)) (suc at) limit (front ++ us))
  without_way turns reach fs at limit p [] at' limit' left h less missing told few end w f is ways =
      let g = name_grows around long h f in
      here turns reach fs (Value (tree.Name p NoTypes)) (suc at) limit few end (omega (arith, is)) (noted_within at (suc at) limit (omega arith) w) (omega (arith, g.0, is)) g.1
  without_way turns reach fs at limit p (o ∷ front) at' limit' left h less missing told few end w f is ways =
      without_look turns reach fs at limit p o front at' limit' left h less missing told few end w f is ways
      (taken_ahead (nesting around fs).types (suc at) limit (o ∷ (front ++ us'))) refl
      (taken_sound (nesting around fs).types (suc at) limit o (front ++ us') (less_is o (front ++ us) less))

  -- a name with type arguments, and a token behind them
  lead_on : (turns : ℕ) (reach : Option FarthestFailure) (fs : List Frame) (v : ExprTree) (at : ℕ) (limit : Option Told) (t : Token) (behind : List Token) → LeadsOn t → Ended behind → m ≡ at → Ways (stepped turns (Value v) reach (step_at around long (Value v) fs (At at limit (t ∷ behind))))
  lead_on turns reach fs v at limit t behind (inl h) end is =
      let s : step_at around long (Value v) fs (At at limit (t ∷ behind)) ≡ On None (config (InCall v t [] ∷ fs) Expected (suc at) (noted limit (bracket_opens around fs) at t) behind) = rw h refl in
      subst (λ s. Ways (stepped turns (Value v) reach s)) (sym s) (later turns (further reach (way_by assigns' (Value v) None)) (InCall v t [] ∷ fs) Expected (suc at) (noted limit (bracket_opens around fs) at t) behind end (omega (arith, is)))
  lead_on turns reach fs v at limit t behind (inr (inl h)) end is =
      let s : step_at around long (Value v) fs (At at limit (t ∷ behind)) ≡ On None (config fs (Dotted v) (suc at) limit behind) = rw h refl in
      subst (λ s. Ways (stepped turns (Value v) reach s)) (sym s) (later turns (further reach (way_by assigns' (Value v) None)) fs (Dotted v) (suc at) limit behind end (omega (arith, is)))
  lead_on turns reach fs v at limit t behind (inr (inr h)) end is =
      let s : step_at around long (Value v) fs (At at limit (t ∷ behind)) ≡ On None (config fs (Dotted v) (suc at) limit behind) = rw h refl in
      subst (λ s. Ways (stepped turns (Value v) reach s)) (sym s) (later turns (further reach (way_by assigns' (Value v) None)) fs (Dotted v) (suc at) limit behind end (omega (arith, is)))

  lead_no_end : (t : Token) → LeadsOn t → symbol t ≡ End → ⊥
  lead_no_end t (inl h) end = sign_no_end t _ h end
  lead_no_end t (inr (inl h)) end = sign_no_end t _ h end
  lead_no_end t (inr (inr h)) end = sign_no_end t _ h end

  lead_stop : (turns : ℕ) (reach : Option FarthestFailure) (fs : List Frame) (v : ExprTree) (at : ℕ) (limit : Option Told) (t : Token) (behind : List Token) → LeadsOn t → length (t ∷ behind) < turns → Ended (t ∷ behind) → m ≡ at
      → Ways (runs turns reach fs (Value v) at limit (t ∷ behind))
  lead_stop zero reach fs v at limit t behind leads few end is = absurd (omega (arith, few))
  lead_stop (suc turns) reach fs v at limit t behind leads few end is = lead_on turns reach fs v at limit t behind leads (ended_behind t behind (lead_no_end t leads) end) is

  generic_by : (turns : ℕ) (reach : Option FarthestFailure) (fs : List Frame) (at : ℕ) (limit : Option Told) (p o : Token) (front : List Token) (args : TypeTrees) (at' : ℕ) (limit' : Option Told) (left : List Token) → IsName p
      → begins_with "<" (o ∷ (front ++ us)) ≡ true → (takes : TakesTypeArgs (o ∷ (front ++ us)) args left) → taken_ahead (nesting around fs).types (suc at) limit (o ∷ (front ++ us)) ≡ Found args (At at' limit' left)
      → length left < turns → Ended left → Noted at limit → Other fs Expected at limit (p ∷ o ∷ (front ++ us')) → m ≡ at + suc (suc (length front)) → WaysIn turns
      → Splits (args_go takes (nesting around fs).types (suc at) limit).pieces.piece left front us → Ways (runs turns reach fs (Value (tree.Name p args)) at' limit' left)
  generic_by turns reach fs at limit p o front args at' limit' left h less takes found few end w f is ways (longer [] piece_is rest_is) =
      let types = (nesting around fs).types in
      let g = args_go takes types (suc at) limit in
      let exact = args_exact types (suc at) limit takes at' limit' found in
      subst (λ left. Ways (runs turns reach fs (Value (tree.Name p args)) at' limit' left)) (sym takes.rest_is)
      (lead_stop turns reach fs (tree.Name p args) at' limit' takes.next takes.behind takes.leads (subst (λ left. length left < turns) takes.rest_is few) (subst Ended takes.rest_is end)
      (omega (arith, exact.0, g.pieces.is_at, ap length (piece_is ∙ append-nil front), is)))
  generic_by turns reach fs at limit p o front args at' limit' left h less takes found few end w f is ways (longer (u ∷ mid) piece_is rest_is) =
      let types = (nesting around fs).types in
      let g = args_go takes types (suc at) limit in
      let exact = args_exact types (suc at) limit takes at' limit' found in
      later turns reach fs (Value (tree.Name p args)) at' limit' left end (omega (arith, exact.0, g.pieces.is_at, ap length piece_is, length-append front (u ∷ mid), is))
  generic_by turns reach fs at limit p o front args at' limit' left h less takes found few end w f is ways (shorter t mid front_is left_is) =
      let types = (nesting around fs).types in
      let g = args_go takes types (suc at) limit in
      let exact = args_exact types (suc at) limit takes at' limit' found in
      let piece = g.pieces.piece in
      let onto : o ∷ (front ++ us) ≡ (o ∷ piece) ++ t ∷ (mid ++ us) = ap (λ front. o ∷ (front ++ us)) front_is ∙ ap (λ us. o ∷ us) (append_assoc piece (t ∷ mid) us) in
      let onto' : o ∷ (front ++ us') ≡ (o ∷ piece) ++ t ∷ (mid ++ us') = ap (λ front. o ∷ (front ++ us')) front_is ∙ ap (λ us. o ∷ us) (append_assoc piece (t ∷ mid) us') in
      let takes' = takes_stable (o ∷ piece) t (mid ++ us) (mid ++ us') (subst (λ left. TakesTypeArgs ((o ∷ piece) ++ t ∷ (mid ++ us)) args left) left_is (subst (λ toks. TakesTypeArgs toks args left) onto takes)) in
      let found' = taken_found takes' types (suc at) limit in
      let g' = args_go takes' types (suc at) limit in
      let exact' = args_exact types (suc at) limit takes' found'.at found'.limit found'.found in
      let same : g'.pieces.piece ≡ piece = cancel g'.pieces.piece piece (t ∷ (mid ++ us')) (sym g'.pieces.are) in
      let at_same : found'.at ≡ at' = omega (arith, exact'.0, g'.pieces.is_at, ap length same, exact.0, g.pieces.is_at) in
      let limits = some_pair_of Closed Closed g'.pieces.limit' g.pieces.limit'
      (drive (Head types zero) (suc (suc at)) limit piece) (ap (drive (Head types zero) (suc (suc at)) limit) (sym same) ∙ g'.pieces.drives.is) g.pieces.drives.is in
      let limit_same : found'.limit ≡ limit' = exact'.1 ∙ limits ∙ sym exact.1 in
      let look : taken_ahead types (suc at) limit (o ∷ (front ++ us')) ≡ Found args (At at' limit' (t ∷ (mid ++ us'))) =
      ap (taken_ahead types (suc at) limit) onto' ∙ found'.found ∙ ap (λ k. Found args (At k found'.limit (t ∷ (mid ++ us')))) at_same ∙ ap (λ l. Found args (At at' l (t ∷ (mid ++ us')))) limit_same in
      subst (λ left. Ways (runs turns reach fs (Value (tree.Name p args)) at' limit' left)) (sym left_is)
      (ways reach fs (Value (tree.Name p args)) at' limit' (t ∷ mid)
      (subst (λ left. length left < turns) left_is few) (subst Ended left_is end)
      (subst (λ k. Within k limit') (sym (exact.0 ∙ g.pieces.is_at)) (subst (Within (suc (suc at) + length piece)) (sym exact.1)
      (drive_within (Head types zero) Closed (suc (suc at)) limit g.pieces.limit' piece g.pieces.drives.is (noted_within at (suc (suc at)) limit (omega arith) w))))
      (behind_step around long None (config fs (Value (tree.Name p args)) at' limit' (t ∷ (mid ++ us'))) f
      (rw (h, less) (ap (λ look. name_by around long look fs p (At (suc at) limit (o ∷ (front ++ us')))) look)))
      (omega (arith, is, exact.0, g.pieces.is_at, ap length front_is, length-append piece (t ∷ mid))))

  generic_way : (turns : ℕ) (reach : Option FarthestFailure) (fs : List Frame) (at : ℕ) (limit : Option Told) (p : Token) (front : List Token) (args : TypeTrees) (at' : ℕ) (limit' : Option Told) (left : List Token) → IsName p
      → begins_with "<" (front ++ us) ≡ true → (takes : TakesTypeArgs (front ++ us) args left) → taken_ahead (nesting around fs).types (suc at) limit (front ++ us) ≡ Found args (At at' limit' left)
      → length left < turns → Ended left → Noted at limit → Other fs Expected at limit (p ∷ (front ++ us')) → m ≡ at + suc (length front) → WaysIn turns
      → Ways (runs turns reach fs (Value (tree.Name p args)) at' limit' left)
  generic_way turns reach fs at limit p [] args at' limit' left h less takes found few end w f is ways =
      let place = args_place (nesting around fs).types (suc at) limit takes at' limit' found in
      later turns reach fs (Value (tree.Name p args)) at' limit' left end (omega (arith, place.0, is))
  generic_way turns reach fs at limit p (o ∷ front) args at' limit' left h less takes found few end w f is ways =
      let g = args_go takes (nesting around fs).types (suc at) limit in
      generic_by turns reach fs at limit p o front args at' limit' left h less takes found few end w f is ways (splits g.pieces.piece left front us (sym g.pieces.are))

  -- operators
  abbrev frames_of : Operator → ExprTree → List Frame → Token → List Frame
  frames_of op v fs p = Left (bound (level op) v fs).0 op p ∷ (bound (level op) v fs).1

  operator_on_way : (turns : ℕ) (reach : Option FarthestFailure) (fs : List Frame) (v : ExprTree) (at : ℕ) (limit : Option Told) (p : Token) (front : List Token) (op : Operator) (behind : List Token) (next : ℕ)
      → length behind < turns → Ended behind → Noted at limit → next ≡ at + operator_tokens op → at < next
      → (mid : List Token) → behind ≡ mid ++ us → sign_at (p ∷ (front ++ us')) ≡ (codes (operator_text op), mid ++ us')
      → Other fs (Value v) at limit (p ∷ (front ++ us')) → m ≡ next + length mid → WaysIn turns → Ways (runs turns reach (frames_of op v fs p) Expected next limit behind)
  operator_on_way turns reach fs v at limit p front op behind next few end w is less mid are sign f same ways =
      let o = operates_so around long fs v at limit p (front ++ us') (mid ++ us') op sign in
      let frames = frames_of op v fs p in
      subst (λ behind. Ways (runs turns reach frames Expected next limit behind)) (sym are)
      (ways reach frames Expected next limit mid
      (subst (λ behind. length behind < turns) are few) (subst Ended are end) (noted_within at next limit less w)
      (subst (λ k. Other frames Expected k limit (mid ++ us')) (sym is) (behind_step around long o.other (config frames Expected (at + operator_tokens op) limit (mid ++ us')) f o.is)) same)

  -- the way that ends before `>>=`
  assign_way : (turns : ℕ) (reach : Option FarthestFailure) (c : List Frame) (fs : List Frame) (v e' : ExprTree) (at : ℕ) (limit : Option Told) (op : Operator) (next : ℕ) (behind : List Token)
      → Ended behind → Within next limit → next ≡ m → may_assign op (e', []) ≡ true → whole v fs ≡ (e', []) → n ≡ at → lf ≡ limit → assigns' ≡ true → Across m n rest'
      → Ways (runs turns (further reach (way_by assigns' (Value v) (assign_by around long (may_assign op (whole v fs)) at (At next limit behind)))) c Expected next limit behind)
  assign_way turns reach c fs v e' at limit op next [] end w here may is n_is lf_is assigns'' across = absurd end
  assign_way turns reach c fs v e' at limit op next (t ∷ others) end w here may is n_is lf_is assigns'' across =
      let way = way_at long at next limit t others in
      let left_way : way_by assigns' (Value v) (assign_by around long (may_assign op (whole v fs)) at (At next limit (t ∷ others))) ≡ Some way.reach =
      ap (λ b. way_by b (Value v) (assign_by around long (may_assign op (whole v fs)) at (At next limit (t ∷ others)))) assigns''
      ∙ ap (λ b. assign_by around long b at (At next limit (t ∷ others))) (ap (may_assign op) is ∙ may) ∙ way.is in
      let all = further reach (way_by assigns' (Value v) (assign_by around long (may_assign op (whole v fs)) at (At next limit (t ∷ others)))) in
      told_at limit at t others way.reach (way.many ∙ here)
      (subst (λ m. told_by (earlier limit (before at long)) m (t ∷ others) ≡ Some way.reach.told) here way.told)
      (run_holds around assigns' long turns way.reach all c Expected next limit (t ∷ others) end (inl (subst (λ x. Above way.reach (further reach x)) (sym left_way) (above_second reach way.reach))))
      (subst (λ l. Grows m limit l) (sym lf_is) same_limit) (subst (λ k. Within k limit) here w) (inr (across.from, sym n_is)) (inr (assigns'', across))

  -- where the other tokens end an expression before `>`
  across_there : {fs : List Frame} {v : ExprTree} {at : ℕ} {limit : Option Told} (p : Token) (toks : List Token) → Is ">" p → Other fs (Value v) at limit (p ∷ toks) → n ≡ at → at < m → m < at + 3 → (assigns' ≡ true) × Across m n rest'
  across_there {fs = fs} {v = v} {at = at} {limit = limit} p toks g f is low high =
      let rest_is = finish_rest around long f is in
      let goes = ends_goes around long (Value v) fs at limit (p ∷ toks) e (At n lf rest') (finish_there around long f is) in
      let sign = ap (λ ts. bytes_eq (sign_at ts).0 (codes ">>=")) rest_is ∙ greater_assigns p toks g goes in
      (assign_none assigns' rest' free sign, record { from = omega (arith, is, low); upto = omega (arith, is, high); sign = sign })

  open_way : (turns : ℕ) (reach : Option FarthestFailure) (fs : List Frame) (v : ExprTree) (at : ℕ) (limit : Option Told) (p : Token) (toks : List Token) (op : Operator) (next : ℕ) (behind : List Token) → Is ">" p → Other fs (Value v) at limit (p ∷ toks)
      → behind ≡ us → length behind < turns → Ended behind → Noted at limit → at < next → next < at + 3 → ((e' : ExprTree) → may_assign op (e', []) ≡ true) → next ≡ m → OpenEnd around long fs v next at limit n lf
      → Ways (runs turns (further reach (way_by assigns' (Value v) (assign_by around long (may_assign op (whole v fs)) at (At next limit behind)))) (frames_of op v fs p) Expected next limit behind)
  open_way turns reach fs v at limit p toks op next behind gr f are few end w less high may same (inl h) =
      let all = further reach (way_by assigns' (Value v) (assign_by around long (may_assign op (whole v fs)) at (At next limit behind))) in
      subst (λ ts. Ways (runs turns all (frames_of op v fs p) Expected next limit ts)) (sym are)
      (here turns all (frames_of op v fs p) Expected next limit (subst (λ ts. length ts < turns) are few) (subst Ended are end) same (noted_within at next limit less w) (omega (arith, h.0, same)) h.1)
  open_way turns reach fs v at limit p toks op next behind gr f are few end w less high may same (inr h) =
      let a = across_there p toks gr f h.0 (omega (arith, less, same)) (omega (arith, high, same)) in
      assign_way turns reach (frames_of op v fs p) fs v h.2 at limit op next behind end (noted_within at next limit less w) same (may h.2) h.3 h.0 h.1 a.0 a.1

  as_operator : (op other : Operator) (x : List Token) → op ≡ other → ◌≡◌ {A = SignAt} (codes (operator_text other), x) (codes (operator_text op), x)
  as_operator op other x h = ap (λ (o : Operator). sign_pair (codes (operator_text o)) x) (sym h)
    where
      sign_pair : List ℕ → List Token → SignAt
      sign_pair text x = (text, x)

  abbrev OperatorWays : ℕ → Option FarthestFailure → List Frame → ExprTree → ℕ → Option Told → Token → Operator → List Token → ℕ → Type 0
  OperatorWays turns reach fs v at limit p op behind next =
      Ways (runs turns (further reach (way_by assigns' (Value v) (assign_by around long (may_assign op (whole v fs)) at (At next limit behind)))) (frames_of op v fs p) Expected next limit behind)

  operator_way : (turns : ℕ) (reach : Option FarthestFailure) (fs : List Frame) (v : ExprTree) (at : ℕ) (limit : Option Told) (p : Token) (front : List Token) (op : Operator) (behind : List Token) (next : ℕ)
      → length behind < turns → Ended behind → Noted at limit → next ≡ at + operator_tokens op → at < next → length (p ∷ (front ++ us)) ≡ operator_tokens op + length behind
      → Other fs (Value v) at limit (p ∷ (front ++ us')) → m ≡ at + suc (length front) → WaysIn turns → SignParts p (front ++ us) op behind → OperatorWays turns reach fs v at limit p op behind next
  operator_way turns reach fs v at limit p front op behind next few end w is less covered f same ways (one_token g no_end each are) =
      operator_on_way turns (further reach (way_by assigns' (Value v) (assign_by around long (may_assign op (whole v fs)) at (At next limit behind)))) fs v at limit p front op behind next few end w is less front are (each (front ++ us')) f
      (omega (arith, same, is, covered, ap length are)) ways
  operator_way turns reach fs v at limit p [] op behind next few end w is less covered f same ways (greater g o are apart) =
      let one : next ≡ suc at = is ∙ ap (λ op. at + operator_tokens op) o ∙ omega arith in
      open_way turns reach fs v at limit p us' op next behind g f are few end w less (omega (arith, one)) (λ e'. ap (λ op. may_assign op (e', [])) o) (omega (arith, one, same))
      (subst (λ k. OpenEnd around long fs v k at limit n lf) (sym one) (open_one around long p us' g f))
  operator_way turns reach fs v at limit p (q ∷ front) op behind next few end w is less covered f same ways (greater g o are apart) =
      operator_on_way turns (further reach (way_by assigns' (Value v) (assign_by around long (may_assign op (whole v fs)) at (At next limit behind)))) fs v at limit p (q ∷ front) op behind next few end w is less (q ∷ front) are
      (greater_sign p (q ∷ (front ++ us')) g apart ∙ as_operator op Greater (q ∷ (front ++ us')) o) f (omega (arith, same, is, ap operator_tokens o)) ways
  operator_way turns reach fs v at limit p [] op behind next few end w is less covered f same ways (greater_equal g q are j k o) =
      later turns (further reach (way_by assigns' (Value v) (assign_by around long (may_assign op (whole v fs)) at (At next limit behind)))) (frames_of op v fs p) Expected next limit behind end
      (omega (arith, same, is, ap operator_tokens o))
  operator_way turns reach fs v at limit p (q' ∷ front) op behind next few end w is less covered f same ways (greater_equal g q are j k o) =
      let both = heads q' q (front ++ us) behind are in
      operator_on_way turns (further reach (way_by assigns' (Value v) (assign_by around long (may_assign op (whole v fs)) at (At next limit behind)))) fs v at limit p (q' ∷ front) op behind next few end w is less front (sym both.1)
      (equal_sign p q' (front ++ us') g (ap (joins p ">") both.0 ∙ j) (ap (joins p "=") both.0 ∙ k) ∙ as_operator op GreaterEqual (front ++ us') o) f (omega (arith, same, is, ap operator_tokens o)) ways
  operator_way turns reach fs v at limit p [] op behind next few end w is less covered f same ways (shift g q are j a o) =
      later turns (further reach (way_by assigns' (Value v) (assign_by around long (may_assign op (whole v fs)) at (At next limit behind)))) (frames_of op v fs p) Expected next limit behind end
      (omega (arith, same, is, ap operator_tokens o))
  operator_way turns reach fs v at limit p (q' ∷ []) op behind next few end w is less covered f same ways (shift g q are j a o) =
      let both = heads q' q us behind are in
      let two : next ≡ suc (suc at) = is ∙ ap (λ op. at + operator_tokens op) o ∙ omega arith in
      open_way turns reach fs v at limit p (q' ∷ us') op next behind g f (sym both.1) few end w less (omega (arith, two)) (λ e'. ap (λ op. may_assign op (e', [])) o) (omega (arith, two, same))
      (subst (λ k. OpenEnd around long fs v k at limit n lf) (sym two) (open_two around long p q' us' g (ap (joins p ">") both.0 ∙ j) f))
  operator_way turns reach fs v at limit p (q' ∷ r ∷ front) op behind next few end w is less covered f same ways (shift g q are j a o) =
      let both = heads q' q (r ∷ (front ++ us)) behind are in
      let apart : joins q' "=" r ≡ false = ap (λ q. joins q "=" r) both.0 ∙ subst (NoEqual q) (sym both.1) a in
      operator_on_way turns (further reach (way_by assigns' (Value v) (assign_by around long (may_assign op (whole v fs)) at (At next limit behind)))) fs v at limit p (q' ∷ r ∷ front) op behind next few end w is less (r ∷ front) (sym both.1)
      (shift_sign p q' (r ∷ (front ++ us')) g (ap (joins p ">") both.0 ∙ j) apart ∙ as_operator op ShiftRight (r ∷ (front ++ us')) o) f (omega (arith, same, is, ap operator_tokens o)) ways

  -- where the machine comes to an expression in the front
  same_end : (b : Bool) (reach : Option FarthestFailure) (e' : ExprTree) (fs : List Frame) (v : ExprTree) (at : ℕ) (limit : Option Told) (p : Token) (front : List Token) → whole v fs ≡ (e', []) → Other fs (Value v) at limit (p ∷ (front ++ us'))
      → expr_goes_on (p ∷ (front ++ us)) ≡ false → expr_goes_on (p ∷ (front ++ us')) ≡ false → b ≡ false → m ≡ at + suc (length front) → Ways (end_by around assigns' long b reach e' (At at limit (p ∷ (front ++ us))))
  same_end b reach e' fs v at limit p front wh f goes goes' no' is =
      let toks = p ∷ (front ++ us) in
      let one = finish_one around long e' (At at limit (p ∷ (front ++ us'))) f (ends_step around long v e' fs at limit (p ∷ (front ++ us')) wh goes') in
      let place = same_place one.1 in
      as_other (p ∷ front) reach place.2 (omega (arith, place.0, is)) goes
      (ap (λ b. end_by around assigns' long b reach e' (At at limit toks)) no' ∙ ap (λ e'. Reads e' (finished long (At at limit toks)) reach) (sym one.0)
      ∙ ap (λ at. Reads e (finished long (At at limit toks)) reach) (sym place.0) ∙ ap (λ l. Reads e (finished long (At n l toks)) reach) (sym place.1))

  end_over : (reach : Option FarthestFailure) (e' : ExprTree) (at : ℕ) (limit : Option Told) (p : Token) (toks : List Token) → Is ">" p → expr_goes_on (p ∷ toks) ≡ false → assign_ends assigns' (p ∷ toks) ≡ false → Ended (p ∷ toks) → at < m → m < at + 3
      → Ways (end_by around assigns' long false reach e' (At at limit (p ∷ toks)))
  end_over reach e' at limit p toks g goes no' end low high =
      let sign = greater_assigns p toks g goes in
      over e' at (earlier limit (before at long)) (p ∷ toks) reach refl end (assign_none assigns' (p ∷ toks) no' sign) (record { from = low; upto = high; sign = sign })

  no_both : (b : Bool) → b ≡ true → b ≡ false → ⊥
  no_both b h k = false≢true (sym k ∙ h)

  end_shift : (reach : Option FarthestFailure) (fs : List Frame) (v : ExprTree) (at : ℕ) (limit : Option Told) (p q : Token) → Is ">" p → Ended (p ∷ q ∷ us) → Noted at limit → Other fs (Value v) at limit (p ∷ q ∷ us') → m ≡ at + 2 → assigns' ≡ false
      → IsAssignment p (q ∷ us) → Ways (refused_in around assigns' long reach (passed (plain ∷ plain ∷ []) (At at limit (p ∷ q ∷ us))))
  end_shift reach fs v at limit p q g end w f is no' a =
      let s = shifted at limit p (q ∷ us) a end in
      let both = heads q a.second us (a.third ∷ a.others) a.are in
      ⊎_elim
      (λ (h : (suc (suc at) ≤ n) × Grows (suc (suc at)) limit lf).
      subst (λ place. Ways (refused_in around assigns' long reach place)) (sym s.on)
      (refused_here reach (suc (suc at)) limit s.third s.others (omega (arith, is)) (noted_within at (suc (suc at)) limit (omega arith) w) (omega (arith, is, h.0)) h.1))
      (λ (h : (n ≡ at) × (lf ≡ limit) × (e : ExprTree) × (whole v fs ≡ (e, []))). absurd (no_both assigns' (across_there p (q ∷ us') g f h.0 (omega (arith, is)) (omega (arith, is))).0 no'))
      (open_two around long p q us' g (ap (joins p ">") both.0 ∙ a.shifts) f)

  end_greater : (b : Bool) (reach : Option FarthestFailure) (e' : ExprTree) (fs : List Frame) (v : ExprTree) (at : ℕ) (limit : Option Told) (p : Token) (front : List Token) → Is ">" p → whole v fs ≡ (e', []) → expr_goes_on (p ∷ (front ++ us)) ≡ false
      → Ended (p ∷ (front ++ us)) → Noted at limit → Other fs (Value v) at limit (p ∷ (front ++ us')) → m ≡ at + suc (length front) → assign_ends assigns' (p ∷ (front ++ us)) ≡ b
      → Ways (end_by around assigns' long b reach e' (At at limit (p ∷ (front ++ us))))
  end_greater true reach e' fs v at limit p [] g wh goes end w f is b =
      shift_later reach at limit (p ∷ us) (shifted at limit p us (assign_parts p us (assign_some assigns' (p ∷ us) b).1) end) (omega (arith, is))
  end_greater false reach e' fs v at limit p [] g wh goes end w f is b = end_over reach e' at limit p us g goes b end (omega (arith, is)) (omega (arith, is))
  end_greater true reach e' fs v at limit p (q ∷ []) g wh goes end w f is b =
      let some = assign_some assigns' (p ∷ q ∷ us) b in
      end_shift reach fs v at limit p q g end w f (omega (arith, is)) some.0 (assign_parts p (q ∷ us) some.1)
  end_greater false reach e' fs v at limit p (q ∷ []) g wh goes end w f is b = end_over reach e' at limit p (q ∷ us) g goes b end (omega (arith, is)) (omega (arith, is))
  end_greater true reach e' fs v at limit p (q ∷ r ∷ front) g wh goes end w f is b =
      let some = assign_some assigns' (p ∷ q ∷ r ∷ (front ++ us)) b in
      let a = assign_parts p (q ∷ r ∷ (front ++ us)) some.1 in
      let first = heads q a.second (r ∷ (front ++ us)) (a.third ∷ a.others) a.are in
      let second = heads r a.third (front ++ us) a.others first.1 in
      let goes' = assign_goes p q r (front ++ us') g (ap (joins p ">") first.0 ∙ a.shifts) (ap (λ q. joins q "=" r) first.0 ∙ ap (joins a.second "=") second.0 ∙ a.assigns) in
      let one = finish_one around long e' (At at limit (p ∷ q ∷ r ∷ (front ++ us'))) f (ends_step around long v e' fs at limit (p ∷ q ∷ r ∷ (front ++ us')) wh goes') in
      let sign = ap (λ ts. bytes_eq (sign_at ts).0 (codes ">>=")) (same_place one.1).2 ∙ greater_assigns p (q ∷ r ∷ (front ++ us')) g goes' in
      absurd (no_both assigns' (assign_none assigns' rest' free sign) some.0)
  end_greater false reach e' fs v at limit p (q ∷ r ∷ front) g wh goes end w f is b =
      let a = assign_parts p (q ∷ r ∷ (front ++ us)) (greater_assigns p (q ∷ r ∷ (front ++ us)) g goes) in
      let first = heads q a.second (r ∷ (front ++ us)) (a.third ∷ a.others) a.are in
      let second = heads r a.third (front ++ us) a.others first.1 in
      let goes' = assign_goes p q r (front ++ us') g (ap (joins p ">") first.0 ∙ a.shifts) (ap (λ q. joins q "=" r) first.0 ∙ ap (joins a.second "=") second.0 ∙ a.assigns) in
      same_end false reach e' fs v at limit p (q ∷ r ∷ front) wh f goes goes' refl is

  alone_free : (b : Bool) (p : Token) (toks : List Token) → is_sign ">" (symbol p) ≡ false → assign_ends assigns' (p ∷ toks) ≡ b → b ≡ false
  alone_free false p toks g is = refl
  alone_free true p toks g is = absurd (false≢true (sym g ∙ ap (is_sign ">") (assign_parts p toks (assign_some assigns' (p ∷ toks) is).1).first))

  end_way : (b : Bool) (reach : Option FarthestFailure) (e' : ExprTree) (fs : List Frame) (v : ExprTree) (at : ℕ) (limit : Option Told) (p : Token) (front : List Token) → is_sign ">" (symbol p) ≡ b → whole v fs ≡ (e', []) → expr_goes_on (p ∷ (front ++ us)) ≡ false
      → Ended (p ∷ (front ++ us)) → Noted at limit → Other fs (Value v) at limit (p ∷ (front ++ us')) → m ≡ at + suc (length front)
      → Ways (end_by around assigns' long (assign_ends assigns' (p ∷ (front ++ us))) reach e' (At at limit (p ∷ (front ++ us))))
  end_way true reach e' fs v at limit p front g wh goes end w f is =
      end_greater (assign_ends assigns' (p ∷ (front ++ us))) reach e' fs v at limit p front (is_sign-true ">" (symbol p) g) wh goes end w f is refl
  end_way false reach e' fs v at limit p front g wh goes end w f is =
      same_end (assign_ends assigns' (p ∷ (front ++ us))) reach e' fs v at limit p front wh f goes (goes_same p (front ++ us') (front ++ us) g ∙ goes) (alone_free (assign_ends assigns' (p ∷ (front ++ us))) p (front ++ us) g refl) is

  -- where `>>=` does not go on
  stuck_way : (fs fs' : List Frame) (frame : Frame) (v e' : ExprTree) (at : ℕ) (limit : Option Told) (p second third : Token) (others front : List Token) (reach : Option FarthestFailure) → whole v fs ≡ (e', frame ∷ fs') → Is ">" p → joins p ">" second ≡ true
      → joins second "=" third ≡ true → front ++ us ≡ second ∷ third ∷ others → Ended (third ∷ others) → Noted at limit
      → Other fs (Value v) at limit (p ∷ (front ++ us')) → m ≡ at + suc (length front) → Ways (refused_in around assigns' long reach (At (suc (suc at)) limit (third ∷ others)))
  stuck_way fs fs' frame v e' at limit p second third others [] reach whole_is g j k are end w f same = refused_later reach (suc (suc at)) limit (third ∷ others) end (omega (arith, same))
  stuck_way fs fs' frame v e' at limit p second third others (q ∷ []) reach whole_is g j k are end w f same =
      let both = heads q second us (third ∷ others) are in
      ⊎_elim
      (λ (h : (suc (suc at) ≤ n) × Grows (suc (suc at)) limit lf).
      refused_here reach (suc (suc at)) limit third others (omega (arith, same)) (noted_within at (suc (suc at)) limit (omega arith) w) (omega (arith, same, h.0)) h.1)
      (λ (h : (n ≡ at) × (lf ≡ limit) × (e : ExprTree) × (whole v fs ≡ (e, []))). absurd (held_apart (whole v fs) h.2 e' frame fs' h.3 whole_is))
      (open_two around long p q us' g (ap (joins p ">") both.0 ∙ j) f)
  stuck_way fs fs' frame v e' at limit p second third others (q ∷ r ∷ front) reach whole_is g j k are end w f same =
      let both = heads q second (r ∷ (front ++ us)) (third ∷ others) are in
      let more' = heads r third (front ++ us) others both.1 in
      let h = assign_end around long p q r (front ++ us') g (ap (joins p ">") both.0 ∙ j) (ap (λ q. joins q "=" r) both.0 ∙ ap (joins second "=") more'.0 ∙ k) f in
      absurd (held_apart (whole v fs) h.2 e' frame fs' h.3 whole_is)

  some_room : {fs : List Frame} {mode : Mode} {at : ℕ} {limit : Option Told} {toks : List Token} {s : Step} → Kind around long fs mode at limit toks s → (turns : ℕ) (reach : Option FarthestFailure) (p : Token) (front : List Token) → toks ≡ p ∷ (front ++ us)
      → Shortens (length toks) s → GrowsStep at limit toks s → EndedStep at s → length toks < suc turns → Ended toks → Noted at limit → Other fs mode at limit (p ∷ (front ++ us')) → m ≡ at + suc (length front) → WaysIn turns
      → Ways (stepped turns mode reach s)
  some_room (uniform {fs = fs} {mode = mode} {at = at} {limit = limit} {t = t} {ts = toks} fs' mode' en no_end fits each) turns reach p front is short g ended few end w f same ways =
      let both = heads t p toks (front ++ us) is in
      let all = further reach (way_by assigns' mode None) in
      subst (λ toks. Ways (runs turns all fs' mode' (suc at) (noted limit en at t) toks)) (sym both.1)
      (ways all fs' mode' (suc at) (noted limit en at t) front (omega (arith, short, few, ap length both.1)) (subst Ended both.1 ended) (noted_within at (suc at) (noted limit en at t) (omega arith) (noted_stays limit en at t w))
      (behind_step around long None (config fs' mode' (suc at) (noted limit en at t) (front ++ us')) f
      (step_cons around long mode fs at limit p (front ++ us') ∙ ap (λ p. step_by around long mode fs at limit p (front ++ us')) (sym both.0) ∙ each at limit (front ++ us')))
      (omega (arith, same)))
  some_room (bare {fs = fs} {at = at} {limit = limit} {t = t} {ts = toks} h l) turns reach p front is short g ended few end w f same ways =
      let both = heads t p toks (front ++ us) is in
      let all = further reach (way_by assigns' Expected None) in
      subst (λ toks. Ways (runs turns all fs (Value (tree.Name t NoTypes)) (suc at) limit toks)) (sym both.1)
      (subst (λ t. Ways (runs turns all fs (Value (tree.Name t NoTypes)) (suc at) limit (front ++ us))) (sym both.0)
      (bare_way turns all fs at limit p front (subst IsName both.0 h) (subst (λ toks. begins_with "<" toks ≡ false) both.1 l) (omega (arith, short, few, ap length both.1)) (subst Ended both.1 ended) w f same ways))
  some_room (without {fs = fs} {at = at} {limit = limit} {t = t} {ts = toks} h l none at' limit' rest'' look) turns reach p front is short g ended few end w f same ways =
      let both = heads t p toks (front ++ us) is in
      let all = further reach (way_by assigns' Expected (reach_at long at' (At at' limit' rest''))) in
      subst (λ toks. Ways (runs turns all fs (Value (tree.Name t NoTypes)) (suc at) limit toks)) (sym both.1)
      (subst (λ t. Ways (runs turns all fs (Value (tree.Name t NoTypes)) (suc at) limit (front ++ us))) (sym both.0)
      (without_way turns all fs at limit p front at' limit' rest'' (subst IsName both.0 h) (subst (λ toks. begins_with "<" toks ≡ true) both.1 l)
      (subst (λ toks. taken_ahead (nesting around fs).types (suc at) limit toks ≡ Missing (At at' limit' rest'')) both.1 look)
      (λ v k. subst (λ x. Above v (further reach x)) (sym (way_expected assigns' (reach_at long at' (At at' limit' rest'')) ∙ k)) (above_second reach v))
      (omega (arith, short, few, ap length both.1)) (subst Ended both.1 ended) w f same ways))
  some_room (generic {fs = fs} {at = at} {limit = limit} {t = t} {ts = toks} h l args at' limit' rest'' takes look) turns reach p front is short g ended few end w f same ways =
      let both = heads t p toks (front ++ us) is in
      let all = further reach (way_by assigns' Expected None) in
      subst (λ t. Ways (runs turns all fs (Value (tree.Name t args)) at' limit' rest'')) (sym both.0)
      (generic_way turns all fs at limit p front args at' limit' rest'' (subst IsName both.0 h) (subst (λ toks. begins_with "<" toks ≡ true) both.1 l) (subst (λ toks. TakesTypeArgs toks args rest'') both.1 takes)
      (subst (λ toks. taken_ahead (nesting around fs).types (suc at) limit toks ≡ Found args (At at' limit' rest'')) both.1 look)
      (omega (arith, short, few)) ended w f same ways)
  some_room (operates {fs = fs} {at = at} {limit = limit} {t = t} {ts = toks} {v = v} op behind next sign passes) turns reach p front is short g ended few end w f same ways =
      let both = heads t p toks (front ++ us) is in
      let covered = operator_covered op (t ∷ toks) behind sign in
      let next_is = replicated (operator_tokens op) at limit (t ∷ toks) (omega (arith, covered)) passes in
      subst (λ t. OperatorWays turns reach fs v at limit t op behind next) (sym both.0)
      (operator_way turns reach fs v at limit p front op behind next (omega (arith, short, few)) ended w next_is g.0 (omega (arith, covered, ap length both.1)) f same ways
      (sign_parts p (front ++ us) op behind (subst (λ toks. sign_at toks ≡ (codes (operator_text op), behind)) is sign)))
  some_room (ends {fs = fs} {at = at} {limit = limit} {ts = toks} {v = v} {e = e'} wh end') turns reach p front is short g ended few end w f same ways =
      subst (λ toks. Ways (end_by around assigns' long (assign_ends assigns' toks) reach e' (At at limit toks))) (sym is)
      (end_way (is_sign ">" (symbol p)) reach e' fs v at limit p front refl wh (subst (λ toks. expr_goes_on toks ≡ false) is end') (subst Ended is end) w f same)
  some_room (stuck {fs = fs} {mode = mode} {at = at} {limit = limit} {t = t} {ts = toks} each) turns reach p front is short g ended few end w f same ways =
      let both = heads t p toks (front ++ us) is in
      absurd (no_refusal around long (At at limit (t ∷ (front ++ us'))) f
      (step_cons around long mode fs at limit p (front ++ us') ∙ ap (λ p. step_by around long mode fs at limit p (front ++ us')) (sym both.0) ∙ each at limit (front ++ us')))
  some_room (stuck_behind {fs = fs} {fs' = fs'} {f = frame} {at = at} {limit = limit} {t = t} {ts = toks} {v = v} {e = e'} second third others whole_is gr j k are) turns reach p front is short g ended few end w f same ways =
      let both = heads t p toks (front ++ us) is in
      stuck_way fs fs' frame v e' at limit p second third others front reach whole_is (subst (Is ">") both.0 gr) (ap (λ t. joins t ">" second) (sym both.0) ∙ j) k (sym both.1 ∙ are) ended.0 w f same
  some_room exhausted turns reach p front is short g ended few end w f same ways = absurd end

  some_step : (turns : ℕ) (reach : Option FarthestFailure) (fs : List Frame) (mode : Mode) (at : ℕ) (limit : Option Told) (p : Token) (front : List Token) → length (p ∷ (front ++ us)) < suc turns → Ended (p ∷ (front ++ us)) → Noted at limit
      → Other fs mode at limit (p ∷ (front ++ us')) → m ≡ at + suc (length front) → WaysIn turns → Ways (runs (suc turns) reach fs mode at limit (p ∷ (front ++ us)))
  some_step turns reach fs mode at limit p front few end w f same ways =
      let kind = kind_of around long mode fs at limit (p ∷ (front ++ us)) in
      some_room kind turns reach p front refl (step_shorter around long (config fs mode at limit (p ∷ (front ++ us)))) (step_grows_at around long mode fs at limit (p ∷ (front ++ us))) (step_ended around long kind end) few end w f same ways

  within_noted : (at : ℕ) (limit : Option Told) → Within at limit → Noted at limit
  within_noted at None w = tt
  within_noted at (Some told) (a_limit same h) = omega (arith, h)

  ways : (turns : ℕ) → WaysIn turns
  ways zero reach fs mode at limit front few end w f same = absurd (omega (arith, few))
  ways (suc turns) reach fs mode at limit [] few end w f same =
      let g = finishes_grows f in
      here (suc turns) reach fs mode at limit few end (omega (arith, same)) w (omega (arith, same, g.0)) g.1
  ways (suc turns) reach fs mode at limit (p ∷ front) few end w f same = some_step turns reach fs mode at limit p front few end (within_noted at limit w) f same (ways turns)

  -- the machine at the beginning of an expression
  pub expr_goes : (reach : Option FarthestFailure) (at : ℕ) (limit : Option Told) (p : Token) (front : List Token) → Ended (p ∷ (front ++ us)) → Noted at limit → Other [] Expected at limit (p ∷ (front ++ us')) → m ≡ at + suc (length front)
      → Ways (run around assigns' long (suc (length (p ∷ (front ++ us)))) reach (config [] Expected at limit (p ∷ (front ++ us))))
  expr_goes reach at limit p front end w f same =
      some_step (length (p ∷ (front ++ us))) reach [] Expected at limit p front (omega arith) end w f same (ways (length (p ∷ (front ++ us))))
