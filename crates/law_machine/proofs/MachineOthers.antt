-- A tree of other tokens with the same front is told where the machine on these tokens left a way.
use Rattle.std.proofs.Common.{◌≡◌, inl, inr, ⊎_elim, ℕ, zero, suc, ◌+◌, ◌<◌, ◌≤◌, true, false, List, [], ◌∷◌, ◌++◌, length, refl, sym, ap, subst, ◌∙◌, codes, arith, length-append, append_assoc, append-nil}
use Rattle.std.specs.Prelude.{Option, Some, None}
use Rattle.def_token.specs.Lexical.{Token}
use Rattle.def_tree.specs.ExprTree as tree
use Rattle.def_tree.specs.ExprTree.{ExprTree}
use Rattle.def_tree.specs.Expressions.{LeadsOn, TakesTypeArgs}
use Rattle.def_tree.specs.Limits.{Nesting, operator_tokens}
use Rattle.def_tree.specs.Operator.{Operator, operator_text, Greater, GreaterEqual, ShiftRight, level, SignAt, sign_at, joins}
use Rattle.def_tree.specs.Statements.{begins_with}
use Rattle.def_tree.specs.Symbol.{symbol, Is, IsName}
use Rattle.def_tree.specs.TypeTree.{TypeTrees, NoTypes}
use Rattle.law_tree.proofs.Covered.{operator_covered}
use Rattle.law_tree.proofs.Symbols.{is_sign-true}
use Rattle.def_reading.specs.Cursor.{Told, At, noted, FarthestFailure, reach_at, further}
use Rattle.def_reading.specs.TypeAhead.{LookAhead, Found, Missing, taken_ahead}
use Rattle.def_reading.specs.TypeReading.{Ended}
use Rattle.def_reading.specs.Machine.{Frame, Left, InCall, Mode, Expected, Value, Dotted, Config, Step, On, Refused, Held, nesting, bracket_opens, bound, whole, may_assign, assign_by, name_by, step_by, step_at}
use Rattle.law_machine.proofs.MachineOutcome.{Stopped, run_by, run}
use Rattle.law_types.proofs.AheadFaults.{Within, Grows, same_limit, within_noted, grows_more, drive_grows, args_go, missing_dies, dead_none, Splits, longer, shorter, splits, heads, meets}
use Rattle.law_types.proofs.AheadSound.{SoundLook, taken_sound, taken_found}
use Rattle.law_types.proofs.AheadStages.{Dies, ended_alive}
use Rattle.law_machine.proofs.MachineComplete.{config}
use Rattle.law_machine.proofs.MachineGrows.{Finishes, finishes_grows, Above, above_second, args_place, args_exact, replicated}
use Rattle.law_machine.proofs.MachineKinds.{Kind, uniform, bare, without, generic, operates, ends, stuck, stuck_behind, exhausted, kind_of, sign_no_end}
use Rattle.law_machine.proofs.MachineRun.{left, step_shorter, Shortens}
use Rattle.law_machine.proofs.MachineWays.{way_at, stops_above, operator_ended, name_end, takes_ended, StopsFrom, main_stop, refused_most, behind_step, no_refusal, no_stop, refused_on, Verdict, further_on, told_there, drive_within, within_more, verdict_here, verdict_later}
use Rattle.law_machine.proofs.SignParts.{SignParts, one_token, greater, greater_equal, shift, sign_parts, NoEqual, greater_sign, equal_sign, shift_sign}
use Rattle.law_types.proofs.Stopping.{ended_behind}
use Rattle.law_types.proofs.TypeStable.{cancel, takes_stable}
use Rattle.law_types.proofs.TypeStages.{Stage, Head, Closed, drive}
use Rattle.law_machine.proofs.MachineOpenEnds.{step_cons, operates_so, name_grows, OpenEnd, assign_ends, open_two, open_one}

held_apart : (held : Held) (e e' : ExprTree) (frame : Frame) (frames : List Frame) → held ≡ (e, []) → held ≡ (e', frame ∷ frames) → ⊥
held_apart held e e' frame frames h k = let same : [] ≡ frame ∷ frames = ap (λ (x : Held). x.1) (sym h ∙ k) in cc

some_pair_of : (s s' : Stage) (l l' : Option Told) (o : Option (Stage × Option Told)) → o ≡ Some (s, l) → o ≡ Some (s', l') → l ≡ l'
some_pair_of s s' l l' o h k = some_limits (s, l) (s', l') (sym h ∙ k)
  where
    some_limits : (p q : Stage × Option Told) → Some p ≡ Some q → p.1 ≡ q.1
    some_limits p q h = let same : p ≡ q = cc in ap (λ (x : Stage × Option Told). x.1) same

-- The way of another tree, step by step.
module _ (around : Nesting) (long : Option Told) (b : FarthestFailure) (ts more : List Token) (e : ExprTree) (n : ℕ) (lf : Option Told) (rest : List Token) where
  abbrev Other : List Frame → Mode → ℕ → Option Told → List Token → Type 0
  Other fs mode at limit toks = Finishes around long (config fs mode at limit toks) e n lf rest

  abbrev WaysIn : ℕ → Type 0
  WaysIn turns = (reach : Option FarthestFailure) (fs : List Frame) (mode : Mode) (at : ℕ) (limit : Option Told) (front : List Token) (many : ℕ)
      → run around long turns reach (config fs mode at limit (front ++ ts)) ≡ Stopped (Some b) → length (front ++ ts) < turns → Ended (front ++ ts) → Within at limit
      → Other fs mode at limit (front ++ more) → many ≡ at + length front → Verdict long many n lf b

  less_is : (o : Token) (toks : List Token) → begins_with "<" (o ∷ toks) ≡ true → Is "<" o
  less_is o toks h = is_sign-true "<" (symbol o) h

  -- a name without `<` behind it
  bare_way : (turns : ℕ) (reach : Option FarthestFailure) (fs : List Frame) (at : ℕ) (limit : Option Told) (p : Token) (front : List Token) (many : ℕ) → IsName p → begins_with "<" (front ++ ts) ≡ false
      → run around long turns reach (config fs (Value (tree.Name p NoTypes)) (suc at) limit (front ++ ts)) ≡ Stopped (Some b) → length (front ++ ts) < turns → Ended (front ++ ts) → Within at limit
      → Other fs Expected at limit (p ∷ (front ++ more)) → many ≡ at + suc (length front) → WaysIn turns → Verdict long many n lf b
  bare_way turns reach fs at limit p [] many h l run few end w f is ways =
      let g = name_grows around long h f in
      verdict_here around long b n lf many (main_stop around long turns b reach fs (Value (tree.Name p NoTypes)) (suc at) limit ts few end run) (omega (arith, is)) (within_more at (suc at) limit (omega arith) w) g.0 g.1
  bare_way turns reach fs at limit p (q ∷ front) many h l run few end w f is ways =
      ways reach fs (Value (tree.Name p NoTypes)) (suc at) limit (q ∷ front) many run few end (within_more at (suc at) limit (omega arith) w)
      (behind_step around long None (config fs (Value (tree.Name p NoTypes)) (suc at) limit (q ∷ (front ++ more))) f (rw (h, l) refl)) (omega (arith, is))

  -- a name whose type arguments are missed, where the other tokens have some
  without_by : (turns : ℕ) (reach : Option FarthestFailure) (fs : List Frame) (at : ℕ) (limit : Option Told) (p o : Token) (front : List Token) (many : ℕ) (at' : ℕ) (limit' : Option Told) (t : Token) (others : List Token)
      → (d : Dies (Head (nesting around fs).types zero) (suc (suc at)) limit (front ++ ts) at' limit' (t ∷ others))
      → run around long turns (further reach (reach_at long at' (At at' limit' (t ∷ others)))) (config fs (Value (tree.Name p NoTypes)) (suc at) limit (o ∷ (front ++ ts))) ≡ Stopped (Some b)
      → Within at limit → many ≡ at + suc (suc (length front)) → (args : TypeTrees) (a : ℕ) (l : Option Told) (r : List Token) → (takes : TakesTypeArgs (o ∷ (front ++ more)) args r)
      → taken_ahead (nesting around fs).types (suc at) limit (o ∷ (front ++ more)) ≡ Found args (At a l r) → (a ≤ n) × Grows a l lf
      → Splits d.alive.piece (t ∷ others) front ts → Verdict long many n lf b
  without_by turns reach fs at limit p o front many at' limit' t others d run w is args a l r takes look g (shorter u mid piece_is rest_is) =
      absurd (dead_none o u (mid ++ ts) (mid ++ more) d rest_is args r
      (subst (λ toks. TakesTypeArgs (o ∷ toks) args r) (ap (λ front. front ++ more) piece_is ∙ append_assoc d.alive.piece (u ∷ mid) more) takes))
  without_by turns reach fs at limit p o front many at' limit' t others d run w is args a l r takes look g (longer [] piece_is rest_is) =
      let types = (nesting around fs).types in
      let piece : d.alive.piece ≡ front = piece_is ∙ append-nil front in
      let here : at' ≡ many = omega (arith, d.alive.is_at, ap length piece, is) in
      let way = way_at long at' at' limit' t others in
      let c = args_go takes types (suc at) limit in
      let exact = args_exact types (suc at) limit takes a l look in
      let m = meets (Head types zero) d.stage' (suc (suc at)) limit limit' c.pieces.limit' front more c.pieces.piece r c.pieces.are
      (subst (λ piece. drive (Head types zero) (suc (suc at)) limit piece ≡ Some (d.stage', limit')) piece d.alive.drives.is) c.pieces.drives.is in
      let upto : at' ≤ a = omega (arith, d.alive.is_at, ap length piece, exact.0, c.pieces.is_at, ap length m.is, length-append front m.more) in
      let grown : Grows at' limit' l = subst (Grows at' limit') (sym exact.1)
      (subst (λ k. Grows k limit' c.pieces.limit') (omega (arith, d.alive.is_at, ap length piece)) (drive_grows d.stage' Closed (suc (suc at) + length front) limit' c.pieces.limit' m.more m.drives)) in
      let within : Within at' limit' = subst (λ k. Within k limit') (sym d.alive.is_at)
      (drive_within (Head types zero) d.stage' (suc (suc at)) limit limit' d.alive.piece d.alive.drives.is (within_more at (suc (suc at)) limit (omega arith) w)) in
      subst (λ many. Verdict long many n lf b) here
      (told_there limit' at' t others way.reach
      (stops_above around long turns way.reach b (further reach (reach_at long at' (At at' limit' (t ∷ others)))) (config fs (Value (tree.Name p NoTypes)) (suc at) limit (o ∷ (front ++ ts)))
      (subst (λ x. Above way.reach (further reach x)) (sym way.is) (above_second reach way.reach)) run)
      way.many way.told (grows_more at' a limit' l lf upto grown g.1) within (inl (omega (arith, upto, g.0), refl)))
  without_by turns reach fs at limit p o front many at' limit' t others d run w is args a l r takes look g (longer (u ∷ mid) piece_is rest_is) =
      let way = way_at long at' at' limit' t others in
      further_on way.reach
      (stops_above around long turns way.reach b (further reach (reach_at long at' (At at' limit' (t ∷ others)))) (config fs (Value (tree.Name p NoTypes)) (suc at) limit (o ∷ (front ++ ts)))
      (subst (λ x. Above way.reach (further reach x)) (sym way.is) (above_second reach way.reach)) run)
      (omega (arith, way.many, is, d.alive.is_at, ap length piece_is, length-append front (u ∷ mid)))

  without_rest : (turns : ℕ) (reach : Option FarthestFailure) (fs : List Frame) (at : ℕ) (limit : Option Told) (p o : Token) (front : List Token) (many : ℕ) (at' : ℕ) (limit' : Option Told) (left : List Token)
      → (d : Dies (Head (nesting around fs).types zero) (suc (suc at)) limit (front ++ ts) at' limit' left) → Ended left
      → run around long turns (further reach (reach_at long at' (At at' limit' left))) (config fs (Value (tree.Name p NoTypes)) (suc at) limit (o ∷ (front ++ ts))) ≡ Stopped (Some b)
      → Within at limit → many ≡ at + suc (suc (length front)) → (args : TypeTrees) (a : ℕ) (l : Option Told) (r : List Token) → (takes : TakesTypeArgs (o ∷ (front ++ more)) args r)
      → taken_ahead (nesting around fs).types (suc at) limit (o ∷ (front ++ more)) ≡ Found args (At a l r) → (a ≤ n) × Grows a l lf → Verdict long many n lf b
  without_rest turns reach fs at limit p o front many at' limit' [] d end run w is args a l r takes look g = absurd end
  without_rest turns reach fs at limit p o front many at' limit' (t ∷ others) d end run w is args a l r takes look g =
      without_by turns reach fs at limit p o front many at' limit' t others d run w is args a l r takes look g (splits d.alive.piece (t ∷ others) front ts (sym d.alive.are))

  without_look : (turns : ℕ) (reach : Option FarthestFailure) (fs : List Frame) (at : ℕ) (limit : Option Told) (p o : Token) (front : List Token) (many : ℕ) (at' : ℕ) (limit' : Option Told) (left : List Token) → IsName p → (less : begins_with "<" (o ∷ (front ++ ts)) ≡ true)
      → taken_ahead (nesting around fs).types (suc at) limit (o ∷ (front ++ ts)) ≡ Missing (At at' limit' left)
      → run around long turns (further reach (reach_at long at' (At at' limit' left))) (config fs (Value (tree.Name p NoTypes)) (suc at) limit (o ∷ (front ++ ts))) ≡ Stopped (Some b)
      → length (o ∷ (front ++ ts)) < turns → Ended (o ∷ (front ++ ts)) → Within at limit → Other fs Expected at limit (p ∷ o ∷ (front ++ more)) → many ≡ at + suc (suc (length front)) → WaysIn turns
      → (look : LookAhead TypeTrees) → taken_ahead (nesting around fs).types (suc at) limit (o ∷ (front ++ more)) ≡ look → SoundLook TakesTypeArgs (o ∷ (front ++ more)) look → Verdict long many n lf b
  without_look turns reach fs at limit p o front many at' limit' left h less missing run few end w f is ways (Found args (At a l r)) look takes =
      let d = missing_dies (nesting around fs).types (suc at) limit o (front ++ ts) (less_is o (front ++ ts) less) end at' limit' left missing in
      let g = finishes_grows (behind_step around long None (config fs (Value (tree.Name p args)) a l r) f
      (rw (h, less) (ap (λ look. name_by around long look fs p (At (suc at) limit (o ∷ (front ++ more)))) look))) in
      without_rest turns reach fs at limit p o front many at' limit' left d (ended_alive d.alive (ended_behind o (front ++ ts) (sign_no_end o _ (less_is o (front ++ ts) less)) end)) run w is args a l r takes look g
  without_look turns reach fs at limit p o front many at' limit' left h less missing run few end w f is ways (Missing (At a l r)) look takes =
      ways (further reach (reach_at long at' (At at' limit' left))) fs (Value (tree.Name p NoTypes)) (suc at) limit (o ∷ front) many run few end (within_more at (suc at) limit (omega arith) w)
      (behind_step around long (reach_at long a (At a l r)) (config fs (Value (tree.Name p NoTypes)) (suc at) limit (o ∷ (front ++ more))) f
      (rw (h, less) (ap (λ look. name_by around long look fs p (At (suc at) limit (o ∷ (front ++ more)))) look))) (omega (arith, is))

  without_way : (turns : ℕ) (reach : Option FarthestFailure) (fs : List Frame) (at : ℕ) (limit : Option Told) (p : Token) (front : List Token) (many : ℕ) (at' : ℕ) (limit' : Option Told) (left : List Token) → IsName p → begins_with "<" (front ++ ts) ≡ true
      → taken_ahead (nesting around fs).types (suc at) limit (front ++ ts) ≡ Missing (At at' limit' left)
      → run around long turns (further reach (reach_at long at' (At at' limit' left))) (config fs (Value (tree.Name p NoTypes)) (suc at) limit (front ++ ts)) ≡ Stopped (Some b)
      → length (front ++ ts) < turns → Ended (front ++ ts) → Within at limit → Other fs Expected at limit (p ∷ (front ++ more)) → many ≡ at + suc (length front) → WaysIn turns → Verdict long many n lf b
  without_way turns reach fs at limit p [] many at' limit' left h less missing run few end w f is ways =
      let g = name_grows around long h f in
      verdict_here around long b n lf many (main_stop around long turns b (further reach (reach_at long at' (At at' limit' left))) fs (Value (tree.Name p NoTypes)) (suc at) limit ts few end run) (omega (arith, is))
      (within_more at (suc at) limit (omega arith) w) g.0 g.1
  without_way turns reach fs at limit p (o ∷ front) many at' limit' left h less missing run few end w f is ways =
      without_look turns reach fs at limit p o front many at' limit' left h less missing run few end w f is ways
      (taken_ahead (nesting around fs).types (suc at) limit (o ∷ (front ++ more))) refl
      (taken_sound (nesting around fs).types (suc at) limit o (front ++ more) (less_is o (front ++ ts) less))

  -- a name with type arguments, and a token behind them
  lead_on : (fs : List Frame) (v : ExprTree) (at : ℕ) (limit : Option Told) (t : Token) (behind : List Token) → LeadsOn t
      → (d : Config) × (step_at around long (Value v) fs (At at limit (t ∷ behind)) ≡ On None d)
  lead_on fs v at limit t behind (inl h) =
      (config (InCall v t [] ∷ fs) Expected (suc at) (noted limit (bracket_opens around fs) at t) behind, rw h refl)
  lead_on fs v at limit t behind (inr (inl h)) = (config fs (Dotted v) (suc at) limit behind, rw h refl)
  lead_on fs v at limit t behind (inr (inr h)) = (config fs (Dotted v) (suc at) limit behind, rw h refl)

  lead_stop : (fs : List Frame) (v : ExprTree) (at : ℕ) (limit : Option Told) (t : Token) (behind toks : List Token) → toks ≡ t ∷ behind → LeadsOn t → StopsFrom around long fs (Value v) at limit toks b
      → (many : ℕ) → at ≡ many → Verdict long many n lf b
  lead_stop fs v at limit t behind toks are leads s many same =
      let on = lead_on fs v at limit t behind leads in
      further_on s.reach s.most (⊎_elim (λ h. omega (arith, h, same))
      (λ h. absurd (refused_on around long (At at limit (t ∷ behind)) None on.0 (step_at around long (Value v) fs (At at limit (t ∷ behind)))
      (subst (λ toks. step_at around long (Value v) fs (At at limit toks) ≡ Refused (At at limit toks)) are h.1) on.1)) s.where')

  generic_by : (turns : ℕ) (reach : Option FarthestFailure) (fs : List Frame) (at : ℕ) (limit : Option Told) (p o : Token) (front : List Token) (many : ℕ) (args : TypeTrees) (at' : ℕ) (limit' : Option Told) (left : List Token) → IsName p
      → begins_with "<" (o ∷ (front ++ ts)) ≡ true → (takes : TakesTypeArgs (o ∷ (front ++ ts)) args left) → taken_ahead (nesting around fs).types (suc at) limit (o ∷ (front ++ ts)) ≡ Found args (At at' limit' left)
      → run around long turns (further reach None) (config fs (Value (tree.Name p args)) at' limit' left) ≡ Stopped (Some b)
      → length left < turns → Ended left → Within at limit → Other fs Expected at limit (p ∷ o ∷ (front ++ more)) → many ≡ at + suc (suc (length front)) → WaysIn turns
      → Splits (args_go takes (nesting around fs).types (suc at) limit).pieces.piece left front ts → Verdict long many n lf b
  generic_by turns reach fs at limit p o front many args at' limit' left h less takes found came few end w f is ways (longer [] piece_is rest_is) =
      let types = (nesting around fs).types in
      let g = args_go takes types (suc at) limit in
      let exact = args_exact types (suc at) limit takes at' limit' found in
      lead_stop fs (tree.Name p args) at' limit' takes.next takes.behind left takes.rest_is takes.leads
      (main_stop around long turns b (further reach None) fs (Value (tree.Name p args)) at' limit' left few end came) many
      (omega (arith, exact.0, g.pieces.is_at, ap length (piece_is ∙ append-nil front), is))
  generic_by turns reach fs at limit p o front many args at' limit' left h less takes found came few end w f is ways (longer (u ∷ mid) piece_is rest_is) =
      let types = (nesting around fs).types in
      let g = args_go takes types (suc at) limit in
      let exact = args_exact types (suc at) limit takes at' limit' found in
      verdict_later around long b n lf many (main_stop around long turns b (further reach None) fs (Value (tree.Name p args)) at' limit' left few end came)
      (omega (arith, exact.0, g.pieces.is_at, ap length piece_is, length-append front (u ∷ mid), is))
  generic_by turns reach fs at limit p o front many args at' limit' left h less takes found came few end w f is ways (shorter t mid front_is left_is) =
      let types = (nesting around fs).types in
      let g = args_go takes types (suc at) limit in
      let exact = args_exact types (suc at) limit takes at' limit' found in
      let piece = g.pieces.piece in
      let onto : o ∷ (front ++ ts) ≡ (o ∷ piece) ++ t ∷ (mid ++ ts) = ap (λ front. o ∷ (front ++ ts)) front_is ∙ ap (λ ts. o ∷ ts) (append_assoc piece (t ∷ mid) ts) in
      let onto' : o ∷ (front ++ more) ≡ (o ∷ piece) ++ t ∷ (mid ++ more) = ap (λ front. o ∷ (front ++ more)) front_is ∙ ap (λ ts. o ∷ ts) (append_assoc piece (t ∷ mid) more) in
      let takes' = takes_stable (o ∷ piece) t (mid ++ ts) (mid ++ more) (subst (λ left. TakesTypeArgs ((o ∷ piece) ++ t ∷ (mid ++ ts)) args left) left_is (subst (λ toks. TakesTypeArgs toks args left) onto takes)) in
      let found' = taken_found takes' types (suc at) limit in
      let g' = args_go takes' types (suc at) limit in
      let exact' = args_exact types (suc at) limit takes' found'.at found'.limit found'.found in
      let same : g'.pieces.piece ≡ piece = cancel g'.pieces.piece piece (t ∷ (mid ++ more)) (sym g'.pieces.are) in
      let at_same : found'.at ≡ at' = omega (arith, exact'.0, g'.pieces.is_at, ap length same, exact.0, g.pieces.is_at) in
      let limits = some_pair_of Closed Closed g'.pieces.limit' g.pieces.limit'
      (drive (Head types zero) (suc (suc at)) limit piece) (ap (drive (Head types zero) (suc (suc at)) limit) (sym same) ∙ g'.pieces.drives.is) g.pieces.drives.is in
      let limit_same : found'.limit ≡ limit' = exact'.1 ∙ limits ∙ sym exact.1 in
      let look : taken_ahead types (suc at) limit (o ∷ (front ++ more)) ≡ Found args (At at' limit' (t ∷ (mid ++ more))) =
      ap (taken_ahead types (suc at) limit) onto' ∙ found'.found ∙ ap (λ k. Found args (At k found'.limit (t ∷ (mid ++ more)))) at_same ∙ ap (λ l. Found args (At at' l (t ∷ (mid ++ more)))) limit_same in
      ways (further reach None) fs (Value (tree.Name p args)) at' limit' (t ∷ mid) many
      (subst (λ left. run around long turns (further reach None) (config fs (Value (tree.Name p args)) at' limit' left) ≡ Stopped (Some b)) left_is came)
      (subst (λ left. length left < turns) left_is few) (subst Ended left_is end)
      (subst (λ k. Within k limit') (sym (exact.0 ∙ g.pieces.is_at)) (subst (Within (suc (suc at) + length piece)) (sym exact.1)
      (drive_within (Head types zero) Closed (suc (suc at)) limit g.pieces.limit' piece g.pieces.drives.is (within_more at (suc (suc at)) limit (omega arith) w))))
      (behind_step around long None (config fs (Value (tree.Name p args)) at' limit' (t ∷ (mid ++ more))) f
      (rw (h, less) (ap (λ look. name_by around long look fs p (At (suc at) limit (o ∷ (front ++ more)))) look)))
      (omega (arith, is, exact.0, g.pieces.is_at, ap length front_is, length-append piece (t ∷ mid)))

  generic_way : (turns : ℕ) (reach : Option FarthestFailure) (fs : List Frame) (at : ℕ) (limit : Option Told) (p : Token) (front : List Token) (many : ℕ) (args : TypeTrees) (at' : ℕ) (limit' : Option Told) (left : List Token) → IsName p
      → begins_with "<" (front ++ ts) ≡ true → (takes : TakesTypeArgs (front ++ ts) args left) → taken_ahead (nesting around fs).types (suc at) limit (front ++ ts) ≡ Found args (At at' limit' left)
      → run around long turns (further reach None) (config fs (Value (tree.Name p args)) at' limit' left) ≡ Stopped (Some b)
      → length left < turns → Ended left → Within at limit → Other fs Expected at limit (p ∷ (front ++ more)) → many ≡ at + suc (length front) → WaysIn turns → Verdict long many n lf b
  generic_way turns reach fs at limit p [] many args at' limit' left h less takes found came few end w f is ways =
      let place = args_place (nesting around fs).types (suc at) limit takes at' limit' found in
      verdict_later around long b n lf many (main_stop around long turns b (further reach None) fs (Value (tree.Name p args)) at' limit' left few end came) (omega (arith, place.0, is))
  generic_way turns reach fs at limit p (o ∷ front) many args at' limit' left h less takes found came few end w f is ways =
      let g = args_go takes (nesting around fs).types (suc at) limit in
      generic_by turns reach fs at limit p o front many args at' limit' left h less takes found came few end w f is ways (splits g.pieces.piece left front ts (sym g.pieces.are))

  -- operators
  operator_on_way : (turns : ℕ) (reach : Option FarthestFailure) (fs : List Frame) (v : ExprTree) (at : ℕ) (limit : Option Told) (p : Token) (front : List Token) (many : ℕ) (op : Operator) (behind : List Token) (next : ℕ)
      → run around long turns reach (config (Left (bound (level op) v fs).0 op p ∷ (bound (level op) v fs).1) Expected next limit behind) ≡ Stopped (Some b)
      → length behind < turns → Ended behind → Within at limit → next ≡ at + operator_tokens op
      → (mid : List Token) → behind ≡ mid ++ ts → sign_at (p ∷ (front ++ more)) ≡ (codes (operator_text op), mid ++ more)
      → Other fs (Value v) at limit (p ∷ (front ++ more)) → many ≡ next + length mid → WaysIn turns → Verdict long many n lf b
  operator_on_way turns reach fs v at limit p front many op behind next came few end w is mid are sign f same ways =
      let o = operates_so around long fs v at limit p (front ++ more) (mid ++ more) op sign in
      let frames = Left (bound (level op) v fs).0 op p ∷ (bound (level op) v fs).1 in
      ways reach frames Expected next limit mid many
      (subst (λ behind. run around long turns reach (config frames Expected next limit behind) ≡ Stopped (Some b)) are came)
      (subst (λ behind. length behind < turns) are few) (subst Ended are end) (within_more at next limit (omega (arith, is)) w)
      (subst (λ k. Other frames Expected k limit (mid ++ more)) (sym is) (behind_step around long o.other (config frames Expected (at + operator_tokens op) limit (mid ++ more)) f o.is)) same

  -- the way that ends before `>>=`
  assign_verdict : (turns : ℕ) (reach : Option FarthestFailure) (c : Config) (fs : List Frame) (v e' : ExprTree) (at : ℕ) (limit : Option Told) (op : Operator) (next : ℕ) (behind : List Token)
      → run around long turns (further reach (assign_by around long (may_assign op (whole v fs)) at (At next limit behind))) c ≡ Stopped (Some b) → Ended behind → Within at limit → at < next
      → may_assign op (e', []) ≡ true → whole v fs ≡ (e', []) → n ≡ at → lf ≡ limit → Verdict long next n lf b
  assign_verdict turns reach c fs v e' at limit op next [] came end w less may is n_is lf_is = absurd end
  assign_verdict turns reach c fs v e' at limit op next (t ∷ others) came end w less may is n_is lf_is =
      let way = way_at long at next limit t others in
      let assigns : may_assign op (whole v fs) ≡ true = ap (may_assign op) is ∙ may in
      let left_way : assign_by around long (may_assign op (whole v fs)) at (At next limit (t ∷ others)) ≡ Some way.reach = ap (λ b. assign_by around long b at (At next limit (t ∷ others))) assigns ∙ way.is in
      told_there limit at t others way.reach
      (stops_above around long turns way.reach b (further reach (assign_by around long (may_assign op (whole v fs)) at (At next limit (t ∷ others)))) c
      (subst (λ x. Above way.reach (further reach x)) (sym left_way) (above_second reach way.reach)) came)
      way.many way.told (subst (Grows next limit) (sym lf_is) same_limit) (within_more at next limit (omega (arith, less)) w) (inr (omega (arith, n_is, less), sym n_is))

  open_verdict : (turns : ℕ) (reach : Option FarthestFailure) (fs : List Frame) (v : ExprTree) (at : ℕ) (limit : Option Told) (p : Token) (op : Operator) (next : ℕ) (behind : List Token) (many : ℕ)
      → run around long turns (further reach (assign_by around long (may_assign op (whole v fs)) at (At next limit behind))) (config (Left (bound (level op) v fs).0 op p ∷ (bound (level op) v fs).1) Expected next limit behind) ≡ Stopped (Some b)
      → length behind < turns → Ended behind → Within at limit → at < next → ((e' : ExprTree) → may_assign op (e', []) ≡ true) → next ≡ many → OpenEnd around long fs v next at limit n lf → Verdict long many n lf b
  open_verdict turns reach fs v at limit p op next behind many came few end w less may same (inl h) =
      verdict_here around long b n lf many
      (main_stop around long turns b (further reach (assign_by around long (may_assign op (whole v fs)) at (At next limit behind))) (Left (bound (level op) v fs).0 op p ∷ (bound (level op) v fs).1) Expected next limit behind few end came)
      same (within_more at next limit (omega (arith, less)) w) h.0 h.1
  open_verdict turns reach fs v at limit p op next behind many came few end w less may same (inr h) =
      subst (λ many. Verdict long many n lf b) same
      (assign_verdict turns reach (config (Left (bound (level op) v fs).0 op p ∷ (bound (level op) v fs).1) Expected next limit behind) fs v h.2 at limit op next behind came end w less (may h.2) h.3 h.0 h.1)

  as_operator : (op other : Operator) (x : List Token) → op ≡ other → ◌≡◌ {A = SignAt} (codes (operator_text other), x) (codes (operator_text op), x)
  as_operator op other x h = ap (λ (o : Operator). sign_pair (codes (operator_text o)) x) (sym h)
    where
      sign_pair : List ℕ → List Token → SignAt
      sign_pair text x = (text, x)

  operator_way : (turns : ℕ) (reach : Option FarthestFailure) (fs : List Frame) (v : ExprTree) (at : ℕ) (limit : Option Told) (p : Token) (front : List Token) (many : ℕ) (op : Operator) (behind : List Token) (next : ℕ)
      → run around long turns (further reach (assign_by around long (may_assign op (whole v fs)) at (At next limit behind))) (config (Left (bound (level op) v fs).0 op p ∷ (bound (level op) v fs).1) Expected next limit behind) ≡ Stopped (Some b)
      → length behind < turns → Ended behind → Within at limit → next ≡ at + operator_tokens op → length (p ∷ (front ++ ts)) ≡ operator_tokens op + length behind
      → Other fs (Value v) at limit (p ∷ (front ++ more)) → many ≡ at + suc (length front) → WaysIn turns → SignParts p (front ++ ts) op behind → Verdict long many n lf b
  operator_way turns reach fs v at limit p front many op behind next came few end w is covered f same ways (one_token g no_end each are) =
      operator_on_way turns (further reach (assign_by around long (may_assign op (whole v fs)) at (At next limit behind))) fs v at limit p front many op behind next came few end w is front are (each (front ++ more)) f
      (omega (arith, same, is, covered, ap length are)) ways
  operator_way turns reach fs v at limit p [] many op behind next came few end w is covered f same ways (greater g o are apart) =
      let one : next ≡ suc at = is ∙ ap (λ op. at + operator_tokens op) o ∙ omega arith in
      open_verdict turns reach fs v at limit p op next behind many came few end w (omega (arith, one)) (λ e'. ap (λ op. may_assign op (e', [])) o) (omega (arith, one, same))
      (subst (λ k. OpenEnd around long fs v k at limit n lf) (sym one) (open_one around long p more g f))
  operator_way turns reach fs v at limit p (q ∷ front) many op behind next came few end w is covered f same ways (greater g o are apart) =
      operator_on_way turns (further reach (assign_by around long (may_assign op (whole v fs)) at (At next limit behind))) fs v at limit p (q ∷ front) many op behind next came few end w is (q ∷ front) are
      (greater_sign p (q ∷ (front ++ more)) g apart ∙ as_operator op Greater (q ∷ (front ++ more)) o) f (omega (arith, same, is, ap operator_tokens o)) ways
  operator_way turns reach fs v at limit p [] many op behind next came few end w is covered f same ways (greater_equal g q are j k o) =
      verdict_later around long b n lf many
      (main_stop around long turns b (further reach (assign_by around long (may_assign op (whole v fs)) at (At next limit behind))) (Left (bound (level op) v fs).0 op p ∷ (bound (level op) v fs).1) Expected next limit behind few end came)
      (omega (arith, same, is, ap operator_tokens o))
  operator_way turns reach fs v at limit p (q' ∷ front) many op behind next came few end w is covered f same ways (greater_equal g q are j k o) =
      let both = heads q' q (front ++ ts) behind are in
      operator_on_way turns (further reach (assign_by around long (may_assign op (whole v fs)) at (At next limit behind))) fs v at limit p (q' ∷ front) many op behind next came few end w is front (sym both.1)
      (equal_sign p q' (front ++ more) g (ap (joins p ">") both.0 ∙ j) (ap (joins p "=") both.0 ∙ k) ∙ as_operator op GreaterEqual (front ++ more) o) f (omega (arith, same, is, ap operator_tokens o)) ways
  operator_way turns reach fs v at limit p [] many op behind next came few end w is covered f same ways (shift g q are j a o) =
      verdict_later around long b n lf many
      (main_stop around long turns b (further reach (assign_by around long (may_assign op (whole v fs)) at (At next limit behind))) (Left (bound (level op) v fs).0 op p ∷ (bound (level op) v fs).1) Expected next limit behind few end came)
      (omega (arith, same, is, ap operator_tokens o))
  operator_way turns reach fs v at limit p (q' ∷ []) many op behind next came few end w is covered f same ways (shift g q are j a o) =
      let both = heads q' q ts behind are in
      let two : next ≡ suc (suc at) = is ∙ ap (λ op. at + operator_tokens op) o ∙ omega arith in
      open_verdict turns reach fs v at limit p op next behind many came few end w (omega (arith, two)) (λ e'. ap (λ op. may_assign op (e', [])) o) (omega (arith, two, same))
      (subst (λ k. OpenEnd around long fs v k at limit n lf) (sym two) (open_two around long p q' more g (ap (joins p ">") both.0 ∙ j) f))
  operator_way turns reach fs v at limit p (q' ∷ r ∷ front) many op behind next came few end w is covered f same ways (shift g q are j a o) =
      let both = heads q' q (r ∷ (front ++ ts)) behind are in
      let apart : joins q' "=" r ≡ false = ap (λ q. joins q "=" r) both.0 ∙ subst (NoEqual q) (sym both.1) a in
      operator_on_way turns (further reach (assign_by around long (may_assign op (whole v fs)) at (At next limit behind))) fs v at limit p (q' ∷ r ∷ front) many op behind next came few end w is (r ∷ front) (sym both.1)
      (shift_sign p q' (r ∷ (front ++ more)) g (ap (joins p ">") both.0 ∙ j) apart ∙ as_operator op ShiftRight (r ∷ (front ++ more)) o) f (omega (arith, same, is, ap operator_tokens o)) ways

  -- where `>>=` does not go on
  stuck_way : (fs fs' : List Frame) (frame : Frame) (v e' : ExprTree) (at : ℕ) (limit : Option Told) (p second third : Token) (others front : List Token) (many : ℕ) (reach : Option FarthestFailure) → whole v fs ≡ (e', frame ∷ fs') → Is ">" p → joins p ">" second ≡ true
      → joins second "=" third ≡ true → front ++ ts ≡ second ∷ third ∷ others → run_by around long (λ r c. Stopped r) reach (Refused (At (suc (suc at)) limit (third ∷ others))) ≡ Stopped (Some b) → Within at limit
      → Other fs (Value v) at limit (p ∷ (front ++ more)) → many ≡ at + suc (length front) → Verdict long many n lf b
  stuck_way fs fs' frame v e' at limit p second third others [] many reach whole_is g j k are came w f same =
      let way = way_at long (suc (suc at)) (suc (suc at)) limit third others in
      further_on way.reach (refused_most around long reach (suc (suc at)) limit third others b came way) (omega (arith, way.many, same))
  stuck_way fs fs' frame v e' at limit p second third others (q ∷ []) many reach whole_is g j k are came w f same =
      let way = way_at long (suc (suc at)) (suc (suc at)) limit third others in
      let both = heads q second ts (third ∷ others) are in
      let here : suc (suc at) ≡ many = omega (arith, same) in
      subst (λ many. Verdict long many n lf b) here
      (⊎_elim (λ h. told_there limit (suc (suc at)) third others way.reach (refused_most around long reach (suc (suc at)) limit third others b came way) way.many way.told h.1 (within_more at (suc (suc at)) limit (omega arith) w) (inl (h.0, refl)))
      (λ h. absurd (held_apart (whole v fs) h.2 e' frame fs' h.3 whole_is))
      (open_two around long p q more g (ap (joins p ">") both.0 ∙ j) f))
  stuck_way fs fs' frame v e' at limit p second third others (q ∷ r ∷ front) many reach whole_is g j k are came w f same =
      let both = heads q second (r ∷ (front ++ ts)) (third ∷ others) are in
      let more' = heads r third (front ++ ts) others both.1 in
      let h = assign_ends around long p q r (front ++ more) g (ap (joins p ">") both.0 ∙ j) (ap (λ q. joins q "=" r) both.0 ∙ ap (joins second "=") more'.0 ∙ k) f in
      absurd (held_apart (whole v fs) h.2 e' frame fs' h.3 whole_is)

  some_room : {fs : List Frame} {mode : Mode} {at : ℕ} {limit : Option Told} {toks : List Token} {s : Step} → Kind around long fs mode at limit toks s → (turns : ℕ) (reach : Option FarthestFailure) (p : Token) (front : List Token) (many : ℕ) → toks ≡ p ∷ (front ++ ts)
      → run_by around long (run around long turns) reach s ≡ Stopped (Some b) → Shortens (length toks) s → length toks < suc turns → Ended toks → Within at limit → Other fs mode at limit (p ∷ (front ++ more)) → many ≡ at + suc (length front) → WaysIn turns
      → Verdict long many n lf b
  some_room (uniform {fs = fs} {mode = mode} {at = at} {limit = limit} {t = t} {ts = toks} fs' mode' en no_end fits each) turns reach p front many is came short few end w f same ways =
      let both = heads t p toks (front ++ ts) is in
      ways (further reach None) fs' mode' (suc at) (noted limit en at t) front many
      (subst (λ toks. run around long turns (further reach None) (config fs' mode' (suc at) (noted limit en at t) toks) ≡ Stopped (Some b)) both.1 came)
      (omega (arith, short, few, ap length both.1)) (subst Ended both.1 (ended_behind t toks no_end end)) (within_noted at limit en t w)
      (behind_step around long None (config fs' mode' (suc at) (noted limit en at t) (front ++ more)) f
      (step_cons around long mode fs at limit p (front ++ more) ∙ ap (λ p. step_by around long mode fs at limit p (front ++ more)) (sym both.0) ∙ each at limit (front ++ more)))
      (omega (arith, same))
  some_room (bare {fs = fs} {at = at} {limit = limit} {t = t} {ts = toks} h l) turns reach p front many is came short few end w f same ways =
      let both = heads t p toks (front ++ ts) is in
      bare_way turns (further reach None) fs at limit p front many (subst IsName both.0 h) (subst (λ toks. begins_with "<" toks ≡ false) both.1 l)
      (subst (λ toks. run around long turns (further reach None) (config fs (Value (tree.Name p NoTypes)) (suc at) limit toks) ≡ Stopped (Some b)) both.1
      (subst (λ t. run around long turns (further reach None) (config fs (Value (tree.Name t NoTypes)) (suc at) limit toks) ≡ Stopped (Some b)) both.0 came))
      (omega (arith, short, few, ap length both.1)) (subst Ended both.1 (ended_behind t toks (name_end around long t h) end)) w f same ways
  some_room (without {fs = fs} {at = at} {limit = limit} {t = t} {ts = toks} h l none at' limit' rest' look) turns reach p front many is came short few end w f same ways =
      let both = heads t p toks (front ++ ts) is in
      let r = further reach (reach_at long at' (At at' limit' rest')) in
      without_way turns reach fs at limit p front many at' limit' rest' (subst IsName both.0 h) (subst (λ toks. begins_with "<" toks ≡ true) both.1 l)
      (subst (λ toks. taken_ahead (nesting around fs).types (suc at) limit toks ≡ Missing (At at' limit' rest')) both.1 look)
      (subst (λ toks. run around long turns r (config fs (Value (tree.Name p NoTypes)) (suc at) limit toks) ≡ Stopped (Some b)) both.1
      (subst (λ t. run around long turns r (config fs (Value (tree.Name t NoTypes)) (suc at) limit toks) ≡ Stopped (Some b)) both.0 came))
      (omega (arith, short, few, ap length both.1)) (subst Ended both.1 (ended_behind t toks (name_end around long t h) end)) w f same ways
  some_room (generic {fs = fs} {at = at} {limit = limit} {t = t} {ts = toks} h l args at' limit' rest' takes look) turns reach p front many is came short few end w f same ways =
      let both = heads t p toks (front ++ ts) is in
      generic_way turns reach fs at limit p front many args at' limit' rest' (subst IsName both.0 h) (subst (λ toks. begins_with "<" toks ≡ true) both.1 l) (subst (λ toks. TakesTypeArgs toks args rest') both.1 takes)
      (subst (λ toks. taken_ahead (nesting around fs).types (suc at) limit toks ≡ Found args (At at' limit' rest')) both.1 look)
      (subst (λ t. run around long turns (further reach None) (config fs (Value (tree.Name t args)) at' limit' rest') ≡ Stopped (Some b)) both.0 came)
      (omega (arith, short, few)) (takes_ended around long takes (ended_behind t toks (name_end around long t h) end)) w f same ways
  some_room (operates {fs = fs} {at = at} {limit = limit} {t = t} {ts = toks} {v = v} op behind next sign passes) turns reach p front many is came short few end w f same ways =
      let both = heads t p toks (front ++ ts) is in
      let covered = operator_covered op (t ∷ toks) behind sign in
      let next_is = replicated (operator_tokens op) at limit (t ∷ toks) (omega (arith, covered)) passes in
      operator_way turns reach fs v at limit p front many op behind next
      (subst (λ t. run around long turns (further reach (assign_by around long (may_assign op (whole v fs)) at (At next limit behind))) (config (Left (bound (level op) v fs).0 op t ∷ (bound (level op) v fs).1) Expected next limit behind) ≡ Stopped (Some b)) both.0 came)
      (omega (arith, short, few)) (operator_ended around long (sign_parts t toks op behind sign) end) w next_is (omega (arith, covered, ap length both.1)) f same ways
      (sign_parts p (front ++ ts) op behind (subst (λ toks. sign_at toks ≡ (codes (operator_text op), behind)) is sign))
  some_room (ends {at = at} {limit = limit} {ts = toks} {e = e'} v end') turns reach p front many is came short few end w f same ways = absurd (no_stop around long e' (At at limit toks) reach b came)
  some_room (stuck {fs = fs} {mode = mode} {at = at} {limit = limit} {t = t} {ts = toks} each) turns reach p front many is came short few end w f same ways =
      let both = heads t p toks (front ++ ts) is in
      absurd (no_refusal around long (At at limit (t ∷ (front ++ more))) f
      (step_cons around long mode fs at limit p (front ++ more) ∙ ap (λ p. step_by around long mode fs at limit p (front ++ more)) (sym both.0) ∙ each at limit (front ++ more)))
  some_room (stuck_behind {fs = fs} {fs' = fs'} {f = frame} {at = at} {limit = limit} {t = t} {ts = toks} {v = v} {e = e'} second third others whole_is g j k are) turns reach p front many is came short few end w f same ways =
      let both = heads t p toks (front ++ ts) is in
      stuck_way fs fs' frame v e' at limit p second third others front many reach whole_is (subst (Is ">") both.0 g) (ap (λ t. joins t ">" second) (sym both.0) ∙ j) k (sym both.1 ∙ are) came w f same
  some_room exhausted turns reach p front many is came short few end w f same ways = absurd end

  -- each other tree is told where a way was left
  pub ways : (turns : ℕ) → WaysIn turns
  ways zero reach fs mode at limit front many came few end w f same = absurd (omega (arith, few))
  ways (suc turns) reach fs mode at limit [] many came few end w f same =
      let g = finishes_grows f in
      verdict_here around long b n lf many (main_stop around long (suc turns) b reach fs mode at limit ts few end came) (omega (arith, same)) w g.0 g.1
  ways (suc turns) reach fs mode at limit (p ∷ front) many came few end w f same =
      some_room (kind_of around long mode fs at limit (p ∷ (front ++ ts))) turns reach p front many refl came (step_shorter around long (config fs mode at limit (p ∷ (front ++ ts)))) few end w f same (ways turns)
