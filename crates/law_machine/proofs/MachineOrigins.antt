-- What the machine stops with is told of a tree that goes as far.
use Rattle.std.proofs.Common.{◌≡◌, ◌⊎◌, inl, inr, ⊎_elim, ℕ, zero, suc, ◌+◌, ◌<◌, Bool, true, false, List, [], ◌∷◌, ◌++◌, length, refl, sym, ap, subst, ◌∙◌, codes, arith}
use Rattle.std.specs.Prelude.{Option, Some, None, ◌==◌}
use Rattle.std.proofs.lemmas.Bool.{false≢true, and_from}
use Rattle.std.proofs.lemmas.Bool.Decides.{nat_tests}
use Prim.Native.String.{String}
use Rattle.def_token.specs.Lexical as lexical
use Rattle.def_token.specs.Lexical.{Token}
use Rattle.def_tree.specs.ExprTree as tree
use Rattle.def_tree.specs.ExprTree.{ExprTree}
use Rattle.def_tree.specs.Expressions.{TakesTypeArgs}
use Rattle.def_tree.specs.Limits.{Nesting, operator_tokens}
use Rattle.def_tree.specs.Operator.{Operator, operator_text, Or, And, BitOr, BitXor, BitAnd, Equal, NotEqual, Less, LessEqual, Greater, GreaterEqual, ShiftLeft, ShiftRight, Add, Subtract, Multiply, Divide, Remainder, level, SignAt, sign_at, sign_text, joins}
use Rattle.def_tree.specs.Statements.{begins_with}
use Rattle.def_tree.specs.Symbol.{Sign, symbol, is_sign, Is, IsName, touches}
use Rattle.def_tree.specs.TypeTree.{TypeTrees, NoTypes}
use Rattle.law_tree.proofs.Covered.{operator_covered}
use Rattle.law_tree.proofs.OperatorSigns.{sign_by}
use Rattle.law_tree.proofs.Symbols.{is_sign-true}
use Rattle.def_reading.specs.Cursor.{Told, At, noted, FarthestFailure, reach_at, further, further_by, counts_more}
use Rattle.def_reading.specs.TypeAhead.{Found, Missing, taken_ahead, leads_on}
use Rattle.def_reading.specs.TypeReading.{Ended}
use Rattle.def_reading.specs.Machine.{Frame, Left, Mode, Expected, Value, Step, Held, nesting, bound, whole, may_assign, assign_by, step_at}
use Rattle.law_machine.proofs.MachineOutcome.{Stopped, run_by, run}
use Rattle.law_types.proofs.AheadFaults.{Within, within_noted, args_go, missing_dies}
use Rattle.law_types.proofs.AheadKept.{Harmless}
use Rattle.law_types.proofs.AheadSound.{none_without}
use Rattle.law_types.proofs.AheadStages.{Dies, ended_alive}
use Rattle.law_machine.proofs.MachineCloses.{ending}
use Rattle.law_machine.proofs.MachineComplete.{config}
use Rattle.law_machine.proofs.MachineFollows.{Completion, stuck_completion, shift_completion, assign_completion, name_completion}
use Rattle.law_machine.proofs.MachinePrepends.{prepend, name_prepend, generic_prepend, operator_prepend}
use Rattle.law_machine.proofs.MachineGrows.{args_exact, replicated}
use Rattle.law_machine.proofs.MachineKinds.{Kind, uniform, bare, without, generic, operates, ends, stuck, stuck_behind, exhausted, kind_of, sign_no_end}
use Rattle.law_machine.proofs.MachineOpenEnds.{step_cons}
use Rattle.law_machine.proofs.MachineRun.{step_shorter, Shortens}
use Rattle.law_machine.proofs.MachineSigns.{sign_is}
use Rattle.law_machine.proofs.MachineWays.{operator_ended, name_end, takes_ended, no_stop, within_more, drive_within}
use Rattle.law_machine.proofs.SignParts.{SignParts, one_token, greater, greater_equal, shift, sign_parts}
use Rattle.law_types.proofs.Stopping.{ended_behind}
use Rattle.law_types.proofs.TypeStages.{Stage, Head, Closed}

-- one of two counts
pub further_is : (this other : Option FarthestFailure) (b : FarthestFailure) → further this other ≡ Some b → (this ≡ Some b) ⊎ (other ≡ Some b)
further_is None other b h = inr h
further_is (Some this) None b h = inl h
further_is (Some this) (Some other) b h = further_one (counts_more other this) h
  where
    further_one : (c : Bool) → further_by c this other ≡ Some b → (Some this ≡ Some b) ⊎ (Some other ≡ Some b)
    further_one true h = inr h
    further_one false h = inl h

none_some : (b : FarthestFailure) → None ≡ Some b → ⊥
none_some b h = cc

further_none : (this : Option FarthestFailure) (b : FarthestFailure) → further this None ≡ Some b → this ≡ Some b
further_none this b h = ⊎_elim (λ k. k) (λ k. absurd (none_some b k)) (further_is this None b h)

-- tokens of which none leads on
abbrev Quiet : List Token → Type 0
Quiet [] = Unit {0}
Quiet (t ∷ ts) = (leads_on (t ∷ ts) ≡ false) × Quiet ts

quiet_rest : (piece rest : List Token) → Quiet (piece ++ rest) → leads_on rest ≡ false
quiet_rest [] [] q = refl
quiet_rest [] (t ∷ rest) q = q.0
quiet_rest (t ∷ piece) rest q = quiet_rest piece rest q.1

harmless_quiet : (more : List Token) → Quiet more → (stage : Stage) → Harmless stage more
harmless_quiet more q stage at limit limit' piece rest are leads d = false≢true (sym (quiet_rest piece rest (subst Quiet are q)) ∙ leads)

-- a mark that touches the token before it
abbrev touching : Token → String → Token
touching before text = record { kind = lexical.Mark; text = codes text; start = before.end; end = before.end; place = record { line = 1; column = 1 } }

touches_it : (before : Token) (text : String) → touches before (touching before text) ≡ true
touches_it before text = same before.end
  where
    same : (n : ℕ) → (n == n) ≡ true
    same n = grind (arith, nat_tests)

joins_greater : (before : Token) → joins before ">" (touching before ">") ≡ true
joins_greater before = and_from (touches before (touching before ">")) true (touches_it before ">") refl

joins_equal : (before : Token) → joins before "=" (touching before "=") ≡ true
joins_equal before = and_from (touches before (touching before "=")) true (touches_it before "=") refl

-- the operators before which an assignment may begin
may_view : (op : Operator) (held : Held) → may_assign op held ≡ true → ((op ≡ Greater) ⊎ (op ≡ ShiftRight)) × (e : ExprTree) × (held ≡ (e, []))
may_view Greater (e, []) h = (inl refl, e, refl)
may_view Greater (e, frame ∷ frames) h = absurd (false≢true h)
may_view ShiftRight (e, []) h = (inr refl, e, refl)
may_view ShiftRight (e, frame ∷ frames) h = absurd (false≢true h)
may_view Or held h = absurd (false≢true h)
may_view And held h = absurd (false≢true h)
may_view BitOr held h = absurd (false≢true h)
may_view BitXor held h = absurd (false≢true h)
may_view BitAnd held h = absurd (false≢true h)
may_view Equal held h = absurd (false≢true h)
may_view NotEqual held h = absurd (false≢true h)
may_view Less held h = absurd (false≢true h)
may_view LessEqual held h = absurd (false≢true h)
may_view GreaterEqual held h = absurd (false≢true h)
may_view ShiftLeft held h = absurd (false≢true h)
may_view Add held h = absurd (false≢true h)
may_view Subtract held h = absurd (false≢true h)
may_view Multiply held h = absurd (false≢true h)
may_view Divide held h = absurd (false≢true h)
may_view Remainder held h = absurd (false≢true h)

-- they begin with `>`
no_one_token : (t : Token) (op : Operator) → is_sign ">" (symbol t) ≡ false → sign_at (t ∷ []) ≡ (codes (operator_text op), []) → (op ≡ Greater) ⊎ (op ≡ ShiftRight) → ⊥
no_one_token t op g h (inl is) =
    let text : sign_text (symbol t) ≡ codes (operator_text op) = ap (λ (x : SignAt). x.0) (sym (ap (λ b. sign_by b t []) g) ∙ h) in
    let symbol_is : symbol t ≡ Sign (codes (operator_text op)) = sign_is (symbol t) op text in
    false≢true (sym g ∙ ap (is_sign ">") (symbol_is ∙ ap (λ op. Sign (codes (operator_text op))) is))
no_one_token t op g h (inr is) =
    let text : sign_text (symbol t) ≡ codes (operator_text op) = ap (λ (x : SignAt). x.0) (sym (ap (λ b. sign_by b t []) g) ∙ h) in
    let symbol_is : symbol t ≡ Sign (codes ">>") = sign_is (symbol t) op text ∙ ap (λ op. Sign (codes (operator_text op))) is in
    let none : [] ≡ codes ">>" = ap sign_text (sym symbol_is) ∙ text ∙ ap (λ op. codes (operator_text op)) is in cc

no_tokens : (t : Token) (ts : List Token) → t ∷ ts ≡ [] → ⊥
no_tokens t ts h = cc

different : (this other : ℕ) → this < other → other ≡ this → ⊥
different this other h k = omega (arith, h, k)

not_equal : (op : Operator) → op ≡ GreaterEqual → (op ≡ Greater) ⊎ (op ≡ ShiftRight) → ⊥
not_equal op is (inl h) = different 1 2 (omega arith) (ap operator_tokens (sym is ∙ h))
not_equal op is (inr h) = different 7 8 (omega arith) (ap level (sym h ∙ is))

-- limits stand before what is behind a name's type arguments
pub generic_within : (around : Nesting) (fs : List Frame) (at : ℕ) (limit : Option Told) (ts : List Token) (args : TypeTrees) (at' : ℕ) (limit' : Option Told) (left : List Token) → Ended ts
    → TakesTypeArgs ts args left → taken_ahead (nesting around fs).types (suc at) limit ts ≡ Found args (At at' limit' left) → Within (suc at) limit → Within at' limit'
generic_within around fs at limit [] args at' limit' left end takes look w = absurd end
generic_within around fs at limit (o ∷ ts) args at' limit' left end takes look w =
    let types = (nesting around fs).types in
    let g = args_go takes types (suc at) limit in
    let exact = args_exact types (suc at) limit takes at' limit' look in
    subst (λ k. Within k limit') (sym (exact.0 ∙ g.pieces.is_at)) (subst (Within (suc (suc at) + length g.pieces.piece)) (sym exact.1)
    (drive_within (Head types zero) Closed (suc (suc at)) limit g.pieces.limit' g.pieces.piece g.pieces.drives.is (within_more (suc at) (suc (suc at)) limit (omega arith) w)))

module _ (around : Nesting) (long : Option Told) (assigns' : Bool) (b : FarthestFailure) where
  -- the way that ends before `>>=`
  assign_origin : (fs : List Frame) (v e : ExprTree) (at : ℕ) (limit : Option Told) (t : Token) (ts : List Token) (op : Operator) (behind : List Token) (next : ℕ) → next ≡ at + operator_tokens op → Ended behind → Within at limit
      → (op ≡ Greater) ⊎ (op ≡ ShiftRight) → whole v fs ≡ (e, []) → reach_at long at (At next limit behind) ≡ Some b → SignParts t ts op behind → assigns' ≡ true → Completion around long assigns' b fs (Value v) at limit (t ∷ ts)
  assign_origin fs v e at limit t ts op [] next is end w may whole_is reach parts assign = absurd end
  assign_origin fs v e at limit t ts op (first ∷ others) next is end w may whole_is reach (one_token g no_end each are) assign = absurd (no_one_token t op g (each []) may)
  assign_origin fs v e at limit t ts op (first ∷ others) next is end w may whole_is reach (greater g op_is are a) assign =
      let q = touching t ">" in
      let r = touching q "=" in
      assign_completion around long assigns' b fs v e at limit t q r t [] ts (q ∷ r ∷ ending ∷ []) next first others refl g (joins_greater t) (joins_equal q) whole_is w (omega (arith, is, ap operator_tokens op_is))
      (harmless_quiet (q ∷ r ∷ ending ∷ []) (refl, (refl, (refl, tt)))) reach (λ h. no_tokens first others (are ∙ h)) assign (omega arith)
  assign_origin fs v e at limit t ts op (first ∷ others) next is end w may whole_is reach (greater_equal g q are j k op_is) assign = absurd (not_equal op op_is may)
  assign_origin fs v e at limit t ts op (first ∷ others) next is end w may whole_is reach (shift g q are j a op_is) assign =
      let r = touching q "=" in
      subst (λ ts. Completion around long assigns' b fs (Value v) at limit (t ∷ ts)) (sym are)
      (assign_completion around long assigns' b fs v e at limit t q r t (q ∷ []) (first ∷ others) (r ∷ ending ∷ []) next first others refl g j (joins_equal q) whole_is w (omega (arith, is, ap operator_tokens op_is))
      (harmless_quiet (r ∷ ending ∷ []) (refl, (refl, tt))) reach (λ h. no_tokens first others h) assign (omega arith))

  pub assign_origin_by : (may : Bool) (fs : List Frame) (v : ExprTree) (at : ℕ) (limit : Option Told) (t : Token) (ts : List Token) (op : Operator) (behind : List Token) (next : ℕ) → next ≡ at + operator_tokens op → Ended behind → Within at limit
      → may_assign op (whole v fs) ≡ may → assign_by around long may at (At next limit behind) ≡ Some b → SignParts t ts op behind → assigns' ≡ true → Completion around long assigns' b fs (Value v) at limit (t ∷ ts)
  assign_origin_by true fs v at limit t ts op behind next is end w may reach parts assign =
      let m = may_view op (whole v fs) may in assign_origin fs v m.1 at limit t ts op behind next is end w m.0 m.2 reach parts assign
  assign_origin_by false fs v at limit t ts op behind next is end w may reach parts assign = absurd (none_some b reach)

  -- the way of a name's type arguments
  name_left : (fs : List Frame) (at : ℕ) (limit : Option Told) (p o : Token) (ts : List Token) (at' : ℕ) (limit' : Option Told) (left : List Token) → IsName p → Is "<" o → Within (suc at) limit
      → Dies (Head (nesting around fs).types zero) (suc (suc at)) limit ts at' limit' left → Ended left → reach_at long at' (At at' limit' left) ≡ Some b → Completion around long assigns' b fs Expected at limit (p ∷ o ∷ ts)
  name_left fs at limit p o ts at' limit' [] n less w d end is = absurd end
  name_left fs at limit p o ts at' limit' (t ∷ others) n less w d end is = name_completion around long assigns' b fs at limit p o ts at' limit' t others n less w d is

  -- a name with its type arguments
  pub generic_origin : (fs : List Frame) (at : ℕ) (limit : Option Told) (p : Token) (ts : List Token) (args : TypeTrees) (at' : ℕ) (limit' : Option Told) (left : List Token) → IsName p → begins_with "<" ts ≡ true → Ended ts
      → TakesTypeArgs ts args left → taken_ahead (nesting around fs).types (suc at) limit ts ≡ Found args (At at' limit' left) → Completion around long assigns' b fs (Value (tree.Name p args)) at' limit' left
      → Completion around long assigns' b fs Expected at limit (p ∷ ts)
  generic_origin fs at limit p [] args at' limit' left n less end takes look c = absurd end
  generic_origin fs at limit p (o ∷ ts) args at' limit' left n less end takes look c = generic_prepend around long assigns' b args at' limit' left n less takes look c c.front refl

  pub name_origin : (fs : List Frame) (at : ℕ) (limit : Option Told) (p : Token) (ts : List Token) (at' : ℕ) (limit' : Option Told) (left : List Token) → IsName p → begins_with "<" ts ≡ true → Ended ts → Within (suc at) limit
      → taken_ahead (nesting around fs).types (suc at) limit ts ≡ Missing (At at' limit' left) → reach_at long at' (At at' limit' left) ≡ Some b → Completion around long assigns' b fs Expected at limit (p ∷ ts)
  name_origin fs at limit p [] at' limit' left n less end w look is = absurd end
  name_origin fs at limit p (o ∷ ts) at' limit' left n less end w look is =
      let o_is = is_sign-true "<" (symbol o) less in
      let d = missing_dies (nesting around fs).types (suc at) limit o ts o_is end at' limit' left look in
      name_left fs at limit p o ts at' limit' left n o_is w d (ended_alive d.alive (ended_behind o ts (sign_no_end o _ o_is) end)) is

module _ (around : Nesting) (long : Option Told) (b : FarthestFailure) where
  stopped_is : (o : Option FarthestFailure) → Stopped o ≡ Stopped (Some b) → o ≡ Some b
  stopped_is o h = cc

  abbrev Origin : List Frame → Mode → ℕ → Option Told → List Token → Option FarthestFailure → Type 0
  Origin fs mode at limit toks reach = (reach ≡ Some b) ⊎ Completion around long true b fs mode at limit toks

  abbrev OriginsIn : ℕ → Type 0
  OriginsIn turns = (reach : Option FarthestFailure) (fs : List Frame) (mode : Mode) (at : ℕ) (limit : Option Told) (toks : List Token) → run around long turns reach (config fs mode at limit toks) ≡ Stopped (Some b)
      → length toks < turns → Ended toks → Within at limit → Origin fs mode at limit toks reach

  origin_by : {fs : List Frame} {mode : Mode} {at : ℕ} {limit : Option Told} {toks : List Token} {s : Step} (turns : ℕ) (reach : Option FarthestFailure) → Kind around long fs mode at limit toks s → step_at around long mode fs (At at limit toks) ≡ s
      → run_by around long (run around long turns) reach s ≡ Stopped (Some b) → Shortens (length toks) s → length toks < suc turns → Ended toks → Within at limit → OriginsIn turns → Origin fs mode at limit toks reach
  origin_by turns reach (uniform {fs = fs} {mode = mode} {at = at} {limit = limit} {t = t} {ts = toks} fs' mode' en no_end fits each) is came short few end w origins =
      ⊎_elim (λ h. inl (further_none reach b h))
      (λ c. inr (prepend around long true b t [] c (omega arith) refl fits None (step_cons around long mode fs at limit t (c.front ++ c.more) ∙ each at limit (c.front ++ c.more))))
      (origins (further reach None) fs' mode' (suc at) (noted limit en at t) toks came (omega (arith, short, few)) (ended_behind t toks no_end end) (within_noted at limit en t w))
  origin_by turns reach (bare {fs = fs} {at = at} {limit = limit} {t = t} {ts = toks} n l) is came short few end w origins =
      let end' = ended_behind t toks (name_end around long t n) end in
      ⊎_elim (λ h. inl (further_none reach b h)) (λ c. inr (name_prepend around long true b n (none_without toks l) end' c))
      (origins (further reach None) fs (Value (tree.Name t NoTypes)) (suc at) limit toks came (omega (arith, short, few)) end' (within_more at (suc at) limit (omega arith) w))
  origin_by turns reach (without {fs = fs} {at = at} {limit = limit} {t = t} {ts = toks} n l none at' limit' left look) is came short few end w origins =
      let end' = ended_behind t toks (name_end around long t n) end in
      ⊎_elim (λ h. ⊎_elim (λ k. inl k) (λ k. inr (name_origin around long true b fs at limit t toks at' limit' left n l end' (within_more at (suc at) limit (omega arith) w) look k)) (further_is reach (reach_at long at' (At at' limit' left)) b h))
      (λ c. inr (name_prepend around long true b n none end' c))
      (origins (further reach (reach_at long at' (At at' limit' left))) fs (Value (tree.Name t NoTypes)) (suc at) limit toks came (omega (arith, short, few)) end' (within_more at (suc at) limit (omega arith) w))
  origin_by turns reach (generic {fs = fs} {at = at} {limit = limit} {t = t} {ts = toks} n l args at' limit' left takes look) is came short few end w origins =
      let end' = ended_behind t toks (name_end around long t n) end in
      ⊎_elim (λ h. inl (further_none reach b h)) (λ c. inr (generic_origin around long true b fs at limit t toks args at' limit' left n l end' takes look c))
      (origins (further reach None) fs (Value (tree.Name t args)) at' limit' left came (omega (arith, short, few)) (takes_ended around long takes end') (generic_within around fs at limit toks args at' limit' left end' takes look (within_more at (suc at) limit (omega arith) w)))
  origin_by turns reach (operates {fs = fs} {at = at} {limit = limit} {t = t} {ts = toks} {v = v} op behind next sign passes) is came short few end w origins =
      let parts = sign_parts t toks op behind sign in
      let covered = operator_covered op (t ∷ toks) behind sign in
      let next_is = replicated (operator_tokens op) at limit (t ∷ toks) (omega (arith, covered)) passes in
      let end' = operator_ended around long parts end in
      ⊎_elim (λ h. ⊎_elim (λ k. inl k) (λ k. inr (assign_origin_by around long true b (may_assign op (whole v fs)) fs v at limit t toks op behind next next_is end' w refl k parts refl))
      (further_is reach (assign_by around long (may_assign op (whole v fs)) at (At next limit behind)) b h))
      (λ c. inr (operator_prepend around long true b op behind next next_is covered c parts))
      (origins (further reach (assign_by around long (may_assign op (whole v fs)) at (At next limit behind))) (Left (bound (level op) v fs).0 op t ∷ (bound (level op) v fs).1) Expected next limit behind came
      (omega (arith, short, few)) end' (within_more at next limit (omega (arith, next_is)) w))
  origin_by turns reach (ends {at = at} {limit = limit} {ts = toks} {e = e} v end') is came short few end w origins = absurd (no_stop around long e (At at limit toks) reach b came)
  origin_by turns reach (stuck {fs = fs} {mode = mode} {at = at} {limit = limit} {t = t} {ts = toks} each) is came short few end w origins =
      ⊎_elim (λ h. inl h) (λ h. inr (stuck_completion around long true b fs mode at limit t toks is w h)) (further_is reach (reach_at long at (At at limit (t ∷ toks))) b (stopped_is _ came))
  origin_by turns reach (stuck_behind {fs = fs} {at = at} {limit = limit} {t = t} {v = v} p q others whole_is g j k are) is came short few end w origins =
      ⊎_elim (λ h. inl h)
      (λ h. inr (subst (λ ts. Completion around long true b fs (Value v) at limit (t ∷ ts)) (sym are) (shift_completion around long true b fs v at limit t p q others g j w h)))
      (further_is reach (reach_at long (suc (suc at)) (At (suc (suc at)) limit (q ∷ others))) b (stopped_is _ came))
  origin_by turns reach exhausted is came short few end w origins = absurd end

  pub origins : (turns : ℕ) → OriginsIn turns
  origins zero reach fs mode at limit toks came few end w = absurd (omega (arith, few))
  origins (suc turns) reach fs mode at limit toks came few end w =
      origin_by turns reach (kind_of around long mode fs at limit toks) refl came (step_shorter around long (config fs mode at limit toks)) few end w (origins turns)
