-- What reading an expression notes comes from a tree that goes as far.
use Rattle.std.proofs.Common.{◌≡◌, ◌⊎◌, inl, inr, ⊎_elim, ℕ, zero, suc, ◌<◌, Bool, true, false, List, [], ◌∷◌, ◌++◌, length, refl, sym, ap, subst, ◌∙◌, codes, arith}
use Rattle.std.specs.Prelude.{Option, Some, None, nat_lt}
use Rattle.std.proofs.lemmas.Bool.{false≢true}
use Rattle.std.proofs.lemmas.Bool.Decides.{nat_tests}
use Rattle.std.proofs.lemmas.Slice.Eq.{bytes_eq-Decides}
use Rattle.def_token.specs.Lexical.{Token}
use Rattle.def_tree.specs.ExprTree as tree
use Rattle.def_tree.specs.ExprTree.{ExprTree}
use Rattle.def_tree.specs.Limits.{Nesting, Entry, plain, operator_tokens}
use Rattle.def_tree.specs.Operator.{level, sign_at, joins}
use Rattle.def_tree.specs.Symbol.{Is}
use Rattle.def_tree.specs.TypeTree.{NoTypes}
use Rattle.law_tree.proofs.Covered.{operator_covered}
use Rattle.def_reading.specs.Machine.{Frame, Left, Mode, Expected, Value, Dotted, Converting, Step, nesting, bound, whole, may_assign, assign_by, step_at}
use Rattle.def_reading.specs.Cursor.{Told, At, noted, passed, before, before_by, earlier, told_by, FarthestFailure, reach_at, reach_by, further}
use Rattle.def_reading.specs.Try.{Try, Reads, Stops, settled, way_by, assign_ends, refused_in, end_by, run_by, run, expr_in, long_from, reach_in}
use Rattle.def_reading.specs.TypeReading.{Ended}
use Rattle.law_types.proofs.AheadFaults.{Within, no_limit, a_limit, within_noted}
use Rattle.law_types.proofs.AheadSound.{none_without}
use Rattle.law_machine.proofs.MachineComplete.{config}
use Rattle.law_machine.proofs.MachineFollows.{Completion, stuck_completion, shift_completion}
use Rattle.law_machine.proofs.MachineGood.{Stands, MaybeStands, ReachStands, Placed, placed_token, told_by_stands, reach_by_stands, earlier_stands, before_stands, generic_placed, missing_placed, operator_placed}
use Rattle.law_machine.proofs.MachineGrows.{replicated}
use Rattle.law_machine.proofs.MachineKinds.{Kind, uniform, bare, without, generic, operates, ends, stuck, stuck_behind, exhausted, kind_of}
use Rattle.law_machine.proofs.MachineOpenEnds.{step_cons}
use Rattle.law_machine.proofs.MachineOrigins.{further_is, assign_origin_by, name_origin, generic_origin, generic_within}
use Rattle.law_machine.proofs.MachinePrepends.{prepend, name_prepend, operator_prepend}
use Rattle.law_machine.proofs.MachineRun.{step_shorter, Shortens}
use Rattle.law_machine.proofs.MachineWays.{operator_ended, name_end, takes_ended, within_more}
use Rattle.law_machine.proofs.SignParts.{sign_parts}
use Rattle.law_machine.proofs.SignsBehind.{IsAssignment, assigns}
use Rattle.law_types.proofs.Stopping.{ended_behind}
use Rattle.law_exprs.proofs.TryComes.{Noted}

-- no way is none
none_some : (b : FarthestFailure) → None ≡ Some b → ⊥
none_some b h = cc

-- the ways that count
way_none : (a : Bool) (mode : Mode) (b : FarthestFailure) → way_by a mode None ≡ Some b → ⊥
way_none true mode b h = none_some b h
way_none false Expected b h = none_some b h
way_none false (Value v) b h = none_some b h
way_none false (Dotted v) b h = none_some b h
way_none false (Converting word t) b h = none_some b h

-- before an operand each way counts
way_expected : (a : Bool) (other : Option FarthestFailure) → way_by a Expected other ≡ other
way_expected true other = refl
way_expected false other = refl

-- behind an operand ways count where an assignment may stand
way_value : (a : Bool) (v : ExprTree) (other : Option FarthestFailure) (b : FarthestFailure) → way_by a (Value v) other ≡ Some b → (a ≡ true) × (other ≡ Some b)
way_value true v other b h = (refl, h)
way_value false v other b h = absurd (none_some b h)

-- a limit that ends before a place
before_all : (at : ℕ) (limit : Option Told) → Within at limit → before at limit ≡ limit
before_all at None w = refl
before_all at (Some told) (a_limit same h) = let yes' : nat_lt told.at at ≡ true = grind (arith, nat_tests, h) in ap (λ c. before_by c told) yes'

-- what is told before a place stands before it
before_within_by : (c : Bool) (told : Told) (at : ℕ) → nat_lt told.at at ≡ c → Within at (before_by c told)
before_within_by true told at is = a_limit told (grind (arith, nat_tests, is))
before_within_by false told at is = no_limit

-- a limit before a place stands before it
before_within : (at : ℕ) (limit : Option Told) → Within at (before at limit)
before_within at None = no_limit
before_within at (Some told) = before_within_by (nat_lt told.at at) told at refl

-- a limit up to a token stands before the next one
pub noted_within : (at : ℕ) (limit : Option Told) → Noted at limit → Within (suc at) limit
noted_within at None n = no_limit
noted_within at (Some told) n = a_limit told (omega (arith, n))

-- the same with the token's own entry
within_entry : (at : ℕ) (limit : Option Told) (e : Entry) (t : Token) → Within (suc at) limit → Within (suc at) (noted limit e at t)
within_entry at None None t w = no_limit
within_entry at None (Some l) t w = a_limit _ (omega arith)
within_entry at (Some told) None t w = w
within_entry at (Some told) (Some l) t w = w

-- how far other ways go, of what reading comes to
abbrev pub recorded : {A : Type 0} → Try A → Option FarthestFailure
recorded (Reads a place reach) = reach
recorded (Stops reach) = reach

module _ (all : List Token) (around : Nesting) (assigns' : Bool) (long : Option Told) (long_stands : MaybeStands all long) (b : FarthestFailure) where
  -- what a way tells stands among all tokens
  reach_stands : (least at : ℕ) (limit : Option Told) (ts : List Token) → Placed all at limit ts → reach_at long least (At at limit ts) ≡ Some b → Stands all b.told
  reach_stands least at limit ts p is =
      subst (ReachStands all) is
      (reach_by_stands all at (told_by (earlier limit (before least long)) at ts)
      (told_by_stands all (earlier limit (before least long)) at limit ts (earlier_stands all limit (before least long) p.stands (before_stands all least long long_stands)) p))

  -- what the way that ends before `>>=` tells stands among all tokens
  assign_stands : (may : Bool) (least at : ℕ) (limit : Option Told) (ts : List Token) → Placed all at limit ts → assign_by around long may least (At at limit ts) ≡ Some b → Stands all b.told
  assign_stands true least at limit ts p is = reach_stands least at limit ts p is
  assign_stands false least at limit ts p is = absurd (none_some b is)

  -- a tree goes as far as the way, and what is told stands among all tokens
  abbrev pub Event : List Frame → Mode → ℕ → Option Told → List Token → Type 0
  Event fs mode at limit toks = Completion around long assigns' b fs mode at limit toks × Stands all b.told

  -- each way that so many turns note counts already, or comes from such a tree
  abbrev OriginsIn : ℕ → Type 0
  OriginsIn turns = (reach : Option FarthestFailure) (fs : List Frame) (mode : Mode) (at : ℕ) (limit : Option Told) (toks : List Token) → recorded (run around assigns' long turns reach (config fs mode at limit toks)) ≡ Some b
      → length toks < turns → Ended toks → Within at limit → Placed all at limit toks → (reach ≡ Some b) ⊎ Event fs mode at limit toks

  -- the ways that a step leaves behind others
  stopped_here : (fs : List Frame) (mode : Mode) (at : ℕ) (limit : Option Told) (t : Token) (ts : List Token) (reach : Option FarthestFailure) → Within at limit → Placed all at limit (t ∷ ts)
      → (reach_at long at (At at limit (t ∷ ts)) ≡ Some b → Completion around long assigns' b fs mode at limit (t ∷ ts)) → recorded (refused_in around assigns' long reach (At at limit (t ∷ ts))) ≡ Some b
      → (reach ≡ Some b) ⊎ Event fs mode at limit (t ∷ ts)
  stopped_here fs mode at limit t ts reach w p complete came =
      ⊎_elim (λ h. inl h) (λ h. let is = ap (λ l. reach_at long at (At at l (t ∷ ts))) (sym (before_all at limit w)) ∙ h in inr (complete is, reach_stands at at limit (t ∷ ts) p is))
      (further_is reach (reach_in long (settled (At at limit (t ∷ ts)))) b came)

  -- `>>=` where no assignment may stand
  shifted : (fs : List Frame) (v : ExprTree) (at : ℕ) (limit : Option Told) (t p q : Token) (ts : List Token) (reach : Option FarthestFailure) → Is ">" t → joins t ">" p ≡ true → Within at limit → Placed all at limit (t ∷ p ∷ q ∷ ts)
      → recorded (refused_in around assigns' long reach (At (suc (suc at)) limit (q ∷ ts))) ≡ Some b → (reach ≡ Some b) ⊎ Event fs (Value v) at limit (t ∷ p ∷ q ∷ ts)
  shifted fs v at limit t p q ts reach g j w placed came =
      let w' = within_more at (suc (suc at)) limit (omega arith) w in
      let p' : Placed all (suc (suc at)) limit (q ∷ ts) = placed_token all (suc at) limit None p (q ∷ ts) (placed_token all at limit None t (p ∷ q ∷ ts) placed) in
      ⊎_elim (λ h. inl h)
      (λ h.
      let is = ap (λ l. reach_at long (suc (suc at)) (At (suc (suc at)) l (q ∷ ts))) (sym (before_all (suc (suc at)) limit w')) ∙ h in
      inr (shift_completion around long assigns' b fs v at limit t p q ts g j w is, reach_stands (suc (suc at)) (suc (suc at)) limit (q ∷ ts) p' is))
      (further_is reach (reach_in long (settled (At (suc (suc at)) limit (q ∷ ts)))) b came)

  -- `>>=` behind a whole expression
  ended_here : (fs : List Frame) (v : ExprTree) (at : ℕ) (limit : Option Told) (t : Token) (ts : List Token) (reach : Option FarthestFailure) (a : IsAssignment t ts) → Within at limit → Placed all at limit (t ∷ ts)
      → recorded (refused_in around assigns' long reach (passed (plain ∷ plain ∷ []) (At at limit (t ∷ ts)))) ≡ Some b → (reach ≡ Some b) ⊎ Event fs (Value v) at limit (t ∷ ts)
  ended_here fs v at limit t ts reach a w placed came =
      subst (λ ts. (reach ≡ Some b) ⊎ Event fs (Value v) at limit (t ∷ ts)) (sym a.are)
      (shifted fs v at limit t a.second a.third a.others reach a.first a.shifts w (subst (λ ts. Placed all at limit (t ∷ ts)) a.are placed)
      (subst (λ ts. recorded (refused_in around assigns' long reach (passed (plain ∷ plain ∷ []) (At at limit (t ∷ ts)))) ≡ Some b) a.are came))

  -- where a whole expression stands
  end_origin : (a c : Bool) (fs : List Frame) (v e : ExprTree) (at : ℕ) (limit : Option Told) (ts : List Token) (reach : Option FarthestFailure) → assign_ends a ts ≡ c → Ended ts → Within at limit → Placed all at limit ts
      → recorded (end_by around assigns' long c reach e (At at limit ts)) ≡ Some b → (reach ≡ Some b) ⊎ Event fs (Value v) at limit ts
  end_origin a false fs v e at limit ts reach is end w p came = inl came
  end_origin true true fs v e at limit ts reach is end w p came = absurd (false≢true is)
  end_origin false true fs v e at limit [] reach is end w p came = absurd end
  end_origin false true fs v e at limit (t ∷ ts) reach is end w p came =
      ended_here fs v at limit t ts reach (assigns t ts ((bytes_eq-Decides (sign_at (t ∷ ts)).0 (codes ">>=")).0 is)) w p came

  -- the ways of the machine's steps
  beside : {fs : List Frame} {mode : Mode} {at : ℕ} {limit : Option Told} {toks : List Token} (reach other : Option FarthestFailure) → (reach ≡ Some b) ⊎ (other ≡ Some b) → (other ≡ Some b → Event fs mode at limit toks)
      → (reach ≡ Some b) ⊎ Event fs mode at limit toks
  beside reach other h f = ⊎_elim (λ k. inl k) (λ k. inr (f k)) h

  -- the ways of a step, and of those behind it
  by_kind : {fs : List Frame} {mode : Mode} {at : ℕ} {limit : Option Told} {toks : List Token} {s : Step} (turns : ℕ) (reach : Option FarthestFailure) → Kind around long fs mode at limit toks s → step_at around long mode fs (At at limit toks) ≡ s
      → recorded (run_by around assigns' long (run around assigns' long turns) mode reach s) ≡ Some b → Shortens (length toks) s → length toks < suc turns → Ended toks → Within at limit → Placed all at limit toks → OriginsIn turns
      → (reach ≡ Some b) ⊎ Event fs mode at limit toks
  by_kind turns reach (uniform {fs = fs} {mode = mode} {at = at} {limit = limit} {t = t} {ts = toks} fs' mode' en no_end fits each) is came short few end w p origins =
      ⊎_elim (λ h. beside reach (way_by assigns' mode None) (further_is reach (way_by assigns' mode None) b h) (λ k. absurd (way_none assigns' mode b k)))
      (λ c. inr (prepend around long assigns' b t [] c.0 (omega arith) refl fits None (step_cons around long mode fs at limit t (c.0.front ++ c.0.more) ∙ each at limit (c.0.front ++ c.0.more)), c.1))
      (origins (further reach (way_by assigns' mode None)) fs' mode' (suc at) (noted limit en at t) toks came (omega (arith, short, few)) (ended_behind t toks no_end end) (within_noted at limit en t w) (placed_token all at limit en t toks p))
  by_kind turns reach (bare {fs = fs} {at = at} {limit = limit} {t = t} {ts = toks} n l) is came short few end w p origins =
      let end' = ended_behind t toks (name_end around long t n) end in
      ⊎_elim (λ h. beside reach (way_by assigns' Expected None) (further_is reach (way_by assigns' Expected None) b h) (λ k. absurd (way_none assigns' Expected b k)))
      (λ c. inr (name_prepend around long assigns' b n (none_without toks l) end' c.0, c.1))
      (origins (further reach (way_by assigns' Expected None)) fs (Value (tree.Name t NoTypes)) (suc at) limit toks came (omega (arith, short, few)) end' (within_more at (suc at) limit (omega arith) w) (placed_token all at limit None t toks p))
  by_kind turns reach (without {fs = fs} {at = at} {limit = limit} {t = t} {ts = toks} n l none at' limit' left look) is came short few end w p origins =
      let end' = ended_behind t toks (name_end around long t n) end in
      let other = reach_at long at' (At at' limit' left) in
      let p' = placed_token all at limit None t toks p in
      ⊎_elim (λ h. beside reach (way_by assigns' Expected other) (further_is reach (way_by assigns' Expected other) b h)
      (λ k.
      let way = sym (way_expected assigns' other) ∙ k in (
        name_origin around long assigns' b fs at limit t toks at' limit' left n l end' (within_more at (suc at) limit (omega arith) w) look way,
        reach_stands at' at' limit' left (missing_placed around all (nesting around fs).types (suc at) limit toks at' limit' left l end' look p') way,
      )))
      (λ c. inr (name_prepend around long assigns' b n none end' c.0, c.1))
      (origins (further reach (way_by assigns' Expected other)) fs (Value (tree.Name t NoTypes)) (suc at) limit toks came (omega (arith, short, few)) end' (within_more at (suc at) limit (omega arith) w) p')
  by_kind turns reach (generic {fs = fs} {at = at} {limit = limit} {t = t} {ts = toks} n l args at' limit' left takes look) is came short few end w p origins =
      let end' = ended_behind t toks (name_end around long t n) end in
      ⊎_elim (λ h. beside reach (way_by assigns' Expected None) (further_is reach (way_by assigns' Expected None) b h) (λ k. absurd (way_none assigns' Expected b k)))
      (λ c. inr (generic_origin around long assigns' b fs at limit t toks args at' limit' left n l end' takes look c.0, c.1))
      (origins (further reach (way_by assigns' Expected None)) fs (Value (tree.Name t args)) at' limit' left came (omega (arith, short, few)) (takes_ended around long takes end')
      (generic_within around fs at limit toks args at' limit' left end' takes look (within_more at (suc at) limit (omega arith) w))
      (generic_placed around all (nesting around fs).types (suc at) limit toks args at' limit' left end' takes look (placed_token all at limit None t toks p)))
  by_kind turns reach (operates {fs = fs} {at = at} {limit = limit} {t = t} {ts = toks} {v = v} op behind next sign passes) is came short few end w p origins =
      let parts = sign_parts t toks op behind sign in
      let covered = operator_covered op (t ∷ toks) behind sign in
      let next_is = replicated (operator_tokens op) at limit (t ∷ toks) (omega (arith, covered)) passes in
      let end' = operator_ended around long parts end in
      let p' = operator_placed around all at next limit next_is covered p parts in
      let other = assign_by around long (may_assign op (whole v fs)) at (At next limit behind) in
      ⊎_elim (λ h. beside reach (way_by assigns' (Value v) other) (further_is reach (way_by assigns' (Value v) other) b h)
      (λ k.
      let way = way_value assigns' v other b k in
      (assign_origin_by around long assigns' b (may_assign op (whole v fs)) fs v at limit t toks op behind next next_is end' w refl way.1 parts way.0, assign_stands (may_assign op (whole v fs)) at next limit behind p' way.1)))
      (λ c. inr (operator_prepend around long assigns' b op behind next next_is covered c.0 parts, c.1))
      (origins (further reach (way_by assigns' (Value v) other)) (Left (bound (level op) v fs).0 op t ∷ (bound (level op) v fs).1) Expected next limit behind came
      (omega (arith, short, few)) end' (within_more at next limit (omega (arith, next_is)) w) p')
  by_kind turns reach (ends {fs = fs} {at = at} {limit = limit} {ts = toks} {v = v} {e = e} whole_is end') is came short few end w p origins =
      end_origin assigns' (assign_ends assigns' toks) fs v e at limit toks reach refl end w p came
  by_kind turns reach (stuck {fs = fs} {mode = mode} {at = at} {limit = limit} {t = t} {ts = toks} each) is came short few end w p origins =
      stopped_here fs mode at limit t toks reach w p (λ h. stuck_completion around long assigns' b fs mode at limit t toks is w h) came
  by_kind turns reach (stuck_behind {fs = fs} {at = at} {limit = limit} {t = t} {v = v} second third others whole_is g j k are) is came short few end w p origins =
      subst (λ ts. (reach ≡ Some b) ⊎ Event fs (Value v) at limit (t ∷ ts)) (sym are)
      (shifted fs v at limit t second third others reach g j w (subst (λ ts. Placed all at limit (t ∷ ts)) are p) came)
  by_kind turns reach exhausted is came short few end w p origins = absurd end

  -- the ways of all steps
  run_origins : (turns : ℕ) → OriginsIn turns
  run_origins zero reach fs mode at limit toks came few end w p = absurd (omega (arith, few))
  run_origins (suc turns) reach fs mode at limit toks came few end w p =
      by_kind turns reach (kind_of around long mode fs at limit toks) refl came (step_shorter around long (config fs mode at limit toks)) few end w p (run_origins turns)

  -- Where an expression begins, a limit may end at its first token.
  pub data Began (at : ℕ) (limit : Option Told) (toks : List Token) : Type 0 where
    here : b.many ≡ at → Completion around long assigns' b [] Expected at (before at limit) toks → Began at limit toks
    on : Completion around long assigns' b [] Expected at limit toks → Began at limit toks

  -- the ways of the first step, and of those behind it
  first_by : {at : ℕ} {limit : Option Told} {toks : List Token} {s : Step} (turns : ℕ) (reach : Option FarthestFailure) → Kind around long [] Expected at limit toks s → step_at around long Expected [] (At at limit toks) ≡ s
      → recorded (run_by around assigns' long (run around assigns' long turns) Expected reach s) ≡ Some b → Shortens (length toks) s → length toks < suc turns → Ended toks → Within (suc at) limit → Placed all at limit toks
      → (reach ≡ Some b) ⊎ (Began at limit toks × Stands all b.told)
  first_by turns reach (uniform {at = at} {limit = limit} {t = t} {ts = toks} fs' mode' en no_end fits each) is came short few end w p =
      ⊎_elim (λ h. ⊎_elim (λ k. inl k) (λ k. absurd (way_none assigns' Expected b k)) (further_is reach (way_by assigns' Expected None) b h))
      (λ c. inr (on (prepend around long assigns' b t [] c.0 (omega arith) refl fits None (step_cons around long Expected [] at limit t (c.0.front ++ c.0.more) ∙ each at limit (c.0.front ++ c.0.more))), c.1))
      (run_origins turns (further reach (way_by assigns' Expected None)) fs' mode' (suc at) (noted limit en at t) toks came (omega (arith, short, few)) (ended_behind t toks no_end end) (within_entry at limit en t w) (placed_token all at limit en t toks p))
  first_by turns reach (bare {at = at} {limit = limit} {t = t} {ts = toks} n l) is came short few end w p =
      let end' = ended_behind t toks (name_end around long t n) end in
      ⊎_elim (λ h. ⊎_elim (λ k. inl k) (λ k. absurd (way_none assigns' Expected b k)) (further_is reach (way_by assigns' Expected None) b h))
      (λ c. inr (on (name_prepend around long assigns' b n (none_without toks l) end' c.0), c.1))
      (run_origins turns (further reach (way_by assigns' Expected None)) [] (Value (tree.Name t NoTypes)) (suc at) limit toks came (omega (arith, short, few)) end' w (placed_token all at limit None t toks p))
  first_by turns reach (without {at = at} {limit = limit} {t = t} {ts = toks} n l none at' limit' left look) is came short few end w p =
      let end' = ended_behind t toks (name_end around long t n) end in
      let other = reach_at long at' (At at' limit' left) in
      let p' = placed_token all at limit None t toks p in
      ⊎_elim (λ h. ⊎_elim (λ k. inl k)
      (λ k.
      let way = sym (way_expected assigns' other) ∙ k in
      inr (
        on (name_origin around long assigns' b [] at limit t toks at' limit' left n l end' w look way),
        reach_stands at' at' limit' left (missing_placed around all around.types (suc at) limit toks at' limit' left l end' look p') way,
      ))
      (further_is reach (way_by assigns' Expected other) b h))
      (λ c. inr (on (name_prepend around long assigns' b n none end' c.0), c.1))
      (run_origins turns (further reach (way_by assigns' Expected other)) [] (Value (tree.Name t NoTypes)) (suc at) limit toks came (omega (arith, short, few)) end' w p')
  first_by turns reach (generic {at = at} {limit = limit} {t = t} {ts = toks} n l args at' limit' left takes look) is came short few end w p =
      let end' = ended_behind t toks (name_end around long t n) end in
      ⊎_elim (λ h. ⊎_elim (λ k. inl k) (λ k. absurd (way_none assigns' Expected b k)) (further_is reach (way_by assigns' Expected None) b h))
      (λ c. inr (on (generic_origin around long assigns' b [] at limit t toks args at' limit' left n l end' takes look c.0), c.1))
      (run_origins turns (further reach (way_by assigns' Expected None)) [] (Value (tree.Name t args)) at' limit' left came (omega (arith, short, few)) (takes_ended around long takes end')
      (generic_within around [] at limit toks args at' limit' left end' takes look w)
      (generic_placed around all around.types (suc at) limit toks args at' limit' left end' takes look (placed_token all at limit None t toks p)))
  first_by turns reach (stuck {at = at} {limit = limit} {t = t} {ts = toks} each) is came short few end w p =
      ⊎_elim (λ h. inl h)
      (λ h.
      let l = before at limit in
      let p' : Placed all at l (t ∷ toks) = record { front = p.front; are = p.are; is_at = p.is_at; stands = before_stands all at limit p.stands } in
      inr (here (reach_many at (told_by (earlier l (before at long)) at (t ∷ toks)) h) (stuck_completion around long assigns' b [] Expected at l t toks (each at l toks) (before_within at limit) h), reach_stands at at l (t ∷ toks) p' h))
      (further_is reach (reach_in long (settled (At at limit (t ∷ toks)))) b came)
    where
      reach_many : (at : ℕ) (o : Option Told) → reach_by at o ≡ Some b → b.many ≡ at
      reach_many at None h = absurd (cc)
      reach_many at (Some told) h = let same : record { many = at; told = told } ≡ b = cc in ap (λ (r : FarthestFailure). r.many) (sym same)
  first_by turns reach exhausted is came short few end w p = absurd end

-- what reading an expression notes
pub expr_origins : (all : List Token) (around : Nesting) (assigns' : Bool) (at : ℕ) (limit : Option Told) (tokens : List Token) (start : Option FarthestFailure) (b : FarthestFailure) (long_stands : MaybeStands all (long_from (At at limit tokens))) → Ended tokens → Noted at limit
    → Placed all at limit tokens → recorded (expr_in assigns' around start (At at limit tokens)) ≡ Some b
    → (start ≡ Some b) ⊎ (Began all around assigns' (long_from (At at limit tokens)) long_stands b at limit tokens × Stands all b.told)
expr_origins all around assigns' at limit tokens start b long_stands end n p came =
    let long = long_from (At at limit tokens) in
    first_by all around assigns' long long_stands b (length tokens) start (kind_of around long Expected [] at limit tokens) refl came (step_shorter around long (config [] Expected at limit tokens)) (omega arith) end (noted_within at limit n) p
