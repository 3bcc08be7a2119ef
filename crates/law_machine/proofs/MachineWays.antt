-- Each other tree that begins as tokens do leaves the machine's way where it was told how far it goes.
use Rattle.std.proofs.Common.{◌≡◌, ◌⊎◌, inl, inr, ⊎_elim, ℕ, zero, suc, ◌+◌, ◌<◌, ◌≤◌, List, [], ◌∷◌, length, refl, sym, subst, arith}
use Rattle.std.specs.Prelude.{Option, Some, None}
use Rattle.def_token.specs.Lexical.{Token}
use Rattle.def_tree.specs.ExprTree as tree
use Rattle.def_tree.specs.ExprTree.{ExprTree}
use Rattle.def_tree.specs.Expressions.{TakesTypeArgs}
use Rattle.def_tree.specs.Limits.{Nesting}
use Rattle.def_tree.specs.Operator.{Operator, level}
use Rattle.def_tree.specs.Symbol.{End, symbol, Is, IsName}
use Rattle.def_tree.specs.Types.{IsTypeArgs, type_args}
use Rattle.def_tree.specs.TypeTree.{TypeTrees, NoTypes}
use Rattle.def_reading.specs.Cursor.{Told, Cursor, At, noted, FarthestFailure, reach_at, reach_by, told_by, earlier, before, further}
use Rattle.def_reading.specs.TypeReading.{Ended}
use Rattle.def_reading.specs.Machine.{Frame, Left, Mode, Expected, Value, Config, Step, On, Ends, Refused, bound, whole, may_assign, assign_by, step_at, step}
use Rattle.law_machine.proofs.MachineOutcome.{Outcome, Whole, Stopped, refused_at, run_by, run}
use Rattle.law_types.proofs.AheadFaults.{Within, no_limit, a_limit, within_noted, Grows, args_go}
use Rattle.law_types.proofs.AheadStages.{ended_drives, drive_first}
use Rattle.law_machine.proofs.MachineComplete.{config}
use Rattle.law_machine.proofs.MachineGrows.{Finishes, finished, goes_on, GrowsStep, step_grows_at, AtMost, Above, above, above_second, above_more, AboveStop}
use Rattle.law_machine.proofs.MachineKinds.{Kind, uniform, bare, without, generic, operates, ends, stuck, stuck_behind, exhausted, kind_of, sign_no_end}
use Rattle.law_machine.proofs.MachineRun.{step_shorter, Shortens}
use Rattle.law_machine.proofs.SignParts.{SignParts, one_token, greater, greater_equal, shift, sign_parts, joins_no_end}
use Rattle.law_types.proofs.Stopping.{ended_behind}
use Rattle.law_types.proofs.TypeStages.{Stage, Head, Closed, next, entry, drive, some_pair}

-- a place with a next token is a way
pub record WayAt (long : Option Told) (least at : ℕ) (limit : Option Told) (t : Token) (ts : List Token) : Type 0 where
  pub reach : FarthestFailure
  pub is : reach_at long least (At at limit (t ∷ ts)) ≡ Some reach
  pub many : reach.many ≡ at
  pub told : told_by (earlier limit (before least long)) at (t ∷ ts) ≡ Some reach.told

way_by : (o : Option Told) (at : ℕ) (t : Token) (ts : List Token) → (r : FarthestFailure) × (reach_by at (told_by o at (t ∷ ts)) ≡ Some r) × (r.many ≡ at) × (told_by o at (t ∷ ts) ≡ Some r.told)
way_by None at t ts = (record { many = at; told = record { at = at; token = t; code = 110 } }, refl, refl, refl)
way_by (Some told) at t ts = (record { many = at; told = told }, refl, refl, refl)

pub way_at : (long : Option Told) (least at : ℕ) (limit : Option Told) (t : Token) (ts : List Token) → WayAt long least at limit t ts
way_at long least at limit t ts =
    let w = way_by (earlier limit (before least long)) at t ts in record { reach = w.0; is = w.1; many = w.2; told = w.3 }

module _ (around : Nesting) (long : Option Told) where
  -- what counts before a machine counts no more than what it stops with
  stop_above : (r : FarthestFailure) (reach : Option FarthestFailure) (place : Cursor) → Above r reach → AboveStop r (refused_at around long reach place)
  stop_above r reach (At at limit ts) a = above_more r reach (reach_at long at (At at limit ts)) a

  by_above : (r : FarthestFailure) (more : Option FarthestFailure → Config → Outcome) (reach : Option FarthestFailure) (s : Step) → Above r reach → ((reach : Option FarthestFailure) (c : Config) → Above r reach → AboveStop r (more reach c))
      → AboveStop r (run_by around long more reach s)
  by_above r more reach (On other c) a each = each (further reach other) c (above_more r reach other a)
  by_above r more reach (Ends e place) a each = tt
  by_above r more reach (Refused place) a each = stop_above r reach place a

  run_above : (turns : ℕ) (r : FarthestFailure) (reach : Option FarthestFailure) (c : Config) → Above r reach → AboveStop r (run around long turns reach c)
  run_above zero r reach c a = a
  run_above (suc turns) r reach c a = by_above r (run around long turns) reach (step around long c) a (λ reach d h. run_above turns r reach d h)

  above_is : (r b : FarthestFailure) (o : Option FarthestFailure) → Above r o → o ≡ Some b → AtMost r b
  above_is r b (Some s) (above same h) is = let one : s ≡ b = cc in subst (AtMost r) one h
  above_is r b None a is = elim a [ ]

  pub stops_above : (turns : ℕ) (r b : FarthestFailure) (reach : Option FarthestFailure) (c : Config) → Above r reach → run around long turns reach c ≡ Stopped (Some b) → AtMost r b
  stops_above turns r b reach c a h = above_is r b (Some b) (subst (AboveStop r) h (run_above turns r reach c a)) refl

  -- a step keeps that tokens end
  pub operator_ended : {t : Token} {ts behind : List Token} {op : Operator} → SignParts t ts op behind → Ended (t ∷ ts) → Ended behind
  operator_ended {t = t} {ts = ts} (one_token g no_end each is) e = subst Ended (sym is) (ended_behind t ts no_end e)
  operator_ended {t = t} {ts = ts} (greater g o is a) e = subst Ended (sym is) (ended_behind t ts (sign_no_end t _ g) e)
  operator_ended {t = t} {ts = ts} {behind = behind} (greater_equal g p is j k o) e =
      ended_behind p behind (joins_no_end t p "=" k) (subst Ended is (ended_behind t ts (sign_no_end t _ g) e))
  operator_ended {t = t} {ts = ts} {behind = behind} (shift g p is j a o) e =
      ended_behind p behind (joins_no_end t p ">" j) (subst Ended is (ended_behind t ts (sign_no_end t _ g) e))

  pub name_end : (t : Token) → IsName t → symbol t ≡ End → ⊥
  name_end t n e = cc

  args_less : {tokens after ts : List Token} {o : Token} {args : TypeTrees} → IsTypeArgs tokens args after → tokens ≡ o ∷ ts → symbol o ≡ End → ⊥
  args_less {o = o} (type_args {opening = first} h l c) is e = let same : first ≡ o = cc in sign_no_end o _ (subst (Is "<") same h) e

  pub takes_ended : {ts rest : List Token} {args : TypeTrees} → TakesTypeArgs ts args rest → Ended ts → Ended rest
  takes_ended {ts = []} t e = absurd e
  takes_ended {ts = o ∷ ts} {rest = rest} t e =
      let g = args_go t 0 0 None in
      ended_drives (Head 0 zero) Closed 1 None g.pieces.limit' g.pieces.piece rest g.pieces.drives.is (subst Ended g.pieces.are (ended_behind o ts (args_less t.arguments refl) e))

  -- where the machine stops, from a place on
  pub record StopsFrom (fs : List Frame) (mode : Mode) (at : ℕ) (limit : Option Told) (ts : List Token) (b : FarthestFailure) : Type 0 where
    pub reach : FarthestFailure
    pub most : AtMost reach b
    pub where' : (at < reach.many) ⊎ ((reach.many ≡ at) × (step_at around long mode fs (At at limit ts) ≡ Refused (At at limit ts))
        × (t : Token) × (more : List Token) × (told_by (earlier limit (before at long)) at (t ∷ more) ≡ Some reach.told))

  pub no_stop : (e : ExprTree) (place : Cursor) (reach : Option FarthestFailure) (b : FarthestFailure) → Whole e place reach ≡ Stopped (Some b) → ⊥
  no_stop e place reach b h = cc

  some_stop : (r : Option FarthestFailure) (b : FarthestFailure) → Stopped r ≡ Stopped (Some b) → r ≡ Some b
  some_stop r b h = cc

  pub refused_most : (reach : Option FarthestFailure) (at : ℕ) (limit : Option Told) (t : Token) (ts : List Token) (b : FarthestFailure) → refused_at around long reach (At at limit (t ∷ ts)) ≡ Stopped (Some b)
      → (w : WayAt long at at limit t ts) → AtMost w.reach b
  refused_most reach at limit t ts b h w =
      above_is w.reach b (further reach (reach_at long at (At at limit (t ∷ ts)))) (subst (λ o. Above w.reach (further reach o)) (sym w.is) (above_second reach w.reach)) (some_stop _ b h)

  later_stop : {fs fs' : List Frame} {mode mode' : Mode} {at at' : ℕ} {limit limit' : Option Told} {ts ts' : List Token} {b : FarthestFailure} → at < at' → StopsFrom fs' mode' at' limit' ts' b → StopsFrom fs mode at limit ts b
  later_stop h s = record { reach = s.reach; most = s.most; where' = inl (⊎_elim (λ k. omega (arith, h, k)) (λ k. omega (arith, h, k.0)) s.where') }

  abbrev MainIn : ℕ → FarthestFailure → Type 0
  MainIn turns b = (reach : Option FarthestFailure) (fs : List Frame) (mode : Mode) (at : ℕ) (limit : Option Told) (ts : List Token) → length ts < turns → Ended ts
      → run around long turns reach (config fs mode at limit ts) ≡ Stopped (Some b) → StopsFrom fs mode at limit ts b

  main_by : {fs : List Frame} {mode : Mode} {at : ℕ} {limit : Option Told} {ts : List Token} {s : Step} (turns : ℕ) (reach : Option FarthestFailure) (b : FarthestFailure) → Kind around long fs mode at limit ts s
      → step_at around long mode fs (At at limit ts) ≡ s → GrowsStep at limit ts s → Shortens (length ts) s → length ts < suc turns → Ended ts → run_by around long (run around long turns) reach s ≡ Stopped (Some b) → MainIn turns b
      → StopsFrom fs mode at limit ts b
  main_by turns reach b (uniform {limit = limit} {t = t} {ts = ts} fs' mode' e no_end fits each) is g short few end h main =
      later_stop g.0 (main (further reach None) fs' mode' _ (noted limit e _ t) ts (omega (arith, short, few)) (ended_behind t ts no_end end) h)
  main_by turns reach b (bare {fs = fs} {limit = limit} {t = t} {ts = ts} n l) is g short few end h main =
      later_stop g.0 (main (further reach None) fs (Value (tree.Name t NoTypes)) _ limit ts (omega (arith, short, few)) (ended_behind t ts (name_end t n) end) h)
  main_by turns reach b (without {fs = fs} {limit = limit} {t = t} {ts = ts} n l none at' limit' rest look) is g short few end h main =
      later_stop g.0 (main (further reach (reach_at long at' (At at' limit' rest))) fs (Value (tree.Name t NoTypes)) _ limit ts (omega (arith, short, few)) (ended_behind t ts (name_end t n) end) h)
  main_by turns reach b (generic {fs = fs} {t = t} {ts = ts} n l args at' limit' rest takes look) is g short few end h main =
      later_stop g.0 (main (further reach None) fs (Value (tree.Name t args)) at' limit' rest (omega (arith, short, few)) (takes_ended takes (ended_behind t ts (name_end t n) end)) h)
  main_by turns reach b (operates {fs = fs} {at = at} {limit = limit} {t = t} {ts = ts} {v = v} op behind next sign passes) is g short few end h main =
      later_stop g.0 (main (further reach (assign_by around long (may_assign op (whole v fs)) at (At next limit behind))) (Left (bound (level op) v fs).0 op t ∷ (bound (level op) v fs).1) Expected next limit behind
      (omega (arith, short, few)) (operator_ended (sign_parts t ts op behind sign) end) h)
  main_by turns reach b (ends {at = at} {limit = limit} {ts = ts} {e = e} w end') is g short few end h main = absurd (no_stop e (At at limit ts) reach b h)
  main_by turns reach b (stuck {at = at} {limit = limit} {t = t} {ts = ts} each) is g short few end h main =
      let w = way_at long at at limit t ts in
      record { reach = w.reach; most = refused_most reach at limit t ts b h w; where' = inr (w.many, is, t, ts, w.told) }
  main_by turns reach b (stuck_behind {at = at} {limit = limit} p q others v g' j k are) is g short few end h main =
      let w = way_at long (suc (suc at)) (suc (suc at)) limit q others in
      record { reach = w.reach; most = refused_most reach (suc (suc at)) limit q others b h w; where' = inl (omega (arith, w.many)) }
  main_by turns reach b exhausted is g short few end h main = absurd end

  pub main_stop : (turns : ℕ) (b : FarthestFailure) → MainIn turns b
  main_stop zero b reach fs mode at limit ts few end h = absurd (omega (arith, few))
  main_stop (suc turns) b reach fs mode at limit ts few end h =
      main_by turns reach b (kind_of around long mode fs at limit ts) refl (step_grows_at around long mode fs at limit ts) (step_shorter around long (config fs mode at limit ts)) few end h (main_stop turns b)

  -- what a machine does behind a step
  pub ends_on : (e : ExprTree) (place : Cursor) (o : Option FarthestFailure) (d : Config) (s : Step) → s ≡ Ends e place → s ≡ On o d → ⊥
  ends_on e place o d s h k = cc

  on_same : (o o' : Option FarthestFailure) (d d' : Config) (s : Step) → s ≡ On o d → s ≡ On o' d' → d ≡ d'
  on_same o o' d d' s h k = cc

  pub refused_on : (place : Cursor) (o : Option FarthestFailure) (d : Config) (s : Step) → s ≡ Refused place → s ≡ On o d → ⊥
  refused_on place o d s h k = cc

  refused_ends : (place q : Cursor) (e : ExprTree) (s : Step) → s ≡ Refused place → s ≡ Ends e q → ⊥
  refused_ends place q e s h k = cc

  pub behind_step : {c : Config} {e : ExprTree} {n : ℕ} {lf : Option Told} {rest : List Token} (o : Option FarthestFailure) (d : Config) → Finishes around long c e n lf rest → step around long c ≡ On o d → Finishes around long d e n lf rest
  behind_step {c = c} {e = e} {n = n} {lf = lf} {rest = rest} o d (finished s) h = absurd (ends_on e (At n lf rest) o d (step around long c) s h)
  behind_step {c = c} {e = e} {n = n} {lf = lf} {rest = rest} o d (goes_on o' d' s f) h = subst (λ d. Finishes around long d e n lf rest) (on_same o' o d' d (step around long c) s h) f

  pub no_refusal : {c : Config} {e : ExprTree} {n : ℕ} {lf : Option Told} {rest : List Token} (place : Cursor) → Finishes around long c e n lf rest → step around long c ≡ Refused place → ⊥
  no_refusal {c = c} {e = e} {n = n} {lf = lf} {rest = rest} place (finished s) h = refused_ends place (At n lf rest) e (step around long c) h s
  no_refusal {c = c} place (goes_on o' d' s f) h = refused_on place o' d' (step around long c) h s

-- how many of some tokens a tree has
abbrev pub LeastOf : ℕ → ℕ → ℕ → Type 0
LeastOf n many least = ((many ≤ n) × (least ≡ many)) ⊎ ((n < many) × (least ≡ n))

-- a way that goes on further, or as far, and then tells the same
pub data Verdict (long : Option Told) (many n : ℕ) (lf : Option Told) (b : FarthestFailure) : Type 0 where
  further_on : (r : FarthestFailure) → AtMost r b → many < r.many → Verdict long many n lf b
  told_there : (limit : Option Told) (least : ℕ) (t : Token) (ts : List Token) (r : FarthestFailure) → AtMost r b → r.many ≡ many → told_by (earlier limit (before least long)) many (t ∷ ts) ≡ Some r.told
      → Grows many limit lf → Within many limit → LeastOf n many least → Verdict long many n lf b

pub drive_within : (stage stage' : Stage) (at : ℕ) (limit limit' : Option Told) (ts : List Token) → drive stage at limit ts ≡ Some (stage', limit') → Within at limit → Within (at + length ts) limit'
drive_within stage stage' at limit limit' [] h w =
    subst (Within (at + 0)) (some_pair stage stage' limit limit' h).1 (subst (λ n. Within n limit) (omega arith) w)
drive_within stage stage' at limit limit' (t ∷ ts) h w =
    let first = drive_first stage stage' at limit limit' t ts h in
    subst (λ n. Within n limit') (omega arith)
    (drive_within first.0 stage' (suc at) (noted limit (entry stage) at t) limit' ts first.2 (within_noted at limit (entry stage) t w))

pub within_more : (at at' : ℕ) (limit : Option Told) → at ≤ at' → Within at limit → Within at' limit
within_more at at' None h w = no_limit
within_more at at' (Some told) h (a_limit same k) = a_limit told (omega (arith, h, k))

module _ (around : Nesting) (long : Option Told) (b : FarthestFailure) where
  -- where the machine has come to the place, it stops there, or further on
  pub verdict_here : {fs : List Frame} {mode : Mode} {at : ℕ} {limit : Option Told} {ts : List Token} (n : ℕ) (lf : Option Told) (many : ℕ) → StopsFrom around long fs mode at limit ts b → at ≡ many → Within at limit → at ≤ n → Grows at limit lf
      → Verdict long many n lf b
  verdict_here {at = at} {limit = limit} n lf many s same w h g =
      subst (λ many. Verdict long many n lf b) same
      (⊎_elim (λ k. further_on s.reach s.most k)
      (λ k. told_there limit at k.2 k.3 s.reach s.most k.0 k.4 g w (inl (h, refl))) s.where')

  pub verdict_later : {fs : List Frame} {mode : Mode} {at : ℕ} {limit : Option Told} {ts : List Token} (n : ℕ) (lf : Option Told) (many : ℕ) → StopsFrom around long fs mode at limit ts b → many < at → Verdict long many n lf b
  verdict_later n lf many s h = further_on s.reach s.most (⊎_elim (λ k. omega (arith, h, k)) (λ k. omega (arith, h, k.0)) s.where')
