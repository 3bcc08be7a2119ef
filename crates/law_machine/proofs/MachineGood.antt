-- What the machine tells stands among the tokens, and it always stops somewhere.
use Rattle.std.proofs.Common.{◌≡◌, ℕ, zero, suc, ◌+◌, ◌<◌, Bool, true, false, List, [], ◌∷◌, ◌++◌, length, drop, refl, sym, ap, subst, ◌∙◌, arith, length-append, append_assoc}
use Rattle.std.specs.Prelude.{Option, Some, None, slice_get}
use Rattle.def_token.specs.Lexical.{Token}
use Rattle.def_tree.specs.ExprTree as tree
use Rattle.def_tree.specs.ExprTree.{ExprTree}
use Rattle.def_tree.specs.Expressions.{TakesTypeArgs}
use Rattle.def_tree.specs.Limits.{Nesting, Entry, operator_tokens}
use Rattle.def_tree.specs.Operator.{Operator, level}
use Rattle.def_tree.specs.Statements.{begins_with}
use Rattle.def_tree.specs.Symbol.{symbol}
use Rattle.def_tree.specs.TypeTree.{TypeTrees, NoTypes}
use Rattle.law_tree.proofs.Covered.{operator_covered}
use Rattle.law_tree.proofs.Symbols.{is_sign-true}
use Rattle.def_reading.specs.Cursor.{Told, At, noted, told_at, told_by, earlier, earlier_by, before, before_by, long_of, FarthestFailure, reach_at, reach_by, further, further_by, counts_more}
use Rattle.def_reading.specs.TypeAhead.{Found, Missing, taken_ahead}
use Rattle.def_reading.specs.TypeReading.{Ended}
use Rattle.def_reading.specs.Machine.{Frame, Left, Mode, Expected, Value, Step, nesting, bound, whole, may_assign, assign_by}
use Rattle.law_machine.proofs.MachineOutcome.{Outcome, Whole, Stopped, refused_at, run_by, run}
use Rattle.law_types.proofs.AheadFaults.{args_go, missing_dies}
use Rattle.law_types.proofs.AheadStages.{drive_first}
use Rattle.law_machine.proofs.MachineComplete.{config}
use Rattle.law_machine.proofs.MachineGrows.{args_exact, replicated}
use Rattle.law_machine.proofs.MachineKinds.{Kind, uniform, bare, without, generic, operates, ends, stuck, stuck_behind, exhausted, kind_of}
use Rattle.law_machine.proofs.MachineRun.{step_shorter, Shortens}
use Rattle.law_machine.proofs.MachineWays.{operator_ended, name_end, takes_ended}
use Rattle.law_machine.proofs.SignParts.{SignParts, one_token, greater, greater_equal, shift, sign_parts}
use Rattle.law_types.proofs.Stopping.{ended_behind}
use Rattle.law_types.proofs.TypeStages.{Stage, Head, Closed, next, entry, drive, some_pair}

-- the token that is told stands at its place
abbrev pub Stands : List Token → Told → Type 0
Stands tokens told = slice_get tokens told.at ≡ Some told.token

abbrev pub MaybeStands : List Token → Option Told → Type 0
MaybeStands tokens None = Unit {0}
MaybeStands tokens (Some told) = Stands tokens told

abbrev pub ReachStands : List Token → Option FarthestFailure → Type 0
ReachStands tokens None = Unit {0}
ReachStands tokens (Some reach) = Stands tokens reach.told

-- a place among the tokens
pub record Placed (tokens : List Token) (at : ℕ) (limit : Option Told) (ts : List Token) : Type 0 where
  pub front : List Token
  pub are : tokens ≡ front ++ ts
  pub is_at : at ≡ length front
  pub stands : MaybeStands tokens limit

at_front : (front ts : List Token) (t : Token) → slice_get (front ++ t ∷ ts) (length front) ≡ Some t
at_front [] ts t = refl
at_front (first ∷ front) ts t = at_front front ts t

pub stands_here : (tokens : List Token) (at : ℕ) (limit : Option Told) (t : Token) (ts : List Token) → Placed tokens at limit (t ∷ ts) → slice_get tokens at ≡ Some t
stands_here tokens at limit t ts p = ap (slice_get tokens) p.is_at ∙ ap (λ tokens. slice_get tokens (length p.front)) p.are ∙ at_front p.front ts t

pub noted_stands : (tokens : List Token) (limit : Option Told) (e : Entry) (at : ℕ) (t : Token) → slice_get tokens at ≡ Some t → MaybeStands tokens limit → MaybeStands tokens (noted limit e at t)
noted_stands tokens limit None at t h s = s
noted_stands tokens None (Some l) at t h s = h
noted_stands tokens (Some told) (Some l) at t h s = s

pub placed_token : (tokens : List Token) (at : ℕ) (limit : Option Told) (e : Entry) (t : Token) (ts : List Token) → Placed tokens at limit (t ∷ ts) → Placed tokens (suc at) (noted limit e at t) ts
placed_token tokens at limit e t ts p =
    record {
      front = p.front ++ t ∷ [];
      are = p.are ∙ sym (append_assoc p.front (t ∷ []) ts);
      is_at = omega (arith, p.is_at, length-append p.front (t ∷ []));
      stands = noted_stands tokens limit e at t (stands_here tokens at limit t ts p) p.stands;
    }

pub placed_drive : (tokens : List Token) (stage stage' : Stage) (at : ℕ) (limit limit' : Option Told) (piece rest : List Token) → drive stage at limit piece ≡ Some (stage', limit') → Placed tokens at limit (piece ++ rest) → Placed tokens (at + length piece) limit' rest
placed_drive tokens stage stage' at limit limit' [] rest h p =
    subst (λ l. Placed tokens (at + 0) l rest) (some_pair stage stage' limit limit' h).1 (subst (λ n. Placed tokens n limit rest) (omega arith) p)
placed_drive tokens stage stage' at limit limit' (t ∷ piece) rest h p =
    let first = drive_first stage stage' at limit limit' t piece h in
    subst (λ n. Placed tokens n limit' rest) (omega arith)
    (placed_drive tokens first.0 stage' (suc at) (noted limit (entry stage) at t) limit' piece rest first.2 (placed_token tokens at limit (entry stage) t (piece ++ rest) p))

-- what a way tells stands there
pub earlier_stands : (tokens : List Token) (this other : Option Told) → MaybeStands tokens this → MaybeStands tokens other → MaybeStands tokens (earlier this other)
earlier_stands tokens None other s t = t
earlier_stands tokens (Some told) None s t = s
earlier_stands tokens (Some told) (Some other) s t = earlier_one _ s t
  where
    earlier_one : (b : Bool) → Stands tokens told → Stands tokens other → MaybeStands tokens (earlier_by b told other)
    earlier_one true s t = t
    earlier_one false s t = s

pub before_stands : (tokens : List Token) (at : ℕ) (told : Option Told) → MaybeStands tokens told → MaybeStands tokens (before at told)
before_stands tokens at None s = s
before_stands tokens at (Some told) s = before_one _ s
  where
    before_one : (b : Bool) → Stands tokens told → MaybeStands tokens (before_by b told)
    before_one true s = s
    before_one false s = tt

pub reach_by_stands : (tokens : List Token) (many : ℕ) (told : Option Told) → MaybeStands tokens told → ReachStands tokens (reach_by many told)
reach_by_stands tokens many None s = tt
reach_by_stands tokens many (Some told) s = s

pub told_by_stands : (tokens : List Token) (limit : Option Told) (at : ℕ) (limit' : Option Told) (ts : List Token) → MaybeStands tokens limit → Placed tokens at limit' ts → MaybeStands tokens (told_by limit at ts)
told_by_stands tokens None at limit' [] s p = tt
told_by_stands tokens None at limit' (t ∷ ts) s p = stands_here tokens at limit' t ts p
told_by_stands tokens (Some told) at limit' ts s p = s

pub drop_stands : (tokens ts : List Token) (g at : ℕ) → ((k : ℕ) → slice_get ts k ≡ slice_get tokens (at + k)) → MaybeStands tokens (told_at 112 (at + g) (drop g ts))
drop_stands tokens [] zero at h = tt
drop_stands tokens (t ∷ ts) zero at h = sym (h 0)
drop_stands tokens [] (suc g) at h = tt
drop_stands tokens (t ∷ ts) (suc g) at h =
    subst (λ n. MaybeStands tokens (told_at 112 n (drop g ts))) (omega arith) (drop_stands tokens ts g (suc at) (λ k. h (suc k) ∙ ap (slice_get tokens) (omega arith)))

pub long_stands : (tokens : List Token) → MaybeStands tokens (long_of tokens)
long_stands tokens = drop_stands tokens tokens 1024 0 (λ k. ap (slice_get tokens) (omega arith))

pub further_stands : (tokens : List Token) (this other : Option FarthestFailure) → ReachStands tokens this → ReachStands tokens other → ReachStands tokens (further this other)
further_stands tokens None other s t = t
further_stands tokens (Some this) None s t = s
further_stands tokens (Some this) (Some other) s t = further_one (counts_more other this) s t
  where
    further_one : (b : Bool) → Stands tokens this.told → Stands tokens other.told → ReachStands tokens (further_by b this other)
    further_one true s t = t
    further_one false s t = s

-- what the machine comes to
abbrev pub Good : List Token → Outcome → Type 0
Good tokens (Whole e (At at limit rest) reach) = Ended rest × MaybeStands tokens limit
Good tokens (Stopped None) = ⊥
Good tokens (Stopped (Some reach)) = Stands tokens reach.told

module _ (around : Nesting) (tokens : List Token) where
  abbrev long : Option Told
  long = long_of tokens

  reach_stands : (least at : ℕ) (limit : Option Told) (ts : List Token) → Placed tokens at limit ts → ReachStands tokens (reach_at long least (At at limit ts))
  reach_stands least at limit ts p =
      reach_by_stands tokens at (told_by (earlier limit (before least long)) at ts)
      (told_by_stands tokens (earlier limit (before least long)) at limit ts (earlier_stands tokens limit (before least long) p.stands (before_stands tokens least long (long_stands tokens))) p)

  stopped_good : (reach : Option FarthestFailure) (other : FarthestFailure) → ReachStands tokens reach → Stands tokens other.told → Good tokens (Stopped (further reach (Some other)))
  stopped_good None other s t = t
  stopped_good (Some this) other s t = further_good (counts_more other this) s t
    where
      further_good : (b : Bool) → Stands tokens this.told → Stands tokens other.told → Good tokens (Stopped (further_by b this other))
      further_good true s t = t
      further_good false s t = s

  refused_by_good : (reach : Option FarthestFailure) (told : Option Told) (at : ℕ) (t : Token) (ts : List Token) → ReachStands tokens reach → MaybeStands tokens (told_by told at (t ∷ ts)) → Good tokens (Stopped (further reach (reach_by at (told_by told at (t ∷ ts)))))
  refused_by_good reach None at t ts s k = stopped_good reach _ s k
  refused_by_good reach (Some told) at t ts s k = stopped_good reach _ s k

  refused_good : (reach : Option FarthestFailure) (at : ℕ) (limit : Option Told) (t : Token) (ts : List Token) → ReachStands tokens reach → Placed tokens at limit (t ∷ ts) → Good tokens (refused_at around long reach (At at limit (t ∷ ts)))
  refused_good reach at limit t ts s p =
      refused_by_good reach (earlier limit (before at long)) at t ts s
      (told_by_stands tokens (earlier limit (before at long)) at limit (t ∷ ts) (earlier_stands tokens limit (before at long) p.stands (before_stands tokens at long (long_stands tokens))) p)

  abbrev GoodIn : ℕ → Type 0
  GoodIn turns = (reach : Option FarthestFailure) (fs : List Frame) (mode : Mode) (at : ℕ) (limit : Option Told) (toks : List Token) → ReachStands tokens reach → Placed tokens at limit toks → Ended toks → length toks < turns
      → Good tokens (run around long turns reach (config fs mode at limit toks))

  pub operator_placed : {t : Token} {ts behind : List Token} {op : Operator} (at next : ℕ) (limit : Option Told) → next ≡ at + operator_tokens op → length (t ∷ ts) ≡ operator_tokens op + length behind → Placed tokens at limit (t ∷ ts)
      → SignParts t ts op behind → Placed tokens next limit behind
  operator_placed {t = t} {ts = ts} {behind = behind} at next limit is covered p (one_token g no_end each are) =
      subst (λ n. Placed tokens n limit behind) (omega (arith, is, covered, ap length are)) (subst (Placed tokens (suc at) limit) (sym are) (placed_token tokens at limit None t ts p))
  operator_placed {t = t} {ts = ts} {behind = behind} at next limit is covered p (greater g o are a) =
      subst (λ n. Placed tokens n limit behind) (omega (arith, is, covered, ap length are)) (subst (Placed tokens (suc at) limit) (sym are) (placed_token tokens at limit None t ts p))
  operator_placed {t = t} {ts = ts} {behind = behind} at next limit is covered p (greater_equal g q are j k o) =
      subst (λ n. Placed tokens n limit behind) (omega (arith, is, covered, ap length are)) (placed_token tokens (suc at) limit None q behind (subst (Placed tokens (suc at) limit) are (placed_token tokens at limit None t ts p)))
  operator_placed {t = t} {ts = ts} {behind = behind} at next limit is covered p (shift g q are j a o) =
      subst (λ n. Placed tokens n limit behind) (omega (arith, is, covered, ap length are)) (placed_token tokens (suc at) limit None q behind (subst (Placed tokens (suc at) limit) are (placed_token tokens at limit None t ts p)))

  pub generic_placed : (types at : ℕ) (limit : Option Told) (ts : List Token) (args : TypeTrees) (at' : ℕ) (limit' : Option Told) (left : List Token) → Ended ts → TakesTypeArgs ts args left → taken_ahead types at limit ts ≡ Found args (At at' limit' left)
      → Placed tokens at limit ts → Placed tokens at' limit' left
  generic_placed types at limit [] args at' limit' left end takes look p = absurd end
  generic_placed types at limit (o ∷ ts) args at' limit' left end takes look p =
      let g = args_go takes types at limit in
      let exact = args_exact types at limit takes at' limit' look in
      subst (λ n. Placed tokens n limit' left) (sym (exact.0 ∙ g.pieces.is_at)) (subst (λ l. Placed tokens (suc at + length g.pieces.piece) l left) (sym exact.1)
      (placed_drive tokens (Head types zero) Closed (suc at) limit g.pieces.limit' g.pieces.piece left g.pieces.drives.is
      (subst (Placed tokens (suc at) limit) g.pieces.are (placed_token tokens at limit None o ts p))))

  pub missing_placed : (types at : ℕ) (limit : Option Told) (ts : List Token) (at' : ℕ) (limit' : Option Told) (left : List Token) → begins_with "<" ts ≡ true → Ended ts → taken_ahead types at limit ts ≡ Missing (At at' limit' left)
      → Placed tokens at limit ts → Placed tokens at' limit' left
  missing_placed types at limit [] at' limit' left less end look p = absurd end
  missing_placed types at limit (o ∷ ts) at' limit' left less end look p =
      let d = missing_dies types at limit o ts (is_sign-true "<" (symbol o) less) end at' limit' left look in
      subst (λ n. Placed tokens n limit' left) (sym d.alive.is_at)
      (placed_drive tokens (Head types zero) d.stage' (suc at) limit limit' d.alive.piece left d.alive.drives.is
      (subst (Placed tokens (suc at) limit) d.alive.are (placed_token tokens at limit None o ts p)))

  assign_stands : (may : Bool) (least at : ℕ) (limit : Option Told) (ts : List Token) → Placed tokens at limit ts → ReachStands tokens (assign_by around long may least (At at limit ts))
  assign_stands true least at limit ts p = reach_stands least at limit ts p
  assign_stands false least at limit ts p = tt

  good_by : {fs : List Frame} {mode : Mode} {at : ℕ} {limit : Option Told} {toks : List Token} {s : Step} (turns : ℕ) (reach : Option FarthestFailure) → Kind around long fs mode at limit toks s → ReachStands tokens reach → Placed tokens at limit toks → Ended toks
      → Shortens (length toks) s → length toks < suc turns → GoodIn turns → Good tokens (run_by around long (run around long turns) reach s)
  good_by turns reach (uniform {at = at} {limit = limit} {t = t} {ts = toks} fs' mode' en no_end fits each) r p end short few good =
      good (further reach None) fs' mode' (suc at) (noted limit en at t) toks (further_stands tokens reach None r tt) (placed_token tokens at limit en t toks p) (ended_behind t toks no_end end) (omega (arith, short, few))
  good_by turns reach (bare {fs = fs} {at = at} {limit = limit} {t = t} {ts = toks} n l) r p end short few good =
      good (further reach None) fs (Value (tree.Name t NoTypes)) (suc at) limit toks (further_stands tokens reach None r tt) (placed_token tokens at limit None t toks p) (ended_behind t toks (name_end around long t n) end) (omega (arith, short, few))
  good_by turns reach (without {fs = fs} {at = at} {limit = limit} {t = t} {ts = toks} n l none at' limit' left look) r p end short few good =
      let end' = ended_behind t toks (name_end around long t n) end in
      let p' = placed_token tokens at limit None t toks p in
      good (further reach (reach_at long at' (At at' limit' left))) fs (Value (tree.Name t NoTypes)) (suc at) limit toks
      (further_stands tokens reach (reach_at long at' (At at' limit' left)) r (reach_stands at' at' limit' left (missing_placed (nesting around fs).types (suc at) limit toks at' limit' left l end' look p')))
      p' end' (omega (arith, short, few))
  good_by turns reach (generic {fs = fs} {at = at} {limit = limit} {t = t} {ts = toks} n l args at' limit' left takes look) r p end short few good =
      let end' = ended_behind t toks (name_end around long t n) end in
      good (further reach None) fs (Value (tree.Name t args)) at' limit' left (further_stands tokens reach None r tt)
      (generic_placed (nesting around fs).types (suc at) limit toks args at' limit' left end' takes look (placed_token tokens at limit None t toks p)) (takes_ended around long takes end') (omega (arith, short, few))
  good_by turns reach (operates {fs = fs} {at = at} {limit = limit} {t = t} {ts = toks} {v = v} op behind next sign passes) r p end short few good =
      let parts = sign_parts t toks op behind sign in
      let covered = operator_covered op (t ∷ toks) behind sign in
      let p' = operator_placed at next limit (replicated (operator_tokens op) at limit (t ∷ toks) (omega (arith, covered)) passes) covered p parts in
      good (further reach (assign_by around long (may_assign op (whole v fs)) at (At next limit behind))) (Left (bound (level op) v fs).0 op t ∷ (bound (level op) v fs).1) Expected next limit behind
      (further_stands tokens reach (assign_by around long (may_assign op (whole v fs)) at (At next limit behind)) r (assign_stands (may_assign op (whole v fs)) at next limit behind p')) p' (operator_ended around long parts end) (omega (arith, short, few))
  good_by turns reach (ends w end') r p end short few good = (end, p.stands)
  good_by turns reach (stuck {at = at} {limit = limit} {t = t} {ts = toks} each) r p end short few good = refused_good reach at limit t toks r p
  good_by turns reach (stuck_behind {at = at} {limit = limit} {t = t} {ts = toks} q third others whole_is g j k are) r p end short few good =
      refused_good reach (suc (suc at)) limit third others r (placed_token tokens (suc at) limit None q (third ∷ others) (subst (Placed tokens (suc at) limit) are (placed_token tokens at limit None t toks p)))
  good_by turns reach exhausted r p end short few good = absurd end

  pub run_good : (turns : ℕ) → GoodIn turns
  run_good zero reach fs mode at limit toks r p end few = absurd (omega (arith, few))
  run_good (suc turns) reach fs mode at limit toks r p end few =
      good_by turns reach (kind_of around long mode fs at limit toks) r p end (step_shorter around long (config fs mode at limit toks)) few (run_good turns)
