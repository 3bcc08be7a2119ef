-- What is read of expressions is what the machine comes to: the reader is one run of it.
use Rattle.std.proofs.Common.{◌≡◌, ℕ, zero, suc, ◌<◌, true, List, [], ◌∷◌, length, refl, sym, ap, subst, ◌∙◌, arith}
use Rattle.std.specs.Prelude.{Option, Some, None, nat_lt}
use Rattle.std.proofs.lemmas.Bool.Decides.{nat_tests}
use Rattle.def_token.specs.Lexical.{Token}
use Rattle.def_tree.specs.ExprTree as tree
use Rattle.def_tree.specs.ExprTree.{ExprTree}
use Rattle.def_tree.specs.Limits.{Nesting, operator_tokens, whole_entries}
use Rattle.def_tree.specs.Part.{IsExprPart}
use Rattle.def_tree.specs.Operator.{level}
use Rattle.def_tree.specs.TypeTree.{NoTypes}
use Rattle.law_tree.proofs.Covered.{operator_covered}
use Rattle.def_reading.specs.Laws.{IsExact, ExpressionsAreExact}
use Rattle.def_reading.specs.Machine.{Frame, Left, Mode, Expected, Value, Step, bound, whole, may_assign, assign_by}
use Rattle.def_reading.specs.Cursor.{Told, At, noted, before, earlier, long_of, FarthestFailure, reach_at, further}
use Rattle.def_reading.specs.Try.{Try, Reads, Stops, finished, refused_in, run_by, run, read_by, expr_of}
use Rattle.def_reading.specs.TypeReading.{Ended}
use Rattle.law_types.proofs.AheadFaults.{Within, no_limit, a_limit, within_noted}
use Rattle.law_exprs.proofs.ExprTold.{outcome_is_exact}
use Rattle.law_machine.proofs.MachineComplete.{config}
use Rattle.law_machine.proofs.MachineGrows.{replicated}
use Rattle.law_machine.proofs.MachineKinds.{Kind, uniform, bare, without, generic, operates, ends, stuck, stuck_behind, exhausted, kind_of}
use Rattle.law_machine.proofs.MachineOrigins.{generic_within}
use Rattle.law_machine.proofs.MachineOutcome as alone
use Rattle.law_machine.proofs.MachineOutcome.{Outcome, Whole, Stopped, refused_at, unless, outcome_of}
use Rattle.law_machine.proofs.MachineRun.{step_shorter, Shortens}
use Rattle.law_machine.proofs.MachineWays.{operator_ended, name_end, takes_ended, within_more}
use Rattle.law_machine.proofs.SignParts.{sign_parts}
use Rattle.law_types.proofs.Stopping.{ended_behind}

-- where limits stand before a place, the place is settled
settled_is : (at : ℕ) (limit : Option Told) → Within at limit → before at limit ≡ limit
settled_is at None w = refl
settled_is at (Some told) (a_limit same h) = let yes' : nat_lt told.at at ≡ true = grind (arith, nat_tests, h) in rw yes' refl

module _ (around : Nesting) (long : Option Told) where
  -- what the machine comes to, as a reader comes to it
  abbrev as_try : Outcome → Try ExprTree
  as_try (Whole e place reach) = Reads e (finished long place) reach
  as_try (Stopped reach) = Stops reach

  refused_same : (reach : Option FarthestFailure) (at : ℕ) (limit : Option Told) (ts : List Token) → Within at limit
      → refused_in around true long reach (At at limit ts) ≡ as_try (refused_at around long reach (At at limit ts))
  refused_same reach at limit ts w = ap (λ l. Stops (further reach (reach_at long at (At at l ts)))) (settled_is at limit w)

  abbrev SameIn : ℕ → Type 0
  SameIn turns = (reach : Option FarthestFailure) (fs : List Frame) (mode : Mode) (at : ℕ) (limit : Option Told) (ts : List Token) → Ended ts → Within at limit → length ts < turns
      → run around true long turns reach (config fs mode at limit ts) ≡ as_try (alone.run around long turns reach (config fs mode at limit ts))

  same_by : {fs : List Frame} {mode : Mode} {at : ℕ} {limit : Option Told} {ts : List Token} {s : Step} (turns : ℕ) (reach : Option FarthestFailure) → Kind around long fs mode at limit ts s → Ended ts → Within at limit
      → Shortens (length ts) s → length ts < suc turns → SameIn turns
      → run_by around true long (run around true long turns) mode reach s ≡ as_try (alone.run_by around long (alone.run around long turns) reach s)
  same_by turns reach (uniform {at = at} {limit = limit} {t = t} {ts = ts} fs' mode' e no_end fits each) end w short few same =
      same (further reach None) fs' mode' (suc at) (noted limit e at t) ts (ended_behind t ts no_end end) (within_noted at limit e t w) (omega (arith, short, few))
  same_by turns reach (bare {fs = fs} {at = at} {limit = limit} {t = t} {ts = ts} n l) end w short few same =
      same (further reach None) fs (Value (tree.Name t NoTypes)) (suc at) limit ts (ended_behind t ts (name_end around long t n) end) (within_more at (suc at) limit (omega arith) w) (omega (arith, short, few))
  same_by turns reach (without {fs = fs} {at = at} {limit = limit} {t = t} {ts = ts} n l none at' limit' rest look) end w short few same =
      same (further reach (reach_at long at' (At at' limit' rest))) fs (Value (tree.Name t NoTypes)) (suc at) limit ts (ended_behind t ts (name_end around long t n) end) (within_more at (suc at) limit (omega arith) w)
      (omega (arith, short, few))
  same_by turns reach (generic {fs = fs} {at = at} {limit = limit} {t = t} {ts = ts} n l args at' limit' rest takes look) end w short few same =
      let end' = ended_behind t ts (name_end around long t n) end in
      same (further reach None) fs (Value (tree.Name t args)) at' limit' rest (takes_ended around long takes end') (generic_within around fs at limit ts args at' limit' rest end' takes look (within_more at (suc at) limit (omega arith) w)) (omega (arith, short, few))
  same_by turns reach (operates {fs = fs} {at = at} {limit = limit} {t = t} {ts = ts} {v = v} op behind next sign passes) end w short few same =
      let covered = operator_covered op (t ∷ ts) behind sign in
      let next_is = replicated (operator_tokens op) at limit (t ∷ ts) (omega (arith, covered)) passes in
      same (further reach (assign_by around long (may_assign op (whole v fs)) at (At next limit behind))) (Left (bound (level op) v fs).0 op t ∷ (bound (level op) v fs).1) Expected next limit behind
      (operator_ended around long (sign_parts t ts op behind sign) end) (within_more at next limit (omega (arith, next_is)) w) (omega (arith, short, few))
  same_by turns reach (ends v end') end w short few same = refl
  same_by turns reach (stuck {at = at} {limit = limit} {t = t} {ts = ts} each) end w short few same = refused_same reach at limit (t ∷ ts) w
  same_by turns reach (stuck_behind {at = at} {limit = limit} p q others v g j k are) end w short few same =
      refused_same reach (suc (suc at)) limit (q ∷ others) (within_more at (suc (suc at)) limit (omega arith) w)
  same_by turns reach exhausted end w short few same = absurd end

  run_same : (turns : ℕ) → SameIn turns
  run_same zero reach fs mode at limit ts end w few = absurd (omega (arith, few))
  run_same (suc turns) reach fs mode at limit ts end w few =
      same_by turns reach (kind_of around long mode fs at limit ts) end w (step_shorter around long (config fs mode at limit ts)) few (run_same turns)

  unless_same : (o : Option Told) (e : ExprTree) (at : ℕ) (rest : List Token) (reach : Option FarthestFailure) → read_by (Reads e (At at o rest) reach) ≡ unless o e rest
  unless_same None e at rest reach = refl
  unless_same (Some told) e at rest reach = refl

  -- and so it is read
  read_same : (o : Outcome) → read_by (as_try o) ≡ alone.read_by long o
  read_same (Whole e (At at limit rest) reach) = unless_same (earlier limit (before at long)) e at rest reach
  read_same (Stopped None) = refl
  read_same (Stopped (Some reach)) = refl

-- what is read of expressions is what the machine comes to
pub one_run : (around : Nesting) (tokens : List Token) → Ended tokens → expr_of around tokens ≡ alone.read_by (long_of tokens) (outcome_of around tokens)
one_run around tokens end =
    let long = long_of tokens in
    ap read_by (run_same around long (suc (length tokens)) None [] Expected 0 None tokens end no_limit (omega arith)) ∙ read_same around long (outcome_of around tokens)

pub expressions_are_exact : ExpressionsAreExact
expressions_are_exact around tokens end = subst (IsExact IsExprPart (whole_entries around) tokens) (sym (one_run around tokens end)) (outcome_is_exact around tokens end)
