-- What counts before an expression or a type counts no more than what reading it comes to.
use Rattle.std.proofs.Common.{◌≡◌, ℕ, zero, suc, ◌≤◌, Bool, true, false, List, [], ◌∷◌, length, refl, sym, ap, subst, codes, arith, le_refl}
use Rattle.std.specs.Prelude.{Option, None}
use Rattle.std.proofs.lemmas.Bool.{false≢true}
use Rattle.std.proofs.lemmas.Slice.Eq.{bytes_eq-Decides}
use Rattle.def_token.specs.Lexical.{Token}
use Rattle.def_tree.specs.ExprTree.{ExprTree}
use Rattle.def_tree.specs.Limits.{Nesting, plain}
use Rattle.def_tree.specs.Operator.{sign_at}
use Rattle.def_tree.specs.TypeTree.{TypeTree}
use Rattle.def_reading.specs.Cursor.{Told, Cursor, At, passed, before, FarthestFailure, further}
use Rattle.def_reading.specs.Machine.{Frame, Mode, Expected, Step, On, Ends, Refused, step_at}
use Rattle.def_reading.specs.Try.{ahead, expr_in, type_in, way_by, assign_ends, refused_in, end_by, run_by, run, look_by, long_from}
use Rattle.def_reading.specs.TypeAhead.{LookAhead, Found, Missing, type_ahead}
use Rattle.def_reading.specs.TypeReading.{Ended}
use Rattle.law_types.proofs.AheadStages.{PathLook, ended_alive, type_looks}
use Rattle.law_types.proofs.TypeStages.{Head}
use Rattle.law_machine.proofs.MachineComplete.{config}
use Rattle.law_machine.proofs.MachineGrows.{GrowsStep, GrowsTo, step_grows_at}
use Rattle.law_machine.proofs.MachineKinds.{Kind, uniform, bare, without, generic, operates, ends, stuck, stuck_behind, exhausted, kind_of, sign_no_end}
use Rattle.law_machine.proofs.SignsBehind.{IsAssignment, assigns}
use Rattle.law_machine.proofs.MachineWays.{operator_ended, name_end, takes_ended}
use Rattle.law_machine.proofs.SignParts.{sign_parts, joins_no_end}
use Rattle.law_types.proofs.Stopping.{ended_behind}
use Rattle.law_exprs.proofs.TryHolds.{Past, Holds, Keeps, past_later, past_more, stop_way}

-- tokens end behind a step
abbrev pub EndedAt : Cursor → Type 0
EndedAt (At at limit ts) = Ended ts

abbrev pub EndedStep : ℕ → Step → Type 0
EndedStep at (On other c) = EndedAt c.place
EndedStep at (Ends e place) = EndedAt place
EndedStep at (Refused (At at' limit ts)) = Ended ts × (at ≤ at')

module _ (around : Nesting) (long : Option Told) where
  pub step_ended : {fs : List Frame} {mode : Mode} {at : ℕ} {limit : Option Told} {ts : List Token} {s : Step} → Kind around long fs mode at limit ts s → Ended ts → EndedStep at s
  step_ended (uniform {t = t} {ts = ts} fs' mode' e no_end fits each) end = ended_behind t ts no_end end
  step_ended (bare {t = t} {ts = ts} n l) end = ended_behind t ts (name_end around long t n) end
  step_ended (without {t = t} {ts = ts} n l none at' limit' rest look) end = ended_behind t ts (name_end around long t n) end
  step_ended (generic {t = t} {ts = ts} n l args at' limit' rest takes look) end = takes_ended around long takes (ended_behind t ts (name_end around long t n) end)
  step_ended (operates {t = t} {ts = ts} op behind next sign passes) end = operator_ended around long (sign_parts t ts op behind sign) end
  step_ended (ends w end') end = end
  step_ended (stuck {at = at} each) end = (end, le_refl at)
  step_ended (stuck_behind {t = t} {ts = ts} p q others w g j k are) end =
      (ended_behind p (q ∷ others) (joins_no_end t p ">" j) (subst Ended are (ended_behind t ts (sign_no_end t _ g) end)), omega arith)
  step_ended exhausted end = absurd end

module _ (around : Nesting) (assigns' : Bool) (long : Option Told) where
  refused_holds : (w : FarthestFailure) (at : ℕ) (limit : Option Told) (ts : List Token) (reach : Option FarthestFailure) → Ended ts → Past w reach at → Holds w (refused_in around assigns' long reach (At at limit ts))
  refused_holds w at limit ts reach e p = stop_way w long at at (before at limit) ts reach e p

  shift_holds : (w : FarthestFailure) (at : ℕ) (limit : Option Told) (t : Token) (ts : List Token) (reach : Option FarthestFailure) → Ended (t ∷ ts) → Past w reach at → IsAssignment t ts
      → Holds w (refused_in around assigns' long reach (passed (plain ∷ plain ∷ []) (At at limit (t ∷ ts))))
  shift_holds w at limit t ts reach e p a =
      let two : passed (plain ∷ plain ∷ []) (At at limit (t ∷ ts)) ≡ At (suc (suc at)) limit (a.third ∷ a.others) = ap (λ ts. passed (plain ∷ plain ∷ []) (At at limit (t ∷ ts))) a.are in
      let end = ended_behind a.second (a.third ∷ a.others) (joins_no_end t a.second ">" a.shifts) (subst Ended a.are (ended_behind t ts (sign_no_end t _ a.first) e)) in
      subst (λ place. Holds {A = ExprTree} w (refused_in around assigns' long reach place)) (sym two)
      (refused_holds w (suc (suc at)) limit (a.third ∷ a.others) reach end (past_later w reach at (suc (suc at)) (omega arith) p))

  end_holds_by : (assigns'' b : Bool) (w : FarthestFailure) (e : ExprTree) (at : ℕ) (limit : Option Told) (ts : List Token) (reach : Option FarthestFailure) → assign_ends assigns'' ts ≡ b → Ended ts → Past w reach at
      → Holds w (end_by around assigns' long b reach e (At at limit ts))
  end_holds_by assigns'' false w e at limit ts reach is end p = (end, p)
  end_holds_by true true w e at limit ts reach is end p = absurd (false≢true is)
  end_holds_by false true w e at limit [] reach is end p = absurd end
  end_holds_by false true w e at limit (t ∷ ts) reach is end p = shift_holds w at limit t ts reach end p (assigns t ts ((bytes_eq-Decides (sign_at (t ∷ ts)).0 (codes ">>=")).0 is))

  abbrev pub RunHolds : ℕ → Type 0
  RunHolds turns = (w : FarthestFailure) (reach : Option FarthestFailure) (fs : List Frame) (mode : Mode) (at : ℕ) (limit : Option Told) (ts : List Token) → Ended ts → Past w reach at
      → Holds w (run around assigns' long turns reach (config fs mode at limit ts))

  on_holds : (turns : ℕ) (w : FarthestFailure) (reach : Option FarthestFailure) (fs : List Frame) (mode : Mode) (place : Cursor) (at : ℕ) (limit : Option Told) → EndedAt place → GrowsTo at limit place → Past w reach at → RunHolds turns
      → Holds w (run around assigns' long turns reach (record { frames = fs; mode = mode; place = place }))
  on_holds turns w reach fs mode (At at' limit' rest) at limit end g p holds = holds w reach fs mode at' limit' rest end (past_later w reach at at' (omega (arith, g.0)) p)

  pub end_at : (place : Cursor) (w : FarthestFailure) (reach : Option FarthestFailure) (e : ExprTree) (at : ℕ) (limit : Option Told) (ts : List Token) → place ≡ At at limit ts → Ended ts → Past w reach at
      → Holds w (end_by around assigns' long (assign_ends assigns' (ahead place)) reach e place)
  end_at place w reach e at limit ts is end p =
      subst (λ place. Holds w (end_by around assigns' long (assign_ends assigns' (ahead place)) reach e place)) (sym is) (end_holds_by assigns' (assign_ends assigns' ts) w e at limit ts reach refl end p)

  step_holds_by : (turns : ℕ) (w : FarthestFailure) (reach : Option FarthestFailure) (mode : Mode) (at : ℕ) (limit : Option Told) (ts : List Token) (s : Step) → Ended ts → EndedStep at s → GrowsStep at limit ts s → Past w reach at → RunHolds turns
      → Holds w (run_by around assigns' long (run around assigns' long turns) mode reach s)
  step_holds_by turns w reach mode at limit ts (On other c) e end g p holds =
      on_holds turns w (further reach (way_by assigns' mode other)) c.frames c.mode c.place at limit end g (past_more w reach (way_by assigns' mode other) at p) holds
  step_holds_by turns w reach mode at limit ts (Ends e' place) e end g p holds = end_at place w reach e' at limit ts g e p
  step_holds_by turns w reach mode at limit ts (Refused (At at' limit' rest)) e end g p holds = refused_holds w at' limit' rest reach end.0 (past_later w reach at at' end.1 p)

  pub run_holds : (turns : ℕ) → RunHolds turns
  run_holds zero w reach fs mode at limit ts e p = refused_holds w at limit ts reach e p
  run_holds (suc turns) w reach fs mode at limit ts e p =
      step_holds_by turns w reach mode at limit ts (step_at around long mode fs (At at limit ts)) e (step_ended around long (kind_of around long mode fs at limit ts) e) (step_grows_at around long mode fs at limit ts) p (run_holds turns)

pub keeps_expr : (assigns' : Bool) (around : Nesting) → Keeps (expr_in assigns' around)
keeps_expr assigns' around w at limit tokens reach e p =
    run_holds around assigns' (long_from (At at limit tokens)) (suc (length tokens)) w reach [] Expected at limit tokens e p

type_holds : (w : FarthestFailure) (at : ℕ) (limit : Option Told) (types : ℕ) (ts : List Token) (reach : Option FarthestFailure) (look : LookAhead TypeTree) → Ended ts → Past w reach at → PathLook types zero (Head types zero) at limit ts look
    → Holds w (look_by reach look)
type_holds w at limit types ts reach (Found type (At at' limit' rest)) e p look = (ended_alive look.alive e, past_later w reach at at' (omega (arith, look.alive.is_at)) p)
type_holds w at limit types ts reach (Missing (At at' limit' rest)) e p look = stop_way w None 0 at' (before at' limit') rest reach (ended_alive look.alive e) (past_later w reach at at' (omega (arith, look.alive.is_at)) p)

pub keeps_type : (around : Nesting) → Keeps (type_in around)
keeps_type around w at limit tokens reach e p =
    type_holds w at limit around.types tokens reach (type_ahead (length tokens) around.types (At at limit tokens)) e p (type_looks (length tokens) around.types zero at limit tokens (le_refl (length tokens)) e)
