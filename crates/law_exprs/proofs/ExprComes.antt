-- The readers of expressions and types come to each of them, at any place.
use Rattle.std.proofs.Common.{◌≡◌, ℕ, zero, suc, ◌<◌, ◌≤◌, Bool, false, List, [], length, refl, ap, subst, ◌∙◌, arith}
use Rattle.std.specs.Prelude.{Option}
use Rattle.def_token.specs.Lexical.{Token}
use Rattle.def_tree.specs.ExprTree.{ExprTree}
use Rattle.def_tree.specs.Expressions.{IsExpr}
use Rattle.def_tree.specs.Limits.{Nesting, type_entries, expr_entries, whole_entries}
use Rattle.def_tree.specs.Part.{expr_goes_on, type_goes_on}
use Rattle.def_tree.specs.TypeTree.{TypeTree}
use Rattle.def_tree.specs.Types.{IsType}
use Rattle.law_tree.proofs.Covered.{expr_covered}
use Rattle.def_reading.specs.Cursor.{Told, At, before, earlier, FarthestFailure, further}
use Rattle.def_reading.specs.Machine.{Mode, Value, Config, Step, Ends, step}
use Rattle.def_reading.specs.Try.{Try, Reads, way_by, assign_ends, end_by, run_by, run, expr_in, look_by, type_in, long_from, finished}
use Rattle.law_types.proofs.AheadComplete.{type_found}
use Rattle.law_machine.proofs.MachineComplete.{config, Leads, here, through, expr_comes}
use Rattle.law_machine.proofs.MachineRun.{left, Shortens, step_shorter, ends_step}
use Rattle.law_exprs.proofs.TryComes.{Comes, whole_passes}

module _ (around : Nesting) (assigns : Bool) (long : Option Told) where
  -- what a step comes to, with fewer turns behind it
  abbrev pub stepped : ℕ → Mode → Option FarthestFailure → Step → Try ExprTree
  stepped turns mode reach s =
      run_by around assigns long (run around assigns long turns) mode reach s

  -- the machine comes in fewer steps from where it leads
  pub record Runs (turns : ℕ) (reach : Option FarthestFailure) (c d : Config) : Type 0 where
    pub turns' : ℕ
    pub reach' : Option FarthestFailure
    pub is : run around assigns long turns reach c ≡ run around assigns long turns' reach' d
    pub enough : length (left d.place) < turns'

  pub run_leads : {c d : Config} → Leads around long c d → (turns : ℕ) (reach : Option FarthestFailure) → length (left c.place) < turns → Runs turns reach c d
  run_leads here turns reach few = record { turns' = turns; reach' = reach; is = refl; enough = few }
  run_leads (through other d s p) zero reach few = absurd (omega (arith, few))
  run_leads {c = c} (through other d s p) (suc turns) reach few =
      let less : length (left d.place) < length (left c.place) = subst (Shortens (length (left c.place))) s (step_shorter around long c) in
      let more = run_leads p turns (further reach (way_by assigns c.mode other)) (omega (arith, less, few)) in
      record { turns' = more.turns'; reach' = more.reach'; is = ap (stepped turns c.mode reach) s ∙ more.is; enough = more.enough }

  run_ends : (turns : ℕ) (reach : Option FarthestFailure) (c : Config) (e : ExprTree) (at : ℕ) (limit : Option Told) (ts : List Token) → step around long c ≡ Ends e (At at limit ts) → assign_ends assigns ts ≡ false → 1 ≤ turns
      → run around assigns long turns reach c ≡ Reads e (finished long (At at limit ts)) reach
  run_ends zero reach c e at limit ts s b h = absurd (omega (arith, h))
  run_ends (suc turns) reach c e at limit ts s b h =
      ap (stepped turns c.mode reach) s ∙ ap (λ b. end_by around assigns long b reach e (At at limit ts)) b

-- the reader of expressions comes to each of them
pub expr_is : (assigns : Bool) (around : Nesting) {tokens rest : List Token} {e : ExprTree} → IsExpr tokens e rest → expr_goes_on rest ≡ false → assign_ends assigns rest ≡ false
    → Comes (expr_in assigns around) tokens e (whole_entries around e) rest
expr_is assigns around {tokens = tokens} {rest = rest} {e = e} p end none =
    record {
      comes = λ at limit reach.
          let place = At at limit tokens in
          let long = long_from place in
          let m = expr_comes around long p [] (λ l h value. refl) at limit in
          let runs = run_leads around assigns long m.leads (suc (length tokens)) reach (omega arith) in
          let ended = ends_step around long m.value e m.frames' m.at' m.limit' rest m.wholes end in
          record {
            at = m.at';
            limit = earlier m.limit' (before m.at' long);
            reach = runs.reach';
            is = runs.is ∙ run_ends around assigns long runs.turns' runs.reach' (config m.frames' (Value m.value) m.at' m.limit' rest) e m.at' m.limit' rest ended none (omega (arith, runs.enough));
            passes = λ h. whole_passes (expr_entries around e) at limit tokens (omega (arith, expr_covered around p)) h ∙ ap (finished long) m.passes;
          };
    }

-- the reader of types comes to each of them
pub type_is : (around : Nesting) {tokens rest : List Token} {type : TypeTree} → IsType tokens type rest → type_goes_on type rest ≡ false
    → Comes (type_in around) tokens type (type_entries around.types type) rest
type_is around {tokens = tokens} {rest = rest} {type = type} t end =
    record {
      comes = λ at limit reach.
          let f = type_found t end (length tokens) around.types at limit (omega arith) in
          record { at = f.at; limit = f.limit; reach = reach; is = ap (look_by reach) f.found; passes = λ h. f.passes };
    }
