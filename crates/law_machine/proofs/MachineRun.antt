-- What the machine comes to in front of tokens.
use Rattle.std.proofs.Common.{◌≡◌, ℕ, zero, suc, ◌<◌, ◌≤◌, true, false, List, [], ◌∷◌, length, refl, sym, ap, subst, ◌∙◌, arith, le_refl}
use Rattle.std.specs.Prelude.{Option, Some, None}
use Rattle.std.specs.List.{list_any}
use Rattle.std.proofs.lemmas.Bool.{false≢true, or_parts}
use Prim.Native.String.{String}
use Rattle.def_token.specs.Lexical.{Token}
use Rattle.def_tree.specs.ExprTree.{ExprTree}
use Rattle.def_tree.specs.Expressions.{TakesTypeArgs}
use Rattle.def_tree.specs.Limits.{Nesting, Entry, args_entries, expr_entries, operator_tokens}
use Rattle.def_tree.specs.Operator.{Operator, Or, And, BitOr, BitXor, BitAnd, Equal, NotEqual, Less, LessEqual, Greater, GreaterEqual, ShiftLeft, ShiftRight, Add, Subtract, Multiply, Divide, Remainder, operators, operator_text, sign_at}
use Rattle.def_tree.specs.Part.{begins_with_operator, expr_goes_on, signs_behind, IsExprPart}
use Rattle.def_tree.specs.Statements.{begins_with}
use Rattle.def_tree.specs.Symbol.{symbol, Is}
use Rattle.def_tree.specs.TypeTree.{TypeTrees}
use Rattle.law_tree.proofs.Covered.{operator_covered}
use Rattle.def_reading.specs.Cursor.{Told, Cursor, At, advance, passed, long_of, FarthestFailure, further}
use Rattle.def_reading.specs.Machine.{Frame, Mode, Value, Config, Step, On, Ends, Refused, whole, sign_of, behind_text, behinds, Behind, Call, Index, Dot, Colons, Question, Colon, Comma, Closing, IndexClosing, ends_by, operator_by, colon_by, comma_by, closing_by, index_by, behind_by, step_at, step}
use Rattle.law_machine.proofs.MachineOutcome.{Outcome, Whole, Stopped, refused_at, run_by, run, started, outcome_of}
use Rattle.law_types.proofs.AheadSound.{taken_found}
use Rattle.law_machine.proofs.MachineComplete.{config, Leads, here, through, expr_comes}
use Rattle.law_machine.proofs.MachineMoves.{Moves, an_atom, bare, without, generic, converts, prefixes, opens_group, no_arguments, opens_conversion, casts, names_member, calls, indexes, dots, asks, chooses, separates, closes_group, closes_conversion, closes_call, closes_index, operates, ends, stuck, stuck_behind, exhausted, view}
use Rattle.law_machine.proofs.SignsBehind.{any-written}
use Rattle.law_machine.proofs.MachineSigns.{sign_of-some}
use Rattle.law_machine.proofs.MachineSound.{HoldsAt, PartAt, SoundStep, moves_sound, nothing}

abbrev pub left : Cursor → List Token
left (At at limit ts) = ts

pub advance_shorter : (entry : Entry) (place : Cursor) → length (left (advance entry place)) ≤ length (left place)
advance_shorter entry (At at limit []) = le_refl 0
advance_shorter entry (At at limit (t ∷ ts)) = omega arith

pub passed_shorter : (entries : List Entry) (place : Cursor) → length (left (passed entries place)) ≤ length (left place)
passed_shorter [] place = le_refl _
passed_shorter (entry ∷ entries) place = omega (arith, passed_shorter entries (advance entry place), advance_shorter entry place)

pub operator_some : (op : Operator) → 1 ≤ operator_tokens op
operator_some Or = omega arith
operator_some And = omega arith
operator_some BitOr = omega arith
operator_some BitXor = omega arith
operator_some BitAnd = omega arith
operator_some Equal = omega arith
operator_some NotEqual = omega arith
operator_some Less = omega arith
operator_some LessEqual = omega arith
operator_some Greater = omega arith
operator_some GreaterEqual = omega arith
operator_some ShiftLeft = omega arith
operator_some ShiftRight = omega arith
operator_some Add = omega arith
operator_some Subtract = omega arith
operator_some Multiply = omega arith
operator_some Divide = omega arith
operator_some Remainder = omega arith

-- type arguments leave no more tokens than there are
taken_shorter : {ts rest : List Token} {args : TypeTrees} → TakesTypeArgs ts args rest → length rest ≤ length ts
taken_shorter {ts = ts} {rest = rest} {args = args} t =
    let f = taken_found t 0 0 None in
    omega (arith, passed_shorter (args_entries 0 args) (At 0 None ts), ap (λ p. length (left p)) f.passes)

-- a step leaves fewer tokens
abbrev pub Shortens : ℕ → Step → Type 0
Shortens many (On other c) = length (left c.place) < many
Shortens many (Ends e place) = Unit {0}
Shortens many (Refused place) = Unit {0}

pub shorter : {around : Nesting} {long : Option Told} {fs : List Frame} {mode : Mode} {at : ℕ} {limit : Option Told} {ts : List Token} {s : Step} → Moves around long fs mode at limit ts s → Shortens (length ts) s
shorter (an_atom a) = omega arith
shorter (bare n b) = omega arith
shorter (without n b none at' limit' rest is) = omega arith
shorter (generic n b args at' limit' rest t is) = omega (arith, taken_shorter t)
shorter (converts s i) = omega arith
shorter (prefixes i) = omega arith
shorter (opens_group i) = omega arith
shorter (no_arguments i) = omega arith
shorter (opens_conversion i) = omega arith
shorter (casts i) = omega arith
shorter (names_member i) = omega arith
shorter (calls i) = omega arith
shorter (indexes i) = omega arith
shorter (dots i) = omega arith
shorter (asks i) = omega arith
shorter (chooses i w) = omega arith
shorter (separates i w) = omega arith
shorter (closes_group i w) = omega arith
shorter (closes_conversion i w) = omega arith
shorter (closes_call i w) = omega arith
shorter (closes_index i w) = omega arith
shorter (operates {t = t} {ts = ts} op behind next sign passes) = omega (arith, operator_covered op (t ∷ ts) behind sign, operator_some op)
shorter (ends w end) = tt
shorter (stuck each) = tt
shorter (stuck_behind w g j k) = tt
shorter exhausted = tt

shortens_by : (c : Config) (place : Cursor) (around : Nesting) (long : Option Told) (mode : Mode) (fs : List Frame) → Shortens (length (left place)) (step_at around long mode fs place)
shortens_by c (At at limit ts) around long mode fs = shorter (view around long mode fs at limit ts)

pub step_shorter : (around : Nesting) (long : Option Told) (c : Config) → Shortens (length (left c.place)) (step around long c)
step_shorter around long c = shortens_by c c.place around long c.mode c.frames

module _ (around : Nesting) (long : Option Told) where
  -- the machine comes in fewer steps from where it leads
  pub record Runs (turns : ℕ) (reach : Option FarthestFailure) (c d : Config) : Type 0 where
    pub turns' : ℕ
    pub reach' : Option FarthestFailure
    pub is : run around long turns reach c ≡ run around long turns' reach' d
    pub enough : length (left d.place) < turns'

  pub run_leads : {c d : Config} → Leads around long c d → (turns : ℕ) (reach : Option FarthestFailure) → length (left c.place) < turns → Runs turns reach c d
  run_leads here turns reach few = record { turns' = turns; reach' = reach; is = refl; enough = few }
  run_leads (through other d s p) zero reach few = absurd (omega (arith, few))
  run_leads {c = c} (through other d s p) (suc turns) reach few =
      let less : length (left d.place) < length (left c.place) = subst (Shortens (length (left c.place))) s (step_shorter around long c) in
      let more = run_leads p turns (further reach other) (omega (arith, less, few)) in
      record { turns' = more.turns'; reach' = more.reach'; is = ap (run_by around long (run around long turns) reach) s ∙ more.is; enough = more.enough }

-- what holds of what the machine comes to
abbrev pub SoundOutcome : List Token → Outcome → Type 0
SoundOutcome tokens (Whole e place reach) = PartAt tokens e place
SoundOutcome tokens (Stopped reach) = Unit {0}

stopped_sound : (tokens : List Token) (around : Nesting) (long : Option Told) (reach : Option FarthestFailure) (place : Cursor) → SoundOutcome tokens (refused_at around long reach place)
stopped_sound tokens around long reach (At at limit ts) = tt

pub step_holds : (tokens : List Token) (around : Nesting) (long : Option Told) (mode : Mode) (fs : List Frame) (place : Cursor) → HoldsAt tokens mode fs place → SoundStep tokens (step_at around long mode fs place)
step_holds tokens around long mode fs (At at limit ts) h = moves_sound tokens (view around long mode fs at limit ts) h

run_by_sound : (tokens : List Token) (around : Nesting) (long : Option Told) (more : Option FarthestFailure → Config → Outcome) (reach : Option FarthestFailure) (s : Step) → SoundStep tokens s
    → ((reach : Option FarthestFailure) (c : Config) → HoldsAt tokens c.mode c.frames c.place → SoundOutcome tokens (more reach c))
    → SoundOutcome tokens (run_by around long more reach s)
run_by_sound tokens around long more reach (On other c) h sound = sound (further reach other) c h
run_by_sound tokens around long more reach (Ends e place) h sound = h
run_by_sound tokens around long more reach (Refused place) h sound = stopped_sound tokens around long reach place

run_sound : (tokens : List Token) (around : Nesting) (long : Option Told) (turns : ℕ) (reach : Option FarthestFailure) (c : Config) → HoldsAt tokens c.mode c.frames c.place
    → SoundOutcome tokens (run around long turns reach c)
run_sound tokens around long zero reach c h = tt
run_sound tokens around long (suc turns) reach c h =
    run_by_sound tokens around long (run around long turns) reach (step around long c) (step_holds tokens around long c.mode c.frames c.place h)
    (λ reach d holds. run_sound tokens around long turns reach d holds)

pub outcome_sound : (around : Nesting) (tokens : List Token) → SoundOutcome tokens (outcome_of around tokens)
outcome_sound around tokens = run_sound tokens around (long_of tokens) (suc (length tokens)) None (started tokens) nothing

-- an expression ends before tokens that do not go on with it
ends_none : (o : Option Behind) (around : Nesting) (long : Option Told) (v e : ExprTree) (fs : List Frame) (at : ℕ) (limit : Option Told) (t : Token) (ts : List Token) → sign_of behind_text behinds (symbol t) ≡ o
    → whole v fs ≡ (e, []) → expr_goes_on (t ∷ ts) ≡ false
    → behind_by around long o v fs at t ts (At at limit (t ∷ ts)) ≡ Ends e (At at limit (t ∷ ts))
ends_none None around long v e fs at limit t ts is w end =
    let both = or_parts (begins_with_operator (t ∷ ts)) (list_any (λ (sign : String). begins_with sign (t ∷ ts)) signs_behind) end in
    ap (λ o. operator_by around long o v fs at t ts (At at limit (t ∷ ts))) (any-written operator_text operators (sign_at (t ∷ ts)).0 both.0)
    ∙ ap (λ held. ends_by held (t ∷ ts) (At at limit (t ∷ ts))) w
ends_none (Some Call) around long v e fs at limit t ts is w end =
    let h : Is "(" t = sign_of-some behind_text behinds (symbol t) Call is in
    let goes : expr_goes_on (t ∷ ts) ≡ true = rw h refl in absurd (false≢true (sym end ∙ goes))
ends_none (Some Index) around long v e fs at limit t ts is w end =
    let h : Is "[" t = sign_of-some behind_text behinds (symbol t) Index is in
    let goes : expr_goes_on (t ∷ ts) ≡ true = rw h refl in absurd (false≢true (sym end ∙ goes))
ends_none (Some Dot) around long v e fs at limit t ts is w end =
    let h : Is "." t = sign_of-some behind_text behinds (symbol t) Dot is in
    let goes : expr_goes_on (t ∷ ts) ≡ true = rw h refl in absurd (false≢true (sym end ∙ goes))
ends_none (Some Colons) around long v e fs at limit t ts is w end =
    let h : Is "::" t = sign_of-some behind_text behinds (symbol t) Colons is in
    let goes : expr_goes_on (t ∷ ts) ≡ true = rw h refl in absurd (false≢true (sym end ∙ goes))
ends_none (Some Question) around long v e fs at limit t ts is w end =
    let h : Is "?" t = sign_of-some behind_text behinds (symbol t) Question is in
    let goes : expr_goes_on (t ∷ ts) ≡ true = rw h refl in absurd (false≢true (sym end ∙ goes))
ends_none (Some Colon) around long v e fs at limit t ts is w end = ap (λ held. colon_by held (t ∷ ts) (At at limit (t ∷ ts))) w
ends_none (Some Comma) around long v e fs at limit t ts is w end = ap (λ held. comma_by held (t ∷ ts) (At at limit (t ∷ ts))) w
ends_none (Some Closing) around long v e fs at limit t ts is w end = ap (λ held. closing_by held (t ∷ ts) (At at limit (t ∷ ts))) w
ends_none (Some IndexClosing) around long v e fs at limit t ts is w end = ap (λ held. index_by held (t ∷ ts) (At at limit (t ∷ ts))) w

pub ends_step : (around : Nesting) (long : Option Told) (v e : ExprTree) (fs : List Frame) (at : ℕ) (limit : Option Told) (ts : List Token) → whole v fs ≡ (e, []) → expr_goes_on ts ≡ false
    → step around long (config fs (Value v) at limit ts) ≡ Ends e (At at limit ts)
ends_step around long v e fs at limit [] w end = ap (λ held. ends_by held [] (At at limit [])) w
ends_step around long v e fs at limit (t ∷ ts) w end = ends_none (sign_of behind_text behinds (symbol t)) around long v e fs at limit t ts refl w end

-- the machine comes to each expression
pub record ComesWhole (around : Nesting) (tokens : List Token) (expr : ExprTree) (rest : List Token) : Type 0 where
  pub at : ℕ
  pub limit : Option Told
  pub reach : Option FarthestFailure
  pub is : outcome_of around tokens ≡ Whole expr (At at limit rest) reach
  pub passes : passed (expr_entries around expr) (At 0 None tokens) ≡ At at limit rest

run_ends : (around : Nesting) (long : Option Told) (turns : ℕ) (reach : Option FarthestFailure) (c : Config) (e : ExprTree) (place : Cursor) → step around long c ≡ Ends e place → 1 ≤ turns
    → run around long turns reach c ≡ Whole e place reach
run_ends around long zero reach c e place s h = absurd (omega (arith, h))
run_ends around long (suc turns) reach c e place s h = ap (run_by around long (run around long turns) reach) s

pub comes_whole : (around : Nesting) {tokens rest : List Token} {expr : ExprTree} → IsExprPart tokens expr rest → ComesWhole around tokens expr rest
comes_whole around {tokens = tokens} {rest = rest} {expr = expr} p =
    let long = long_of tokens in
    let e = expr_comes around long p.tree [] (λ l h value. refl) 0 None in
    let runs = run_leads around long e.leads (suc (length tokens)) None (omega arith) in
    let ended = ends_step around long e.value expr e.frames' e.at' e.limit' rest e.wholes p.ended in
    record {
      at = e.at';
      limit = e.limit';
      reach = runs.reach';
      is = runs.is ∙ run_ends around long runs.turns' runs.reach' (config e.frames' (Value e.value) e.at' e.limit' rest) expr (At e.at' e.limit' rest) ended (omega (arith, runs.enough));
      passes = e.passes;
    }
