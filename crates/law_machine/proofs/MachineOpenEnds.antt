-- What a step does before any tokens: at names, and at `>`, which may be a part of other signs.
use Rattle.std.proofs.Common.{◌≡◌, ◌⊎◌, inl, inr, ℕ, suc, ◌+◌, ◌≤◌, Bool, true, false, List, [], ◌∷◌, refl, ap, subst, ◌∙◌, codes, arith, le_refl}
use Rattle.std.specs.Prelude.{Option, None, replicate}
use Rattle.std.specs.Str.{bytes_eq}
use Rattle.std.proofs.lemmas.Bool.{false≢true}
use Rattle.def_token.specs.Lexical.{Token}
use Rattle.def_tree.specs.ExprTree as tree
use Rattle.def_tree.specs.ExprTree.{ExprTree}
use Rattle.def_tree.specs.Expressions.{TakesTypeArgs}
use Rattle.def_tree.specs.Limits.{Nesting, plain, operator_tokens}
use Rattle.def_tree.specs.Operator.{Operator, operators, operator_text, Greater, GreaterEqual, ShiftRight, level, SignAt, sign_at, joins}
use Rattle.def_tree.specs.Statements.{begins_with}
use Rattle.def_tree.specs.Symbol.{symbol, Is, IsName}
use Rattle.def_tree.specs.TypeTree.{TypeTrees, NoTypes}
use Rattle.law_tree.proofs.Covered.{operator_covered}
use Rattle.law_tree.proofs.Symbols.{is_sign-true}
use Rattle.def_reading.specs.Cursor.{Told, Cursor, At, passed, FarthestFailure, reach_at}
use Rattle.def_reading.specs.TypeAhead.{LookAhead, Found, Missing, taken_ahead}
use Rattle.def_reading.specs.Machine.{Frame, Left, Mode, Expected, Value, Dotted, Converting, Config, Step, On, Ends, Held, nesting, bound, whole, written, sign_of, behind_text, behinds, may_assign, assign_by, name_by, name_if, refused_by, ends_by, operator_by, behind_by, step_by, step_at}
use Rattle.law_types.proofs.AheadFaults.{Grows, same_limit, grows_more}
use Rattle.law_types.proofs.AheadSound.{SoundLook, taken_sound}
use Rattle.law_types.proofs.LimitSpots.{same_place}
use Rattle.law_machine.proofs.MachineComplete.{config, operator_step}
use Rattle.law_machine.proofs.MachineGrows.{Finishes, finished, goes_on, GrowsFrom, finishes_grows, args_place, replicated}
use Rattle.law_machine.proofs.MachineSigns.{operator_passes}
use Rattle.law_machine.proofs.MachineWays.{behind_step, no_refusal}
use Rattle.law_machine.proofs.SignParts.{greater_sign, equal_sign, shift_sign, assign_sign}

module _ (around : Nesting) (long : Option Told) where
  pub step_cons : (mode : Mode) (fs : List Frame) (at : ℕ) (limit : Option Told) (t : Token) (ts : List Token) → step_at around long mode fs (At at limit (t ∷ ts)) ≡ step_by around long mode fs at limit t ts
  step_cons Expected fs at limit t ts = refl
  step_cons (Value v) fs at limit t ts = refl
  step_cons (Dotted v) fs at limit t ts = refl
  step_cons (Converting word first) fs at limit t ts = refl

  -- an operator, wherever it stands
  pub record Operates (fs : List Frame) (v : ExprTree) (at : ℕ) (limit : Option Told) (t : Token) (ts behind : List Token) (op : Operator) : Type 0 where
    pub other : Option FarthestFailure
    pub is : step_at around long (Value v) fs (At at limit (t ∷ ts)) ≡ On other (config (Left (bound (level op) v fs).0 op t ∷ (bound (level op) v fs).1) Expected (at + operator_tokens op) limit behind)

  pub operates_so : (fs : List Frame) (v : ExprTree) (at : ℕ) (limit : Option Told) (t : Token) (ts behind : List Token) (op : Operator) → sign_at (t ∷ ts) ≡ (codes (operator_text op), behind) → Operates fs v at limit t ts behind op
  operates_so fs v at limit t ts behind op sign =
      let p = operator_passes op at limit t ts behind sign in
      let covered = operator_covered op (t ∷ ts) behind sign in
      let next : p.next ≡ at + operator_tokens op = replicated (operator_tokens op) at limit (t ∷ ts) (omega (arith, covered)) p.is in
      record {
        other = assign_by around long (may_assign op (whole v fs)) at (passed (replicate (operator_tokens op) plain) (At at limit (t ∷ ts)));
        is = subst (λ next. step_at around long (Value v) fs (At at limit (t ∷ ts)) ≡ On (assign_by around long (may_assign op (whole v fs)) at (passed (replicate (operator_tokens op) plain) (At at limit (t ∷ ts))))
            (config (Left (bound (level op) v fs).0 op t ∷ (bound (level op) v fs).1) Expected next limit behind)) next
            (operator_step around long v fs at limit t ts behind op sign p.next p.is (bound (level op) v fs).0 (bound (level op) v fs).1 refl);
      }

  -- names
  abbrev pub PlaceFrom : ℕ → Option Told → Cursor → Type 0
  PlaceFrom at limit (At at' limit' rest) = (at ≤ at') × Grows at limit limit'

  record NameOn (at : ℕ) (limit : Option Told) (s : Step) : Type 0 where
    other : Option FarthestFailure
    next : Config
    is : s ≡ On other next
    from : PlaceFrom at limit next.place

  name_by_on : (look : LookAhead TypeTrees) (fs : List Frame) (at : ℕ) (limit : Option Told) (name : Token) (ts : List Token) → taken_ahead (nesting around fs).types at limit ts ≡ look → SoundLook TakesTypeArgs ts look
      → NameOn at limit (name_by around long look fs name (At at limit ts))
  name_by_on (Found args (At at' limit' rest)) fs at limit name ts is takes =
      let p = args_place (nesting around fs).types at limit takes at' limit' is in
      record { other = None; next = config fs (Value (tree.Name name args)) at' limit' rest; is = refl; from = (omega (arith, p.0), p.1) }
  name_by_on (Missing (At at' limit' rest)) fs at limit name ts is takes =
      record { other = reach_at long at' (At at' limit' rest); next = config fs (Value (tree.Name name NoTypes)) at limit ts; is = refl; from = (le_refl at, same_limit) }

  sound_less : (types at : ℕ) (limit : Option Told) (ts : List Token) → begins_with "<" ts ≡ true → SoundLook TakesTypeArgs ts (taken_ahead types at limit ts)
  sound_less types at limit [] b = absurd (false≢true b)
  sound_less types at limit (opening ∷ ts) b = taken_sound types at limit opening ts (is_sign-true "<" (symbol opening) b)

  name_if_on : (b : Bool) (fs : List Frame) (at : ℕ) (limit : Option Told) (name : Token) (ts : List Token) → begins_with "<" ts ≡ b → NameOn at limit (name_if around long b fs name at limit ts)
  name_if_on true fs at limit name ts b = name_by_on (taken_ahead (nesting around fs).types at limit ts) fs at limit name ts refl (sound_less (nesting around fs).types at limit ts b)
  name_if_on false fs at limit name ts b = record { other = None; next = config fs (Value (tree.Name name NoTypes)) at limit ts; is = refl; from = (le_refl at, same_limit) }

  name_step : (fs : List Frame) (at : ℕ) (limit : Option Told) (name : Token) (ts : List Token) → IsName name → step_at around long Expected fs (At at limit (name ∷ ts)) ≡ name_if around long (begins_with "<" ts) fs name (suc at) limit ts
  name_step fs at limit name ts n = rw n refl

  from_place : (place : Cursor) (at : ℕ) (limit : Option Told) (n : ℕ) (lf : Option Told) → PlaceFrom at limit place → GrowsFrom place n lf → (at ≤ n) × Grows at limit lf
  from_place (At at' limit' rest) at limit n lf h k = (omega (arith, h.0, k.0), grows_more at at' limit limit' lf h.0 h.1 k.1)

  pub name_grows : {fs : List Frame} {at : ℕ} {limit : Option Told} {name : Token} {ts : List Token} {e : ExprTree} {n : ℕ} {lf : Option Told} {rest : List Token} → IsName name
      → Finishes around long (config fs Expected at limit (name ∷ ts)) e n lf rest → (suc at ≤ n) × Grows (suc at) limit lf
  name_grows {fs = fs} {at = at} {limit = limit} {name = name} {ts = ts} {n = n} {lf = lf} h f =
      let on = name_if_on (begins_with "<" ts) fs (suc at) limit name ts refl in
      from_place on.next.place (suc at) limit n lf on.from (finishes_grows (behind_step around long on.other on.next f (name_step fs at limit name ts h ∙ on.is)))

  -- behind `>`, where it may be a part of other signs
  abbrev pub OpenEnd : List Frame → ExprTree → ℕ → ℕ → Option Told → ℕ → Option Told → Type 0
  OpenEnd fs v from at limit n lf = ((from ≤ n) × Grows from limit lf) ⊎ ((n ≡ at) × (lf ≡ limit) × (e : ExprTree) × (whole v fs ≡ (e, [])))

  no_more : (o : Option FarthestFailure) (d : Config) (e : ExprTree) (place : Cursor) (s : Step) → s ≡ Ends e place → s ≡ On o d → ⊥
  no_more o d e place s h k = cc

  ends_same : (e e' : ExprTree) (p q : Cursor) (s : Step) → s ≡ Ends e p → s ≡ Ends e' q → p ≡ q
  ends_same e e' p q s h k = cc

  refused_either : (b : Bool) {fs : List Frame} {v : ExprTree} {at : ℕ} {limit : Option Told} {toks : List Token} {e : ExprTree} {n : ℕ} {lf : Option Told} {rest : List Token}
      → Finishes around long (config fs (Value v) at limit toks) e n lf rest → step_at around long (Value v) fs (At at limit toks) ≡ refused_by b (At at limit toks) → ⊥
  refused_either true {at = at} {limit = limit} {toks = toks} f is = no_refusal around long (passed (plain ∷ plain ∷ []) (At at limit toks)) f is
  refused_either false {at = at} {limit = limit} {toks = toks} f is = no_refusal around long (At at limit toks) f is

  held_ends : (held : Held) {fs : List Frame} {v : ExprTree} {at : ℕ} {limit : Option Told} {toks : List Token} {e : ExprTree} {n : ℕ} {lf : Option Told} {rest : List Token} → whole v fs ≡ held
      → step_at around long (Value v) fs (At at limit toks) ≡ ends_by held toks (At at limit toks)
      → Finishes around long (config fs (Value v) at limit toks) e n lf rest → (n ≡ at) × (lf ≡ limit) × (e' : ExprTree) × (whole v fs ≡ (e', []))
  held_ends (e', []) {fs = fs} {v = v} {at = at} {limit = limit} {toks = toks} {e = e} {n = n} {lf = lf} {rest = rest} w is (finished s) =
      let same = same_place (ends_same e e' (At n lf rest) (At at limit toks) (step_at around long (Value v) fs (At at limit toks)) s is) in
      (same.0, same.1, e', w)
  held_ends (e', []) {fs = fs} {v = v} {at = at} {limit = limit} {toks = toks} w is (goes_on o d s f) = absurd (no_more o d e' (At at limit toks) (step_at around long (Value v) fs (At at limit toks)) is s)
  held_ends (e', frame ∷ frames) {toks = toks} w is f = absurd (refused_either (bytes_eq (sign_at toks).0 (codes ">>=")) f is)

  pub assign_ends : {fs : List Frame} {v : ExprTree} {at : ℕ} {limit : Option Told} {e : ExprTree} {n : ℕ} {lf : Option Told} {rest : List Token} (p q r : Token) (ts : List Token) → Is ">" p → joins p ">" q ≡ true → joins q "=" r ≡ true
      → Finishes around long (config fs (Value v) at limit (p ∷ q ∷ r ∷ ts)) e n lf rest → (n ≡ at) × (lf ≡ limit) × (e' : ExprTree) × (whole v fs ≡ (e', []))
  assign_ends {fs = fs} {v = v} {at = at} {limit = limit} p q r ts g j k f =
      let toks = p ∷ q ∷ r ∷ ts in
      let none : sign_of behind_text behinds (symbol p) ≡ None = rw g refl in
      let no_op : written operator_text operators (sign_at (p ∷ q ∷ r ∷ ts)).0 ≡ None = ap (λ (x : SignAt). written operator_text operators x.0) (assign_sign p q r ts g j k) in
      held_ends (whole v fs) refl
      (ap (λ o. behind_by around long o v fs at p (q ∷ r ∷ ts) (At at limit toks)) none ∙ ap (λ o. operator_by around long o v fs at p (q ∷ r ∷ ts) (At at limit toks)) no_op) f

  operates_from : {fs : List Frame} {v : ExprTree} {at : ℕ} {limit : Option Told} {e : ExprTree} {n : ℕ} {lf : Option Told} {rest : List Token} (from : ℕ) (p : Token) (ts behind : List Token) (op : Operator)
      → sign_at (p ∷ ts) ≡ (codes (operator_text op), behind) → from ≤ at + operator_tokens op → at ≤ from
      → Finishes around long (config fs (Value v) at limit (p ∷ ts)) e n lf rest → OpenEnd fs v from at limit n lf
  operates_from {fs = fs} {v = v} {at = at} {limit = limit} {n = n} {lf = lf} from p ts behind op sign h k f =
      let o = operates_so fs v at limit p ts behind op sign in
      let g = finishes_grows (behind_step around long o.other (config (Left (bound (level op) v fs).0 op p ∷ (bound (level op) v fs).1) Expected (at + operator_tokens op) limit behind) f o.is) in
      inl (omega (arith, h, g.0), grows_more from (at + operator_tokens op) limit limit lf h same_limit g.1)

  open_two_by : (b : Bool) {fs : List Frame} {v : ExprTree} {at : ℕ} {limit : Option Told} {e : ExprTree} {n : ℕ} {lf : Option Told} {rest : List Token} (p q r : Token) (ts : List Token) → Is ">" p → joins p ">" q ≡ true → joins q "=" r ≡ b
      → Finishes around long (config fs (Value v) at limit (p ∷ q ∷ r ∷ ts)) e n lf rest → OpenEnd fs v (suc (suc at)) at limit n lf
  open_two_by true p q r ts g j k f = inr (assign_ends p q r ts g j k f)
  open_two_by false {at = at} p q r ts g j k f = operates_from (suc (suc at)) p (q ∷ r ∷ ts) (r ∷ ts) ShiftRight (shift_sign p q (r ∷ ts) g j k) (omega arith) (omega arith) f

  pub open_two : {fs : List Frame} {v : ExprTree} {at : ℕ} {limit : Option Told} {e : ExprTree} {n : ℕ} {lf : Option Told} {rest : List Token} (p q : Token) (ts : List Token) → Is ">" p → joins p ">" q ≡ true
      → Finishes around long (config fs (Value v) at limit (p ∷ q ∷ ts)) e n lf rest → OpenEnd fs v (suc (suc at)) at limit n lf
  open_two {at = at} p q [] g j f = operates_from (suc (suc at)) p (q ∷ []) [] ShiftRight (shift_sign p q [] g j tt) (omega arith) (omega arith) f
  open_two p q (r ∷ ts) g j f = open_two_by (joins q "=" r) p q r ts g j refl f

  less_open : (fs : List Frame) (v : ExprTree) {at n : ℕ} {limit lf : Option Told} → OpenEnd fs v (suc (suc at)) at limit n lf → OpenEnd fs v (suc at) at limit n lf
  less_open fs v {at = at} {limit = limit} {lf = lf} (inl h) = inl (omega (arith, h.0), grows_more (suc at) (suc (suc at)) limit limit lf (omega arith) same_limit h.1)
  less_open fs v (inr h) = inr h

  open_one_by : (shifts equals : Bool) {fs : List Frame} {v : ExprTree} {at : ℕ} {limit : Option Told} {e : ExprTree} {n : ℕ} {lf : Option Told} {rest : List Token} (p q : Token) (ts : List Token) → Is ">" p
      → joins p ">" q ≡ shifts → joins p "=" q ≡ equals → Finishes around long (config fs (Value v) at limit (p ∷ q ∷ ts)) e n lf rest → OpenEnd fs v (suc at) at limit n lf
  open_one_by true equals {fs = fs} {v = v} p q ts g j k f = less_open fs v (open_two p q ts g j f)
  open_one_by false true {at = at} p q ts g j k f = operates_from (suc at) p (q ∷ ts) ts GreaterEqual (equal_sign p q ts g j k) (omega arith) (omega arith) f
  open_one_by false false {at = at} p q ts g j k f = operates_from (suc at) p (q ∷ ts) (q ∷ ts) Greater (greater_sign p (q ∷ ts) g (j, k)) (omega arith) (omega arith) f

  pub open_one : {fs : List Frame} {v : ExprTree} {at : ℕ} {limit : Option Told} {e : ExprTree} {n : ℕ} {lf : Option Told} {rest : List Token} (p : Token) (ts : List Token) → Is ">" p
      → Finishes around long (config fs (Value v) at limit (p ∷ ts)) e n lf rest → OpenEnd fs v (suc at) at limit n lf
  open_one {at = at} p [] g f = operates_from (suc at) p [] [] Greater (greater_sign p [] g tt) (omega arith) (omega arith) f
  open_one p (q ∷ ts) g f = open_one_by (joins p ">" q) (joins p "=" q) p q ts g refl refl f
