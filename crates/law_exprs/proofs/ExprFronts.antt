-- The readers of expressions and types go on from their places, or are refused there.
use Rattle.std.proofs.Common.{◌≡◌, inl, inr, ℕ, zero, suc, ◌+◌, ◌<◌, ◌≤◌, Bool, true, false, List, [], ◌∷◌, ◌++◌, length, drop, refl, sym, ap, subst, ◌∙◌, arith, le_refl}
use Rattle.std.specs.Prelude.{Option, Some, None, nat_lt}
use Rattle.std.proofs.lemmas.Bool.Decides.{nat_tests}
use Rattle.def_token.specs.Lexical.{Token}
use Rattle.def_tree.specs.ExprTree.{ExprTree}
use Rattle.def_tree.specs.Limits.{Nesting, args_entries}
use Rattle.def_tree.specs.ExprTree as tree
use Rattle.def_tree.specs.Expressions.{TakesTypeArgs}
use Rattle.def_tree.specs.TypeTree.{TypeTree, TypeTrees, NoTypes}
use Rattle.def_reading.specs.Cursor.{Told, Cursor, At, told_at, noted, before, before_by, earlier, earlier_by, FarthestFailure, reach_at, reach_by, told_by, further}
use Rattle.def_reading.specs.Machine.{Frame, Mode, Expected, Value, Step, On, Ends, Refused, nesting, step_at}
use Rattle.def_reading.specs.Try.{Reads, refused, ahead, expr_in, type_in, way_by, assign_ends, end_by, run_by, run, look_by, long_from, reach_in}
use Rattle.def_reading.specs.TypeAhead.{LookAhead, Found, Missing, type_ahead, taken_ahead}
use Rattle.def_reading.specs.TypeReading.{Ended}
use Rattle.law_types.proofs.AheadFaults.{Grows, same_limit, new_limit, grows_more}
use Rattle.law_machine.proofs.MachineComplete.{config}
use Rattle.law_machine.proofs.MachineGrows.{GrowsStep, GrowsTo, step_grows_at, Above, above_second}
use Rattle.law_machine.proofs.MachineKinds.{Kind, uniform, bare, without, generic, operates, ends, stuck, stuck_behind, exhausted, kind_of}
use Rattle.law_exprs.proofs.ExprHolds.{EndedStep, step_ended, run_holds, keeps_expr, keeps_type}
use Rattle.law_types.proofs.AheadStages.{PathLook, ended_alive, type_looks}
use Rattle.law_types.proofs.TypeStages.{Stage, Head, drive, some_pair}
use Rattle.law_types.proofs.AheadSound.{taken_found}
use Rattle.law_types.proofs.LimitSpots.{same_place}
use Rattle.law_exprs.proofs.TypeRises.{LookRises, type_rises}
use Rattle.law_exprs.proofs.TryComes.{Noted, noted_stays, noted_later, passed_noted}
use Rattle.law_exprs.proofs.TryFronts.{Rises, WayTo, Fronts, Good, way_is, good_refused}
use Rattle.law_exprs.proofs.TryHolds.{Holds, stop_way}

-- an expression is not too long before its first token
abbrev From : ℕ → Option Told → Type 0
From at None = Unit {0}
From at (Some told) = at ≤ told.at

told_from : (at n : ℕ) (tokens : List Token) → From at (told_at 112 (at + n) tokens)
told_from at n [] = tt
told_from at n (token ∷ tokens) = omega arith

none_before : (at : ℕ) (long : Option Told) → From at long → before at long ≡ None
none_before at None h = refl
none_before at (Some told) h = let no' : nat_lt told.at at ≡ false = grind (arith, nat_tests, h) in rw no' refl

earlier_grows_by : (b : Bool) (at : ℕ) (limit : Option Told) (this long : Told) → nat_lt long.at this.at ≡ b → Noted at limit → at ≤ long.at → Grows at limit (Some this) → Grows at limit (earlier_by b this long)
earlier_grows_by false at limit this long is n h g = g
earlier_grows_by true at limit this long is n h same_limit = let less : long.at < this.at = grind (arith, nat_tests, is) in absurd (omega (arith, less, n, h))
earlier_grows_by true at limit this long is n h (new_limit told none k) = new_limit long none h

before_grows : (b : Bool) (at : ℕ) (limit this : Option Told) (long : Told) → Noted at limit → at ≤ long.at → Grows at limit this → Grows at limit (earlier this (before_by b long))
before_grows false at limit None long n h g = g
before_grows false at limit (Some this) long n h g = g
before_grows true at limit None long n h same_limit = new_limit long refl h
before_grows true at limit (Some this) long n h g = earlier_grows_by (nat_lt long.at this.at) at limit this long refl n h g

-- the limit of length stands behind the beginning of the expression
earlier_grows : (at at' : ℕ) (limit this long : Option Told) → Noted at limit → From at long → Grows at limit this → Grows at limit (earlier this (before at' long))
earlier_grows at at' limit None None n h g = g
earlier_grows at at' limit (Some this) None n h g = g
earlier_grows at at' limit this (Some long) n h g = before_grows (nat_lt long.at at') at limit this long n h g

earlier_noted_by : (b : Bool) (at : ℕ) (this long : Told) → this.at ≤ at → long.at ≤ at → Noted at (earlier_by b this long)
earlier_noted_by true at this long h k = k
earlier_noted_by false at this long h k = h

before_noted_by : (b : Bool) (at : ℕ) (this : Option Told) (long : Told) → nat_lt long.at at ≡ b → Noted at this → Noted at (earlier this (before_by b long))
before_noted_by false at None long is h = tt
before_noted_by false at (Some this) long is h = h
before_noted_by true at None long is h = let less : long.at < at = grind (arith, nat_tests, is) in omega (arith, less)
before_noted_by true at (Some this) long is h =
    let less : long.at < at = grind (arith, nat_tests, is) in earlier_noted_by (nat_lt long.at this.at) at this long h (omega (arith, less))

pub earlier_noted : (at : ℕ) (this long : Option Told) → Noted at this → Noted at (earlier this (before at long))
earlier_noted at None None h = tt
earlier_noted at (Some this) None h = h
earlier_noted at this (Some long) h = before_noted_by (nat_lt long.at at) at this long refl h

pub noted_up : (at at' : ℕ) (limit : Option Told) → at ≤ at' → Noted at limit → Noted at' limit
noted_up at at' None h n = tt
noted_up at at' (Some told) h n = omega (arith, h, n)

abbrev NotedAt : Cursor → Type 0
NotedAt (At at limit ts) = Noted at limit

abbrev NotedStep : Step → Type 0
NotedStep (On other c) = NotedAt c.place
NotedStep (Ends e place) = NotedAt place
NotedStep (Refused place) = Unit {0}

found_place : (look : LookAhead TypeTrees) (args : TypeTrees) (p q : Cursor) → look ≡ Found args p → look ≡ Found args q → p ≡ q
found_place look args p q h k = cc

generic_noted : (types at : ℕ) (limit : Option Told) (ts rest : List Token) (args : TypeTrees) (at' : ℕ) (limit' : Option Told) → Noted at limit → TakesTypeArgs ts args rest
    → taken_ahead types at limit ts ≡ Found args (At at' limit' rest) → Noted at' limit'
generic_noted types at limit ts rest args at' limit' n takes is =
    let f = taken_found takes types at limit in
    let same = same_place (found_place (taken_ahead types at limit ts) args (At f.at f.limit rest) (At at' limit' rest) f.found is) in
    subst (λ l. Noted at' l) same.1 (subst (λ k. Noted k f.limit) same.0 (passed_noted (args_entries types args) at limit ts n f.passes))

module _ (around : Nesting) (long : Option Told) where
  step_noted : {fs : List Frame} {mode : Mode} {at : ℕ} {limit : Option Told} {ts : List Token} {s : Step} → Kind around long fs mode at limit ts s → GrowsStep at limit ts s → Noted at limit → NotedStep s
  step_noted (uniform {at = at} {limit = limit} {t = t} fs' mode' e no_end fits each) g n = noted_later (noted limit e at t) at (noted_stays limit e at t n)
  step_noted (bare {at = at} {limit = limit} h l) g n = noted_later limit at n
  step_noted (without {at = at} {limit = limit} h l none at' limit' rest look) g n = noted_later limit at n
  step_noted (generic {fs = fs} {at = at} {limit = limit} {ts = ts} h l args at' limit' rest takes look) g n =
      generic_noted (nesting around fs).types (suc at) limit ts rest args at' limit' (noted_later limit at n) takes look
  step_noted (operates {at = at} {limit = limit} op behind next sign passes) g n = noted_up at next limit (omega (arith, g.0)) n
  step_noted (ends w end') g n = n
  step_noted (stuck each) g n = tt
  step_noted (stuck_behind p q others w g' j k are) g n = tt
  step_noted exhausted g n = tt

module _ (around : Nesting) (assigns' : Bool) (long : Option Told) (from : ℕ) (start : Option Told) (noted' : Noted from start) (after : From from long) where
  -- where an expression that begins at a place has come
  abbrev Rising : ℕ → Option Told → Type 0
  Rising at limit = (from ≤ at) × Grows from start limit × Noted at limit

  abbrev RunRises : ℕ → Type 0
  RunRises turns = (reach : Option FarthestFailure) (fs : List Frame) (mode : Mode) (at : ℕ) (limit : Option Told) (ts : List Token) → Rising at limit → Rises from start (run around assigns' long turns reach (config fs mode at limit ts))

  end_rises : (b : Bool) (reach : Option FarthestFailure) (e : ExprTree) (at : ℕ) (limit : Option Told) (ts : List Token) → Rising at limit → Rises from start (end_by around assigns' long b reach e (At at limit ts))
  end_rises true reach e at limit ts h = tt
  end_rises false reach e at limit ts h = (h.0, earlier_grows from at start limit long noted' after h.1, earlier_noted at limit long h.2)

  on_rises : (turns : ℕ) (reach : Option FarthestFailure) (fs : List Frame) (mode : Mode) (place : Cursor) (at : ℕ) (limit : Option Told) → Rising at limit → GrowsTo at limit place → NotedAt place → RunRises turns
      → Rises from start (run around assigns' long turns reach (record { frames = fs; mode = mode; place = place }))
  on_rises turns reach fs mode (At at' limit' rest) at limit h g n rises =
      rises reach fs mode at' limit' rest (omega (arith, h.0, g.0), grows_more from at start limit limit' h.0 h.1 g.1, n)

  step_rises : (turns : ℕ) (reach : Option FarthestFailure) (mode : Mode) (at : ℕ) (limit : Option Told) (ts : List Token) (s : Step) → Rising at limit → GrowsStep at limit ts s → NotedStep s → RunRises turns
      → Rises from start (run_by around assigns' long (run around assigns' long turns) mode reach s)
  step_rises turns reach mode at limit ts (On other c) h g n rises = on_rises turns (further reach (way_by assigns' mode other)) c.frames c.mode c.place at limit h g n rises
  step_rises turns reach mode at limit ts (Ends e place) h g n rises =
      subst (λ place. Rises from start (end_by around assigns' long (assign_ends assigns' (ahead place)) reach e place)) (sym g) (end_rises (assign_ends assigns' ts) reach e at limit ts h)
  step_rises turns reach mode at limit ts (Refused place) h g n rises = tt

  run_rises : (turns : ℕ) → RunRises turns
  run_rises zero reach fs mode at limit ts h = tt
  run_rises (suc turns) reach fs mode at limit ts h =
      let g = step_grows_at around long mode fs at limit ts in
      step_rises turns reach mode at limit ts (step_at around long mode fs (At at limit ts)) h g (step_noted around long (kind_of around long mode fs at limit ts) g h.2) (run_rises turns)

module _ (around : Nesting) (assigns' : Bool) (long : Option Told) where
  -- the first step of an expression
  front_by : {at : ℕ} {limit : Option Told} {ts : List Token} {s : Step} (turns : ℕ) (reach : Option FarthestFailure) (mode : Mode) → Kind around long [] Expected at limit ts s → GrowsStep at limit ts s → Ended ts → EndedStep at s → From at long
      → (w : FarthestFailure) → WayTo at limit ts w → Holds w (run_by around assigns' long (run around assigns' long turns) mode reach s)
  front_by turns reach mode (uniform {at = at} {limit = limit} {t = t} {ts = ts} fs' mode' e no_end fits each) g end ended f w way =
      run_holds around assigns' long turns w (further reach (way_by assigns' mode None)) fs' mode' (suc at) (noted limit e at t) ts ended (inr (omega (arith, way.many)))
  front_by turns reach mode (bare {at = at} {limit = limit} {t = t} {ts = ts} h l) g end ended f w way =
      run_holds around assigns' long turns w (further reach (way_by assigns' mode None)) [] (Value (tree.Name t NoTypes)) (suc at) limit ts ended (inr (omega (arith, way.many)))
  front_by turns reach mode (without {at = at} {limit = limit} {t = t} {ts = ts} h l none at' limit' rest look) g end ended f w way =
      run_holds around assigns' long turns w (further reach (way_by assigns' mode (reach_at long at' (At at' limit' rest)))) [] (Value (tree.Name t NoTypes)) (suc at) limit ts ended (inr (omega (arith, way.many)))
  front_by turns reach mode (generic {at = at} {limit = limit} {t = t} {ts = ts} h l args at' limit' rest takes look) g end ended f w way =
      run_holds around assigns' long turns w (further reach (way_by assigns' mode None)) [] (Value (tree.Name t args)) at' limit' rest ended (inr (omega (arith, way.many, g.0)))
  front_by turns reach mode (stuck {at = at} {limit = limit} {t = t} {ts = ts} each) g end ended f w way =
      let same : reach_in long (At at (before at limit) (t ∷ ts)) ≡ Some w =
      ap (λ l. reach_by at (told_by (earlier (before at limit) l) at (t ∷ ts))) (none_before at long f) ∙ way_is at limit (t ∷ ts) w way in
      subst (λ o. Above w (further reach o)) (sym same) (above_second reach w)
  front_by turns reach mode exhausted g end ended f w way = absurd end

pub good_expr : (assigns' : Bool) (around : Nesting) → Good (expr_in assigns' around)
good_expr assigns' around =
    record {
      keeps = keeps_expr assigns' around;
      rises = λ at limit tokens reach n.
          run_rises around assigns' (long_from (At at limit tokens)) at limit n (told_from at 1024 (drop 1024 tokens)) (suc (length tokens)) reach [] Expected at limit tokens (le_refl at, same_limit, n);
      fronts = λ at limit tokens reach e.
          let long = long_from (At at limit tokens) in
          let kind = kind_of around long Expected [] at limit tokens in
          inl (front_by around assigns' long (length tokens) reach Expected kind (step_grows_at around long Expected [] at limit tokens) e (step_ended around long kind e) (told_from at 1024 (drop 1024 tokens)));
    }

-- types
look_rises : (at : ℕ) (limit : Option Told) (reach : Option FarthestFailure) (look : LookAhead TypeTree) → LookRises at limit look → Rises at limit (look_by reach look)
look_rises at limit reach (Found type (At at' limit' rest)) h = h
look_rises at limit reach (Missing place) h = tt

-- what has no tokens stands at the place
alive_here : (stage stage' : Stage) (at at' : ℕ) (limit limit' : Option Told) (ts rest piece : List Token) → piece ≡ [] → ts ≡ piece ++ rest → at' ≡ at + length piece → drive stage at limit piece ≡ Some (stage', limit') → At at' limit' rest ≡ At at limit ts
alive_here stage stage' at at' limit limit' ts rest [] none are is h =
    ap (λ at. At at limit' rest) (is ∙ omega arith) ∙ ap (λ l. At at l rest) (sym (some_pair stage stage' limit limit' h).1) ∙ ap (At at limit) (sym are)
alive_here stage stage' at at' limit limit' ts rest (t ∷ piece) none are is h = absurd (cc)

found_front : (at : ℕ) (limit : Option Told) (ts : List Token) (reach : Option FarthestFailure) (type : TypeTree) (at' : ℕ) (limit' : Option Told) (rest piece : List Token) → (piece ≡ [] → At at' limit' rest ≡ At at limit ts) → at' ≡ at + length piece → Ended rest
    → Fronts at limit ts (Reads type (At at' limit' rest) reach)
found_front at limit ts reach type at' limit' rest [] here is e = inr (record { tree = type; reach = reach; is = ap (λ place. Reads type place reach) (here refl) })
found_front at limit ts reach type at' limit' rest (t ∷ piece) here is e = inl (λ w way. (e, inr (omega (arith, is, way.many))))

missing_front : (at : ℕ) (limit : Option Told) (ts : List Token) (reach : Option FarthestFailure) (at' : ℕ) (limit' : Option Told) (rest piece : List Token) → (piece ≡ [] → At at' limit' rest ≡ At at limit ts) → at' ≡ at + length piece → Ended ts → Ended rest
    → Fronts {A = TypeTree} at limit ts (refused reach (At at' limit' rest))
missing_front at limit ts reach at' limit' rest [] here is e f =
    subst (λ place. Fronts {A = TypeTree} at limit ts (refused reach place)) (sym (here refl)) ((good_refused TypeTree).fronts at limit ts reach e)
missing_front at limit ts reach at' limit' rest (t ∷ piece) here is e f =
    inl (λ w way. stop_way w None 0 at' (before at' limit') rest reach f (inr (omega (arith, is, way.many))))

look_fronts : (at : ℕ) (limit : Option Told) (types : ℕ) (ts : List Token) (reach : Option FarthestFailure) (look : LookAhead TypeTree) → Ended ts → PathLook types zero (Head types zero) at limit ts look → Fronts at limit ts (look_by reach look)
look_fronts at limit types ts reach (Found type (At at' limit' rest)) e p =
    let a = p.alive in
    found_front at limit ts reach type at' limit' rest a.piece (λ none. alive_here (Head types zero) p.stage' at at' limit limit' ts rest a.piece none a.are a.is_at a.drives.is) a.is_at (ended_alive a e)
look_fronts at limit types ts reach (Missing (At at' limit' rest)) e p =
    let a = p.alive in
    missing_front at limit ts reach at' limit' rest a.piece (λ none. alive_here (Head types zero) p.stage' at at' limit limit' ts rest a.piece none a.are a.is_at a.drives.is) a.is_at e (ended_alive a e)

looks : (types at : ℕ) (limit : Option Told) (ts : List Token) (e : Ended ts) → PathLook types zero (Head types zero) at limit ts (type_ahead (length ts) types (At at limit ts))
looks types at limit ts e = type_looks (length ts) types zero at limit ts (le_refl (length ts)) e

pub good_type : (around : Nesting) → Good (type_in around)
good_type around =
    record {
      keeps = keeps_type around;
      rises = λ at limit tokens reach n. look_rises at limit reach (type_ahead (length tokens) around.types (At at limit tokens)) (type_rises (length tokens) around.types at limit tokens n);
      fronts = λ at limit tokens reach e. look_fronts at limit around.types tokens reach (type_ahead (length tokens) around.types (At at limit tokens)) e (looks around.types at limit tokens e);
    }
