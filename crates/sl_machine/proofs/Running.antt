-- Where the machine has come, beside the one on lists.
use Rattle.std.proofs.Common.{◌≡◌, ℕ, zero, suc, ◌<◌, ◌≤◌, Bool, true, false, List, [], ◌∷◌, length, drop, refl, sym, ap, subst, ◌∙◌, arith, codes}
use Rattle.std.specs.Prelude.{Option, Some, None, nat_lt, Result, Ok, Err}
use Rattle.std.specs.Option.{option_map}
use Rattle.std.specs.Str.{bytes_eq}
use Rattle.std.proofs.lemmas.Bool.Decides.{nat_tests}
use Rattle.std.proofs.lemmas.List.{length-map}
use Rattle.def_token.specs.Lexical as lexical
use Rattle.def_tree.specs.ExprTree.{ExprTree as Tree}
use Rattle.def_tree.specs.Limits.{Nesting, plain}
use Rattle.def_tree.specs.Operator.{sign_at}
use Rattle.def_tree.specs.Statements.{is_call}
use Rattle.def_reading.specs.Machine as machine
use Rattle.def_reading.specs.Machine.{Config, Step, On, Ends, Refused, step_at}
use Rattle.def_reading.specs.Cursor as places
use Rattle.def_reading.specs.Cursor.{Told, At, before, before_by, earlier, earlier_by, further}
use Rattle.def_reading.specs.Plain.{plain_by, plain_tree, plain_step, plain_try}
use Rattle.def_reading.specs.Try as lists
use Rattle.def_reading.specs.Try.{Try, Reads, Stops, ahead, long_from, assign_ends, end_by, refused_in, run, run_by, way_by}
use Rattle.law_types.proofs.AheadFaults.{Grows, same_limit, new_limit}
use Rattle.law_machine.proofs.MachineGrows.{GrowsStep, step_grows_at}
use Rattle.law_machine.proofs.MachineRun.{Shortens, step_shorter}
use Rattle.law_machine.proofs.MachineStays.{IsFurther, StaysStep, step_stays}
use Rattle.law_machine.proofs.PlainRuns.{run_by_plain, run_plain}
use Rattle.sl_token.specs.View.{token_in, tokens_in}
use Rattle.sl_tree.specs.View.{expr_in}
use Rattle.sl_tree.specs.declared.expressions.ExprTree.{ExprTree}
use Rattle.sl_machine.specs.Framed.{frames_in}
use Rattle.sl_machine.specs.Kept.{IsAlike, IsFree}
use Rattle.sl_look.specs.Looks.{limit_at}
use Rattle.sl_machine.specs.Runs.{config_in, IsEnd, IsWithinLimits}
use Rattle.sl_cursor.specs.Seen.{place_in, reach_in, told_in}
use Rattle.sl_machine.specs.Steps.{mode_in, step_in}
use Rattle.sl_cursor.specs.Tries.{IsCallToo, IsIn, Tries, on_lists}
use Rattle.sl_machine.specs.declared.frames.Frame.{Frame}
use Rattle.sl_machine.specs.declared.machine.Mode.{Mode}
use Rattle.sl_machine.specs.declared.machine.Step.TheVariants as step
use Rattle.sl_cursor.specs.declared.cursor.Cursor.{Cursor}
use Rattle.sl_cursor.specs.declared.cursor.FarthestFailure.{FarthestFailure}
use Rattle.sl_cursor.specs.declared.cursor.Told.{Told as Kept}
use Rattle.sl_cursor.specs.declared.source.Here.{Here}
use Rattle.sl_cursor.specs.declared.source.Source.{Source}
use Rattle.sl_cursor.specs.declared.source.Unread.{Unread}
use Rattle.sl_cursor.specs.declared.source.Unread.TheVariants as unread
use Rattle.sl_look.proofs.Typing.{Follows, followed, in_followed}

-- limits that do not end before a place

earlier_none : (limit other : Option Told) → earlier limit other ≡ None → (limit ≡ None) × (other ≡ None)
earlier_none None other h = (refl, h)
earlier_none (Some told) None h = absurd (cc)
earlier_none (Some told) (Some other) h = absurd (some_by (nat_lt other.at told.at) told other h)
  where
    some_by : (b : Bool) (told other : Told) → earlier_by b told other ≡ None → ⊥
    some_by true told other h = cc
    some_by false told other h = cc

grown_none : (at : ℕ) (limit limit' : Option Told) → Grows at limit limit' → limit' ≡ None → limit ≡ None
grown_none at limit limit' same_limit h = h
grown_none at limit limit' (new_limit told is k) h = is

before_less_by : (b : Bool) (told : Told) (at at' : ℕ) → nat_lt told.at at' ≡ b → at ≤ at' → before_by b told ≡ None → before at (Some told) ≡ None
before_less_by true told at at' is h n = absurd (cc)
before_less_by false told at at' is h n = let no' : nat_lt told.at at ≡ false = grind (arith, nat_tests) in rw no' refl

before_less : (long : Option Told) (at at' : ℕ) → at ≤ at' → before at' long ≡ None → before at long ≡ None
before_less None at at' h n = refl
before_less (Some told) at at' h n = before_less_by (nat_lt told.at at') told at at' refl h n

within_less : (long : Option Told) (at at' : ℕ) (limit limit' : Option Told) → at ≤ at' → Grows at limit limit' → earlier limit' (before at' long) ≡ None
    → earlier limit (before at long) ≡ None
within_less long at at' limit limit' h g w =
    let parts = earlier_none limit' (before at' long) w in
    ap (λ l. earlier l (before at long)) (grown_none at limit limit' g parts.0) ∙ before_less long at at' h parts.1

-- what holds of steps that are the same where they are plain
along : (Q : Step → Type 0) → ((s : Step) → Q s → Q (plain_step s)) → ((s : Step) → Q (plain_step s) → Q s) → (s t : Step) → plain_step s ≡ plain_step t → Q s → Q t
along Q to from s t h q = from t (subst Q h (to s q))

shortens_to : (n : ℕ) (s : Step) → Shortens n s → Shortens n (plain_step s)
shortens_to n (On other c) q = q
shortens_to n (Ends e p) q = q
shortens_to n (Refused p) q = q

shortens_from : (n : ℕ) (s : Step) → Shortens n (plain_step s) → Shortens n s
shortens_from n (On other c) q = q
shortens_from n (Ends e p) q = q
shortens_from n (Refused p) q = q

stays_to : (at : ℕ) (ts : List lexical.Token) (s : Step) → StaysStep at ts s → StaysStep at ts (plain_step s)
stays_to at ts (On other c) q = q
stays_to at ts (Ends e p) q = q
stays_to at ts (Refused p) q = q

stays_from : (at : ℕ) (ts : List lexical.Token) (s : Step) → StaysStep at ts (plain_step s) → StaysStep at ts s
stays_from at ts (On other c) q = q
stays_from at ts (Ends e p) q = q
stays_from at ts (Refused p) q = q

grows_to : (at : ℕ) (limit : Option Told) (ts : List lexical.Token) (s : Step) → GrowsStep at limit ts s → GrowsStep at limit ts (plain_step s)
grows_to at limit ts (On other c) q = q
grows_to at limit ts (Ends e p) q = q
grows_to at limit ts (Refused p) q = q

grows_from : (at : ℕ) (limit : Option Told) (ts : List lexical.Token) (s : Step) → GrowsStep at limit ts (plain_step s) → GrowsStep at limit ts s
grows_from at limit ts (On other c) q = q
grows_from at limit ts (Ends e p) q = q
grows_from at limit ts (Refused p) q = q

-- the step on lists, here
abbrev pub step_here : List ℕ → Nesting → Option Told → List Frame → Mode → Cursor → Step
step_here bytes around long frames mode place = step_at around long (mode_in bytes mode) (frames_in bytes frames) (place_in bytes place)

-- a step that is made here
abbrev pub Made : List ℕ → Nesting → Option Told → List Frame → Mode → Cursor → Step → Type 0
Made bytes around long frames mode place made = IsAlike (IsWithinLimits long (place_in bytes place)) made (step_here bytes around long frames mode place)

made_grows : (bytes : List ℕ) (around : Nesting) (long : Option Told) (frames : List Frame) (mode : Mode) (place : Cursor) (made : Step) → Made bytes around long frames mode place made
    → GrowsStep place.at (option_map (told_in bytes) place.limit) (tokens_in bytes place.rest.now) made
made_grows bytes around long frames mode place made a =
    let limit = option_map (told_in bytes) place.limit in
    let ts = tokens_in bytes place.rest.now in
    along (GrowsStep place.at limit ts) (grows_to place.at limit ts) (grows_from place.at limit ts) (step_here bytes around long frames mode place) made (sym a.alike)
    (step_grows_at around long (mode_in bytes mode) (frames_in bytes frames) place.at limit ts)

-- the place where a step leads stands among the tokens
pub made_further : (bytes : List ℕ) (around : Nesting) (long : Option Told) (frames frames' : List Frame) (mode next : Mode) (place behind : Cursor) (other : Option FarthestFailure)
    → Made bytes around long frames mode place (step_in bytes frames' (step.On other next behind)) → IsFurther place.at (tokens_in bytes place.rest.now) behind.at (tokens_in bytes behind.rest.now)
made_further bytes around long frames frames' mode next place behind other a =
    let limit = option_map (told_in bytes) place.limit in
    let ts = tokens_in bytes place.rest.now in
    let made = step_in bytes frames' (step.On other next behind) in
    along (StaysStep place.at ts) (stays_to place.at ts) (stays_from place.at ts) (step_here bytes around long frames mode place) made (sym a.alike)
    (step_stays around long (mode_in bytes mode) (frames_in bytes frames) place.at limit ts)

-- fewer tokens are left there
made_shorter : (bytes : List ℕ) (around : Nesting) (long : Option Told) (frames frames' : List Frame) (mode next : Mode) (place behind : Cursor) (other : Option FarthestFailure)
    → Made bytes around long frames mode place (step_in bytes frames' (step.On other next behind)) → length (tokens_in bytes behind.rest.now) < length (tokens_in bytes place.rest.now)
made_shorter bytes around long frames frames' mode next place behind other a =
    let n = length (tokens_in bytes place.rest.now) in
    let made = step_in bytes frames' (step.On other next behind) in
    along (Shortens n) (shortens_to n) (shortens_from n) (step_here bytes around long frames mode place) made (sym a.alike)
    (step_shorter around long (config_in bytes frames mode place))

-- what is read is what the machine on lists comes to in enough turns, up to trees; and all of it where no limit ends before
-- the place where it has come
pub record HasRun (source : Source) (around : Nesting) (assigns : Bool) (long : Option Told) (here : Here) (reach : Option FarthestFailure) (frames : List Frame) (mode : Mode) (place : Cursor) : Type 0 where
  pub turns : ℕ
  pub enough : length place.rest.now < turns
  pub alike : plain_try (on_lists source (lists.expr_in assigns around) here)
      ≡ plain_try (run around assigns long turns (option_map (reach_in source.bytes.now) reach) (config_in source.bytes.now frames mode place))
  pub same : IsWithinLimits long (place_in source.bytes.now place) → on_lists source (lists.expr_in assigns around) here
      ≡ run around assigns long turns (option_map (reach_in source.bytes.now) reach) (config_in source.bytes.now frames mode place)
  pub rises : IsWithinLimits long (place_in source.bytes.now place) → here.place.limit ≡ None
  pub stands : IsIn source place

-- it begins
within_free : (bytes : List ℕ) (long : Option Told) (place : Cursor) → IsWithinLimits long (place_in bytes place) → place.limit ≡ None
within_free bytes long place w = none_here place.limit (earlier_none (option_map (told_in bytes) place.limit) (before place.at long) w).0
  where
    none_here : (limit : Option Kept) → option_map (told_in bytes) limit ≡ None → limit ≡ None
    none_here None h = refl
    none_here (Some told) h = absurd (cc)

pub run_begins : (source : Source) (around : Nesting) (assigns : Bool) (long : Option Told) (here : Here) (frames : List Frame) (mode : Mode) → frames ≡ [] → mode_in source.bytes.now mode ≡ machine.Expected
    → long ≡ long_from (place_in source.bytes.now here.place) → IsIn source here.place → HasRun source around assigns long here here.reach frames mode here.place
run_begins source around assigns long here frames mode none expected is i =
    let bytes = source.bytes.now in
    let turns = suc (length (tokens_in bytes here.place.rest.now)) in
    let reach = option_map (reach_in bytes) here.reach in
    let at : List machine.Frame → machine.Mode → Config = λ fs mode. record { frames = fs; mode = mode; place = place_in bytes here.place } in
    let begins : on_lists source (lists.expr_in assigns around) here ≡ run around assigns long turns reach (config_in bytes frames mode here.place) =
    ap (λ long. run around assigns long turns reach (at [] machine.Expected)) (sym is)
    ∙ ap (λ mode. run around assigns long turns reach (at [] mode)) (sym expected)
    ∙ ap (λ frames. run around assigns long turns reach (at (frames_in bytes frames) (mode_in bytes mode))) (sym none) in
    record {
      turns = turns;
      enough = omega (arith, length-map here.place.rest.now (token_in bytes));
      alike = ap plain_try begins;
      same = λ w. begins;
      rises = λ w. within_free bytes long here.place w;
      stands = i;
    }

-- it goes on
record Turned (source : Source) (around : Nesting) (assigns : Bool) (long : Option Told) (start : Try Tree) (place : Cursor) (reach' : Option places.FarthestFailure) (config' : Config) : Type 0 where
  turns : ℕ
  enough : length place.rest.now < suc turns
  alike : plain_try start ≡ plain_try (run around assigns long turns reach' config')
  same : IsWithinLimits long (place_in source.bytes.now place) → IsWithinLimits long config'.place → start ≡ run around assigns long turns reach' config'

one_turn : (source : Source) (around : Nesting) (assigns : Bool) (long : Option Told) (start : Try Tree) (turns : ℕ) (reach : Option places.FarthestFailure) (frames frames' : List Frame) (mode next : Mode) (place behind : Cursor) (other : Option FarthestFailure)
    → length place.rest.now < turns → plain_try start ≡ plain_try (run around assigns long turns reach (config_in source.bytes.now frames mode place))
    → (IsWithinLimits long (place_in source.bytes.now place) → start ≡ run around assigns long turns reach (config_in source.bytes.now frames mode place))
    → Made source.bytes.now around long frames mode place (step_in source.bytes.now frames' (step.On other next behind))
    → Turned source around assigns long start place (further reach (way_by assigns (mode_in source.bytes.now mode) (option_map (reach_in source.bytes.now) other))) (config_in source.bytes.now frames' next behind)
one_turn source around assigns long start zero reach frames frames' mode next place behind other few alike same a = absurd (omega (arith, few))
one_turn source around assigns long start (suc turns) reach frames frames' mode next place behind other few alike same a =
    let bytes = source.bytes.now in
    let made = step_in bytes frames' (step.On other next behind) in
    let given = step_here bytes around long frames mode place in
    record {
      turns = turns;
      enough = few;
      alike = alike ∙ run_by_plain around assigns long (run around assigns long turns) (mode_in bytes mode) (mode_in bytes mode) reach given made refl (sym a.alike) (run_plain around assigns long turns);
      same = λ w w'. same w ∙ ap (run_by around assigns long (run around assigns long turns) (mode_in bytes mode) reach)
          (sym (a.same w (earlier_none (option_map (told_in bytes) behind.limit) (before behind.at long) w').0));
    }

pub run_goes_on : (source : Source) (around : Nesting) (assigns : Bool) (long : Option Told) (here : Here) (reach reach' : Option FarthestFailure) (frames frames' : List Frame) (mode next : Mode) (place behind place' : Cursor) (other : Option FarthestFailure)
    → HasRun source around assigns long here reach frames mode place
    → Made source.bytes.now around long frames mode place (step_in source.bytes.now frames' (step.On other next behind)) → Follows place behind place'
    → option_map (reach_in source.bytes.now) reach' ≡ further (option_map (reach_in source.bytes.now) reach) (way_by assigns (mode_in source.bytes.now mode) (option_map (reach_in source.bytes.now) other))
    → HasRun source around assigns long here reach' frames' next place'
run_goes_on source around assigns long here reach reach' frames frames' mode next place behind place' other h a f r =
    let bytes = source.bytes.now in
    let further' = made_further bytes around long frames frames' mode next place behind other a in
    let there : place_in bytes behind ≡ place_in bytes place' = followed bytes place behind place' further' f in
    let t = one_turn source around assigns long (on_lists source (lists.expr_in assigns around) here) h.turns (option_map (reach_in bytes) reach) frames frames' mode next place behind other h.enough h.alike h.same a in
    let to : run around assigns long t.turns (further (option_map (reach_in bytes) reach) (way_by assigns (mode_in bytes mode) (option_map (reach_in bytes) other))) (config_in bytes frames' next behind)
    ≡ run around assigns long t.turns (option_map (reach_in bytes) reach') (config_in bytes frames' next place') =
    ap (λ reach. run around assigns long t.turns reach (config_in bytes frames' next behind)) (sym r)
    ∙ ap (λ place. run around assigns long t.turns (option_map (reach_in bytes) reach') (record { frames = frames_in bytes frames'; mode = mode_in bytes next; place = place })) there in
    let grows = made_grows bytes around long frames mode place (step_in bytes frames' (step.On other next behind)) a in
    let back : IsWithinLimits long (place_in bytes place') → IsWithinLimits long (place_in bytes behind) = λ w. subst (IsWithinLimits long) (sym there) w in
    let before' : IsWithinLimits long (place_in bytes place') → IsWithinLimits long (place_in bytes place) =
    λ w. within_less long place.at behind.at (option_map (told_in bytes) place.limit) (option_map (told_in bytes) behind.limit) (omega (arith, grows.0)) grows.1 (back w) in
    record {
      turns = t.turns;
      enough = omega (
        arith,
        t.enough,
        made_shorter bytes around long frames frames' mode next place behind other a,
        length-map place.rest.now (token_in bytes),
        length-map behind.rest.now (token_in bytes),
        ap length (ap ahead there),
        length-map place'.rest.now (token_in bytes),
      );
      alike = t.alike ∙ ap plain_try to;
      same = λ w. t.same (before' w) (back w) ∙ to;
      rises = λ w. h.rises (before' w);
      stands = in_followed source place behind place' h.stands further' f;
    }

-- fewer tokens are left each time
pub run_shrinks : (bytes : List ℕ) (around : Nesting) (long : Option Told) (frames frames' : List Frame) (mode next : Mode) (place behind place' : Cursor) (other : Option FarthestFailure)
    → Made bytes around long frames mode place (step_in bytes frames' (step.On other next behind)) → Follows place behind place' → length place'.rest.now < length place.rest.now
run_shrinks bytes around long frames frames' mode next place behind place' other a f =
    let there : place_in bytes behind ≡ place_in bytes place' = followed bytes place behind place' (made_further bytes around long frames frames' mode next place behind other a) f in
    omega (
      arith,
      made_shorter bytes around long frames frames' mode next place behind other a,
      length-map place.rest.now (token_in bytes),
      length-map behind.rest.now (token_in bytes),
      ap length (ap ahead there),
      length-map place'.rest.now (token_in bytes),
    )

-- it ends

-- what is read, where this is what it comes to
record Comes (long : Option Told) (start given : Try Tree) (place : places.Cursor) : Type 0 where
  alike : plain_try start ≡ plain_try given
  same : IsWithinLimits long place → start ≡ given

last_turn : (around : Nesting) (assigns : Bool) (long : Option Told) (start : Try Tree) (turns many : ℕ) (reach : Option places.FarthestFailure) (config : Config) (made : Step) (given : Try Tree) → many < turns
    → plain_try start ≡ plain_try (run around assigns long turns reach config) → (IsWithinLimits long config.place → start ≡ run around assigns long turns reach config)
    → IsAlike (IsWithinLimits long config.place) made (step_at around long config.mode config.frames config.place) → IsFree made
    → ((more : Option places.FarthestFailure → Config → Try Tree) → run_by around assigns long more config.mode reach made ≡ given) → Comes long start given config.place
last_turn around assigns long start zero many reach config made given few alike same a free is = absurd (omega (arith, few))
last_turn around assigns long start (suc turns) many reach config made given few alike same a free is =
    let s = step_at around long config.mode config.frames config.place in
    record {
      alike = alike ∙ run_by_plain around assigns long (run around assigns long turns) config.mode config.mode reach s made refl (sym a.alike) (run_plain around assigns long turns)
          ∙ ap plain_try (is (run around assigns long turns));
      same = λ w. same w ∙ ap (run_by around assigns long (run around assigns long turns) config.mode reach) (sym (a.same w free)) ∙ is (run around assigns long turns);
    }

-- a call where a tree is plain is one
call_by : (b : Bool) → is_call (plain_by b) ≡ b
call_by true = refl
call_by false = refl

call_same : (tree other : Tree) → plain_tree tree ≡ plain_tree other → is_call tree ≡ is_call other
call_same tree other h = sym (call_by (is_call tree)) ∙ ap is_call h ∙ call_by (is_call other)

-- what is read where something is read
record IsRead' (start : Try Tree) (expr : Tree) (place : places.Cursor) (reach : Option places.FarthestFailure) : Type 0 where
  tree : Tree
  is : start ≡ Reads tree place reach
  call : is_call tree ≡ is_call expr

reads_too : (start : Try Tree) (expr : Tree) (place : places.Cursor) (reach : Option places.FarthestFailure) → plain_try start ≡ Reads (plain_tree expr) place reach → IsRead' start expr place reach
reads_too (Reads tree place' reach') expr place reach h =
    let p : place' ≡ place = cc in
    let r : reach' ≡ reach = cc in
    record { tree = tree; is = ap (λ p. Reads tree p reach') p ∙ ap (Reads tree place) r; call = call_same tree expr (let e : plain_tree tree ≡ plain_tree expr = cc in e) }
reads_too (Stops reach') expr place reach h = absurd (cc)

stops_too : (start : Try Tree) (reach : Option places.FarthestFailure) → plain_try start ≡ Stops reach → start ≡ Stops reach
stops_too (Reads tree place' reach') reach h = absurd (cc)
stops_too (Stops reach') reach h = h

-- where the expression is refused
pub run_refused : (source : Source) (around : Nesting) (assigns : Bool) (long : Option Told) (here : Here) (reach result : Option FarthestFailure) (frames frames' : List Frame) (mode : Mode) (place behind : Cursor)
    → HasRun source around assigns long here reach frames mode place → Made source.bytes.now around long frames mode place (step_in source.bytes.now frames' (step.Refused behind))
    → Stops (option_map (reach_in source.bytes.now) result) ≡ refused_in around assigns long (option_map (reach_in source.bytes.now) reach) (place_in source.bytes.now behind)
    → on_lists source (lists.expr_in assigns around) here ≡ Stops (option_map (reach_in source.bytes.now) result)
run_refused source around assigns long here reach result frames frames' mode place behind h a r =
    let bytes = source.bytes.now in
    let start = on_lists source (lists.expr_in assigns around) here in
    let c = last_turn around assigns long start h.turns (length place.rest.now) (option_map (reach_in bytes) reach) (config_in bytes frames mode place) (step_in bytes frames' (step.Refused behind))
    (Stops (option_map (reach_in bytes) result)) h.enough h.alike h.same a tt (λ more. sym r) in
    stops_too start (option_map (reach_in bytes) result) c.alike

-- the limit behind an expression
end_limit : (around : Nesting) (assigns : Bool) (long : Option Told) (b : Bool) (reach : Option places.FarthestFailure) (e e' : Tree) (at : ℕ) (limit : Option Told) (ts : List lexical.Token) (place : places.Cursor) (reach' : Option places.FarthestFailure)
    → end_by around assigns long b reach e (At at limit ts) ≡ Reads e' place reach' → At at (earlier limit (before at long)) ts ≡ place
end_limit around assigns long true reach e e' at limit ts place reach' h = absurd (cc)
end_limit around assigns long false reach e e' at limit ts place reach' h = cc

-- what it comes to at its end
abbrev pub end_here : Source → Nesting → Bool → Option Told → Option FarthestFailure → ExprTree → Cursor → Try Tree
end_here source around assigns long reach expr place =
    end_by around assigns long (assign_ends assigns (tokens_in source.bytes.now place.rest.now)) (option_map (reach_in source.bytes.now) reach) (expr_in source.bytes.now expr) (place_in source.bytes.now place)

comes_end : (source : Source) (around : Nesting) (assigns : Bool) (long : Option Told) (here : Here) (reach : Option FarthestFailure) (frames frames' : List Frame) (mode : Mode) (place behind : Cursor) (expr : ExprTree)
    → HasRun source around assigns long here reach frames mode place → Made source.bytes.now around long frames mode place (step_in source.bytes.now frames' (step.Ends expr behind))
    → Comes long (on_lists source (lists.expr_in assigns around) here) (end_here source around assigns long reach expr place) (place_in source.bytes.now place)
comes_end source around assigns long here reach frames frames' mode place behind expr h a =
    let bytes = source.bytes.now in
    let made = step_in bytes frames' (step.Ends expr behind) in
    let there : place_in bytes behind ≡ place_in bytes place = made_grows bytes around long frames mode place made a in
    last_turn around assigns long (on_lists source (lists.expr_in assigns around) here) h.turns (length place.rest.now) (option_map (reach_in bytes) reach) (config_in bytes frames mode place) made
    (end_here source around assigns long reach expr place) h.enough h.alike h.same a tt
    (λ more. ap (λ place. end_by around assigns long (assign_ends assigns (ahead place)) (option_map (reach_in bytes) reach) (expr_in bytes expr) place) there)

tries_end : (source : Source) (around : Nesting) (assigns : Bool) (long : Option Told) (here : Here) (reach : Option FarthestFailure) (place : Cursor) (expr : ExprTree) (result : Result (ExprTree × Here) Unread) → IsIn source place
    → (IsWithinLimits long (place_in source.bytes.now place) → here.place.limit ≡ None)
    → Comes long (on_lists source (lists.expr_in assigns around) here) (end_here source around assigns long reach expr place) (place_in source.bytes.now place)
    → IsEnd source place (end_here source around assigns long reach expr place) result → Tries source (expr_in source.bytes.now) (lists.expr_in assigns around) here result
tries_end source around assigns long here reach place expr (Ok found) i rises c e =
    let bytes = source.bytes.now in
    let start = on_lists source (lists.expr_in assigns around) here in
    let given = end_here source around assigns long reach expr place in
    let read = reads_too start (expr_in bytes found.0) (place_in bytes found.1.place) (option_map (reach_in bytes) found.1.reach) (c.alike ∙ ap plain_try e.0) in
    let limit = end_limit around assigns long (assign_ends assigns (tokens_in bytes place.rest.now)) (option_map (reach_in bytes) reach) (expr_in bytes expr) (expr_in bytes found.0) place.at
    (option_map (told_in bytes) place.limit) (tokens_in bytes place.rest.now) (place_in bytes found.1.place) (option_map (reach_in bytes) found.1.reach) e.0 in
    let within : found.1.place.limit ≡ None → IsWithinLimits long (place_in bytes place) = λ none. ap limit_at limit ∙ ap (option_map (told_in bytes)) none in
    record {
      tree = read.tree;
      is = read.is;
      same = λ none. let w : Reads read.tree (place_in bytes found.1.place) (option_map (reach_in bytes) found.1.reach) ≡ Reads (expr_in bytes found.0) (place_in bytes found.1.place) (option_map (reach_in bytes) found.1.reach) =
          sym read.is ∙ c.same (within none) ∙ e.0 in cc;
      rises = λ none. rises (within none);
      stands = record { rest = e.2 ∙ i.rest ∙ ap (λ n. drop n source.tokens.now) (sym e.1); within = omega (arith, i.within, e.1) };
    }
tries_end source around assigns long here reach place expr (Err (unread.Refused r)) i rises c e =
    stops_too (on_lists source (lists.expr_in assigns around) here) (option_map (reach_in source.bytes.now) r) (c.alike ∙ ap plain_try e)
tries_end source around assigns long here reach place expr (Err (unread.Deep told)) i rises c e = absurd e
tries_end source around assigns long here reach place expr (Err unread.NoMemory) i rises c e = absurd e

calls_end : (source : Source) (around : Nesting) (assigns : Bool) (long : Option Told) (here : Here) (reach : Option FarthestFailure) (place : Cursor) (expr : ExprTree) (result : Result (ExprTree × Here) Unread)
    → Comes long (on_lists source (lists.expr_in assigns around) here) (end_here source around assigns long reach expr place) (place_in source.bytes.now place)
    → IsEnd source place (end_here source around assigns long reach expr place) result → IsCallToo source (lists.expr_in assigns around) here result
calls_end source around assigns long here reach place expr (Ok found) c e =
    λ tree place' reach' is.
    let bytes = source.bytes.now in
    let start = on_lists source (lists.expr_in assigns around) here in
    let read = reads_too start (expr_in bytes found.0) (place_in bytes found.1.place) (option_map (reach_in bytes) found.1.reach) (c.alike ∙ ap plain_try e.0) in
    let both : Reads tree place' reach' ≡ Reads read.tree (place_in bytes found.1.place) (option_map (reach_in bytes) found.1.reach) = sym is ∙ read.is in
    ap is_call (let t : tree ≡ read.tree = cc in t) ∙ read.call
calls_end source around assigns long here reach place expr (Err stop) c e = tt

pub run_ends : (source : Source) (around : Nesting) (assigns : Bool) (long : Option Told) (here : Here) (reach : Option FarthestFailure) (frames frames' : List Frame) (mode : Mode) (place behind : Cursor) (expr : ExprTree) (result : Result (ExprTree × Here) Unread)
    → HasRun source around assigns long here reach frames mode place → Made source.bytes.now around long frames mode place (step_in source.bytes.now frames' (step.Ends expr behind))
    → IsEnd source place (end_here source around assigns long reach expr place) result → Tries source (expr_in source.bytes.now) (lists.expr_in assigns around) here result
run_ends source around assigns long here reach frames frames' mode place behind expr result h a e =
    tries_end source around assigns long here reach place expr result h.stands h.rises (comes_end source around assigns long here reach frames frames' mode place behind expr h a) e

pub run_calls : (source : Source) (around : Nesting) (assigns : Bool) (long : Option Told) (here : Here) (reach : Option FarthestFailure) (frames frames' : List Frame) (mode : Mode) (place behind : Cursor) (expr : ExprTree) (result : Result (ExprTree × Here) Unread)
    → HasRun source around assigns long here reach frames mode place → Made source.bytes.now around long frames mode place (step_in source.bytes.now frames' (step.Ends expr behind))
    → IsEnd source place (end_here source around assigns long reach expr place) result → IsCallToo source (lists.expr_in assigns around) here result
run_calls source around assigns long here reach frames frames' mode place behind expr result h a e =
    calls_end source around assigns long here reach place expr result (comes_end source around assigns long here reach frames frames' mode place behind expr h a) e

-- where an assignment stands behind an expression that may not
pub stray_end : (around : Nesting) (assigns : Bool) (long : Option Told) (reach result : Option places.FarthestFailure) (expr : Tree) (place behind : places.Cursor) (tokens : List lexical.Token) → assigns ≡ false
    → bytes_eq (sign_at tokens).0 (codes ">>=") ≡ true
    → behind ≡ places.passed (plain ∷ plain ∷ []) place → Stops result ≡ refused_in around assigns long reach behind
    → end_by around assigns long (assign_ends assigns tokens) reach expr place ≡ Stops result
stray_end around assigns long reach result expr place behind tokens no' is b r =
    ap (λ b. end_by around assigns long (assign_ends b tokens) reach expr place) no' ∙ ap (λ b. end_by around assigns long b reach expr place) is
    ∙ ap (refused_in around assigns long reach) (sym b) ∙ sym r
