-- Where a limit stands before a place that no way reaches, whatever is read from there on tells it.
use Rattle.std.proofs.Common.{◌≡◌, inl, inr, ℕ, zero, suc, ◌+◌, ◌<◌, ◌≤◌, Bool, true, false, List, [], ◌∷◌, length, drop, refl, sym, ap, subst, ◌∙◌, arith, le_refl}
use Rattle.std.specs.Prelude.{Option, Some, None, nat_lt}
use Rattle.std.proofs.lemmas.Bool.Decides.{nat_tests}
use Rattle.def_token.specs.Lexical.{Token}
use Rattle.def_tree.specs.ExprTree.{ExprTree}
use Rattle.def_tree.specs.Limits.{Nesting, Entry, plain}
use Rattle.def_tree.specs.Symbol.{Symbol, symbol, is_sign}
use Rattle.def_tree.specs.TypeTree.{TypeTree, TypeTrees}
use Rattle.def_reading.specs.Machine.{Frame, Mode, Expected, Value, Dotted, Converting, Step, On, Ends, Refused, nesting, step_at, assign_by, may_assign, whole}
use Rattle.def_reading.specs.Cursor.{Told, Cursor, At, told_at, noted, advance, passed, before, before_by, earlier, FarthestFailure, reach_at, reach_by, told_by, further, further_by, counts_more}
use Rattle.def_reading.specs.Try.{Try, Reads, Stops, Reader, try_then, try_as, or_else, settled, refused, choice, choice_by, token_then, up_to, listed, ahead, long_from, way_by, assign_ends, refused_in, end_by, run_by, run, expr_in, look_by, type_in}
use Rattle.def_reading.specs.TypeAhead.{LookAhead, Found, Missing, if_led, led_by, leads_on, type_ahead, list_ahead, taken_ahead}
use Rattle.law_types.proofs.AheadFaults.{Grows, same_limit, new_limit}
use Rattle.law_machine.proofs.MachineComplete.{config}
use Rattle.law_machine.proofs.MachineGrows.{GrowsStep, GrowsTo, step_grows_at}
use Rattle.law_machine.proofs.MachineKinds.{Kind, uniform, bare, without, generic, operates, ends, stuck, stuck_behind, exhausted, kind_of}
use Rattle.sl_look.specs.Looks.{limit_at, limit_of}
use Rattle.sl_stmt.specs.Settling.{IsOver, IsDecided}
use Rattle.sl_look.proofs.Later.{EndsLater, type_later}
use Rattle.sl_look.proofs.TypeLists.{then_keeps, type_keeps, list_keeps}

-- whatever is read tells what is told before it
abbrev pub Decides : {A : Type 0} → Reader A → Type 0
Decides reader = (told : Told) (at : ℕ) (tokens : List Token) (reach : Option FarthestFailure) → told.at < at → IsOver told at reach → IsDecided told (reader reach (At at (Some told) tokens))

over_later : (told : Told) (at at' : ℕ) (reach : Option FarthestFailure) → at ≤ at' → IsOver told at reach → IsOver told at' reach
over_later told at at' None h o = tt
over_later told at at' (Some reach) h (inl o) = inl (omega (arith, h, o))
over_later told at at' (Some reach) h (inr o) = inr o

over_further : (told : Told) (at : ℕ) (reach other : Option FarthestFailure) → IsOver told at reach → IsOver told at other → IsOver told at (further reach other)
over_further told at None other o p = p
over_further told at (Some reach) None o p = o
over_further told at (Some reach) (Some other) o p = over_by (counts_more other reach) o p
  where
    over_by : (b : Bool) → IsOver told at (Some reach) → IsOver told at (Some other) → IsOver told at (further_by b reach other)
    over_by true o p = p
    over_by false o p = o

-- a way that ends at a place counts more than those that end before it
stop_by : (A : Type 0) (told : Told) (reach other : FarthestFailure) (b : Bool) → counts_more other reach ≡ b → reach.many < other.many → other.told ≡ told → IsDecided {B = A} told (Stops (further_by b reach other))
stop_by A told reach other true is h same = same
stop_by A told reach other false is h same =
    let yes' : nat_lt reach.many other.many ≡ true = grind (arith, nat_tests, h) in
    let no' : counts_more other reach ≡ true = rw yes' refl in absurd (cc)

stop_same : (A : Type 0) (told : Told) (reach other : FarthestFailure) (b : Bool) → reach.told ≡ told → other.told ≡ told → IsDecided {B = A} told (Stops (further_by b reach other))
stop_same A told reach other true h k = k
stop_same A told reach other false h k = h

stop_here : (A : Type 0) (told : Told) (at : ℕ) (reach : Option FarthestFailure) (other : FarthestFailure) → IsOver told at reach → at ≤ other.many → other.told ≡ told → IsDecided {B = A} told (Stops (further reach (Some other)))
stop_here A told at None other o h same = same
stop_here A told at (Some reach) other (inl o) h same = stop_by A told reach other (counts_more other reach) refl (omega (arith, o, h)) same
stop_here A told at (Some reach) other (inr o) h same = stop_same A told reach other (counts_more other reach) o same

before_is : (told : Told) (at : ℕ) → told.at < at → before at (Some told) ≡ Some told
before_is told at h = let yes' : nat_lt told.at at ≡ true = grind (arith, nat_tests, h) in rw yes' refl

-- an expression is not too long before what is told
abbrev Behind : Told → Option Told → Type 0
Behind told None = Unit {0}
Behind told (Some long) = told.at ≤ long.at

earlier_is_by : (b : Bool) (told long : Told) → told.at ≤ long.at → earlier (Some told) (before_by b long) ≡ Some told
earlier_is_by true told long h = let no' : nat_lt long.at told.at ≡ false = grind (arith, nat_tests, h) in rw no' refl
earlier_is_by false told long h = refl

earlier_is : (told : Told) (least : ℕ) (long : Option Told) → Behind told long → earlier (Some told) (before least long) ≡ Some told
earlier_is told least None h = refl
earlier_is told least (Some long) h = earlier_is_by (nat_lt long.at least) told long h

-- the way to a place behind what is told
abbrev way_to : ℕ → Told → FarthestFailure
way_to many told = record { many = many; told = told }

reach_is : (told : Told) (long : Option Told) (least at : ℕ) (tokens : List Token) → Behind told long → reach_at long least (At at (Some told) tokens) ≡ Some (way_to at told)
reach_is told long least at tokens h = ap (λ l. reach_by at (told_by l at tokens)) (earlier_is told least long h)

settled_is : (told : Told) (long : Option Told) (least at : ℕ) (tokens : List Token) → told.at < at → Behind told long → reach_at long least (settled (At at (Some told) tokens)) ≡ Some (way_to at told)
settled_is told long least at tokens h k = ap (λ l. reach_at long least (At at l tokens)) (before_is told at h) ∙ reach_is told long least at tokens k

pub decides_refused : (A : Type 0) → Decides {A = A} refused
decides_refused A told at tokens reach h o =
    subst (λ other. IsDecided {B = A} told (Stops (further reach other))) (sym (settled_is told None 0 at tokens h tt)) (stop_here A told at reach (way_to at told) o (le_refl at) refl)

pub decides_end : {A : Type 0} (a : A) → Decides (λ reach place. Reads a place reach)
decides_end a told at tokens reach h o = (refl, h, o)

pub decided_as : {A B : Type 0} (make : A → B) (told : Told) (look : Try A) → IsDecided told look → IsDecided told (try_as make look)
decided_as make told (Reads a (At at limit rest) reach) d = d
decided_as make told (Stops None) d = d
decided_as make told (Stops (Some reach)) d = d

pub decides_as : {A B : Type 0} (make : A → B) (reader : Reader A) → Decides reader → Decides (λ reach place. try_as make (reader reach place))
decides_as make reader k told at tokens reach h o = decided_as make told (reader reach (At at (Some told) tokens)) (k told at tokens reach h o)

pub decided_then : {A B : Type 0} (next : A → Reader B) (told : Told) (look : Try A) → ((a : A) → Decides (next a)) → IsDecided told look → IsDecided told (try_then next look)
decided_then next told (Reads a (At at limit rest) reach) k d =
    subst (λ limit. IsDecided told (next a reach (At at limit rest))) (sym d.0) (k a told at rest reach d.1 d.2)
decided_then next told (Stops None) k d = d
decided_then next told (Stops (Some reach)) k d = d

pub decides_then : {A B : Type 0} (next : A → Reader B) (reader : Reader A) → Decides reader → ((a : A) → Decides (next a)) → Decides (λ reach place. try_then next (reader reach place))
decides_then next reader k n told at tokens reach h o = decided_then next told (reader reach (At at (Some told) tokens)) n (k told at tokens reach h o)

noted_is : (told : Told) (entry : Entry) (at : ℕ) (token : Token) → noted (Some told) entry at token ≡ Some told
noted_is told None at token = refl
noted_is told (Some limit) at token = refl

-- a reader goes on behind a token
pub decides_behind : {A : Type 0} (reader : Reader A) → Decides reader → (entry : Entry) (told : Told) (at : ℕ) (token : Token) (tokens : List Token) (reach : Option FarthestFailure) → told.at < at → IsOver told at reach
    → IsDecided told (reader reach (advance entry (At at (Some told) (token ∷ tokens))))
decides_behind reader k entry told at token tokens reach h o =
    subst (λ limit. IsDecided told (reader reach (At (suc at) limit tokens))) (sym (noted_is told entry at token)) (k told (suc at) tokens reach (omega (arith, h)) (over_later told at (suc at) reach (omega arith) o))

choice_by_decides : {A : Type 0} (b : Bool) (entry : Entry) (yes' : Token → Reader A) (no' : Reader A) → ((token : Token) → Decides (yes' token)) → Decides no'
    → (told : Told) (at : ℕ) (token : Token) (tokens : List Token) (reach : Option FarthestFailure) → told.at < at → IsOver told at reach → IsDecided told (choice_by b entry yes' no' reach token (At at (Some told) (token ∷ tokens)))
choice_by_decides true entry yes' no' k l told at token tokens reach h o = decides_behind (yes' token) (k token) entry told at token tokens reach h o
choice_by_decides false entry yes' no' k l told at token tokens reach h o = l told at (token ∷ tokens) reach h o

pub decides_choice : {A : Type 0} (test : Symbol → Bool) (entry : Entry) (yes' : Token → Reader A) (no' : Reader A) → ((token : Token) → Decides (yes' token)) → Decides no' → Decides (choice test entry yes' no')
decides_choice test entry yes' no' k l told at [] reach h o = l told at [] reach h o
decides_choice test entry yes' no' k l told at (token ∷ tokens) reach h o = choice_by_decides (test (symbol token)) entry yes' no' k l told at token tokens reach h o

pub decides_token : {A : Type 0} (test : Symbol → Bool) (entry : Entry) (next : Token → Reader A) → ((token : Token) → Decides (next token)) → Decides (token_then test entry next)
decides_token {A = A} test entry next k = decides_choice test entry next refused k (decides_refused A)

pub decides_up_to : {A : Type 0} (test : Symbol → Bool) (reader : Reader A) → Decides reader → Decides (λ reach place. up_to test (reader reach place))
decides_up_to test reader k =
    decides_then (λ a. token_then test plain (λ mark reach place. Reads a place reach)) reader k (λ a. decides_token test plain (λ mark reach place. Reads a place reach) (λ mark. decides_end a))

decided_else : {A : Type 0} (other : Reader A) → Decides other → (told : Told) (at : ℕ) (tokens : List Token) → told.at < at → (look : Try A) → IsDecided told look → IsDecided told (or_else other (At at (Some told) tokens) look)
decided_else other k told at tokens h (Reads a (At at' limit rest) reach) d = d
decided_else other k told at tokens h (Stops None) d = absurd d
decided_else other k told at tokens h (Stops (Some reach)) d = k told at tokens (Some reach) h (inr d)

pub decides_else : {A : Type 0} (reader other : Reader A) → Decides reader → Decides other → Decides (λ reach place. or_else other place (reader reach place))
decides_else reader other k l told at tokens reach h o = decided_else other l told at tokens h (reader reach (At at (Some told) tokens)) (k told at tokens reach h o)

pub decides_listed : {A B : Type 0} (more : A → B → B) (none : B) (part : Reader A) → Decides part → (turns : ℕ) → Decides (listed more none part turns)
decides_listed {B = B} more none part k zero = decides_refused B
decides_listed more none part k (suc turns) =
    decides_then (λ a. choice (is_sign ",") plain (λ comma reach place. try_as (more a) (listed more none part turns reach place)) (λ reach place. Reads (more a none) place reach)) part k
    (λ a. decides_choice (is_sign ",") plain (λ comma reach place. try_as (more a) (listed more none part turns reach place)) (λ reach place. Reads (more a none) place reach)
    (λ comma. decides_as (more a) (listed more none part turns) (decides_listed more none part k turns)) (decides_end (more a none)))

-- types
look_decides : (told : Told) (at : ℕ) (reach : Option FarthestFailure) (look : LookAhead TypeTree) → told.at < at → IsOver told at reach → limit_of look ≡ Some told → EndsLater at look → IsDecided told (look_by reach look)
look_decides told at reach (Found type (At at' limit rest)) h o same later = (same, omega (arith, h, later), over_later told at at' reach later o)
look_decides told at reach (Missing (At at' limit rest)) h o same later =
    subst (λ limit. IsDecided {B = TypeTree} told (refused reach (At at' limit rest))) (sym same)
    (decides_refused TypeTree told at' rest reach (omega (arith, h, later)) (over_later told at at' reach later o))

pub decides_type : (around : Nesting) → Decides (type_in around)
decides_type around told at tokens reach h o =
    look_decides told at reach (type_ahead (length tokens) around.types (At at (Some told) tokens)) h o
    (type_keeps (length tokens) around.types (At at (Some told) tokens) told refl) (type_later (length tokens) around.types at (Some told) tokens)

-- expressions
grows_same : (at : ℕ) (told : Told) (limit : Option Told) → Grows at (Some told) limit → limit ≡ Some told
grows_same at told limit same_limit = refl
grows_same at told limit (new_limit other none h) = absurd (cc)

led_keeps : (b : Bool) (args : TypeTrees) (at : ℕ) (limit : Option Told) (tokens : List Token) → limit_of (led_by b args (At at limit tokens)) ≡ limit
led_keeps true args at limit tokens = refl
led_keeps false args at limit tokens = refl

if_led_keeps : (args : TypeTrees) (place : Cursor) (told : Told) → limit_at place ≡ Some told → limit_of (if_led args place) ≡ Some told
if_led_keeps args (At at limit tokens) told h = led_keeps (leads_on tokens) args at limit tokens ∙ h

advance_plain : (place : Cursor) (told : Told) → limit_at place ≡ Some told → limit_at (advance plain place) ≡ Some told
advance_plain (At at limit []) told h = h
advance_plain (At at limit (token ∷ tokens)) told h = h

taken_keeps : (types at : ℕ) (limit : Option Told) (tokens : List Token) (told : Told) → limit ≡ Some told → limit_of (taken_ahead types at limit tokens) ≡ Some told
taken_keeps types at limit tokens told h =
    then_keeps if_led (list_ahead (suc (length tokens)) types (advance plain (At at limit tokens))) told
    (list_keeps (suc (length tokens)) types (advance plain (At at limit tokens)) told (advance_plain (At at limit tokens) told h)) (λ args place k. if_led_keeps args place told k)

-- this is told of a way, if there is one
abbrev Tells : Told → Option FarthestFailure → Type 0
Tells told None = Unit {0}
Tells told (Some reach) = reach.told ≡ told

tells_over : (told : Told) (at : ℕ) (reach : Option FarthestFailure) → Tells told reach → IsOver told at reach
tells_over told at None h = tt
tells_over told at (Some reach) h = inr h

tells_at : (told : Told) (long : Option Told) (least at : ℕ) (limit : Option Told) (tokens : List Token) → limit ≡ Some told → Behind told long → Tells told (reach_at long least (At at limit tokens))
tells_at told long least at limit tokens same k =
    subst (Tells told) (sym (ap (λ limit. reach_at long least (At at limit tokens)) same ∙ reach_is told long least at tokens k)) refl

way_tells : (assigns' : Bool) (mode : Mode) (told : Told) (other : Option FarthestFailure) → Tells told other → Tells told (way_by assigns' mode other)
way_tells true mode told other h = h
way_tells false Expected told other h = h
way_tells false (Value value) told other h = tt
way_tells false (Dotted base) told other h = tt
way_tells false (Converting word token) told other h = tt

missing_limit : (look : LookAhead TypeTrees) (told : Told) (at : ℕ) (limit : Option Told) (rest : List Token) → look ≡ Missing (At at limit rest) → limit_of look ≡ Some told → limit ≡ Some told
missing_limit look told at limit rest is h = ap limit_of (sym is) ∙ h

assign_tells : (around : Nesting) (long : Option Told) (may : Bool) (least : ℕ) (told : Told) (at : ℕ) (limit : Option Told) (tokens : List Token) → limit ≡ Some told → Behind told long
    → Tells told (assign_by around long may least (At at limit tokens))
assign_tells around long true least told at limit tokens same k = tells_at told long least at limit tokens same k
assign_tells around long false least told at limit tokens same k = tt

-- a place at or behind another, with this limit
abbrev IsFrom : Told → ℕ → Cursor → Type 0
IsFrom told from (At at limit tokens) = (from ≤ at) × (limit ≡ Some told)

-- what a step tells
abbrev StepTells : Told → ℕ → Step → Type 0
StepTells told at (On other c) = Tells told other
StepTells told at (Ends e place) = Unit {0}
StepTells told at (Refused place) = IsFrom told at place

step_tells : (around : Nesting) (long : Option Told) (told : Told) → Behind told long → {fs : List Frame} {mode : Mode} {at : ℕ} {limit : Option Told} {ts : List Token} {s : Step} → Kind around long fs mode at limit ts s → GrowsStep at limit ts s
    → limit ≡ Some told → StepTells told at s
step_tells around long told k (uniform fs' mode' e no_end fits each) g same = tt
step_tells around long told k (bare h l) g same = tt
step_tells around long told k (without {fs = fs} {at = at} {limit = limit} {ts = ts} h l none at' limit' rest look) g same =
    let types = (nesting around fs).types in
    tells_at told long at' at' limit' rest (missing_limit (taken_ahead types (suc at) limit ts) told at' limit' rest look (taken_keeps types (suc at) limit ts told same)) k
step_tells around long told k (generic h l args at' limit' rest takes look) g same = tt
step_tells around long told k (operates {fs = fs} {at = at} {limit = limit} {v = v} op behind next sign passes) g same = assign_tells around long (may_assign op (whole v fs)) at told next limit behind same k
step_tells around long told k (ends w end') g same = tt
step_tells around long told k (stuck {at = at} each) g same = (le_refl at, same)
step_tells around long told k (stuck_behind p q others w g' j k' are) g same = (omega arith, same)
step_tells around long told k (exhausted {at = at}) g same = (le_refl at, same)

two_from : (told : Told) (at : ℕ) (tokens : List Token) → IsFrom told at (passed (plain ∷ plain ∷ []) (At at (Some told) tokens))
two_from told at [] = (le_refl at, refl)
two_from told at (t ∷ []) = (omega arith, refl)
two_from told at (t ∷ u ∷ tokens) = (omega arith, refl)

module _ (around : Nesting) (assigns' : Bool) (long : Option Told) (told : Told) (k : Behind told long) where
  refused_from : (at : ℕ) (place : Cursor) (reach : Option FarthestFailure) → told.at < at → IsOver told at reach → IsFrom told at place → IsDecided told (refused_in around assigns' long reach place)
  refused_from at (At at' limit rest) reach h o f =
      subst (λ limit. IsDecided {B = ExprTree} told (refused_in around assigns' long reach (At at' limit rest))) (sym f.1)
      (subst (λ other. IsDecided {B = ExprTree} told (Stops (further reach other))) (sym (settled_is told long at' at' rest (omega (arith, h, f.0)) k))
      (stop_here ExprTree told at reach (way_to at' told) o f.0 refl))

  end_decides : (b : Bool) (reach : Option FarthestFailure) (e : ExprTree) (at : ℕ) (limit : Option Told) (tokens : List Token) → limit ≡ Some told → told.at < at → IsOver told at reach → IsDecided told (end_by around assigns' long b reach e (At at limit tokens))
  end_decides true reach e at limit tokens same h o =
      subst (λ limit. IsDecided {B = ExprTree} told (end_by around assigns' long true reach e (At at limit tokens))) (sym same)
      (refused_from at (passed (plain ∷ plain ∷ []) (At at (Some told) tokens)) reach h o (two_from told at tokens))
  end_decides false reach e at limit tokens same h o = (ap (λ limit. earlier limit (before at long)) same ∙ earlier_is told at long k, h, o)

  abbrev RunDecides : ℕ → Type 0
  RunDecides turns = (reach : Option FarthestFailure) (fs : List Frame) (mode : Mode) (at : ℕ) (limit : Option Told) (ts : List Token) → limit ≡ Some told → told.at < at → IsOver told at reach
      → IsDecided told (run around assigns' long turns reach (config fs mode at limit ts))

  on_decides : (turns : ℕ) (reach : Option FarthestFailure) (fs : List Frame) (mode : Mode) (place : Cursor) (at : ℕ) → told.at < at → IsOver told at reach → GrowsTo at (Some told) place → RunDecides turns
      → IsDecided told (run around assigns' long turns reach (record { frames = fs; mode = mode; place = place }))
  on_decides turns reach fs mode (At at' limit rest) at h o g more =
      more reach fs mode at' limit rest (grows_same at told limit g.1) (omega (arith, h, g.0)) (over_later told at at' reach (omega (arith, g.0)) o)

  step_decides : (turns : ℕ) (reach : Option FarthestFailure) (mode : Mode) (at : ℕ) (ts : List Token) (s : Step) → told.at < at → IsOver told at reach → GrowsStep at (Some told) ts s → StepTells told at s → RunDecides turns
      → IsDecided told (run_by around assigns' long (run around assigns' long turns) mode reach s)
  step_decides turns reach mode at ts (On other c) h o g t more =
      on_decides turns (further reach (way_by assigns' mode other)) c.frames c.mode c.place at h
      (over_further told at reach (way_by assigns' mode other) o (tells_over told at (way_by assigns' mode other) (way_tells assigns' mode told other t))) g more
  step_decides turns reach mode at ts (Ends e place) h o g t more =
      subst (λ place. IsDecided told (end_by around assigns' long (assign_ends assigns' (ahead place)) reach e place)) (sym g) (end_decides (assign_ends assigns' ts) reach e at (Some told) ts refl h o)
  step_decides turns reach mode at ts (Refused place) h o g t more = refused_from at place reach h o t

  run_decides : (turns : ℕ) → RunDecides turns
  run_decides zero reach fs mode at limit ts same h o = refused_from at (At at limit ts) reach h o (le_refl at, same)
  run_decides (suc turns) reach fs mode at limit ts same h o =
      subst (λ limit. IsDecided told (run_by around assigns' long (run around assigns' long turns) mode reach (step_at around long mode fs (At at limit ts)))) (sym same)
      (let g = step_grows_at around long mode fs at (Some told) ts in
      step_decides turns reach mode at ts (step_at around long mode fs (At at (Some told) ts)) h o g (step_tells around long told k (kind_of around long mode fs at (Some told) ts) g refl) (run_decides turns))

long_behind : (told : Told) (at n : ℕ) (tokens : List Token) → told.at < at → Behind told (told_at 112 (at + n) tokens)
long_behind told at n [] h = tt
long_behind told at n (token ∷ tokens) h = omega (arith, h)

pub decides_expr : (assigns' : Bool) (around : Nesting) → Decides (expr_in assigns' around)
decides_expr assigns' around told at tokens reach h o =
    run_decides around assigns' (long_from (At at (Some told) tokens)) told (long_behind told at 1024 (drop 1024 tokens) h) (suc (length tokens)) reach [] Expected at (Some told) tokens refl h o
