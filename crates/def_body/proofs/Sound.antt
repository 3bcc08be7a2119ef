-- What parts come to rests on the answers that they use: what a part comes to, it comes to under more answers too.
use Rattle.std.proofs.Common.{◌≡◌, ◌∙◌, refl, sym, ap, subst, List, ◌∷◌, Option, Some, None}
use Rattle.std.specs.Prelude.{Result, Ok, Err}
use Rattle.sl_base.specs.declared.diag.Diag.{Diag}
use Rattle.def_query.specs.Map.{get, IsWithin}
use Rattle.def_query.specs.declared.step.Step.TheVariants as step
use Rattle.def_query.proofs.Maps.{get_here, within_cons}
use Rattle.sl_key.specs.Flow.{Facts, Flow, Holds, Needs, Stop, Value as Given, and_then, finished, held_as, hold, or_spoiled, used, used_by}
use Rattle.sl_key.specs.Order.{key_cmp}
use Rattle.sl_key.specs.Ordered.{key_apart, key_total}
use Rattle.sl_key.specs.declared.answer.Answer.{Answer}
use Rattle.sl_key.specs.declared.answer.Answer.TheVariants.{Good, Bad, Spoiled, Circular}
use Rattle.sl_key.specs.declared.answer.Good.{Good as Held}
use Rattle.sl_key.specs.declared.key.Key.{Key}
use Rattle.sl_key.specs.declared.key.Kind.{Kind}
use Rattle.def_body.specs.Laws.{BodiesAreSound}
use Rattle.def_body.specs.Part.{Body, Break, Give, Known, Part, Reads, Use, answer_of, run, run_body}

-- the answers m are among the answers n
abbrev pub IsAmong : Facts → Facts → Type 0
IsAmong m n = IsWithin key_cmp m n

-- the answers lack the key
abbrev pub Lacks : Facts → Key → Type 0
Lacks m k = get key_cmp m k ≡ None

-- what a part comes to rests on the answers that it uses
pub record IsSteady {A : Type 0} (part : Facts → Flow A) : Type 0 where
  pub given : (m n : Facts) (v : A) → part m ≡ Given v → IsAmong m n → part n ≡ Given v
  pub stops : (m n : Facts) (a : Answer) → part m ≡ Stop a → IsAmong m n → part n ≡ Stop a
  pub needs : (m n : Facts) (y : Key) → part m ≡ Needs y → IsAmong m n → Lacks n y → part n ≡ Needs y
  pub lacking : (m : Facts) (y : Key) → part m ≡ Needs y → Lacks m y
  pub circles : (m : Facts) (y : Key) (c : List Key) → part m ≡ Needs y → part ((y, Circular c) ∷ m) ≡ Stop (Circular c)

-- one answer more
pub among_more : (m : Facts) (y : Key) (a : Answer) → Lacks m y → IsAmong m ((y, a) ∷ m)
among_more m y a lacks = within_cons key_cmp key_total key_apart y a m lacks

-- the part uses no key
pub record IsFixed {A : Type 0} (flow : Flow A) : Type 0 where
  pub never : (y : Key) → flow ≡ Needs y → ⊥

pub fixed_given : {A : Type 0} (v : A) → IsFixed (Given v)
fixed_given v = record { never = λ y e. cc }

pub fixed_stop : {A : Type 0} (a : Answer) → IsFixed {A = A} (Stop a)
fixed_stop a = record { never = λ y e. cc }

pub steady_fixed : {A : Type 0} (flow : Flow A) → IsFixed flow → IsSteady (λ m. flow)
steady_fixed flow h = record {
  given = λ m n v e w. e;
  stops = λ m n a e w. e;
  needs = λ m n y e w l. e;
  lacking = λ m y e. absurd (h.never y e);
  circles = λ m y c e. absurd (h.never y e);
}

-- ---- the use of a key

-- the use of a key, whatever its answer holds
abbrev taken : Facts → Key → Flow Held
taken m k = used_by k (get key_cmp m k)

used_given : (k : Key) (o p : Option Answer) (v : Held)
    → ((a : Answer) → o ≡ Some a → p ≡ Some a) → used_by k o ≡ Given v → used_by k p ≡ Given v
used_given k None p v f e = absurd (cc)
used_given k (Some a) p v f e = ap (used_by k) (f a refl) ∙ e

used_stops : (k : Key) (o p : Option Answer) (b : Answer)
    → ((a : Answer) → o ≡ Some a → p ≡ Some a) → used_by k o ≡ Stop b → used_by k p ≡ Stop b
used_stops k None p b f e = absurd (cc)
used_stops k (Some a) p b f e = ap (used_by k) (f a refl) ∙ e

-- a key is needed only where its answer is lacking
answered : (k y : Key) (a : Answer) → used_by k (Some a) ≡ Needs y → ⊥
answered k y (Good v) e = cc
answered k y (Bad d) e = cc
answered k y (Spoiled q) e = cc
answered k y (Circular c) e = cc

need_is : (k y : Key) (o : Option Answer) → used_by k o ≡ Needs y → (o ≡ None) × (k ≡ y)
need_is k y None e = (refl, cc)
need_is k y (Some a) e = absurd (answered k y a e)

used_lacks : (k y : Key) (m : Facts) → taken m k ≡ Needs y → Lacks m y
used_lacks k y m e = let is = need_is k y (get key_cmp m k) e in ap (get key_cmp m) (sym is.1) ∙ is.0

used_needs : (k y : Key) (m n : Facts) → taken m k ≡ Needs y → Lacks n y → taken n k ≡ Needs y
used_needs k y m n e l =
    let same = (need_is k y (get key_cmp m k) e).1 in
    ap (used_by k) (ap (get key_cmp n) same ∙ l) ∙ ap Needs same

used_circles : (k y : Key) (m : Facts) (c : List Key) → taken m k ≡ Needs y
    → taken ((y, Circular c) ∷ m) k ≡ Stop (Circular c)
used_circles k y m c e =
    let same = (need_is k y (get key_cmp m k) e).1 in
    ap (used_by k) (ap (get key_cmp ((y, Circular c) ∷ m)) same ∙ get_here key_cmp key_total key_apart y (Circular c) m)

steady_taken : (k : Key) → IsSteady (λ m. taken m k)
steady_taken k = record {
  given = λ m n v e w. used_given k (get key_cmp m k) (get key_cmp n k) v (λ a h. w k a h) e;
  stops = λ m n b e w. used_stops k (get key_cmp m k) (get key_cmp n k) b (λ a h. w k a h) e;
  needs = λ m n y e w l. used_needs k y m n e l;
  lacking = λ m y e. used_lacks k y m e;
  circles = λ m y c e. used_circles k y m c e;
}

-- ---- a part, and then the next one

module _ {A B : Type 0} (part : Facts → Flow A) (next : Facts → A → Flow B)
    (first : IsSteady part) (then : (v : A) → IsSteady (λ m. next m v)) where
  given_at : (m n : Facts) (v : B) (x : Flow A) → part m ≡ x → and_then x (next m) ≡ Given v → IsAmong m n
      → and_then (part n) (next n) ≡ Given v
  given_at m n v (Needs y) h e w = absurd (cc)
  given_at m n v (Stop a) h e w = absurd (cc)
  given_at m n v (Given x) h e w = ap (λ f. and_then f (next n)) (first.given m n x h w) ∙ (then x).given m n v e w

  stops_at : (m n : Facts) (a : Answer) (x : Flow A) → part m ≡ x → and_then x (next m) ≡ Stop a → IsAmong m n
      → and_then (part n) (next n) ≡ Stop a
  stops_at m n a (Needs y) h e w = absurd (cc)
  stops_at m n a (Stop b) h e w =
      ap (λ f. and_then f (next n)) (first.stops m n b h w) ∙ e
  stops_at m n a (Given x) h e w = ap (λ f. and_then f (next n)) (first.given m n x h w) ∙ (then x).stops m n a e w

  needs_at : (m n : Facts) (y : Key) (x : Flow A) → part m ≡ x → and_then x (next m) ≡ Needs y → IsAmong m n → Lacks n y
      → and_then (part n) (next n) ≡ Needs y
  needs_at m n y (Needs z) h e w l =
      let same : z ≡ y = cc in
      ap (λ f. and_then f (next n)) (first.needs m n y (h ∙ ap Needs same) w l)
  needs_at m n y (Stop b) h e w l = absurd (cc)
  needs_at m n y (Given x) h e w l = ap (λ f. and_then f (next n)) (first.given m n x h w) ∙ (then x).needs m n y e w l

  lacking_at : (m : Facts) (y : Key) (x : Flow A) → part m ≡ x → and_then x (next m) ≡ Needs y → Lacks m y
  lacking_at m y (Needs z) h e = let same : z ≡ y = cc in first.lacking m y (h ∙ ap Needs same)
  lacking_at m y (Stop b) h e = absurd (cc)
  lacking_at m y (Given x) h e = (then x).lacking m y e

  circles_at : (m : Facts) (y : Key) (c : List Key) (x : Flow A) → part m ≡ x → and_then x (next m) ≡ Needs y
      → and_then (part ((y, Circular c) ∷ m)) (next ((y, Circular c) ∷ m)) ≡ Stop (Circular c)
  circles_at m y c (Needs z) h e =
      let same : z ≡ y = cc in
      ap (λ f. and_then f (next ((y, Circular c) ∷ m))) (first.circles m y c (h ∙ ap Needs same))
  circles_at m y c (Stop b) h e = absurd (cc)
  circles_at m y c (Given x) h e =
      let more = among_more m y (Circular c) ((then x).lacking m y e) in
      ap (λ f. and_then f (next ((y, Circular c) ∷ m))) (first.given m ((y, Circular c) ∷ m) x h more)
      ∙ (then x).circles m y c e

  pub steady_then : IsSteady (λ m. and_then (part m) (next m))
  steady_then = record {
    given = λ m n v e w. given_at m n v (part m) refl e w;
    stops = λ m n a e w. stops_at m n a (part m) refl e w;
    needs = λ m n y e w l. needs_at m n y (part m) refl e w l;
    lacking = λ m y e. lacking_at m y (part m) refl e;
    circles = λ m y c e. circles_at m y c (part m) refl e;
  }

-- ---- parts and bodies

fixed_or : {A : Type 0} (k : Key) (o : Option A) → IsFixed (or_spoiled k o)
fixed_or k (Some v) = fixed_given v
fixed_or k None = fixed_stop _

steady_used : (k : Key) → IsSteady (λ m. used m k)
steady_used k =
    steady_then (λ m. taken m k) (λ m v. or_spoiled k (held_as k.kind v)) (steady_taken k)
    (λ v. steady_fixed _ (fixed_or k (held_as k.kind v)))

-- what each part comes to rests on the answers that it uses
pub steady_run : {A : Type 0} (part : Part A) → IsSteady (λ m. run m part)
steady_run (Give v) = steady_fixed _ (fixed_given v)
steady_run (Break site fault) = steady_fixed _ (fixed_stop _)
steady_run (Use k rest) =
    steady_then (λ m. used m k) (λ m held. run m (rest held)) (steady_used k) (λ held. steady_run (rest held))

-- what a part of a kind comes to, as what an answer holds
abbrev held_by : (kind : Kind) → Part (Holds kind) → Facts → Flow Held
held_by kind part m = and_then (run m part) (λ v. Given (hold kind v))

steady_held : (kind : Kind) (part : Part (Holds kind)) → IsSteady (held_by kind part)
steady_held kind part =
    steady_then (λ m. run m part) (λ m v. Given (hold kind v)) (steady_run part) (λ v. steady_fixed _ (fixed_given _))

needs_of : (flow : Flow Held) (y : Key) → finished flow ≡ step.Needs y → flow ≡ Needs y
needs_of (Needs key) y e = let same : key ≡ y = cc in ap Needs same
needs_of (Stop answer) y e = absurd (cc)
needs_of (Given value) y e = absurd (cc)

done_at : (part : Facts → Flow Held) → IsSteady part → (m n : Facts) (a : Answer) (x : Flow Held) → part m ≡ x
    → finished x ≡ step.Done a → IsAmong m n → finished (part n) ≡ step.Done a
done_at part steady m n a (Needs key) h e w = absurd (cc)
done_at part steady m n a (Stop b) h e w = ap finished (steady.stops m n b h w) ∙ e
done_at part steady m n a (Given v) h e w = ap finished (steady.given m n v h w) ∙ e

never_needs : (a : Answer) (y : Key) → step.Done a ≡ step.Needs y → ⊥
never_needs a y e = cc

-- ---- circular answers are handed on, and not made

-- a flow stops with a circular answer only where the answers have it
abbrev CirclesAreUsed : {A : Type 0} → Facts → Flow A → Type 0
CirclesAreUsed m flow = (c : List Key) → flow ≡ Stop (Circular c) → (y : Key) × (get key_cmp m y ≡ Some (Circular c))

circle_then : {A B : Type 0} (m : Facts) (flow : Flow A) (next : A → Flow B) → CirclesAreUsed m flow
    → ((v : A) → CirclesAreUsed m (next v)) → CirclesAreUsed m (and_then flow next)
circle_then m (Needs key) next one behind c e = absurd (cc)
circle_then m (Stop answer) next one behind c e = one c (let same : answer ≡ Circular c = cc in ap Stop same)
circle_then m (Given v) next one behind c e = behind v c e

circle_or : {A : Type 0} (m : Facts) (k : Key) (o : Option A) → CirclesAreUsed m (or_spoiled k o)
circle_or m k (Some v) c e = absurd (cc)
circle_or m k None c e = absurd (cc)

circle_by : (m : Facts) (k : Key) (o : Option Answer) → get key_cmp m k ≡ o → CirclesAreUsed m (used_by k o)
circle_by m k None h c e = absurd (cc)
circle_by m k (Some (Good v)) h c e = absurd (cc)
circle_by m k (Some (Bad d)) h c e = absurd (cc)
circle_by m k (Some (Spoiled q)) h c e = absurd (cc)
circle_by m k (Some (Circular b)) h c e = (k, h ∙ (let same : b ≡ c = cc in ap (λ x. Some (Circular x)) same))

circle_used : (m : Facts) (k : Key) → CirclesAreUsed m (used m k)
circle_used m k =
    circle_then m (taken m k) (λ v. or_spoiled k (held_as k.kind v)) (circle_by m k (get key_cmp m k) refl)
    (λ v. circle_or m k (held_as k.kind v))

circle_run : {A : Type 0} (m : Facts) (part : Part A) → CirclesAreUsed m (run m part)
circle_run m (Give v) = λ c e. absurd (cc)
circle_run m (Break site fault) = λ c e. absurd (cc)
circle_run m (Use k rest) =
    circle_then m (used m k) (λ held. run m (rest held)) (circle_used m k) (λ held. circle_run m (rest held))

circle_held : (kind : Kind) (m : Facts) (part : Part (Holds kind)) → CirclesAreUsed m (held_by kind part m)
circle_held kind m part =
    circle_then m (run m part) (λ v. Given (hold kind v)) (circle_run m part) (λ v c e. absurd (cc))

circle_of : (flow : Flow Held) (c : List Key) → finished flow ≡ step.Done (Circular c) → flow ≡ Stop (Circular c)
circle_of (Needs key) c e = absurd (cc)
circle_of (Stop answer) c e = let same : answer ≡ Circular c = cc in ap Stop same
circle_of (Given value) c e = absurd (cc)

known_circle : (kind : Kind) (known : Result (Holds kind) Diag) (c : List Key) → answer_of kind known ≡ Circular c → ⊥
known_circle kind (Ok value) c e = cc
known_circle kind (Err told) c e = cc

-- each body is sound
pub bodies_are_sound : BodiesAreSound
bodies_are_sound kind (Known known) = record {
  done_stays = λ m n a e w. e;
  needs_stay = λ m n y e w l. absurd (never_needs _ y e);
  needs_lacking = λ m y e. absurd (never_needs _ y e);
  circular_stays = λ m y c e. absurd (never_needs _ y e);
  circular_used = λ m c e. absurd (known_circle kind known c (let same : answer_of kind known ≡ Circular c = cc in same));
}
bodies_are_sound kind (Reads part) =
    let steady = steady_held kind part in
    record {
      done_stays = λ m n a e w. done_at (held_by kind part) steady m n a (held_by kind part m) refl e w;
      needs_stay = λ m n y e w l. ap finished (steady.needs m n y (needs_of (held_by kind part m) y e) w l);
      needs_lacking = λ m y e. steady.lacking m y (needs_of (held_by kind part m) y e);
      circular_stays = λ m y c e. ap finished (steady.circles m y c (needs_of (held_by kind part m) y e));
      circular_used = λ m c e. circle_held kind m part c (circle_of (held_by kind part m) c e);
    }

-- ---- which keys are used

-- the keys that a part can use have P, where the answers of keys hold what H says
abbrev pub UsesOnly : (P : Key → Type 0) (H : (key : Key) → Holds key.kind → Type 0) {A : Type 0} → Part A → Type 0
UsesOnly P H (Give value) = Unit {0}
UsesOnly P H (Break site fault) = Unit {0}
UsesOnly P H (Use key rest) = P key × ((held : Holds key.kind) → H key held → UsesOnly P H (rest held))

-- the same of a body
abbrev pub BodyUsesOnly : (P : Key → Type 0) (H : (key : Key) → Holds key.kind → Type 0) (kind : Kind) → Body kind → Type 0
BodyUsesOnly P H kind (Known known) = Unit {0}
BodyUsesOnly P H kind (Reads part) = UsesOnly P H part

module _ (P : Key → Type 0) (H : (key : Key) → Holds key.kind → Type 0) (facts : Facts)
    (holds : (key : Key) (held : Holds key.kind) → used facts key ≡ Given held → H key held) where
  -- what a flow needs has P
  abbrev NeedsOnly : {A : Type 0} → Flow A → Type 0
  NeedsOnly flow = (y : Key) → flow ≡ Needs y → P y

  only_then : {A B : Type 0} (flow : Flow A) (next : A → Flow B) → NeedsOnly flow
      → ((v : A) → flow ≡ Given v → NeedsOnly (next v)) → NeedsOnly (and_then flow next)
  only_then (Needs key) next one behind y e = one y (let same : key ≡ y = cc in ap Needs same)
  only_then (Stop answer) next one behind y e = absurd (cc)
  only_then (Given value) next one behind y e = behind value refl y e

  only_used : (key : Key) → P key → NeedsOnly (used facts key)
  only_used key p y e = go (taken facts key) refl e
    where
      go : (x : Flow Held) → taken facts key ≡ x → and_then x (λ v. or_spoiled key (held_as key.kind v)) ≡ Needs y → P y
      go (Needs other) h f =
          let same = (need_is key other (get key_cmp facts key) h).1 in
          let is : other ≡ y = cc in
          subst P (same ∙ is) p
      go (Stop answer) h f = absurd (cc)
      go (Given v) h f = absurd ((fixed_or key (held_as key.kind v)).never y f)

  only_run : {A : Type 0} (part : Part A) → UsesOnly P H part → NeedsOnly (run facts part)
  only_run (Give v) uses = λ y e. absurd (cc)
  only_run (Break site fault) uses = λ y e. absurd (cc)
  only_run (Use key rest) uses =
      only_then (used facts key) (λ held. run facts (rest held)) (only_used key uses.0)
      (λ held e. only_run (rest held) (uses.1 held (holds key held e)))

-- what a body needs is among the keys that it can use
pub needs_are_used :
    (P : Key → Type 0) (H : (key : Key) → Holds key.kind → Type 0) (kind : Kind) (body : Body kind) (facts : Facts) (y : Key)
    → BodyUsesOnly P H kind body → ((key : Key) (held : Holds key.kind) → used facts key ≡ Given held → H key held)
    → run_body kind facts body ≡ step.Needs y → P y
needs_are_used P H kind (Known known) facts y uses holds e = absurd (never_needs _ y e)
needs_are_used P H kind (Reads part) facts y uses holds e =
    only_then P H facts holds (run facts part) (λ v. Given (hold kind v)) (only_run P H facts holds part uses)
    (λ v is z f. absurd ((fixed_given (hold kind v)).never z f)) y
    (needs_of (held_by kind part facts) y e)
