-- Places and limits of the machine only grow, and what it is told of the ways that it leaves.
use Rattle.std.proofs.Common.{◌≡◌, ℕ, zero, suc, ◌+◌, ◌<◌, ◌≤◌, Bool, true, false, List, [], ◌∷◌, length, refl, sym, ap, subst, ◌∙◌, arith, le_refl}
use Rattle.std.specs.Prelude.{Option, Some, None, replicate, nat_lt, ◌||◌, ◌&&◌, ◌==◌}
use Rattle.std.proofs.lemmas.Bool.{and_parts, or_parts}
use Rattle.std.proofs.lemmas.Bool.Decides.{nat_tests}
use Rattle.std.proofs.lemmas.List.{length-replicate}
use Rattle.def_token.specs.Lexical.{Token}
use Rattle.def_tree.specs.ExprTree.{ExprTree}
use Rattle.def_tree.specs.Expressions.{TakesTypeArgs}
use Rattle.def_tree.specs.Fault.{Spot, IsUpTo, at_an_earlier, at_the_same}
use Rattle.def_tree.specs.Limits.{Nesting, plain, operator_tokens}
use Rattle.def_tree.specs.Types.{IsTypeArgs, type_args}
use Rattle.def_tree.specs.TypeTree.{TypeTrees}
use Rattle.law_tree.proofs.Covered.{operator_covered}
use Rattle.def_reading.specs.Cursor.{Told, Cursor, At, passed, FarthestFailure, is_later, counts_more, further, further_by}
use Rattle.def_reading.specs.TypeAhead.{LookAhead, Found, taken_ahead}
use Rattle.def_reading.specs.Machine.{Frame, Mode, Config, Step, On, Ends, Refused, nesting, step_at, step}
use Rattle.law_machine.proofs.MachineOutcome.{Outcome, Whole, Stopped}
use Rattle.law_types.proofs.AheadFaults.{Grows, same_limit, grows_noted, grows_more, drive_grows, args_go}
use Rattle.law_types.proofs.AheadSound.{taken_found}
use Rattle.law_types.proofs.LimitSpots.{same_place, spot_told, passed_at}
use Rattle.law_machine.proofs.MachineMoves.{Moves, an_atom, bare, without, generic, converts, prefixes, opens_group, no_arguments, opens_conversion, casts, names_member, calls, indexes, dots, asks, chooses, separates, closes_group, closes_conversion, closes_call, closes_index, operates, ends, stuck, stuck_behind, exhausted, view}
use Rattle.law_machine.proofs.MachineRun.{operator_some}
use Rattle.law_types.proofs.TypeStages.{Head, Closed}

pub replicated : (k at : ℕ) (limit : Option Told) (ts : List Token) {at' : ℕ} {limit' : Option Told} {behind : List Token} → k ≤ length ts → passed (replicate k plain) (At at limit ts) ≡ At at' limit' behind → at' ≡ at + k
replicated k at limit ts h is = passed_at (replicate k plain) at limit ts (omega (arith, h, length-replicate k plain)) is ∙ ap (λ n. at + n) (length-replicate k plain)

-- where a step leads, a later place stands, and the limit is the same unless one ends on the way
abbrev pub GrowsTo : ℕ → Option Told → Cursor → Type 0
GrowsTo at limit (At at' limit' rest) = (at < at') × Grows at limit limit'

abbrev pub IsThere : ℕ → Option Told → List Token → Cursor → Type 0
IsThere at limit ts place = place ≡ At at limit ts

abbrev pub GrowsStep : ℕ → Option Told → List Token → Step → Type 0
GrowsStep at limit ts (On other c) = GrowsTo at limit c.place
GrowsStep at limit ts (Ends e place) = place ≡ At at limit ts
GrowsStep at limit ts (Refused place) = Unit {0}

found_same : (look : LookAhead TypeTrees) (args : TypeTrees) (p q : Cursor) → look ≡ Found args p → look ≡ Found args q → p ≡ q
found_same look args p q h k = cc

nothing_taken : {tokens rest : List Token} {args : TypeTrees} → IsTypeArgs tokens args rest → tokens ≡ [] → ⊥
nothing_taken (type_args h l c) is = cc

pub args_exact : {t : Token} {ts rest : List Token} {args : TypeTrees} (types at : ℕ) (limit : Option Told) (takes : TakesTypeArgs (t ∷ ts) args rest) → (at' : ℕ) (limit' : Option Told)
    → taken_ahead types at limit (t ∷ ts) ≡ Found args (At at' limit' rest) → (at' ≡ (args_go takes types at limit).pieces.at') × (limit' ≡ (args_go takes types at limit).pieces.limit')
args_exact {t = t} {ts = ts} {rest = rest} {args = args} types at limit takes at' limit' is =
    let f = taken_found takes types at limit in
    let g = args_go takes types at limit in
    let one = same_place (found_same (taken_ahead types at limit (t ∷ ts)) args (At at' limit' rest) (At f.at f.limit rest) is f.found) in
    let two = same_place (sym f.passes ∙ ap (λ es. passed es (At at limit (t ∷ ts))) g.entries ∙ g.pieces.passes) in
    (one.0 ∙ two.0, one.1 ∙ two.1)

pub args_place : {ts rest : List Token} {args : TypeTrees} (types at : ℕ) (limit : Option Told) → TakesTypeArgs ts args rest → (at' : ℕ) (limit' : Option Told)
    → taken_ahead types at limit ts ≡ Found args (At at' limit' rest) → (at < at') × Grows at limit limit'
args_place {ts = []} types at limit takes at' limit' is = absurd (nothing_taken takes.arguments refl)
args_place {ts = t ∷ ts} types at limit takes at' limit' is =
    let g = args_go takes types at limit in
    let same = args_exact types at limit takes at' limit' is in (
      omega (arith, same.0, g.pieces.is_at),
      subst (Grows at limit) (sym same.1) (grows_more at (suc at) limit limit g.pieces.limit' (omega arith) same_limit
          (drive_grows (Head types zero) Closed (suc at) limit g.pieces.limit' g.pieces.piece g.pieces.drives.is)),
    )

pub step_grows : {around : Nesting} {long : Option Told} {fs : List Frame} {mode : Mode} {at : ℕ} {limit : Option Told} {ts : List Token} {s : Step} → Moves around long fs mode at limit ts s → GrowsStep at limit ts s
step_grows (an_atom a) = (omega arith, same_limit)
step_grows (bare n b) = (omega arith, same_limit)
step_grows (without n b none at' limit' rest is) = (omega arith, same_limit)
step_grows {around = around} {fs = fs} {at = at} {limit = limit} (generic n b args at' limit' rest takes is) =
    let p = args_place (nesting around fs).types (suc at) limit takes at' limit' is in
    (omega (arith, p.0), grows_more at (suc at) limit limit limit' (omega arith) same_limit p.1)
step_grows (converts s i) = (omega arith, same_limit)
step_grows {at = at} {limit = limit} (prefixes {t = t} i) = (omega arith, grows_noted at limit _ t)
step_grows {at = at} {limit = limit} (opens_group {t = t} i) = (omega arith, grows_noted at limit _ t)
step_grows (no_arguments i) = (omega arith, same_limit)
step_grows {at = at} {limit = limit} (opens_conversion {t = t} i) = (omega arith, grows_noted at limit _ t)
step_grows (casts i) = (omega arith, same_limit)
step_grows (names_member i) = (omega arith, same_limit)
step_grows {at = at} {limit = limit} (calls {t = t} i) = (omega arith, grows_noted at limit _ t)
step_grows {at = at} {limit = limit} (indexes {t = t} i) = (omega arith, grows_noted at limit _ t)
step_grows (dots i) = (omega arith, same_limit)
step_grows (asks i) = (omega arith, same_limit)
step_grows (chooses i w) = (omega arith, same_limit)
step_grows (separates i w) = (omega arith, same_limit)
step_grows (closes_group i w) = (omega arith, same_limit)
step_grows (closes_conversion i w) = (omega arith, same_limit)
step_grows (closes_call i w) = (omega arith, same_limit)
step_grows (closes_index i w) = (omega arith, same_limit)
step_grows {at = at} {limit = limit} (operates {t = t} {ts = ts} op behind next sign passes) =
    let covered = operator_covered op (t ∷ ts) behind sign in
    let is = replicated (operator_tokens op) at limit (t ∷ ts) (omega (arith, covered)) passes in
    (omega (arith, is, operator_some op), same_limit)
step_grows (ends w end) = refl
step_grows (stuck each) = tt
step_grows (stuck_behind w g j k) = tt
step_grows exhausted = tt

-- the machine comes to an expression
pub data Finishes (around : Nesting) (long : Option Told) : Config → ExprTree → ℕ → Option Told → List Token → Type 0 where
  finished : {c : Config} {e : ExprTree} {n : ℕ} {lf : Option Told} {rest : List Token} → step around long c ≡ Ends e (At n lf rest) → Finishes around long c e n lf rest
  goes_on : {c : Config} {e : ExprTree} {n : ℕ} {lf : Option Told} {rest : List Token} (other : Option FarthestFailure) (d : Config) → step around long c ≡ On other d → Finishes around long d e n lf rest → Finishes around long c e n lf rest

abbrev pub GrowsFrom : Cursor → ℕ → Option Told → Type 0
GrowsFrom (At at limit ts) n lf = (at ≤ n) × Grows at limit lf

place_grows : (place : Cursor) (at : ℕ) (limit : Option Told) (n : ℕ) (lf : Option Told) → GrowsTo at limit place → GrowsFrom place n lf → (at ≤ n) × Grows at limit lf
place_grows (At at' limit' rest) at limit n lf h k = (omega (arith, h.0, k.0), grows_more at at' limit limit' lf (omega (arith, h.0)) h.1 k.1)

pub step_grows_at : (around : Nesting) (long : Option Told) (mode : Mode) (fs : List Frame) (at : ℕ) (limit : Option Told) (ts : List Token) → GrowsStep at limit ts (step_at around long mode fs (At at limit ts))
step_grows_at around long mode fs at limit ts = step_grows (view around long mode fs at limit ts)

finish_by : (around : Nesting) (long : Option Told) (fs : List Frame) (mode : Mode) (place : Cursor) (e : ExprTree) (n : ℕ) (lf : Option Told) (rest : List Token) → step_at around long mode fs place ≡ Ends e (At n lf rest) → GrowsFrom place n lf
finish_by around long fs mode (At at limit ts) e n lf rest s =
    let same = same_place (subst (GrowsStep at limit ts) s (step_grows_at around long mode fs at limit ts)) in
    (omega (arith, same.0), subst (Grows at limit) (sym same.1) same_limit)

goes_by : (around : Nesting) (long : Option Told) (fs : List Frame) (mode : Mode) (place : Cursor) (other : Option FarthestFailure) (d : Config) (n : ℕ) (lf : Option Told) → step_at around long mode fs place ≡ On other d → GrowsFrom d.place n lf
    → GrowsFrom place n lf
goes_by around long fs mode (At at limit ts) other d n lf s h =
    place_grows d.place at limit n lf (subst (GrowsStep at limit ts) s (step_grows_at around long mode fs at limit ts)) h

pub finishes_grows : {around : Nesting} {long : Option Told} {c : Config} {e : ExprTree} {n : ℕ} {lf : Option Told} {rest : List Token} → Finishes around long c e n lf rest → GrowsFrom c.place n lf
finishes_grows {around = around} {long = long} {c = c} {e = e} {n = n} {lf = lf} {rest = rest} (finished s) = finish_by around long c.frames c.mode c.place e n lf rest s
finishes_grows {around = around} {long = long} {c = c} {n = n} {lf = lf} (goes_on other d s f) = goes_by around long c.frames c.mode c.place other d n lf s (finishes_grows f)

-- ways that count no more than others
pub data AtMost (this other : FarthestFailure) : Type 0 where
  less_far : this.many < other.many → AtMost this other
  as_far : this.many ≡ other.many → IsUpTo (spot_told this.told) (spot_told other.told) → AtMost this other

up_to_same : (s : Spot) → IsUpTo s s
up_to_same s = at_the_same refl (le_refl s.code)

up_to_more : (s t u : Spot) → IsUpTo s t → IsUpTo t u → IsUpTo s u
up_to_more s t u (at_an_earlier h) (at_an_earlier k) = at_an_earlier (omega (arith, h, k))
up_to_more s t u (at_an_earlier h) (at_the_same k c) = at_an_earlier (omega (arith, h, k))
up_to_more s t u (at_the_same h c) (at_an_earlier k) = at_an_earlier (omega (arith, h, k))
up_to_more s t u (at_the_same h c) (at_the_same k d) = at_the_same (h ∙ k) (omega (arith, c, d))

pub at_most_same : (r : FarthestFailure) → AtMost r r
at_most_same r = as_far refl (up_to_same (spot_told r.told))

pub at_most_more : (r s t : FarthestFailure) → AtMost r s → AtMost s t → AtMost r t
at_most_more r s t (less_far h) (less_far k) = less_far (omega (arith, h, k))
at_most_more r s t (less_far h) (as_far k u) = less_far (omega (arith, h, k))
at_most_more r s t (as_far h u) (less_far k) = less_far (omega (arith, h, k))
at_most_more r s t (as_far h u) (as_far k w) = as_far (h ∙ k) (up_to_more _ _ _ u w)

-- a test of the order
later_is : (this other : Told) → is_later this other ≡ true → IsUpTo (spot_told other) (spot_told this)
later_is this other h = later_by (nat_lt other.at this.at) this other refl h
  where
    later_by : (b : Bool) (this other : Told) → nat_lt other.at this.at ≡ b → (b || (this.at == other.at && nat_lt this.code other.code)) ≡ true → IsUpTo (spot_told other) (spot_told this)
    later_by true this other h k = at_an_earlier (grind (arith, nat_tests, h))
    later_by false this other h k =
        let both = and_parts (this.at == other.at) (nat_lt this.code other.code) k in
        let same : this.at ≡ other.at = grind (arith, nat_tests, both.0) in
        let less : this.code < other.code = grind (arith, nat_tests, both.1) in
        at_the_same (sym same) (omega (arith, less))

not_later : (this other : Told) → is_later this other ≡ false → IsUpTo (spot_told this) (spot_told other)
not_later this other h =
    let both = or_parts (nat_lt other.at this.at) _ h in
    let up : this.at ≤ other.at = grind (arith, nat_tests, both.0) in
    not_by (this.at == other.at) this other up refl both.1
  where
    not_by : (b : Bool) (this other : Told) → this.at ≤ other.at → (this.at == other.at) ≡ b → (b && nat_lt this.code other.code) ≡ false → IsUpTo (spot_told this) (spot_told other)
    not_by true this other up h k =
        let same : this.at ≡ other.at = grind (arith, nat_tests, h) in
        let code : other.code ≤ this.code = grind (arith, nat_tests, k) in at_the_same same code
    not_by false this other up h k =
        let other' : this.at < other.at = grind (arith, nat_tests, h, up) in at_an_earlier other'

counts_is : (this other : FarthestFailure) → counts_more this other ≡ true → AtMost other this
counts_is this other h = counts_by (nat_lt other.many this.many) this other refl h
  where
    counts_by : (b : Bool) (this other : FarthestFailure) → nat_lt other.many this.many ≡ b → (b || (this.many == other.many && is_later this.told other.told)) ≡ true → AtMost other this
    counts_by true this other h k = less_far (grind (arith, nat_tests, h))
    counts_by false this other h k =
        let both = and_parts (this.many == other.many) (is_later this.told other.told) k in
        let same : this.many ≡ other.many = grind (arith, nat_tests, both.0) in
        as_far (sym same) (later_is this.told other.told both.1)

counts_not : (this other : FarthestFailure) → counts_more this other ≡ false → AtMost this other
counts_not this other h =
    let both = or_parts (nat_lt other.many this.many) _ h in
    let up : this.many ≤ other.many = grind (arith, nat_tests, both.0) in
    not_by (this.many == other.many) this other up refl both.1
  where
    not_by : (b : Bool) (this other : FarthestFailure) → this.many ≤ other.many → (this.many == other.many) ≡ b → (b && is_later this.told other.told) ≡ false → AtMost this other
    not_by true this other up h k = as_far (grind (arith, nat_tests, h)) (not_later this.told other.told k)
    not_by false this other up h k =
        let less : this.many < other.many = grind (arith, nat_tests, h, up) in less_far less

-- what counts of two counts at least as much as each
pub data Above (r : FarthestFailure) : Option FarthestFailure → Type 0 where
  above : (b : FarthestFailure) → AtMost r b → Above r (Some b)

further_first : (b : Bool) (this other : FarthestFailure) → counts_more other this ≡ b → Above this (further_by b this other)
further_first true this other h = above other (counts_is other this h)
further_first false this other h = above this (at_most_same this)

further_second : (b : Bool) (this other : FarthestFailure) → counts_more other this ≡ b → Above other (further_by b this other)
further_second true this other h = above other (at_most_same other)
further_second false this other h = above this (counts_not other this h)

pub above_first : (this : FarthestFailure) (other : Option FarthestFailure) → Above this (further (Some this) other)
above_first this None = above this (at_most_same this)
above_first this (Some other) = further_first (counts_more other this) this other refl

pub above_second : (this : Option FarthestFailure) (other : FarthestFailure) → Above other (further this (Some other))
above_second None other = above other (at_most_same other)
above_second (Some this) other = further_second (counts_more other this) this other refl

pub above_more : (r : FarthestFailure) (this other : Option FarthestFailure) → Above r this → Above r (further this other)
above_more r (Some s) other (above same h) = above_up r s (further (Some s) other) h (above_first s other)
  where
    above_up : (r s : FarthestFailure) (o : Option FarthestFailure) → AtMost r s → Above s o → Above r o
    above_up r s (Some b) h (above same k) = above b (at_most_more r s b h k)
    above_up r s None h a = elim a [ ]
above_more r None other a = elim a [ ]

-- what stood before the machine stops counts no more than what it stops with
abbrev pub AboveStop : FarthestFailure → Outcome → Type 0
AboveStop r (Whole e place reach) = Unit {0}
AboveStop r (Stopped reach) = Above r reach
