-- What the machine of expressions comes to is exact.
use Rattle.std.proofs.Common.{◌≡◌, inl, ⊎_elim, ℕ, zero, suc, ◌+◌, ◌<◌, ◌≤◌, Bool, true, false, List, [], ◌∷◌, ◌++◌, length, take, drop, refl, sym, ap, subst, ◌∙◌, arith, le_refl, append-nil, length-append}
use Rattle.std.specs.Prelude.{Option, Some, None, is_none, nat_lt, slice_get}
use Rattle.std.specs.List.{list_all}
use Rattle.std.proofs.Math.Seq.{take-append_seam}
use Rattle.std.proofs.lemmas.Bool.Decides.{nat_tests}
use Rattle.def_token.specs.Lexical.{Token}
use Rattle.def_tree.specs.ExprTree.{ExprTree}
use Rattle.def_tree.specs.Fault.{Spot, IsUpTo, first_spot, spot_of, fault_at, Continues, IsRefused, IsRead, HasFault}
use Rattle.def_tree.specs.Limits.{Nesting, Entry, expr_entries, whole_entries}
use Rattle.def_tree.specs.Part.{IsExprPart}
use Rattle.law_tree.proofs.Covered.{expr_covered}
use Rattle.law_tree.proofs.Refusals.{refused_within}
use Rattle.law_exprs.proofs.OneTree.{one_expr}
use Rattle.def_reading.specs.Laws.{IsExact}
use Rattle.def_reading.specs.Cursor.{Told, Cursor, At, passed, long_of, before, before_by, earlier, earlier_by, told_by, FarthestFailure}
use Rattle.def_reading.specs.TypeReading.{Ended}
use Rattle.def_reading.specs.Machine.{Expected}
use Rattle.law_machine.proofs.MachineOutcome.{Outcome, Whole, Stopped, run, outcome_of, unless, read_by}
use Rattle.law_types.proofs.AheadFaults.{Within, no_limit, a_limit, Grows, same_limit}
use Rattle.law_exprs.proofs.ExprExtends.{part_extends}
use Rattle.law_exprs.proofs.ExprSpots.{other_spot, finishes_sound, PartBy, part_by, finishes_same, passed_within}
use Rattle.law_types.proofs.LimitSpots.{spot_told, same_place, passed_at, all_none, limited_short, long_view, LongView, is_short, is_long}
use Rattle.law_machine.proofs.MachineComplete.{config}
use Rattle.law_machine.proofs.MachineFollows.{Completion}
use Rattle.law_machine.proofs.MachineGood.{Good, MaybeStands, run_good, long_stands, earlier_stands, before_stands}
use Rattle.law_machine.proofs.MachineGrows.{AtMost, less_far, as_far}
use Rattle.law_machine.proofs.MachineOrigins.{origins}
use Rattle.law_machine.proofs.MachineOthers.{ways}
use Rattle.law_machine.proofs.MachineRun.{SoundOutcome, outcome_sound, comes_whole}
use Rattle.law_machine.proofs.MachineSound.{nothing}
use Rattle.law_machine.proofs.MachineWays.{LeastOf, Verdict, further_on, told_there}

at_most_many : (r b : FarthestFailure) → AtMost r b → r.many ≤ b.many
at_most_many r b (less_far h) = omega (arith, h)
at_most_many r b (as_far h u) = omega (arith, h)

at_most_spot : (r b : FarthestFailure) → AtMost r b → r.many ≡ b.many → IsUpTo (spot_told r.told) (spot_told b.told)
at_most_spot r b (less_far h) k = absurd (omega (arith, h, k))
at_most_spot r b (as_far h u) k = u

none_some : (b : FarthestFailure) → None ≡ Some b → ⊥
none_some b h = cc

-- what is told stands up to the place where it is told
some_told : (this other : Told) → Some this ≡ Some other → this ≡ other
some_told this other h = cc

within_told : (many : ℕ) (told : Told) → Within many (Some told) → told.at ≤ many
within_told many told (a_limit same h) = omega (arith, h)

-- a limit before a place is told before it
data BeforeView (least : ℕ) : Option Told → Type 0 where
  none_before : BeforeView least None
  one_before : (told : Told) → told.at < least → BeforeView least (Some told)

before_view_by : (b : Bool) (least : ℕ) (told : Told) → nat_lt told.at least ≡ b → BeforeView least (before_by b told)
before_view_by true least told h = one_before told (grind (arith, nat_tests, h))
before_view_by false least told h = none_before

before_view : (least : ℕ) (told : Option Told) → BeforeView least (before least told)
before_view least None = none_before
before_view least (Some told) = before_view_by (nat_lt told.at least) least told refl

earlier_at_most : (b : Bool) (deep other told : Told) (many : ℕ) (t : Token) (ts : List Token) → deep.at ≤ many → other.at ≤ many → told_by (earlier_by b deep other) many (t ∷ ts) ≡ Some told → told.at ≤ many
earlier_at_most true deep other told many t ts h k is = subst (λ (x : Told). x.at ≤ many) (some_told other told is) k
earlier_at_most false deep other told many t ts h k is = subst (λ (x : Told). x.at ≤ many) (some_told deep told is) h

told_by_view : (limit o : Option Told) (least many : ℕ) (t : Token) (ts : List Token) (told : Told) → BeforeView least o → Within many limit → least ≤ many → told_by (earlier limit o) many (t ∷ ts) ≡ Some told → told.at ≤ many
told_by_view None o least many t ts told none_before w low h = subst (λ (x : Told). x.at ≤ many) (some_told _ told h) (le_refl many)
told_by_view None o least many t ts told (one_before l k) w low h = subst (λ (x : Told). x.at ≤ many) (some_told l told h) (omega (arith, k, low))
told_by_view (Some deep) o least many t ts told none_before w low h = subst (λ (x : Told). x.at ≤ many) (some_told deep told h) (within_told many deep w)
told_by_view (Some deep) o least many t ts told (one_before l k) w low h = earlier_at_most (nat_lt l.at deep.at) deep l told many t ts (within_told many deep w) (omega (arith, k, low)) h

told_at_most : (limit long : Option Told) (least many : ℕ) (t : Token) (ts : List Token) (told : Told) → Within many limit → least ≤ many → told_by (earlier limit (before least long)) many (t ∷ ts) ≡ Some told → told.at ≤ many
told_at_most limit long least many t ts told w low h = told_by_view limit (before least long) least many t ts told (before_view least long) w low h

take_length : (k : ℕ) (tokens : List Token) → k ≤ length tokens → length (take k tokens) ≡ k
take_length zero tokens h = refl
take_length (suc k) [] h = absurd (omega (arith, h))
take_length (suc k) (t ∷ tokens) h = ap suc (take_length k tokens (omega (arith, h)))

take_drop : (k : ℕ) (tokens : List Token) → tokens ≡ take k tokens ++ drop k tokens
take_drop zero tokens = refl
take_drop (suc k) [] = refl
take_drop (suc k) (t ∷ tokens) = ap (λ ts. t ∷ ts) (take_drop k tokens)

some_tokens : (tokens : List Token) → (tokens ≡ [] → ⊥) → 1 ≤ length tokens
some_tokens [] h = absurd (h refl)
some_tokens (t ∷ tokens) h = omega arith

-- where the machine stops
module _ (around : Nesting) (tokens : List Token) (b : FarthestFailure) (end : Ended tokens) (is : outcome_of around tokens ≡ Stopped (Some b)) where
  abbrev long : Option Told
  long = long_of tokens

  -- each tree of other tokens with a front is told on the way
  verdict : (front tail more rest : List Token) (e : ExprTree) → tokens ≡ front ++ tail → (p : PartBy around long (front ++ more) e rest) → Verdict long (length front) p.n p.lf b
  verdict front tail more rest e are p =
      ways around long b tail more e p.n p.lf rest (suc (length tokens)) None [] Expected 0 None front (length front)
      (subst (λ toks. run around long (suc (length tokens)) None (config [] Expected 0 None toks) ≡ Stopped (Some b)) are is)
      (omega (arith, ap length are)) (subst Ended are end) no_limit p.finishes (omega arith)

  other_up : (front tail more rest : List Token) (e : ExprTree) → tokens ≡ front ++ tail → length front ≡ b.many → (part : IsExprPart (front ++ more) e rest) (p : PartBy around long (front ++ more) e rest) → Verdict long (length front) p.n p.lf b
      → IsUpTo (spot_of (length front) (whole_entries around e)) (spot_told b.told)
  other_up front tail more rest e are many part p (further_on r most h) = absurd (omega (arith, h, at_most_many r b most, many))
  other_up front tail more rest e are many part p (told_there limit least t ts r most same told g w l) =
      subst (λ s. IsUpTo s (spot_told b.told))
      (sym (other_spot around front more tokens e p.n p.lf rest part p.passes (omega (arith, length-append front more)) (omega (arith, ap length are, length-append front tail)) limit least t ts r.told told g w l))
      (at_most_spot r b most (same ∙ many))

  none_far : (front tail more rest : List Token) (e : ExprTree) → b.many < length front → (p : PartBy around long (front ++ more) e rest) → Verdict long (length front) p.n p.lf b → ⊥
  none_far front tail more rest e far p (further_on r most h) = omega (arith, h, at_most_many r b most, far)
  none_far front tail more rest e far p (told_there limit least t ts r most same told g w l) = omega (arith, same, at_most_many r b most, far)

  stopped_by : (c : Completion around long true b [] Expected 0 None tokens) → slice_get tokens b.told.at ≡ Some b.told.token → HasFault IsExprPart (whole_entries around) tokens (fault_at b.told.code b.told.token)
  stopped_by c stands =
      let front = c.front in
      let many : b.many ≡ length front = omega (arith, c.here) in
      let taken : take (length front) tokens ≡ front = ap (take (length front)) c.are ∙ take-append_seam front c.tail in
      let part = finishes_sound (front ++ c.more) c.finish.finishes nothing in
      let p = part_by around long part in
      let same = finishes_same p.finishes c.finish.finishes in
      let passes = p.passes ∙ ap (λ n. At n p.lf c.finish.rest) same.0 ∙ ap (λ l. At c.finish.n l c.finish.rest) same.1 in
      let length_is = ap length c.are ∙ length-append front c.tail in
      let spot : spot_of (length front) (whole_entries around c.finish.e) ≡ spot_told b.told =
      other_spot around front c.more tokens c.finish.e c.finish.n c.finish.lf c.finish.rest part passes (omega (arith, length-append front c.more)) (omega (arith, length_is)) c.limit' c.least c.first c.others b.told
      (subst (λ n. told_by (earlier c.limit' (before c.least long)) n (c.first ∷ c.others) ≡ Some b.told) many c.told)
      (subst (λ n. Grows n c.limit' c.finish.lf) many c.grows) (subst (λ n. Within n c.limit') many c.within) (subst (λ n. LeastOf c.finish.n n c.least) many c.least_of) in
      let low : c.least ≤ b.many = ⊎_elim (λ h. omega (arith, h.1)) (λ h. omega (arith, h.0, h.1)) c.least_of in
      record {
        spot = spot_told b.told;
        refused = record {
          many = length front;
          within = omega (arith, length_is);
          tree = c.finish.e;
          reached = subst (λ toks. Continues IsExprPart toks c.finish.e) (sym taken) (record { more = c.more; rest = c.finish.rest; part = part });
          refused = spot;
          last = λ other goes.
              let part' = subst (λ toks. IsExprPart (toks ++ goes.more) other goes.rest) taken goes.part in
              let p' = part_by around long part' in
              other_up front c.tail goes.more goes.rest other c.are (sym many) part' p' (verdict front c.tail goes.more goes.rest other c.are p');
          stays = λ more far inside other goes.
              let p' = part_by around long goes.part in
              let far' : b.many < length (take more tokens) = omega (arith, far, many, take_length more tokens inside) in
              absurd (none_far (take more tokens) (drop more tokens) goes.more goes.rest other far' p' (verdict (take more tokens) (drop more tokens) goes.more goes.rest other (take_drop more tokens) p'));
          inside = omega (arith, length_is, some_tokens c.tail c.some_tail, many, told_at_most c.limit' long c.least b.many c.first c.others b.told c.within low c.told);
        };
        token = b.told.token;
        stands = stands;
        told = refl;
      }

-- where the machine comes to an expression
earlier_none : (limit o : Option Told) → earlier limit o ≡ None → (limit ≡ None) × (o ≡ None)
earlier_none None o h = (refl, h)
earlier_none (Some deep) None h = absurd (cc)
earlier_none (Some deep) (Some other) h = absurd (earlier_some (nat_lt other.at deep.at) deep other h)
  where
    earlier_some : (b : Bool) (deep other : Told) → earlier_by b deep other ≡ None → ⊥
    earlier_some true deep other h = cc
    earlier_some false deep other h = cc

short_by : (long : Option Told) (tokens : List Token) (at : ℕ) → LongView tokens long → at ≤ length tokens → before at long ≡ None → at ≤ 1024
short_by None tokens at (is_short h) few none = omega (arith, h, few)
short_by (Some told) tokens at (is_long t h) few none = long_by (nat_lt 1024 at) refl none
  where
    long_by : (b : Bool) → nat_lt 1024 at ≡ b → before_by b told ≡ None → at ≤ 1024
    long_by true is none = absurd (cc)
    long_by false is none = grind (arith, nat_tests, is)

told_before : (limit long : Option Told) (at : ℕ) (told : Told) → Within at limit → earlier limit (before at long) ≡ Some told → told.at < at
told_before limit long at told w h = by_view limit (before at long) (before_view at long) w h
  where
    one_of : (b : Bool) (deep other : Told) → deep.at < at → other.at < at → earlier_by b deep other ≡ Some told → told.at < at
    one_of true deep other h k is = subst (λ (x : Told). x.at < at) (some_told other told is) k
    one_of false deep other h k is = subst (λ (x : Told). x.at < at) (some_told deep told is) h

    inside : (deep : Told) → Within at (Some deep) → deep.at < at
    inside deep (a_limit same h) = h

    by_view : (limit o : Option Told) → BeforeView at o → Within at limit → earlier limit o ≡ Some told → told.at < at
    by_view None o none_before w h = absurd (cc)
    by_view None o (one_before l k) w h = subst (λ (x : Told). x.at < at) (some_told l told h) k
    by_view (Some deep) o none_before w h = subst (λ (x : Told). x.at < at) (some_told deep told h) (inside deep w)
    by_view (Some deep) o (one_before l k) w h = one_of (nat_lt l.at deep.at) deep l (inside deep w) k h

-- a spot on the way is the spot of any more tokens
spot_more : (from many more : ℕ) (es : List Entry) (s : Spot) → first_spot from many es ≡ s → s.at < from + many → many ≤ more → first_spot from more es ≡ s
spot_more from zero more es s is inside far = absurd (omega (arith, inside, ap (λ (s : Spot). s.at) is))
spot_more from (suc many) zero es s is inside far = absurd (omega (arith, far))
spot_more from (suc many) (suc more) [] s is inside far = spot_more (suc from) many more [] s is (omega (arith, inside)) (omega (arith, far))
spot_more from (suc many) (suc more) (None ∷ es) s is inside far = spot_more (suc from) many more es s is (omega (arith, inside)) (omega (arith, far))
spot_more from (suc many) (suc more) (Some l ∷ es) s is inside far = is

module _ (around : Nesting) (tokens : List Token) (e : ExprTree) (at : ℕ) (limit : Option Told) (rest : List Token) (part : IsExprPart tokens e rest) (passes : passed (expr_entries around e) (At 0 None tokens) ≡ At at limit rest) where
  covered : length tokens ≡ length (expr_entries around e) + length rest
  covered = expr_covered around part.tree

  at_is : at ≡ length (expr_entries around e)
  at_is = passed_at (expr_entries around e) 0 None tokens (omega (arith, covered)) passes ∙ omega arith

  whole_read : earlier limit (before at (long_of tokens)) ≡ None → IsRead IsExprPart (whole_entries around) tokens e rest
  whole_read h =
      let none = earlier_none limit (before at (long_of tokens)) h in
      let short = short_by (long_of tokens) tokens at (long_view tokens) (omega (arith, at_is, covered)) none.1 in
      record {
        part = part;
        limited = ap (list_all is_none) (limited_short 1024 (expr_entries around e) (omega (arith, short, at_is)))
            ∙ all_none (expr_entries around e) 0 tokens (omega (arith, covered)) (passes ∙ ap (λ l. At at l rest) none.0);
      }

  whole_fault : (told : Told) → earlier limit (before at (long_of tokens)) ≡ Some told → Ended rest → slice_get tokens told.at ≡ Some told.token
      → HasFault IsExprPart (whole_entries around) tokens (fault_at told.code told.token)
  whole_fault told h end stands =
      let within : Within at limit = passed_within (expr_entries around e) 0 None tokens no_limit passes in
      let inside = told_before limit (long_of tokens) at told within h in
      let few : at ≤ length tokens = omega (arith, at_is, covered) in
      let front = take at tokens in
      let many : length front ≡ at = take_length at tokens few in
      let are = take_drop at tokens in
      let spot : spot_of at (whole_entries around e) ≡ spot_told told =
      ap (λ n. spot_of n (whole_entries around e)) (sym many)
      ∙ other_spot around front (drop at tokens) tokens e at limit rest (subst (λ toks. IsExprPart toks e rest) are part) (ap (λ toks. passed (expr_entries around e) (At 0 None toks)) (sym are) ∙ passes)
      (omega (arith, ap length are, many, few)) (omega (arith, many, few)) limit at told.token tokens told
      (ap (λ o. told_by o (length front) (told.token ∷ tokens)) h) same_limit (subst (λ n. Within n limit) (sym many) within) (inl (omega (arith, many), sym many)) in
      record {
        spot = spot_told told;
        refused = subst (λ toks. IsRefused IsExprPart (whole_entries around) toks (spot_told told)) (append-nil tokens)
            (refused_within IsExprPart (whole_entries around) tokens [] (spot_told told) e
            (record { more = []; rest = rest; part = subst (λ toks. IsExprPart toks e rest) (sym (append-nil tokens)) part })
            (omega (arith, inside, few))
            (λ more rest' other part' n far.
            let same = (one_expr (tokens ++ more) rest' (rest ++ more) other e part' (part_extends more part end)).0 in
            ap (λ e. spot_of n (whole_entries around e)) same ∙ spot_more 0 at n (whole_entries around e) (spot_told told) spot (omega (arith, inside)) (omega (arith, far, few))));
        token = told.token;
        stands = stands;
        told = refl;
      }

  whole_told : (o : Option Told) → earlier limit (before at (long_of tokens)) ≡ o → Ended rest → MaybeStands tokens o → IsExact IsExprPart (whole_entries around) tokens (unless o e rest)
  whole_told None h end stands = whole_read h
  whole_told (Some told) h end stands = whole_fault told h end stands

whole_of : (o : Outcome) (e : ExprTree) (place : Cursor) (e' : ExprTree) (place' : Cursor) (reach reach' : Option FarthestFailure) → o ≡ Whole e place reach → o ≡ Whole e' place' reach' → place ≡ place'
whole_of o e place e' place' reach reach' h k = cc

outcome_told : (around : Nesting) (tokens : List Token) (o : Outcome) → Ended tokens → outcome_of around tokens ≡ o → SoundOutcome tokens o → Good tokens o → IsExact IsExprPart (whole_entries around) tokens (read_by (long_of tokens) o)
outcome_told around tokens (Whole e (At at limit rest) reach) end is part good =
    let c = comes_whole around part in
    let same = same_place (whole_of (outcome_of around tokens) e (At at limit rest) e (At c.at c.limit rest) reach c.reach is c.is) in
    whole_told around tokens e at limit rest part (c.passes ∙ ap (λ n. At n c.limit rest) (sym same.0) ∙ ap (λ l. At at l rest) (sym same.1)) (earlier limit (before at (long_of tokens))) refl good.0
    (earlier_stands tokens limit (before at (long_of tokens)) good.1 (before_stands tokens at (long_of tokens) (long_stands tokens)))
outcome_told around tokens (Stopped None) end is part good = absurd good
outcome_told around tokens (Stopped (Some b)) end is part good =
    ⊎_elim (λ h. absurd (none_some b h)) (λ c. stopped_by around tokens b end is c good)
    (origins around (long_of tokens) b (suc (length tokens)) None [] Expected 0 None tokens is (omega arith) end no_limit)

pub outcome_is_exact : (around : Nesting) (tokens : List Token) → Ended tokens → IsExact IsExprPart (whole_entries around) tokens (read_by (long_of tokens) (outcome_of around tokens))
outcome_is_exact around tokens end =
    outcome_told around tokens (outcome_of around tokens) end refl (outcome_sound around tokens)
    (run_good around tokens (suc (length tokens)) None [] Expected 0 None tokens tt (record { front = []; are = refl; is_at = refl; stands = tt }) end (omega arith))
