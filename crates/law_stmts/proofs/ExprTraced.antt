-- The reader of expressions: what it reads, and where the ways that it notes come from.
use Rattle.std.proofs.Common.{◌≡◌, ◌⊎◌, inl, inr, ⊎_elim, ℕ, zero, suc, ◌+◌, ◌≤◌, Bool, true, false, List, [], ◌∷◌, ◌++◌, length, drop, refl, sym, ap, subst, ◌∙◌, arith, length-append}
use Rattle.std.specs.Prelude.{Option, Some, None, nat_lt, slice_get}
use Rattle.std.proofs.lemmas.Bool.{false≢true}
use Rattle.def_token.specs.Lexical.{Token}
use Rattle.def_tree.specs.ExprTree.{ExprTree}
use Rattle.def_tree.specs.Limits.{Nesting, Entry, whole_entries}
use Rattle.def_tree.specs.Part.{IsExprPart}
use Rattle.law_tree.proofs.StmtsCovered.{whole_covered}
use Rattle.def_reading.specs.Machine.{Frame, Mode, Expected, Config, Step, On, Ends, Refused, step_at}
use Rattle.def_reading.specs.Cursor.{Told, Cursor, At, told_at, before, before_by, FarthestFailure, further}
use Rattle.def_reading.specs.Try.{Try, Reads, Stops, way_by, assign_ends, end_by, run_by, run, expr_in, long_from}
use Rattle.def_reading.specs.TypeReading.{Ended}
use Rattle.law_exprs.proofs.ExprComes.{expr_is}
use Rattle.law_exprs.proofs.ExprHolds.{EndedAt, EndedStep, step_ended}
use Rattle.law_exprs.proofs.ExprStands.{expr_stands, no_lead}
use Rattle.law_stmts.proofs.ExprTraces.{Wholes, covered, Shifted, shifted}
use Rattle.law_machine.proofs.MachineFollows.{Completion, Over, covers, assigned}
use Rattle.law_machine.proofs.MachineGood.{Stands, MaybeStands, Placed, drop_stands}
use Rattle.law_machine.proofs.MachineGrows.{finishes_grows}
use Rattle.law_machine.proofs.MachineKinds.{kind_of}
use Rattle.law_machine.proofs.MachineRun.{step_holds}
use Rattle.law_machine.proofs.MachineSound.{HoldsAt, SoundStep, nothing}
use Rattle.law_exprs.proofs.Quiet.{Kept, Both, Fine, kept_front}
use Rattle.law_exprs.proofs.RunOrigins.{recorded, Began, here, on, expr_origins}
use Rattle.law_exprs.proofs.TryComes.{Noted}
use Rattle.law_exprs.proofs.TryTraces.{spot_by, spot_within, Completes, Gives, Traced, Traces}

-- a part, whose tokens end, before which no assignment begins where none may stand
record PartRead (a : Bool) (tokens : List Token) (e : ExprTree) (rest : List Token) : Type 0 where
  part : IsExprPart tokens e rest
  end : Ended rest
  no_assign : assign_ends a rest ≡ false

-- what is read is such a part
abbrev ReadsPart : Bool → List Token → Try ExprTree → Type 0
ReadsPart a tokens (Reads e (At at limit rest) reach) = PartRead a tokens e rest
ReadsPart a tokens (Stops reach) = Unit {0}

module _ (around : Nesting) (assigns' : Bool) (long : Option Told) (tokens : List Token) where
  -- where a whole expression stands
  end_part : (c : Bool) (e : ExprTree) (at : ℕ) (limit : Option Told) (ts : List Token) (reach : Option FarthestFailure) → assign_ends assigns' ts ≡ c → IsExprPart tokens e ts → Ended ts
      → ReadsPart assigns' tokens (end_by around assigns' long c reach e (At at limit ts))
  end_part true e at limit ts reach is p end = tt
  end_part false e at limit ts reach is p end = record { part = p; end = end; no_assign = is }

  -- behind a step
  by_part : (more : Option FarthestFailure → Config → Try ExprTree) (mode : Mode) (reach : Option FarthestFailure) (at : ℕ) (s : Step) → SoundStep tokens s → EndedStep at s
      → ((reach : Option FarthestFailure) (c : Config) → HoldsAt tokens c.mode c.frames c.place → EndedAt c.place → ReadsPart assigns' tokens (more reach c)) → ReadsPart assigns' tokens (run_by around assigns' long more mode reach s)
  by_part more mode reach at (On other c) h e each = each (further reach (way_by assigns' mode other)) c h e
  by_part more mode reach at (Ends expr (At at' limit ts)) h e each = end_part (assign_ends assigns' ts) expr at' limit ts reach refl h e
  by_part more mode reach at (Refused place) h e each = tt

  -- behind all steps
  run_part : (turns : ℕ) (reach : Option FarthestFailure) (fs : List Frame) (mode : Mode) (place : Cursor) → HoldsAt tokens mode fs place → EndedAt place
      → ReadsPart assigns' tokens (run around assigns' long turns reach (record { frames = fs; mode = mode; place = place }))
  run_part zero reach fs mode place h e = tt
  run_part (suc turns) reach fs mode (At at limit ts) h e =
      by_part (run around assigns' long turns) mode reach at (step_at around long mode fs (At at limit ts)) (step_holds tokens around long mode fs (At at limit ts) h) (step_ended around long (kind_of around long mode fs at limit ts) e)
      (λ reach c holds end. run_part turns reach c.frames c.mode c.place holds end)

-- what the reader of expressions reads
reads_part : (around : Nesting) (assigns' : Bool) (at : ℕ) (limit : Option Told) (tokens : List Token) (start : Option FarthestFailure) → Ended tokens → ReadsPart assigns' tokens (expr_in assigns' around start (At at limit tokens))
reads_part around assigns' at limit tokens start end = run_part around assigns' (long_from (At at limit tokens)) tokens (suc (length tokens)) start [] Expected (At at limit tokens) nothing end

-- what is read is at one place
reads_same : (look : Try ExprTree) (e e' : ExprTree) (p q : Cursor) (r r' : Option FarthestFailure) → look ≡ Reads e p r → look ≡ Reads e' q r' → p ≡ q
reads_same look e e' p q r r' h k = cc

-- what stands behind an expression may stand in place of what stood there
piece_both : (first : Token) (others rest new : List Token) → Kept rest new → Both (first ∷ (others ++ rest)) (first ∷ (others ++ new))
piece_both first others rest new k = record { kept = kept_front (first ∷ others) rest new k; no_else = λ h. h }

-- an expression that is read, and before which tokens it stands
expr_gives : (all : List Token) (around : Nesting) (assigns' : Bool) (at : ℕ) (limit : Option Told) (tokens : List Token) (start : Option FarthestFailure) (e : ExprTree) (at' : ℕ) (limit' : Option Told) (rest : List Token) (reach : Option FarthestFailure) → Noted at limit
    → expr_in assigns' around start (At at limit tokens) ≡ Reads e (At at' limit' rest) reach → PartRead assigns' tokens e rest → Gives all (Wholes around) Kept Both at limit tokens e at' limit' rest
expr_gives all around assigns' at limit tokens start e at' limit' rest reach n is p =
    let s = expr_stands p.part.tree p.end (no_lead rest p.part.ended) in
    let g = (expr_is assigns' around p.part.tree p.part.ended p.no_assign).comes at limit start in
    let same : At g.at g.limit rest ≡ At at' limit' rest = reads_same (expr_in assigns' around start (At at limit tokens)) e e (At g.at g.limit rest) (At at' limit' rest) g.reach reach g.is is in
    record {
      entries = whole_entries around e;
      piece = s.piece;
      are = s.are;
      stable = λ other k. (s.stands other k, refl);
      count = omega (arith, whole_covered around p.part.tree, ap length s.are, length-append s.piece rest);
      passes = g.passes n ∙ same;
      end = p.end;
      alike = λ other k. like s.piece s.some s.are other k;
    }
  where
    like : (piece : List Token) → (piece ≡ [] → ⊥) → tokens ≡ piece ++ rest → (other : List Token) → Kept rest other → Both tokens (piece ++ other)
    like [] some are other k = absurd (some refl)
    like (t ∷ piece) some are other k = subst (λ ts. Both ts (t ∷ (piece ++ other))) (sym are) (piece_both t piece rest other k)

-- a limit that ends at the first token is not told before it
here_spot : (limit : Option Told) (at : ℕ) (es : List Entry) → spot_by (before at limit) at zero es ≡ spot_by limit at zero es
here_spot None at es = refl
here_spot (Some told) at es = here_by (nat_lt told.at at) told at es refl
  where
    here_by : (c : Bool) (told : Told) (at : ℕ) (es : List Entry) → nat_lt told.at at ≡ c → spot_by (before_by c told) at zero es ≡ spot_by (Some told) at zero es
    here_by true told at es is = refl
    here_by false told at es is = ap (λ c. spot_within c told at) (sym is) ∙ ap (λ n. spot_within (nat_lt told.at n) told n) (omega arith)

-- a token behind others
slice_front : (front ts : List Token) (k : ℕ) → slice_get (front ++ ts) (length front + k) ≡ slice_get ts k
slice_front [] ts k = ap (slice_get ts) (omega arith)
slice_front (t ∷ front) ts k = let next : suc (length front) + k ≡ suc (length front + k) = omega arith in ap (slice_get (t ∷ (front ++ ts))) next ∙ slice_front front ts k

-- the token where an expression is too long stands among all tokens
pub long_stands : (all : List Token) (at : ℕ) (limit : Option Told) (tokens : List Token) → Placed all at limit tokens → MaybeStands all (long_from (At at limit tokens))
long_stands all at limit tokens p =
    drop_stands all tokens 1024 at (λ k. sym (ap (λ ts. slice_get ts (at + k)) p.are ∙ ap (λ n. slice_get (p.front ++ tokens) (n + k)) p.is_at ∙ slice_front p.front tokens k))

-- what is told before a place stands up to it
before_noted_by : (c : Bool) (at : ℕ) (told : Told) → told.at ≤ at → Noted at (before_by c told)
before_noted_by true at told n = n
before_noted_by false at told n = tt

-- a limit before a place stands up to it
before_noted : (at : ℕ) (limit : Option Told) → Noted at limit → Noted at (before at limit)
before_noted at None n = tt
before_noted at (Some told) n = before_noted_by (nat_lt told.at at) at told n

-- where a way of an expression comes from
pub data ExprOrigin (all : List Token) (around : Nesting) (assigns' : Bool) (at : ℕ) (limit : Option Told) (tokens : List Token) (b : FarthestFailure) : Type 0 where
  completes : Completes all (Wholes around) Fine Both at limit tokens b → ExprOrigin all around assigns' at limit tokens b
  shifts : assigns' ≡ true → Shifted all around at limit tokens b → ExprOrigin all around assigns' at limit tokens b

-- a way that ends where it begins has no tokens
zero_front : (front : List Token) (at many : ℕ) → many ≡ at → many ≡ at + length front → length front ≡ zero
zero_front front at many h k = omega (arith, h, k)

-- a tree for the way that ends at the first token
at_first : (all : List Token) (around : Nesting) (at : ℕ) (limit : Option Told) (tokens : List Token) (b : FarthestFailure) → b.many ≡ at → Completes all (Wholes around) Fine Both at (before at limit) tokens b → Completes all (Wholes around) Fine Both at limit tokens b
at_first all around at limit tokens b many c =
    let none = zero_front c.front at b.many many c.here in
    record {
      front = c.front;
      tail = c.tail;
      are = c.are;
      here = c.here;
      more = c.more;
      tree = c.tree;
      entries = c.entries;
      whole = c.whole;
      room = c.room;
      spot = ap (λ k. spot_by limit at k c.entries) none ∙ sym (here_spot limit at c.entries) ∙ ap (λ k. spot_by (before at limit) at k c.entries) (sym none) ∙ c.spot;
      alike = c.alike;
      stands = c.stands;
    }

module _ (all : List Token) (around : Nesting) (assigns' : Bool) (at : ℕ) (tokens : List Token) (b : FarthestFailure) (there : Stands all b.told) where
  -- where the expression is too long
  abbrev long : Option Told
  long = told_at 112 (at + 1024) (drop 1024 tokens)

  -- the tree, where the way goes on
  on_origin : (limit : Option Told) (c : Completion around long assigns' b [] Expected at limit tokens) → Noted at limit → Over assigns' b.many c.finish.n c.finish.rest → ExprOrigin all around assigns' at limit tokens b
  on_origin limit c n (covers h) = completes (covered around long assigns' b at limit tokens c all there n refl h)
  on_origin limit c n (assigned p q r may g j k rest_is less most) = shifts may (shifted around long assigns' b at limit tokens c p q r g j k rest_is all there n refl most)

  -- the tree, where the way ends at the first token
  here_origin : (limit : Option Told) (c : Completion around long assigns' b [] Expected at (before at limit) tokens) → Noted at limit → b.many ≡ at → Over assigns' b.many c.finish.n c.finish.rest → ExprOrigin all around assigns' at limit tokens b
  here_origin limit c n many (covers h) = completes (at_first all around at limit tokens b many (covered around long assigns' b at (before at limit) tokens c all there (before_noted at limit n) refl h))
  here_origin limit c n many (assigned p q r may g j k rest_is less most) = absurd (omega (arith, many, less, (finishes_grows c.finish.finishes).0))

  -- the tree in each case
  began : (limit : Option Told) (long_there : MaybeStands all long) → Noted at limit → Began all around assigns' long long_there b at limit tokens → ExprOrigin all around assigns' at limit tokens b
  began limit long_there n (here many c) = here_origin limit c n many c.over
  began limit long_there n (on c) = on_origin limit c n c.over

-- each way counts already, or comes from a tree
abbrev pub ExprOrigins : List Token → Nesting → Bool → Option FarthestFailure → ℕ → Option Told → List Token → FarthestFailure → Option FarthestFailure → Type 0
ExprOrigins all around assigns' start at limit tokens b reach = reach ≡ Some b → (start ≡ Some b) ⊎ ExprOrigin all around assigns' at limit tokens b

-- what is read, and where the ways come from
abbrev pub ExprTraced : List Token → Nesting → Bool → Option FarthestFailure → ℕ → Option Told → List Token → FarthestFailure → Try ExprTree → Type 0
ExprTraced all around assigns' start at limit tokens b (Reads e (At at' limit' rest) reach) = Gives all (Wholes around) Kept Both at limit tokens e at' limit' rest × ExprOrigins all around assigns' start at limit tokens b reach
ExprTraced all around assigns' start at limit tokens b (Stops reach) = ExprOrigins all around assigns' start at limit tokens b reach

-- the same, by what the reader comes to
expr_by : (all : List Token) (around : Nesting) (assigns' : Bool) (at : ℕ) (limit : Option Told) (tokens : List Token) (start : Option FarthestFailure) (b : FarthestFailure) (look : Try ExprTree) → expr_in assigns' around start (At at limit tokens) ≡ look → Noted at limit
    → ReadsPart assigns' tokens look → ExprOrigins all around assigns' start at limit tokens b (recorded look) → ExprTraced all around assigns' start at limit tokens b look
expr_by all around assigns' at limit tokens start b (Reads e (At at' limit' rest) reach) is n p o = (expr_gives all around assigns' at limit tokens start e at' limit' rest reach n is p, o)
expr_by all around assigns' at limit tokens start b (Stops reach) is n p o = o

-- the reader of expressions
pub expr_traced : (all : List Token) (around : Nesting) (assigns' : Bool) (at : ℕ) (limit : Option Told) (tokens : List Token) (start : Option FarthestFailure) (b : FarthestFailure) → Ended tokens → Noted at limit → Placed all at limit tokens
    → ExprTraced all around assigns' start at limit tokens b (expr_in assigns' around start (At at limit tokens))
expr_traced all around assigns' at limit tokens start b end n p =
    let there = long_stands all at limit tokens p in
    expr_by all around assigns' at limit tokens start b (expr_in assigns' around start (At at limit tokens)) refl n (reads_part around assigns' at limit tokens start end)
    (λ came. ⊎_elim (λ h. inl h) (λ o. inr (began all around assigns' at tokens b o.1 limit there n o.0)) (expr_origins all around assigns' at limit tokens start b there end n p came))

-- where no assignment may stand
plain_origin : (all : List Token) (around : Nesting) (start : Option FarthestFailure) (at : ℕ) (limit : Option Told) (tokens : List Token) (b : FarthestFailure) → (start ≡ Some b) ⊎ ExprOrigin all around false at limit tokens b
    → (start ≡ Some b) ⊎ Completes all (Wholes around) Fine Both at limit tokens b
plain_origin all around start at limit tokens b (inl h) = inl h
plain_origin all around start at limit tokens b (inr (completes c)) = inr c
plain_origin all around start at limit tokens b (inr (shifts may s)) = absurd (false≢true may)

-- what is read where no assignment may stand
plain_by : (all : List Token) (around : Nesting) (at : ℕ) (limit : Option Told) (tokens : List Token) (start : Option FarthestFailure) (b : FarthestFailure) (look : Try ExprTree) → ExprTraced all around false start at limit tokens b look
    → Traced all (Wholes around) Fine Kept Both start at limit tokens b look
plain_by all around at limit tokens start b (Reads e (At at' limit' rest) reach) (g, o) = (g, λ is. plain_origin all around start at limit tokens b (o is))
plain_by all around at limit tokens start b (Stops reach) o = λ is. plain_origin all around start at limit tokens b (o is)

-- the reader of expressions where no assignment may stand
pub traces_expr : (all : List Token) (around : Nesting) → Traces all (Wholes around) Fine Kept Both (expr_in false around)
traces_expr all around at limit tokens start b end n p =
    plain_by all around at limit tokens start b (expr_in false around start (At at limit tokens)) (expr_traced all around false at limit tokens start b end n p)
