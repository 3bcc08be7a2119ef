-- An expression that is read is one that the machine comes to, whatever is told to it of lengths.
use Rattle.std.proofs.Common.{◌≡◌, ℕ, zero, suc, ◌+◌, ◌<◌, ◌≤◌, Bool, true, false, List, [], ◌∷◌, ◌++◌, length, drop, refl, sym, ap, ◌∙◌, arith}
use Rattle.std.specs.Prelude.{Option, Some, None, nat_lt}
use Rattle.std.proofs.lemmas.Bool.Decides.{nat_tests}
use Rattle.def_token.specs.Lexical.{Token}
use Rattle.def_tree.specs.ExprTree.{ExprTree}
use Rattle.def_tree.specs.Limits.{Nesting}
use Rattle.def_tree.specs.Operator.{Operator, operators, operator_text, sign_at}
use Rattle.def_tree.specs.Statements.{begins_with}
use Rattle.def_tree.specs.Symbol.{Symbol, Name, Number, Text, End, Sign, symbol}
use Rattle.def_tree.specs.TypeTree.{TypeTrees}
use Rattle.def_reading.specs.Cursor.{Told, Cursor, At, told_at, before, before_by, earlier, earlier_by, FarthestFailure, further}
use Rattle.def_reading.specs.Machine.{Frame, Mode, Expected, Value, Dotted, Converting, Config, Step, On, Ends, Refused, Start, True, False, Itself, OwnType, Bracket, Scalar, Unary, start_text, starts, Behind, Call, Index, Dot, Colons, Question, Colon, Comma, Closing, IndexClosing, behind_text, behinds, sign_of, written, nesting, name_by, name_if, start_by, operand_by, operator_by, behind_by, step_at, step}
use Rattle.def_reading.specs.Try.{Reads, Stops, way_by, assign_ends, end_by, run_by, run, finished}
use Rattle.def_reading.specs.TypeAhead.{LookAhead, Found, Missing, taken_ahead}
use Rattle.law_types.proofs.AheadFaults.{Within, Grows, same_limit, new_limit}
use Rattle.law_exprs.proofs.ExprWays.{before_within}
use Rattle.law_machine.proofs.MachineGrows as grows
use Rattle.law_machine.proofs.MachineGrows.{Finishes, goes_on}

-- a step without the other way
abbrev aside : Step → Step
aside (On other c) = On None c
aside (Ends e place) = Ends e place
aside (Refused place) = Refused place

module _ (around : Nesting) (long long' : Option Told) where
  name_aside : (look : LookAhead TypeTrees) (frames : List Frame) (name : Token) (behind : Cursor) → aside (name_by around long look frames name behind) ≡ aside (name_by around long' look frames name behind)
  name_aside (Found args place) frames name behind = refl
  name_aside (Missing (At at limit tokens)) frames name behind = refl

  name_if_aside : (b : Bool) (frames : List Frame) (name : Token) (at : ℕ) (limit : Option Told) (tokens : List Token) → aside (name_if around long b frames name at limit tokens) ≡ aside (name_if around long' b frames name at limit tokens)
  name_if_aside true frames name at limit tokens = name_aside (taken_ahead (nesting around frames).types at limit tokens) frames name (At at limit tokens)
  name_if_aside false frames name at limit tokens = refl

  start_aside : (o : Option Start) (frames : List Frame) (token : Token) (place : Cursor) → aside (start_by around long o frames token place) ≡ aside (start_by around long' o frames token place)
  start_aside None frames token place = refl
  start_aside (Some True) frames token place = refl
  start_aside (Some False) frames token place = refl
  start_aside (Some Itself) frames token place = refl
  start_aside (Some OwnType) frames token place = refl
  start_aside (Some Bracket) frames token place = refl
  start_aside (Some (Scalar word)) frames token place = refl
  start_aside (Some (Unary operator)) frames token place = refl

  operand_aside : (s : Symbol) (frames : List Frame) (at : ℕ) (limit : Option Told) (token : Token) (tokens : List Token) → aside (operand_by around long s frames at limit token tokens) ≡ aside (operand_by around long' s frames at limit token tokens)
  operand_aside Name frames at limit token tokens = name_if_aside (begins_with "<" tokens) frames token (suc at) limit tokens
  operand_aside (Number wide) frames at limit token tokens = refl
  operand_aside Text frames at limit token tokens = refl
  operand_aside End frames at limit token tokens = refl
  operand_aside (Sign text) frames at limit token tokens = start_aside (written start_text starts text) frames token (At at limit (token ∷ tokens))

  operator_aside : (o : Option Operator) (value : ExprTree) (frames : List Frame) (at : ℕ) (token : Token) (tokens : List Token) (place : Cursor)
      → aside (operator_by around long o value frames at token tokens place) ≡ aside (operator_by around long' o value frames at token tokens place)
  operator_aside None value frames at token tokens place = refl
  operator_aside (Some operator) value frames at token tokens place = refl

  behind_aside : (o : Option Behind) (value : ExprTree) (frames : List Frame) (at : ℕ) (token : Token) (tokens : List Token) (place : Cursor)
      → aside (behind_by around long o value frames at token tokens place) ≡ aside (behind_by around long' o value frames at token tokens place)
  behind_aside None value frames at token tokens place = operator_aside (written operator_text operators (sign_at (token ∷ tokens)).0) value frames at token tokens place
  behind_aside (Some Call) value frames at token tokens place = refl
  behind_aside (Some Index) value frames at token tokens place = refl
  behind_aside (Some Dot) value frames at token tokens place = refl
  behind_aside (Some Colons) value frames at token tokens place = refl
  behind_aside (Some Question) value frames at token tokens place = refl
  behind_aside (Some Colon) value frames at token tokens place = refl
  behind_aside (Some Comma) value frames at token tokens place = refl
  behind_aside (Some Closing) value frames at token tokens place = refl
  behind_aside (Some IndexClosing) value frames at token tokens place = refl

  step_aside : (mode : Mode) (frames : List Frame) (place : Cursor) → aside (step_at around long mode frames place) ≡ aside (step_at around long' mode frames place)
  step_aside Expected frames (At at limit []) = refl
  step_aside (Value value) frames (At at limit []) = refl
  step_aside (Dotted base) frames (At at limit []) = refl
  step_aside (Converting word first) frames (At at limit []) = refl
  step_aside Expected frames (At at limit (token ∷ tokens)) = operand_aside (symbol token) frames at limit token tokens
  step_aside (Value value) frames (At at limit (token ∷ tokens)) =
      behind_aside (sign_of behind_text behinds (symbol token)) value frames at token tokens (At at limit (token ∷ tokens))
  step_aside (Dotted base) frames (At at limit (token ∷ tokens)) = refl
  step_aside (Converting word first) frames (At at limit (token ∷ tokens)) = refl

  on_aside : (s : Step) (o : Option FarthestFailure) (d : Config) (s' : Step) → s ≡ On o d → aside s ≡ aside s' → (o' : Option FarthestFailure) × (s' ≡ On o' d)
  on_aside s o d (On o' d') h k = let same : On None d ≡ On None d' = ap aside (sym h) ∙ k in (o', ap (On o') (let this : d' ≡ d = cc in this))
  on_aside s o d (Ends e place) h k = let same : On None d ≡ Ends e place = ap aside (sym h) ∙ k in absurd (cc)
  on_aside s o d (Refused place) h k = let same : On None d ≡ Refused place = ap aside (sym h) ∙ k in absurd (cc)

  ends_aside : (s : Step) (e : ExprTree) (place : Cursor) (s' : Step) → s ≡ Ends e place → aside s ≡ aside s' → s' ≡ Ends e place
  ends_aside s e place (On o' d') h k = let same : Ends e place ≡ On None d' = ap aside (sym h) ∙ k in absurd (cc)
  ends_aside s e place (Ends e' place') h k = sym (ap aside (sym h) ∙ k)
  ends_aside s e place (Refused place') h k = let same : Ends e place ≡ Refused place' = ap aside (sym h) ∙ k in absurd (cc)

  -- the machine comes to the same expression
  pub finishes_long : {c : Config} {e : ExprTree} {n : ℕ} {lf : Option Told} {rest : List Token} → Finishes around long c e n lf rest → Finishes around long' c e n lf rest
  finishes_long {c = c} {e = e} {n = n} {lf = lf} {rest = rest} (grows.finished s) =
      grows.finished (ends_aside (step around long c) e (At n lf rest) (step around long' c) s (step_aside c.mode c.frames c.place))
  finishes_long {c = c} (goes_on other d s f) =
      let on = on_aside (step around long c) other d (step around long' c) s (step_aside c.mode c.frames c.place) in goes_on on.0 d on.1 (finishes_long f)

-- an expression that is read, by the machine
pub record Finished (around : Nesting) (assigns : Bool) (long : Option Told) (c : Config) (e : ExprTree) (place : Cursor) : Type 0 where
  pub n : ℕ
  pub lf : Option Told
  pub rest : List Token
  pub finishes : Finishes around long c e n lf rest
  pub is : place ≡ finished long (At n lf rest)
  pub free : assign_ends assigns rest ≡ false

stops_reads : (e : ExprTree) (place : Cursor) (reach reach' : Option FarthestFailure) → Stops reach ≡ Reads e place reach' → ⊥
stops_reads e place reach reach' h = cc

reads_same : (e e' : ExprTree) (place place' : Cursor) (reach reach' : Option FarthestFailure) → Reads e place reach ≡ Reads e' place' reach' → (e ≡ e') × (place ≡ place')
reads_same e e' place place' reach reach' h = (cc, cc)

module _ (around : Nesting) (assigns : Bool) (long : Option Told) where
  end_finished : (b : Bool) (reach : Option FarthestFailure) (c : Config) (e e' : ExprTree) (n : ℕ) (lf : Option Told) (rest : List Token) (place : Cursor) (reach' : Option FarthestFailure) → assign_ends assigns rest ≡ b → step around long c ≡ Ends e' (At n lf rest)
      → end_by around assigns long b reach e' (At n lf rest) ≡ Reads e place reach' → Finished around assigns long c e place
  end_finished true reach c e e' n lf rest place reach' b s h = absurd (stops_reads e place _ reach' h)
  end_finished false reach c e e' n lf rest place reach' b s h =
      let same = reads_same e' e (finished long (At n lf rest)) place reach reach' h in
      record { n = n; lf = lf; rest = rest; finishes = grows.finished (s ∙ ap (λ e. Ends e (At n lf rest)) same.0); is = sym same.1; free = b }

  step_finished : (turns : ℕ) (reach : Option FarthestFailure) (c : Config) (e : ExprTree) (place : Cursor) (reach' : Option FarthestFailure) (s : Step) → step around long c ≡ s → run_by around assigns long (run around assigns long turns) c.mode reach s ≡ Reads e place reach'
      → ((reach : Option FarthestFailure) (d : Config) → run around assigns long turns reach d ≡ Reads e place reach' → Finished around assigns long d e place) → Finished around assigns long c e place
  step_finished turns reach c e place reach' (On other d) s h more =
      let f = more (further reach (way_by assigns c.mode other)) d h in
      record { n = f.n; lf = f.lf; rest = f.rest; finishes = goes_on other d s f.finishes; is = f.is; free = f.free }
  step_finished turns reach c e place reach' (Ends e' (At n lf rest)) s h more = end_finished (assign_ends assigns rest) reach c e e' n lf rest place reach' refl s h
  step_finished turns reach c e place reach' (Refused p) s h more = absurd (stops_reads e place _ reach' h)

  -- what is read is what the machine comes to
  pub run_finished : (turns : ℕ) (reach : Option FarthestFailure) (c : Config) (e : ExprTree) (place : Cursor) (reach' : Option FarthestFailure) → run around assigns long turns reach c ≡ Reads e place reach' → Finished around assigns long c e place
  run_finished zero reach c e place reach' h = absurd (stops_reads e place _ reach' h)
  run_finished (suc turns) reach c e place reach' h =
      step_finished turns reach c e place reach' (step around long c) refl h (λ reach d h. run_finished turns reach d e place reach' h)

-- what is told before a place
late_told : (k a : ℕ) (tokens : List Token) → k ≤ a → before k (told_at 112 a tokens) ≡ None
late_told k a [] h = refl
late_told k a (t ∷ tokens) h = let no : nat_lt a k ≡ false = grind (arith, nat_tests, h) in rw no refl

-- what is too long in the front of tokens is so before other tokens too
pub long_same : (g k a b : ℕ) (front us us' : List Token) → a ≡ b + g → k ≤ b + length front → before k (told_at 112 a (drop g (front ++ us))) ≡ before k (told_at 112 a (drop g (front ++ us')))
long_same g k a b [] us us' is h = late_told k a (drop g us) (omega (arith, is, h)) ∙ sym (late_told k a (drop g us') (omega (arith, is, h)))
long_same zero k a b (t ∷ front) us us' is h = refl
long_same (suc g) k a b (t ∷ front) us us' is h = long_same g k a (suc b) front us us' (omega (arith, is)) (omega (arith, h))

earlier_none : (limit : Option Told) → earlier limit None ≡ limit
earlier_none None = refl
earlier_none (Some told) = refl

both_by : (p q r : Bool) (m : ℕ) (x y : Told) → nat_lt y.at x.at ≡ p → nat_lt x.at m ≡ q → nat_lt y.at m ≡ r → before m (earlier_by p x y) ≡ earlier (before_by q x) (before_by r y)
both_by true true true m x y p q r = ap (λ b. before_by b y) r ∙ sym (ap (λ b. earlier_by b x y) p)
both_by false true true m x y p q r = ap (λ b. before_by b x) q ∙ sym (ap (λ b. earlier_by b x y) p)
both_by true true false m x y p q r =
    let less : y.at < x.at = grind (arith, nat_tests, p) in
    let low : x.at < m = grind (arith, nat_tests, q) in
    let high : m ≤ y.at = grind (arith, nat_tests, r) in absurd (omega (arith, less, low, high))
both_by false true false m x y p q r = ap (λ b. before_by b x) q
both_by true false true m x y p q r = ap (λ b. before_by b y) r
both_by false false true m x y p q r =
    let more : x.at ≤ y.at = grind (arith, nat_tests, p) in
    let high : m ≤ x.at = grind (arith, nat_tests, q) in
    let low : y.at < m = grind (arith, nat_tests, r) in absurd (omega (arith, more, low, high))
both_by true false false m x y p q r = ap (λ b. before_by b y) r
both_by false false false m x y p q r = ap (λ b. before_by b x) q

before_both : (m : ℕ) (this other : Option Told) → before m (earlier this other) ≡ earlier (before m this) (before m other)
before_both m None other = refl
before_both m (Some x) None = sym (earlier_none (before m (Some x)))
before_both m (Some x) (Some y) = both_by (nat_lt y.at x.at) (nat_lt x.at m) (nat_lt y.at m) m x y refl refl refl

twice_by : (b : Bool) (m n : ℕ) (x : Told) → nat_lt x.at n ≡ b → m ≤ n → before m (before_by b x) ≡ before m (Some x)
twice_by true m n x b h = refl
twice_by false m n x b h =
    let high : n ≤ x.at = grind (arith, nat_tests, b) in
    let no : nat_lt x.at m ≡ false = grind (arith, nat_tests, high, h) in sym (ap (λ b. before_by b x) no)

before_twice : (m n : ℕ) (o : Option Told) → m ≤ n → before m (before n o) ≡ before m o
before_twice m n None h = refl
before_twice m n (Some x) h = twice_by (nat_lt x.at n) m n x refl h

lower_by : (b : Bool) (m n : ℕ) (x : Told) → nat_lt x.at n ≡ b → n ≤ m → before m (before_by b x) ≡ before_by b x
lower_by true m n x b h =
    let low : x.at < n = grind (arith, nat_tests, b) in
    let yes' : nat_lt x.at m ≡ true = grind (arith, nat_tests, low, h) in ap (λ b. before_by b x) yes'
lower_by false m n x b h = refl

before_lower : (m n : ℕ) (o : Option Told) → n ≤ m → before m (before n o) ≡ before n o
before_lower m n None h = refl
before_lower m n (Some x) h = lower_by (nat_lt x.at n) m n x refl h

before_grown : (m : ℕ) (limit lf : Option Told) → Grows m limit lf → Within m limit → before m lf ≡ limit
before_grown m limit lf same_limit w = before_within m limit w
before_grown m limit (Some told) (new_limit told' none h) w = let no : nat_lt told.at m ≡ false = grind (arith, nat_tests, h) in ap (λ b. before_by b told) no ∙ sym none

-- what is told of an expression before a place inside it, or behind it
pub told_inside : (m n : ℕ) (limit lf long : Option Told) → m ≤ n → Grows m limit lf → Within m limit → before m (earlier lf (before n long)) ≡ earlier limit (before m long)
told_inside m n limit lf long h g w =
    before_both m lf (before n long) ∙ ap (λ l. earlier l (before m (before n long))) (before_grown m limit lf g w) ∙ ap (earlier limit) (before_twice m n long h)

-- and where the expression ends before the place
pub told_behind : (m n : ℕ) (limit lf long : Option Told) → n ≤ m → Grows m limit lf → Within m limit → before m (earlier lf (before n long)) ≡ earlier limit (before n long)
told_behind m n limit lf long h g w =
    before_both m lf (before n long) ∙ ap (λ l. earlier l (before m (before n long))) (before_grown m limit lf g w) ∙ ap (earlier limit) (before_lower m n long h)
