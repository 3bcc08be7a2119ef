-- The machine goes the same way whatever the trees are: whole steps, and runs.
use Rattle.std.proofs.Common.{◌≡◌, ℕ, zero, suc, Bool, true, false, List, [], ◌∷◌, refl, sym, ap, ◌∙◌}
use Rattle.std.specs.Prelude.{Option, Some, None, replicate}
use Rattle.def_token.specs.Lexical.{Token}
use Rattle.def_tree.specs.ExprTree as tree
use Rattle.def_tree.specs.ExprTree.{ExprTree}
use Rattle.def_tree.specs.Limits.{Nesting, plain, opens, operator_tokens}
use Rattle.def_tree.specs.Operator.{Operator, level, operators, operator_text, sign_at}
use Rattle.def_tree.specs.Statements.{begins_with}
use Rattle.def_tree.specs.Symbol.{Symbol, Name, Number, Text, End, Sign, symbol, is_sign}
use Rattle.def_tree.specs.TypeTree.{TypeWord, TypeTrees, NoTypes}
use Rattle.def_reading.specs.Cursor.{Told, Cursor, At, advance, passed, FarthestFailure, reach_at, further}
use Rattle.def_reading.specs.TypeAhead.{LookAhead, Found, Missing, names, taken_ahead}
use Rattle.def_reading.specs.Machine.{Frame, Prefix, Casting, Left, Asked, Chosen, InGroup, InFunctionalCast, InCall, InIndex, Mode, Expected, Value, Dotted, Converting, Config, Step, On, Ends, Refused, nesting, bracket_opens, unary_opens, bound, whole, written, sign_of, start_text, starts, behind_text, behinds, Start, True, False, Itself, OwnType, Bracket, Scalar, Unary, Behind, Call, Index, Dot, Colons, Question, Colon, Comma, Closing, IndexClosing, expects, name_by, name_if, empty_by, start_by, operand_by, cast_by, conversion_by, member_by, may_assign, assign_by, operator_by, operator_on, behind_by, step_by, step_at, step}
use Rattle.def_reading.specs.Plain.{leaf, plain_tree, plain_frame, plain_frames, plain_held, plain_mode, plain_config, plain_step, plain_try}
use Rattle.def_reading.specs.Try.{Try, Reads, way_by, assign_ends, end_by, run_by, run, refused_in, finished, ahead}
use Rattle.law_machine.proofs.PlainSteps.{plain_twice, twice, both, stands_plain, expects_plain, nesting_plain, bound_to, whole_to, ends_plain, colon_plain, comma_plain, closing_plain, index_plain, asked_plain, operator_plain, assigns_plain}

-- a value where it is plain already
to_plain : (v : ExprTree) → plain_tree v ≡ plain_tree (plain_tree v)
to_plain v = sym (plain_twice v)

whole_here : (v : ExprTree) (fs : List Frame) → plain_held (whole v fs) ≡ plain_held (whole (plain_tree v) (plain_frames fs))
whole_here v fs = whole_to fs v (plain_tree v) (to_plain v)

bound_here : (least : ℕ) (v : ExprTree) (fs : List Frame) → plain_held (bound least v fs) ≡ plain_held (bound least (plain_tree v) (plain_frames fs))
bound_here least v fs = bound_to least fs v (plain_tree v) (to_plain v)

-- a step without a bracket or an operator before it, from what is plain of its frames

empty_to : (closes : Bool) (fs : List Frame) (place : Cursor) → plain_step (empty_by closes fs place) ≡ plain_step (empty_by closes (plain_frames fs) place)
empty_to true [] place = refl
empty_to true (Prefix operator token ∷ fs) place = refl
empty_to true (Casting opening word token ∷ fs) place = refl
empty_to true (Left left operator token ∷ fs) place = refl
empty_to true (Asked condition question ∷ fs) place = refl
empty_to true (Chosen condition question yes' ∷ fs) place = refl
empty_to true (InGroup opening ∷ fs) place = refl
empty_to true (InFunctionalCast word token ∷ fs) place = refl
empty_to true (InCall callee opening [] ∷ fs) place =
    stands_plain fs (plain_frames fs) (tree.Call callee opening tree.NoExprs) (tree.Call leaf opening tree.NoExprs) (advance plain place) (twice fs) refl
empty_to true (InCall callee opening (first ∷ more) ∷ fs) place = refl
empty_to true (InIndex base opening ∷ fs) place = refl
empty_to false fs place = refl

cast_to : (closes : Bool) (word : TypeWord) (token : Token) (fs : List Frame) (place : Cursor) → plain_step (cast_by closes word token fs place) ≡ plain_step (cast_by closes word token (plain_frames fs) place)
cast_to true word token [] place = refl
cast_to true word token (Prefix operator token' ∷ fs) place = refl
cast_to true word token (Casting opening word' token' ∷ fs) place = refl
cast_to true word token (Left left operator token' ∷ fs) place = refl
cast_to true word token (Asked condition question ∷ fs) place = refl
cast_to true word token (Chosen condition question yes' ∷ fs) place = refl
cast_to true word token (InGroup opening ∷ fs) place =
    expects_plain (Casting opening word token ∷ fs) (Casting opening word token ∷ plain_frames fs) (advance plain place) (both refl (twice fs))
cast_to true word token (InFunctionalCast word' token' ∷ fs) place = refl
cast_to true word token (InCall callee opening args ∷ fs) place = refl
cast_to true word token (InIndex base opening ∷ fs) place = refl
cast_to false word token fs place = refl

member_to : (named : Bool) (base : ExprTree) (name : Token) (fs : List Frame) (place : Cursor) → plain_step (member_by named base name fs place) ≡ plain_step (member_by named leaf name (plain_frames fs) place)
member_to true base name fs place = stands_plain fs (plain_frames fs) (tree.Member base name) (tree.Member leaf name) (advance plain place) (twice fs) refl
member_to false base name fs place = refl

module _ (around : Nesting) (long : Option Told) where
  -- what ends at a token that opens a form
  bracket_same : (fs : List Frame) → bracket_opens around fs ≡ bracket_opens around (plain_frames fs)
  bracket_same fs = ap (λ (n : Nesting). opens (suc n.brackets)) (sym (nesting_plain around fs))

  unary_same : (fs : List Frame) → unary_opens around fs ≡ unary_opens around (plain_frames fs)
  unary_same fs = ap (λ (n : Nesting). opens (suc n.unary)) (sym (nesting_plain around fs))

  -- a bracket opens
  opens_to : (f g : Frame) (fs : List Frame) (place : Cursor) → plain_frame f ≡ plain_frame g
      → plain_step (expects (f ∷ fs) (advance (bracket_opens around fs) place)) ≡ plain_step (expects (g ∷ plain_frames fs) (advance (bracket_opens around (plain_frames fs)) place))
  opens_to f g fs place h =
      expects_plain (f ∷ fs) (g ∷ plain_frames fs) (advance (bracket_opens around fs) place) (both h (twice fs))
      ∙ ap (λ entry. plain_step (expects (g ∷ plain_frames fs) (advance entry place))) (bracket_same fs)

  name_to : (look : LookAhead TypeTrees) (fs : List Frame) (name : Token) (place : Cursor) → plain_step (name_by around long look fs name place) ≡ plain_step (name_by around long look (plain_frames fs) name place)
  name_to (Found args place) fs name behind = stands_plain fs (plain_frames fs) (tree.Name name args) (tree.Name name args) place (twice fs) refl
  name_to (Missing (At at limit tokens)) fs name behind =
      ap (λ fs. On (reach_at long at (At at limit tokens)) (record { frames = fs; mode = Value leaf; place = behind })) (twice fs)

  name_if_to : (b : Bool) (fs : List Frame) (name : Token) (at : ℕ) (limit : Option Told) (tokens : List Token)
      → plain_step (name_if around long b fs name at limit tokens) ≡ plain_step (name_if around long b (plain_frames fs) name at limit tokens)
  name_if_to true fs name at limit tokens =
      name_to (taken_ahead (nesting around fs).types at limit tokens) fs name (At at limit tokens)
      ∙ ap (λ (n : Nesting). plain_step (name_by around long (taken_ahead n.types at limit tokens) (plain_frames fs) name (At at limit tokens))) (sym (nesting_plain around fs))
  name_if_to false fs name at limit tokens = stands_plain fs (plain_frames fs) (tree.Name name NoTypes) (tree.Name name NoTypes) (At at limit tokens) (twice fs) refl

  start_to : (o : Option Start) (fs : List Frame) (token : Token) (place : Cursor) → plain_step (start_by around long o fs token place) ≡ plain_step (start_by around long o (plain_frames fs) token place)
  start_to None fs token place = empty_to (is_sign ")" (symbol token)) fs place
  start_to (Some True) fs token place = stands_plain fs (plain_frames fs) (tree.BooleanLiteral true token) (tree.BooleanLiteral true token) (advance plain place) (twice fs) refl
  start_to (Some False) fs token place = stands_plain fs (plain_frames fs) (tree.BooleanLiteral false token) (tree.BooleanLiteral false token) (advance plain place) (twice fs) refl
  start_to (Some Itself) fs token place = stands_plain fs (plain_frames fs) (tree.Itself token) (tree.Itself token) (advance plain place) (twice fs) refl
  start_to (Some OwnType) fs token place = stands_plain fs (plain_frames fs) (tree.OwnType token) (tree.OwnType token) (advance plain place) (twice fs) refl
  start_to (Some Bracket) fs token place = opens_to (InGroup token) (InGroup token) fs place refl
  start_to (Some (Scalar word)) fs token place =
      ap (λ fs. On None (record { frames = fs; mode = Converting word token; place = advance plain place })) (twice fs)
  start_to (Some (Unary operator)) fs token place =
      expects_plain (Prefix operator token ∷ fs) (Prefix operator token ∷ plain_frames fs) (advance (unary_opens around fs) place) (both refl (twice fs))
      ∙ ap (λ entry. plain_step (expects (Prefix operator token ∷ plain_frames fs) (advance entry place))) (unary_same fs)

  operand_to : (s : Symbol) (fs : List Frame) (at : ℕ) (limit : Option Told) (token : Token) (tokens : List Token)
      → plain_step (operand_by around long s fs at limit token tokens) ≡ plain_step (operand_by around long s (plain_frames fs) at limit token tokens)
  operand_to Name fs at limit token tokens = name_if_to (begins_with "<" tokens) fs token (suc at) limit tokens
  operand_to (Number wide) fs at limit token tokens = stands_plain fs (plain_frames fs) (tree.Number token) (tree.Number token) (At (suc at) limit tokens) (twice fs) refl
  operand_to Text fs at limit token tokens = refl
  operand_to End fs at limit token tokens = refl
  operand_to (Sign text) fs at limit token tokens = start_to (written start_text starts text) fs token (At at limit (token ∷ tokens))

  conversion_to : (opens' closes : Bool) (word : TypeWord) (token : Token) (fs : List Frame) (place : Cursor)
      → plain_step (conversion_by around long opens' closes word token fs place) ≡ plain_step (conversion_by around long opens' closes word token (plain_frames fs) place)
  conversion_to true closes word token fs place = opens_to (InFunctionalCast word token) (InFunctionalCast word token) fs place refl
  conversion_to false closes word token fs place = cast_to closes word token fs place

  operator_by_to : (o : Option Operator) (v : ExprTree) (fs : List Frame) (at : ℕ) (token : Token) (tokens : List Token) (place : Cursor)
      → plain_step (operator_by around long o v fs at token tokens place) ≡ plain_step (operator_by around long o (plain_tree v) (plain_frames fs) at token tokens place)
  operator_by_to None v fs at token tokens place = ends_plain (token ∷ tokens) place (whole v fs) (whole (plain_tree v) (plain_frames fs)) (whole_here v fs)
  operator_by_to (Some operator) v fs at token tokens place =
      let behind = passed (replicate (operator_tokens operator) plain) place in
      operator_plain operator (assign_by around long (may_assign operator (whole v fs)) at behind) token behind
      (bound (level operator) v fs) (bound (level operator) (plain_tree v) (plain_frames fs)) (bound_here (level operator) v fs)
      ∙ ap (λ b. plain_step (operator_on operator (bound (level operator) (plain_tree v) (plain_frames fs)) (assign_by around long b at behind) token behind))
      (assigns_plain operator (whole v fs) (whole (plain_tree v) (plain_frames fs)) (whole_here v fs))

  behind_to : (o : Option Behind) (v : ExprTree) (fs : List Frame) (at : ℕ) (token : Token) (tokens : List Token) (place : Cursor)
      → plain_step (behind_by around long o v fs at token tokens place) ≡ plain_step (behind_by around long o (plain_tree v) (plain_frames fs) at token tokens place)
  behind_to None v fs at token tokens place = operator_by_to (written operator_text operators (sign_at (token ∷ tokens)).0) v fs at token tokens place
  behind_to (Some Call) v fs at token tokens place = opens_to (InCall v token []) (InCall (plain_tree v) token []) fs place refl
  behind_to (Some Index) v fs at token tokens place = opens_to (InIndex v token) (InIndex (plain_tree v) token) fs place refl
  behind_to (Some Dot) v fs at token tokens place = ap (λ fs. On None (record { frames = fs; mode = Dotted leaf; place = advance plain place })) (twice fs)
  behind_to (Some Colons) v fs at token tokens place = ap (λ fs. On None (record { frames = fs; mode = Dotted leaf; place = advance plain place })) (twice fs)
  behind_to (Some Question) v fs at token tokens place = asked_plain token place (bound 1 v fs) (bound 1 (plain_tree v) (plain_frames fs)) (bound_here 1 v fs)
  behind_to (Some Colon) v fs at token tokens place = colon_plain (token ∷ tokens) place (whole v fs) (whole (plain_tree v) (plain_frames fs)) (whole_here v fs)
  behind_to (Some Comma) v fs at token tokens place = comma_plain (token ∷ tokens) place (whole v fs) (whole (plain_tree v) (plain_frames fs)) (whole_here v fs)
  behind_to (Some Closing) v fs at token tokens place = closing_plain (token ∷ tokens) place (whole v fs) (whole (plain_tree v) (plain_frames fs)) (whole_here v fs)
  behind_to (Some IndexClosing) v fs at token tokens place = index_plain (token ∷ tokens) place (whole v fs) (whole (plain_tree v) (plain_frames fs)) (whole_here v fs)

  step_by_to : (mode : Mode) (fs : List Frame) (at : ℕ) (limit : Option Told) (token : Token) (tokens : List Token)
      → plain_step (step_by around long mode fs at limit token tokens) ≡ plain_step (step_by around long (plain_mode mode) (plain_frames fs) at limit token tokens)
  step_by_to Expected fs at limit token tokens = operand_to (symbol token) fs at limit token tokens
  step_by_to (Value v) fs at limit token tokens = behind_to (sign_of behind_text behinds (symbol token)) v fs at token tokens (At at limit (token ∷ tokens))
  step_by_to (Dotted base) fs at limit token tokens = member_to (names (symbol token)) base token fs (At at limit (token ∷ tokens))
  step_by_to (Converting word first) fs at limit token tokens =
      conversion_to (is_sign "(" (symbol token)) (is_sign ")" (symbol token)) word first fs (At at limit (token ∷ tokens))

  step_at_to : (mode : Mode) (fs : List Frame) (place : Cursor)
      → plain_step (step_at around long mode fs place) ≡ plain_step (step_at around long (plain_mode mode) (plain_frames fs) place)
  step_at_to Expected fs (At at limit []) = refl
  step_at_to (Value v) fs (At at limit []) = ends_plain [] (At at limit []) (whole v fs) (whole (plain_tree v) (plain_frames fs)) (whole_here v fs)
  step_at_to (Dotted base) fs (At at limit []) = refl
  step_at_to (Converting word first) fs (At at limit []) = refl
  step_at_to mode fs (At at limit (token ∷ tokens)) = step_by_to mode fs at limit token tokens

  -- steps are the same where they are plain, from where the machine is the same so
  pub step_plain : (c d : Config) → plain_config c ≡ plain_config d → plain_step (step around long c) ≡ plain_step (step around long d)
  step_plain c d h =
      step_at_to c.mode c.frames c.place ∙ ap (λ (config : Config). plain_step (step around long config)) h ∙ sym (step_at_to d.mode d.frames d.place)

-- a way counts the same
way_plain : (assigns : Bool) (mode : Mode) (other : Option FarthestFailure) → way_by assigns mode other ≡ way_by assigns (plain_mode mode) other
way_plain true mode other = refl
way_plain false Expected other = refl
way_plain false (Value value) other = refl
way_plain false (Dotted base) other = refl
way_plain false (Converting word token) other = refl

module _ (around : Nesting) (assigns : Bool) (long : Option Told) where
  end_plain : (b : Bool) (reach : Option FarthestFailure) (expr other : ExprTree) (place : Cursor) → plain_tree expr ≡ plain_tree other
      → plain_try (end_by around assigns long b reach expr place) ≡ plain_try (end_by around assigns long b reach other place)
  end_plain true reach expr other place h = refl
  end_plain false reach expr other place h = ap (λ e. Reads e (finished long place) reach) h

  -- what comes behind steps that are the same where they are plain
  pub run_by_plain : (more : Option FarthestFailure → Config → Try ExprTree) (mode mode' : Mode) (reach : Option FarthestFailure) (s t : Step) → plain_mode mode ≡ plain_mode mode' → plain_step s ≡ plain_step t
      → ((reach : Option FarthestFailure) (c d : Config) → plain_config c ≡ plain_config d → plain_try (more reach c) ≡ plain_try (more reach d))
      → plain_try (run_by around assigns long more mode reach s) ≡ plain_try (run_by around assigns long more mode' reach t)
  run_by_plain more mode mode' reach (On other c) (On other' d) m h same =
      let way : way_by assigns mode other ≡ way_by assigns mode' other' =
      way_plain assigns mode other ∙ ap (λ mode. way_by assigns mode other) m ∙ sym (way_plain assigns mode' other) ∙ ap (way_by assigns mode') (let e : other ≡ other' = cc in e) in
      same (further reach (way_by assigns mode other)) c d (cc) ∙ ap (λ way. plain_try (more (further reach way) d)) way
  run_by_plain more mode mode' reach (On other c) (Ends e place) m h same = absurd (cc)
  run_by_plain more mode mode' reach (On other c) (Refused place) m h same = absurd (cc)
  run_by_plain more mode mode' reach (Ends e place) (On other c) m h same = absurd (cc)
  run_by_plain more mode mode' reach (Ends e place) (Ends e' place') m h same =
      end_plain (assign_ends assigns (ahead place)) reach e e' place (cc)
      ∙ ap (λ place. plain_try (end_by around assigns long (assign_ends assigns (ahead place)) reach e' place)) (let p : place ≡ place' = cc in p)
  run_by_plain more mode mode' reach (Ends e place) (Refused place') m h same = absurd (cc)
  run_by_plain more mode mode' reach (Refused place) (On other c) m h same = absurd (cc)
  run_by_plain more mode mode' reach (Refused place) (Ends e place') m h same = absurd (cc)
  run_by_plain more mode mode' reach (Refused place) (Refused place') m h same =
      ap (λ place. plain_try (refused_in around assigns long reach place)) (let p : place ≡ place' = cc in p)

  -- what the machine comes to is the same where it is plain
  pub run_plain : (turns : ℕ) (reach : Option FarthestFailure) (c d : Config) → plain_config c ≡ plain_config d
      → plain_try (run around assigns long turns reach c) ≡ plain_try (run around assigns long turns reach d)
  run_plain zero reach c d h = ap (λ (config : Config). plain_try (refused_in around assigns long reach config.place)) h
  run_plain (suc turns) reach c d h =
      run_by_plain (run around assigns long turns) c.mode d.mode reach (step around long c) (step around long d)
      (ap (λ (config : Config). config.mode) h) (step_plain around long c d h) (run_plain turns)
