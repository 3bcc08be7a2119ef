-- The readers of forms before tokens with the same front, where both lists of tokens end.
use Rattle.std.proofs.Common.{◌≡◌, ℕ, zero, suc, ◌+◌, ◌-◌, ◌<◌, ◌≤◌, Bool, true, false, List, [], ◌∷◌, length, refl, subst, codes, arith, le_refl}
use Rattle.std.specs.Prelude.{Option}
use Rattle.std.proofs.lemmas.Bool.{or_from}
use Rattle.def_token.specs.Lexical.{Token}
use Rattle.def_tree.specs.Limits.{Nesting, Entry}
use Rattle.def_tree.specs.Part.{type_goes_on}
use Rattle.def_tree.specs.Symbol.{Symbol, Sign, symbol}
use Rattle.def_tree.specs.TypeTree.{TypeTree}
use Rattle.def_reading.specs.Cursor.{Told, At, FarthestFailure}
use Rattle.def_reading.specs.StmtReading.{stmts_in, stmt_in}
use Rattle.def_reading.specs.Try.{Try, Reads, Stops, Reader, try_then, try_as, listed, type_in}
use Rattle.def_reading.specs.TypeAhead.{Found, type_ahead}
use Rattle.def_reading.specs.TypeReading.{Ended}
use Rattle.law_types.proofs.AheadKept.{ended_cons}
use Rattle.law_types.proofs.AheadStages.{PathLook, type_looks}
use Rattle.law_exprs.proofs.ExprBeside.{follows_by, always_expr}
use Rattle.law_exprs.proofs.ExprFronts.{good_type}
use Rattle.law_stmts.proofs.LocalBeside.{type_followed}
use Rattle.law_stmts.proofs.StmtBeside.{stmt_later, beside_stmts, beside_stmt}
use Rattle.law_exprs.proofs.TryComes.{Noted}
use Rattle.law_exprs.proofs.TryFollows.{Share, here, one, same, ends_here, told, past, Follows, follows_place, then_past, follows_then, Local, Beside, Always, beside_as, beside_then, beside_choice, beside_end, beside_refused, beside_zero, beside_none, beside_listed, beside_ahead}
use Rattle.law_exprs.proofs.TryFronts.{Rises, Good}
use Rattle.law_exprs.proofs.TrySound.{Sound}
use Rattle.law_exprs.proofs.TypeBeside.{NameFits, type_fits, dotless, found_reads}
use Rattle.def_decl_reading.specs.Form.{Front, is_front, Form, Made, Never, Branch, Then, As, Listed, Many, Until, AType, AnExpr, Stmts, with_first, many_in, unless_by, until_in, reads}
use Rattle.law_decls.proofs.FormFirst.{some_tree, range_of, range, with_front, Predicts}
use Rattle.law_decls.proofs.FormFronts.{front_not_end, good_many, good_until, good_form}
use Rattle.law_decls.proofs.FormRead.{Given, form_read}
use Rattle.law_decls.proofs.FormShorter.{less}
use Rattle.law_decls.proofs.Gives.{Eats}
use Rattle.law_decls.proofs.Range.{Range, Among, with_symbol, joined}

-- A type that is read does not go on with the tokens behind it, if these end.
type_ended : (around : Nesting) (at : ℕ) (limit : Option Told) (ts : List Token) (reach : Option FarthestFailure) (type : TypeTree) (at' : ℕ) (limit' : Option Told) (rest : List Token) (s : Option FarthestFailure) → Ended ts
    → type_in around reach (At at limit ts) ≡ Reads type (At at' limit' rest) s → type_goes_on type rest ≡ false
type_ended around at limit ts reach type at' limit' rest s e look =
    let found = found_reads reach (type_ahead (length ts) around.types (At at limit ts)) type (At at' limit' rest) s look in
    let p : PathLook around.types zero _ at limit ts (Found type (At at' limit' rest)) =
    subst (PathLook around.types zero _ at limit ts) found (type_looks (length ts) around.types zero at limit ts (le_refl (length ts)) e) in
    let n : NameFits (Found type (At at' limit' rest)) = subst NameFits found (type_fits (length ts) around.types at limit ts) in
    or_from _ _ (dotless p.stops) n

module _ (us us' : List Token) (m : ℕ) (end : Ended us) (end' : Ended us') where
  others_ended : {n : ℕ} {ts ts' : List Token} → Share us us' m end n ts ts' → Ended ts'
  others_ended here = end'
  others_ended (one {t = t} {ts' = ts'} s) = ended_cons t ts' (others_ended s)

  -- so many tokens stand before the others
  others_long : {n : ℕ} {ts ts' : List Token} → Share us us' m end n ts ts' → length ts' ≡ n + length us'
  others_long here = omega arith
  others_long (one s) = omega (arith, others_long s)

  -- types that are read before the other tokens
  type_local : (around : Nesting) (most : ℕ) → Local us us' m end most (type_in around) (type_in around)
  type_local around most n at limit ts ts' reach reach' few is share h =
      follows_by us us' m end (type_in around reach (At at limit ts)) (type_in around reach' (At at limit ts'))
      (λ type at' limit' rest' s look.
      let rises : Rises at limit (Reads type (At at' limit' rest') s) = subst (Rises at limit) look ((good_type around).rises at limit ts' reach' h) in
      (rises.2, type_followed us us' m end around n at limit ts ts' reach reach' is share h type at' limit' rest' s look (type_ended around at limit ts' reach' type at' limit' rest' s (others_ended share) look)))

  -- types before the same front
  always_type : (around : Nesting) → Always us us' m end (type_in around) (type_in around)
  always_type around most = record { this = good_type around; that = good_type around; local = type_local around most }

  -- what is read behind something that has a token
  follows_eaten : {A B : Type 0} (next next' : A → Reader B) (look : Try A) (a : A) (at' : ℕ) (limit' : Option Told) (rest' : List Token) (s : Option FarthestFailure) (most n at : ℕ) (ts ts' : List Token) → n ≤ most → m ≡ at + n
      → Share us us' m end n ts ts' → length rest' < length ts' → ((a : A) → Beside us us' m end (most - 1) (next a) (next' a)) → Follows us us' m end look (Reads a (At at' limit' rest') s)
      → Follows us us' m end (try_then next look) (next' a s (At at' limit' rest'))
  follows_eaten next next' look a at' limit' rest' s most n at ts ts' few is share shorter l (h, same i rest reach is' rests look_is) =
      let later : suc at ≤ at' = omega (arith, is, is', others_long share, others_long rests, shorter) in
      follows_then us us' m end next next' look (Reads a (At at' limit' rest') s) (most - 1) (suc at) l (omega (arith, few, is)) later (h, same i rest reach is' rests look_is)
  follows_eaten next next' look a at' limit' rest' s most n at ts ts' few is share shorter l (h, ends_here b limit'' reach up n' limits look_is) =
      follows_then us us' m end next next' look (Reads a (At at' limit' rest') s) (most - 1) m l (omega arith) up (h, ends_here b limit'' reach up n' limits look_is)
  follows_eaten next next' look a at' limit' rest' s most n at ts ts' few is share shorter l (h, told up f) =
      follows_then us us' m end next next' look (Reads a (At at' limit' rest') s) (most - 1) m l (omega arith) up (h, told up f)
  follows_eaten next next' look a at' limit' rest' s most n at ts ts' few is share shorter l (h, past f) =
      then_past us us' m end next look (next' a s (At at' limit' rest')) at' limit' (λ a. (l a).this.keeps) f ((l a).that.rises at' limit' rest' s h)

  -- forms that each begin with a token of one kind
  module _ {A : Type 0} (front : Front) (entry : Entry) (form : Token → Form A) (b : (token : Token) → Always us us' m end (reads (form token)) (reads (form token))) where
    abbrev turning : ℕ → Reader (List A)
    turning = many_in (is_front front) entry (λ token. reads (form token))

    abbrev more_turns : ℕ → A → Reader (List A)
    more_turns turns first reach place = try_as (with_first first) (turning turns reach place)

    good_turns : (turns : ℕ) → Good (turning turns)
    good_turns = good_many (is_front front) entry (front_not_end front) (λ token. reads (form token)) (λ token. good_form (form token))

    beside_many : (turns turns' most : ℕ) → most ≤ turns → Beside us us' m end most (turning turns) (turning turns')
    beside_many zero turns' most few = beside_zero us us' m end (turning zero) (turning turns') (good_turns zero) (good_turns turns') most few
    beside_many (suc turns) zero most few = beside_none us us' m end (turning (suc turns)) (good_turns (suc turns)) most
    beside_many (suc turns) (suc turns') most few =
        beside_choice us us' m end (is_front front) entry (λ token reach place. try_then (more_turns turns) (reads (form token) reach place)) (λ token reach place. try_then (more_turns turns') (reads (form token) reach place))
        (λ reach place. Reads [] place reach) (λ reach place. Reads [] place reach) (front_not_end front)
        (λ token. beside_then us us' m end (more_turns turns) (more_turns turns') (reads (form token)) (reads (form token)) (b token (most - 1))
        (λ first. beside_as us us' m end (with_first first) (turning turns) (turning turns') (beside_many turns turns' (most - 1) (omega (arith, few)))))
        (beside_end us us' m end [])

  -- forms up to a token that passes a test
  module _ {A : Type 0} (test : Symbol → Bool) (form : Form A) (b : Always us us' m end (reads form) (reads form)) (eats : Eats form) where
    abbrev going : ℕ → Reader (List A)
    going = until_in test (reads form)

    abbrev more_forms : ℕ → A → Reader (List A)
    more_forms turns first reach place = try_as (with_first first) (going turns reach place)

    abbrev on_forms : ℕ → Reader (List A)
    on_forms turns reach place = try_then (more_forms turns) (reads form reach place)

    good_going : (turns : ℕ) → Good (going turns)
    good_going = good_until test (reads form) (good_form form)

    on_by : (turns turns' most n at : ℕ) (limit : Option Told) (ts ts' : List Token) (reach reach' : Option FarthestFailure) → n ≤ most → m ≡ at + n → Share us us' m end n ts ts' → Noted at limit
        → ((first : A) → Beside us us' m end (most - 1) (more_forms turns first) (more_forms turns' first)) → (look : Try A) → reads form reach' (At at limit ts') ≡ look
        → Follows us us' m end (on_forms turns reach (At at limit ts)) (try_then (more_forms turns') look)
    on_by turns turns' most n at limit ts ts' reach reach' few is share h l (Stops s) look_is = tt
    on_by turns turns' most n at limit ts ts' reach reach' few is share h l (Reads a (At at' limit' rest') s) look_is =
        let given : Given form ts' a rest' = subst (Sound (Given form ts')) look_is (form_read form at limit ts' reach') in
        let follows : Follows us us' m end (reads form reach (At at limit ts)) (Reads a (At at' limit' rest') s) =
        subst (Follows us us' m end (reads form reach (At at limit ts))) look_is ((b most).local n at limit ts ts' reach reach' few is share h) in
        follows_eaten (more_forms turns) (more_forms turns') (reads form reach (At at limit ts)) a at' limit' rest' s most n at ts ts' few is share (less form eats ts' a given.entries rest' given.gives) l follows

    unless_follows : (nothing : Bool) (turns turns' most n at : ℕ) (limit : Option Told) (ts ts' : List Token) (reach reach' : Option FarthestFailure) → n ≤ most → m ≡ at + n → Share us us' m end n ts ts' → Noted at limit
        → ((first : A) → Beside us us' m end (most - 1) (more_forms turns first) (more_forms turns' first))
        → Follows us us' m end (unless_by nothing (on_forms turns) reach (At at limit ts)) (unless_by nothing (on_forms turns') reach' (At at limit ts'))
    unless_follows true turns turns' most n at limit ts ts' reach reach' few is share h l = (h, same n ts reach is share refl)
    unless_follows false turns turns' most n at limit ts ts' reach reach' few is share h l =
        on_by turns turns' most n at limit ts ts' reach reach' few is share h l (reads form reach' (At at limit ts')) refl

    until_local : (turns turns' most : ℕ) → ((first : A) → Beside us us' m end (most - 1) (more_forms turns first) (more_forms turns' first)) → Local us us' m end most (going (suc turns)) (going (suc turns'))
    until_local turns turns' most l zero at limit ts ts' reach reach' few is here h =
        follows_place us us' m end (going (suc turns)) (going (suc turns')) (good_going (suc turns)) (good_going (suc turns')) at limit reach reach' (omega (arith, is)) h
    until_local turns turns' most l (suc n) at limit ts ts' reach reach' few is (one {t = t} {ts = rest} {ts' = rest'} share) h =
        unless_follows (test (symbol t)) turns turns' most (suc n) at limit (t ∷ rest) (t ∷ rest') reach reach' few is (one share) h l

    beside_until : (turns turns' most : ℕ) → most ≤ turns → Beside us us' m end most (going turns) (going turns')
    beside_until zero turns' most few = beside_zero us us' m end (going zero) (going turns') (good_going zero) (good_going turns') most few
    beside_until (suc turns) zero most few = beside_none us us' m end (going (suc turns)) (good_going (suc turns)) most
    beside_until (suc turns) (suc turns') most few =
        record {
          this = good_going (suc turns);
          that = good_going (suc turns');
          local = until_local turns turns' most (λ first. beside_as us us' m end (with_first first) (going turns) (going turns') (beside_until turns turns' (most - 1) (omega (arith, few))));
        }

  -- statements up to a closing brace before the same front
  always_stmts : (around : Nesting) → Always us us' m end (reads (Stmts around)) (reads (Stmts around))
  always_stmts around =
      beside_ahead us us' m end (λ turns. stmts_in (stmt_in turns around) turns) (λ turns. stmts_in (stmt_in turns around) turns)
      (λ turns turns' most few.
      beside_stmts us us' m end (stmt_in turns around) (stmt_in turns' around) turns (λ most low. beside_stmt us us' m end turns turns' around most low) (stmt_later turns' around) turns turns' most few few)

  -- a form before the same front
  pub always_form : {A : Type 0} (form : Form A) (behind : Range) (other : Bool) → Predicts other behind form → Always us us' m end (reads form) (reads form)
  always_form (Made made) behind other v most = beside_end us us' m end made
  always_form (Never {A = A}) behind other v most = beside_refused us us' m end A
  always_form (Branch front entry yes' no') behind other v most =
      beside_choice us us' m end (is_front front) entry (λ token. reads (yes' token)) (λ token. reads (yes' token)) (reads no') (reads no') (front_not_end front) (λ token. always_form (yes' token) behind false (v.0 token) (most - 1))
      (always_form no' behind true v.2 most)
  always_form (Then form next) behind other v most =
      beside_then us us' m end (λ a. reads (next a)) (λ a. reads (next a)) (reads form) (reads form) (always_form form (range_of (λ a. range behind (next a)) (some_tree form)) false v.0 most)
      (λ a. always_form (next a) behind false (v.1 a) most)
  always_form (As make form) behind other v most = beside_as us us' m end make (reads form) (reads form) (always_form form behind false v most)
  always_form (Listed form) behind other v most =
      beside_ahead us us' m end (listed with_first [] (reads form)) (listed with_first [] (reads form))
      (beside_listed us us' m end with_first [] (reads form) (reads form) (always_form form (with_symbol (Sign (codes ",")) behind) false v.1)) most
  always_form (Many front entry form) behind other v most =
      beside_ahead us us' m end (many_in (is_front front) entry (λ token. reads (form token))) (many_in (is_front front) entry (λ token. reads (form token)))
      (beside_many front entry form (λ token. always_form (form token) (with_front front behind) false (v.1 token))) most
  always_form (Until test form) behind other v most =
      beside_ahead us us' m end (until_in test (reads form)) (until_in test (reads form))
      (beside_until test form (always_form form (joined (range (Among []) form) behind) false v.4) v.3) most
  always_form (AType around) behind other v most = always_type around most
  always_form (AnExpr around) behind other v most = always_expr us us' m end around most
  always_form (Stmts around) behind other v most = always_stmts around most
