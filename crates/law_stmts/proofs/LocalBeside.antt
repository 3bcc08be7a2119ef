-- The reader of locals before tokens with the same front.
use Rattle.std.proofs.Common.{◌≡◌, ℕ, zero, suc, ◌+◌, ◌-◌, ◌≤◌, Bool, true, false, List, [], ◌∷◌, length, refl, sym, subst, arith, le_refl}
use Rattle.std.specs.Prelude.{Option, Some, None}
use Rattle.def_token.specs.Lexical.{Token}
use Rattle.def_tree.specs.ExprTree.{ExprTree, NoExprs, MoreExprs}
use Rattle.def_tree.specs.Limits.{Nesting, plain}
use Rattle.def_tree.specs.Part.{type_goes_on}
use Rattle.def_tree.specs.StmtTree as tree
use Rattle.def_tree.specs.StmtTree.{Binding, Let, Var, LocalTree}
use Rattle.def_tree.specs.Symbol.{symbol, is_sign}
use Rattle.def_tree.specs.TypeTree.{TypeTree}
use Rattle.def_tree.specs.Types.{IsType}
use Rattle.law_tree.proofs.Symbols.{is_sign-true}
use Rattle.law_tree.proofs.TypeEnds.{stops}
use Rattle.def_reading.specs.Cursor.{Told, Cursor, At, noted, FarthestFailure}
use Rattle.def_reading.specs.StmtReading.{values_in, fields_in, init_in, maybe_init_in, declarator, declarator_in, with_more, declarators_in, typed_in, maybe_type_in, valued_in, inferred_in, local_in}
use Rattle.def_reading.specs.Try.{Try, Reads, Stops, Reader, try_then, try_as, refused, choice, choice_by, up_to, listed, expr_in, type_in}
use Rattle.def_reading.specs.TypeAhead.{Found, names, type_ahead}
use Rattle.def_reading.specs.TypeReading.{Ended}
use Rattle.law_types.proofs.AheadSound.{names-true}
use Rattle.law_exprs.proofs.ExprBeside.{share_front, always_expr}
use Rattle.law_exprs.proofs.ExprFronts.{good_type}
use Rattle.law_exprs.proofs.TryComes.{Noted, noted_stays, noted_later}
use Rattle.law_exprs.proofs.TryFollows.{Share, here, one, share_ended, Followed, Follows, follows_then, follows_place, Local, Beside, Always, beside_as, beside_choice, beside_end, beside_listed, beside_ahead, beside_up_to, beside_token}
use Rattle.law_exprs.proofs.TryFronts.{Rises, Good, good_as, good_then, good_choice, good_end}
use Rattle.law_exprs.proofs.TrySound.{Sound, type_is_sound}
use Rattle.law_exprs.proofs.TypeBeside.{found_reads, front_type}

-- A type, and what goes on behind it.
module _ (us us' : List Token) (m : ℕ) (end : Ended us) where
  pub type_followed : (around : Nesting) (n at : ℕ) (limit : Option Told) (ts ts' : List Token) (reach reach' : Option FarthestFailure) → m ≡ at + n → Share us us' m end n ts ts' → Noted at limit
      → (type : TypeTree) (at' : ℕ) (limit' : Option Told) (rest' : List Token) (s : Option FarthestFailure) → type_in around reach' (At at limit ts') ≡ Reads type (At at' limit' rest') s → type_goes_on type rest' ≡ false
      → Followed us us' m end (type_in around reach (At at limit ts)) type at' limit' rest'
  type_followed around n at limit ts ts' reach reach' is share h type at' limit' rest' s look fit =
      let f = share_front us us' m end share in
      let tree : IsType ts' type rest' = subst (Sound (IsType ts')) look (type_is_sound around at limit ts' reach') in
      let found = found_reads reach' (type_ahead (length ts') around.types (At at limit ts')) type (At at' limit' rest') s look in
      subst (λ ts. Followed us us' m end (type_in around reach (At at limit ts)) type at' limit' rest') (sym f.are)
      (front_type us us' m end around.types at limit f.front reach (omega (arith, is, f.long)) h type at' limit' rest' (subst (λ ts. IsType ts type rest') f.others tree) fit
      (subst (λ ts. type_ahead (length ts) around.types (At at limit ts) ≡ Found type (At at' limit' rest')) f.others found) (subst Ended f.are (share_ended us us' m end share)))

  -- a type does not go on with what is read behind it
  abbrev Fits : {B : Type 0} → (TypeTree → Reader B) → Type 0
  Fits {B = B} next = (type : TypeTree) (at : ℕ) (limit : Option Told) (rest : List Token) (reach : Option FarthestFailure) (b : B) (place : Cursor) (s : Option FarthestFailure) → next type reach (At at limit rest) ≡ Reads b place s → type_goes_on type rest ≡ false

  fit_by : {B : Type 0} (around : Nesting) (next next' : TypeTree → Reader B) (most : ℕ) → ((type : TypeTree) → Beside us us' m end most (next type) (next' type)) → Fits next'
      → (n at : ℕ) (limit : Option Told) (ts ts' : List Token) (reach reach' : Option FarthestFailure) → n ≤ most → m ≡ at + n → Share us us' m end n ts ts' → Noted at limit
      → (type : TypeTree) (at' : ℕ) (limit' : Option Told) (rest' : List Token) (s : Option FarthestFailure) → type_in around reach' (At at limit ts') ≡ Reads type (At at' limit' rest') s
      → (look' : Try B) → next' type s (At at' limit' rest') ≡ look' → Follows us us' m end (try_then next (type_in around reach (At at limit ts))) look'
  fit_by around next next' most l fits n at limit ts ts' reach reach' few is share h type at' limit' rest' s look (Stops r) look' = tt
  fit_by around next next' most l fits n at limit ts ts' reach reach' few is share h type at' limit' rest' s look (Reads b place r) look' =
      let rises : Rises at limit (Reads type (At at' limit' rest') s) = subst (Rises at limit) look ((good_type around).rises at limit ts' reach' h) in
      let f = type_followed around n at limit ts ts' reach reach' is share h type at' limit' rest' s look (fits type at' limit' rest' s b place r look') in
      subst (Follows us us' m end (try_then next (type_in around reach (At at limit ts)))) look'
      (follows_then us us' m end next next' (type_in around reach (At at limit ts)) (Reads type (At at' limit' rest') s) most at l (omega (arith, few, is)) rises.0 (rises.2, f))

  fit_look : {B : Type 0} (around : Nesting) (next next' : TypeTree → Reader B) (most : ℕ) → ((type : TypeTree) → Beside us us' m end most (next type) (next' type)) → Fits next'
      → (n at : ℕ) (limit : Option Told) (ts ts' : List Token) (reach reach' : Option FarthestFailure) → n ≤ most → m ≡ at + n → Share us us' m end n ts ts' → Noted at limit
      → (look' : Try TypeTree) → type_in around reach' (At at limit ts') ≡ look' → Follows us us' m end (try_then next (type_in around reach (At at limit ts))) (try_then next' look')
  fit_look around next next' most l fits n at limit ts ts' reach reach' few is share h (Stops r) look = tt
  fit_look around next next' most l fits n at limit ts ts' reach reach' few is share h (Reads type (At at' limit' rest') s) look =
      fit_by around next next' most l fits n at limit ts ts' reach reach' few is share h type at' limit' rest' s look (next' type s (At at' limit' rest')) refl

  beside_type : {B : Type 0} (around : Nesting) (next next' : TypeTree → Reader B) {most : ℕ} → ((type : TypeTree) → Beside us us' m end most (next type) (next' type)) → Fits next'
      → Beside us us' m end most (λ reach place. try_then next (type_in around reach place)) (λ reach place. try_then next' (type_in around reach place))
  beside_type around next next' {most = most} l fits =
      record {
        this = good_then next (type_in around) (good_type around) (λ type. (l type).this);
        that = good_then next' (type_in around) (good_type around) (λ type. (l type).that);
        local = λ n at limit ts ts' reach reach' few is share h.
            fit_look around next next' most l fits n at limit ts ts' reach reach' few is share h (type_in around reach' (At at limit ts')) refl;
      }

  -- initialisers
  always_values : (around : Nesting) → Always us us' m end (values_in around) (values_in around)
  always_values around =
      beside_ahead us us' m end (listed MoreExprs NoExprs (expr_in false around)) (listed MoreExprs NoExprs (expr_in false around))
      (beside_listed us us' m end MoreExprs NoExprs (expr_in false around) (expr_in false around) (always_expr us us' m end around))

  always_fields : (around : Nesting) (opening : Token) → Always us us' m end (fields_in around opening) (fields_in around opening)
  always_fields around opening most =
      let none : Token → Reader tree.InitTree = λ closing reach place. Reads (tree.Fields opening NoExprs) place reach in
      let some : Reader tree.InitTree = λ reach place. try_as (tree.Fields opening) (up_to (is_sign "}") (values_in around reach place)) in
      beside_choice us us' m end (is_sign "}") plain none none some some refl (λ closing. beside_end us us' m end (tree.Fields opening NoExprs))
      (beside_as us us' m end (tree.Fields opening) (λ reach place. up_to (is_sign "}") (values_in around reach place)) (λ reach place. up_to (is_sign "}") (values_in around reach place))
      (beside_up_to us us' m end (is_sign "}") (values_in around) (values_in around) refl (always_values around most)))

  always_init : (around : Nesting) → Always us us' m end (init_in around) (init_in around)
  always_init around most =
      let value : Reader tree.InitTree = λ reach place. try_as tree.Value (expr_in false around reach place) in
      beside_choice us us' m end (is_sign "{") plain (fields_in around) (fields_in around) value value refl (λ opening. always_fields around opening (most - 1))
      (beside_as us us' m end tree.Value (expr_in false around) (expr_in false around) (always_expr us us' m end around most))

  always_maybe_init : (around : Nesting) → Always us us' m end (maybe_init_in around) (maybe_init_in around)
  always_maybe_init around most =
      let some : Token → Reader (Option tree.InitTree) = λ equals reach place. try_as Some (init_in around reach place) in
      let none : Reader (Option tree.InitTree) = λ reach place. Reads None place reach in
      beside_choice us us' m end (is_sign "=") plain some some none none refl (λ equals. beside_as us us' m end Some (init_in around) (init_in around) (always_init around (most - 1))) (beside_end us us' m end None)

  always_declarator : (around : Nesting) → Always us us' m end (declarator_in around) (declarator_in around)
  always_declarator around most =
      let next : Token → Reader tree.Declarator = λ name reach place. try_as (declarator name) (maybe_init_in around reach place) in
      beside_token us us' m end names plain next next refl (λ name. beside_as us us' m end (declarator name) (maybe_init_in around) (maybe_init_in around) (always_maybe_init around (most - 1)))

  always_declarators : (around : Nesting) → Always us us' m end (declarators_in around) (declarators_in around)
  always_declarators around =
      beside_ahead us us' m end (listed with_more [] (declarator_in around)) (listed with_more [] (declarator_in around))
      (beside_listed us us' m end with_more [] (declarator_in around) (declarator_in around) (always_declarator around))

  -- locals with types
  no_reads : {B : Type 0} (b : B) (place : Cursor) (r s : Option FarthestFailure) → Stops r ≡ Reads b place s → ⊥
  no_reads b place r s h = cc

  name_fits : (type : TypeTree) (name : Token) (rest : List Token) → names (symbol name) ≡ true → type_goes_on type (name ∷ rest) ≡ false
  name_fits type name rest h = let n = names-true (symbol name) h in stops type name rest (rw n refl) (rw n refl)

  abbrev more_declarators : Nesting → ℕ → tree.Declarator → Reader (List tree.Declarator)
  more_declarators around turns a =
      choice (is_sign ",") plain (λ comma reach place. try_as (with_more a) (listed with_more [] (declarator_in around) turns reach place)) (λ reach place. Reads (with_more a []) place reach)

  declarator_fits : (around : Nesting) (type : TypeTree) (b : Bool) (name : Token) (rest : List Token) (at : ℕ) (limit : Option Told) (reach : Option FarthestFailure) (turns : ℕ) (all : List tree.Declarator) (place : Cursor) (s : Option FarthestFailure) → names (symbol name) ≡ b
      → try_then (more_declarators around turns) (choice_by b plain (λ name reach place. try_as (declarator name) (maybe_init_in around reach place)) refused reach name (At at limit (name ∷ rest))) ≡ Reads all place s → type_goes_on type (name ∷ rest) ≡ false
  declarator_fits around type true name rest at limit reach turns all place s n h = name_fits type name rest n
  declarator_fits around type false name rest at limit reach turns all place s n h = absurd (no_reads all place _ s h)

  typed_fits : (around : Nesting) (word : Option Token) → Fits (λ type reach place. try_as (tree.Typed word type) (declarators_in around reach place))
  typed_fits around word type at limit [] reach b place s h = absurd (no_reads b place _ s h)
  typed_fits around word type at limit (name ∷ rest) reach b place s h =
      by_declarators (declarators_in around reach (At at limit (name ∷ rest))) refl h
    where
      by_declarators : (look : Try (List tree.Declarator)) → declarators_in around reach (At at limit (name ∷ rest)) ≡ look → try_as (tree.Typed word type) look ≡ Reads b place s → type_goes_on type (name ∷ rest) ≡ false
      by_declarators (Stops r) look h = absurd (no_reads b place r s h)
      by_declarators (Reads all p r) look h = declarator_fits around type (names (symbol name)) name rest at limit reach (length (name ∷ rest)) all p r refl look

  always_typed : (around : Nesting) (word : Option Token) → Always us us' m end (typed_in around word) (typed_in around word)
  always_typed around word most =
      let next : TypeTree → Reader LocalTree = λ type reach place. try_as (tree.Typed word type) (declarators_in around reach place) in
      beside_type around next next (λ type. beside_as us us' m end (tree.Typed word type) (declarators_in around) (declarators_in around) (always_declarators around most)) (typed_fits around word)

  -- locals whose types need not be written
  always_valued : (around : Nesting) (make : ExprTree → LocalTree) → Always us us' m end (valued_in around make) (valued_in around make)
  always_valued around make most =
      let next : Token → Reader LocalTree = λ equals reach place. try_as make (expr_in false around reach place) in
      beside_token us us' m end (is_sign "=") plain next next refl (λ equals. beside_as us us' m end make (expr_in false around) (expr_in false around) (always_expr us us' m end around (most - 1)))

  equals_fits : (around : Nesting) (type : TypeTree) (make : ExprTree → LocalTree) (b : Bool) (equals : Token) (rest : List Token) (at : ℕ) (limit : Option Told) (reach : Option FarthestFailure) (local : LocalTree) (place : Cursor) (s : Option FarthestFailure) → is_sign "=" (symbol equals) ≡ b
      → choice_by b plain (λ equals reach place. try_as make (expr_in false around reach place)) refused reach equals (At at limit (equals ∷ rest)) ≡ Reads local place s → type_goes_on type (equals ∷ rest) ≡ false
  equals_fits around type make true equals rest at limit reach local place s n h = let is = is_sign-true "=" (symbol equals) n in stops type equals rest (rw is refl) (rw is refl)
  equals_fits around type make false equals rest at limit reach local place s n h = absurd (no_reads local place _ s h)

  valued_fits : (around : Nesting) (make : TypeTree → ExprTree → LocalTree) → Fits (λ type. valued_in around (make type))
  valued_fits around make type at limit [] reach b place s h = absurd (no_reads b place _ s h)
  valued_fits around make type at limit (equals ∷ rest) reach b place s h = equals_fits around type (make type) (is_sign "=" (symbol equals)) equals rest at limit reach b place s refl h

  as_then : {A B C : Type 0} (make : A → B) (next : B → Reader C) (look : Try A) → try_then (λ a. next (make a)) look ≡ try_then next (try_as make look)
  as_then make next (Reads a place reach) = refl
  as_then make next (Stops reach) = refl

  good_maybe_type : (around : Nesting) → Good (maybe_type_in around)
  good_maybe_type around =
      good_choice (is_sign ":") plain (λ colon reach place. try_as Some (type_in around reach place)) (λ reach place. Reads None place reach) refl
      (λ colon. good_as Some (type_in around) (good_type around)) (good_end {A = Option TypeTree} None)

  module _ (around : Nesting) (make : Option TypeTree → ExprTree → LocalTree) where
    abbrev behind_type : Reader LocalTree
    behind_type reach place = try_then (λ type. valued_in around (make type)) (maybe_type_in around reach place)

    good_behind : Good behind_type
    good_behind = good_then (λ type. valued_in around (make type)) (maybe_type_in around) (good_maybe_type around) (λ type. (always_valued around (make type) 0).this)

    colon_local : (b : Bool) (n at : ℕ) (limit : Option Told) (p : Token) (ts ts' : List Token) (reach reach' : Option FarthestFailure) → m ≡ at + suc n → Share us us' m end n ts ts' → Noted at limit
        → Follows us us' m end
        (try_then (λ type. valued_in around (make type)) (choice_by b plain (λ colon reach place. try_as Some (type_in around reach place)) (λ reach place. Reads None place reach) reach p (At at limit (p ∷ ts))))
        (try_then (λ type. valued_in around (make type)) (choice_by b plain (λ colon reach place. try_as Some (type_in around reach place)) (λ reach place. Reads None place reach) reach' p (At at limit (p ∷ ts'))))
    colon_local true n at limit p ts ts' reach reach' is share h =
        let limit' = noted limit plain at p in
        let next : TypeTree → Reader LocalTree = λ type. valued_in around (make (Some type)) in
        subst (λ look. Follows us us' m end look (try_then (λ type. valued_in around (make type)) (try_as Some (type_in around reach' (At (suc at) limit' ts'))))) (as_then Some (λ type. valued_in around (make type)) (type_in around reach (At (suc at) limit' ts)))
        (subst (Follows us us' m end (try_then next (type_in around reach (At (suc at) limit' ts)))) (as_then Some (λ type. valued_in around (make type)) (type_in around reach' (At (suc at) limit' ts')))
        ((beside_type around next next {most = n} (λ type. always_valued around (make (Some type)) n) (valued_fits around (λ type. make (Some type)))).local n (suc at) limit' ts ts' reach reach' (le_refl n) (omega (arith, is)) share
        (noted_later limit' at (noted_stays limit plain at p h))))
    colon_local false n at limit p ts ts' reach reach' is share h = (always_valued around (make None) (suc n)).local (suc n) at limit (p ∷ ts) (p ∷ ts') reach reach' (le_refl (suc n)) is (one share) h

    behind_local : (most : ℕ) → Local us us' m end most behind_type behind_type
    behind_local most zero at limit ts ts' reach reach' few is here h = follows_place us us' m end behind_type behind_type good_behind good_behind at limit reach reach' (omega (arith, is)) h
    behind_local most (suc n) at limit ts ts' reach reach' few is (one {t = p} {ts = rest} {ts' = rest'} share) h = colon_local (is_sign ":" (symbol p)) n at limit p rest rest' reach reach' is share h

    always_behind : Always us us' m end behind_type behind_type
    always_behind most = record { this = good_behind; that = good_behind; local = behind_local most }

  always_inferred : (around : Nesting) (binding : Binding) (word : Token) → Always us us' m end (inferred_in around binding word) (inferred_in around binding word)
  always_inferred around binding word most =
      let next : Token → Reader LocalTree = λ name. behind_type around (tree.Inferred binding word name) in
      beside_token us us' m end names plain next next refl (λ name. always_behind around (tree.Inferred binding word name) (most - 1))

  -- locals
  pub always_local : (around : Nesting) → Always us us' m end (local_in around) (local_in around)
  always_local around most =
      let by_const : Reader LocalTree = choice (is_sign "const") plain (λ word. typed_in around (Some word)) (typed_in around None) in
      let by_var : Reader LocalTree = choice (is_sign "var") plain (inferred_in around Var) by_const in
      beside_choice us us' m end (is_sign "let") plain (inferred_in around Let) (inferred_in around Let) by_var by_var refl (λ word. always_inferred around Let word (most - 1))
      (beside_choice us us' m end (is_sign "var") plain (inferred_in around Var) (inferred_in around Var) by_const by_const refl (λ word. always_inferred around Var word (most - 1))
      (beside_choice us us' m end (is_sign "const") plain (λ word. typed_in around (Some word)) (λ word. typed_in around (Some word)) (typed_in around None) (typed_in around None) refl (λ word. always_typed around (Some word) (most - 1)) (always_typed around None most)))
