-- The reader of locals or simple statements before tokens with the same front.
use Rattle.std.proofs.Common.{◌≡◌, inl, inr, ℕ, zero, suc, ◌+◌, ◌<◌, ◌≤◌, Bool, true, false, List, [], ◌∷◌, ◌++◌, length, refl, sym, ap, subst, ◌∙◌, arith, le_refl, append_assoc, length-append}
use Rattle.std.specs.Prelude.{Option, Some, None, nat_lt, ◌&&◌}
use Rattle.std.proofs.lemmas.Bool.{false≢true, and_parts}
use Rattle.std.proofs.lemmas.Bool.Decides.{nat_tests}
use Rattle.def_token.specs.Lexical.{Token}
use Rattle.def_tree.specs.Limits.{Nesting, Entry, plain, local_entries}
use Rattle.def_tree.specs.Part.{type_goes_on}
use Rattle.def_tree.specs.Statements.{IsLocal, of_local}
use Rattle.def_tree.specs.StmtTree as tree
use Rattle.def_tree.specs.StmtTree.{Let, Var, Declarator, LocalTree, SimpleTree}
use Rattle.def_tree.specs.Symbol.{Symbol, symbol, is_sign, Is}
use Rattle.def_tree.specs.TypeTree.{TypeTree}
use Rattle.def_tree.specs.Types.{IsType}
use Rattle.law_tree.proofs.Heads.{IsHeaded, begins_type, type_head}
use Rattle.law_tree.proofs.StmtsCovered.{stmt_covered}
use Rattle.law_tree.proofs.Symbols.{is_sign-true}
use Rattle.law_tree.proofs.TypeEnds.{stops}
use Rattle.def_reading.specs.Cursor.{Told, Cursor, At, noted, FarthestFailure}
use Rattle.def_reading.specs.StmtReading.{init_in, maybe_init_in, declarator, declarator_in, with_more, declarators_in, typed_in, inferred_in, local_in, simple_in, values_behind, declares, local_up_to, simple_up_to, either_by, either_in}
use Rattle.def_reading.specs.Try.{Try, Reads, Stops, Reader, try_then, try_as, or_else, refused, choice, choice_by, token_then, up_to, listed, look_by}
use Rattle.def_reading.specs.TypeAhead.{LookAhead, Found, Missing, names, type_ahead}
use Rattle.def_reading.specs.TypeReading.{Ended}
use Rattle.law_types.proofs.AheadComplete.{type_found}
use Rattle.law_types.proofs.AheadFaults.{int_word, Splits, longer, shorter, splits, heads}
use Rattle.law_types.proofs.AheadSound.{SoundLook, names-true, type_sound}
use Rattle.law_types.proofs.AheadStages.{PathLook, ended_alive, type_looks}
use Rattle.law_exprs.proofs.ExprBeside.{share_front}
use Rattle.law_types.proofs.LimitSpots.{same_place, passed_at}
use Rattle.law_stmts.proofs.LocalBeside.{always_local}
use Rattle.law_stmts.proofs.LocalComes.{headed_not, local_is}
use Rattle.law_stmts.proofs.LocalSound.{local_sound}
use Rattle.law_stmts.proofs.LocalStays.{local_stay}
use Rattle.law_machine.proofs.MachineGrows.{above, at_most_same}
use Rattle.law_machine.proofs.MachineKinds.{sign_no_end, name_no_end}
use Rattle.law_stmts.proofs.SimpleBeside.{follows_past, always_simple}
use Rattle.law_types.proofs.Stopping.{ended_behind}
use Rattle.law_stmts.proofs.StmtComes.{semicolon_stops}
use Rattle.law_stmts.proofs.StmtFronts.{good_init, good_declarator, good_simple_up, good_either}
use Rattle.law_stmts.proofs.StmtHolds.{keeps_local}
use Rattle.law_exprs.proofs.TryComes.{Noted, Comes, comes_up_to, starts}
use Rattle.law_exprs.proofs.TryFollows.{Share, share_ended, Follows, follows_else, Always, beside_as, beside_up_to}
use Rattle.law_exprs.proofs.TryFronts.{Rises, Good, good_as, good_end, good_choice, good_token, good_listed}
use Rattle.law_exprs.proofs.TryHolds.{Holds, holds_then, holds_as}
use Rattle.law_exprs.proofs.TrySound.{Sound, UpTo, sound_up_to}
use Rattle.law_types.proofs.TypeStable.{type_stable, cancel}
use Rattle.law_types.proofs.TypeStages.{Head}

-- a choice at a token that passes its test, or does not
choice_yes : {A : Type 0} (test : Symbol → Bool) (entry : Entry) (yes' : Token → Reader A) (no' : Reader A) (reach : Option FarthestFailure) (at : ℕ) (limit : Option Told) (t : Token) (ts : List Token) → test (symbol t) ≡ true
    → choice test entry yes' no' reach (At at limit (t ∷ ts)) ≡ yes' t reach (At (suc at) (noted limit entry at t) ts)
choice_yes test entry yes' no' reach at limit t ts h = ap (λ b. choice_by b entry yes' no' reach t (At at limit (t ∷ ts))) h

choice_no : {A : Type 0} (test : Symbol → Bool) (entry : Entry) (yes' : Token → Reader A) (no' : Reader A) (reach : Option FarthestFailure) (at : ℕ) (limit : Option Told) (ts : List Token) → starts test ts ≡ false
    → choice test entry yes' no' reach (At at limit ts) ≡ no' reach (At at limit ts)
choice_no test entry yes' no' reach at limit [] h = refl
choice_no test entry yes' no' reach at limit (t ∷ ts) h = ap (λ b. choice_by b entry yes' no' reach t (At at limit (t ∷ ts))) h

ended_back : (front : List Token) (t : Token) (rest : List Token) → Ended (front ++ t ∷ rest) → Ended (t ∷ rest)
ended_back [] t rest end = end
ended_back (u ∷ []) t rest end = end
ended_back (u ∷ v ∷ front) t rest end = ended_back (v ∷ front) t rest end

reads_place : {A : Type 0} (a b : A) (p q : Cursor) (r s : Option FarthestFailure) → Reads a p r ≡ Reads b q s → p ≡ q
reads_place a b p q r s h = cc

found_place : (a b : TypeTree) (p q : Cursor) → ◌≡◌ {A = LookAhead TypeTree} (Found a p) (Found b q) → p ≡ q
found_place a b p q h = cc

some_way : FarthestFailure
some_way = record { many = 0; told = record { at = 0; token = int_word; code = 0 } }

-- what stands behind a type that is found, where tokens declare
pub record IsNamed (look : LookAhead TypeTree) : Type 0 where
  pub type : TypeTree
  pub at : ℕ
  pub limit : Option Told
  pub name : Token
  pub equals : Token
  pub others : List Token
  pub is : look ≡ Found type (At at limit (name ∷ equals ∷ others))
  pub named : names (symbol name) ≡ true
  pub marked : is_sign "=" (symbol equals) ≡ true

named_by : (look : LookAhead TypeTree) → values_behind look ≡ true → IsNamed look
named_by (Found type (At at limit [])) h = absurd (false≢true h)
named_by (Found type (At at limit (name ∷ []))) h = absurd (false≢true (and_parts (names (symbol name)) false h).1)
named_by (Found type (At at limit (name ∷ equals ∷ others))) h =
    let both = and_parts (names (symbol name)) (is_sign "=" (symbol equals)) h in
    record { type = type; at = at; limit = limit; name = name; equals = equals; others = others; is = refl; named = both.0; marked = both.1 }
named_by (Missing place) h = absurd (false≢true h)

-- A local where a type, a name and `=` stand goes on behind the `=`.
module _ (around : Nesting) (at : ℕ) (limit : Option Told) (ts : List Token) (reach : Option FarthestFailure) (end : Ended ts) (d : IsNamed (type_ahead (length ts) around.types (At at limit ts))) where
  tree_is : IsType ts d.type (d.name ∷ d.equals ∷ d.others)
  tree_is = subst (SoundLook IsType ts) d.is (type_sound (length ts) around.types at limit ts)

  fit : (rest : List Token) → type_goes_on d.type (d.name ∷ rest) ≡ false
  fit rest = let n = names-true (symbol d.name) d.named in stops d.type d.name rest (rw n refl) (rw n refl)

  alive : PathLook around.types zero (Head around.types zero) at limit ts (Found d.type (At d.at d.limit (d.name ∷ d.equals ∷ d.others)))
  alive = subst (PathLook around.types zero (Head around.types zero) at limit ts) d.is (type_looks (length ts) around.types zero at limit ts (le_refl (length ts)) end)

  others_ended : Ended d.others
  others_ended =
      ended_behind d.equals d.others (sign_no_end d.equals _ (is_sign-true "=" (symbol d.equals) d.marked))
      (ended_behind d.name (d.equals ∷ d.others) (name_no_end d.name (names-true (symbol d.name) d.named)) (ended_alive alive.alive end))

  head : IsHeaded begins_type ts
  head = type_head tree_is

  local_typed : local_in around reach (At at limit ts) ≡ typed_in around None reach (At at limit ts)
  local_typed =
      choice_no (is_sign "let") plain (inferred_in around Let) (choice (is_sign "var") plain (inferred_in around Var) (choice (is_sign "const") plain (λ word. typed_in around (Some word)) (typed_in around None)))
      reach at limit ts (headed_not begins_type "let" refl head)
      ∙ choice_no (is_sign "var") plain (inferred_in around Var) (choice (is_sign "const") plain (λ word. typed_in around (Some word)) (typed_in around None)) reach at limit ts (headed_not begins_type "var" refl head)
      ∙ choice_no (is_sign "const") plain (λ word. typed_in around (Some word)) (typed_in around None) reach at limit ts (headed_not begins_type "const" refl head)

  typed_found : typed_in around None reach (At at limit ts) ≡ try_as (tree.Typed None d.type) (declarators_in around reach (At d.at d.limit (d.name ∷ d.equals ∷ d.others)))
  typed_found = ap (λ look. try_then (λ type reach place. try_as (tree.Typed None type) (declarators_in around reach place)) (look_by reach look)) d.is

  module _ (w : FarthestFailure) (low : w.many < d.at + 2) where
    init_holds : Holds w (maybe_init_in around reach (At (suc d.at) (noted d.limit plain d.at d.name) (d.equals ∷ d.others)))
    init_holds =
        let limit' = noted d.limit plain d.at d.name in
        let limit'' = noted limit' plain (suc d.at) d.equals in
        subst (Holds w)
        (sym (choice_yes (is_sign "=") plain (λ equals reach place. try_as Some (init_in around reach place)) (λ reach place. Reads None place reach) reach (suc d.at) limit' d.equals d.others d.marked))
        (holds_as Some w (init_in around reach (At (suc (suc d.at)) limit'' d.others)) ((good_init around).keeps w (suc (suc d.at)) limit'' d.others reach others_ended (inr (omega (arith, low)))))

    declarator_holds : Holds w (declarator_in around reach (At d.at d.limit (d.name ∷ d.equals ∷ d.others)))
    declarator_holds =
        subst (Holds w) (sym (choice_yes names plain (λ name reach place. try_as (declarator name) (maybe_init_in around reach place)) refused reach d.at d.limit d.name (d.equals ∷ d.others) d.named))
        (holds_as (declarator d.name) w (maybe_init_in around reach (At (suc d.at) (noted d.limit plain d.at d.name) (d.equals ∷ d.others))) init_holds)

    good_more : (turns : ℕ) (a : Declarator)
        → Good (choice (is_sign ",") plain (λ comma reach place. try_as (with_more a) (listed with_more [] (declarator_in around) turns reach place)) (λ reach place. Reads (with_more a []) place reach))
    good_more turns a =
        good_choice (is_sign ",") plain (λ comma reach place. try_as (with_more a) (listed with_more [] (declarator_in around) turns reach place)) (λ reach place. Reads (with_more a []) place reach) refl
        (λ comma. good_as (with_more a) (listed with_more [] (declarator_in around) turns) (good_listed with_more [] (declarator_in around) (good_declarator around) turns)) (good_end (with_more a []))

    declarators_hold : Holds w (declarators_in around reach (At d.at d.limit (d.name ∷ d.equals ∷ d.others)))
    declarators_hold =
        let turns = length (d.name ∷ d.equals ∷ d.others) in
        holds_then (λ a. choice (is_sign ",") plain (λ comma reach place. try_as (with_more a) (listed with_more [] (declarator_in around) turns reach place)) (λ reach place. Reads (with_more a []) place reach)) w
        (declarator_in around reach (At d.at d.limit (d.name ∷ d.equals ∷ d.others))) declarator_holds (λ a. (good_more turns a).keeps)

    local_holds : Holds w (local_in around reach (At at limit ts))
    local_holds =
        subst (Holds w) (sym (local_typed ∙ typed_found)) (holds_as (tree.Typed None d.type) w (declarators_in around reach (At d.at d.limit (d.name ∷ d.equals ∷ d.others))) declarators_hold)

    pub up_holds : {A : Type 0} (of_a_local : LocalTree → A) → Holds w (local_up_to of_a_local around reach (At at limit ts))
    up_holds of_a_local =
        holds_as of_a_local w (up_to (is_sign ";") (local_in around reach (At at limit ts)))
        (holds_then (λ a. token_then (is_sign ";") plain (λ mark reach place. Reads a place reach)) w (local_in around reach (At at limit ts)) local_holds
        (λ a. (good_token (is_sign ";") plain (λ mark reach place. Reads a place reach) refl (λ mark. good_end a)).keeps))

  -- where all this stands in the front, other tokens declare too
  declares_split : (us us' front : List Token) (ts' : List Token) → ts ≡ front ++ us → ts' ≡ front ++ us' → d.at + 2 ≤ at + length front
      → (piece : List Token) → ts ≡ piece ++ d.name ∷ d.equals ∷ d.others → ((other : List Token) → IsType (piece ++ other) d.type other) → d.at ≡ at + length piece
      → Splits piece (d.name ∷ d.equals ∷ d.others) front us → declares around (At at limit ts') ≡ true
  declares_split us us' front ts' are are' far piece piece_are stable is_at (longer more piece_is rest_is) = absurd (omega (arith, far, is_at, ap length piece_is, length-append front more))
  declares_split us us' front ts' are are' far piece piece_are stable is_at (shorter a [] front_is rest_is) = absurd (omega (arith, far, is_at, ap length front_is, length-append piece (a ∷ [])))
  declares_split us us' front ts' are are' far piece piece_are stable is_at (shorter a (b ∷ mid) front_is rest_is) =
      let first = heads d.name a (d.equals ∷ d.others) (b ∷ (mid ++ us)) rest_is in
      let second = heads d.equals b d.others (mid ++ us) first.1 in
      let onto : ts' ≡ piece ++ a ∷ b ∷ (mid ++ us') = are' ∙ ap (λ front. front ++ us') front_is ∙ append_assoc piece (a ∷ b ∷ mid) us' in
      let named : names (symbol a) ≡ true = ap (λ (x : Token). names (symbol x)) (sym first.0) ∙ d.named in
      let marked : is_sign "=" (symbol b) ≡ true = ap (λ (x : Token). is_sign "=" (symbol x)) (sym second.0) ∙ d.marked in
      let n = names-true (symbol a) named in
      let other : IsType ts' d.type (a ∷ b ∷ (mid ++ us')) = subst (λ ts. IsType ts d.type (a ∷ b ∷ (mid ++ us'))) (sym onto) (stable (a ∷ b ∷ (mid ++ us'))) in
      let f = type_found other (stops d.type a (b ∷ (mid ++ us')) (rw n refl) (rw n refl)) (length ts') around.types at limit (le_refl (length ts')) in
      ap values_behind f.found ∙ ap (λ x. x && is_sign "=" (symbol b)) named ∙ marked

  -- tokens with this front declare
  pub declares_stays : (us us' front : List Token) (ts' : List Token) → ts ≡ front ++ us → ts' ≡ front ++ us' → d.at + 2 ≤ at + length front → declares around (At at limit ts') ≡ true
  declares_stays us us' front ts' are are' far =
      let s = type_stable tree_is in
      let same = cancel s.piece alive.alive.piece (d.name ∷ d.equals ∷ d.others) (sym s.are ∙ alive.alive.are) in
      declares_split us us' front ts' are are' far s.piece s.are s.stable (omega (arith, alive.alive.is_at, ap length same)) (splits s.piece (d.name ∷ d.equals ∷ d.others) front us (sym s.are ∙ are))

-- A local up to a semicolon in the front is one before other tokens too.
module _ (around : Nesting) where
  abbrev up : Option FarthestFailure → Cursor → Try LocalTree
  up reach place = up_to (is_sign ";") (local_in around reach place)

  record Again (local : LocalTree) (look : Try LocalTree) : Type 0 where
    place : Cursor
    reach : Option FarthestFailure
    is : look ≡ Reads local place reach

  comes_up : {tokens rest : List Token} {local : LocalTree} (mark : Token) → IsLocal tokens local (mark ∷ rest) → is_sign ";" (symbol mark) ≡ true → Comes up tokens local (local_entries around local ++ plain ∷ []) rest
  comes_up {rest = rest} mark l passes =
      let semi = is_sign-true ";" (symbol mark) passes in
      comes_up_to (is_sign ";") (local_in around) mark passes (local_is around l (semicolon_stops mark rest semi) (rw semi refl))

  mark_ended : {tokens rest : List Token} {local : LocalTree} (mark : Token) → IsLocal tokens local (mark ∷ rest) → Is ";" mark → Ended tokens → Ended (mark ∷ rest)
  mark_ended {tokens = tokens} {rest = rest} mark l semi end =
      let g = (local_is around l (semicolon_stops mark rest semi) (rw semi refl)).comes 0 None (Some some_way) in
      (subst (Holds some_way) g.is (keeps_local around some_way 0 None tokens (Some some_way) end (inl (above some_way (at_most_same some_way))))).0

  again_split : (us us' front ts ts' : List Token) (at at' : ℕ) (limit : Option Told) (reach : Option FarthestFailure) (local : LocalTree) (mark : Token) (rest : List Token) → IsLocal ts local (mark ∷ rest) → is_sign ";" (symbol mark) ≡ true → Ended ts → ts' ≡ front ++ us'
      → at' ≤ at + length front → (piece : List Token) → ts ≡ piece ++ mark ∷ rest → at' ≡ at + suc (length piece) → Splits piece (mark ∷ rest) front us → Again local (up reach (At at limit ts'))
  again_split us us' front ts ts' at at' limit reach local mark rest l passes end are' near piece piece_are is_at (longer more piece_is rest_is) = absurd (omega (arith, near, is_at, ap length piece_is, length-append front more))
  again_split us us' front ts ts' at at' limit reach local mark rest l passes end are' near piece piece_are is_at (shorter a mid front_is rest_is) =
      let semi = is_sign-true ";" (symbol mark) passes in
      let s = local_stay mark rest (mid ++ us') semi (mark_ended mark l semi end) l in
      let same = cancel s.front piece (mark ∷ rest) (sym s.are ∙ piece_are) in
      let first = (heads mark a rest (mid ++ us) rest_is).0 in
      let onto : ts' ≡ s.front ++ mark ∷ (mid ++ us') =
      are' ∙ ap (λ front. front ++ us') front_is ∙ append_assoc piece (a ∷ mid) us' ∙ ap (λ piece. piece ++ a ∷ (mid ++ us')) (sym same) ∙ ap (λ a. s.front ++ a ∷ (mid ++ us')) (sym first) in
      let g = (comes_up mark (subst (λ ts. IsLocal ts local (mark ∷ (mid ++ us'))) (sym onto) s.other) passes).comes at limit reach in
      record { place = At g.at g.limit (mid ++ us'); reach = g.reach; is = g.is }

  again : (us us' front ts ts' : List Token) (at : ℕ) (limit : Option Told) (reach reach' : Option FarthestFailure) (local : LocalTree) (at' : ℕ) (limit' : Option Told) (rest : List Token) (s : Option FarthestFailure) → Ended ts → Noted at limit → ts ≡ front ++ us → ts' ≡ front ++ us'
      → at' ≤ at + length front → up reach (At at limit ts) ≡ Reads local (At at' limit' rest) s → Again local (up reach' (At at limit ts'))
  again us us' front ts ts' at limit reach reach' local at' limit' rest s end h are are' near look =
      let u : UpTo (IsLocal ts) (is_sign ";") local rest = subst (Sound (UpTo (IsLocal ts) (is_sign ";"))) look (sound_up_to (IsLocal ts) (is_sign ";") (local_in around reach (At at limit ts)) (local_sound around at limit ts reach)) in
      let semi = is_sign-true ";" (symbol u.mark) u.passes in
      let g = (comes_up u.mark u.part u.passes).comes at limit reach in
      let here = (same_place (reads_place local local (At at' limit' rest) (At g.at g.limit rest) s g.reach (sym look ∙ g.is))).0 in
      let covered = stmt_covered around (of_local u.part semi) in
      let entries = local_entries around local ++ plain ∷ [] in
      let at_is : g.at ≡ at + length entries = passed_at entries at limit ts (omega (arith, covered)) (g.passes h) in
      let first = local_stay u.mark rest [] semi (mark_ended u.mark u.part semi end) u.part in
      let long : length ts ≡ length first.front + suc (length rest) = ap length first.are ∙ length-append first.front (u.mark ∷ rest) in
      again_split us us' front ts ts' at at' limit reach' local u.mark rest u.part u.passes end are' near first.front first.are (omega (arith, here, at_is, covered, long)) (splits first.front (u.mark ∷ rest) front us (sym first.are ∙ are))

stops_again : {A : Type 0} (a : A) (p : Cursor) (r s : Option FarthestFailure) → Stops s ≡ Reads a p r → ⊥
stops_again a p r s h = cc

-- a local or a simple statement
module _ (us us' : List Token) (m : ℕ) (end : Ended us) {A : Type 0} (of_a_local : LocalTree → A) (of_a_simple : SimpleTree → A) (around : Nesting) where
  always_local_up : Always us us' m end (local_up_to of_a_local around) (local_up_to of_a_local around)
  always_local_up most =
      beside_as us us' m end of_a_local (λ reach place. up_to (is_sign ";") (local_in around reach place)) (λ reach place. up_to (is_sign ";") (local_in around reach place))
      (beside_up_to us us' m end (is_sign ";") (local_in around) (local_in around) refl (always_local us us' m end around most))

  always_simple_up : Always us us' m end (simple_up_to of_a_simple around) (simple_up_to of_a_simple around)
  always_simple_up most =
      beside_as us us' m end of_a_simple (λ reach place. up_to (is_sign ";") (simple_in around reach place)) (λ reach place. up_to (is_sign ";") (simple_in around reach place))
      (beside_up_to us us' m end (is_sign ";") (simple_in around) (simple_in around) refl (always_simple us us' m end around most))

  module _ (n at : ℕ) (limit : Option Told) (ts ts' : List Token) (reach reach' : Option FarthestFailure) (is : m ≡ at + n) (share : Share us us' m end n ts ts') (h : Noted at limit) where
    ended : Ended ts
    ended = share_ended us us' m end share

    abbrev Follow : Try A → Try A → Type 0
    Follow look look' = Follows us us' m end look look'

    followed_local : Follow (local_up_to of_a_local around reach (At at limit ts)) (local_up_to of_a_local around reach' (At at limit ts'))
    followed_local = (always_local_up n).local n at limit ts ts' reach reach' (le_refl n) is share h

    -- where the other reads a local
    this_by : (b : Bool) (look' : Try A) → Follow (local_up_to of_a_local around reach (At at limit ts)) look' → Follow (either_by b of_a_local of_a_simple around reach (At at limit ts)) look'
    this_by true look' f = f
    this_by false look' f = follows_else us us' m end (simple_up_to of_a_simple around) at limit ts (local_up_to of_a_local around reach (At at limit ts)) look' (good_simple_up of_a_simple around).keeps ended f

    simple_rises : (r : Option FarthestFailure) → Rises at limit (simple_up_to of_a_simple around r (At at limit ts'))
    simple_rises r = (good_simple_up of_a_simple around).rises at limit ts' r h

    -- where tokens declare here, and not there
    true_by : (b : Bool) (d : IsNamed (type_ahead (length ts) around.types (At at limit ts))) → nat_lt m (d.at + 2) ≡ b → declares around (At at limit ts') ≡ false → (r : Option FarthestFailure)
        → Follow (local_up_to of_a_local around reach (At at limit ts)) (simple_up_to of_a_simple around r (At at limit ts'))
    true_by true d less no' r =
        let low : m < d.at + 2 = grind (arith, nat_tests, less) in
        follows_past us us' m end (local_up_to of_a_local around reach (At at limit ts)) (simple_up_to of_a_simple around r (At at limit ts')) at limit (simple_rises r)
        (λ w many. up_holds around at limit ts reach ended d w (omega (arith, low, many)) of_a_local)
    true_by false d less no' r =
        let far : d.at + 2 ≤ m = grind (arith, nat_tests, less) in
        let f = share_front us us' m end share in
        absurd (false≢true (sym no' ∙ declares_stays around at limit ts reach ended d us us' f.front ts' f.are f.others (omega (arith, far, is, f.long))))

    -- where neither declares
    up_ended : (local : LocalTree) (at' : ℕ) (limit' : Option Told) (rest : List Token) (s : Option FarthestFailure) → up around reach (At at limit ts) ≡ Reads local (At at' limit' rest) s → Ended rest
    up_ended local at' limit' rest s look =
        let u : UpTo (IsLocal ts) (is_sign ";") local rest = subst (Sound (UpTo (IsLocal ts) (is_sign ";"))) look (sound_up_to (IsLocal ts) (is_sign ";") (local_in around reach (At at limit ts)) (local_sound around at limit ts reach)) in
        let semi = is_sign-true ";" (symbol u.mark) u.passes in
        ended_behind u.mark rest (sign_no_end u.mark _ semi) (mark_ended around u.mark u.part semi ended)

    read_by : (b : Bool) (local : LocalTree) (at' : ℕ) (limit' : Option Told) (rest : List Token) (s : Option FarthestFailure) → nat_lt m at' ≡ b → up around reach (At at limit ts) ≡ Reads local (At at' limit' rest) s
        → (r : Option FarthestFailure) → up around reach' (At at limit ts') ≡ Stops r → Follow (Reads (of_a_local local) (At at' limit' rest) s) (simple_up_to of_a_simple around r (At at limit ts'))
    read_by true local at' limit' rest s less look r stops' =
        let low : m < at' = grind (arith, nat_tests, less) in
        follows_past us us' m end (Reads (of_a_local local) (At at' limit' rest) s) (simple_up_to of_a_simple around r (At at limit ts')) at limit (simple_rises r)
        (λ w many. (up_ended local at' limit' rest s look, inr (omega (arith, low, many))))
    read_by false local at' limit' rest s less look r stops' =
        let near : at' ≤ m = grind (arith, nat_tests, less) in
        let f = share_front us us' m end share in
        let a = again around us us' f.front ts ts' at limit reach reach' local at' limit' rest s ended h f.are f.others (omega (arith, near, is, f.long)) look in
        absurd (stops_again local a.place a.reach r (sym stops' ∙ a.is))

    false_by : (look : Try LocalTree) → up around reach (At at limit ts) ≡ look → (r : Option FarthestFailure) → up around reach' (At at limit ts') ≡ Stops r
        → Follow (or_else (simple_up_to of_a_simple around) (At at limit ts) (try_as of_a_local look)) (simple_up_to of_a_simple around r (At at limit ts'))
    false_by (Stops s) look r stops' = (always_simple_up n).local n at limit ts ts' s r (le_refl n) is share h
    false_by (Reads local (At at' limit' rest) s) look r stops' = read_by (nat_lt m at') local at' limit' rest s refl look r stops'

    simple_by : (b : Bool) → declares around (At at limit ts) ≡ b → declares around (At at limit ts') ≡ false → (r : Option FarthestFailure) → up around reach' (At at limit ts') ≡ Stops r
        → Follow (either_by b of_a_local of_a_simple around reach (At at limit ts)) (simple_up_to of_a_simple around r (At at limit ts'))
    simple_by true yes' no' r stops' =
        let d = named_by (type_ahead (length ts) around.types (At at limit ts)) yes' in true_by (nat_lt m (d.at + 2)) d refl no' r
    simple_by false yes' no' r stops' = false_by (up around reach (At at limit ts)) refl r stops'

    other_by : (look' : Try LocalTree) → up around reach' (At at limit ts') ≡ look' → declares around (At at limit ts') ≡ false
        → Follow (either_in of_a_local of_a_simple around reach (At at limit ts)) (or_else (simple_up_to of_a_simple around) (At at limit ts') (try_as of_a_local look'))
    other_by (Reads local place s) look' no' =
        this_by (declares around (At at limit ts)) (Reads (of_a_local local) place s)
        (subst (λ look'. Follow (local_up_to of_a_local around reach (At at limit ts)) (try_as of_a_local look')) look' followed_local)
    other_by (Stops r) look' no' = simple_by (declares around (At at limit ts)) refl no' r look'

    either_follows : (b : Bool) → declares around (At at limit ts') ≡ b → Follow (either_in of_a_local of_a_simple around reach (At at limit ts)) (either_by b of_a_local of_a_simple around reach' (At at limit ts'))
    either_follows true yes' = this_by (declares around (At at limit ts)) (local_up_to of_a_local around reach' (At at limit ts')) followed_local
    either_follows false no' = other_by (up around reach' (At at limit ts')) refl no'

  -- the choice before the same front
  pub always_either : Always us us' m end (either_in of_a_local of_a_simple around) (either_in of_a_local of_a_simple around)
  always_either most =
      record {
        this = good_either of_a_local of_a_simple around;
        that = good_either of_a_local of_a_simple around;
        local = λ n at limit ts ts' reach reach' few is share h. either_follows n at limit ts ts' reach reach' is share h (declares around (At at limit ts')) refl;
      }
