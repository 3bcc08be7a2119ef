-- Locals, and simple statements where no local stands.
use Rattle.std.proofs.Common.{◌≡◌, suc, ◌-◌, ◌<◌, Bool, true, false, List, length, drop, get_or, refl, sym, ap, subst, ◌∙◌, arith, le_refl}
use Rattle.std.specs.Prelude.{Option, Result}
use Rattle.std.specs.Option.{option_map}
use Rattle.std.proofs.lemmas.List.{drop-map, length-map}
use Rattle.std.proofs.lemmas.Option.{slice_get-get_or}
use Rattle.def_token.specs.Lexical as lexical
use Rattle.def_tree.specs.Limits.{Nesting}
use Rattle.def_tree.specs.StmtTree as stmts
use Rattle.def_tree.specs.Symbol.{is_sign}
use Rattle.def_tree.specs.TypeTree.{TypeTree}
use Rattle.def_reading.specs.Cursor as places
use Rattle.def_reading.specs.Cursor.{At}
use Rattle.def_reading.specs.StmtReading as reading
use Rattle.def_reading.specs.StmtReading.{names_a_value, values_behind, declares, either_by}
use Rattle.def_reading.specs.Try.{Try, Reads, Stops, try_as, or_else, up_to}
use Rattle.def_reading.specs.TypeAhead.{LookAhead, Found, Missing, type_ahead}
use Rattle.law_types.proofs.TypeTurns.{type_turns}
use Rattle.sl_token.specs.View.{token_in, tokens_in}
use Rattle.sl_tree.specs.View as view
use Rattle.sl_tree.specs.declared.statements.LocalTree.{LocalTree}
use Rattle.sl_stmt.specs.Eithers.{ALocal, ASimple, made_of, either_in, either_read, else_by, IsOtherwise}
use Rattle.sl_cursor.specs.Ending.{Ending, AreEnds, ending_of}
use Rattle.sl_cursor.specs.Following.{Follows, IsRead}
use Rattle.sl_cursor.specs.Seen.{place_in, reach_in, told_in}
use Rattle.sl_cursor.specs.Tries.{IsIn, on_lists}
use Rattle.sl_cursor.specs.declared.ends.Ends.{Ends}
use Rattle.sl_stmt.specs.declared.either.Either.{Either}
use Rattle.sl_stmt.specs.declared.either.Either.TheVariants as either
use Rattle.sl_cursor.specs.declared.cursor.Cursor.{Cursor}
use Rattle.sl_cursor.specs.declared.cursor.FarthestFailure.{FarthestFailure}
use Rattle.sl_cursor.specs.declared.source.Here.{Here}
use Rattle.sl_cursor.specs.declared.source.Source.{Source}
use Rattle.sl_cursor.specs.declared.source.Unread.{Unread}
use Rattle.sl_cursor.proofs.Following.{read_by, follows_by, read_as}
use Rattle.sl_cursor.proofs.Listed.{left}
use Rattle.sl_look.proofs.TailEnds.{no_ends}

-- a name and `=` stand behind what is found
abbrev pub valued : Bool → List lexical.Token → Bool
valued true tokens = names_a_value tokens
valued false tokens = false

values_by : (look : LookAhead TypeTree) → values_behind look ≡ valued (ending_of look).0 (ending_of look).2
values_by (Found type (At at limit tokens)) = refl
values_by (Missing (At at limit tokens)) = refl

-- what is kept of a place
abbrev pub kept : Source → Cursor → Ends
kept source place = get_or source.ahead.now (length place.rest.now) no_ends

kept_is : (source : Source) (place : Cursor) → IsIn source place → AreEnds (kept source place) (tokens_in source.bytes.now place.rest.now)
kept_is source place i =
    let bytes = source.bytes.now in
    let tokens = source.tokens.now in
    let all = tokens_in bytes tokens in
    let many = length place.rest.now in
    let inside : many < length source.ahead.now = omega (arith, left source place i, source.whole) in
    let before : length all - many ≡ place.at = omega (arith, left source place i, length-map tokens (token_in bytes)) in
    subst (AreEnds (kept source place)) (ap (λ n. drop n all) before ∙ drop-map (token_in bytes) place.at tokens ∙ ap (tokens_in bytes) (sym i.rest))
    (source.table many (kept source place) (slice_get-get_or source.ahead.now many no_ends inside))

pub declares_is : (source : Source) (around : Nesting) (place : Cursor) → IsIn source place
    → declares around (place_in source.bytes.now place) ≡ valued (kept source place).one.found (drop (kept source place).one.many (tokens_in source.bytes.now place.rest.now))
declares_is source around place i =
    let bytes = source.bytes.now in
    let ts = tokens_in bytes place.rest.now in
    let limit = option_map (told_in bytes) place.limit in
    let enough : length ts < suc (length ts) = omega arith in
    ap values_behind (type_turns (length ts) around.types place.at limit ts (le_refl (length ts)))
    ∙ values_by (type_ahead (suc (length ts)) around.types (At place.at limit ts))
    ∙ ap (λ (e : Ending). valued e.0 e.2) ((kept_is source place i).one (suc (length ts)) around.types place.at limit enough)

-- a local up to a semicolon, beside ways and at a place
abbrev local_at : Nesting → Option places.FarthestFailure → places.Cursor → Try stmts.LocalTree
local_at around reach place = up_to (is_sign ";") (reading.local_in around reach place)

local_read : (b : Bool) (around : Nesting) (reach : Option places.FarthestFailure) (place : places.Cursor) (tree : stmts.LocalTree) (end : places.Cursor) (more : Option places.FarthestFailure) → local_at around reach place ≡ Reads tree end more
    → either_by b ALocal ASimple around reach place ≡ try_as ALocal (local_at around reach place)
local_read true around reach place tree end more is = refl
local_read false around reach place tree end more is = ap (λ look. or_else (reading.simple_up_to ASimple around) place (try_as ALocal look)) is ∙ sym (ap (try_as ALocal) is)

local_stops : (b : Bool) (around : Nesting) (reach : Option places.FarthestFailure) (place : places.Cursor) (more : Option places.FarthestFailure) → local_at around reach place ≡ Stops more
    → either_by b ALocal ASimple around reach place ≡ else_by b around more place
local_stops true around reach place more is = ap (try_as ALocal) is
local_stops false around reach place more is = ap (λ look. or_else (reading.simple_up_to ASimple around) place (try_as ALocal look)) is

pub either_local : (source : Source) (around : Nesting) (from : Here) (local : LocalTree) (to : Here) → IsRead source (view.local_in source.bytes.now) (local_at around) from local to
    → IsRead source (either_in source.bytes.now) (either_read around) from (either.Local local) to
either_local source around from local to r =
    let bytes = source.bytes.now in
    let reach = option_map (reach_in bytes) from.reach in
    let place = place_in bytes from.place in
    read_by source (either_in bytes) (either_read around) (λ reach place. try_as ALocal (local_at around reach place)) from from (either.Local local) to
    (local_read (declares around place) around reach place r.tried.tree (place_in bytes to.place) (option_map (reach_in bytes) to.reach) r.tried.is)
    (le_refl from.place.at) (λ h. h)
    (read_as source (view.local_in bytes) (either_in bytes) ALocal (local_at around) from local (either.Local local) to r (λ h k. refl))

pub either_other : (source : Source) (around : Nesting) (from : Here) (reach : Option FarthestFailure) (result : Result (Either × Here) Unread) → on_lists source (local_at around) from ≡ Stops (option_map (reach_in source.bytes.now) reach)
    → IsOtherwise source around reach from result → Follows source (either_in source.bytes.now) (either_read around) from result
either_other source around from reach result is f =
    let bytes = source.bytes.now in
    let place = place_in bytes from.place in
    follows_by source (either_in bytes) (either_read around) (λ other place. else_by (declares around place) around (option_map (reach_in bytes) reach) place) from from result
    (local_stops (declares around place) around (option_map (reach_in bytes) from.reach) place (option_map (reach_in bytes) reach) is) (le_refl from.place.at) (λ h. h) f

as_twice : {A B C : Type 0} (make : B → C) (first : A → B) (whole : A → C) → ((a : A) → make (first a) ≡ whole a) → (look : Try A) → try_as whole look ≡ try_as make (try_as first look)
as_twice make first whole same (Reads a place reach) = ap (λ c. Reads c place reach) (sym (same a))
as_twice make first whole same (Stops reach) = refl

else_made : {A : Type 0} (local : stmts.LocalTree → A) (simple : stmts.SimpleTree → A) (around : Nesting) (place : places.Cursor) (look : Try stmts.LocalTree)
    → or_else (reading.simple_up_to simple around) place (try_as local look) ≡ try_as (made_of local simple) (or_else (reading.simple_up_to ASimple around) place (try_as ALocal look))
else_made local simple around place (Reads tree end reach) = refl
else_made local simple around place (Stops reach) = as_twice (made_of local simple) ASimple simple (λ tree. refl) (up_to (is_sign ";") (reading.simple_in around reach place))

made_by : {A : Type 0} (b : Bool) (local : stmts.LocalTree → A) (simple : stmts.SimpleTree → A) (around : Nesting) (reach : Option places.FarthestFailure) (place : places.Cursor)
    → either_by b local simple around reach place ≡ try_as (made_of local simple) (either_by b ALocal ASimple around reach place)
made_by true local simple around reach place = as_twice (made_of local simple) ALocal local (λ tree. refl) (local_at around reach place)
made_by false local simple around reach place = else_made local simple around place (local_at around reach place)

-- what is made of a local or else a simple statement
pub either_made : {A : Type 0} (local : stmts.LocalTree → A) (simple : stmts.SimpleTree → A) (around : Nesting) (reach : Option places.FarthestFailure) (place : places.Cursor)
    → reading.either_in local simple around reach place ≡ try_as (made_of local simple) (either_read around reach place)
either_made local simple around reach place = made_by (declares around place) local simple around reach place
