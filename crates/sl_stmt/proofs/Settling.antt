-- Forms with statements, one behind another.
use Rattle.std.proofs.Common.{◌≡◌, inl, ℕ, ◌≤◌, Bool, true, false, List, sym, ap, subst, ◌∙◌, arith, le_refl}
use Rattle.std.specs.Prelude.{IsErrAnd, Option, Some, None, Result, Ok, Err}
use Rattle.std.specs.Option.{option_map}
use Rattle.std.proofs.lemmas.Bool.Decides.{nat_tests}
use Rattle.def_token.specs.Lexical as lexical
use Rattle.def_tree.specs.Limits.{Entry}
use Rattle.def_tree.specs.Symbol.{Symbol}
use Rattle.def_reading.specs.Cursor as places
use Rattle.def_reading.specs.Cursor.{At}
use Rattle.def_reading.specs.Try.{Reader, try_then, try_as, choice}
use Rattle.sl_token.specs.View.{token_in, tokens_in}
use Rattle.sl_token.specs.declared.token.Token.{Token}
use Rattle.sl_cursor.specs.Following.{IsRead, Follows, passes, IsPassed}
use Rattle.sl_cursor.specs.Seen.{reach_in, told_in}
use Rattle.sl_stmt.specs.Settling.{IsOver, IsDecided, Settles, is_short, IsSettled}
use Rattle.sl_cursor.specs.Tries.{on_lists}
use Rattle.sl_cursor.specs.declared.cursor.FarthestFailure.{FarthestFailure}
use Rattle.sl_cursor.specs.declared.cursor.Told.{Told}
use Rattle.sl_cursor.specs.declared.source.Here.{Here}
use Rattle.sl_cursor.specs.declared.source.Source.{Source}
use Rattle.sl_cursor.specs.declared.source.Unread.{Unread}
use Rattle.sl_cursor.specs.declared.source.Unread.TheVariants as unread
use Rattle.sl_stmt.proofs.Deciding.{Decides, decided_then, decided_as}
use Rattle.sl_cursor.proofs.Following.{read_by, choice_is, choice_not}

pub settles_of : {A B : Type 0} (source : Source) (view : A → B) (reader : Reader B) (from : Here) (result : Result (A × Here) Unread) → Follows source view reader from result → Settles source view reader from result
settles_of source view reader from (Ok found) f = f
settles_of source view reader from (Err (unread.Refused reach)) f = f
settles_of source view reader from (Err (unread.Deep told)) f = absurd f
settles_of source view reader from (Err unread.NoMemory) f = tt

pub settles_by : {A B : Type 0} (source : Source) (view : A → B) (reader next : Reader B) (from mid : Here) (result : Result (A × Here) Unread) → on_lists source reader from ≡ on_lists source next mid
    → from.place.at ≤ mid.place.at → (mid.place.limit ≡ None → from.place.limit ≡ None) → Settles source view next mid result → Settles source view reader from result
settles_by source view reader next from mid (Ok found) is on rises s = read_by source view reader next from mid found.0 found.1 is on rises s
settles_by source view reader next from mid (Err (unread.Refused reach)) is on rises s = is ∙ s
settles_by source view reader next from mid (Err (unread.Deep told)) is on rises s = subst (IsDecided (told_in source.bytes.now told)) (sym is) s
settles_by source view reader next from mid (Err unread.NoMemory) is on rises s = tt

-- what is handed on
pub settles_err : {A B : Type 0} (source : Source) (view : A → B) (reader : Reader B) (from : Here) (result : Result (A × Here) Unread) (stop : Unread) → IsErrAnd result (λ x. x ≡ stop)
    → Settles source view reader from (Err stop) → Settles source view reader from result
settles_err source view reader from (Ok found) stop h s = absurd h
settles_err source view reader from (Err other) stop h s = subst (λ (stop : Unread). Settles source view reader from (Err stop)) (sym h) s

pub settles_yes : {A B : Type 0} (source : Source) (view : A → B) (test : Symbol → Bool) (entry : Entry) (yes' : lexical.Token → Reader B) (no' : Reader B) (from : Here) (token : Token) (to : Here) (result : Result (A × Here) Unread)
    → IsPassed source test entry from token to → Settles source view (yes' (token_in source.bytes.now token)) to result → Settles source view (choice test entry yes' no') from result
settles_yes source view test entry yes' no' from token to result p s =
    settles_by source view (choice test entry yes' no') (yes' (token_in source.bytes.now token)) from to result (choice_is source test entry yes' no' from token to p) (omega (arith, p.on)) p.rises s

pub settles_no : {A B : Type 0} (source : Source) (view : A → B) (test : Symbol → Bool) (entry : Entry) (yes' : lexical.Token → Reader B) (no' : Reader B) (from : Here) (result : Result (A × Here) Unread)
    → passes test (tokens_in source.bytes.now from.place.rest.now) ≡ false → Settles source view no' from result → Settles source view (choice test entry yes' no') from result
settles_no source view test entry yes' no' from result h s =
    settles_by source view (choice test entry yes' no') no' from from result (choice_not source test entry yes' no' from h) (le_refl from.place.at) (λ h. h) s

-- what is read behind something
pub settles_then : {A B C D : Type 0} (source : Source) (view : A → B) (view' : C → D) (next : B → Reader D) (reader : Reader B) (from : Here) (read : A) (mid : Here) (result : Result (C × Here) Unread)
    → IsRead source view reader from read mid → ((tree : B) → (mid.place.limit ≡ None → tree ≡ view read) → Settles source view' (next tree) mid result)
    → Settles source view' (λ reach place. try_then next (reader reach place)) from result
settles_then source view view' next reader from read mid result r more =
    settles_by source view' (λ reach place. try_then next (reader reach place)) (next r.tried.tree) from mid result (ap (try_then next) r.tried.is) r.on r.tried.rises (more r.tried.tree r.tried.same)

pub settles_stop_then : {A B C D : Type 0} (source : Source) (view : A → B) (view' : C → D) (next : B → Reader D) (reader : Reader B) (from : Here) (stop : Unread) → ((tree : B) → Decides (next tree))
    → Settles source view reader from (Err stop) → Settles source view' (λ reach place. try_then next (reader reach place)) from (Err stop)
settles_stop_then source view view' next reader from (unread.Refused reach) k s = ap (try_then next) s
settles_stop_then source view view' next reader from (unread.Deep told) k s = decided_then next (told_in source.bytes.now told) (on_lists source reader from) k s
settles_stop_then source view view' next reader from unread.NoMemory k s = tt

pub settles_stop_as : {A B C D : Type 0} (source : Source) (view : A → B) (view' : C → D) (make : B → D) (reader : Reader B) (from : Here) (stop : Unread)
    → Settles source view reader from (Err stop) → Settles source view' (λ reach place. try_as make (reader reach place)) from (Err stop)
settles_stop_as source view view' make reader from (unread.Refused reach) s = ap (try_as make) s
settles_stop_as source view view' make reader from (unread.Deep told) s = decided_as make (told_in source.bytes.now told) (on_lists source reader from) s
settles_stop_as source view view' make reader from unread.NoMemory s = tt

-- where a limit stands before a place that no way reaches, it is told
over_short : (bytes : List ℕ) (told : places.Told) (at : ℕ) (reach : Option FarthestFailure) → is_short at reach ≡ true → IsOver told at (option_map (reach_in bytes) reach)
over_short bytes told at None h = tt
over_short bytes told at (Some reach) h = inl (grind (arith, nat_tests, h))

pub settles_decided : {A B : Type 0} (source : Source) (view : A → B) (reader : Reader B) → Decides reader → (from : Here) (told : Told) → IsSettled told from → Settles source view reader from (Err (unread.Deep told))
settles_decided source view reader k from told s =
    let bytes = source.bytes.now in
    let reach = option_map (reach_in bytes) from.reach in
    let tokens = tokens_in bytes from.place.rest.now in
    subst (λ limit. IsDecided (told_in bytes told) (reader reach (At from.place.at (option_map (told_in bytes) limit) tokens))) (sym s.limit)
    (k (told_in bytes told) from.place.at tokens reach s.before (over_short bytes (told_in bytes told) from.place.at from.reach s.short))
