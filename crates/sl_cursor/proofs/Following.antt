-- Readers that stand one behind another.
use Rattle.std.proofs.Common.{◌≡◌, ℕ, ◌≤◌, Bool, false, List, [], ◌∷◌, refl, sym, ap, subst, ◌∙◌, arith, le_refl}
use Rattle.std.specs.Prelude.{IsErrAnd, Option, None, Result, Ok, Err}
use Rattle.std.specs.Option.{option_map}
use Rattle.def_token.specs.Lexical as lexical
use Rattle.def_tree.specs.Limits.{Entry, plain}
use Rattle.def_tree.specs.Symbol.{Symbol}
use Rattle.def_reading.specs.Cursor as places
use Rattle.def_reading.specs.Cursor.{At, advance}
use Rattle.def_reading.specs.Try.{Try, Reads, Stops, Reader, try_then, try_as, refused, choice, choice_by, token_then, up_to}
use Rattle.sl_token.specs.View.{token_in, tokens_in}
use Rattle.sl_token.specs.declared.token.Token.{Token}
use Rattle.sl_cursor.specs.Following.{IsAt, IsRead, Follows, passes, IsPassed, MustPass, Refuses}
use Rattle.sl_cursor.specs.Seen.{place_in, reach_in, told_in}
use Rattle.sl_cursor.specs.Tries.{on_lists}
use Rattle.sl_cursor.specs.declared.source.Here.{Here}
use Rattle.sl_cursor.specs.declared.source.Source.{Source}
use Rattle.sl_cursor.specs.declared.source.Unread.{Unread}
use Rattle.sl_cursor.specs.declared.source.Unread.TheVariants as unread

-- what is read from a place is read from one before it, where the reader goes from this to that
pub read_by : {A B : Type 0} (source : Source) (view : A → B) (reader next : Reader B) (from mid : Here) (read : A) (to : Here) → on_lists source reader from ≡ on_lists source next mid
    → from.place.at ≤ mid.place.at → (mid.place.limit ≡ None → from.place.limit ≡ None) → IsRead source view next mid read to → IsRead source view reader from read to
read_by source view reader next from mid read to is on rises r =
    record {
      tried = record { tree = r.tried.tree; is = is ∙ r.tried.is; same = r.tried.same; rises = λ h. rises (r.tried.rises h); stands = r.tried.stands };
      on = omega (arith, on, r.on);
      behind = r.behind;
    }

pub follows_by : {A B : Type 0} (source : Source) (view : A → B) (reader next : Reader B) (from mid : Here) (result : Result (A × Here) Unread) → on_lists source reader from ≡ on_lists source next mid
    → from.place.at ≤ mid.place.at → (mid.place.limit ≡ None → from.place.limit ≡ None) → Follows source view next mid result → Follows source view reader from result
follows_by source view reader next from mid (Ok found) is on rises f = read_by source view reader next from mid found.0 found.1 is on rises f
follows_by source view reader next from mid (Err (unread.Refused reach)) is on rises f = is ∙ f
follows_by source view reader next from mid (Err (unread.Deep told)) is on rises f = f
follows_by source view reader next from mid (Err unread.NoMemory) is on rises f = tt

-- what is handed on
pub follows_err : {A B : Type 0} (source : Source) (view : A → B) (reader : Reader B) (from : Here) (result : Result (A × Here) Unread) (stop : Unread) → IsErrAnd result (λ x. x ≡ stop)
    → Follows source view reader from (Err stop) → Follows source view reader from result
follows_err source view reader from (Ok found) stop h f = absurd h
follows_err source view reader from (Err other) stop h f = subst (λ (stop : Unread). Follows source view reader from (Err stop)) (sym h) f

-- a tree made of what is read
pub read_as : {A B C D : Type 0} (source : Source) (view : A → B) (view' : C → D) (make : B → D) (reader : Reader B) (from : Here) (read : A) (made : C) (to : Here) → IsRead source view reader from read to
    → (to.place.limit ≡ None → from.place.limit ≡ None → make (view read) ≡ view' made) → IsRead source view' (λ reach place. try_as make (reader reach place)) from made to
read_as source view view' make reader from read made to r same =
    record {
      tried = record { tree = make r.tried.tree; is = ap (try_as make) r.tried.is; same = λ h. ap make (r.tried.same h) ∙ same h (r.tried.rises h); rises = r.tried.rises; stands = r.tried.stands };
      on = r.on;
      behind = r.behind;
    }

pub stops_as : {A B C D : Type 0} (source : Source) (view : A → B) (view' : C → D) (make : B → D) (reader : Reader B) (from : Here) (stop : Unread) → Follows source view reader from (Err stop)
    → Follows source view' (λ reach place. try_as make (reader reach place)) from (Err stop)
stops_as source view view' make reader from (unread.Refused reach) f = ap (try_as make) f
stops_as source view view' make reader from (unread.Deep told) f = f
stops_as source view view' make reader from unread.NoMemory f = tt

-- what is read behind something
pub follows_then : {A B C D : Type 0} (source : Source) (view : A → B) (view' : C → D) (next : B → Reader D) (reader : Reader B) (from : Here) (read : A) (mid : Here) (result : Result (C × Here) Unread)
    → IsRead source view reader from read mid → ((tree : B) → (mid.place.limit ≡ None → tree ≡ view read) → Follows source view' (next tree) mid result)
    → Follows source view' (λ reach place. try_then next (reader reach place)) from result
follows_then source view view' next reader from read mid result r more =
    follows_by source view' (λ reach place. try_then next (reader reach place)) (next r.tried.tree) from mid result (ap (try_then next) r.tried.is) r.on r.tried.rises (more r.tried.tree r.tried.same)

pub stops_then : {A B C D : Type 0} (source : Source) (view : A → B) (view' : C → D) (next : B → Reader D) (reader : Reader B) (from : Here) (stop : Unread) → Follows source view reader from (Err stop)
    → Follows source view' (λ reach place. try_then next (reader reach place)) from (Err stop)
stops_then source view view' next reader from (unread.Refused reach) f = ap (try_then next) f
stops_then source view view' next reader from (unread.Deep told) f = f
stops_then source view view' next reader from unread.NoMemory f = tt

-- nothing more is read
pub follows_end : {A B : Type 0} (source : Source) (view : A → B) (tree : B) (from : Here) (read : A) → IsAt source from.place → (from.place.limit ≡ None → tree ≡ view read)
    → IsRead source view (λ reach place. Reads tree place reach) from read from
follows_end source view tree from read at same =
    record {
      tried = record { tree = tree; is = refl; same = same; rises = λ h. h; stands = at.stands };
      on = le_refl from.place.at;
      behind = at;
    }

-- the next token
pub choice_is : {A : Type 0} (source : Source) (test : Symbol → Bool) (entry : Entry) (yes' : lexical.Token → Reader A) (no' : Reader A) (from : Here) (token : Token) (to : Here) → IsPassed source test entry from token to
    → on_lists source (choice test entry yes' no') from ≡ on_lists source (yes' (token_in source.bytes.now token)) to
choice_is source test entry yes' no' from token to p =
    let bytes = source.bytes.now in
    let reach = option_map (reach_in bytes) from.reach in
    let limit = option_map (told_in bytes) from.place.limit in
    let first = token_in bytes token in
    let stands : places.Cursor = At from.place.at limit (first ∷ p.more) in
    let there : advance entry stands ≡ place_in bytes to.place = sym (p.place ∙ ap (λ ts. advance entry (At from.place.at limit ts)) p.are) in
    ap (λ ts. choice test entry yes' no' reach (At from.place.at limit ts)) p.are
    ∙ ap (λ b. choice_by b entry yes' no' reach first stands) p.fits
    ∙ ap (yes' first reach) there ∙ ap (λ reach. yes' first (option_map (reach_in bytes) reach) (place_in bytes to.place)) (sym p.reach)

choice_not_by : {A : Type 0} (test : Symbol → Bool) (entry : Entry) (yes' : lexical.Token → Reader A) (no' : Reader A) (reach : Option places.FarthestFailure) (at : ℕ) (limit : Option places.Told) (tokens : List lexical.Token)
    → passes test tokens ≡ false → choice test entry yes' no' reach (At at limit tokens) ≡ no' reach (At at limit tokens)
choice_not_by test entry yes' no' reach at limit [] h = refl
choice_not_by test entry yes' no' reach at limit (token ∷ tokens) h = ap (λ b. choice_by b entry yes' no' reach token (At at limit (token ∷ tokens))) h

pub choice_not : {A : Type 0} (source : Source) (test : Symbol → Bool) (entry : Entry) (yes' : lexical.Token → Reader A) (no' : Reader A) (from : Here) → passes test (tokens_in source.bytes.now from.place.rest.now) ≡ false
    → on_lists source (choice test entry yes' no') from ≡ on_lists source no' from
choice_not source test entry yes' no' from h =
    choice_not_by test entry yes' no' (option_map (reach_in source.bytes.now) from.reach) from.place.at (option_map (told_in source.bytes.now) from.place.limit) (tokens_in source.bytes.now from.place.rest.now) h

pub follows_yes : {A B : Type 0} (source : Source) (view : A → B) (test : Symbol → Bool) (entry : Entry) (yes' : lexical.Token → Reader B) (no' : Reader B) (from : Here) (token : Token) (to : Here) (result : Result (A × Here) Unread)
    → IsPassed source test entry from token to → Follows source view (yes' (token_in source.bytes.now token)) to result → Follows source view (choice test entry yes' no') from result
follows_yes source view test entry yes' no' from token to result p f =
    follows_by source view (choice test entry yes' no') (yes' (token_in source.bytes.now token)) from to result (choice_is source test entry yes' no' from token to p) (omega (arith, p.on)) p.rises f

pub follows_no : {A B : Type 0} (source : Source) (view : A → B) (test : Symbol → Bool) (entry : Entry) (yes' : lexical.Token → Reader B) (no' : Reader B) (from : Here) (result : Result (A × Here) Unread)
    → passes test (tokens_in source.bytes.now from.place.rest.now) ≡ false → Follows source view no' from result → Follows source view (choice test entry yes' no') from result
follows_no source view test entry yes' no' from result h f =
    follows_by source view (choice test entry yes' no') no' from from result (choice_not source test entry yes' no' from h) (le_refl from.place.at) (λ h. h) f

-- no token goes on
pub follows_refused : {A B : Type 0} (source : Source) (view : A → B) (from : Here) (stop : Unread) → Refuses source from stop → Follows source view refused from (Err stop)
follows_refused source view from (unread.Refused reach) r = ap Stops (sym r)
follows_refused source view from (unread.Deep told) r = r
follows_refused source view from unread.NoMemory r = tt

-- a token that must stand there
pub follows_must : {A B : Type 0} (source : Source) (view : A → B) (test : Symbol → Bool) (entry : Entry) (next : lexical.Token → Reader B) (from : Here) (stop : Unread) → MustPass source test entry from (Err stop)
    → Follows source view (token_then test entry next) from (Err stop)
follows_must {B = B} source view test entry next from stop m = follows_no source view test entry next (refused {A = B}) from (Err stop) m.0 (follows_refused source view from stop m.1)

-- what is read first in a reader, where nothing is read
pub stops_in : {A B C D : Type 0} (source : Source) (view : A → B) (view' : C → D) (go : Try B → Try D) (reader : Reader B) (from : Here) (stop : Unread) → ((reach : Option places.FarthestFailure) → go (Stops reach) ≡ Stops reach)
    → Follows source view reader from (Err stop) → Follows source view' (λ reach place. go (reader reach place)) from (Err stop)
stops_in source view view' go reader from (unread.Refused reach) strict f = ap go f ∙ strict (option_map (reach_in source.bytes.now) reach)
stops_in source view view' go reader from (unread.Deep told) strict f = f
stops_in source view view' go reader from unread.NoMemory strict f = tt

-- what is read up to a mark
pub read_up_to : {A B : Type 0} (source : Source) (view : A → B) (test : Symbol → Bool) (reader : Reader B) (from : Here) (read : A) (mid : Here) (mark : Token) (to : Here) → IsRead source view reader from read mid
    → IsPassed source test plain mid mark to → IsRead source view (λ reach place. up_to test (reader reach place)) from read to
read_up_to {B = B} source view test reader from read mid mark to r p =
    follows_then source view view (λ (a : B). token_then test plain (λ mark reach place. Reads a place reach)) reader from read mid (Ok (read, to)) r
    (λ tree same. follows_yes source view test plain (λ mark reach place. Reads tree place reach) refused mid mark to (Ok (read, to)) p
    (follows_end source view tree to read p.behind (λ h. same (p.rises h))))

pub mark_up_to : {A B C : Type 0} (source : Source) (view : A → B) (view' : C → B) (test : Symbol → Bool) (reader : Reader B) (from : Here) (read : A) (mid : Here) (stop : Unread) → IsRead source view reader from read mid
    → MustPass source test plain mid (Err stop) → Follows source view' (λ reach place. up_to test (reader reach place)) from (Err stop)
mark_up_to {B = B} source view view' test reader from read mid stop r m =
    follows_then source view view' (λ (a : B). token_then test plain (λ mark reach place. Reads a place reach)) reader from read mid (Err stop) r
    (λ tree same. follows_must source view' test plain (λ mark reach place. Reads tree place reach) mid stop m)
