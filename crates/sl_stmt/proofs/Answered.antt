-- What is answered is exact where the reader on lists is.
use Rattle.std.proofs.Common.{◌≡◌, ℕ, ◌+◌, ◌<◌, List, length, drop, refl, sym, ap, subst, ◌∙◌, arith}
use Rattle.std.specs.Prelude.{Option, Some, None, Result, Ok, Err, IfOk, IfErr}
use Rattle.std.specs.Option.{option_map}
use Rattle.std.proofs.lemmas.List.{drop-map, length-drop, drop-drop}
use Rattle.def_token.specs.Lexical.{Fault, Token}
use Rattle.def_tree.specs.Fault.{fault_at, IsRead, HasFault}
use Rattle.def_tree.specs.Limits.{Entry}
use Rattle.def_reading.specs.Cursor as places
use Rattle.def_reading.specs.Cursor.{At}
use Rattle.def_reading.specs.Laws.{IsExact}
use Rattle.def_reading.specs.Try.{Try, Reads, Stops, Reader, read_by}
use Rattle.sl_base.specs.declared.refusal.Refusal.{Refusal}
use Rattle.sl_base.specs.declared.refusal.Refusal.TheVariants as refusal
use Rattle.sl_token.specs.View.{Tells, token_in, tokens_in}
use Rattle.sl_cursor.specs.Parts.{TellsThis, no_token, TellsUnread, IsRefusedAt, Answers, IsReadTo, HasFaultFrom}
use Rattle.sl_cursor.specs.Seen.{place_in, reach_in, told_in}
use Rattle.sl_stmt.specs.Settling as settling
use Rattle.sl_stmt.specs.Settling.{Settles}
use Rattle.sl_cursor.specs.Tries.{IsIn, IsTried, Tries, on_lists}
use Rattle.sl_cursor.specs.declared.cursor.Cursor.{Cursor}
use Rattle.sl_cursor.specs.declared.cursor.Told.{Told}
use Rattle.sl_cursor.specs.declared.source.Here.{Here}
use Rattle.sl_cursor.specs.declared.source.Source.{Source}
use Rattle.sl_cursor.specs.declared.source.Unread.{Unread}
use Rattle.sl_cursor.specs.declared.source.Unread.TheVariants as unread

-- whatever a reader comes to, this is told
abbrev IsDecided : {B : Type 0} → places.Told → Try B → Type 0
IsDecided told (Reads tree (At at limit tokens) reach) = limit ≡ Some told
IsDecided told (Stops None) = ⊥
IsDecided told (Stops (Some reach)) = reach.told ≡ told

-- what a form comes to, if memory did not run out
abbrev pub Comes : {A B : Type 0} → Source → (A → B) → Reader B → Here → Result (A × Here) Unread → Type 0
Comes source view reader from (Ok found) = IsTried source view reader from found.0 found.1
Comes source view reader from (Err (unread.Refused reach)) = on_lists source reader from ≡ Stops (option_map (reach_in source.bytes.now) reach)
Comes source view reader from (Err (unread.Deep told)) = IsDecided (told_in source.bytes.now told) (on_lists source reader from)
Comes source view reader from (Err unread.NoMemory) = Unit {0}

pub tries_come : {A B : Type 0} (source : Source) (view : A → B) (reader : Reader B) (from : Here) (read : Result (A × Here) Unread) → Tries source view reader from read → Comes source view reader from read
tries_come source view reader from (Ok found) h = h
tries_come source view reader from (Err (unread.Refused reach)) h = h
tries_come source view reader from (Err (unread.Deep told)) h = absurd h
tries_come source view reader from (Err unread.NoMemory) h = tt

settled_decides : {B : Type 0} (told : places.Told) (look : Try B) → settling.IsDecided told look → IsDecided told look
settled_decides told (Reads tree (At at limit tokens) reach) h = h.0
settled_decides told (Stops None) h = h
settled_decides told (Stops (Some reach)) h = h

pub settles_come : {A B : Type 0} (source : Source) (view : A → B) (reader : Reader B) (from : Here) (read : Result (A × Here) Unread) → Settles source view reader from read → Comes source view reader from read
settles_come source view reader from (Ok found) h = h.tried
settles_come source view reader from (Err (unread.Refused reach)) h = h
settles_come source view reader from (Err (unread.Deep told)) h = settled_decides (told_in source.bytes.now told) (on_lists source reader from) h
settles_come source view reader from (Err unread.NoMemory) h = tt

module _ {B : Type 0} (IsPart : List Token → B → List Token → Type 0) (entries_of : B → List Entry) where
  -- what a reader comes to is exact
  abbrev pub IsExactTry : List Token → Try B → Type 0
  IsExactTry tokens look = IsExact IsPart entries_of tokens (read_by look)

  -- tokens end behind each tree, and a tree has some token
  pub record Lasts (tokens : List Token) : Type 0 where
    pub some : (tree : B) (rest : List Token) → IsPart tokens tree rest → 0 < length rest
    pub fewer : (tree : B) (rest : List Token) → IsPart tokens tree rest → length rest < length tokens

  tells : (all : List Token) (from : ℕ) (fault : Fault) (answer : Refusal) → HasFault IsPart entries_of (drop from all) fault → TellsThis fault answer → Tells (HasFaultFrom IsPart entries_of all from) answer
  tells all from fault (refusal.Diag at code args) h is = subst (HasFault IsPart entries_of (drop from all)) (sym is) h
  tells all from fault refusal.NoMemory h is = tt

  decided : (tokens : List Token) (told : places.Told) (look : Try B) → IsDecided told look → IsExactTry tokens look → HasFault IsPart entries_of tokens (fault_at told.code told.token)
  decided tokens told (Reads tree (At at (Some limit) rest) reach) is h =
      let same : limit ≡ told = cc in subst (λ (t : places.Told). HasFault IsPart entries_of tokens (fault_at t.code t.token)) same h
  decided tokens told (Reads tree (At at None rest) reach) is h = absurd (cc)
  decided tokens told (Stops None) is h = absurd is
  decided tokens told (Stops (Some reach)) is h = subst (λ (t : places.Told). HasFault IsPart entries_of tokens (fault_at t.code t.token)) is h

  module _ {A : Type 0} (view : A → B) (reader : Reader B) (source : Source) (here : Here) (all : List Token) (from : ℕ) where
    abbrev bytes : List ℕ
    bytes = source.bytes.now

    pub unread_fault : (why : Unread) (answer : Refusal) → Comes source view reader here (Err why) → IsExactTry (drop from all) (on_lists source reader here) → TellsUnread bytes why answer → Tells (HasFaultFrom IsPart entries_of all from) answer
    unread_fault (unread.Refused None) answer is exact told =
        tells all from (fault_at 110 no_token) answer (subst (IsExactTry (drop from all)) is exact) told
    unread_fault (unread.Refused (Some reach)) answer is exact told =
        tells all from (fault_at reach.told.code (token_in bytes reach.told.token)) answer (subst (IsExactTry (drop from all)) is exact) told
    unread_fault (unread.Deep deep) answer is exact told =
        tells all from (fault_at deep.code (token_in bytes deep.token)) answer (decided (drop from all) (told_in bytes deep) (on_lists source reader here) is exact) told
    unread_fault unread.NoMemory answer is exact told = subst (Tells (HasFaultFrom IsPart entries_of all from)) (sym told) tt

    pub limit_fault : (tree : B) (place : Cursor) (limit : Option Told) (reach : Option places.FarthestFailure) (answer : Refusal) → place.limit ≡ limit → IsExactTry (drop from all) (Reads tree (place_in bytes place) reach) → IsRefusedAt bytes limit answer
        → Tells (HasFaultFrom IsPart entries_of all from) answer
    limit_fault tree place None reach answer is exact h = absurd h
    limit_fault tree place (Some told) reach answer is exact h =
        tells all from (fault_at told.code (token_in bytes told.token)) answer
        (subst (λ limit. IsExactTry (drop from all) (Reads tree (At place.at (option_map (told_in bytes) limit) (tokens_in bytes place.rest.now)) reach)) is exact) h

    pub whole_read : (tree : B) (place : Cursor) (reach : Option places.FarthestFailure) → place.limit ≡ None → IsExactTry (drop from all) (Reads tree (place_in bytes place) reach)
        → IsRead IsPart entries_of (drop from all) tree (tokens_in bytes place.rest.now)
    whole_read tree place reach is exact =
        subst (λ limit. IsExactTry (drop from all) (Reads tree (At place.at (option_map (told_in bytes) limit) (tokens_in bytes place.rest.now)) reach)) is exact

    read_to : (tree : A) (next : ℕ) → Lasts (drop from all) → IsRead IsPart entries_of (drop from all) (view tree) (drop next all) → IsReadTo IsPart entries_of all from (view tree) next
    read_to tree next lasts read =
        let fewer = lasts.fewer (view tree) (drop next all) read.part in
        let some = lasts.some (view tree) (drop next all) read.part in
        record { read = read; behind = omega (arith, fewer, length-drop next all, length-drop from all); inside = omega (arith, some, length-drop next all) }

    rest_is : (place : Cursor) → tokens_in bytes source.tokens.now ≡ drop from all → IsIn source place → tokens_in bytes place.rest.now ≡ drop (from + place.at) all
    rest_is place are stands =
        ap (tokens_in bytes) stands.rest ∙ sym (drop-map (token_in bytes) place.at source.tokens.now) ∙ ap (drop place.at) are ∙ drop-drop place.at from all

    read_is : (a : A) (to : Here) → tokens_in bytes source.tokens.now ≡ drop from all → Lasts (drop from all) → IsExactTry (drop from all) (on_lists source reader here) → IsTried source view reader here a to → to.place.limit ≡ None
        → IsReadTo IsPart entries_of all from (view a) (from + to.place.at)
    read_is a to are lasts exact tried none =
        let whole = whole_read tried.tree to.place (option_map (reach_in bytes) to.reach) none (subst (IsExactTry (drop from all)) tried.is exact) in
        read_to a (from + to.place.at) lasts
        (subst (λ rest. IsRead IsPart entries_of (drop from all) (view a) rest) (rest_is to.place are tried.stands)
        (subst (λ tree. IsRead IsPart entries_of (drop from all) tree (tokens_in bytes to.place.rest.now)) (tried.same none) whole))

    -- the answer for what is read
    pub answered : (read : Result (A × Here) Unread) (answer : Result (A × ℕ) Refusal) → tokens_in bytes source.tokens.now ≡ drop from all → Lasts (drop from all) → IsExactTry (drop from all) (on_lists source reader here)
        → Comes source view reader here read → Answers bytes from read answer
        → IfOk answer (λ found. IsReadTo IsPart entries_of all from (view found.0) found.1) × IfErr answer (Tells (HasFaultFrom IsPart entries_of all from))
    answered (Ok (a, to)) (Ok found) are lasts exact tried h =
        (subst (λ (found : A × ℕ). IsReadTo IsPart entries_of all from (view found.0) found.1) (sym h.0) (read_is a to are lasts exact tried h.1), tt)
    answered (Ok (a, to)) (Err answer) are lasts exact tried h =
        (tt, limit_fault tried.tree to.place to.place.limit (option_map (reach_in bytes) to.reach) answer refl (subst (IsExactTry (drop from all)) tried.is exact) h)
    answered (Err why) (Ok found) are lasts exact tried h = absurd h
    answered (Err why) (Err answer) are lasts exact tried h = (tt, unread_fault why answer tried exact h)

-- a reader in front of tokens
pub on_start : {B : Type 0} (source : List ℕ) (reader : Reader B) (here : Here) (tokens : List Token) → (here.place.at ≡ 0) × (here.place.limit ≡ None) × (tokens_in source here.place.rest.now ≡ tokens) → here.reach ≡ None
    → reader (option_map (reach_in source) here.reach) (place_in source here.place) ≡ reader None (At 0 None tokens)
on_start source reader here tokens place reach =
    ap (λ r. reader (option_map (reach_in source) r) (place_in source here.place)) reach
    ∙ ap (λ at. reader None (At at (option_map (told_in source) here.place.limit) (tokens_in source here.place.rest.now))) place.0
    ∙ ap (λ limit. reader None (At 0 (option_map (told_in source) limit) (tokens_in source here.place.rest.now))) place.1
    ∙ ap (λ ts. reader None (At 0 None ts)) place.2
