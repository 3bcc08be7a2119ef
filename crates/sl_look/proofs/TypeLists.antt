-- Types, from their parts.
use Rattle.std.proofs.Common.{◌≡◌, ℕ, zero, suc, ◌<◌, ◌≤◌, Bool, true, false, List, [], ◌∷◌, ◌++◌, length, map, drop, refl, sym, ap, subst, ◌∙◌, arith}
use Rattle.std.specs.Prelude.{IsErrAnd, Option, Some, None, Result, Ok, Err, nat_lt}
use Rattle.std.proofs.lemmas.Bool.{lt-ltb, le-ltb}
use Rattle.std.proofs.lemmas.List.{map-append}
use Rattle.std.specs.Option.{option_map}
use Rattle.def_token.specs.Lexical as lexical
use Rattle.def_tree.specs.Limits.{Entry, plain, opens}
use Rattle.def_tree.specs.Statements.{begins_with}
use Rattle.def_tree.specs.Symbol.{symbol, is_sign}
use Rattle.def_tree.specs.TypeTree as trees
use Rattle.def_tree.specs.TypeTree.{TypeTrees, NoTypes, MoreTypes}
use Rattle.sl_token.specs.View.{token_in, tokens_in}
use Rattle.sl_token.specs.declared.token.Token.{Token}
use Rattle.sl_tree.proofs.Views.{type_in-Word, type_in-Named}
use Rattle.sl_tree.specs.View.{type_in, types_of, word_of}
use Rattle.sl_tree.specs.declared.types.TypeTree.TheVariants as type
use Rattle.sl_tree.specs.declared.types.TypeWord.{TypeWord}
use Rattle.sl_tree.specs.declared.types.TypeTree.{TypeTree}
use Rattle.sl_look.specs.Looks.{IsOpened, look_in, place_of, limit_at, limit_of, IsLook, Reads, type_named, BeginsWith, Opens, IsComma, Closes, Onward}
use Rattle.def_reading.specs.Cursor as lists
use Rattle.def_reading.specs.Cursor.{Told, At, advance, noted}
use Rattle.sl_cursor.specs.Seen.{told_in, place_in, IsAfter}
use Rattle.def_reading.specs.TypeAhead as ahead
use Rattle.def_reading.specs.TypeAhead.{found_as, found_then, names, path_by, path_ahead, path_from, type_by, args_by, args_at, list_by, list_ahead, type_ahead, list_behind}
use Rattle.def_reading.specs.TypeReading.{Lead, AWord, AName, NoType, lead_of}
use Rattle.sl_cursor.specs.declared.cursor.Cursor.{Cursor}
use Rattle.sl_cursor.specs.declared.cursor.Told.{Told as Kept}
use Rattle.sl_look.specs.declared.stop.Stop.{Stop}
use Rattle.sl_look.specs.declared.stop.Stop.TheVariants as stop
use Rattle.sl_look.specs.declared.types.LookAhead.{LookAhead}
use Rattle.sl_look.specs.declared.types.LookAhead.TheVariants as look
use Rattle.sl_cursor.proofs.Places.{at_tokens, behind_first}

-- A limit on the way stays the first one.

path_by_keeps : (dotted named : Bool) (at : ℕ) (limit : Option Told) (dot name : lexical.Token) (tokens : List lexical.Token) (more : ahead.LookAhead (List lexical.Token))
    → limit_of more ≡ limit → limit_of (path_by dotted named at limit dot name tokens more) ≡ limit
path_by_keeps true true at limit dot name tokens (ahead.Found path place) h = h
path_by_keeps true true at limit dot name tokens (ahead.Missing place) h = h
path_by_keeps true false at limit dot name tokens more h = refl
path_by_keeps false named at limit dot name tokens more h = refl

path_keeps : (at : ℕ) (limit : Option Told) (tokens : List lexical.Token) → limit_of (path_ahead at limit tokens) ≡ limit
path_keeps at limit [] = refl
path_keeps at limit (dot ∷ []) = refl
path_keeps at limit (dot ∷ name ∷ tokens) =
    path_by_keeps (is_sign "." (symbol dot)) (names (symbol name)) at limit dot name tokens (path_ahead (suc (suc at)) limit tokens) (path_keeps (suc (suc at)) limit tokens)

path_from_keeps : (place : lists.Cursor) → limit_of (path_from place) ≡ limit_at place
path_from_keeps (lists.At at limit tokens) = path_keeps at limit tokens

as_keeps : {A B : Type 0} (make : A → B) (look : ahead.LookAhead A) → limit_of (found_as make look) ≡ limit_of look
as_keeps make (ahead.Found a place) = refl
as_keeps make (ahead.Missing place) = refl

-- what is found behind something with a limit has this limit
pub then_keeps : {A B : Type 0} (next : A → lists.Cursor → ahead.LookAhead B) (look : ahead.LookAhead A) (told : Told) → limit_of look ≡ Some told
    → ((a : A) (place : lists.Cursor) → limit_at place ≡ Some told → limit_of (next a place) ≡ Some told) → limit_of (found_then next look) ≡ Some told
then_keeps next (ahead.Found a place) told h more = more a place h
then_keeps next (ahead.Missing place) told h more = h

noted_keeps : (told : Told) (entry : Entry) (at : ℕ) (token : lexical.Token) → noted (Some told) entry at token ≡ Some told
noted_keeps told None at token = refl
noted_keeps told (Some limit) at token = refl

advance_keeps : (entry : Entry) (place : lists.Cursor) (told : Told) → limit_at place ≡ Some told → limit_at (advance entry place) ≡ Some told
advance_keeps entry (lists.At at limit []) told h = h
advance_keeps entry (lists.At at limit (token ∷ tokens)) told h = ap (λ l. noted l entry at token) h ∙ noted_keeps told entry at token

named_keeps : (first : lexical.Token) (args : ahead.LookAhead TypeTrees) (told : Told) → limit_of args ≡ Some told
    → limit_of (found_then (λ found after. found_as (trees.Named first found) (path_from after)) args) ≡ Some told
named_keeps first args told h =
    then_keeps (λ found after. found_as (trees.Named first found) (path_from after)) args told h
    (λ found after k. as_keeps (trees.Named first found) (path_from after) ∙ path_from_keeps after ∙ k)

type_by_keeps : (lead : Lead) (behind place : lists.Cursor) (args : ahead.LookAhead TypeTrees) (first : lexical.Token) (told : Told) → limit_at behind ≡ Some told
    → limit_at place ≡ Some told → limit_of args ≡ Some told → limit_of (type_by lead behind args first place) ≡ Some told
type_by_keeps (AWord word) behind place args first told b p a = as_keeps (trees.Word word first) (path_from behind) ∙ path_from_keeps behind ∙ b
type_by_keeps AName behind place args first told b p a = named_keeps first args told a
type_by_keeps NoType behind place args first told b p a = p

opened_keeps : (lead : Lead) (behind place : lists.Cursor) (args : ahead.LookAhead TypeTrees) (first : lexical.Token) (told : Told) → (lead ≡ NoType → ⊥) → limit_at behind ≡ Some told
    → limit_of args ≡ Some told → limit_of (type_by lead behind args first place) ≡ Some told
opened_keeps (AWord word) behind place args first told l b a = as_keeps (trees.Word word first) (path_from behind) ∙ path_from_keeps behind ∙ b
opened_keeps AName behind place args first told l b a = named_keeps first args told a
opened_keeps NoType behind place args first told l b a = absurd (l refl)

list_by_keeps : (comma closes : Bool) (more : lists.Cursor → ahead.LookAhead TypeTrees) (type : trees.TypeTree) (behind place : lists.Cursor) (told : Told)
    → limit_at behind ≡ Some told → limit_at place ≡ Some told → limit_of (more behind) ≡ Some told → limit_of (list_by comma closes more type behind place) ≡ Some told
list_by_keeps true closes more type behind place told b p m = as_keeps (MoreTypes type) (more behind) ∙ m
list_by_keeps false true more type behind place told b p m = b
list_by_keeps false false more type behind place told b p m = p

list_behind_keeps : (more : lists.Cursor → ahead.LookAhead TypeTrees) (type : trees.TypeTree) (place : lists.Cursor) (told : Told) → limit_at place ≡ Some told
    → ((p : lists.Cursor) → limit_at p ≡ Some told → limit_of (more p) ≡ Some told) → limit_of (list_behind more type place) ≡ Some told
list_behind_keeps more type (lists.At at limit []) told h m = h
list_behind_keeps more type (lists.At at limit (mark ∷ tokens)) told h m =
    list_by_keeps (is_sign "," (symbol mark)) (is_sign ">" (symbol mark)) more type (lists.At (suc at) limit tokens) (lists.At at limit (mark ∷ tokens)) told h h
    (m (lists.At (suc at) limit tokens) h)

args_by_keeps : (b : Bool) (list : lists.Cursor → ahead.LookAhead TypeTrees) (place : lists.Cursor) (told : Told) → limit_at place ≡ Some told
    → ((p : lists.Cursor) → limit_at p ≡ Some told → limit_of (list p) ≡ Some told) → limit_of (args_by b list place) ≡ Some told
args_by_keeps true list place told h m = m (advance plain place) (advance_keeps plain place told h)
args_by_keeps false list place told h m = h

args_at_keeps : (list : lists.Cursor → ahead.LookAhead TypeTrees) (place : lists.Cursor) (told : Told) → limit_at place ≡ Some told
    → ((p : lists.Cursor) → limit_at p ≡ Some told → limit_of (list p) ≡ Some told) → limit_of (args_at list place) ≡ Some told
args_at_keeps list (lists.At at limit tokens) told h m = args_by_keeps (begins_with "<" tokens) list (lists.At at limit tokens) told h m

mutual
  pub type_keeps : (turns types : ℕ) (place : lists.Cursor) (told : Told) → limit_at place ≡ Some told → limit_of (type_ahead turns types place) ≡ Some told
  type_keeps zero types place told h = h
  type_keeps (suc turns) types (lists.At at limit []) told h = h
  type_keeps (suc turns) types (lists.At at limit (first ∷ tokens)) told h =
      let behind = advance (opens (suc types)) (lists.At at limit (first ∷ tokens)) in
      let b = advance_keeps (opens (suc types)) (lists.At at limit (first ∷ tokens)) told h in
      type_by_keeps (lead_of (symbol first)) behind (lists.At at limit (first ∷ tokens)) (args_at (list_ahead turns (suc types)) behind) first told b h
      (args_at_keeps (list_ahead turns (suc types)) behind told b (λ p k. list_keeps turns (suc types) p told k))

  pub list_keeps : (turns types : ℕ) (place : lists.Cursor) (told : Told) → limit_at place ≡ Some told → limit_of (list_ahead turns types place) ≡ Some told
  list_keeps zero types place told h = h
  list_keeps (suc turns) types place told h =
      then_keeps (λ type behind. list_behind (list_ahead turns types) type behind) (type_ahead turns types place) told (type_keeps turns types place told h)
      (λ type p k. list_behind_keeps (list_ahead turns types) type p told k (λ q e. list_keeps turns types q told e))

-- types in front of others
abbrev pub before_types : List trees.TypeTree → TypeTrees → TypeTrees
before_types [] more = more
before_types (first ∷ front) more = MoreTypes first (before_types front more)

before_one : (front : List trees.TypeTree) (type : trees.TypeTree) (more : TypeTrees) → before_types front (MoreTypes type more) ≡ before_types (front ++ type ∷ []) more
before_one [] type more = refl
before_one (first ∷ front) type more = ap (MoreTypes first) (before_one front type more)

before_last : (front : List trees.TypeTree) (type : trees.TypeTree) → before_types front (MoreTypes type NoTypes) ≡ types_of (front ++ type ∷ [])
before_last [] type = refl
before_last (first ∷ front) type = ap (MoreTypes first) (before_last front type)

front_none : (look : ahead.LookAhead TypeTrees) → look ≡ found_as (before_types []) look
front_none (ahead.Found found place) = refl
front_none (ahead.Missing place) = refl

-- types that were read stand in front of what is left, in enough turns
pub record HasFront (source : List ℕ) (types turns : ℕ) (from : Cursor) (read : List TypeTree) (here : Cursor) : Type 0 where
  pub left : ℕ
  pub enough : suc (length here.rest.now) < left
  pub is : list_ahead turns types (place_in source from) ≡ found_as (before_types (map (type_in source) read)) (list_ahead left types (place_in source here))

abbrev pub ListFront : List ℕ → ℕ → Cursor → List TypeTree → Cursor → Type 0
ListFront source types from read here = (turns : ℕ) → suc (length from.rest.now) < turns → HasFront source types turns from read here

-- the way along types that were read

-- a type opens: nothing ends at its first token, unless too many are open
within : (n : ℕ) → n < 64 → nat_lt 64 (suc n) ≡ false
within n h = le-ltb 64 (suc n) (omega (arith, h))

beyond : (n : ℕ) → 64 ≤ n → nat_lt 64 (suc n) ≡ true
beyond n h = lt-ltb 64 (suc n) (omega (arith, h))

pub opens_one : (source : List ℕ) (types : ℕ) (from behind : Cursor) (first : Token) → types < 64 → from.limit ≡ None → BeginsWith first from → IsAfter from behind
    → Opens source types from behind
opens_one source types from behind first h free b a =
    record {
      place = behind_first source from behind first b.behind b.are a
          ∙ ap (λ limit. At (suc from.at) limit (tokens_in source b.behind)) (let t = within types h in ap (option_map (told_in source)) free ∙ rw t refl)
          ∙ sym (ap (λ ts. advance (opens (suc types)) (at_tokens source from ts)) b.are ∙ ap (λ l. At (suc from.at) (noted (option_map (told_in source) l) (opens (suc types)) from.at (token_in source first)) (tokens_in source b.behind)) free);
      free = a.limit;
      fewer = let x = ap length b.are in let y = ap (λ ts. length (drop 1 ts)) b.are in let z = ap length a.rest in omega (arith, x, y, z);
    }

pub opens_too_many : (source : List ℕ) (types : ℕ) (from : Cursor) (first : Token) → 64 ≤ types → from.limit ≡ None → BeginsWith first from
    → limit_at (advance (opens (suc types)) (place_in source from)) ≡ Some (record { at = from.at; token = token_in source first; code = 111 })
opens_too_many source types from first h free b =
    let t = beyond types h in
    ap (λ ts. limit_at (advance (opens (suc types)) (at_tokens source from ts))) b.are
    ∙ ap (λ l. noted (option_map (told_in source) l) (opens (suc types)) from.at (token_in source first)) free ∙ rw t refl

-- a type at a place, by what its first token begins
pub type_at : (source : List ℕ) (turns types : ℕ) (from : Cursor) (first : Token) → BeginsWith first from
    → type_ahead (suc turns) types (place_in source from)
    ≡ type_by (lead_of (symbol (token_in source first))) (advance (opens (suc types)) (place_in source from))
    (args_at (list_ahead turns (suc types)) (advance (opens (suc types)) (place_in source from))) (token_in source first) (place_in source from)
type_at source turns types from first b =
    let P : List Token → Type 0 = λ ts. type_ahead (suc turns) types (at_tokens source from ts)
    ≡ type_by (lead_of (symbol (token_in source first))) (advance (opens (suc types)) (at_tokens source from ts))
    (args_at (list_ahead turns (suc types)) (advance (opens (suc types)) (at_tokens source from ts))) (token_in source first) (at_tokens source from ts) in
    subst P (sym b.are) refl

-- what a function on lists gives in so many turns is what another gives in some, enough for it
pub record Same {B : Type 0} (on_lists : ahead.LookAhead B) (other : ℕ → ahead.LookAhead B) (least : ℕ) : Type 0 where
  pub turns : ℕ
  pub enough : least < turns
  pub is : on_lists ≡ other turns

-- a reader of what stands behind a place, as one of what stands there
pub reads_as : {A B : Type 0} (source : List ℕ) (view : A → B) (on_lists other : ℕ → ahead.LookAhead B) (least less : ℕ) (from behind : Cursor) (result : Result (LookAhead A) Stop)
    → ((turns : ℕ) → least < turns → Same (on_lists turns) other less) → behind.limit ≡ from.limit → length behind.rest.now ≤ length from.rest.now
    → Reads source view other less behind result → Reads source view on_lists least from result
reads_as source view on_lists other least less from behind (Ok looked) same free fewer r =
    record {
      is = λ turns h. let s = same turns h in s.is ∙ r.is s.turns s.enough;
      free = r.free ∙ free;
      fewer = omega (arith, r.fewer, fewer);
    }
reads_as source view on_lists other least less from behind (Err (stop.Deep told)) same free fewer r =
    λ turns h. let s = same turns h in ap limit_of s.is ∙ r s.turns s.enough
reads_as source view on_lists other least less from behind (Err stop.NoMemory) same free fewer r = tt

-- a type that a word begins
word_same : (source : List ℕ) (types : ℕ) (from behind : Cursor) (first : Token) (word : trees.TypeWord) → BeginsWith first from
    → lead_of (symbol (token_in source first)) ≡ AWord word → Opens source types from behind → (turns : ℕ) → length from.rest.now < turns
    → Same (type_ahead turns types (place_in source from)) (λ turns. found_as (trees.Word word (token_in source first)) (path_from (place_in source behind))) 0
word_same source types from behind first word b l o zero h = absurd (omega (arith, h))
word_same source types from behind first word b l o (suc turns) h =
    record {
      turns = 1;
      enough = omega arith;
      is = type_at source turns types from first b
          ∙ ap (λ lead. type_by lead (advance (opens (suc types)) (place_in source from)) (args_at (list_ahead turns (suc types)) (advance (opens (suc types)) (place_in source from)))
          (token_in source first) (place_in source from)) l
          ∙ ap (λ p. found_as (trees.Word word (token_in source first)) (path_from p)) (sym o.place);
    }

pub word_reads : (source : List ℕ) (types : ℕ) (from behind : Cursor) (first : Token) (word : trees.TypeWord) (result : Result (LookAhead TypeTree) Stop) → BeginsWith first from
    → lead_of (symbol (token_in source first)) ≡ AWord word → Opens source types from behind
    → Reads source (type_in source) (λ turns. found_as (trees.Word word (token_in source first)) (path_from (place_in source behind))) 0 behind result
    → Reads source (type_in source) (λ turns. type_ahead turns types (place_in source from)) (length from.rest.now) from result
word_reads source types from behind first word result b l o r =
    reads_as source (type_in source) (λ turns. type_ahead turns types (place_in source from)) _ (length from.rest.now) 0 from behind result
    (word_same source types from behind first word b l o) o.free (omega (arith, o.fewer)) r

-- a type that a name begins
name_same : (source : List ℕ) (types : ℕ) (from behind : Cursor) (first : Token) → BeginsWith first from
    → lead_of (symbol (token_in source first)) ≡ AName → Opens source types from behind → (turns : ℕ) → length from.rest.now < turns
    → Same (type_ahead turns types (place_in source from)) (λ turns. type_named turns (suc types) (token_in source first) (place_in source behind)) (length behind.rest.now)
name_same source types from behind first b l o zero h = absurd (omega (arith, h))
name_same source types from behind first b l o (suc turns) h =
    record {
      turns = turns;
      enough = omega (arith, h, o.fewer);
      is = type_at source turns types from first b
          ∙ ap (λ lead. type_by lead (advance (opens (suc types)) (place_in source from)) (args_at (list_ahead turns (suc types)) (advance (opens (suc types)) (place_in source from)))
          (token_in source first) (place_in source from)) l
          ∙ ap (λ p. type_named turns (suc types) (token_in source first) p) (sym o.place);
    }

pub name_reads : (source : List ℕ) (types inside : ℕ) → inside ≡ suc types → (from behind : Cursor) (first : Token) (result : Result (LookAhead TypeTree) Stop) → BeginsWith first from
    → lead_of (symbol (token_in source first)) ≡ AName → Opens source types from behind
    → Reads source (type_in source) (λ turns. type_named turns inside (token_in source first) (place_in source behind)) (length behind.rest.now) behind result
    → Reads source (type_in source) (λ turns. type_ahead turns types (place_in source from)) (length from.rest.now) from result
name_reads source types inside is from behind first result b l o r =
    reads_as source (type_in source) (λ turns. type_ahead turns types (place_in source from)) _ (length from.rest.now) (length behind.rest.now) from behind result
    (name_same source types from behind first b l o) o.free (omega (arith, o.fewer))
    (subst (λ n. Reads source (type_in source) (λ turns. type_named turns n (token_in source first) (place_in source behind)) (length behind.rest.now) behind result) is r)

-- a type that would be one too many
pub deep_reads : (source : List ℕ) (types : ℕ) (from : Cursor) (first : Token) (told : Kept) → BeginsWith first from
    → (lead_of (symbol (token_in source first)) ≡ NoType → ⊥) → limit_at (advance (opens (suc types)) (place_in source from)) ≡ Some (told_in source told)
    → (turns : ℕ) → length from.rest.now < turns → limit_of (type_ahead turns types (place_in source from)) ≡ Some (told_in source told)
deep_reads source types from first told b l o zero h = absurd (omega (arith, h))
deep_reads source types from first told b l o (suc turns) h =
    let behind = advance (opens (suc types)) (place_in source from) in
    ap limit_of (type_at source turns types from first b)
    ∙ opened_keeps (lead_of (symbol (token_in source first))) behind (place_in source from) (args_at (list_ahead turns (suc types)) behind) (token_in source first) (told_in source told) l o
    (args_at_keeps (list_ahead turns (suc types)) behind (told_in source told) o (λ p k. list_keeps turns (suc types) p (told_in source told) k))

-- lists of types

-- what was found behind types that were read
pub front_as : (front : List trees.TypeTree) (type : trees.TypeTree) (look : ahead.LookAhead TypeTrees)
    → found_as (before_types front) (found_as (MoreTypes type) look) ≡ found_as (before_types (front ++ type ∷ [])) look
front_as front type (ahead.Found found place) = ap (λ ts. ahead.Found ts place) (before_one front type found)
front_as front type (ahead.Missing place) = refl

pub front_at : (source : List ℕ) (types : ℕ) (from : Cursor) (none : List TypeTree) → none ≡ [] → ListFront source types from none from
front_at source types from none is turns h =
    record { left = turns; enough = h; is = front_none _ ∙ ap (λ ts. found_as (before_types (map (type_in source) ts)) (list_ahead turns types (place_in source from))) (sym is) }

-- one turn of a list, where a type is found
list_turn : (source : List ℕ) (left types : ℕ) (here behind : Cursor) (tree : TypeTree) → suc (length here.rest.now) < left
    → IsLook source (type_in source) (λ turns. type_ahead turns types (place_in source here)) (length here.rest.now) here (look.Found tree behind)
    → (turns : ℕ) × (left ≡ suc turns) × (list_ahead left types (place_in source here) ≡ list_behind (list_ahead turns types) (type_in source tree) (place_in source behind))
list_turn source zero types here behind tree h one = absurd (omega (arith, h))
list_turn source (suc turns) types here behind tree h one =
    (turns, refl, ap (found_then (λ type after. list_behind (list_ahead turns types) type after)) (one.is turns (omega (arith, h))))

pub comma_further : (source : List ℕ) (types : ℕ) (from here behind next : Cursor) (read longer : List TypeTree) (tree : TypeTree) → ListFront source types from read here
    → IsLook source (type_in source) (λ turns. type_ahead turns types (place_in source here)) (length here.rest.now) here (look.Found tree behind)
    → longer ≡ read ++ tree ∷ [] → IsComma source behind next → ListFront source types from longer next
comma_further source types from here behind next read longer tree front one is comma turns h =
    let f = front turns h in
    let t = list_turn source f.left types here behind tree f.enough one in
    record {
      left = t.0;
      enough = omega (arith, f.enough, t.1, one.fewer, comma.fewer);
      is = f.is ∙ ap (found_as (before_types (map (type_in source) read))) (t.2 ∙ comma.list (list_ahead t.0 types) (type_in source tree))
          ∙ front_as (map (type_in source) read) (type_in source tree) (list_ahead t.0 types (place_in source next))
          ∙ ap (λ ts. found_as (before_types ts) (list_ahead t.0 types (place_in source next))) (sym (ap (map (type_in source)) is ∙ map-append (type_in source) read (tree ∷ [])));
    }

pub closed_reads : (source : List ℕ) (types : ℕ) (from here behind next : Cursor) (read longer : List TypeTree) (tree : TypeTree) → ListFront source types from read here
    → IsLook source (type_in source) (λ turns. type_ahead turns types (place_in source here)) (length here.rest.now) here (look.Found tree behind)
    → longer ≡ read ++ tree ∷ [] → Closes source behind next
    → (turns : ℕ) → suc (length from.rest.now) < turns
    → list_ahead turns types (place_in source from) ≡ ahead.Found (types_of (map (type_in source) longer)) (place_in source next)
closed_reads source types from here behind next read longer tree front one is closes turns h =
    let f = front turns h in
    let t = list_turn source f.left types here behind tree f.enough one in
    f.is ∙ ap (found_as (before_types (map (type_in source) read))) (t.2 ∙ closes.list (list_ahead t.0 types) (type_in source tree))
    ∙ ap (λ ts. ahead.Found ts (place_in source next)) (before_last (map (type_in source) read) (type_in source tree)
    ∙ sym (ap types_of (ap (map (type_in source)) is ∙ map-append (type_in source) read (tree ∷ []))))

pub other_reads : (source : List ℕ) (types : ℕ) (from here behind : Cursor) (read : List TypeTree) (tree : TypeTree) → ListFront source types from read here
    → IsLook source (type_in source) (λ turns. type_ahead turns types (place_in source here)) (length here.rest.now) here (look.Found tree behind)
    → ((more : Onward) (type : trees.TypeTree) → list_behind more type (place_in source behind) ≡ ahead.Missing (place_in source behind))
    → (turns : ℕ) → suc (length from.rest.now) < turns → list_ahead turns types (place_in source from) ≡ ahead.Missing (place_in source behind)
other_reads source types from here behind read tree front one other turns h =
    let f = front turns h in
    let t = list_turn source f.left types here behind tree f.enough one in
    f.is ∙ ap (found_as (before_types (map (type_in source) read))) (t.2 ∙ other (list_ahead t.0 types) (type_in source tree))

missing_turn : (source : List ℕ) (left types : ℕ) (here behind : Cursor) → suc (length here.rest.now) < left
    → IsLook source (type_in source) (λ turns. type_ahead turns types (place_in source here)) (length here.rest.now) here (look.Missing behind)
    → list_ahead left types (place_in source here) ≡ ahead.Missing (place_in source behind)
missing_turn source zero types here behind h one = absurd (omega (arith, h))
missing_turn source (suc turns) types here behind h one =
    ap (found_then (λ type after. list_behind (list_ahead turns types) type after)) (one.is turns (omega (arith, h)))

pub missing_reads : (source : List ℕ) (types : ℕ) (from here behind : Cursor) (read : List TypeTree) → ListFront source types from read here
    → IsLook source (type_in source) (λ turns. type_ahead turns types (place_in source here)) (length here.rest.now) here (look.Missing behind)
    → (turns : ℕ) → suc (length from.rest.now) < turns → list_ahead turns types (place_in source from) ≡ ahead.Missing (place_in source behind)
missing_reads source types from here behind read front one turns h =
    let f = front turns h in
    f.is ∙ ap (found_as (before_types (map (type_in source) read))) (missing_turn source f.left types here behind f.enough one)

deep_turn : (source : List ℕ) (left types : ℕ) (here : Cursor) (told : Kept) → suc (length here.rest.now) < left
    → ((turns : ℕ) → length here.rest.now < turns → limit_of (type_ahead turns types (place_in source here)) ≡ Some (told_in source told))
    → limit_of (list_ahead left types (place_in source here)) ≡ Some (told_in source told)
deep_turn source zero types here told h one = absurd (omega (arith, h))
deep_turn source (suc turns) types here told h one =
    then_keeps (λ type behind. list_behind (list_ahead turns types) type behind) (type_ahead turns types (place_in source here)) (told_in source told) (one turns (omega (arith, h)))
    (λ type p k. list_behind_keeps (list_ahead turns types) type p (told_in source told) k (λ q e. list_keeps turns types q (told_in source told) e))

pub deep_list : (source : List ℕ) (types : ℕ) (from here : Cursor) (read : List TypeTree) (told : Kept) → ListFront source types from read here
    → ((turns : ℕ) → length here.rest.now < turns → limit_of (type_ahead turns types (place_in source here)) ≡ Some (told_in source told))
    → (turns : ℕ) → suc (length from.rest.now) < turns → limit_of (list_ahead turns types (place_in source from)) ≡ Some (told_in source told)
deep_list source types from here read told front one turns h =
    let f = front turns h in
    ap limit_of f.is ∙ as_keeps (before_types (map (type_in source) read)) (list_ahead f.left types (place_in source here)) ∙ deep_turn source f.left types here told f.enough one

-- a name with its arguments, where one of them is nested too deep
pub deep_named : (source : List ℕ) (types : ℕ) (first : Token) (from : Cursor) (told : Kept)
    → ((turns : ℕ) → length from.rest.now < turns → limit_of (args_at (list_ahead turns types) (place_in source from)) ≡ Some (told_in source told))
    → (turns : ℕ) → length from.rest.now < turns → limit_of (type_named turns types (token_in source first) (place_in source from)) ≡ Some (told_in source told)
deep_named source types first from told args turns h = named_keeps (token_in source first) (args_at (list_ahead turns types) (place_in source from)) (told_in source told) (args turns h)

-- what the readers give, by what they read

-- a look at a type, as the readers give it
abbrev pub OneLook : List ℕ → ℕ → Cursor → LookAhead TypeTree → Type 0
OneLook source types here looked = IsLook source (type_in source) (λ turns. type_ahead turns types (place_in source here)) (length here.rest.now) here looked

-- a look at types up to `>`
abbrev pub ListLook : List ℕ → ℕ → Cursor → LookAhead (List TypeTree) → Type 0
ListLook source types from looked =
    IsLook source (λ read. types_of (map (type_in source) read)) (λ turns. list_ahead turns types (place_in source from)) (suc (length from.rest.now)) from looked

-- types so far
pub record IsSoFar (source : List ℕ) (types : ℕ) (from : Cursor) (read : List TypeTree) (here : Cursor) : Type 0 where
  pub front : ListFront source types from read here
  pub free : here.limit ≡ from.limit
  pub fewer : length here.rest.now ≤ length from.rest.now

pub start_of_list : (source : List ℕ) (types : ℕ) (from : Cursor) (none : List TypeTree) → none ≡ [] → IsSoFar source types from none from
start_of_list source types from none is = record { front = front_at source types from none is; free = refl; fewer = omega arith }

pub list_missing : (source : List ℕ) (types : ℕ) (from here behind : Cursor) (read : List TypeTree) (looked : LookAhead TypeTree) → IsSoFar source types from read here
    → OneLook source types here looked → looked ≡ look.Missing behind → ListLook source types from (look.Missing behind)
list_missing source types from here behind read looked so one is =
    let o = subst (OneLook source types here) is one in
    record {
      is = missing_reads source types from here behind read so.front o;
      free = o.free ∙ so.free;
      fewer = omega (arith, o.fewer, so.fewer);
    }

pub list_further : (source : List ℕ) (types : ℕ) (from here behind next : Cursor) (read longer : List TypeTree) (tree : TypeTree) (looked : LookAhead TypeTree) → IsSoFar source types from read here
    → OneLook source types here looked → looked ≡ look.Found tree behind → longer ≡ read ++ tree ∷ [] → IsComma source behind next → IsSoFar source types from longer next
list_further source types from here behind next read longer tree looked so one is l comma =
    let o = subst (OneLook source types here) is one in
    record {
      front = comma_further source types from here behind next read longer tree so.front o l comma;
      free = comma.free ∙ (o.free ∙ so.free);
      fewer = omega (arith, o.fewer, so.fewer, comma.fewer);
    }

pub list_smaller : (source : List ℕ) (types : ℕ) (here behind next : Cursor) (tree : TypeTree) (looked : LookAhead TypeTree) → OneLook source types here looked
    → looked ≡ look.Found tree behind → IsComma source behind next → length next.rest.now < length here.rest.now
list_smaller source types here behind next tree looked one is comma =
    let o = subst (OneLook source types here) is one in omega (arith, o.fewer, comma.fewer)

pub list_closed : (source : List ℕ) (types : ℕ) (from here behind next : Cursor) (read longer : List TypeTree) (tree : TypeTree) (looked : LookAhead TypeTree) → IsSoFar source types from read here
    → OneLook source types here looked → looked ≡ look.Found tree behind → longer ≡ read ++ tree ∷ [] → Closes source behind next
    → ListLook source types from (look.Found longer next)
list_closed source types from here behind next read longer tree looked so one is l closes =
    let o = subst (OneLook source types here) is one in
    record {
      is = closed_reads source types from here behind next read longer tree so.front o l closes;
      free = closes.free ∙ (o.free ∙ so.free);
      fewer = omega (arith, o.fewer, so.fewer, closes.fewer);
    }

pub list_other : (source : List ℕ) (types : ℕ) (from here behind : Cursor) (read : List TypeTree) (tree : TypeTree) (looked : LookAhead TypeTree) → IsSoFar source types from read here
    → OneLook source types here looked → looked ≡ look.Found tree behind
    → ((more : Onward) (type : trees.TypeTree) → list_behind more type (place_in source behind) ≡ ahead.Missing (place_in source behind))
    → ListLook source types from (look.Missing behind)
list_other source types from here behind read tree looked so one is other =
    let o = subst (OneLook source types here) is one in
    record {
      is = other_reads source types from here behind read tree so.front o other;
      free = o.free ∙ so.free;
      fewer = omega (arith, o.fewer, so.fewer);
    }

-- where a type stops the reader, so does the list, and the name with its arguments
pub list_stop : (source : List ℕ) (types : ℕ) (from here : Cursor) (read : List TypeTree) (stopped : Stop) → IsSoFar source types from read here
    → Reads source (type_in source) (λ turns. type_ahead turns types (place_in source here)) (length here.rest.now) here (Err stopped)
    → Reads source (λ trees. types_of (map (type_in source) trees)) (λ turns. list_ahead turns types (place_in source from)) (suc (length from.rest.now)) from (Err stopped)
list_stop source types from here read (stop.Deep told) so r = deep_list source types from here read told so.front r
list_stop source types from here read stop.NoMemory so r = tt

pub named_stop : (source : List ℕ) (types : ℕ) (first : Token) (from : Cursor) (stopped : Stop)
    → Reads source (λ trees. types_of (map (type_in source) trees)) (λ turns. args_at (list_ahead turns types) (place_in source from)) (length from.rest.now) from (Err stopped)
    → Reads source (type_in source) (λ turns. type_named turns types (token_in source first) (place_in source from)) (length from.rest.now) from (Err stopped)
named_stop source types first from (stop.Deep told) r = deep_named source types first from told r
named_stop source types first from stop.NoMemory r = tt

pub worded_found : (source : List ℕ) (word : TypeWord) (first : Token) (from behind : Cursor) (path : List Token) (looked : LookAhead (List Token))
    → IsLook source (map (token_in source)) (λ turns. path_from (place_in source from)) 0 from looked → looked ≡ look.Found path behind
    → IsLook source (type_in source) (λ turns. found_as (trees.Word (word_of word) (token_in source first)) (path_from (place_in source from))) 0 from (look.Found (type.Word word first path) behind)
worded_found source word first from behind path looked l is =
    record {
      is = λ turns h. ap (found_as (trees.Word (word_of word) (token_in source first))) (l.is turns h ∙ ap (look_in source (map (token_in source))) is)
          ∙ ap (λ t. ahead.Found t (place_in source behind)) (sym (type_in-Word source word first path));
      free = sym (ap (λ k. (place_of k).limit) is) ∙ l.free;
      fewer = let e = ap (λ k. length (place_of k).rest.now) is in omega (arith, e, l.fewer);
    }

pub named_found : (source : List ℕ) (first : Token) (args : List TypeTree) (from behind : Cursor) (path : List Token) (looked : LookAhead (List Token))
    → IsLook source (map (token_in source)) (λ turns. path_from (place_in source from)) 0 from looked → looked ≡ look.Found path behind
    → IsLook source (type_in source) (λ turns. found_as (trees.Named (token_in source first) (types_of (map (type_in source) args))) (path_from (place_in source from))) 0 from (look.Found (type.Named first args path) behind)
named_found source first args from behind path looked l is =
    record {
      is = λ turns h. ap (found_as (trees.Named (token_in source first) (types_of (map (type_in source) args)))) (l.is turns h ∙ ap (look_in source (map (token_in source))) is)
          ∙ ap (λ t. ahead.Found t (place_in source behind)) (sym (type_in-Named source first args path));
      free = sym (ap (λ k. (place_of k).limit) is) ∙ l.free;
      fewer = let e = ap (λ k. length (place_of k).rest.now) is in omega (arith, e, l.fewer);
    }

-- an error that is handed on
pub handed_on : {A : Type 0} (result : Result A Stop) (e : Stop) → IsErrAnd result (λ x. x ≡ e) → result ≡ Err e
handed_on (Ok a) e h = absurd h
handed_on (Err x) e h = ap Err h

pub one_stop : (source : List ℕ) (types : ℕ) (from : Cursor) (first : Token) (lead : Lead) (stopped : Stop) → BeginsWith first from
    → lead ≡ lead_of (symbol (token_in source first)) → (lead ≡ NoType → ⊥) → IsOpened source types from (Err stopped)
    → Reads source (type_in source) (λ turns. type_ahead turns types (place_in source from)) (length from.rest.now) from (Err stopped)
one_stop source types from first lead (stop.Deep told) b is l o = deep_reads source types from first told b (λ e. l (is ∙ e)) o
one_stop source types from first lead stop.NoMemory b is l o = tt
