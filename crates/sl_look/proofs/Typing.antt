-- Types that are read at places of a source, and places that follow others.
use Rattle.std.proofs.Common.{◌≡◌, ℕ, ◌+◌, ◌-◌, ◌≤◌, List, length, drop, refl, sym, ap, subst, ◌∙◌, arith}
use Rattle.std.specs.Prelude.{Option, Some, None}
use Rattle.std.specs.Option.{option_map}
use Rattle.std.proofs.lemmas.List.{drop-map, drop-drop, length-drop, length-map}
use Rattle.def_tree.specs.Limits.{Nesting}
use Rattle.def_tree.specs.TypeTree.{TypeTree as Type'}
use Rattle.def_reading.specs.Cursor.{At, reach_at, further}
use Rattle.def_reading.specs.Try.{Reads, Stops, look_by, settled, type_in as type_reader}
use Rattle.def_reading.specs.TypeAhead.{Found, Missing, type_ahead}
use Rattle.law_machine.proofs.MachineStays.{IsFurther}
use Rattle.sl_token.specs.View.{token_in, tokens_in}
use Rattle.sl_tree.specs.View.{type_in}
use Rattle.sl_tree.specs.declared.types.TypeTree.{TypeTree}
use Rattle.sl_look.specs.Lookups.{IsFound, IsLooked}
use Rattle.sl_look.specs.Looks.{limit_of}
use Rattle.sl_cursor.specs.Seen.{place_in, reach_in, told_in}
use Rattle.sl_cursor.specs.Tries.{IsIn, IsTried, on_lists}
use Rattle.sl_cursor.specs.declared.cursor.Cursor.{Cursor}
use Rattle.sl_cursor.specs.declared.cursor.FarthestFailure.{FarthestFailure}
use Rattle.sl_cursor.specs.declared.cursor.Told.{Told}
use Rattle.sl_cursor.specs.declared.source.Here.{Here}
use Rattle.sl_cursor.specs.declared.source.Source.{Source}
use Rattle.sl_look.specs.declared.types.LookAhead.{LookAhead as Looked}
use Rattle.sl_look.specs.declared.types.LookAhead.TheVariants as look
use Rattle.sl_look.proofs.Looking.{TypeLooked, type_here}
use Rattle.sl_look.proofs.TypeLists.{type_keeps}

-- a place where another one stands, among the tokens of a third
pub record Follows (from behind place : Cursor) : Type 0 where
  pub at : place.at ≡ behind.at
  pub limit : place.limit ≡ behind.limit
  pub rest : place.rest.now ≡ drop (behind.at - from.at) from.rest.now

-- it is the same place
pub followed : (source : List ℕ) (from behind place : Cursor) → IsFurther from.at (tokens_in source from.rest.now) behind.at (tokens_in source behind.rest.now) → Follows from behind place
    → place_in source behind ≡ place_in source place
followed source from behind place f h =
    let many : f.many ≡ behind.at - from.at = omega (arith, f.is) in
    ap (λ n. At n (option_map (told_in source) behind.limit) (tokens_in source behind.rest.now)) (sym h.at)
    ∙ ap (λ l. At place.at (option_map (told_in source) l) (tokens_in source behind.rest.now)) (sym h.limit)
    ∙ ap (At place.at (option_map (told_in source) place.limit))
    (f.are ∙ drop-map (token_in source) f.many from.rest.now ∙ ap (λ n. tokens_in source (drop n from.rest.now)) many ∙ ap (tokens_in source) (sym h.rest))

-- it is one among the source's tokens
pub in_followed : (source : Source) (from behind place : Cursor) → IsIn source from
    → IsFurther from.at (tokens_in source.bytes.now from.rest.now) behind.at (tokens_in source.bytes.now behind.rest.now) → Follows from behind place → IsIn source place
in_followed source from behind place i f h =
    let many : f.many ≡ behind.at - from.at = omega (arith, f.is) in
    let all : length (tokens_in source.bytes.now from.rest.now) ≡ length from.rest.now = length-map from.rest.now (token_in source.bytes.now) in
    let left : length from.rest.now ≡ length source.tokens.now - from.at = ap length i.rest ∙ length-drop from.at source.tokens.now in
    record {
      rest = h.rest ∙ ap (drop (behind.at - from.at)) i.rest ∙ drop-drop (behind.at - from.at) from.at source.tokens.now
          ∙ ap (λ n. drop n source.tokens.now) (let e : from.at + (behind.at - from.at) ≡ place.at = omega (arith, f.is, h.at) in e);
      within = omega (arith, f.is, f.within, h.at, i.within, all, left);
    }

pub behind_from : (source : List ℕ) (from behind : Cursor) → IsFurther from.at (tokens_in source from.rest.now) behind.at (tokens_in source behind.rest.now) → from.at ≤ behind.at
behind_from source from behind f = omega (arith, f.is)

pub within_from : (source : List ℕ) (from behind : Cursor) → IsFurther from.at (tokens_in source from.rest.now) behind.at (tokens_in source behind.rest.now)
    → behind.at ≤ from.at + length from.rest.now
within_from source from behind f = omega (arith, f.is, f.within, length-map from.rest.now (token_in source))

pub type_missing : (source : Source) (around : Nesting) (here : Here) (looked : Looked TypeTree) (behind limited : Cursor) (way result : Option FarthestFailure)
    → TypeLooked source.bytes.now around.types here.place looked → looked ≡ look.Missing behind → place_in source.bytes.now limited ≡ settled (place_in source.bytes.now behind)
    → option_map (reach_in source.bytes.now) way ≡ reach_at None 0 (place_in source.bytes.now limited)
    → option_map (reach_in source.bytes.now) result ≡ further (option_map (reach_in source.bytes.now) here.reach) (option_map (reach_in source.bytes.now) way)
    → on_lists source (type_reader around) here ≡ Stops (option_map (reach_in source.bytes.now) result)
type_missing source around here looked behind limited way result h is l w r =
    let bytes = source.bytes.now in
    let reach = option_map (reach_in bytes) here.reach in
    let ahead = type_ahead (length (tokens_in bytes here.place.rest.now)) around.types (place_in bytes here.place) in
    let missing : ahead ≡ Missing (place_in bytes behind) = subst (IsLooked bytes (type_in bytes) ahead) is (type_here bytes around.types here.place looked h) in
    ap (look_by reach) missing ∙ ap Stops (sym (r ∙ ap (further reach) (w ∙ ap (reach_at None 0) l)))

-- a limit before a type stays the first
keeps_none : (bytes : List ℕ) (turns types : ℕ) (from behind : Cursor) (tree : Type') → type_ahead turns types (place_in bytes from) ≡ Found tree (place_in bytes behind)
    → behind.limit ≡ None → (limit : Option Told) → from.limit ≡ limit → limit ≡ None
keeps_none bytes turns types from behind tree is none None l = refl
keeps_none bytes turns types from behind tree is none (Some told) l =
    let kept : limit_of (type_ahead turns types (place_in bytes from)) ≡ Some (told_in bytes told) = type_keeps turns types (place_in bytes from) (told_in bytes told) (ap (option_map (told_in bytes)) l) in
    let free : option_map (told_in bytes) behind.limit ≡ None = ap (option_map (told_in bytes)) none in
    let both : None ≡ Some (told_in bytes told) = sym free ∙ sym (ap limit_of is) ∙ kept in
    absurd (cc)

pub type_found : (source : Source) (around : Nesting) (here : Here) (looked : Looked TypeTree) (tree : TypeTree) (behind place : Cursor) → IsIn source here.place
    → TypeLooked source.bytes.now around.types here.place looked → looked ≡ look.Found tree behind
    → IsFurther here.place.at (tokens_in source.bytes.now here.place.rest.now) behind.at (tokens_in source.bytes.now behind.rest.now) → Follows here.place behind place
    → IsTried source (type_in source.bytes.now) (type_reader around) here tree (record { place = place; reach = here.reach })
type_found source around here looked tree behind place i h is f p =
    let bytes = source.bytes.now in
    let reach = option_map (reach_in bytes) here.reach in
    let ahead = type_ahead (length (tokens_in bytes here.place.rest.now)) around.types (place_in bytes here.place) in
    let found : IsFound bytes (type_in bytes) ahead tree behind = subst (IsLooked bytes (type_in bytes) ahead) is (type_here bytes around.types here.place looked h) in
    record {
      tree = found.tree;
      is = ap (look_by reach) found.is ∙ ap (λ q. Reads found.tree q reach) (followed bytes here.place behind place f p);
      same = λ none. found.same (sym p.limit ∙ none);
      rises = λ none. keeps_none bytes (length (tokens_in bytes here.place.rest.now)) around.types here.place behind found.tree found.is (sym p.limit ∙ none) here.place.limit refl;
      stands = in_followed source here.place behind place i f p;
    }
