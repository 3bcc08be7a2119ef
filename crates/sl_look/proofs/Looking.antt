-- Looks for type arguments and types at places of a source.
use Rattle.std.proofs.Common.{◌≡◌, ℕ, suc, ◌+◌, ◌-◌, ◌<◌, ◌≤◌, List, [], ◌∷◌, length, drop, get_or, sym, ap, subst, ◌∙◌, arith}
use Rattle.std.specs.Option.{option_map}
use Rattle.std.proofs.lemmas.List.{drop-map, drop-drop, length-drop, length-map}
use Rattle.std.proofs.lemmas.Option.{slice_get-get_or}
use Rattle.def_reading.specs.Cursor as lists
use Rattle.def_reading.specs.Cursor.{At}
use Rattle.def_reading.specs.TypeAhead.{Found, type_ahead}
use Rattle.law_machine.proofs.MachineStays.{IsFurther}
use Rattle.law_types.proofs.TypeTurns.{type_turns}
use Rattle.sl_token.specs.View.{token_in, tokens_in}
use Rattle.sl_token.specs.declared.token.Token.{Token}
use Rattle.sl_tree.specs.View.{type_in}
use Rattle.sl_tree.specs.declared.types.TypeTree.{TypeTree}
use Rattle.sl_cursor.specs.Ending.{Ending, ending_of, end_in, AreEnds, IsTable}
use Rattle.sl_look.specs.Lookups.{IsFound, IsLooked}
use Rattle.sl_cursor.specs.Seen.{IsAfter, place_in, told_in}
use Rattle.sl_cursor.specs.Tries.{IsIn}
use Rattle.sl_cursor.specs.declared.ends.Ends.{Ends}
use Rattle.sl_cursor.specs.declared.cursor.Cursor.{Cursor}
use Rattle.sl_cursor.specs.declared.source.Source.{Source}
use Rattle.sl_look.specs.declared.types.LookAhead.{LookAhead as Looked}
use Rattle.sl_look.specs.declared.types.LookAhead.TheVariants as look
use Rattle.sl_cursor.proofs.Places.{behind_first}

-- the entry of the table for a place
pub ends_here : (source : List ℕ) (tokens rest : List Token) (table : List Ends) (at : ℕ) (none : Ends) → IsTable (tokens_in source tokens) table → length table ≡ length tokens + 1
    → rest ≡ drop at tokens → at ≤ length tokens → AreEnds (get_or table (length rest) none) (tokens_in source rest)
ends_here source tokens rest table at none right whole are within =
    let many : length rest ≡ length tokens - at = ap length are ∙ length-drop at tokens in
    let all : length (tokens_in source tokens) ≡ length tokens = length-map tokens (token_in source) in
    let behind : drop (length (tokens_in source tokens) - length rest) (tokens_in source tokens) ≡ tokens_in source rest =
    ap (λ n. drop n (tokens_in source tokens)) (let e : length (tokens_in source tokens) - length rest ≡ at = omega arith in e)
    ∙ drop-map (token_in source) at tokens ∙ ap (tokens_in source) (sym are) in
    subst (AreEnds (get_or table (length rest) none)) behind
    (right (length rest) (get_or table (length rest) none) (slice_get-get_or table (length rest) none (omega arith)))

-- a place behind the next token
pub in_after : (source : Source) (from behind : Cursor) (first : Token) (after : List Token) → IsIn source from → from.rest.now ≡ first ∷ after → IsAfter from behind → IsIn source behind
in_after source from behind first after h is a =
    let at : behind.at ≡ suc from.at = ap (λ (p : lists.Cursor). at_of p) (behind_first [] from behind first after is a) in
    record {
      rest = a.rest ∙ ap (drop 1) h.rest ∙ drop-drop 1 from.at source.tokens.now ∙ ap (λ n. drop n source.tokens.now) (omega arith);
      within = let l : length (drop from.at source.tokens.now) ≡ suc (length after) = ap length (sym h.rest ∙ is) in omega (arith, at, l, length-drop from.at source.tokens.now);
    }
  where
    at_of : lists.Cursor → ℕ
    at_of (At at limit tokens) = at

-- types

-- a type that is looked for at a place
abbrev pub TypeLooked : List ℕ → ℕ → Cursor → Looked TypeTree → Type 0
TypeLooked source types place looked = (turns : ℕ) → length place.rest.now < turns → IsLooked source (type_in source) (type_ahead turns types (place_in source place)) looked

pub type_here : (source : List ℕ) (types : ℕ) (place : Cursor) (looked : Looked TypeTree) → TypeLooked source types place looked
    → IsLooked source (type_in source) (type_ahead (length (tokens_in source place.rest.now)) types (place_in source place)) looked
type_here source types place looked h =
    let n = length (tokens_in source place.rest.now) in
    let m : n ≡ length place.rest.now = length-map place.rest.now (token_in source) in
    subst (λ look. IsLooked source (type_in source) look looked)
    (sym (type_turns n types place.at (option_map (told_in source) place.limit) (tokens_in source place.rest.now) (omega arith)))
    (h (suc n) (omega arith))

-- where a type that is found ends
pub type_further : (source : List ℕ) (types : ℕ) (place behind : Cursor) (looked : Looked TypeTree) (tree : TypeTree) (ends : Ends) → AreEnds ends (tokens_in source place.rest.now)
    → TypeLooked source types place looked → looked ≡ look.Found tree behind → IsFurther place.at (tokens_in source place.rest.now) behind.at (tokens_in source behind.rest.now)
type_further source types place behind looked tree ends e h is =
    let n = suc (length (tokens_in source place.rest.now)) in
    let m : length (tokens_in source place.rest.now) ≡ length place.rest.now = length-map place.rest.now (token_in source) in
    let ahead = type_ahead n types (place_in source place) in
    let f : IsFound source (type_in source) ahead tree behind = subst (IsLooked source (type_in source) ahead) is (h n (omega arith)) in
    let g : ending_of (Found f.tree (place_in source behind)) ≡ end_in ends.one place.at (tokens_in source place.rest.now) =
    sym (ap ending_of f.is) ∙ e.one n types place.at (option_map (told_in source) place.limit) (omega arith) in
    record {
      many = ends.one.many;
      is = ap (λ (x : Ending). x.1) g;
      are = ap (λ (x : Ending). x.2) g;
      within = e.one_in;
    }
