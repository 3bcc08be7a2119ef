-- What stands behind names and behind types in lists, from the first tokens there.
use Rattle.std.proofs.Common.{◌≡◌, ℕ, suc, ◌<◌, true, false, List, [], ◌∷◌, ◌++◌, length, map, drop, append_assoc, append-nil, refl, sym, ap, ◌∙◌, arith, codes}
use Rattle.std.specs.Option.{option_map}
use Rattle.std.proofs.lemmas.List.{map-append}
use Rattle.def_tree.specs.Limits.{plain}
use Rattle.def_tree.specs.Symbol.{symbol}
use Rattle.def_tree.specs.TypeTree.{MoreTypes, NoTypes}
use Rattle.sl_token.specs.View.{token_in, tokens_in}
use Rattle.sl_token.specs.declared.token.Token.{Token}
use Rattle.def_reading.specs.Cursor.{At, advance}
use Rattle.sl_look.specs.Looks.{IsName, IsNoName, IsComma, Closes}
use Rattle.sl_cursor.specs.Seen.{told_in, place_in, IsAfter}
use Rattle.sl_cursor.specs.Signs.{is_text}
use Rattle.def_reading.specs.TypeAhead.{found_as, list_behind, names, path_from}
use Rattle.def_reading.specs.TypeAhead as ahead
use Rattle.sl_cursor.specs.declared.cursor.Cursor.{Cursor}
use Rattle.sl_cursor.proofs.Places.{at_tokens, behind_first}

shorter : (from behind : Cursor) (first : Token) (after : List Token) → from.rest.now ≡ first ∷ after → behind.rest.now ≡ drop 1 from.rest.now
    → length behind.rest.now < length from.rest.now
shorter from behind first after is rest = let a = ap length rest in let b = ap (λ ts. length (drop 1 ts)) is in let d = ap length is in omega (arith, a, b, d)

behind_two : (source : List ℕ) (from mid behind : Cursor) (first second : Token) (rest : List Token) → from.rest.now ≡ first ∷ second ∷ rest → IsAfter from mid → IsAfter mid behind
    → place_in source behind ≡ At (suc (suc from.at)) (option_map (told_in source) from.limit) (tokens_in source rest)
behind_two source from mid behind first second rest is one two = two.place source ∙ ap (advance plain) (behind_first source from mid first (second ∷ rest) is one)

pub named : (source : List ℕ) (from mid behind : Cursor) (dot name : Token) (after rest : List Token) → from.rest.now ≡ dot ∷ after → after ≡ name ∷ rest
    → is_text (codes ".") (symbol (token_in source dot)) ≡ true → names (symbol (token_in source name)) ≡ true → IsAfter from mid → IsAfter mid behind
    → IsName source from name behind
named source from mid behind dot name after rest one two d n m b =
    let are : from.rest.now ≡ dot ∷ name ∷ rest = one ∙ ap (λ ts. dot ∷ ts) two in
    record {
      path = ap (λ ts. path_from (at_tokens source from ts)) are
          ∙ rw d (rw n (ap (λ p. found_as (λ path. token_in source name ∷ path) (path_from p)) (sym (behind_two source from mid behind dot name rest are m b))));
      free = b.limit ∙ m.limit;
      fewer = let x = ap length m.rest in let y = ap length b.rest in let z = ap (λ ts. length (drop 1 (drop 1 ts))) are in let w = ap length are in
          let v = ap (λ ts. length (drop 1 ts)) m.rest in omega (arith, x, y, z, w, v);
    }

pub no_name : (source : List ℕ) (from behind : Cursor) (dot name : Token) (after rest : List Token) → from.rest.now ≡ dot ∷ after → after ≡ name ∷ rest
    → is_text (codes ".") (symbol (token_in source dot)) ≡ true → names (symbol (token_in source name)) ≡ false → IsAfter from behind
    → IsNoName source from behind
no_name source from behind dot name after rest one two d n b =
    let are : from.rest.now ≡ dot ∷ name ∷ rest = one ∙ ap (λ ts. dot ∷ ts) two in
    record {
      path = ap (λ ts. path_from (at_tokens source from ts)) are
          ∙ rw d (rw n (ap ahead.Missing (sym (behind_first source from behind dot (name ∷ rest) are b))));
      free = b.limit;
      fewer = shorter from behind dot (name ∷ rest) are b.rest;
    }

pub comma : (source : List ℕ) (from behind : Cursor) (mark : Token) (after : List Token) → from.rest.now ≡ mark ∷ after
    → is_text (codes ",") (symbol (token_in source mark)) ≡ true → IsAfter from behind → IsComma source from behind
comma source from behind mark after is c b =
    record {
      list = λ more type. ap (λ ts. list_behind more type (at_tokens source from ts)) is
          ∙ rw c (ap (λ p. found_as (MoreTypes type) (more p)) (sym (behind_first source from behind mark after is b)));
      free = b.limit;
      fewer = shorter from behind mark after is b.rest;
    }

pub closing : (source : List ℕ) (from behind : Cursor) (mark : Token) (after : List Token) → from.rest.now ≡ mark ∷ after
    → is_text (codes ",") (symbol (token_in source mark)) ≡ false → is_text (codes ">") (symbol (token_in source mark)) ≡ true → IsAfter from behind → Closes source from behind
closing source from behind mark after is c g b =
    record {
      list = λ more type. ap (λ ts. list_behind more type (at_tokens source from ts)) is
          ∙ rw c (rw g (ap (ahead.Found (MoreTypes type NoTypes)) (sym (behind_first source from behind mark after is b))));
      free = b.limit;
      fewer = shorter from behind mark after is b.rest;
    }

-- what is found of a list, behind elements that were found before
abbrev pub in_front : {A : Type 0} → List A → ahead.LookAhead (List A) → ahead.LookAhead (List A)
in_front front look = found_as (λ more. front ++ more) look

pub front_none : {A : Type 0} (look : ahead.LookAhead (List A)) → look ≡ in_front [] look
front_none (ahead.Found a place) = refl
front_none (ahead.Missing place) = refl

front_one : {A : Type 0} (front : List A) (a : A) (look : ahead.LookAhead (List A)) → in_front front (found_as (λ more. a ∷ more) look) ≡ in_front (front ++ a ∷ []) look
front_one front a (ahead.Found found place) = ap (λ ts. ahead.Found ts place) (sym (append_assoc front (a ∷ []) found))
front_one front a (ahead.Missing place) = refl

pub name_further : (source : List ℕ) (from here behind : Cursor) (path longer : List Token) (name : Token)
    → path_from (place_in source from) ≡ in_front (map (token_in source) path) (path_from (place_in source here))
    → IsName source here name behind → longer ≡ path ++ name ∷ []
    → path_from (place_in source from) ≡ in_front (map (token_in source) longer) (path_from (place_in source behind))
name_further source from here behind path longer name front h is =
    front ∙ ap (in_front (map (token_in source) path)) h.path
    ∙ front_one (map (token_in source) path) (token_in source name) (path_from (place_in source behind))
    ∙ ap (λ ts. in_front ts (path_from (place_in source behind))) (sym (ap (map (token_in source)) is ∙ map-append (token_in source) path (name ∷ [])))

-- what was found of the names
pub path_whole : (source : List ℕ) (from here : Cursor) (path : List Token)
    → path_from (place_in source from) ≡ in_front (map (token_in source) path) (path_from (place_in source here))
    → path_from (place_in source here) ≡ ahead.Found [] (place_in source here)
    → path_from (place_in source from) ≡ ahead.Found (map (token_in source) path) (place_in source here)
path_whole source from here path front h =
    front ∙ ap (in_front (map (token_in source) path)) h ∙ ap (λ ts. ahead.Found ts (place_in source here)) (append-nil (map (token_in source) path))
