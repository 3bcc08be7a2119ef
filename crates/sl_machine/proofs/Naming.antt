-- Names, and type arguments that are looked for behind them.
use Rattle.std.proofs.Common.{◌≡◌, ℕ, suc, ◌<◌, Bool, true, false, List, [], ◌∷◌, length, map, drop, refl, sym, ap, subst, ◌∙◌, arith, codes}
use Rattle.std.specs.Prelude.{Option, Some, None}
use Rattle.std.specs.Option.{option_map}
use Rattle.std.proofs.lemmas.List.{length-map}
use Rattle.def_token.specs.Lexical as lexical
use Rattle.def_tree.specs.ExprTree as exprs
use Rattle.def_tree.specs.Limits.{Nesting, plain}
use Rattle.def_tree.specs.Statements.{begins_with}
use Rattle.def_tree.specs.Symbol.{Symbol, Name, Number, Text, End, Sign, symbol, is_sign}
use Rattle.def_tree.specs.TypeTree.{TypeTrees}
use Rattle.def_reading.specs.Machine as machine
use Rattle.def_reading.specs.Machine.{On, Value, Expected, Step, nesting, name_by, step_at}
use Rattle.def_reading.specs.Cursor as lists
use Rattle.def_reading.specs.Cursor.{At, advance}
use Rattle.def_reading.specs.Plain.{plain_step}
use Rattle.def_reading.specs.TypeAhead.{LookAhead, Missing, found_then, leads_on, if_led, led_by, list_ahead, taken_ahead}
use Rattle.sl_token.specs.View.{token_in, tokens_in}
use Rattle.sl_token.specs.declared.token.Token.{Token}
use Rattle.sl_tree.specs.View.{expr_in, type_in, types_of}
use Rattle.sl_tree.specs.declared.expressions.ExprTree.TheVariants as expr
use Rattle.sl_tree.specs.declared.types.TypeTree.{TypeTree}
use Rattle.sl_tree.proofs.Views.{expr_in-Name}
use Rattle.sl_machine.specs.Kept.{IsAlike}
use Rattle.sl_look.specs.Lookups.{IsFound, IsLooked}
use Rattle.sl_cursor.specs.Seen.{IsAfter, place_in, told_in}
use Rattle.sl_cursor.specs.Signs.{begins_text, is_text}
use Rattle.sl_cursor.specs.declared.cursor.Cursor.{Cursor}
use Rattle.sl_cursor.specs.declared.cursor.Told.{Told}
use Rattle.sl_look.specs.declared.types.LookAhead.{LookAhead as Looked}
use Rattle.sl_look.specs.declared.types.LookAhead.TheVariants as look
use Rattle.sl_cursor.proofs.Places.{behind_first}

-- tokens that begin with a sign are some
pub record AreSome (tokens : List Token) : Type 0 where
  pub first : Token
  pub after : List Token
  pub are : tokens ≡ first ∷ after

pub begins_some : (source sign : List ℕ) (tokens : List Token) → begins_text sign (tokens_in source tokens) ≡ true → AreSome tokens
begins_some source sign [] h = absurd (cc)
begins_some source sign (first ∷ after) h = record { first = first; after = after; are = refl }

-- type arguments behind `<`

abbrev taken_from : ℕ → lists.Cursor → LookAhead TypeTrees
taken_from types (At at limit tokens) = taken_ahead types at limit tokens

enough : (source : List ℕ) (place behind : Cursor) (first : Token) (after : List Token) → place.rest.now ≡ first ∷ after → IsAfter place behind
    → suc (length behind.rest.now) < suc (length (tokens_in source place.rest.now))
enough source place behind first after is a =
    let m : length (tokens_in source place.rest.now) ≡ length place.rest.now = length-map place.rest.now (token_in source) in
    let b : length behind.rest.now ≡ length after = ap length (a.rest ∙ ap (drop 1) is) in
    let n : length place.rest.now ≡ suc (length after) = ap length is in
    omega arith

abbrev TreesIn : List ℕ → List TypeTree → TypeTrees
TreesIn source trees = types_of (map (type_in source) trees)

-- a list that is looked for behind the mark
abbrev pub ListLooked : List ℕ → ℕ → Cursor → Looked (List TypeTree) → Type 0
ListLooked source types behind looked = (turns : ℕ) → suc (length behind.rest.now) < turns → IsLooked source (TreesIn source) (list_ahead turns types (place_in source behind)) looked

list_here : (source : List ℕ) (types : ℕ) (place behind : Cursor) (first : Token) (after : List Token) (looked : Looked (List TypeTree)) → place.rest.now ≡ first ∷ after → IsAfter place behind
    → ListLooked source types behind looked
    → IsLooked source (TreesIn source) (list_ahead (suc (length (tokens_in source place.rest.now))) types (advance plain (place_in source place))) looked
list_here source types place behind first after looked is a h =
    subst (λ p. IsLooked source (TreesIn source) (list_ahead (suc (length (tokens_in source place.rest.now))) types p) looked) (a.place source)
    (h (suc (length (tokens_in source place.rest.now))) (enough source place behind first after is a))

pub taken_missing : (source : List ℕ) (types : ℕ) (place behind next : Cursor) (first : Token) (after : List Token) (looked : Looked (List TypeTree)) → place.rest.now ≡ first ∷ after → IsAfter place behind
    → ListLooked source types behind looked → looked ≡ look.Missing next → taken_from types (place_in source place) ≡ Missing (place_in source next)
taken_missing source types place behind next first after looked is a h m =
    ap (found_then if_led) (subst (IsLooked source (TreesIn source) (list_ahead (suc (length (tokens_in source place.rest.now))) types (advance plain (place_in source place)))) m
    (list_here source types place behind first after looked is a h))

led_if : (b : Bool) (args : TypeTrees) (at : ℕ) (limit : Option lists.Told) (tokens : List lexical.Token) → leads_on tokens ≡ b
    → if_led args (At at limit tokens) ≡ led_by b args (At at limit tokens)
led_if b args at limit tokens h = ap (λ b. led_by b args (At at limit tokens)) h

pub taken_found : (source : List ℕ) (types : ℕ) (place behind next : Cursor) (first : Token) (after : List Token) (looked : Looked (List TypeTree)) (args : List TypeTree) → place.rest.now ≡ first ∷ after
    → IsAfter place behind → ListLooked source types behind looked → looked ≡ look.Found args next → leads_on (tokens_in source next.rest.now) ≡ true
    → IsFound source (TreesIn source) (taken_from types (place_in source place)) args next
taken_found source types place behind next first after looked args is a h m leads =
    let list = list_ahead (suc (length (tokens_in source place.rest.now))) types (advance plain (place_in source place)) in
    let f : IsFound source (TreesIn source) list args next = subst (IsLooked source (TreesIn source) list) m (list_here source types place behind first after looked is a h) in
    record {
      tree = f.tree;
      is = ap (found_then if_led) f.is ∙ led_if true f.tree next.at (option_map (told_in source) next.limit) (tokens_in source next.rest.now) leads;
      same = f.same;
    }

pub taken_apart : (source : List ℕ) (types : ℕ) (place behind next : Cursor) (first : Token) (after : List Token) (looked : Looked (List TypeTree)) (args : List TypeTree) → place.rest.now ≡ first ∷ after
    → IsAfter place behind → ListLooked source types behind looked → looked ≡ look.Found args next → leads_on (tokens_in source next.rest.now) ≡ false
    → taken_from types (place_in source place) ≡ Missing (place_in source next)
taken_apart source types place behind next first after looked args is a h m leads =
    let list = list_ahead (suc (length (tokens_in source place.rest.now))) types (advance plain (place_in source place)) in
    let f : IsFound source (TreesIn source) list args next = subst (IsLooked source (TreesIn source) list) m (list_here source types place behind first after looked is a h) in
    ap (found_then if_led) f.is ∙ led_if false f.tree next.at (option_map (told_in source) next.limit) (tokens_in source next.rest.now) leads

-- names

-- nothing is told here where nothing is told on lists
pub told_none : (source : List ℕ) (limit : Option Told) → option_map (told_in source) limit ≡ None → limit ≡ None
told_none source None h = refl
told_none source (Some told) h = absurd (cc)

pub name_found : (source : List ℕ) (around : Nesting) (long : Option lists.Told) (fs : List machine.Frame) (token : Token) (args : List TypeTree) (place behind : Cursor) (taken : LookAhead TypeTrees)
    → IsFound source (TreesIn source) taken args behind
    → IsAlike (Unit {0}) (On None (record { frames = fs; mode = Value (expr_in source (expr.Name token args)); place = place_in source behind }))
    (name_by around long taken fs (token_in source token) (place_in source place))
name_found source around long fs token args place behind taken f =
    let stand : exprs.ExprTree → Step = λ tree. On None (record { frames = fs; mode = Value tree; place = place_in source behind }) in
    let to : name_by around long taken fs (token_in source token) (place_in source place) ≡ stand (exprs.Name (token_in source token) f.tree) =
    ap (λ look. name_by around long look fs (token_in source token) (place_in source place)) f.is in
    let from : stand (expr_in source (expr.Name token args)) ≡ stand (exprs.Name (token_in source token) (TreesIn source args)) = ap stand (expr_in-Name source token args) in
    record {
      alike = ap plain_step from ∙ sym (ap plain_step to);
      same = λ k free. from ∙ ap (λ trees. stand (exprs.Name (token_in source token) trees)) (sym (f.same (told_none source behind.limit free))) ∙ sym to;
    }

name_step : (around : Nesting) (long : Option lists.Told) (fs : List machine.Frame) (types at : ℕ) (limit : Option lists.Told) (t : lexical.Token) (ts : List lexical.Token) → symbol t ≡ Name → begins_with "<" ts ≡ true
    → (nesting around fs).types ≡ types → name_by around long (taken_ahead types (suc at) limit ts) fs t (At (suc at) limit ts) ≡ step_at around long Expected fs (At at limit (t ∷ ts))
name_step around long fs types at limit t ts n b is =
    ap (λ types. name_by around long (taken_ahead types (suc at) limit ts) fs t (At (suc at) limit ts)) (sym is) ∙ rw n (rw b refl)

begins_same : (ts : List lexical.Token) → begins_text (codes "<") ts ≡ begins_with "<" ts
begins_same [] = refl
begins_same (t ∷ ts) = same_sign (symbol t)
  where
    same_sign : (s : Symbol) → is_text (codes "<") s ≡ is_sign "<" s
    same_sign Name = refl
    same_sign (Number wide) = refl
    same_sign Text = refl
    same_sign End = refl
    same_sign (Sign text) = refl

pub name_generic : (source : List ℕ) (around : Nesting) (long : Option lists.Told) (fs : List machine.Frame) (types : ℕ) (token : Token) (after : List Token) (place behind : Cursor) → place.rest.now ≡ token ∷ after
    → IsAfter place behind → symbol (token_in source token) ≡ Name → begins_text (codes "<") (tokens_in source behind.rest.now) ≡ true → (nesting around fs).types ≡ types
    → name_by around long (taken_from types (place_in source behind)) fs (token_in source token) (place_in source behind) ≡ step_at around long Expected fs (place_in source place)
name_generic source around long fs types token after place behind is a n b t =
    let limit = option_map (told_in source) place.limit in
    let starts : begins_with "<" (tokens_in source after) ≡ true = sym (begins_same (tokens_in source after)) ∙ ap (λ ts. begins_text (codes "<") (tokens_in source ts)) (sym (a.rest ∙ ap (drop 1) is)) ∙ b in
    ap (λ p. name_by around long (taken_from types p) fs (token_in source token) p) (behind_first source place behind token after is a)
    ∙ name_step around long fs types place.at limit (token_in source token) (tokens_in source after) n starts t
    ∙ ap (λ ts. step_at around long Expected fs (At place.at limit (tokens_in source ts))) (sym is)
