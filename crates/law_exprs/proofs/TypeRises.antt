-- Places and limits only grow where types are looked for.
use Rattle.std.proofs.Common.{ℕ, zero, suc, ◌≤◌, Bool, true, false, List, [], ◌∷◌, arith, le_refl}
use Rattle.std.specs.Prelude.{Option}
use Rattle.def_token.specs.Lexical.{Token}
use Rattle.def_tree.specs.Limits.{opens}
use Rattle.def_tree.specs.Statements.{begins_with}
use Rattle.def_tree.specs.Symbol.{symbol, is_sign}
use Rattle.def_tree.specs.TypeTree.{TypeTree, Word, Named, TypeTrees, MoreTypes}
use Rattle.def_reading.specs.Cursor.{Told, Cursor, At, noted}
use Rattle.def_reading.specs.TypeAhead.{LookAhead, Found, Missing, found_then, found_as, names, path_by, path_ahead, path_from, type_by, list_by, list_behind, args_by, args_at, type_ahead, list_ahead}
use Rattle.def_reading.specs.TypeReading.{Lead, AWord, AName, NoType, lead_of}
use Rattle.law_types.proofs.AheadFaults.{Grows, same_limit, grows_noted, grows_more}
use Rattle.law_exprs.proofs.TryComes.{Noted, noted_stays, noted_later}

-- what is found stands behind the place, and the limit is the same unless one ends on the way
abbrev pub LookRises : {A : Type 0} → ℕ → Option Told → LookAhead A → Type 0
LookRises at limit (Found a (At at' limit' rest)) = (at ≤ at') × Grows at limit limit' × Noted at' limit'
LookRises at limit (Missing place) = Unit {0}

rises_from : {A : Type 0} (at at' : ℕ) (limit limit' : Option Told) (look : LookAhead A) → at ≤ at' → Grows at limit limit' → LookRises at' limit' look → LookRises at limit look
rises_from at at' limit limit' (Found a (At at'' limit'' rest)) h g r = (omega (arith, h, r.0), grows_more at at' limit limit' limit'' h g r.1, r.2)
rises_from at at' limit limit' (Missing place) h g r = tt

rises_made : {A B : Type 0} (make : A → B) (at : ℕ) (limit : Option Told) (look : LookAhead A) → LookRises at limit look → LookRises at limit (found_as make look)
rises_made make at limit (Found a (At at' limit' rest)) h = h
rises_made make at limit (Missing place) h = tt

rises_behind : {A B : Type 0} (next : A → Cursor → LookAhead B) (at : ℕ) (limit : Option Told) (look : LookAhead A) → LookRises at limit look
    → ((a : A) (at : ℕ) (limit : Option Told) (rest : List Token) → Noted at limit → LookRises at limit (next a (At at limit rest))) → LookRises at limit (found_then next look)
rises_behind next at limit (Found a (At at' limit' rest)) h k = rises_from at at' limit limit' (next a (At at' limit' rest)) h.0 h.1 (k a at' limit' rest h.2)
rises_behind next at limit (Missing place) h k = tt

path_by_rises : (dotted' named : Bool) (at : ℕ) (limit : Option Told) (dot name : Token) (tokens : List Token) (more : LookAhead (List Token)) → Noted at limit → LookRises (suc (suc at)) limit more
    → LookRises at limit (path_by dotted' named at limit dot name tokens more)
path_by_rises true true at limit dot name tokens more n h =
    rises_from at (suc (suc at)) limit limit (found_as (λ path. name ∷ path) more) (omega arith) same_limit (rises_made (λ path. name ∷ path) (suc (suc at)) limit more h)
path_by_rises true false at limit dot name tokens more n h = tt
path_by_rises false named at limit dot name tokens more n h = (le_refl at, same_limit, n)

path_rises : (at : ℕ) (limit : Option Told) (tokens : List Token) → Noted at limit → LookRises at limit (path_ahead at limit tokens)
path_rises at limit [] n = (le_refl at, same_limit, n)
path_rises at limit (dot ∷ []) n = (le_refl at, same_limit, n)
path_rises at limit (dot ∷ name ∷ tokens) n =
    path_by_rises (is_sign "." (symbol dot)) (names (symbol name)) at limit dot name tokens (path_ahead (suc (suc at)) limit tokens) n
    (path_rises (suc (suc at)) limit tokens (noted_later limit (suc at) (noted_later limit at n)))

type_by_rises : (lead : Lead) (at : ℕ) (limit : Option Told) (tokens : List Token) (args : LookAhead TypeTrees) (first : Token) (place : Cursor) → Noted at limit → LookRises at limit args
    → LookRises at limit (type_by lead (At at limit tokens) args first place)
type_by_rises (AWord word) at limit tokens args first place n h = rises_made (Word word first) at limit (path_ahead at limit tokens) (path_rises at limit tokens n)
type_by_rises AName at limit tokens args first place n h =
    rises_behind (λ found after. found_as (Named first found) (path_from after)) at limit args h
    (λ found at limit rest n. rises_made (Named first found) at limit (path_ahead at limit rest) (path_rises at limit rest n))
type_by_rises NoType at limit tokens args first place n h = tt

args_by_rises : (b : Bool) (list : Cursor → LookAhead TypeTrees) (at : ℕ) (limit : Option Told) (tokens : List Token) → Noted at limit
    → ((at : ℕ) (limit : Option Told) (tokens : List Token) → Noted at limit → LookRises at limit (list (At at limit tokens))) → LookRises at limit (args_by b list (At at limit tokens))
args_by_rises true list at limit [] n k = k at limit [] n
args_by_rises true list at limit (t ∷ ts) n k =
    rises_from at (suc at) limit limit (list (At (suc at) limit ts)) (omega arith) same_limit (k (suc at) limit ts (noted_later limit at n))
args_by_rises false list at limit tokens n k = (le_refl at, same_limit, n)

list_by_rises : (comma closes : Bool) (more : Cursor → LookAhead TypeTrees) (type : TypeTree) (at : ℕ) (limit : Option Told) (tokens : List Token) (place : Cursor) → Noted at limit
    → ((at : ℕ) (limit : Option Told) (tokens : List Token) → Noted at limit → LookRises at limit (more (At at limit tokens))) → LookRises at limit (list_by comma closes more type (At at limit tokens) place)
list_by_rises true closes more type at limit tokens place n k = rises_made (MoreTypes type) at limit (more (At at limit tokens)) (k at limit tokens n)
list_by_rises false true more type at limit tokens place n k = (le_refl at, same_limit, n)
list_by_rises false false more type at limit tokens place n k = tt

list_behind_rises : (more : Cursor → LookAhead TypeTrees) (type : TypeTree) (at : ℕ) (limit : Option Told) (tokens : List Token) → Noted at limit
    → ((at : ℕ) (limit : Option Told) (tokens : List Token) → Noted at limit → LookRises at limit (more (At at limit tokens))) → LookRises at limit (list_behind more type (At at limit tokens))
list_behind_rises more type at limit [] n k = tt
list_behind_rises more type at limit (mark ∷ tokens) n k =
    let look = list_by (is_sign "," (symbol mark)) (is_sign ">" (symbol mark)) more type (At (suc at) limit tokens) (At at limit (mark ∷ tokens)) in
    rises_from at (suc at) limit limit look (omega arith) same_limit
    (list_by_rises (is_sign "," (symbol mark)) (is_sign ">" (symbol mark)) more type (suc at) limit tokens (At at limit (mark ∷ tokens)) (noted_later limit at n) k)

mutual
  type_rises_in : (turns types at : ℕ) (limit : Option Told) (tokens : List Token) → Noted at limit → LookRises at limit (type_ahead turns types (At at limit tokens))
  type_rises_in zero types at limit tokens n = tt
  type_rises_in (suc turns) types at limit [] n = tt
  type_rises_in (suc turns) types at limit (first ∷ tokens) n =
      let limit' = noted limit (opens (suc types)) at first in
      let n' = noted_later limit' at (noted_stays limit (opens (suc types)) at first n) in
      let look = type_by (lead_of (symbol first)) (At (suc at) limit' tokens) (args_at (list_ahead turns (suc types)) (At (suc at) limit' tokens)) first (At at limit (first ∷ tokens)) in
      rises_from at (suc at) limit limit' look (omega arith) (grows_noted at limit (opens (suc types)) first)
      (type_by_rises (lead_of (symbol first)) (suc at) limit' tokens (args_at (list_ahead turns (suc types)) (At (suc at) limit' tokens)) first (At at limit (first ∷ tokens)) n'
      (args_by_rises (begins_with "<" tokens) (list_ahead turns (suc types)) (suc at) limit' tokens n' (λ at limit tokens n. list_rises_in turns (suc types) at limit tokens n)))

  list_rises_in : (turns types at : ℕ) (limit : Option Told) (tokens : List Token) → Noted at limit → LookRises at limit (list_ahead turns types (At at limit tokens))
  list_rises_in zero types at limit tokens n = tt
  list_rises_in (suc turns) types at limit tokens n =
      rises_behind (λ type behind. list_behind (list_ahead turns types) type behind) at limit (type_ahead turns types (At at limit tokens)) (type_rises_in turns types at limit tokens n)
      (λ type at limit rest n. list_behind_rises (list_ahead turns types) type at limit rest n (λ at limit tokens n. list_rises_in turns types at limit tokens n))

pub type_rises : (turns types at : ℕ) (limit : Option Told) (tokens : List Token) → Noted at limit → LookRises at limit (type_ahead turns types (At at limit tokens))
type_rises turns types at limit tokens n = type_rises_in turns types at limit tokens n
