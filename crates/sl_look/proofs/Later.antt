-- Looks for types end at no earlier place than they begin.
use Rattle.std.proofs.Common.{ℕ, zero, suc, ◌≤◌, Bool, true, false, List, [], ◌∷◌, arith, le_refl}
use Rattle.std.specs.Prelude.{Option}
use Rattle.def_token.specs.Lexical.{Token}
use Rattle.def_tree.specs.Limits.{opens}
use Rattle.def_tree.specs.Statements.{begins_with}
use Rattle.def_tree.specs.Symbol.{symbol, is_sign}
use Rattle.def_tree.specs.TypeTree.{TypeTree, TypeTrees, Word, Named, MoreTypes}
use Rattle.def_reading.specs.Cursor.{Told, Cursor, At, noted}
use Rattle.def_reading.specs.TypeAhead.{LookAhead, Found, Missing, found_then, found_as, names, path_by, path_ahead, path_from, type_by, args_by, args_at, list_by, list_behind, type_ahead, list_ahead}
use Rattle.def_reading.specs.TypeReading.{Lead, AWord, AName, NoType, lead_of}

-- a look ends at no earlier place
abbrev pub EndsLater : {A : Type 0} → ℕ → LookAhead A → Type 0
EndsLater from (Found a (At at limit rest)) = from ≤ at
EndsLater from (Missing (At at limit rest)) = from ≤ at

later_from : {A : Type 0} (from at : ℕ) (look : LookAhead A) → from ≤ at → EndsLater at look → EndsLater from look
later_from from at (Found a (At at' limit rest)) h l = omega (arith, h, l)
later_from from at (Missing (At at' limit rest)) h l = omega (arith, h, l)

later_as : {A B : Type 0} (make : A → B) (from : ℕ) (look : LookAhead A) → EndsLater from look → EndsLater from (found_as make look)
later_as make from (Found a (At at limit rest)) l = l
later_as make from (Missing (At at limit rest)) l = l

later_then : {A B : Type 0} (next : A → Cursor → LookAhead B) (from : ℕ) (look : LookAhead A) → EndsLater from look
    → ((a : A) (at : ℕ) (limit : Option Told) (rest : List Token) → EndsLater at (next a (At at limit rest))) → EndsLater from (found_then next look)
later_then next from (Found a (At at limit rest)) l k = later_from from at (next a (At at limit rest)) l (k a at limit rest)
later_then next from (Missing (At at limit rest)) l k = l

path_by_later : (dotted named : Bool) (at : ℕ) (limit : Option Told) (dot name : Token) (tokens : List Token) (more : LookAhead (List Token)) → EndsLater (suc (suc at)) more
    → EndsLater at (path_by dotted named at limit dot name tokens more)
path_by_later true true at limit dot name tokens more l = later_from at (suc (suc at)) (found_as (λ path. name ∷ path) more) (omega arith) (later_as (λ path. name ∷ path) (suc (suc at)) more l)
path_by_later true false at limit dot name tokens more l = omega arith
path_by_later false named at limit dot name tokens more l = le_refl at

path_later : (at : ℕ) (limit : Option Told) (tokens : List Token) → EndsLater at (path_ahead at limit tokens)
path_later at limit [] = le_refl at
path_later at limit (dot ∷ []) = le_refl at
path_later at limit (dot ∷ name ∷ tokens) =
    path_by_later (is_sign "." (symbol dot)) (names (symbol name)) at limit dot name tokens (path_ahead (suc (suc at)) limit tokens) (path_later (suc (suc at)) limit tokens)

type_by_later : (lead : Lead) (at : ℕ) (limit : Option Told) (tokens : List Token) (args : LookAhead TypeTrees) (first : Token) (limit' : Option Told) (tokens' : List Token) → EndsLater (suc at) args
    → EndsLater at (type_by lead (At (suc at) limit tokens) args first (At at limit' tokens'))
type_by_later (AWord word) at limit tokens args first limit' tokens' l =
    later_from at (suc at) (found_as (Word word first) (path_ahead (suc at) limit tokens)) (omega arith) (later_as (Word word first) (suc at) (path_ahead (suc at) limit tokens) (path_later (suc at) limit tokens))
type_by_later AName at limit tokens args first limit' tokens' l =
    later_from at (suc at) (found_then (λ found after. found_as (Named first found) (path_from after)) args) (omega arith)
    (later_then (λ found after. found_as (Named first found) (path_from after)) (suc at) args l (λ found at limit rest. later_as (Named first found) at (path_ahead at limit rest) (path_later at limit rest)))
type_by_later NoType at limit tokens args first limit' tokens' l = le_refl at

args_by_later : (b : Bool) (list : Cursor → LookAhead TypeTrees) (at : ℕ) (limit : Option Told) (tokens : List Token)
    → ((at : ℕ) (limit : Option Told) (tokens : List Token) → EndsLater at (list (At at limit tokens))) → EndsLater at (args_by b list (At at limit tokens))
args_by_later true list at limit [] k = k at limit []
args_by_later true list at limit (t ∷ ts) k = later_from at (suc at) (list (At (suc at) limit ts)) (omega arith) (k (suc at) limit ts)
args_by_later false list at limit tokens k = le_refl at

list_by_later : (comma closes : Bool) (more : Cursor → LookAhead TypeTrees) (type : TypeTree) (at : ℕ) (limit limit' : Option Told) (tokens tokens' : List Token) → EndsLater (suc at) (more (At (suc at) limit tokens))
    → EndsLater at (list_by comma closes more type (At (suc at) limit tokens) (At at limit' tokens'))
list_by_later true closes more type at limit limit' tokens tokens' l =
    later_from at (suc at) (found_as (MoreTypes type) (more (At (suc at) limit tokens))) (omega arith) (later_as (MoreTypes type) (suc at) (more (At (suc at) limit tokens)) l)
list_by_later false true more type at limit limit' tokens tokens' l = omega arith
list_by_later false false more type at limit limit' tokens tokens' l = le_refl at

list_behind_later : (more : Cursor → LookAhead TypeTrees) (type : TypeTree) (at : ℕ) (limit : Option Told) (tokens : List Token)
    → ((at : ℕ) (limit : Option Told) (tokens : List Token) → EndsLater at (more (At at limit tokens))) → EndsLater at (list_behind more type (At at limit tokens))
list_behind_later more type at limit [] k = le_refl at
list_behind_later more type at limit (mark ∷ tokens) k =
    list_by_later (is_sign "," (symbol mark)) (is_sign ">" (symbol mark)) more type at limit limit tokens (mark ∷ tokens) (k (suc at) limit tokens)

mutual
  pub type_later : (turns types at : ℕ) (limit : Option Told) (tokens : List Token) → EndsLater at (type_ahead turns types (At at limit tokens))
  type_later zero types at limit tokens = le_refl at
  type_later (suc turns) types at limit [] = le_refl at
  type_later (suc turns) types at limit (first ∷ tokens) =
      let limit' = noted limit (opens (suc types)) at first in
      let args = args_at (list_ahead turns (suc types)) (At (suc at) limit' tokens) in
      type_by_later (lead_of (symbol first)) at limit' tokens args first limit (first ∷ tokens)
      (args_by_later (begins_with "<" tokens) (list_ahead turns (suc types)) (suc at) limit' tokens (λ at limit tokens. list_later turns (suc types) at limit tokens))

  list_later : (turns types at : ℕ) (limit : Option Told) (tokens : List Token) → EndsLater at (list_ahead turns types (At at limit tokens))
  list_later zero types at limit tokens = le_refl at
  list_later (suc turns) types at limit tokens =
      later_then (λ type behind. list_behind (list_ahead turns types) type behind) at (type_ahead turns types (At at limit tokens)) (type_later turns types at limit tokens)
      (λ type at limit rest. list_behind_later (list_ahead turns types) type at limit rest (λ at limit tokens. list_later turns types at limit tokens))
