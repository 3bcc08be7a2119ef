-- Looks for types leave no more tokens than there are, and as many turns as there are tokens are enough for them.
use Rattle.std.proofs.Common.{◌≡◌, ℕ, zero, suc, ◌<◌, ◌≤◌, Bool, true, false, List, [], ◌∷◌, length, refl, sym, ap, ◌∙◌, arith, le_refl}
use Rattle.std.specs.Prelude.{Option}
use Rattle.def_token.specs.Lexical.{Token}
use Rattle.def_tree.specs.Limits.{opens}
use Rattle.def_tree.specs.Statements.{begins_with}
use Rattle.def_tree.specs.Symbol.{symbol, is_sign}
use Rattle.def_tree.specs.TypeTree.{TypeTree, Word, Named, TypeTrees, MoreTypes}
use Rattle.def_reading.specs.Cursor.{Told, Cursor, At, advance, noted}
use Rattle.def_reading.specs.TypeAhead.{LookAhead, Found, Missing, found_then, found_as, names, path_by, path_ahead, path_from, type_by, list_by, list_behind, args_by, args_at, type_ahead, list_ahead}
use Rattle.def_reading.specs.TypeReading.{Lead, AWord, AName, NoType, lead_of}

-- a look leaves at most so many tokens
abbrev Leaves : {A : Type 0} → ℕ → LookAhead A → Type 0
Leaves many (Found a (At at limit rest)) = length rest ≤ many
Leaves many (Missing place) = Unit {0}

leaves_more : {A : Type 0} (many more : ℕ) (look : LookAhead A) → many ≤ more → Leaves many look → Leaves more look
leaves_more many more (Found a (At at limit rest)) h l = omega (arith, h, l)
leaves_more many more (Missing place) h l = tt

leaves_made : {A B : Type 0} (make : A → B) (many : ℕ) (look : LookAhead A) → Leaves many look → Leaves many (found_as make look)
leaves_made make many (Found a (At at limit rest)) l = l
leaves_made make many (Missing place) l = tt

leaves_behind : {A B : Type 0} (next : A → Cursor → LookAhead B) (many : ℕ) (look : LookAhead A) → Leaves many look
    → ((a : A) (at : ℕ) (limit : Option Told) (rest : List Token) → Leaves (length rest) (next a (At at limit rest))) → Leaves many (found_then next look)
leaves_behind next many (Found a (At at limit rest)) l k = leaves_more (length rest) many (next a (At at limit rest)) l (k a at limit rest)
leaves_behind next many (Missing place) l k = tt

path_by_leaves : (dotted' named : Bool) (at : ℕ) (limit : Option Told) (dot name : Token) (tokens : List Token) (more : LookAhead (List Token)) → Leaves (length tokens) more
    → Leaves (length (dot ∷ name ∷ tokens)) (path_by dotted' named at limit dot name tokens more)
path_by_leaves true true at limit dot name tokens more l =
    leaves_made (λ path. name ∷ path) (length (dot ∷ name ∷ tokens)) more (leaves_more (length tokens) (length (dot ∷ name ∷ tokens)) more (omega arith) l)
path_by_leaves true false at limit dot name tokens more l = tt
path_by_leaves false named at limit dot name tokens more l = le_refl _

path_leaves : (at : ℕ) (limit : Option Told) (tokens : List Token) → Leaves (length tokens) (path_ahead at limit tokens)
path_leaves at limit [] = le_refl 0
path_leaves at limit (dot ∷ []) = le_refl _
path_leaves at limit (dot ∷ name ∷ tokens) =
    path_by_leaves (is_sign "." (symbol dot)) (names (symbol name)) at limit dot name tokens (path_ahead (suc (suc at)) limit tokens) (path_leaves (suc (suc at)) limit tokens)

type_by_leaves : (lead : Lead) (at : ℕ) (limit : Option Told) (tokens : List Token) (args : LookAhead TypeTrees) (first : Token) (place : Cursor) → Leaves (length tokens) args
    → Leaves (length tokens) (type_by lead (At at limit tokens) args first place)
type_by_leaves (AWord word) at limit tokens args first place l = leaves_made (Word word first) (length tokens) (path_ahead at limit tokens) (path_leaves at limit tokens)
type_by_leaves AName at limit tokens args first place l =
    leaves_behind (λ found after. found_as (Named first found) (path_from after)) (length tokens) args l
    (λ found at limit rest. leaves_made (Named first found) (length rest) (path_ahead at limit rest) (path_leaves at limit rest))
type_by_leaves NoType at limit tokens args first place l = tt

args_by_leaves : (b : Bool) (list : Cursor → LookAhead TypeTrees) (at : ℕ) (limit : Option Told) (tokens : List Token)
    → ((at : ℕ) (limit : Option Told) (tokens : List Token) → Leaves (length tokens) (list (At at limit tokens))) → Leaves (length tokens) (args_by b list (At at limit tokens))
args_by_leaves true list at limit [] k = k at limit []
args_by_leaves true list at limit (t ∷ ts) k = leaves_more (length ts) (length (t ∷ ts)) (list (At (suc at) limit ts)) (omega arith) (k (suc at) limit ts)
args_by_leaves false list at limit tokens k = le_refl _

list_by_leaves : (comma closes : Bool) (more : Cursor → LookAhead TypeTrees) (type : TypeTree) (at : ℕ) (limit : Option Told) (tokens : List Token) (place : Cursor)
    → ((at : ℕ) (limit : Option Told) (tokens : List Token) → Leaves (length tokens) (more (At at limit tokens))) → Leaves (length tokens) (list_by comma closes more type (At at limit tokens) place)
list_by_leaves true closes more type at limit tokens place k = leaves_made (MoreTypes type) (length tokens) (more (At at limit tokens)) (k at limit tokens)
list_by_leaves false true more type at limit tokens place k = le_refl _
list_by_leaves false false more type at limit tokens place k = tt

list_behind_leaves : (more : Cursor → LookAhead TypeTrees) (type : TypeTree) (at : ℕ) (limit : Option Told) (tokens : List Token)
    → ((at : ℕ) (limit : Option Told) (tokens : List Token) → Leaves (length tokens) (more (At at limit tokens))) → Leaves (length tokens) (list_behind more type (At at limit tokens))
list_behind_leaves more type at limit [] k = tt
list_behind_leaves more type at limit (mark ∷ tokens) k =
    let look = list_by (is_sign "," (symbol mark)) (is_sign ">" (symbol mark)) more type (At (suc at) limit tokens) (At at limit (mark ∷ tokens)) in
    leaves_more (length tokens) (length (mark ∷ tokens)) look (omega arith)
    (list_by_leaves (is_sign "," (symbol mark)) (is_sign ">" (symbol mark)) more type (suc at) limit tokens (At at limit (mark ∷ tokens)) k)

mutual
  type_leaves : (turns types at : ℕ) (limit : Option Told) (tokens : List Token) → Leaves (length tokens) (type_ahead turns types (At at limit tokens))
  type_leaves zero types at limit tokens = tt
  type_leaves (suc turns) types at limit [] = tt
  type_leaves (suc turns) types at limit (first ∷ tokens) =
      let limit' = noted limit (opens (suc types)) at first in
      let look = type_by (lead_of (symbol first)) (At (suc at) limit' tokens) (args_at (list_ahead turns (suc types)) (At (suc at) limit' tokens)) first (At at limit (first ∷ tokens)) in
      leaves_more (length tokens) (length (first ∷ tokens)) look (omega arith)
      (type_by_leaves (lead_of (symbol first)) (suc at) limit' tokens (args_at (list_ahead turns (suc types)) (At (suc at) limit' tokens)) first (At at limit (first ∷ tokens))
      (args_by_leaves (begins_with "<" tokens) (list_ahead turns (suc types)) (suc at) limit' tokens (λ at limit tokens. list_leaves turns (suc types) at limit tokens)))

  list_leaves : (turns types at : ℕ) (limit : Option Told) (tokens : List Token) → Leaves (length tokens) (list_ahead turns types (At at limit tokens))
  list_leaves zero types at limit tokens = tt
  list_leaves (suc turns) types at limit tokens =
      leaves_behind (λ type behind. list_behind (list_ahead turns types) type behind) (length tokens) (type_ahead turns types (At at limit tokens)) (type_leaves turns types at limit tokens)
      (λ type at limit rest. list_behind_leaves (list_ahead turns types) type at limit rest (λ at limit tokens. list_leaves turns types at limit tokens))

-- lists that are the same where fewer tokens are left
abbrev SameList : (Cursor → LookAhead TypeTrees) → (Cursor → LookAhead TypeTrees) → ℕ → Type 0
SameList list other many = (at : ℕ) (limit : Option Told) (tokens : List Token) → length tokens < many → list (At at limit tokens) ≡ other (At at limit tokens)

args_same : (list other : Cursor → LookAhead TypeTrees) (at : ℕ) (limit : Option Told) (tokens : List Token) → SameList list other (length tokens)
    → args_at list (At at limit tokens) ≡ args_at other (At at limit tokens)
args_same list other at limit [] h = refl
args_same list other at limit (t ∷ ts) h = by (begins_with "<" (t ∷ ts))
  where
    by : (b : Bool) → args_by b list (At at limit (t ∷ ts)) ≡ args_by b other (At at limit (t ∷ ts))
    by true = h (suc at) limit ts (omega arith)
    by false = refl

list_by_same : (comma closes : Bool) (more other : Cursor → LookAhead TypeTrees) (type : TypeTree) (place behind : Cursor) → more place ≡ other place
    → list_by comma closes more type place behind ≡ list_by comma closes other type place behind
list_by_same true closes more other type place behind h = ap (found_as (MoreTypes type)) h
list_by_same false true more other type place behind h = refl
list_by_same false false more other type place behind h = refl

behind_same : (more other : Cursor → LookAhead TypeTrees) (many : ℕ) → SameList more other many → (look : LookAhead TypeTree) → Leaves many look
    → found_then (λ type behind. list_behind more type behind) look ≡ found_then (λ type behind. list_behind other type behind) look
behind_same more other many h (Found type (At at limit [])) l = refl
behind_same more other many h (Found type (At at limit (mark ∷ rest))) l =
    list_by_same (is_sign "," (symbol mark)) (is_sign ">" (symbol mark)) more other type (At (suc at) limit rest) (At at limit (mark ∷ rest)) (h (suc at) limit rest (omega (arith, l)))
behind_same more other many h (Missing place) l = refl

mutual
  pub type_turns : (turns types at : ℕ) (limit : Option Told) (tokens : List Token) → length tokens ≤ turns → type_ahead turns types (At at limit tokens) ≡ type_ahead (suc turns) types (At at limit tokens)
  type_turns zero types at limit [] h = refl
  type_turns zero types at limit (t ∷ ts) h = absurd (omega (arith, h))
  type_turns (suc turns) types at limit [] h = refl
  type_turns (suc turns) types at limit (first ∷ tokens) h =
      let behind = advance (opens (suc types)) (At at limit (first ∷ tokens)) in
      ap (λ args. type_by (lead_of (symbol first)) behind args first (At at limit (first ∷ tokens)))
      (args_same (list_ahead turns (suc types)) (list_ahead (suc turns) (suc types)) (suc at) (noted limit (opens (suc types)) at first) tokens
      (λ at limit ts k. list_turns turns (suc types) at limit ts (omega (arith, h, k))))

  list_turns : (turns types at : ℕ) (limit : Option Told) (tokens : List Token) → length tokens < turns → list_ahead turns types (At at limit tokens) ≡ list_ahead (suc turns) types (At at limit tokens)
  list_turns zero types at limit tokens h = absurd (omega (arith, h))
  list_turns (suc turns) types at limit tokens h =
      behind_same (list_ahead turns types) (list_ahead (suc turns) types) (length tokens)
      (λ at limit ts k. list_turns turns types at limit ts (omega (arith, h, k)))
      (type_ahead turns types (At at limit tokens)) (type_leaves turns types at limit tokens)
      ∙ ap (found_then (λ type behind. list_behind (list_ahead (suc turns) types) type behind)) (type_turns turns types at limit tokens (omega (arith, h)))
