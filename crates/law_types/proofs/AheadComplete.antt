-- Where type arguments stand, they are found.
use Rattle.std.proofs.Common.{◌≡◌, ℕ, zero, suc, ◌≤◌, false, List, [], ◌∷◌, ◌++◌, length, refl, ap, subst, ◌∙◌, codes, arith}
use Rattle.std.specs.Prelude.{Option}
use Rattle.def_token.specs.Lexical.{Token}
use Rattle.def_tree.specs.Limits.{Entry, plain, opens, path_entries, type_entries, args_entries, more_types_entries}
use Rattle.def_tree.specs.Part.{type_goes_on}
use Rattle.def_tree.specs.Statements.{begins_with}
use Rattle.def_tree.specs.Symbol.{Sign, Is}
use Rattle.def_tree.specs.Types.{IsPath, ended, dotted, IsType, of_word, of_name, of_generic, IsTypeArgs, type_args, IsTypeList, last_type, more_types}
use Rattle.def_tree.specs.TypeTree.{TypeWord, word_text, TypeTree, Word, Named, TypeTrees, NoTypes, MoreTypes}
use Rattle.law_tree.proofs.Covered.{type_covered}
use Rattle.law_tree.proofs.TypeEnds.{no_args, no_dot, ends_closing, ends_comma}
use Rattle.def_reading.specs.Cursor.{Told, Cursor, At, advance, passed, noted}
use Rattle.def_reading.specs.TypeAhead.{LookAhead, Found, found_then, found_as, path_ahead, path_from, list_behind, args_at, type_ahead, list_ahead}
use Rattle.def_reading.specs.TypeReading.{AWord, lead_of}
use Rattle.law_tree.proofs.Words.{every_word}

pub passed-append : (front behind : List Entry) (place : Cursor) → passed (front ++ behind) place ≡ passed behind (passed front place)
passed-append [] behind place = refl
passed-append (entry ∷ front) behind place = passed-append front behind (advance entry place)

-- what is found, and where
pub record Finds {A : Type 0} (look : LookAhead A) (a : A) (entries : List Entry) (place : Cursor) (rest : List Token) : Type 0 where
  pub at : ℕ
  pub limit : Option Told
  pub found : look ≡ Found a (At at limit rest)
  pub passes : passed entries place ≡ At at limit rest

path_ends : (at : ℕ) (limit : Option Told) (rest : List Token) → begins_with "." rest ≡ false → path_ahead at limit rest ≡ Found [] (At at limit rest)
path_ends at limit [] h = refl
path_ends at limit (dot ∷ []) h = refl
path_ends at limit (dot ∷ name ∷ tokens) h = rw h refl

path_found : {tokens path rest : List Token} → IsPath tokens path rest → begins_with "." rest ≡ false → (at : ℕ) (limit : Option Told)
    → Finds (path_ahead at limit tokens) path (path_entries path) (At at limit tokens) rest
path_found (ended {rest = rest}) e at limit = record { at = at; limit = limit; found = path_ends at limit rest e; passes = refl }
path_found (dotted {dot = dot} {name = name} {tokens = tokens} {path = path} {rest = rest} d n p) e at limit =
    let more = path_found p e (suc (suc at)) limit in
    record { at = more.at; limit = more.limit; found = rw (d, n) (ap (found_as (λ path. name ∷ path)) more.found); passes = more.passes }

pub word_lead : (word : TypeWord) → lead_of (Sign (codes (word_text word))) ≡ AWord word
word_lead = every_word (λ word. lead_of (Sign (codes (word_text word))) ≡ AWord word) (refl, (refl, (refl, (refl, (refl, (refl, (refl, (refl, tt))))))))

-- the entries of types up to `>`
abbrev pub closed_entries : ℕ → TypeTrees → List Entry
closed_entries types NoTypes = []
closed_entries types (MoreTypes type more) = type_entries types type ++ more_types_entries types more

pub more_closed : (types : ℕ) {tokens rest : List Token} {trees : TypeTrees} → IsTypeList tokens trees rest → more_types_entries types trees ≡ plain ∷ closed_entries types trees
more_closed types (last_type t) = refl
more_closed types (more_types t c l) = refl

pub args_closed : (types : ℕ) {tokens rest : List Token} {trees : TypeTrees} → IsTypeList tokens trees rest → args_entries types trees ≡ plain ∷ closed_entries types trees
args_closed types (last_type t) = refl
args_closed types (more_types t c l) = refl

mutual
  pub type_found : {tokens rest : List Token} {type : TypeTree} → IsType tokens type rest → type_goes_on type rest ≡ false
      → (turns types at : ℕ) (limit : Option Told) → length tokens ≤ turns
      → Finds (type_ahead turns types (At at limit tokens)) type (type_entries types type) (At at limit tokens) rest
  type_found (of_word {word = word} {first = first} {tokens = tokens} {path = path} {rest = rest} h p) e zero types at limit few = absurd (omega (arith, few))
  type_found (of_word {word = word} {first = first} {tokens = tokens} {path = path} {rest = rest} h p) e (suc turns) types at limit few =
      let more = path_found p (no_dot (Word word first path) rest e) (suc at) (noted limit (opens (suc types)) at first) in
      record { at = more.at; limit = more.limit; found = rw (h, word_lead word) (ap (found_as (Word word first)) more.found); passes = more.passes }
  type_found (of_name {first = first} {tokens = tokens} {path = path} {rest = rest} h p) e zero types at limit few = absurd (omega (arith, few))
  type_found (of_name {first = first} {tokens = tokens} {path = path} {rest = rest} h p) e (suc turns) types at limit few =
      let more = path_found p (no_dot (Named first NoTypes path) rest e) (suc at) (noted limit (opens (suc types)) at first) in
      record { at = more.at; limit = more.limit; found = rw (h, no_args first p e) (ap (found_as (Named first NoTypes)) more.found); passes = more.passes }
  type_found (of_generic {first = first} {tokens = tokens} {behind = behind} {path = path} {rest = rest} {args = args} h a p) e zero types at limit few = absurd (omega (arith, few))
  type_found (of_generic {first = first} {tokens = tokens} {behind = behind} {path = path} {rest = rest} {args = args} h a p) e (suc turns) types at limit few =
      let inner = args_found a turns (suc types) (suc at) (noted limit (opens (suc types)) at first) (omega (arith, few)) in
      let more = path_found p (no_dot (Named first args path) rest e) inner.at inner.limit in
      record {
        at = more.at;
        limit = more.limit;
        found = rw h (ap (found_then (λ found after. found_as (Named first found) (path_from after))) inner.found ∙ ap (found_as (Named first args)) more.found);
        passes = passed-append (args_entries (suc types) args) (path_entries path) (At (suc at) (noted limit (opens (suc types)) at first) tokens)
            ∙ ap (passed (path_entries path)) inner.passes ∙ more.passes;
      }

  args_found : {tokens rest : List Token} {args : TypeTrees} → IsTypeArgs tokens args rest
      → (turns types at : ℕ) (limit : Option Told) → length tokens ≤ turns
      → Finds (args_at (list_ahead turns types) (At at limit tokens)) args (args_entries types args) (At at limit tokens) rest
  args_found (type_args {opening = opening} {closing = closing} {tokens = tokens} {rest = rest} {args = args} h l c) turns types at limit few =
      let list = list_found l closing rest refl c turns types (suc at) limit (omega (arith, few)) in
      record { at = list.at; limit = list.limit; found = rw h list.found; passes = rw (args_closed types l) list.passes }

  pub list_found : {tokens mid : List Token} {trees : TypeTrees} → IsTypeList tokens trees mid → (closing : Token) (rest : List Token) → mid ≡ closing ∷ rest → Is ">" closing
      → (turns types at : ℕ) (limit : Option Told) → suc (length tokens) ≤ turns
      → Finds (list_ahead turns types (At at limit tokens)) trees (closed_entries types trees) (At at limit tokens) rest
  list_found (last_type {tokens = tokens} {rest = mid} {type = type} t) closing rest is c zero types at limit few = absurd (omega (arith, few))
  list_found (last_type {tokens = tokens} {rest = mid} {type = type} t) closing rest is c (suc turns) types at limit few =
      let first = type_found t (ends_closing type closing mid rest is c) turns types at limit (omega (arith, few)) in
      let behind : Finds (type_ahead turns types (At at limit tokens)) type (type_entries types type) (At at limit tokens) (closing ∷ rest) =
      subst (λ ts. Finds (type_ahead turns types (At at limit tokens)) type (type_entries types type) (At at limit tokens) ts) is first in
      record {
        at = suc behind.at;
        limit = behind.limit;
        found = ap (found_then (λ type behind. list_behind (list_ahead turns types) type behind)) behind.found ∙ rw c refl;
        passes = passed-append (type_entries types type) (plain ∷ []) (At at limit tokens) ∙ ap (passed (plain ∷ [])) behind.passes;
      }
  list_found (more_types {comma = mark} {tokens = tokens} {behind = after} {rest = mid} {type = type} {types = trees} t comma l) closing rest is c zero types at limit few = absurd (omega (arith, few))
  list_found (more_types {comma = mark} {tokens = tokens} {behind = after} {rest = mid} {type = type} {types = trees} t comma l) closing rest is c (suc turns) types at limit few =
      let first = type_found t (ends_comma type mark after comma) turns types at limit (omega (arith, few)) in
      let more = list_found l closing rest is c turns types (suc first.at) first.limit (omega (arith, few, type_covered 0 t)) in
      record {
        at = more.at;
        limit = more.limit;
        found = ap (found_then (λ type behind. list_behind (list_ahead turns types) type behind)) first.found ∙ rw comma (ap (found_as (MoreTypes type)) more.found);
        passes = passed-append (type_entries types type) (more_types_entries types trees) (At at limit tokens) ∙ ap (passed (more_types_entries types trees)) first.passes
            ∙ rw (more_closed types l) more.passes;
      }
