-- The reader of types: what it reads, and where the ways that it notes come from.
use Rattle.std.proofs.Common.{◌≡◌, ℕ, zero, suc, Bool, true, false, List, [], ◌∷◌, ◌++◌, length, refl, sym, ap, subst, ◌∙◌}
use Rattle.std.specs.Prelude.{Option}
use Rattle.def_token.specs.Lexical.{Token}
use Rattle.def_tree.specs.Limits.{Nesting, Entry, plain, opens, path_entries, type_entries, args_entries}
use Rattle.def_tree.specs.Symbol.{End, Sign, symbol, is_sign, Is, IsName}
use Rattle.def_tree.specs.TypeTree.{Int, TypeTree, Word, Named, TypeTrees, NoTypes, MoreTypes}
use Rattle.def_tree.specs.Types.{IsPath, ended, dotted, IsType, of_word, of_name, of_generic, IsTypeArgs, type_args, IsTypeList, last_type, more_types}
use Rattle.law_tree.proofs.Symbols.{is_sign-true}
use Rattle.def_reading.specs.Cursor.{Told, Cursor, At, noted, FarthestFailure}
use Rattle.def_reading.specs.Try.{try_then, try_as, look_by, type_in}
use Rattle.def_reading.specs.TypeAhead.{LookAhead, Found, Missing, found_then, found_as, names, path_by, path_ahead, path_from, type_by, list_by, list_behind, args_by, args_at, type_ahead, list_ahead}
use Rattle.def_reading.specs.TypeReading.{Ended, Lead, AWord, AName, NoType, lead_of}
use Rattle.law_types.proofs.AheadFaults.{int_word, some_name, greater}
use Rattle.law_types.proofs.AheadSound.{names-true, lead_word, lead_name}
use Rattle.law_types.proofs.AheadComplete.{closed_entries, args_closed, more_closed}
use Rattle.law_machine.proofs.MachineGood.{Placed, placed_token}
use Rattle.law_types.proofs.Stopping.{ended_behind}
use Rattle.law_exprs.proofs.TryComes.{Noted, noted_stays, noted_later}
use Rattle.law_exprs.proofs.TryTraces.{Language, Free, Any, Scratch, Suffix, After, Traced, Traces, traced_then, traced_as, traced_by, traced_after, traced_refused, traced_end}

-- looks beside other ways
look_then : {A B : Type 0} (next : A → Cursor → LookAhead B) (start : Option FarthestFailure) (look : LookAhead A) → try_then (λ a reach place. look_by reach (next a place)) (look_by start look) ≡ look_by start (found_then next look)
look_then next start (Found a place) = refl
look_then next start (Missing place) = refl

-- a tree made of what is looked for
look_as : {A B : Type 0} (make : A → B) (start : Option FarthestFailure) (look : LookAhead A) → try_as make (look_by start look) ≡ look_by start (found_as make look)
look_as make start (Found a place) = refl
look_as make start (Missing place) = refl

-- the languages of types
abbrev Paths : Language (List Token)
Paths tokens path es rest = IsPath tokens path rest × (es ≡ path_entries path)

-- types, inside so many open types
abbrev pub Types : ℕ → Language TypeTree
Types types tokens type es rest = IsType tokens type rest × (es ≡ type_entries types type)

-- types up to `>`
record ClosedList (tokens : List Token) (trees : TypeTrees) (rest : List Token) : Type 0 where
  closing : Token
  list : IsTypeList tokens trees (closing ∷ rest)
  closes : Is ">" closing

-- types up to `>`, inside so many open types
abbrev Lists : ℕ → Language TypeTrees
Lists types tokens trees es rest = ClosedList tokens trees rest × (es ≡ closed_entries types trees)

-- type arguments, or none
data MayHaveArgs : List Token → TypeTrees → List Token → Type 0 where
  without : {tokens : List Token} → MayHaveArgs tokens NoTypes tokens
  with_args : {tokens rest : List Token} {args : TypeTrees} → IsTypeArgs tokens args rest → MayHaveArgs tokens args rest

-- type arguments, or none, inside so many open types
abbrev Arguments : ℕ → Language TypeTrees
Arguments types tokens args es rest = MayHaveArgs tokens args rest × (es ≡ args_entries types args)

-- a type that begins with a name
named_type : (first : Token) {tokens behind rest path : List Token} {args : TypeTrees} → IsName first → MayHaveArgs tokens args behind → IsPath behind path rest → IsType (first ∷ tokens) (Named first args path) rest
named_type first h without p = of_name h p
named_type first h (with_args a) p = of_generic h a p

-- trees from nothing
path_scratch : (dot : Token) → Is "." dot → Scratch (After dot plain Paths) Any Any
path_scratch dot d =
    record { tokens = some_name ∷ []; tree = some_name ∷ []; entries = plain ∷ []; whole = λ rest h. (dotted d refl ended, refl); before = λ rest h. tt }

-- a type
pub type_scratch : (types : ℕ) → Scratch (Types types) Any Any
type_scratch types =
    record { tokens = int_word ∷ []; tree = Word Int int_word []; entries = opens (suc types) ∷ []; whole = λ rest h. (of_word {word = Int} refl ended, refl); before = λ rest h. tt }

-- a type and `>`
list_scratch : (types : ℕ) → Scratch (Lists types) Any Any
list_scratch types =
    record {
      tokens = int_word ∷ greater ∷ [];
      tree = MoreTypes (Word Int int_word []) NoTypes;
      entries = opens (suc types) ∷ plain ∷ [];
      whole = λ rest h. (record { closing = greater; list = last_type (of_word {word = Int} refl ended); closes = refl }, refl);
      before = λ rest h. tt;
    }

-- `>` behind a type
closing_scratch : (types : ℕ) (type : TypeTree) → Scratch (Suffix (Types types) type (Lists types)) Any Any
closing_scratch types type =
    record {
      tokens = greater ∷ [];
      tree = MoreTypes type NoTypes;
      entries = plain ∷ [];
      whole = λ rest h tokens front p. (record { closing = greater; list = last_type p.0; closes = refl }, ap (λ es. es ++ plain ∷ []) p.1);
      before = λ rest h. tt;
    }

-- nothing behind a name with its type arguments
named_scratch : (types : ℕ) (first : Token) (args : TypeTrees) → IsName first → Scratch (Suffix (Arguments (suc types)) args (After first (opens (suc types)) (Types types))) Any Any
named_scratch types first args h =
    record {
      tokens = [];
      tree = Named first args [];
      entries = [];
      whole = λ rest _ tokens front p. (named_type first h p.0 ended, ap (λ es. opens (suc types) ∷ (es ++ [])) p.1);
      before = λ rest h. tt;
    }

-- a name is no end
name_end : (t : Token) → IsName t → symbol t ≡ End → ⊥
name_end t h e = cc

-- a sign is no end
word_end : (t : Token) (text : List ℕ) → symbol t ≡ Sign text → symbol t ≡ End → ⊥
word_end t text h e = cc

module _ (all : List Token) where
  -- what a look comes to, and where the ways that it leaves come from
  abbrev Looked : {A : Type 0} → Language A → Option FarthestFailure → ℕ → Option Told → List Token → FarthestFailure → LookAhead A → Type 0
  Looked P start at limit tokens b look = Traced all P Any Free Free start at limit tokens b (look_by start look)

  -- a tree made of what is looked for
  looked_as : {A B : Type 0} (make : A → B) (P : Language A) (Q : Language B) (start : Option FarthestFailure) (at : ℕ) (limit : Option Told) (tokens : List Token) (b : FarthestFailure) (look : LookAhead A)
      → ((tokens : List Token) (a : A) (es : List Entry) (rest : List Token) → P tokens a es rest → Q tokens (make a) es rest) → Looked P start at limit tokens b look → Looked Q start at limit tokens b (found_as make look)
  looked_as make P Q start at limit tokens b look f t = subst (Traced all Q Any Free Free start at limit tokens b) (look_as make start look) (traced_as all make P Q Any Free Free start at limit tokens b (look_by start look) f t)

  -- a look behind a token
  after_token : {A : Type 0} (Q : Language A) (t : Token) (e : Entry) (start : Option FarthestFailure) (at : ℕ) (limit : Option Told) (tokens : List Token) (b : FarthestFailure) (look : LookAhead A) → Looked (After t e Q) start (suc at) (noted limit e at t) tokens b look
      → Looked Q start at limit (t ∷ tokens) b look
  after_token Q t e start at limit tokens b look h = traced_after all Q Any Free Free Free t e (λ one other k. tt) start at limit tokens b (look_by start look) h

  -- a look that misses
  missing : {A : Type 0} (Q : Language A) (start : Option FarthestFailure) (at : ℕ) (limit : Option Told) (tokens : List Token) (b : FarthestFailure) → Placed all at limit tokens → Scratch Q Any Any → Looked Q start at limit tokens b (Missing (At at limit tokens))
  missing Q start at limit tokens b p s = traced_refused all Q Any Free Free start at limit tokens b p s (λ rest h. tt)

  -- the names behind dots
  path_by_traced : (d n : Bool) (start : Option FarthestFailure) (at : ℕ) (limit : Option Told) (dot name : Token) (tokens : List Token) (b : FarthestFailure) (more : LookAhead (List Token)) → is_sign "." (symbol dot) ≡ d → names (symbol name) ≡ n → Ended (dot ∷ name ∷ tokens)
      → Placed all at limit (dot ∷ name ∷ tokens) → (Ended tokens → Looked Paths start (suc (suc at)) limit tokens b more) → Looked Paths start at limit (dot ∷ name ∷ tokens) b (path_by d n at limit dot name tokens more)
  path_by_traced true true start at limit dot name tokens b more d n end p ih =
      let dot_is = is_sign-true "." (symbol dot) d in
      let name_is = names-true (symbol name) n in
      after_token Paths dot plain start at limit (name ∷ tokens) b (found_as (λ path. name ∷ path) more)
      (after_token (After dot plain Paths) name plain start (suc at) limit tokens b (found_as (λ path. name ∷ path) more)
      (looked_as (λ path. name ∷ path) Paths (After name plain (After dot plain Paths)) start (suc (suc at)) limit tokens b more
      (λ ts path es rest q. (dotted dot_is name_is q.0, ap (λ es. plain ∷ plain ∷ es) q.1)) (ih (ended_behind name tokens (name_end name name_is) end))))
  path_by_traced true false start at limit dot name tokens b more d n end p ih =
      after_token Paths dot plain start at limit (name ∷ tokens) b (Missing (At (suc at) limit (name ∷ tokens)))
      (missing (After dot plain Paths) start (suc at) limit (name ∷ tokens) b (placed_token all at limit plain dot (name ∷ tokens) p) (path_scratch dot (is_sign-true "." (symbol dot) d)))
  path_by_traced false n start at limit dot name tokens b more d is end p ih =
      traced_end all Paths Any Free Free [] start at limit (dot ∷ name ∷ tokens) b end (λ other h. (ended, refl)) (λ other h. tt)

  -- the names behind dots
  path_traced : (start : Option FarthestFailure) (at : ℕ) (limit : Option Told) (tokens : List Token) (b : FarthestFailure) → Ended tokens → Placed all at limit tokens → Looked Paths start at limit tokens b (path_ahead at limit tokens)
  path_traced start at limit [] b end p = absurd end
  path_traced start at limit (dot ∷ []) b end p = traced_end all Paths Any Free Free [] start at limit (dot ∷ []) b end (λ other h. (ended, refl)) (λ other h. tt)
  path_traced start at limit (dot ∷ name ∷ tokens) b end p =
      path_by_traced (is_sign "." (symbol dot)) (names (symbol name)) start at limit dot name tokens b (path_ahead (suc (suc at)) limit tokens) refl refl end p
      (λ e. path_traced start (suc (suc at)) limit tokens b e (placed_token all (suc at) limit plain name tokens (placed_token all at limit plain dot (name ∷ tokens) p)))

  -- types in so many turns
  abbrev TypesIn : ℕ → Type 0
  TypesIn turns = (types : ℕ) (start : Option FarthestFailure) (at : ℕ) (limit : Option Told) (tokens : List Token) (b : FarthestFailure) → Ended tokens → Noted at limit → Placed all at limit tokens
      → Looked (Types types) start at limit tokens b (type_ahead turns types (At at limit tokens))

  -- lists of types in so many turns
  abbrev ListsIn : ℕ → Type 0
  ListsIn turns = (types : ℕ) (start : Option FarthestFailure) (at : ℕ) (limit : Option Told) (tokens : List Token) (b : FarthestFailure) → Ended tokens → Noted at limit → Placed all at limit tokens
      → Looked (Lists types) start at limit tokens b (list_ahead turns types (At at limit tokens))

  -- type arguments behind `<`, or none
  args_by_traced : (less : Bool) (turns types : ℕ) (start : Option FarthestFailure) (at : ℕ) (limit : Option Told) (o : Token) (tokens : List Token) (b : FarthestFailure) → is_sign "<" (symbol o) ≡ less → Ended (o ∷ tokens) → Noted at limit → Placed all at limit (o ∷ tokens)
      → ListsIn turns → Looked (Arguments types) start at limit (o ∷ tokens) b (args_by less (list_ahead turns types) (At at limit (o ∷ tokens)))
  args_by_traced true turns types start at limit o tokens b is end n p lists =
      let less = is_sign-true "<" (symbol o) is in
      after_token (Arguments types) o plain start at limit tokens b (list_ahead turns types (At (suc at) limit tokens))
      (traced_by all (Lists types) (After o plain (Arguments types)) Any Free Free start (suc at) limit tokens b (look_by start (list_ahead turns types (At (suc at) limit tokens)))
      (λ ts trees es rest q. (with_args (type_args less q.0.list q.0.closes), ap (λ es. plain ∷ es) q.1 ∙ sym (args_closed types q.0.list)))
      (lists types start (suc at) limit tokens b (ended_behind o tokens (word_end o _ less) end) (noted_later limit at n) (placed_token all at limit plain o tokens p)))
  args_by_traced false turns types start at limit o tokens b is end n p lists =
      traced_end all (Arguments types) Any Free Free NoTypes start at limit (o ∷ tokens) b end (λ other h. (without, refl)) (λ other h. tt)

  -- type arguments, or none
  args_traced : (turns types : ℕ) (start : Option FarthestFailure) (at : ℕ) (limit : Option Told) (tokens : List Token) (b : FarthestFailure) → Ended tokens → Noted at limit → Placed all at limit tokens → ListsIn turns
      → Looked (Arguments types) start at limit tokens b (args_at (list_ahead turns types) (At at limit tokens))
  args_traced turns types start at limit [] b end n p lists = absurd end
  args_traced turns types start at limit (o ∷ tokens) b end n p lists = args_by_traced (is_sign "<" (symbol o)) turns types start at limit o tokens b refl end n p lists

  -- a type by what its first token begins
  type_by_traced : (lead : Lead) (turns types : ℕ) (start : Option FarthestFailure) (at : ℕ) (limit : Option Told) (first : Token) (tokens : List Token) (b : FarthestFailure) → lead_of (symbol first) ≡ lead → Ended (first ∷ tokens) → Noted at limit
      → Placed all at limit (first ∷ tokens) → ListsIn turns
      → Looked (Types types) start at limit (first ∷ tokens) b
      (type_by lead (At (suc at) (noted limit (opens (suc types)) at first) tokens) (args_at (list_ahead turns (suc types)) (At (suc at) (noted limit (opens (suc types)) at first) tokens)) first (At at limit (first ∷ tokens)))
  type_by_traced (AWord word) turns types start at limit first tokens b is end n p lists =
      let h = lead_word (symbol first) word is in
      let e = opens (suc types) in
      let limit' = noted limit e at first in
      after_token (Types types) first e start at limit tokens b (found_as (Word word first) (path_ahead (suc at) limit' tokens))
      (looked_as (Word word first) Paths (After first e (Types types)) start (suc at) limit' tokens b (path_ahead (suc at) limit' tokens) (λ ts path es rest q. (of_word {word = word} h q.0, ap (λ es. e ∷ es) q.1))
      (path_traced start (suc at) limit' tokens b (ended_behind first tokens (word_end first _ h) end) (placed_token all at limit e first tokens p)))
  type_by_traced AName turns types start at limit first tokens b is end n p lists =
      let h = lead_name (symbol first) is in
      let e = opens (suc types) in
      let limit' = noted limit e at first in
      let place = At (suc at) limit' tokens in
      let args = args_at (list_ahead turns (suc types)) place in
      let n' = noted_later limit' at (noted_stays limit e at first n) in
      let p' = placed_token all at limit e first tokens p in
      let next : TypeTrees → Cursor → LookAhead TypeTree = λ found after. found_as (Named first found) (path_from after) in
      after_token (Types types) first e start at limit tokens b (found_then next args)
      (subst (Traced all (After first e (Types types)) Any Free Free start (suc at) limit' tokens b) (look_then next start args)
      (traced_then all (Arguments (suc types)) (After first e (Types types)) Any Any Free Free Free (λ found reach after. look_by reach (next found after)) start (suc at) limit' tokens b (look_by start args) n' p'
      (λ found. named_scratch types first found h)
      (λ found at'' limit'' mid reach b end' n'' p''.
      looked_as (Named first found) Paths (Suffix (Arguments (suc types)) found (After first e (Types types))) reach at'' limit'' mid b (path_ahead at'' limit'' mid)
      (λ ts path es rest q tokens front r. (named_type first h r.0 q.0, ap (λ es'. e ∷ (es' ++ es)) r.1 ∙ ap (λ es. e ∷ (args_entries (suc types) found ++ es)) q.1))
      (path_traced reach at'' limit'' mid b end' p''))
      (args_traced turns (suc types) start (suc at) limit' tokens b (ended_behind first tokens (name_end first h) end) n' p' lists)))
  type_by_traced NoType turns types start at limit first tokens b is end n p lists = missing (Types types) start at limit (first ∷ tokens) b p (type_scratch types)

  -- what stands behind a type in a list, by its marks
  list_by_traced : (comma closes : Bool) (turns types : ℕ) (type : TypeTree) (start : Option FarthestFailure) (at : ℕ) (limit : Option Told) (mark : Token) (tokens : List Token) (b : FarthestFailure) → is_sign "," (symbol mark) ≡ comma → is_sign ">" (symbol mark) ≡ closes
      → Ended (mark ∷ tokens) → Noted at limit → Placed all at limit (mark ∷ tokens) → ListsIn turns
      → Looked (Suffix (Types types) type (Lists types)) start at limit (mark ∷ tokens) b (list_by comma closes (list_ahead turns types) type (At (suc at) limit tokens) (At at limit (mark ∷ tokens)))
  list_by_traced true closes turns types type start at limit mark tokens b is is' end n p lists =
      let h = is_sign-true "," (symbol mark) is in
      let Q = Suffix (Types types) type (Lists types) in
      let look = list_ahead turns types (At (suc at) limit tokens) in
      after_token Q mark plain start at limit tokens b (found_as (MoreTypes type) look)
      (looked_as (MoreTypes type) (Lists types) (After mark plain Q) start (suc at) limit tokens b look
      (λ ts trees es rest q tokens front r. (
        record { closing = q.0.closing; list = more_types r.0 h q.0.list; closes = q.0.closes },
        ap (λ es'. es' ++ plain ∷ es) r.1 ∙ ap (λ es. type_entries types type ++ plain ∷ es) q.1 ∙ ap (λ es. type_entries types type ++ es) (sym (more_closed types q.0.list)),
      ))
      (lists types start (suc at) limit tokens b (ended_behind mark tokens (word_end mark _ h) end) (noted_later limit at n) (placed_token all at limit plain mark tokens p)))
  list_by_traced false true turns types type start at limit mark tokens b is is' end n p lists =
      let h = is_sign-true ">" (symbol mark) is' in
      let Q = Suffix (Types types) type (Lists types) in
      after_token Q mark plain start at limit tokens b (Found (MoreTypes type NoTypes) (At (suc at) limit tokens))
      (traced_end all (After mark plain Q) Any Free Free (MoreTypes type NoTypes) start (suc at) limit tokens b (ended_behind mark tokens (word_end mark _ h) end)
      (λ other k tokens front r. (record { closing = mark; list = last_type r.0; closes = h }, ap (λ es. es ++ plain ∷ []) r.1)) (λ other k. tt))
  list_by_traced false false turns types type start at limit mark tokens b is is' end n p lists =
      missing (Suffix (Types types) type (Lists types)) start at limit (mark ∷ tokens) b p (closing_scratch types type)

  -- what stands behind a type in a list
  behind_traced : (turns types : ℕ) (type : TypeTree) (start : Option FarthestFailure) (at : ℕ) (limit : Option Told) (tokens : List Token) (b : FarthestFailure) → Ended tokens → Noted at limit → Placed all at limit tokens → ListsIn turns
      → Looked (Suffix (Types types) type (Lists types)) start at limit tokens b (list_behind (list_ahead turns types) type (At at limit tokens))
  behind_traced turns types type start at limit [] b end n p lists = absurd end
  behind_traced turns types type start at limit (mark ∷ tokens) b end n p lists =
      list_by_traced (is_sign "," (symbol mark)) (is_sign ">" (symbol mark)) turns types type start at limit mark tokens b refl refl end n p lists

  mutual
    -- a look for a type
    type_traced : (turns : ℕ) → TypesIn turns
    type_traced zero types start at limit tokens b end n p = missing (Types types) start at limit tokens b p (type_scratch types)
    type_traced (suc turns) types start at limit [] b end n p = absurd end
    type_traced (suc turns) types start at limit (first ∷ tokens) b end n p = type_by_traced (lead_of (symbol first)) turns types start at limit first tokens b refl end n p (list_traced turns)

    -- a look for types up to `>`
    list_traced : (turns : ℕ) → ListsIn turns
    list_traced zero types start at limit tokens b end n p = missing (Lists types) start at limit tokens b p (list_scratch types)
    list_traced (suc turns) types start at limit tokens b end n p =
        let next : TypeTree → Cursor → LookAhead TypeTrees = λ type behind. list_behind (list_ahead turns types) type behind in
        let look = type_ahead turns types (At at limit tokens) in
        subst (Traced all (Lists types) Any Free Free start at limit tokens b) (look_then next start look)
        (traced_then all (Types types) (Lists types) Any Any Free Free Free (λ type reach behind. look_by reach (next type behind)) start at limit tokens b (look_by start look) n p (closing_scratch types)
        (λ type at' limit' mid reach b end' n' p'. behind_traced turns types type reach at' limit' mid b end' n' p' (list_traced turns)) (type_traced turns types start at limit tokens b end n p))

-- the reader of types
pub traces_type : (all : List Token) (around : Nesting) → Traces all (Types around.types) Any Free Free (type_in around)
traces_type all around at limit tokens start b end n p = type_traced all (length tokens) around.types start at limit tokens b end n p
