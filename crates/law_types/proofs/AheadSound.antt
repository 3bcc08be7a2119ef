-- What is found as type arguments is type arguments.
use Rattle.std.proofs.Common.{◌≡◌, inl, inr, ℕ, zero, suc, Bool, true, false, List, [], ◌∷◌, length, refl, sym, ap, ◌∙◌, codes, arith}
use Rattle.std.specs.Prelude.{Option}
use Rattle.std.specs.Str.{bytes_eq}
use Rattle.std.proofs.lemmas.Bool.{false≢true}
use Rattle.std.proofs.lemmas.Slice.Eq.{bytes_eq-Decides}
use Rattle.def_token.specs.Lexical.{Token}
use Rattle.def_tree.specs.Expressions.{LeadsOn, TakesTypeArgs, TakesNone}
use Rattle.def_tree.specs.Limits.{opens, args_entries}
use Rattle.def_tree.specs.Statements.{begins_with}
use Rattle.def_tree.specs.Symbol.{Symbol, Name, Number, Text, End, Sign, symbol, is_sign, Is, IsName}
use Rattle.def_tree.specs.Types.{IsPath, ended, dotted, IsType, of_word, of_name, of_generic, IsTypeArgs, type_args, last_type, more_types}
use Rattle.def_tree.specs.TypeTree.{TypeWord, word_text, TypeTree, Word, Named, TypeTrees, NoTypes, MoreTypes, type_words}
use Rattle.law_tree.proofs.Led.{led}
use Rattle.law_tree.proofs.Symbols.{is_sign-true}
use Rattle.law_tree.proofs.TypeEnds.{IsClosedList}
use Rattle.def_reading.specs.Cursor.{Told, Cursor, At, noted}
use Rattle.def_reading.specs.TypeAhead.{LookAhead, Found, Missing, found_then, found_as, names, path_by, path_ahead, path_from, type_by, list_by, list_behind, args_by, args_at, type_ahead, list_ahead, leads_on, if_led, led_by, taken_ahead}
use Rattle.def_reading.specs.TypeReading.{Lead, AWord, AName, NoType, lead_by, lead_among, lead_of}
use Rattle.law_types.proofs.AheadComplete.{Finds, list_found, args_closed}

-- what is found stands at the front of the tokens
abbrev pub SoundLook : {A : Type 0} → (List Token → A → List Token → Type 0) → List Token → LookAhead A → Type 0
SoundLook Whole tokens (Found a (At at limit rest)) = Whole tokens a rest
SoundLook Whole tokens (Missing place) = Unit {0}

pub names-true : (s : Symbol) → names s ≡ true → s ≡ Name
names-true Name h = refl
names-true (Number wide) h = absurd (false≢true h)
names-true Text h = absurd (false≢true h)
names-true End h = absurd (false≢true h)
names-true (Sign text) h = absurd (false≢true h)

path_by_sound : (dotted' named : Bool) (at : ℕ) (limit : Option Told) (dot name : Token) (tokens : List Token) (more : LookAhead (List Token))
    → is_sign "." (symbol dot) ≡ dotted' → names (symbol name) ≡ named → SoundLook IsPath tokens more
    → SoundLook IsPath (dot ∷ name ∷ tokens) (path_by dotted' named at limit dot name tokens more)
path_by_sound true true at limit dot name tokens (Found path (At at' limit' rest)) d n p =
    dotted (is_sign-true "." (symbol dot) d) (names-true (symbol name) n) p
path_by_sound true true at limit dot name tokens (Missing place) d n p = tt
path_by_sound true false at limit dot name tokens more d n p = tt
path_by_sound false named at limit dot name tokens more d n p = ended

path_sound : (at : ℕ) (limit : Option Told) (tokens : List Token) → SoundLook IsPath tokens (path_ahead at limit tokens)
path_sound at limit [] = ended
path_sound at limit (dot ∷ []) = ended
path_sound at limit (dot ∷ name ∷ tokens) =
    path_by_sound (is_sign "." (symbol dot)) (names (symbol name)) at limit dot name tokens _ refl refl (path_sound (suc (suc at)) limit tokens)

-- what begins a type
lead_by_word : (b : Bool) (this word : TypeWord) (other : Lead) (text : List ℕ) → bytes_eq text (codes (word_text this)) ≡ b
    → (other ≡ AWord word → text ≡ codes (word_text word)) → lead_by b this other ≡ AWord word → text ≡ codes (word_text word)
lead_by_word true first word other text is more h =
    let one : first ≡ word = cc in (bytes_eq-Decides text (codes (word_text first))).0 is ∙ ap (λ w. codes (word_text w)) one
lead_by_word false first word other text is more h = more h

lead_by_name : (b : Bool) (this : TypeWord) (other : Lead) → (other ≡ AName → ⊥) → lead_by b this other ≡ AName → ⊥
lead_by_name true first other more h = cc
lead_by_name false first other more h = more h

among_word : (words : List TypeWord) (text : List ℕ) (word : TypeWord) → lead_among words text ≡ AWord word → text ≡ codes (word_text word)
among_word [] text word h = absurd (cc)
among_word (this ∷ words) text word h =
    lead_by_word (bytes_eq text (codes (word_text this))) this word (lead_among words text) text refl (among_word words text word) h

among_name : (words : List TypeWord) (text : List ℕ) → lead_among words text ≡ AName → ⊥
among_name [] text h = cc
among_name (this ∷ words) text h = lead_by_name (bytes_eq text (codes (word_text this))) this (lead_among words text) (among_name words text) h

pub lead_word : (s : Symbol) (word : TypeWord) → lead_of s ≡ AWord word → s ≡ Sign (codes (word_text word))
lead_word Name word h = absurd (cc)
lead_word (Number wide) word h = absurd (cc)
lead_word Text word h = absurd (cc)
lead_word End word h = absurd (cc)
lead_word (Sign text) word h = ap Sign (among_word type_words text word h)

pub lead_name : (s : Symbol) → lead_of s ≡ AName → s ≡ Name
lead_name Name h = refl
lead_name (Number wide) h = absurd (cc)
lead_name Text h = absurd (cc)
lead_name End h = absurd (cc)
lead_name (Sign text) h = absurd (among_name type_words text h)

-- type arguments, or none
data IsMaybeArgs : List Token → TypeTrees → List Token → Type 0 where
  without : {tokens : List Token} → IsMaybeArgs tokens NoTypes tokens
  with_args : {tokens rest : List Token} {args : TypeTrees} → IsTypeArgs tokens args rest → IsMaybeArgs tokens args rest

named_sound : {tokens behind rest path : List Token} {args : TypeTrees} (first : Token) → IsName first → IsMaybeArgs tokens args behind → IsPath behind path rest → IsType (first ∷ tokens) (Named first args path) rest
named_sound first h without p = of_name h p
named_sound first h (with_args a) p = of_generic h a p

word_sound : (word : TypeWord) (first : Token) (tokens : List Token) (look : LookAhead (List Token)) → Is (word_text word) first → SoundLook IsPath tokens look
    → SoundLook IsType (first ∷ tokens) (found_as (Word word first) look)
word_sound word first tokens (Found path (At at limit rest)) h p = of_word h p
word_sound word first tokens (Missing place) h p = tt

path_behind_sound : (first : Token) (args : TypeTrees) (tokens behind : List Token) (look : LookAhead (List Token)) → IsName first → IsMaybeArgs tokens args behind → SoundLook IsPath behind look
    → SoundLook IsType (first ∷ tokens) (found_as (Named first args) look)
path_behind_sound first args tokens behind (Found path (At at limit rest)) h a p = named_sound first h a p
path_behind_sound first args tokens behind (Missing place) h a p = tt

name_sound : (first : Token) (tokens : List Token) (args : LookAhead TypeTrees) → IsName first → SoundLook IsMaybeArgs tokens args
    → SoundLook IsType (first ∷ tokens) (found_then (λ found after. found_as (Named first found) (path_from after)) args)
name_sound first tokens (Found args (At at limit rest)) h a = path_behind_sound first args tokens rest (path_ahead at limit rest) h a (path_sound at limit rest)
name_sound first tokens (Missing place) h a = tt

type_by_sound : (lead : Lead) (at : ℕ) (limit : Option Told) (args : LookAhead TypeTrees) (first : Token) (tokens : List Token) (place : Cursor) → lead_of (symbol first) ≡ lead
    → SoundLook IsMaybeArgs tokens args → SoundLook IsType (first ∷ tokens) (type_by lead (At at limit tokens) args first place)
type_by_sound (AWord word) at limit args first tokens place is a = word_sound word first tokens (path_ahead at limit tokens) (lead_word (symbol first) word is) (path_sound at limit tokens)
type_by_sound AName at limit args first tokens place is a = name_sound first tokens args (lead_name (symbol first) is) a
type_by_sound NoType at limit args first tokens place is a = tt

closed_args : (look : LookAhead TypeTrees) (opening : Token) (tokens : List Token) → Is "<" opening → SoundLook IsClosedList tokens look → SoundLook IsMaybeArgs (opening ∷ tokens) look
closed_args (Found args (At at limit rest)) opening tokens h l = with_args (type_args h l.list l.closes)
closed_args (Missing place) opening tokens h l = tt

args_by_sound : (b : Bool) (list : Cursor → LookAhead TypeTrees) (at : ℕ) (limit : Option Told) (opening : Token) (tokens : List Token) → is_sign "<" (symbol opening) ≡ b
    → ((at : ℕ) (limit : Option Told) (tokens : List Token) → SoundLook IsClosedList tokens (list (At at limit tokens)))
    → SoundLook IsMaybeArgs (opening ∷ tokens) (args_by b list (At at limit (opening ∷ tokens)))
args_by_sound true list at limit opening tokens is sound = closed_args (list (At (suc at) limit tokens)) opening tokens (is_sign-true "<" (symbol opening) is) (sound (suc at) limit tokens)
args_by_sound false list at limit opening tokens is sound = without

args_sound : (list : Cursor → LookAhead TypeTrees) (at : ℕ) (limit : Option Told) (tokens : List Token)
    → ((at : ℕ) (limit : Option Told) (tokens : List Token) → SoundLook IsClosedList tokens (list (At at limit tokens)))
    → SoundLook IsMaybeArgs tokens (args_at list (At at limit tokens))
args_sound list at limit [] sound = without
args_sound list at limit (opening ∷ tokens) sound = args_by_sound (is_sign "<" (symbol opening)) list at limit opening tokens refl sound

more_list : (look : LookAhead TypeTrees) (type : TypeTree) (mark : Token) (tokens behind : List Token) → IsType tokens type (mark ∷ behind) → Is "," mark → SoundLook IsClosedList behind look
    → SoundLook IsClosedList tokens (found_as (MoreTypes type) look)
more_list (Found args (At at limit rest)) type mark tokens behind t h l = record { closing = l.closing; list = more_types t h l.list; closes = l.closes }
more_list (Missing place) type mark tokens behind t h l = tt

list_by_sound : (comma closes : Bool) (more : Cursor → LookAhead TypeTrees) (type : TypeTree) (at : ℕ) (limit : Option Told) (mark : Token) (tokens behind : List Token) (place : Cursor)
    → is_sign "," (symbol mark) ≡ comma → is_sign ">" (symbol mark) ≡ closes → IsType tokens type (mark ∷ behind)
    → ((at : ℕ) (limit : Option Told) (tokens : List Token) → SoundLook IsClosedList tokens (more (At at limit tokens)))
    → SoundLook IsClosedList tokens (list_by comma closes more type (At at limit behind) place)
list_by_sound true closes more type at limit mark tokens behind place c g t sound =
    more_list (more (At at limit behind)) type mark tokens behind t (is_sign-true "," (symbol mark) c) (sound at limit behind)
list_by_sound false true more type at limit mark tokens behind place c g t sound = record { closing = mark; list = last_type t; closes = is_sign-true ">" (symbol mark) g }
list_by_sound false false more type at limit mark tokens behind place c g t sound = tt

behind_sound : (look : LookAhead TypeTree) (more : Cursor → LookAhead TypeTrees) (tokens : List Token) → SoundLook IsType tokens look
    → ((at : ℕ) (limit : Option Told) (tokens : List Token) → SoundLook IsClosedList tokens (more (At at limit tokens)))
    → SoundLook IsClosedList tokens (found_then (λ type behind. list_behind more type behind) look)
behind_sound (Found type (At at limit [])) more tokens t sound = tt
behind_sound (Found type (At at limit (mark ∷ behind))) more tokens t sound =
    list_by_sound (is_sign "," (symbol mark)) (is_sign ">" (symbol mark)) more type (suc at) limit mark tokens behind _ refl refl t sound
behind_sound (Missing place) more tokens t sound = tt

mutual
  pub type_sound : (turns types at : ℕ) (limit : Option Told) (tokens : List Token) → SoundLook IsType tokens (type_ahead turns types (At at limit tokens))
  type_sound zero types at limit tokens = tt
  type_sound (suc turns) types at limit [] = tt
  type_sound (suc turns) types at limit (first ∷ tokens) =
      type_by_sound (lead_of (symbol first)) (suc at) (noted limit (opens (suc types)) at first) _ first tokens _ refl
      (args_sound (list_ahead turns (suc types)) (suc at) (noted limit (opens (suc types)) at first) tokens (λ at limit tokens. list_sound turns (suc types) at limit tokens))

  pub list_sound : (turns types at : ℕ) (limit : Option Told) (tokens : List Token) → SoundLook IsClosedList tokens (list_ahead turns types (At at limit tokens))
  list_sound zero types at limit tokens = tt
  list_sound (suc turns) types at limit tokens =
      behind_sound (type_ahead turns types (At at limit tokens)) (list_ahead turns types) tokens (type_sound turns types at limit tokens)
      (λ at limit tokens. list_sound turns types at limit tokens)

-- type arguments that a name takes
leads_is : (next : Token) (tokens : List Token) → LeadsOn next → leads_on (next ∷ tokens) ≡ true
leads_is next tokens (inl h) = rw h refl
leads_is next tokens (inr (inl h)) = rw h refl
leads_is next tokens (inr (inr h)) = rw h refl

args_are : {tokens after rest : List Token} {args : TypeTrees} → IsTypeArgs tokens args after → after ≡ rest → (types at : ℕ) (limit : Option Told) → leads_on rest ≡ true
    → Finds (taken_ahead types at limit tokens) args (args_entries types args) (At at limit tokens) rest
args_are {rest = rest} (type_args {opening = opening} {closing = closing} {tokens = tokens} {args = args} h l c) is types at limit leads =
    let list = list_found l closing rest (ap (λ ts. closing ∷ ts) is) c (suc (suc (length tokens))) types (suc at) limit (omega arith) in
    record {
      at = list.at;
      limit = list.limit;
      found = ap (found_then if_led) list.found ∙ ap (λ b. led_by b args (At list.at list.limit rest)) leads;
      passes = rw (args_closed types l) list.passes;
    }

-- where a name takes type arguments, they are found
pub taken_found : {tokens rest : List Token} {args : TypeTrees} → TakesTypeArgs tokens args rest → (types at : ℕ) (limit : Option Told)
    → Finds (taken_ahead types at limit tokens) args (args_entries types args) (At at limit tokens) rest
taken_found {tokens = tokens} {rest = rest} {args = args} t types at limit =
    args_are t.arguments refl types at limit (rw t.rest_is (leads_is t.next t.behind t.leads))

if_led_sound : (b : Bool) (args : TypeTrees) (at : ℕ) (limit : Option Told) (opening : Token) (tokens rest : List Token) → Is "<" opening → leads_on rest ≡ b → IsClosedList tokens args rest
    → SoundLook TakesTypeArgs (opening ∷ tokens) (led_by b args (At at limit rest))
if_led_sound true args at limit opening tokens rest h leads l =
    let found = led rest leads in
    record { next = found.next; behind = found.others; rest_is = found.are; arguments = type_args h l.list l.closes; leads = found.leads }
if_led_sound false args at limit opening tokens rest h leads l = tt

taken_list_sound : (look : LookAhead TypeTrees) (opening : Token) (tokens : List Token) → Is "<" opening → SoundLook IsClosedList tokens look → SoundLook TakesTypeArgs (opening ∷ tokens) (found_then if_led look)
taken_list_sound (Found args (At at limit rest)) opening tokens h l = if_led_sound (leads_on rest) args at limit opening tokens rest h refl l
taken_list_sound (Missing place) opening tokens h l = tt

-- what is found is taken
pub taken_sound : (types at : ℕ) (limit : Option Told) (opening : Token) (tokens : List Token) → Is "<" opening → SoundLook TakesTypeArgs (opening ∷ tokens) (taken_ahead types at limit (opening ∷ tokens))
taken_sound types at limit opening tokens h =
    taken_list_sound (list_ahead (suc (length (opening ∷ tokens))) types (At (suc at) limit tokens)) opening tokens h (list_sound (suc (length (opening ∷ tokens))) types (suc at) limit tokens)

missing_is : (look : LookAhead TypeTrees) (tokens rest : List Token) (args : TypeTrees) (at : ℕ) (limit : Option Told) → look ≡ Found args (At at limit rest) → (place : Cursor) → look ≡ Missing place → ⊥
missing_is look tokens rest args at limit h place k = cc

-- what is missing is not taken
pub taken_missing : (types at : ℕ) (limit : Option Told) (tokens : List Token) (place : Cursor) → taken_ahead types at limit tokens ≡ Missing place → TakesNone tokens
taken_missing types at limit tokens place h args rest t =
    let f = taken_found t types at limit in
    missing_is (taken_ahead types at limit tokens) tokens rest args f.at f.limit f.found place h

-- a look that finds nothing
pub record IsMissing (look : LookAhead TypeTrees) : Type 0 where
  pub at : ℕ
  pub limit : Option Told
  pub rest : List Token
  pub is : look ≡ Missing (At at limit rest)

is_missing : (look : LookAhead TypeTrees) (tokens : List Token) → SoundLook TakesTypeArgs tokens look → TakesNone tokens → IsMissing look
is_missing (Found args (At at limit rest)) tokens sound none = absurd (none args rest sound)
is_missing (Missing (At at limit rest)) tokens sound none = record { at = at; limit = limit; rest = rest; is = refl }

-- where none are taken, the look finds nothing
pub none_missing : (types at : ℕ) (limit : Option Told) (opening : Token) (tokens : List Token) → Is "<" opening → TakesNone (opening ∷ tokens) → IsMissing (taken_ahead types at limit (opening ∷ tokens))
none_missing types at limit opening tokens h none =
    is_missing (taken_ahead types at limit (opening ∷ tokens)) (opening ∷ tokens) (taken_sound types at limit opening tokens h) none

-- nothing is taken where no `<` stands
pub none_without : (tokens : List Token) → begins_with "<" tokens ≡ false → TakesNone tokens
none_without tokens h args rest t = none_by t.arguments h
  where
    none_by : {tokens rest : List Token} {args : TypeTrees} → IsTypeArgs tokens args rest → begins_with "<" tokens ≡ false → ⊥
    none_by (type_args o l c) h = false≢true (sym h ∙ rw o refl)
