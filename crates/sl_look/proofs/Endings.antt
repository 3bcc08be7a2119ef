-- Where looks ahead end, from where those further right end.
use Rattle.std.proofs.Common.{◌≡◌, ℕ, zero, suc, ◌+◌, ◌<◌, Bool, true, false, List, [], ◌∷◌, length, drop, refl, sym, ap, subst, ◌∙◌, arith, add-zero}
use Rattle.std.specs.Prelude.{Option}
use Rattle.std.proofs.lemmas.List.{drop-drop, length-drop}
use Rattle.def_token.specs.Lexical.{Token}
use Rattle.def_tree.specs.Limits.{plain, opens}
use Rattle.def_tree.specs.Statements.{begins_with}
use Rattle.def_tree.specs.Symbol.{symbol, is_sign}
use Rattle.def_tree.specs.TypeTree.{TypeTree, TypeWord, Word, Named, MoreTypes, NoTypes}
use Rattle.def_reading.specs.Cursor.{Told, Cursor, At, noted}
use Rattle.def_reading.specs.TypeReading.{AWord, AName, NoType, lead_of}
use Rattle.def_reading.specs.TypeAhead.{LookAhead, Found, Missing, found_then, found_as, names, path_ahead, path_from, list_behind, type_ahead, list_ahead}
use Rattle.sl_cursor.specs.Ending.{Ending, ending_of, end_in, PathEnds, TypeEnds, ListEnds}
use Rattle.sl_cursor.specs.declared.ends.End.{End}

-- an end
abbrev pub end : Bool → ℕ → End
end found many = record { found = found; many = many }

pub same : {A B : Type 0} (make : A → B) (look : LookAhead A) → ending_of (found_as make look) ≡ ending_of look
same make (Found a place) = refl
same make (Missing place) = refl

-- an end at once
pub at_once : (found : Bool) (at : ℕ) (tokens : List Token) → (found, at, tokens) ≡ end_in (end found 0) at tokens
at_once found at tokens = ap (λ n. let e : Ending = (found, n, tokens) in e) (sym (add-zero at))

-- the path

pub path_nothing : PathEnds (end true 0) []
path_nothing at limit = at_once true at []

pub path_one : (dot : Token) → PathEnds (end true 0) (dot ∷ [])
path_one dot at limit = at_once true at (dot ∷ [])

pub path_none : (dot name : Token) (tokens : List Token) → is_sign "." (symbol dot) ≡ false → PathEnds (end true 0) (dot ∷ name ∷ tokens)
path_none dot name tokens d at limit = rw d (at_once true at (dot ∷ name ∷ tokens))

pub path_bad : (dot name : Token) (tokens : List Token) → is_sign "." (symbol dot) ≡ true → names (symbol name) ≡ false
    → PathEnds (end false 1) (dot ∷ name ∷ tokens)
path_bad dot name tokens d n at limit = rw d (rw n (ap (λ k. let e : Ending = (false, k, name ∷ tokens) in e) (omega arith)))

further : (found : Bool) (at many more : ℕ) (tokens rest : List Token) → drop more tokens ≡ rest
    → end_in (end found many) (at + more) rest ≡ end_in (end found (more + many)) at tokens
further found at many more tokens rest is =
    ap (λ k. let e : Ending = (found, k, drop many rest) in e) (omega arith)
    ∙ ap (λ ts. let e : Ending = (found, at + (more + many), ts) in e) (ap (drop many) (sym is) ∙ drop-drop many more tokens)

pub path_more : (dot name : Token) (tokens : List Token) (behind : End) → is_sign "." (symbol dot) ≡ true → names (symbol name) ≡ true
    → PathEnds behind tokens → PathEnds (end behind.found (2 + behind.many)) (dot ∷ name ∷ tokens)
path_more dot name tokens behind d n more at limit =
    rw d (rw n (same (λ path. name ∷ path) (path_ahead (suc (suc at)) limit tokens) ∙ more (suc (suc at)) limit
    ∙ ap (λ k. end_in behind k tokens) (omega arith) ∙ further behind.found at behind.many 2 (dot ∷ name ∷ tokens) tokens refl))

-- what stands behind something that is found

-- the look found something, and its place ends there
record IsFound {A : Type 0} (look : LookAhead A) (at : ℕ) (tokens : List Token) : Type 0 where
  what : A
  limit : Option Told
  is : look ≡ Found what (At at limit tokens)

was_found : {A : Type 0} (look : LookAhead A) (at : ℕ) (tokens : List Token) → ending_of look ≡ (true, at, tokens) → IsFound look at tokens
was_found (Found a (At at' limit tokens')) at tokens h =
    record {
      what = a;
      limit = limit;
      is = ap (λ n. Found a (At n limit tokens')) (ap (λ (e : Ending). e.1) h) ∙ ap (λ ts. Found a (At at limit ts)) (ap (λ (e : Ending). e.2) h);
    }
was_found (Missing (At at' limit tokens')) at tokens h = absurd (let e : false ≡ true = ap (λ (e : Ending). e.0) h in cc)

missing_then : {A B : Type 0} (next : A → Cursor → LookAhead B) (look : LookAhead A) (at : ℕ) (tokens : List Token) → ending_of look ≡ (false, at, tokens)
    → ending_of (found_then next look) ≡ (false, at, tokens)
missing_then next (Found a (At at' limit tokens')) at tokens h = absurd (let e : true ≡ false = ap (λ (e : Ending). e.0) h in cc)
missing_then next (Missing place) at tokens h = h

found_next : {A B : Type 0} (next : A → Cursor → LookAhead B) (look : LookAhead A) (at : ℕ) (tokens : List Token) (wanted : Ending) → ending_of look ≡ (true, at, tokens)
    → ((a : A) (limit : Option Told) → ending_of (next a (At at limit tokens)) ≡ wanted) → ending_of (found_then next look) ≡ wanted
found_next next look at tokens wanted h then' =
    let f = was_found look at tokens h in
    ap (λ l. ending_of (found_then next l)) f.is ∙ then' f.what f.limit

-- a type

pub type_nothing : TypeEnds (end false 0) []
type_nothing zero types at limit h = absurd (omega (arith, h))
type_nothing (suc turns) types at limit h = at_once false at []

pub type_none : (first : Token) (tokens : List Token) → lead_of (symbol first) ≡ NoType → TypeEnds (end false 0) (first ∷ tokens)
type_none first tokens l zero types at limit h = absurd (omega (arith, h))
type_none first tokens l (suc turns) types at limit h = rw l (at_once false at (first ∷ tokens))

-- the names behind the first token of a type, or behind its arguments
path_behind : {A : Type 0} (make : List Token → A) (behind : End) (tokens rest : List Token) (at more : ℕ) (limit : Option Told)
    → PathEnds behind rest → drop more tokens ≡ rest
    → ending_of (found_as make (path_from (At (at + more) limit rest))) ≡ end_in (end behind.found (more + behind.many)) at tokens
path_behind make behind tokens rest at more limit p is =
    same make (path_ahead (at + more) limit rest) ∙ p (at + more) limit ∙ further behind.found at behind.many more tokens rest is

pub type_word : (first : Token) (tokens : List Token) (word : TypeWord) (behind : End) → lead_of (symbol first) ≡ AWord word → PathEnds behind tokens
    → TypeEnds (end behind.found (1 + behind.many)) (first ∷ tokens)
type_word first tokens word behind l p zero types at limit h = absurd (omega (arith, h))
type_word first tokens word behind l p (suc turns) types at limit h =
    rw l (ap (λ n. ending_of (found_as (Word word first) (path_from (At n (noted limit (opens (suc types)) at first) tokens)))) (omega arith)
    ∙ path_behind (Word word first) behind (first ∷ tokens) tokens at 1 (noted limit (opens (suc types)) at first) p refl)

pub type_name : (first : Token) (tokens : List Token) (behind : End) → lead_of (symbol first) ≡ AName → begins_with "<" tokens ≡ false → PathEnds behind tokens
    → TypeEnds (end behind.found (1 + behind.many)) (first ∷ tokens)
type_name first tokens behind l b p zero types at limit h = absurd (omega (arith, h))
type_name first tokens behind l b p (suc turns) types at limit h =
    rw l (rw b (ap (λ n. ending_of (found_as (Named first NoTypes) (path_from (At n (noted limit (opens (suc types)) at first) tokens)))) (omega arith)
    ∙ path_behind (Named first NoTypes) behind (first ∷ tokens) tokens at 1 (noted limit (opens (suc types)) at first) p refl))

-- the list behind a name and `<` has an end
list_is : (first opening : Token) (tokens : List Token) (list : End) (turns types at : ℕ) (limit : Option Told) → length (first ∷ opening ∷ tokens) < suc turns
    → ListEnds list tokens → ending_of (list_ahead turns types (At (suc (suc at)) limit tokens)) ≡ end_in (end list.found (2 + list.many)) at (first ∷ opening ∷ tokens)
list_is first opening tokens list turns types at limit h l =
    l turns types (suc (suc at)) limit (omega (arith, h)) ∙ ap (λ n. end_in list n tokens) (omega arith)
    ∙ further list.found at list.many 2 (first ∷ opening ∷ tokens) tokens refl

pub type_without : (first opening : Token) (tokens : List Token) (many : ℕ) → lead_of (symbol first) ≡ AName → is_sign "<" (symbol opening) ≡ true
    → ListEnds (end false many) tokens → TypeEnds (end false (2 + many)) (first ∷ opening ∷ tokens)
type_without first opening tokens many l b list zero types at limit h = absurd (omega (arith, h))
type_without first opening tokens many l b list (suc turns) types at limit h =
    let inside = noted limit (opens (suc types)) at first in
    let behind = noted inside plain (suc at) opening in
    rw l (rw b (missing_then (λ args after. found_as (Named first args) (path_from after)) (list_ahead turns (suc types) (At (suc (suc at)) behind tokens)) (at + (2 + many)) (drop (2 + many) (first ∷ opening ∷ tokens))
    (list_is first opening tokens (end false many) turns (suc types) at behind h list)))

pub type_with : (first opening : Token) (tokens : List Token) (many : ℕ) (behind : End) → lead_of (symbol first) ≡ AName → is_sign "<" (symbol opening) ≡ true
    → ListEnds (end true many) tokens → PathEnds behind (drop many tokens) → TypeEnds (end behind.found (2 + many + behind.many)) (first ∷ opening ∷ tokens)
type_with first opening tokens many behind l b list p zero types at limit h = absurd (omega (arith, h))
type_with first opening tokens many behind l b list p (suc turns) types at limit h =
    let inside = noted limit (opens (suc types)) at first in
    let after = noted inside plain (suc at) opening in
    let dropped : drop (2 + many) (first ∷ opening ∷ tokens) ≡ drop many tokens = sym (drop-drop many 2 (first ∷ opening ∷ tokens)) in
    rw l (rw b (found_next (λ args place. found_as (Named first args) (path_from place)) (list_ahead turns (suc types) (At (suc (suc at)) after tokens))
    (at + (2 + many)) (drop (2 + many) (first ∷ opening ∷ tokens)) _ (list_is first opening tokens (end true many) turns (suc types) at after h list)
    (λ args limit'. path_behind (Named first args) behind (first ∷ opening ∷ tokens) (drop (2 + many) (first ∷ opening ∷ tokens)) at (2 + many) limit'
    (subst (PathEnds behind) (sym dropped) p) refl)))

-- types up to `>`

pub list_missing : (tokens : List Token) (many : ℕ) → TypeEnds (end false many) tokens → ListEnds (end false many) tokens
list_missing tokens many t zero types at limit h = absurd (omega (arith, h))
list_missing tokens many t (suc turns) types at limit h =
    missing_then (λ type behind. list_behind (list_ahead turns types) type behind) (type_ahead turns types (At at limit tokens)) (at + many) (drop many tokens)
    (t turns types at limit (omega (arith, h)))

-- a list by what stands behind its first type
list_then : (tokens rest : List Token) (many : ℕ) (wanted : ℕ → Ending) → TypeEnds (end true many) tokens → drop many tokens ≡ rest
    → ((turns types at : ℕ) (limit : Option Told) (type : TypeTree) → length tokens < turns
    → ending_of (list_behind (list_ahead turns types) type (At (at + many) limit rest)) ≡ wanted at)
    → (turns types at : ℕ) (limit : Option Told) → suc (length tokens) < turns → ending_of (list_ahead turns types (At at limit tokens)) ≡ wanted at
list_then tokens rest many wanted t is next zero types at limit h = absurd (omega (arith, h))
list_then tokens rest many wanted t is next (suc turns) types at limit h =
    found_next (λ type behind. list_behind (list_ahead turns types) type behind) (type_ahead turns types (At at limit tokens)) (at + many) rest (wanted at)
    (t turns types at limit (omega (arith, h)) ∙ ap (λ ts. let e : Ending = (true, at + many, ts) in e) is)
    (λ type limit'. next turns types at limit' type (omega (arith, h)))

pub list_nothing : (tokens : List Token) (many : ℕ) → TypeEnds (end true many) tokens → drop many tokens ≡ [] → ListEnds (end false many) tokens
list_nothing tokens many t is =
    list_then tokens [] many (λ at. end_in (end false many) at tokens) t is
    (λ turns types at limit type h. ap (λ ts. let e : Ending = (false, at + many, ts) in e) (sym is))

pub list_comma : (tokens rest : List Token) (mark : Token) (many : ℕ) (more : End) → TypeEnds (end true many) tokens → drop many tokens ≡ mark ∷ rest
    → is_sign "," (symbol mark) ≡ true → ListEnds more rest → ListEnds (end more.found (many + 1 + more.many)) tokens
list_comma tokens rest mark many more t is c l =
    list_then tokens (mark ∷ rest) many (λ at. end_in (end more.found (many + 1 + more.many)) at tokens) t is
    (λ turns types at limit type h. rw c (same (MoreTypes type) (list_ahead turns types (At (suc (at + many)) limit rest))
    ∙ l turns types (suc (at + many)) limit (let e = ap length is in omega (arith, h, e, length-drop many tokens))
    ∙ ap (λ n. end_in more n rest) (omega arith)
    ∙ further more.found at more.many (many + 1) tokens rest (sym (drop-drop 1 many tokens) ∙ ap (drop 1) is)))

pub list_closed : (tokens rest : List Token) (mark : Token) (many : ℕ) → TypeEnds (end true many) tokens → drop many tokens ≡ mark ∷ rest
    → is_sign "," (symbol mark) ≡ false → is_sign ">" (symbol mark) ≡ true → ListEnds (end true (many + 1)) tokens
list_closed tokens rest mark many t is c g =
    list_then tokens (mark ∷ rest) many (λ at. end_in (end true (many + 1)) at tokens) t is
    (λ turns types at limit type h. rw c (rw g (ap (λ n. let e : Ending = (true, n, rest) in e) (omega arith)
    ∙ ap (λ ts. let e : Ending = (true, at + (many + 1), ts) in e) (sym (sym (drop-drop 1 many tokens) ∙ ap (drop 1) is)))))

pub list_other : (tokens rest : List Token) (mark : Token) (many : ℕ) → TypeEnds (end true many) tokens → drop many tokens ≡ mark ∷ rest
    → is_sign "," (symbol mark) ≡ false → is_sign ">" (symbol mark) ≡ false → ListEnds (end false many) tokens
list_other tokens rest mark many t is c g =
    list_then tokens (mark ∷ rest) many (λ at. end_in (end false many) at tokens) t is
    (λ turns types at limit type h. rw c (rw g (ap (λ ts. let e : Ending = (false, at + many, ts) in e) (sym is))))
