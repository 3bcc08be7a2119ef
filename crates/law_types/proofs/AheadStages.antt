-- Where type arguments are missed, no type arguments go on with the token there.
use Rattle.std.proofs.Common.{◌≡◌, ℕ, zero, suc, ◌+◌, ◌<◌, ◌≤◌, Bool, true, false, List, [], ◌∷◌, ◌++◌, length, refl, sym, ap, subst, ◌∙◌, arith, append_assoc, length-append}
use Rattle.std.specs.Prelude.{Option, Some, None}
use Rattle.def_token.specs.Lexical.{Token}
use Rattle.def_tree.specs.Limits.{opens}
use Rattle.def_tree.specs.Statements.{begins_with}
use Rattle.def_tree.specs.Symbol.{End, symbol, is_sign, Is, IsName}
use Rattle.def_tree.specs.TypeTree.{TypeTree, Word, Named, TypeTrees, NoTypes, MoreTypes}
use Rattle.law_tree.proofs.Symbols.{is_sign-true}
use Rattle.def_reading.specs.Cursor.{Told, Cursor, At, noted}
use Rattle.def_reading.specs.TypeAhead.{LookAhead, Found, Missing, found_then, found_as, names, path_by, path_ahead, path_from, type_by, list_by, list_behind, args_by, args_at, type_ahead, list_ahead, leads_on, led_by}
use Rattle.def_reading.specs.TypeReading.{Ended, Lead, AWord, AName, NoType, lead_of}
use Rattle.law_types.proofs.AheadSound.{names-true, lead_name}
use Rattle.law_types.proofs.Stopping.{ended_behind}
use Rattle.law_types.proofs.TypeStages.{Stage, Head, Named', Whole, Dot, Closed, close, mark_by, mark_behind, named_by, head_by, dot_by, next, entry, drive_by, drive, Drives, append_drives, some_pair}

driven : {stage stage' : Stage} {at : ℕ} {limit limit' : Option Told} {piece : List Token} → drive stage at limit piece ≡ Some (stage', limit') → Drives stage at limit piece stage' limit'
driven h = record { is = h }

-- some of the tokens go on
pub record Alive (stage : Stage) (at : ℕ) (limit : Option Told) (ts : List Token) (stage' : Stage) (at' : ℕ) (limit' : Option Told) (rest : List Token) : Type 0 where
  pub piece : List Token
  pub are : ts ≡ piece ++ rest
  pub is_at : at' ≡ at + length piece
  pub drives : Drives stage at limit piece stage' limit'

-- no first token of these goes on
abbrev pub Dead : Stage → List Token → Type 0
Dead stage [] = Unit {0}
Dead stage (t ∷ ts) = (next stage (symbol t) ≡ None) × (stage ≡ Closed → leads_on (t ∷ ts) ≡ false)

-- the tokens go on up to one that does not
pub record Dies (stage : Stage) (at : ℕ) (limit : Option Told) (ts : List Token) (at' : ℕ) (limit' : Option Told) (rest : List Token) : Type 0 where
  pub stage' : Stage
  pub alive : Alive stage at limit ts stage' at' limit' rest
  pub dead : Dead stage' rest

none_alive : (stage : Stage) (at : ℕ) (limit : Option Told) (ts : List Token) → Alive stage at limit ts stage at limit ts
none_alive stage at limit ts = record { piece = []; are = refl; is_at = omega arith; drives = driven refl }

token_alive : {stage stage' stage'' : Stage} {at at' : ℕ} {limit limit' : Option Told} {ts rest : List Token} (t : Token) → next stage (symbol t) ≡ Some stage'
    → Alive stage' (suc at) (noted limit (entry stage) at t) ts stage'' at' limit' rest → Alive stage at limit (t ∷ ts) stage'' at' limit' rest
token_alive {stage = stage} {at = at} {limit = limit} t h p =
    record {
      piece = t ∷ p.piece;
      are = ap (λ ts. t ∷ ts) p.are;
      is_at = omega (arith, p.is_at);
      drives = driven (ap (λ o. drive_by o (λ s. drive s (suc at) (noted limit (entry stage) at t) p.piece)) h ∙ p.drives.is);
    }

more_alive : {stage stage' stage'' : Stage} {at at' at'' : ℕ} {limit limit' limit'' : Option Told} {ts mid rest : List Token}
    → Alive stage at limit ts stage' at' limit' mid → Alive stage' at' limit' mid stage'' at'' limit'' rest → Alive stage at limit ts stage'' at'' limit'' rest
more_alive {stage = stage} {stage' = stage'} {stage'' = stage''} {at = at} {limit = limit} {limit' = limit'} {limit'' = limit''} {rest = rest} p q =
    record {
      piece = p.piece ++ q.piece;
      are = p.are ∙ ap (λ ts. p.piece ++ ts) q.are ∙ sym (append_assoc p.piece q.piece rest);
      is_at = omega (arith, p.is_at, q.is_at, length-append p.piece q.piece);
      drives = append_drives stage stage' stage'' at limit limit' limit'' p.piece q.piece p.drives (subst (λ n. Drives stage' n limit' q.piece stage'' limit'') p.is_at q.drives);
    }

token_dies : {stage stage' : Stage} {at at' : ℕ} {limit limit' : Option Told} {ts rest : List Token} (t : Token) → next stage (symbol t) ≡ Some stage'
    → Dies stage' (suc at) (noted limit (entry stage) at t) ts at' limit' rest → Dies stage at limit (t ∷ ts) at' limit' rest
token_dies t h d = record { stage' = d.stage'; alive = token_alive t h d.alive; dead = d.dead }

more_dies : {stage stage' : Stage} {at at' at'' : ℕ} {limit limit' limit'' : Option Told} {ts mid rest : List Token}
    → Alive stage at limit ts stage' at' limit' mid → Dies stage' at' limit' mid at'' limit'' rest → Dies stage at limit ts at'' limit'' rest
more_dies p d = record { stage' = d.stage'; alive = more_alive p d.alive; dead = d.dead }

-- the end goes on with nothing
next_end : (stage : Stage) → next stage End ≡ None
next_end (Head types many) = refl
next_end (Named' types many) = refl
next_end (Whole types many) = refl
next_end (Dot types many) = refl
next_end Closed = refl

some_no_end : (stage stage' : Stage) (t : Token) → next stage (symbol t) ≡ Some stage' → symbol t ≡ End → ⊥
some_no_end stage stage' t h e = let none : next stage (symbol t) ≡ None = ap (next stage) e ∙ next_end stage in cc

drive_some : (o : Option Stage) (stage' : Stage) (at : ℕ) (limit limit' : Option Told) (ts : List Token) → drive_by o (λ s. drive s at limit ts) ≡ Some (stage', limit')
    → (s : Stage) × (o ≡ Some s) × (drive s at limit ts ≡ Some (stage', limit'))
drive_some None stage' at limit limit' ts h = absurd (cc)
drive_some (Some s) stage' at limit limit' ts h = (s, refl, h)

pub drive_first : (stage stage' : Stage) (at : ℕ) (limit limit' : Option Told) (t : Token) (ts : List Token) → drive stage at limit (t ∷ ts) ≡ Some (stage', limit')
    → (s : Stage) × (next stage (symbol t) ≡ Some s) × (drive s (suc at) (noted limit (entry stage) at t) ts ≡ Some (stage', limit'))
drive_first stage stage' at limit limit' t ts h = drive_some (next stage (symbol t)) stage' (suc at) (noted limit (entry stage) at t) limit' ts h

pub ended_drives : (stage stage' : Stage) (at : ℕ) (limit limit' : Option Told) (piece rest : List Token) → drive stage at limit piece ≡ Some (stage', limit') → Ended (piece ++ rest) → Ended rest
ended_drives stage stage' at limit limit' [] rest h e = e
ended_drives stage stage' at limit limit' (t ∷ piece) rest h e =
    let first = drive_first stage stage' at limit limit' t piece h in
    ended_drives first.0 stage' (suc at) (noted limit (entry stage) at t) limit' piece rest first.2 (ended_behind t (piece ++ rest) (some_no_end stage first.0 t first.1) e)

pub ended_alive : {stage stage' : Stage} {at at' : ℕ} {limit limit' : Option Told} {ts rest : List Token} → Alive stage at limit ts stage' at' limit' rest → Ended ts → Ended rest
ended_alive {stage = stage} {stage' = stage'} {at = at} {limit = limit} {limit' = limit'} {rest = rest} p e =
    ended_drives stage stage' at limit limit' p.piece rest p.drives.is (subst Ended p.are e)

-- a type does not go on with these tokens
pub data Stops : Stage → ℕ → ℕ → List Token → Type 0 where
  stops_name : {types many : ℕ} {ts : List Token} → begins_with "." ts ≡ false → begins_with "<" ts ≡ false → Stops (Named' types many) types many ts
  stops_whole : {types many : ℕ} {ts : List Token} → begins_with "." ts ≡ false → Stops (Whole types many) types many ts

pub record TypeStops (types many : ℕ) (stage : Stage) (at : ℕ) (limit : Option Told) (ts : List Token) (at' : ℕ) (limit' : Option Told) (rest : List Token) : Type 0 where
  pub stage' : Stage
  pub stops : Stops stage' types many rest
  pub alive : Alive stage at limit ts stage' at' limit' rest

-- what is found goes on, and what is missing does not
abbrev pub PathLook : ℕ → ℕ → Stage → ℕ → Option Told → List Token → {A : Type 0} → LookAhead A → Type 0
PathLook types many stage at limit ts (Found a (At at' limit' rest)) = TypeStops types many stage at limit ts at' limit' rest
PathLook types many stage at limit ts (Missing (At at' limit' rest)) = Dies stage at limit ts at' limit' rest

abbrev pub ListLook : ℕ → ℕ → ℕ → Option Told → List Token → LookAhead TypeTrees → Type 0
ListLook types many at limit ts (Found a (At at' limit' rest)) = Alive (Head types many) at limit ts (close types many) at' limit' rest
ListLook types many at limit ts (Missing (At at' limit' rest)) = Dies (Head types many) at limit ts at' limit' rest

-- the same behind a first token
token_look : {A B : Type 0} (types many at : ℕ) (limit : Option Told) (stage stage' : Stage) (ts : List Token) (f : A → B) (t : Token) (look : LookAhead A) → next stage (symbol t) ≡ Some stage'
    → PathLook types many stage' (suc at) (noted limit (entry stage) at t) ts look → PathLook types many stage at limit (t ∷ ts) (found_as f look)
token_look types many at limit stage stage' ts f t (Found a (At at' limit' rest)) h p = record { stage' = p.stage'; stops = p.stops; alive = token_alive t h p.alive }
token_look types many at limit stage stage' ts f t (Missing (At at' limit' rest)) h d = token_dies t h d

same_look : {A : Type 0} (types many at : ℕ) (limit : Option Told) (stage stage' : Stage) (ts : List Token) (t : Token) (look : LookAhead A) → next stage (symbol t) ≡ Some stage'
    → PathLook types many stage' (suc at) (noted limit (entry stage) at t) ts look → PathLook types many stage at limit (t ∷ ts) look
same_look types many at limit stage stage' ts t (Found a (At at' limit' rest)) h p = record { stage' = p.stage'; stops = p.stops; alive = token_alive t h p.alive }
same_look types many at limit stage stage' ts t (Missing (At at' limit' rest)) h d = token_dies t h d

as_named : (types many at : ℕ) (limit : Option Told) (stage : Stage) (ts : List Token) (first : Token) (look : LookAhead (List Token)) → PathLook types many stage at limit ts look
    → PathLook types many stage at limit ts (found_as (Named first NoTypes) look)
as_named types many at limit stage ts first (Found a (At at' limit' rest)) p = p
as_named types many at limit stage ts first (Missing (At at' limit' rest)) d = d

alive_look : {A B : Type 0} (types many : ℕ) {at at' : ℕ} {limit limit' : Option Told} {stage stage' : Stage} {ts mid : List Token} (f : A → B) (look : LookAhead A) → Alive stage at limit ts stage' at' limit' mid
    → PathLook types many stage' at' limit' mid look → PathLook types many stage at limit ts (found_as f look)
alive_look types many f (Found a (At at' limit' rest)) p q = record { stage' = q.stage'; stops = q.stops; alive = more_alive p q.alive }
alive_look types many f (Missing (At at' limit' rest)) p d = more_dies p d

two_look : (types many at : ℕ) (limit : Option Told) (tokens : List Token) (dot name : Token) (more : LookAhead (List Token)) → Is "." dot → IsName name
    → PathLook types many (Whole types many) (suc (suc at)) limit tokens more
    → PathLook types many (Whole types many) at limit (dot ∷ name ∷ tokens) (found_as (λ path. name ∷ path) more)
two_look types many at limit tokens dot name (Found path (At at' limit' rest)) d n p =
    record { stage' = p.stage'; stops = p.stops; alive = token_alive {stage' = Dot types many} dot (rw d refl) (token_alive {stage' = Whole types many} name (rw n refl) p.alive) }
two_look types many at limit tokens dot name (Missing (At at' limit' rest)) d n p = token_dies {stage' = Dot types many} dot (rw d refl) (token_dies {stage' = Whole types many} name (rw n refl) p)

dot_next : (types many : ℕ) (t : Token) → is_sign "." (symbol t) ≡ true → next (Whole types many) (symbol t) ≡ Some (Dot types many)
dot_next types many t h = ap (λ b. mark_by b (is_sign "," (symbol t)) (is_sign ">" (symbol t)) types many) h

path_by_look : (dotted' named : Bool) (types many at : ℕ) (limit : Option Told) (dot name : Token) (tokens : List Token) (more : LookAhead (List Token)) → is_sign "." (symbol dot) ≡ dotted' → names (symbol name) ≡ named
    → (IsName name → PathLook types many (Whole types many) (suc (suc at)) limit tokens more)
    → PathLook types many (Whole types many) at limit (dot ∷ name ∷ tokens) (path_by dotted' named at limit dot name tokens more)
path_by_look true true types many at limit dot name tokens more d n p =
    two_look types many at limit tokens dot name more (is_sign-true "." (symbol dot) d) (names-true (symbol name) n) (p (names-true (symbol name) n))
path_by_look true false types many at limit dot name tokens more d n p =
    record {
      stage' = Dot types many;
      alive = token_alive {stage' = Dot types many} dot (dot_next types many dot d) (none_alive (Dot types many) (suc at) limit (name ∷ tokens));
      dead = (ap (λ b. dot_by b types many) n, λ h. absurd (cc));
    }
path_by_look false named types many at limit dot name tokens more d n p =
    record { stage' = Whole types many; stops = stops_whole d; alive = none_alive (Whole types many) at limit (dot ∷ name ∷ tokens) }

no_name_end : (t : Token) → IsName t → symbol t ≡ End → ⊥
no_name_end t n e = cc

pub path_look : (types many at : ℕ) (limit : Option Told) (tokens : List Token) → Ended tokens → PathLook types many (Whole types many) at limit tokens (path_ahead at limit tokens)
path_look types many at limit [] e = absurd e
path_look types many at limit (dot ∷ []) e =
    record { stage' = Whole types many; stops = stops_whole (rw e refl); alive = none_alive (Whole types many) at limit (dot ∷ []) }
path_look types many at limit (dot ∷ name ∷ tokens) e =
    path_by_look (is_sign "." (symbol dot)) (names (symbol name)) types many at limit dot name tokens (path_ahead (suc (suc at)) limit tokens) refl refl
    (λ n. path_look types many (suc (suc at)) limit tokens (ended_behind name tokens (no_name_end name n) e))

-- behind a name that `<` does not follow
name_next : (types many : ℕ) (t : Token) → is_sign "<" (symbol t) ≡ false → next (Named' types many) (symbol t) ≡ next (Whole types many) (symbol t)
name_next types many t h = ap (λ b. named_by b types many (mark_behind (symbol t) types many)) h

first_is : {t u : Token} {ts us : List Token} → t ∷ ts ≡ u ∷ us → t ≡ u
first_is {t = t} {u = u} {ts = ts} {us = us} h = cc

nothing_driven : (stage stage' : Stage) (at : ℕ) (limit limit' : Option Told) → drive stage at limit [] ≡ Some (stage', limit') → (stage ≡ stage') × (limit ≡ limit')
nothing_driven stage stage' at limit limit' h = some_pair stage stage' limit limit' h

alive_name : {types many at at' : ℕ} {limit limit' : Option Told} {stage' : Stage} {ts rest : List Token} (piece : List Token) → ts ≡ piece ++ rest → at' ≡ at + length piece → begins_with "<" ts ≡ false
    → Drives (Whole types many) at limit piece stage' limit' → ((t : Token) (others : List Token) → piece ≡ t ∷ others → Alive (Named' types many) at limit ts stage' at' limit' rest)
alive_name {types = types} {many = many} {at = at} {limit = limit} (t ∷ piece) are is none d t' others same =
    record {
      piece = t ∷ piece;
      are = are;
      is_at = is;
      drives = driven (ap (λ o. drive_by o (λ s. drive s (suc at) limit piece)) (name_next types many t (sym (ap (begins_with "<") are) ∙ none)) ∙ d.is);
    }
alive_name [] are is none d t' others same = absurd (cc)

record IsThere (stage : Stage) (at : ℕ) (limit : Option Told) (ts : List Token) (stage' : Stage) (at' : ℕ) (limit' : Option Told) (rest : List Token) : Type 0 where
  stage_is : stage ≡ stage'
  at_is : at ≡ at'
  limit_is : limit ≡ limit'
  tokens_are : ts ≡ rest

there : {stage stage' : Stage} {at at' : ℕ} {limit limit' : Option Told} {ts rest : List Token} → ts ≡ rest → at' ≡ at + 0 → Drives stage at limit [] stage' limit' → IsThere stage at limit ts stage' at' limit' rest
there {stage = stage} {stage' = stage'} {at = at} {limit = limit} {limit' = limit'} are is d =
    let same = nothing_driven stage stage' at limit limit' d.is in
    record { stage_is = same.0; at_is = omega (arith, is); limit_is = same.1; tokens_are = are }

here_alive : {stage stage' : Stage} {at at' : ℕ} {limit limit' : Option Told} {ts rest : List Token} (stage0 : Stage) → IsThere stage at limit ts stage' at' limit' rest → Alive stage0 at limit ts stage0 at' limit' rest
here_alive {at = at} {at' = at'} {limit = limit} {limit' = limit'} {ts = ts} {rest = rest} stage0 h =
    record { piece = []; are = h.tokens_are; is_at = omega (arith, h.at_is); drives = driven (ap (λ l. Some (stage0, l)) h.limit_is) }

stops_dot : {stage : Stage} {types many : ℕ} {ts : List Token} → Stops stage types many ts → begins_with "." ts ≡ false
stops_dot (stops_name d l) = d
stops_dot (stops_whole d) = d

named_stops : {types many at at' : ℕ} {limit limit' : Option Told} {ts rest : List Token} → begins_with "<" ts ≡ false → (p : TypeStops types many (Whole types many) at limit ts at' limit' rest) (piece : List Token) → p.alive.piece ≡ piece
    → TypeStops types many (Named' types many) at limit ts at' limit' rest
named_stops {types = types} {many = many} {at = at} {limit = limit} {limit' = limit'} {rest = rest} none p [] is =
    let h = there (p.alive.are ∙ ap (λ ts. ts ++ rest) is) (p.alive.is_at ∙ ap (λ ts. at + length ts) is) (subst (λ piece. Drives (Whole types many) at limit piece p.stage' limit') is p.alive.drives) in
    record { stage' = Named' types many; stops = stops_name (stops_dot p.stops) (subst (λ ts. begins_with "<" ts ≡ false) h.tokens_are none); alive = here_alive (Named' types many) h }
named_stops none p (t ∷ piece) is =
    record { stage' = p.stage'; stops = p.stops; alive = alive_name p.alive.piece p.alive.are p.alive.is_at none p.alive.drives t piece is }

dead_name : {types many : ℕ} {stage : Stage} (ts : List Token) → Whole types many ≡ stage → begins_with "<" ts ≡ false → Dead stage ts → Dead (Named' types many) ts
dead_name [] is none d = tt
dead_name {types = types} {many = many} {stage = stage} (t ∷ ts) is none d = (name_next types many t none ∙ ap (λ s. next s (symbol t)) is ∙ d.0, λ h. absurd (cc))

named_dies : {types many at at' : ℕ} {limit limit' : Option Told} {ts rest : List Token} → begins_with "<" ts ≡ false → (p : Dies (Whole types many) at limit ts at' limit' rest) (piece : List Token) → p.alive.piece ≡ piece
    → Dies (Named' types many) at limit ts at' limit' rest
named_dies {types = types} {many = many} {at = at} {limit = limit} {limit' = limit'} {rest = rest} none p [] is =
    let h = there (p.alive.are ∙ ap (λ ts. ts ++ rest) is) (p.alive.is_at ∙ ap (λ ts. at + length ts) is) (subst (λ piece. Drives (Whole types many) at limit piece p.stage' limit') is p.alive.drives) in
    record { stage' = Named' types many; alive = here_alive (Named' types many) h; dead = dead_name rest h.stage_is (subst (λ ts. begins_with "<" ts ≡ false) h.tokens_are none) p.dead }
named_dies none p (t ∷ piece) is = record { stage' = p.stage'; alive = alive_name p.alive.piece p.alive.are p.alive.is_at none p.alive.drives t piece is; dead = p.dead }

named_look : {A : Type 0} (types many at : ℕ) (limit : Option Told) (ts : List Token) (look : LookAhead A) → begins_with "<" ts ≡ false → PathLook types many (Whole types many) at limit ts look → PathLook types many (Named' types many) at limit ts look
named_look types many at limit ts (Found a (At at' limit' rest)) none p = named_stops none p p.alive.piece refl
named_look types many at limit ts (Missing (At at' limit' rest)) none p = named_dies none p p.alive.piece refl

-- type arguments, or none, behind a name
abbrev ArgsLook : ℕ → ℕ → ℕ → Option Told → List Token → LookAhead TypeTrees → Type 0
ArgsLook types many at limit ts (Found args (At at' limit' rest)) = Alive (Named' types many) at limit ts (Whole types many) at' limit' rest
ArgsLook types many at limit ts (Missing (At at' limit' rest)) = Dies (Named' types many) at limit ts at' limit' rest

generic_look : (types many at : ℕ) (limit : Option Told) (ts : List Token) (first : Token) (look : LookAhead TypeTrees) → Ended ts → ArgsLook types many at limit ts look
    → PathLook types many (Named' types many) at limit ts (found_then (λ found after. found_as (Named first found) (path_from after)) look)
generic_look types many at limit ts first (Found args (At at' limit' rest)) e p = alive_look types many (Named first args) (path_ahead at' limit' rest) p (path_look types many at' limit' rest (ended_alive p e))
generic_look types many at limit ts first (Missing (At at' limit' rest)) e d = d

opened_look : (types many at : ℕ) (limit : Option Told) (ts : List Token) (opening : Token) (look : LookAhead TypeTrees) → Is "<" opening → ListLook (suc types) (suc many) (suc at) limit ts look
    → ArgsLook types many at limit (opening ∷ ts) look
opened_look types many at limit ts opening (Found args (At at' limit' rest)) h p = token_alive {stage' = Head (suc types) (suc many)} opening (rw h refl) p
opened_look types many at limit ts opening (Missing (At at' limit' rest)) h d = token_dies {stage' = Head (suc types) (suc many)} opening (rw h refl) d

less_no_end : (t : Token) → Is "<" t → symbol t ≡ End → ⊥
less_no_end t h e = cc

-- how types are looked for, in so many turns
abbrev ListLooks : (Cursor → LookAhead TypeTrees) → ℕ → ℕ → ℕ → Type 0
ListLooks list types many most = (at : ℕ) (limit : Option Told) (ts : List Token) → length ts < most → Ended ts → ListLook types many at limit ts (list (At at limit ts))

args_by_look : (b : Bool) (list : Cursor → LookAhead TypeTrees) (types many most at : ℕ) (limit : Option Told) (first t : Token) (ts : List Token) → is_sign "<" (symbol t) ≡ b → length ts < most → Ended (t ∷ ts)
    → ListLooks list (suc types) (suc many) most
    → PathLook types many (Named' types many) at limit (t ∷ ts) (found_then (λ found after. found_as (Named first found) (path_from after)) (args_by b list (At at limit (t ∷ ts))))
args_by_look true list types many most at limit first t ts is few e looks =
    let h = is_sign-true "<" (symbol t) is in
    generic_look types many at limit (t ∷ ts) first (list (At (suc at) limit ts)) e (opened_look types many at limit ts t (list (At (suc at) limit ts)) h (looks (suc at) limit ts few (ended_behind t ts (less_no_end t h) e)))
args_by_look false list types many most at limit first t ts is few e looks =
    as_named types many at limit (Named' types many) (t ∷ ts) first (path_ahead at limit (t ∷ ts)) (named_look types many at limit (t ∷ ts) (path_ahead at limit (t ∷ ts)) is (path_look types many at limit (t ∷ ts) e))

pub args_look : (list : Cursor → LookAhead TypeTrees) (types many most at : ℕ) (limit : Option Told) (first : Token) (ts : List Token) → length ts ≤ most → Ended ts → ListLooks list (suc types) (suc many) most
    → PathLook types many (Named' types many) at limit ts (found_then (λ found after. found_as (Named first found) (path_from after)) (args_at list (At at limit ts)))
args_look list types many most at limit first [] few e looks = absurd e
args_look list types many most at limit first (t ∷ ts) few e looks = args_by_look (is_sign "<" (symbol t)) list types many most at limit first t ts refl (omega (arith, few)) e looks

lead_next : (lead : Lead) (types many : ℕ) (t : Token) → lead_of (symbol t) ≡ lead → next (Head types many) (symbol t) ≡ head_by lead types many
lead_next lead types many t h = ap (λ l. head_by l types many) h

type_by_look : (lead : Lead) (types many at : ℕ) (limit : Option Told) (first : Token) (ts : List Token) (args : LookAhead TypeTrees) → lead_of (symbol first) ≡ lead → Ended (first ∷ ts)
    → (IsName first → PathLook types many (Named' types many) (suc at) (noted limit (opens (suc types)) at first) ts (found_then (λ found after. found_as (Named first found) (path_from after)) args))
    → PathLook types many (Head types many) at limit (first ∷ ts) (type_by lead (At (suc at) (noted limit (opens (suc types)) at first) ts) args first (At at limit (first ∷ ts)))
type_by_look (AWord word) types many at limit first ts args is e named =
    token_look types many at limit (Head types many) (Whole types many) ts (Word word first) first (path_ahead (suc at) (noted limit (opens (suc types)) at first) ts) (lead_next (AWord word) types many first is)
    (path_look types many (suc at) (noted limit (opens (suc types)) at first) ts (ended_behind first ts (some_no_end (Head types many) (Whole types many) first (lead_next (AWord word) types many first is)) e))
type_by_look AName types many at limit first ts args is e named =
    same_look types many at limit (Head types many) (Named' types many) ts first _ (lead_next AName types many first is) (named (lead_name (symbol first) is))
type_by_look NoType types many at limit first ts args is e named =
    record { stage' = Head types many; alive = none_alive (Head types many) at limit (first ∷ ts); dead = (lead_next NoType types many first is, λ h. absurd (cc)) }

mark_next : (comma closes : Bool) {stage : Stage} {types many : ℕ} (t : Token) (ts : List Token) → Stops stage types many (t ∷ ts) → is_sign "," (symbol t) ≡ comma → is_sign ">" (symbol t) ≡ closes
    → (next stage (symbol t) ≡ mark_by false comma closes types many) × (entry stage ≡ None)
mark_next comma closes {types = types} {many = many} t ts (stops_name d l) c g = (
  ap (λ b. named_by b types many (mark_behind (symbol t) types many)) l
      ∙ ap (λ b. mark_by b (is_sign "," (symbol t)) (is_sign ">" (symbol t)) types many) d ∙ ap (λ b. mark_by false b (is_sign ">" (symbol t)) types many) c ∙ ap (λ b. mark_by false comma b types many) g,
  refl,
)
mark_next comma closes {types = types} {many = many} t ts (stops_whole d) c g =
    (ap (λ b. mark_by b (is_sign "," (symbol t)) (is_sign ">" (symbol t)) types many) d ∙ ap (λ b. mark_by false b (is_sign ">" (symbol t)) types many) c ∙ ap (λ b. mark_by false comma b types many) g, refl)

plain_alive : {stage stage' stage'' : Stage} {at at' : ℕ} {limit limit' : Option Told} {ts rest : List Token} (t : Token) → (next stage (symbol t) ≡ Some stage') × (entry stage ≡ None)
    → Alive stage' (suc at) limit ts stage'' at' limit' rest → Alive stage at limit (t ∷ ts) stage'' at' limit' rest
plain_alive {stage' = stage'} {stage'' = stage''} {at = at} {at' = at'} {limit = limit} {limit' = limit'} {ts = ts} {rest = rest} t h p =
    token_alive t h.0 (subst (λ e. Alive stage' (suc at) (noted limit e at t) ts stage'' at' limit' rest) (sym h.1) p)

not_closed : {stage : Stage} {types many : ℕ} {ts : List Token} → Stops stage types many ts → stage ≡ Closed → ⊥
not_closed (stops_name d l) h = cc
not_closed (stops_whole d) h = cc

comma_look : (types many at : ℕ) (limit : Option Told) (ts : List Token) (type : TypeTree) (stage : Stage) (at' : ℕ) (limit' : Option Told) (t : Token) (behind : List Token) (more : LookAhead TypeTrees)
    → Alive (Head types many) at limit ts stage at' limit' (t ∷ behind) → (next stage (symbol t) ≡ Some (Head types many)) × (entry stage ≡ None)
    → ListLook types many (suc at') limit' behind more → ListLook types many at limit ts (found_as (MoreTypes type) more)
comma_look types many at limit ts type stage at' limit' t behind (Found trees (At at'' limit'' rest)) p h q = more_alive p (plain_alive t h q)
comma_look types many at limit ts type stage at' limit' t behind (Missing (At at'' limit'' rest)) p h q =
    more_dies p (record { stage' = q.stage'; alive = plain_alive t h q.alive; dead = q.dead })

alive_shorter : {stage stage' : Stage} {at at' : ℕ} {limit limit' : Option Told} {ts rest : List Token} → Alive stage at limit ts stage' at' limit' rest → length rest ≤ length ts
alive_shorter {rest = rest} p = omega (arith, ap length p.are, length-append p.piece rest)

list_by_look : (comma closes : Bool) (list : Cursor → LookAhead TypeTrees) (types many most at : ℕ) (limit : Option Told) (ts : List Token) (type : TypeTree) (at' : ℕ) (limit' : Option Told) (t : Token) (behind : List Token)
    → is_sign "," (symbol t) ≡ comma → is_sign ">" (symbol t) ≡ closes → length behind < most → Ended (t ∷ behind) → TypeStops types many (Head types many) at limit ts at' limit' (t ∷ behind) → ListLooks list types many most
    → ListLook types many at limit ts (list_by comma closes list type (At (suc at') limit' behind) (At at' limit' (t ∷ behind)))
list_by_look true closes list types many most at limit ts type at' limit' t behind c g few e p looks =
    let h = mark_next true closes t behind p.stops c g in
    comma_look types many at limit ts type p.stage' at' limit' t behind (list (At (suc at') limit' behind)) p.alive h
    (looks (suc at') limit' behind few (ended_behind t behind (some_no_end p.stage' (Head types many) t h.0) e))
list_by_look false true list types many most at limit ts type at' limit' t behind c g few e p looks =
    more_alive p.alive (plain_alive t (mark_next false true t behind p.stops c g) (none_alive (close types many) (suc at') limit' behind))
list_by_look false false list types many most at limit ts type at' limit' t behind c g few e p looks =
    record { stage' = p.stage'; alive = p.alive; dead = ((mark_next false false t behind p.stops c g).0, λ h. absurd (not_closed p.stops h)) }

behind_look : (look : LookAhead TypeTree) (list : Cursor → LookAhead TypeTrees) (types many most at : ℕ) (limit : Option Told) (ts : List Token) → length ts ≤ most → Ended ts → PathLook types many (Head types many) at limit ts look
    → ListLooks list types many most → ListLook types many at limit ts (found_then (λ type behind. list_behind list type behind) look)
behind_look (Found type (At at' limit' [])) list types many most at limit ts few e p looks = absurd (ended_alive p.alive e)
behind_look (Found type (At at' limit' (t ∷ behind))) list types many most at limit ts few e p looks =
    list_by_look (is_sign "," (symbol t)) (is_sign ">" (symbol t)) list types many most at limit ts type at' limit' t behind refl refl
    (omega (arith, few, alive_shorter p.alive)) (ended_alive p.alive e) p looks
behind_look (Missing (At at' limit' rest)) list types many most at limit ts few e p looks = p

mutual
  pub type_looks : (turns types many at : ℕ) (limit : Option Told) (ts : List Token) → length ts ≤ turns → Ended ts → PathLook types many (Head types many) at limit ts (type_ahead turns types (At at limit ts))
  type_looks zero types many at limit [] few e = absurd e
  type_looks zero types many at limit (t ∷ ts) few e = absurd (omega (arith, few))
  type_looks (suc turns) types many at limit [] few e = absurd e
  type_looks (suc turns) types many at limit (t ∷ ts) few e =
      type_by_look (lead_of (symbol t)) types many at limit t ts _ refl e
      (λ n. args_look (list_ahead turns (suc types)) types many turns (suc at) (noted limit (opens (suc types)) at t) t ts (omega (arith, few)) (ended_behind t ts (no_name_end t n) e)
      (λ at limit ts few e. list_looks turns (suc types) (suc many) at limit ts few e))

  pub list_looks : (turns types many at : ℕ) (limit : Option Told) (ts : List Token) → length ts < turns → Ended ts → ListLook types many at limit ts (list_ahead turns types (At at limit ts))
  list_looks zero types many at limit ts few e = absurd (omega (arith, few))
  list_looks (suc turns) types many at limit ts few e =
      behind_look (type_ahead turns types (At at limit ts)) (list_ahead turns types) types many turns at limit ts (omega (arith, few)) e (type_looks turns types many at limit ts (omega (arith, few)) e)
      (λ at limit ts few e. list_looks turns types many at limit ts few e)

-- the look of a name
pub taken_by_look : (b : Bool) (types at : ℕ) (limit : Option Told) (ts : List Token) (args : TypeTrees) (at' : ℕ) (limit' : Option Told) (rest : List Token) → leads_on rest ≡ b
    → Alive (Head types zero) at limit ts Closed at' limit' rest → (place : Cursor) → led_by b args (At at' limit' rest) ≡ Missing place → Dies (Head types zero) at limit ts at' limit' rest × (place ≡ At at' limit' rest)
taken_by_look true types at limit ts args at' limit' rest h p place is = absurd (cc)
taken_by_look false types at limit ts args at' limit' rest h p place is = (record { stage' = Closed; alive = p; dead = closed_dead rest h }, cc)
  where
    closed_dead : (rest : List Token) → leads_on rest ≡ false → Dead Closed rest
    closed_dead [] h = tt
    closed_dead (t ∷ rest) h = (refl, λ c. h)
