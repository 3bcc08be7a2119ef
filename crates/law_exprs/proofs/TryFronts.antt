-- A reader goes on from its place, or is refused there; and places and limits only grow.
use Rattle.std.proofs.Common.{◌≡◌, ◌⊎◌, inl, inr, ℕ, zero, suc, ◌≤◌, Bool, true, false, List, [], ◌∷◌, length, refl, sym, ap, subst, ◌∙◌, arith, le_refl}
use Rattle.std.specs.Prelude.{Option, Some, None}
use Rattle.def_token.specs.Lexical.{Token}
use Rattle.def_tree.specs.Limits.{Entry, plain}
use Rattle.def_tree.specs.Symbol.{Symbol, symbol, is_sign}
use Rattle.def_reading.specs.Cursor.{Told, At, noted, before, FarthestFailure, reach_at, reach_by, told_by, earlier, further}
use Rattle.def_reading.specs.Try.{Try, Reads, Stops, Reader, try_then, try_as, or_else, refused, choice, choice_by, token_then, up_to, listed, ahead}
use Rattle.def_reading.specs.TypeReading.{Ended}
use Rattle.law_types.proofs.AheadFaults.{Grows, same_limit, grows_noted, grows_more}
use Rattle.law_machine.proofs.MachineGrows.{Above, above_second}
use Rattle.law_types.proofs.Stopping.{ended_behind}
use Rattle.law_exprs.proofs.TryComes.{Noted, noted_stays, noted_later}
use Rattle.law_exprs.proofs.TryHolds.{Holds, Keeps, NotEnd, not_end, holds_then, holds_as, holds_else, keeps_refused, keeps_end, keeps_as, keeps_then, keeps_choice, keeps_else}

-- what is read stands behind the place, and the limit is the same unless one ends on the way
abbrev pub Rises : {A : Type 0} → ℕ → Option Told → Try A → Type 0
Rises at limit (Reads a (At at' limit' rest) reach) = (at ≤ at') × Grows at limit limit' × Noted at' limit'
Rises at limit (Stops reach) = Unit {0}

-- a way that ends at a place
pub record WayTo (at : ℕ) (limit : Option Told) (tokens : List Token) (w : FarthestFailure) : Type 0 where
  pub many : w.many ≡ at
  pub told : told_by (before at limit) at tokens ≡ Some w.told

-- nothing is read, and all stays as it is
pub record IsHere {A : Type 0} (at : ℕ) (limit : Option Told) (tokens : List Token) (look : Try A) : Type 0 where
  pub tree : A
  pub reach : Option FarthestFailure
  pub is : look ≡ Reads tree (At at limit tokens) reach

-- the way to the place counts no more than what is read there, or nothing is read
abbrev pub Fronts : {A : Type 0} → ℕ → Option Told → List Token → Try A → Type 0
Fronts at limit tokens look = ((w : FarthestFailure) → WayTo at limit tokens w → Holds w look) ⊎ IsHere at limit tokens look

pub record Good {A : Type 0} (reader : Reader A) : Type 0 where
  pub keeps : Keeps reader
  pub rises : (at : ℕ) (limit : Option Told) (tokens : List Token) (reach : Option FarthestFailure) → Noted at limit → Rises at limit (reader reach (At at limit tokens))
  pub fronts : (at : ℕ) (limit : Option Told) (tokens : List Token) (reach : Option FarthestFailure) → Ended tokens → Fronts at limit tokens (reader reach (At at limit tokens))

-- the way to a place, as a refusal there has it
abbrev reach_of : ℕ → Told → FarthestFailure
reach_of many told = record { many = many; told = told }

told_none : (l : Option Told) (at : ℕ) (tokens : List Token) → told_by (earlier l None) at tokens ≡ told_by l at tokens
told_none None at tokens = refl
told_none (Some told) at tokens = refl

way_by : (at : ℕ) (w : FarthestFailure) → w.many ≡ at → (o : Option Told) → o ≡ Some w.told → reach_by at o ≡ Some w
way_by at w many None is = absurd (cc)
way_by at w many (Some told) is =
    let same : told ≡ w.told = cc in
    ap (λ (told : Told). Some (reach_of at told)) same ∙ ap (λ many. Some (reach_of many w.told)) (sym many)

pub way_is : (at : ℕ) (limit : Option Told) (tokens : List Token) (w : FarthestFailure) → WayTo at limit tokens w → reach_at None 0 (At at (before at limit) tokens) ≡ Some w
way_is at limit tokens w h = way_by at w h.many (told_by (earlier (before at limit) None) at tokens) (told_none (before at limit) at tokens ∙ h.told)

pub good_refused : (A : Type 0) → Good {A = A} refused
good_refused A =
    record {
      keeps = keeps_refused A;
      rises = λ at limit tokens reach n. tt;
      fronts = λ at limit tokens reach e. inl (λ w h. subst (λ o. Above w (further reach o)) (sym (way_is at limit tokens w h)) (above_second reach w));
    }

pub good_end : {A : Type 0} (a : A) → Good (λ reach place. Reads a place reach)
good_end a =
    record {
      keeps = keeps_end a;
      rises = λ at limit tokens reach n. (le_refl at, same_limit, n);
      fronts = λ at limit tokens reach e. inr (record { tree = a; reach = reach; is = refl });
    }

rises_as : {A B : Type 0} (make : A → B) (at : ℕ) (limit : Option Told) (look : Try A) → Rises at limit look → Rises at limit (try_as make look)
rises_as make at limit (Reads a (At at' limit' rest) reach) h = h
rises_as make at limit (Stops reach) h = tt

fronts_as : {A B : Type 0} (make : A → B) (at : ℕ) (limit : Option Told) (tokens : List Token) (look : Try A) → Fronts at limit tokens look → Fronts at limit tokens (try_as make look)
fronts_as make at limit tokens look (inl h) = inl (λ w way. holds_as make w look (h w way))
fronts_as make at limit tokens look (inr h) = inr (record { tree = make h.tree; reach = h.reach; is = ap (try_as make) h.is })

pub good_as : {A B : Type 0} (make : A → B) (reader : Reader A) → Good reader → Good (λ reach place. try_as make (reader reach place))
good_as make reader g =
    record {
      keeps = keeps_as make reader g.keeps;
      rises = λ at limit tokens reach n. rises_as make at limit (reader reach (At at limit tokens)) (g.rises at limit tokens reach n);
      fronts = λ at limit tokens reach e. fronts_as make at limit tokens (reader reach (At at limit tokens)) (g.fronts at limit tokens reach e);
    }

pub rises_on : {A : Type 0} (at at' : ℕ) (limit limit' : Option Told) (look : Try A) → at ≤ at' → Grows at limit limit' → Rises at' limit' look → Rises at limit look
rises_on at at' limit limit' (Reads a (At at'' limit'' rest) reach) h g r = (omega (arith, h, r.0), grows_more at at' limit limit' limit'' h g r.1, r.2)
rises_on at at' limit limit' (Stops reach) h g r = tt

rises_then : {A B : Type 0} (next : A → Reader B) (at : ℕ) (limit : Option Told) (look : Try A) → Rises at limit look → ((a : A) → Good (next a)) → Rises at limit (try_then next look)
rises_then next at limit (Reads a (At at' limit' rest) reach) h k = rises_on at at' limit limit' (next a reach (At at' limit' rest)) h.0 h.1 ((k a).rises at' limit' rest reach h.2)
rises_then next at limit (Stops reach) h k = tt

fronts_then : {A B : Type 0} (next : A → Reader B) (at : ℕ) (limit : Option Told) (tokens : List Token) (look : Try A) → Ended tokens → Fronts at limit tokens look → ((a : A) → Good (next a))
    → Fronts at limit tokens (try_then next look)
fronts_then next at limit tokens look e (inl h) k = inl (λ w way. holds_then next w look (h w way) (λ a. (k a).keeps))
fronts_then next at limit tokens look e (inr h) k =
    subst (λ look. Fronts at limit tokens (try_then next look)) (sym h.is) ((k h.tree).fronts at limit tokens h.reach e)

pub good_then : {A B : Type 0} (next : A → Reader B) (reader : Reader A) → Good reader → ((a : A) → Good (next a)) → Good (λ reach place. try_then next (reader reach place))
good_then next reader g k =
    record {
      keeps = keeps_then next reader g.keeps (λ a. (k a).keeps);
      rises = λ at limit tokens reach n. rises_then next at limit (reader reach (At at limit tokens)) (g.rises at limit tokens reach n) k;
      fronts = λ at limit tokens reach e. fronts_then next at limit tokens (reader reach (At at limit tokens)) e (g.fronts at limit tokens reach e) k;
    }

rises_choice_by : {A : Type 0} (b : Bool) (entry : Entry) (yes' : Token → Reader A) (no' : Reader A) → ((token : Token) → Good (yes' token)) → Good no'
    → (at : ℕ) (limit : Option Told) (token : Token) (tokens : List Token) (reach : Option FarthestFailure) → Noted at limit → Rises at limit (choice_by b entry yes' no' reach token (At at limit (token ∷ tokens)))
rises_choice_by true entry yes' no' k l at limit token tokens reach n =
    rises_on at (suc at) limit (noted limit entry at token) (yes' token reach (At (suc at) (noted limit entry at token) tokens)) (omega arith) (grows_noted at limit entry token)
    ((k token).rises (suc at) (noted limit entry at token) tokens reach (noted_later (noted limit entry at token) at (noted_stays limit entry at token n)))
rises_choice_by false entry yes' no' k l at limit token tokens reach n = l.rises at limit (token ∷ tokens) reach n

rises_choice : {A : Type 0} (test : Symbol → Bool) (entry : Entry) (yes' : Token → Reader A) (no' : Reader A) → ((token : Token) → Good (yes' token)) → Good no'
    → (at : ℕ) (limit : Option Told) (tokens : List Token) (reach : Option FarthestFailure) → Noted at limit → Rises at limit (choice test entry yes' no' reach (At at limit tokens))
rises_choice test entry yes' no' k l at limit [] reach n = l.rises at limit [] reach n
rises_choice test entry yes' no' k l at limit (token ∷ tokens) reach n = rises_choice_by (test (symbol token)) entry yes' no' k l at limit token tokens reach n

fronts_choice_by : {A : Type 0} (b : Bool) (test : Symbol → Bool) (entry : Entry) (yes' : Token → Reader A) (no' : Reader A) → NotEnd test → ((token : Token) → Good (yes' token)) → Good no'
    → (at : ℕ) (limit : Option Told) (token : Token) (tokens : List Token) (reach : Option FarthestFailure) → test (symbol token) ≡ b → Ended (token ∷ tokens)
    → Fronts at limit (token ∷ tokens) (choice_by b entry yes' no' reach token (At at limit (token ∷ tokens)))
fronts_choice_by true test entry yes' no' ne k l at limit token tokens reach is e =
    inl (λ w way. (k token).keeps w (suc at) (noted limit entry at token) tokens reach (ended_behind token tokens (not_end test token ne is) e) (inr (omega (arith, way.many))))
fronts_choice_by false test entry yes' no' ne k l at limit token tokens reach is e = l.fronts at limit (token ∷ tokens) reach e

fronts_choice : {A : Type 0} (test : Symbol → Bool) (entry : Entry) (yes' : Token → Reader A) (no' : Reader A) → NotEnd test → ((token : Token) → Good (yes' token)) → Good no'
    → (at : ℕ) (limit : Option Told) (tokens : List Token) (reach : Option FarthestFailure) → Ended tokens → Fronts at limit tokens (choice test entry yes' no' reach (At at limit tokens))
fronts_choice test entry yes' no' ne k l at limit [] reach e = absurd e
fronts_choice test entry yes' no' ne k l at limit (token ∷ tokens) reach e = fronts_choice_by (test (symbol token)) test entry yes' no' ne k l at limit token tokens reach refl e

pub good_choice : {A : Type 0} (test : Symbol → Bool) (entry : Entry) (yes' : Token → Reader A) (no' : Reader A) → NotEnd test → ((token : Token) → Good (yes' token)) → Good no' → Good (choice test entry yes' no')
good_choice test entry yes' no' ne k l =
    record {
      keeps = keeps_choice test entry yes' no' ne (λ token. (k token).keeps) l.keeps;
      rises = rises_choice test entry yes' no' k l;
      fronts = fronts_choice test entry yes' no' ne k l;
    }

pub good_token : {A : Type 0} (test : Symbol → Bool) (entry : Entry) (next : Token → Reader A) → NotEnd test → ((token : Token) → Good (next token)) → Good (token_then test entry next)
good_token {A = A} test entry next ne k = good_choice test entry next refused ne k (good_refused A)

pub good_up_to : {A : Type 0} (test : Symbol → Bool) (reader : Reader A) → NotEnd test → Good reader → Good (λ reach place. up_to test (reader reach place))
good_up_to test reader ne g =
    good_then (λ a. token_then test plain (λ mark reach place. Reads a place reach)) reader g (λ a. good_token test plain (λ mark reach place. Reads a place reach) ne (λ mark. good_end a))

rises_else : {A : Type 0} (other : Reader A) (at : ℕ) (limit : Option Told) (tokens : List Token) (look : Try A) → Noted at limit → Rises at limit look → Good other → Rises at limit (or_else other (At at limit tokens) look)
rises_else other at limit tokens (Reads a (At at' limit' rest) reach) n h k = h
rises_else other at limit tokens (Stops reach) n h k = k.rises at limit tokens reach n

fronts_else : {A : Type 0} (other : Reader A) (at : ℕ) (limit : Option Told) (tokens : List Token) (look : Try A) → Ended tokens → Fronts at limit tokens look → Good other → Fronts at limit tokens (or_else other (At at limit tokens) look)
fronts_else other at limit tokens look e (inl h) k = inl (λ w way. holds_else other w at limit tokens look e (h w way) k.keeps)
fronts_else other at limit tokens look e (inr h) k = inr (record { tree = h.tree; reach = h.reach; is = ap (or_else other (At at limit tokens)) h.is })

pub good_else : {A : Type 0} (reader other : Reader A) → Good reader → Good other → Good (λ reach place. or_else other place (reader reach place))
good_else reader other g k =
    record {
      keeps = keeps_else reader other g.keeps k.keeps;
      rises = λ at limit tokens reach n. rises_else other at limit tokens (reader reach (At at limit tokens)) n (g.rises at limit tokens reach n) k;
      fronts = λ at limit tokens reach e. fronts_else other at limit tokens (reader reach (At at limit tokens)) e (g.fronts at limit tokens reach e) k;
    }

pub good_listed : {A B : Type 0} (more : A → B → B) (none : B) (part : Reader A) → Good part → (turns : ℕ) → Good (listed more none part turns)
good_listed {B = B} more none part k zero = good_refused B
good_listed more none part k (suc turns) =
    good_then (λ a. choice (is_sign ",") plain (λ comma reach place. try_as (more a) (listed more none part turns reach place)) (λ reach place. Reads (more a none) place reach)) part k
    (λ a. good_choice (is_sign ",") plain (λ comma reach place. try_as (more a) (listed more none part turns reach place)) (λ reach place. Reads (more a none) place reach) refl
    (λ comma. good_as (more a) (listed more none part turns) (good_listed more none part k turns)) (good_end (more a none)))

-- a reader with as many turns as there are tokens
pub good_ahead : {A : Type 0} (reader : ℕ → Reader A) → ((turns : ℕ) → Good (reader turns)) → Good (λ reach place. reader (suc (length (ahead place))) reach place)
good_ahead reader k =
    record {
      keeps = λ w at limit tokens reach e p. (k (suc (length tokens))).keeps w at limit tokens reach e p;
      rises = λ at limit tokens reach n. (k (suc (length tokens))).rises at limit tokens reach n;
      fronts = λ at limit tokens reach e. (k (suc (length tokens))).fronts at limit tokens reach e;
    }
