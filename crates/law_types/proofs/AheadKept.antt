-- How names that take no type arguments take none either before the tokens that complete an expression.
use Rattle.std.proofs.Common.{◌≡◌, ℕ, zero, suc, ◌+◌, Bool, true, false, List, [], ◌∷◌, ◌++◌, length, refl, sym, ap, subst, ◌∙◌, codes, arith, append_assoc}
use Rattle.std.specs.Prelude.{Option, Some, None}
use Rattle.std.proofs.lemmas.Bool.{false≢true}
use Rattle.def_token.specs.Lexical.{Token}
use Rattle.def_tree.specs.Expressions.{TakesTypeArgs, TakesNone}
use Rattle.def_tree.specs.Symbol.{Symbol, Name, Number, End, Sign, symbol, is_sign, Is, IsName}
use Rattle.def_tree.specs.TypeTree.{TypeTrees}
use Rattle.def_reading.specs.Cursor.{Told, At, noted}
use Rattle.def_reading.specs.TypeAhead.{LookAhead, Found, Missing, leads_on, names, taken_ahead}
use Rattle.def_reading.specs.TypeReading.{Ended, Lead, AWord, AName, NoType, lead_of}
use Rattle.law_types.proofs.AheadSound.{SoundLook, taken_sound}
use Rattle.law_types.proofs.AheadStages.{Dead, Dies, drive_first}
use Rattle.law_types.proofs.AheadFaults.{missing_dies, none_dies, args_go, Splits, longer, shorter, splits, heads, meets, takes_leads, dead_stage, dead_none}
use Rattle.law_types.proofs.TypeStages.{Stage, Head, Named', Whole, Dot, Closed, close, mark_by, mark_behind, named_by, head_by, dot_by, next, entry, drive_by, drive, append_drives, some_pair}

pub ended_cons : (t : Token) (ts : List Token) → Ended ts → Ended (t ∷ ts)
ended_cons t [] e = absurd e
ended_cons t (u ∷ ts) e = e

pub ended_front : (front ts : List Token) → Ended ts → Ended (front ++ ts)
ended_front [] ts e = e
ended_front (t ∷ front) ts e = ended_cons t (front ++ ts) (ended_front front ts e)

-- tokens before tokens that go on
pub drive_front : (stage stage' : Stage) (at : ℕ) (limit limit' : Option Told) (front more : List Token) → drive stage at limit (front ++ more) ≡ Some (stage', limit')
    → (s : Stage) × (l : Option Told) × (drive stage at limit front ≡ Some (s, l)) × (drive s (at + length front) l more ≡ Some (stage', limit'))
drive_front stage stage' at limit limit' [] more h = (stage, limit, refl, ap (λ n. drive stage n limit more) (omega arith) ∙ h)
drive_front stage stage' at limit limit' (t ∷ front) more h =
    let first = drive_first stage stage' at limit limit' t (front ++ more) h in
    let rest = drive_front first.0 stage' (suc at) (noted limit (entry stage) at t) limit' front more first.2 in
    (rest.0, rest.1, ap (λ o. drive_by o (λ s. drive s (suc at) (noted limit (entry stage) at t) front)) first.1 ∙ rest.2, ap (λ n. drive rest.0 n rest.1 more) (omega arith) ∙ rest.3)

pub drive_append : (stage stage' stage'' : Stage) (at : ℕ) (limit limit' limit'' : Option Told) (front more : List Token) → drive stage at limit front ≡ Some (stage', limit')
    → drive stage' (at + length front) limit' more ≡ Some (stage'', limit'') → drive stage at limit (front ++ more) ≡ Some (stage'', limit'')
drive_append stage stage' stage'' at limit limit' limit'' front more h k =
    (append_drives stage stage' stage'' at limit limit' limit'' front more (record { is = h }) (record { is = k })).is

no_lead : leads_on [] ≡ true → ⊥
no_lead h = false≢true h

dead_any : (stage : Stage) (at : ℕ) (limit limit' : Option Told) (r more rest : List Token) → Dead stage r → r ≡ more ++ rest → leads_on rest ≡ true → drive stage at limit more ≡ Some (Closed, limit') → ⊥
dead_any stage at limit limit' [] [] rest d h leads p = no_lead (ap leads_on h ∙ leads)
dead_any stage at limit limit' [] (u ∷ more) rest d h leads p = absurd (cc)
dead_any stage at limit limit' (t ∷ x) more rest d h leads p = dead_stage stage at limit limit' t x x more rest d h leads p

pub closed_none : (at : ℕ) (limit limit' : Option Told) (more : List Token) (s : Stage) → drive Closed at limit more ≡ Some (s, limit') → more ≡ []
closed_none at limit limit' [] s h = refl
closed_none at limit limit' (t ∷ more) s h = let first = drive_first Closed s at limit limit' t more h in absurd (let some = first.1 in cc)

-- type arguments that are missed are completed
pub record Completed (opening : Token) (front more : List Token) : Type 0 where
  pub args : TypeTrees
  pub takes : TakesTypeArgs (opening ∷ (front ++ more)) args more

module _ (types at : ℕ) (limit : Option Told) (opening : Token) (front : List Token) (limit' : Option Told) (lead : Token) (other : List Token)
    (less : Is "<" opening) (leads : leads_on (lead ∷ other) ≡ true) (closes : drive (Head types zero) (suc at) limit front ≡ Some (Closed, limit')) (e : Ended other) where
  completed_by : (look : LookAhead TypeTrees) → taken_ahead types at limit (opening ∷ (front ++ lead ∷ other)) ≡ look → SoundLook TakesTypeArgs (opening ∷ (front ++ lead ∷ other)) look → Completed opening front (lead ∷ other)
  completed_by (Found args (At a l r)) is takes =
      let g = args_go takes types at limit in
      let m = meets (Head types zero) Closed (suc at) limit limit' g.pieces.limit' front (lead ∷ other) g.pieces.piece r g.pieces.are closes g.pieces.drives.is in
      let none = closed_none (suc at + length front) limit' g.pieces.limit' m.more Closed m.drives in
      let same : lead ∷ other ≡ r = m.are ∙ ap (λ ts. ts ++ r) none in
      record { args = args; takes = subst (TakesTypeArgs (opening ∷ (front ++ lead ∷ other)) args) (sym same) takes }
  completed_by (Missing (At a l r)) is takes =
      let d = missing_dies types at limit opening (front ++ lead ∷ other) less (ended_cons opening (front ++ lead ∷ other) (ended_front front (lead ∷ other) (ended_cons lead other e))) a l r is in
      let m = meets (Head types zero) d.stage' (suc at) limit l limit' d.alive.piece r front (lead ∷ other) (sym d.alive.are) d.alive.drives.is closes in
      absurd (dead_any d.stage' (suc at + length d.alive.piece) l limit' r m.more (lead ∷ other) d.dead m.are leads m.drives)

  pub completed : Completed opening front (lead ∷ other)
  completed = completed_by (taken_ahead types at limit (opening ∷ (front ++ lead ∷ other))) refl (taken_sound types at limit opening (front ++ lead ∷ other) less)

-- The stages of type arguments in others.
abbrev raise : ℕ → ℕ → ℕ
raise zero many = suc many
raise (suc inner) many = suc (raise inner many)

data Raised (many : ℕ) : Stage → Stage → Type 0 where
  of_head : {types other inner : ℕ} → Raised many (Head types inner) (Head other (raise inner many))
  of_named : {types other inner : ℕ} → Raised many (Named' types inner) (Named' other (raise inner many))
  of_whole : {types other inner : ℕ} → Raised many (Whole types inner) (Whole other (raise inner many))
  of_dot : {types other inner : ℕ} → Raised many (Dot types inner) (Dot other (raise inner many))
  of_closed : {other : ℕ} → Raised many Closed (Whole other many)

record RaisedNext (many : ℕ) (o : Option Stage) (s : Stage) : Type 0 where
  stage : Stage
  is : o ≡ Some stage
  raised : Raised many s stage

some_is : {A : Type 0} (a b : A) → Some a ≡ Some b → a ≡ b
some_is a b h = cc

raised_as : (many : ℕ) (o : Option Stage) (s s' stage : Stage) → o ≡ Some stage → Some s ≡ Some s' → Raised many s stage → RaisedNext many o s'
raised_as many o s s' stage is h r = record { stage = stage; is = is; raised = subst (λ s. Raised many s stage) (some_is s s' h) r }

close_raised : (many types other inner : ℕ) → Raised many (close types inner) (close other (raise inner many))
close_raised many types other zero = of_closed
close_raised many types other (suc inner) = of_whole

mark_raised : (dot comma closes : Bool) (many types other inner : ℕ) (s : Stage) → mark_by dot comma closes types inner ≡ Some s → RaisedNext many (mark_by dot comma closes other (raise inner many)) s
mark_raised true comma closes many types other inner s h = raised_as many _ (Dot types inner) s (Dot other (raise inner many)) refl h of_dot
mark_raised false true closes many types other inner s h = raised_as many _ (Head types inner) s (Head other (raise inner many)) refl h of_head
mark_raised false false true many types other inner s h = raised_as many _ (close types inner) s (close other (raise inner many)) refl h (close_raised many types other inner)
mark_raised false false false many types other inner s h = absurd (cc)

head_raised : (lead : Lead) (many types other inner : ℕ) (s : Stage) → head_by lead types inner ≡ Some s → RaisedNext many (head_by lead other (raise inner many)) s
head_raised (AWord word) many types other inner s h = raised_as many _ (Whole types inner) s (Whole other (raise inner many)) refl h of_whole
head_raised AName many types other inner s h = raised_as many _ (Named' types inner) s (Named' other (raise inner many)) refl h of_named
head_raised NoType many types other inner s h = absurd (cc)

named_raised : (b : Bool) (t : Symbol) (many types other inner : ℕ) (s : Stage) → named_by b types inner (mark_behind t types inner) ≡ Some s
    → RaisedNext many (named_by b other (raise inner many) (mark_behind t other (raise inner many))) s
named_raised true t many types other inner s h = raised_as many _ (Head (suc types) (suc inner)) s (Head (suc other) (suc (raise inner many))) refl h of_head
named_raised false t many types other inner s h = mark_raised (is_sign "." t) (is_sign "," t) (is_sign ">" t) many types other inner s h

dot_raised : (b : Bool) (many types other inner : ℕ) (s : Stage) → dot_by b types inner ≡ Some s → RaisedNext many (dot_by b other (raise inner many)) s
dot_raised true many types other inner s h = raised_as many _ (Whole types inner) s (Whole other (raise inner many)) refl h of_whole
dot_raised false many types other inner s h = absurd (cc)

next_raised : {many : ℕ} {stage stage' : Stage} → Raised many stage stage' → (t : Symbol) (s : Stage) → next stage t ≡ Some s → RaisedNext many (next stage' t) s
next_raised {many = many} (of_head {types = types} {other = other} {inner = inner}) t s h = head_raised (lead_of t) many types other inner s h
next_raised {many = many} (of_named {types = types} {other = other} {inner = inner}) t s h = named_raised (is_sign "<" t) t many types other inner s h
next_raised {many = many} (of_whole {types = types} {other = other} {inner = inner}) t s h = mark_raised (is_sign "." t) (is_sign "," t) (is_sign ">" t) many types other inner s h
next_raised {many = many} (of_dot {types = types} {other = other} {inner = inner}) t s h = dot_raised (names t) many types other inner s h
next_raised of_closed t s h = absurd (cc)

record RaisedDrive (many : ℕ) (stage' s : Stage) (at : ℕ) (limit : Option Told) (ts : List Token) : Type 0 where
  stage : Stage
  limit' : Option Told
  is : drive stage' at limit ts ≡ Some (stage, limit')
  raised : Raised many s stage

drive_raised : (many : ℕ) (ts : List Token) (stage stage' s : Stage) (at at' : ℕ) (limit limit' l : Option Told) → Raised many stage stage' → drive stage at limit ts ≡ Some (s, l)
    → RaisedDrive many stage' s at' limit' ts
drive_raised many [] stage stage' s at at' limit limit' l r h =
    record { stage = stage'; limit' = limit'; is = refl; raised = subst (λ s. Raised many s stage') (some_pair stage s limit l h).0 r }
drive_raised many (t ∷ ts) stage stage' s at at' limit limit' l r h =
    let first = drive_first stage s at limit l t ts h in
    let n = next_raised r (symbol t) first.0 first.1 in
    let more = drive_raised many ts first.0 n.stage s (suc at) (suc at') (noted limit (entry stage) at t) (noted limit' (entry stage') at' t) l n.raised first.2 in
    record { stage = more.stage; limit' = more.limit'; is = ap (λ o. drive_by o (λ s. drive s (suc at') (noted limit' (entry stage') at' t) ts)) n.is ∙ more.is; raised = more.raised }

-- what completions begin with
pub data IsStop : Symbol → Type 0 where
  stop_number : {wide : Bool} → IsStop (Number wide)
  stop_end : IsStop End
  stop_round : IsStop (Sign (codes ")"))
  stop_square : IsStop (Sign (codes "]"))
  stop_colon : IsStop (Sign (codes ":"))
  stop_bracket : IsStop (Sign (codes "("))

stops : (stage : Stage) {s : Symbol} → IsStop s → next stage s ≡ None
stops (Head types many) stop_number = refl
stops (Head types many) stop_end = refl
stops (Head types many) stop_round = refl
stops (Head types many) stop_square = refl
stops (Head types many) stop_colon = refl
stops (Head types many) stop_bracket = refl
stops (Named' types many) stop_number = refl
stops (Named' types many) stop_end = refl
stops (Named' types many) stop_round = refl
stops (Named' types many) stop_square = refl
stops (Named' types many) stop_colon = refl
stops (Named' types many) stop_bracket = refl
stops (Whole types many) stop_number = refl
stops (Whole types many) stop_end = refl
stops (Whole types many) stop_round = refl
stops (Whole types many) stop_square = refl
stops (Whole types many) stop_colon = refl
stops (Whole types many) stop_bracket = refl
stops (Dot types many) stop_number = refl
stops (Dot types many) stop_end = refl
stops (Dot types many) stop_round = refl
stops (Dot types many) stop_square = refl
stops (Dot types many) stop_colon = refl
stops (Dot types many) stop_bracket = refl
stops Closed h = refl

-- at a stage type arguments do not go on with these tokens to their end
abbrev pub Harmless : Stage → List Token → Type 0
Harmless stage more = (at : ℕ) (limit limit' : Option Told) (piece rest : List Token) → more ≡ piece ++ rest → leads_on rest ≡ true → drive stage at limit piece ≡ Some (Closed, limit') → ⊥

stop_drive : (stage s : Stage) (at : ℕ) (limit limit' : Option Told) (t : Token) (ts : List Token) → IsStop (symbol t) → drive stage at limit (t ∷ ts) ≡ Some (s, limit') → ⊥
stop_drive stage s at limit limit' t ts stop h =
    let none = stops stage stop in
    let first = drive_first stage s at limit limit' t ts h in
    let some = first.1 in cc

-- a token that is no type's, and does not lead on where the arguments are closed
pub harmless_stop : (stage : Stage) (t : Token) (ts : List Token) → IsStop (symbol t) → (stage ≡ Closed → leads_on (t ∷ ts) ≡ true → ⊥) → Harmless stage (t ∷ ts)
harmless_stop stage t ts stop open' at limit limit' [] rest are leads h = open' (some_pair stage Closed limit limit' h).0 (ap leads_on are ∙ leads)
harmless_stop stage t ts stop open' at limit limit' (u ∷ piece) rest are leads h =
    stop_drive stage Closed at limit limit' u piece (subst (λ (x : Token). IsStop (symbol x)) (heads t u ts (piece ++ rest) are).0 stop) h

pub name_open : (stage s : Stage) → next stage Name ≡ Some s → s ≡ Closed → ⊥
name_open (Head types many) s h k = let named : Named' types many ≡ s = some_is _ _ h in cc
name_open (Named' types many) s h k = absurd (cc)
name_open (Whole types many) s h k = absurd (cc)
name_open (Dot types many) s h k = let whole : Whole types many ≡ s = some_is _ _ h in cc
name_open Closed s h k = absurd (cc)

-- a name, and then such a token
pub harmless_name : (stage : Stage) (name t : Token) (ts : List Token) → IsName name → IsStop (symbol t) → Harmless stage (name ∷ t ∷ ts)
harmless_name stage name t ts n stop at limit limit' [] rest are leads h =
    let none : leads_on (name ∷ t ∷ ts) ≡ false = rw n refl in false≢true (sym none ∙ ap leads_on are ∙ leads)
harmless_name stage name t ts n stop at limit limit' (u ∷ []) rest are leads h =
    let same = heads name u (t ∷ ts) rest are in
    let first = drive_first stage Closed at limit limit' u [] h in
    name_open stage first.0 (subst (λ s. next stage s ≡ Some first.0) n (subst (λ (x : Token). next stage (symbol x) ≡ Some first.0) (sym same.0) first.1)) (some_pair first.0 Closed (noted limit (entry stage) at u) limit' first.2).0
harmless_name stage name t ts n stop at limit limit' (u ∷ w ∷ piece) rest are leads h =
    let same = heads name u (t ∷ ts) (w ∷ (piece ++ rest)) are in
    let first = drive_first stage Closed at limit limit' u (w ∷ piece) h in
    stop_drive first.0 Closed (suc at) (noted limit (entry stage) at u) limit' w piece (subst (λ (x : Token). IsStop (symbol x)) (heads t w ts (piece ++ rest) same.1).0 stop) first.2

-- a name that takes none before some tokens takes none before harmless ones
pub none_kept : (opening : Token) (front tail more : List Token) → Is "<" opening → Ended (opening ∷ (front ++ tail)) → TakesNone (opening ∷ (front ++ tail))
    → ((stage : Stage) (limit : Option Told) → drive (Head 0 0) 1 None front ≡ Some (stage, limit) → Harmless stage more) → TakesNone (opening ∷ (front ++ more))
none_kept opening front tail more less e none harmless =
    let d = none_dies 0 0 None opening (front ++ tail) less e none in
    kept_by d.0 d.1 d.2 d.3 (splits d.3.alive.piece d.2 front tail (sym d.3.alive.are))
  where
    kept_by : (at' : ℕ) (limit' : Option Told) (r : List Token) (d : Dies (Head 0 0) 1 None (front ++ tail) at' limit' r) → Splits d.alive.piece r front tail → TakesNone (opening ∷ (front ++ more))
    kept_by at' limit' r d (longer mid is are) args rest takes =
        let f = drive_front (Head 0 0) d.stage' 1 None limit' front mid (subst (λ ts. drive (Head 0 0) 1 None ts ≡ Some (d.stage', limit')) is d.alive.drives.is) in
        let g = args_go takes 0 0 None in
        let m = meets (Head 0 0) f.0 1 None f.1 g.pieces.limit' front more g.pieces.piece rest g.pieces.are f.2 g.pieces.drives.is in
        harmless f.0 f.1 f.2 (1 + length front) f.1 g.pieces.limit' m.more rest m.are (takes_leads takes) m.drives
    kept_by at' limit' r d (shorter t mid is are) args rest takes =
        dead_none opening t (mid ++ tail) (mid ++ more) d are args rest
        (subst (λ ts. TakesTypeArgs (opening ∷ ts) args rest) (ap (λ ts. ts ++ more) is ∙ append_assoc d.alive.piece (t ∷ mid) more) takes)

-- Where a name takes type arguments, a name before it whose own go on over these takes none.
named_next : (stage s : Stage) → next stage Name ≡ Some s → (t : Stage) → next s (Sign (codes "<")) ≡ Some t → (types : ℕ) × (many : ℕ) × (t ≡ Head (suc types) (suc many))
named_next (Head types many) s h t k =
    let same : Named' types many ≡ s = some_is _ _ h in (types, many, sym (some_is (Head (suc types) (suc many)) t (ap (λ s. next s (Sign (codes "<"))) same ∙ k)))
named_next (Named' types many) s h t k = absurd (cc)
named_next (Whole types many) s h t k = absurd (cc)
named_next (Dot types many) s h t k =
    let same : Whole types many ≡ s = some_is _ _ h in
    let none : next s (Sign (codes "<")) ≡ None = ap (λ s. next s (Sign (codes "<"))) (sym same) in absurd (cc)
named_next Closed s h t k = absurd (cc)

raised_closed : {many : ℕ} {s stage : Stage} → Raised many s stage → s ≡ Closed → (other : ℕ) × (stage ≡ Whole other many)
raised_closed of_head h = absurd (cc)
raised_closed of_named h = absurd (cc)
raised_closed of_whole h = absurd (cc)
raised_closed of_dot h = absurd (cc)
raised_closed (of_closed {other = other}) h = (other, refl)

record OverWhole (front : List Token) : Type 0 where
  types : ℕ
  many : ℕ
  limit : Option Told
  is : drive (Head 0 0) 1 None front ≡ Some (Whole types many, limit)

-- the arguments of the name before
over : (before piece closing : List Token) (name opening : Token) (types : ℕ) (limit : Option Told) (at : ℕ) (stage : Stage) (l : Option Told) → IsName name → Is "<" opening
    → drive (Head 0 0) 1 None (before ++ name ∷ opening ∷ piece) ≡ Some (stage, l) → (l' : Option Told) → drive (Head types 0) at limit (piece ++ closing) ≡ Some (Closed, l')
    → OverWhole (before ++ name ∷ opening ∷ (piece ++ closing))
over before piece closing name opening types limit at stage l n less h l' k =
    let f = drive_front (Head 0 0) stage 1 None l before (name ∷ opening ∷ piece) h in
    let one = drive_first f.0 stage (1 + length before) f.1 l name (opening ∷ piece) f.3 in
    let l1 = noted f.1 (entry f.0) (1 + length before) name in
    let two = drive_first one.0 stage (suc (1 + length before)) l1 l opening piece one.2 in
    let l2 = noted l1 (entry one.0) (suc (1 + length before)) opening in
    let at_name = subst (λ s. next f.0 s ≡ Some one.0) n one.1 in
    let at_less = subst (λ s. next one.0 s ≡ Some two.0) less two.1 in
    let head = named_next f.0 one.0 at_name two.0 at_less in
    let r = drive_raised head.1 (piece ++ closing) (Head types 0) (Head (suc head.0) (suc head.1)) Closed at (suc (suc (1 + length before))) limit l2 l' of_head k in
    let whole = raised_closed r.raised refl in
    record {
      types = whole.0;
      many = head.1;
      limit = r.limit';
      is = drive_append (Head 0 0) f.0 (Whole whole.0 head.1) 1 None f.1 r.limit' before (name ∷ opening ∷ (piece ++ closing)) f.2
          (ap (λ o. drive_by o (λ s. drive s (suc (1 + length before)) l1 (opening ∷ (piece ++ closing)))) one.1
          ∙ ap (λ o. drive_by o (λ s. drive s (suc (suc (1 + length before))) l2 (piece ++ closing))) two.1
          ∙ ap (λ s. drive s (suc (suc (1 + length before))) l2 (piece ++ closing)) head.2
          ∙ r.is ∙ ap (λ s. Some (s, r.limit')) whole.1);
    }

whole_stop : (types many at : ℕ) (limit limit' : Option Told) (t : Token) (ts piece rest : List Token) → IsStop (symbol t) → t ∷ ts ≡ piece ++ rest → drive (Whole types many) at limit piece ≡ Some (Closed, limit') → ⊥
whole_stop types many at limit limit' t ts [] rest stop are h = let same = (some_pair (Whole types many) Closed limit limit' h).0 in absurd (cc)
whole_stop types many at limit limit' t ts (u ∷ piece) rest stop are h =
    stop_drive (Whole types many) Closed at limit limit' u piece (subst (λ (x : Token). IsStop (symbol x)) (heads t u ts (piece ++ rest) are).0 stop) h

pub none_over : (first : Token) (before piece tail closing : List Token) (name opening lead : Token) (other : List Token) (types at : ℕ) (limit l' : Option Told)
    → Is "<" first → IsName name → Is "<" opening → IsStop (symbol lead)
    → Ended (first ∷ (before ++ name ∷ opening ∷ (piece ++ tail))) → TakesNone (first ∷ (before ++ name ∷ opening ∷ (piece ++ tail)))
    → drive (Head types 0) at limit (piece ++ closing) ≡ Some (Closed, l')
    → TakesNone (first ∷ (before ++ name ∷ opening ∷ ((piece ++ closing) ++ lead ∷ other)))
none_over first before piece tail closing name opening lead other types at limit l' less n less' stop e none closes =
    let d = none_dies 0 0 None first (before ++ name ∷ opening ∷ (piece ++ tail)) less e none in
    let assoc : (before ++ name ∷ opening ∷ piece) ++ tail ≡ before ++ name ∷ opening ∷ (piece ++ tail) = append_assoc before (name ∷ opening ∷ piece) tail in
    over_by d.0 d.1 d.2 d.3 (splits d.3.alive.piece d.2 (before ++ name ∷ opening ∷ piece) tail (sym d.3.alive.are ∙ sym assoc))
  where
    over_by : (at' : ℕ) (limit' : Option Told) (r : List Token) (d : Dies (Head 0 0) 1 None (before ++ name ∷ opening ∷ (piece ++ tail)) at' limit' r) → Splits d.alive.piece r (before ++ name ∷ opening ∷ piece) tail
        → TakesNone (first ∷ (before ++ name ∷ opening ∷ ((piece ++ closing) ++ lead ∷ other)))
    over_by at' limit' r d (longer mid is are) args rest takes =
        let f = drive_front (Head 0 0) d.stage' 1 None limit' (before ++ name ∷ opening ∷ piece) mid (subst (λ ts. drive (Head 0 0) 1 None ts ≡ Some (d.stage', limit')) is d.alive.drives.is) in
        let w = over before piece closing name opening types limit at f.0 f.1 n less' f.2 l' closes in
        let front = before ++ name ∷ opening ∷ (piece ++ closing) in
        let takes' = subst (λ ts. TakesTypeArgs (first ∷ ts) args rest) (sym (append_assoc before (name ∷ opening ∷ (piece ++ closing)) (lead ∷ other))) takes in
        let g = args_go takes' 0 0 None in
        let m = meets (Head 0 0) (Whole w.types w.many) 1 None w.limit g.pieces.limit' front (lead ∷ other) g.pieces.piece rest g.pieces.are w.is g.pieces.drives.is in
        whole_stop w.types w.many (1 + length front) w.limit g.pieces.limit' lead other m.more rest stop m.are m.drives
    over_by at' limit' r d (shorter t mid is are) args rest takes =
        let assoc : before ++ name ∷ opening ∷ ((piece ++ closing) ++ lead ∷ other) ≡ (before ++ name ∷ opening ∷ piece) ++ (closing ++ lead ∷ other) =
        ap (λ ts. before ++ name ∷ opening ∷ ts) (append_assoc piece closing (lead ∷ other)) ∙ sym (append_assoc before (name ∷ opening ∷ piece) (closing ++ lead ∷ other)) in
        dead_none first t (mid ++ tail) (mid ++ (closing ++ lead ∷ other)) d are args rest
        (subst (λ ts. TakesTypeArgs (first ∷ ts) args rest) (assoc ∙ ap (λ ts. ts ++ (closing ++ lead ∷ other)) is ∙ append_assoc d.alive.piece (t ∷ mid) (closing ++ lead ∷ other)) takes)
