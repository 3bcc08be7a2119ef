-- Names whose type arguments are missed take none before other tokens too.
use Rattle.std.proofs.Common.{◌≡◌, inl, inr, ℕ, zero, suc, pred, ◌+◌, ◌<◌, ◌≤◌, Bool, true, List, [], ◌∷◌, ◌++◌, length, refl, sym, ap, subst, ◌∙◌, codes, arith, le_refl}
use Rattle.std.specs.Prelude.{Option, Some, None}
use Rattle.std.proofs.lemmas.Bool.{false≢true}
use Rattle.def_token.specs.Lexical as lexical
use Rattle.def_token.specs.Lexical.{Token}
use Rattle.def_tree.specs.Expressions.{LeadsOn, TakesTypeArgs, TakesNone}
use Rattle.def_tree.specs.Limits.{Entry, plain, args_entries}
use Rattle.def_tree.specs.Symbol.{End, symbol, Is}
use Rattle.def_tree.specs.Types.{IsTypeArgs, type_args}
use Rattle.def_tree.specs.TypeTree.{TypeTrees}
use Rattle.def_reading.specs.Cursor.{Told, Cursor, At, noted}
use Rattle.def_reading.specs.TypeAhead.{LookAhead, Found, Missing, found_then, list_ahead, leads_on, if_led, led_by, taken_ahead}
use Rattle.def_reading.specs.TypeReading.{Ended}
use Rattle.law_types.proofs.AheadComplete.{closed_entries, args_closed}
use Rattle.law_types.proofs.AheadSound.{none_missing}
use Rattle.law_types.proofs.AheadStages.{Alive, Dead, Dies, ListLook, list_looks, drive_first, taken_by_look}
use Rattle.law_types.proofs.LimitSpots.{same_place}
use Rattle.law_types.proofs.Stopping.{ended_behind}
use Rattle.law_types.proofs.TypeStages.{Stage, Head, Named', Whole, Dot, Closed, next, entry, drive, Drives, Pieces, list_pieces, some_pair}

driven : {stage stage' : Stage} {at : ℕ} {limit limit' : Option Told} {piece : List Token} → drive stage at limit piece ≡ Some (stage', limit') → Drives stage at limit piece stage' limit'
driven h = record { is = h }

-- where a look misses
led_dies : (b : Bool) (types at : ℕ) (limit : Option Told) (ts : List Token) (args : TypeTrees) (a : ℕ) (l : Option Told) (r : List Token) → leads_on r ≡ b → Alive (Head types zero) at limit ts Closed a l r
    → (at' : ℕ) (limit' : Option Told) (rest : List Token) → led_by b args (At a l r) ≡ Missing (At at' limit' rest) → Dies (Head types zero) at limit ts at' limit' rest
led_dies b types at limit ts args a l r h p at' limit' rest is =
    let both = taken_by_look b types at limit ts args a l r h p (At at' limit' rest) is in
    let same = same_place both.1 in
    subst (λ n. Dies (Head types zero) at limit ts n limit' rest) (sym same.0)
    (subst (λ m. Dies (Head types zero) at limit ts a m rest) (sym same.1) (subst (Dies (Head types zero) at limit ts a l) (sym same.2) both.0))

abbrev missing_at : Cursor → LookAhead TypeTrees
missing_at place = Missing place

missing_is : (p q : Cursor) → missing_at p ≡ Missing q → p ≡ q
missing_is p q h = cc

look_dies : (look : LookAhead TypeTrees) (types at : ℕ) (limit : Option Told) (ts : List Token) → ListLook types zero at limit ts look
    → (at' : ℕ) (limit' : Option Told) (rest : List Token) → found_then if_led look ≡ Missing (At at' limit' rest) → Dies (Head types zero) at limit ts at' limit' rest
look_dies (Found args (At a l r)) types at limit ts p at' limit' rest is = led_dies (leads_on r) types at limit ts args a l r refl p at' limit' rest is
look_dies (Missing (At a l r)) types at limit ts p at' limit' rest is =
    let same = same_place (missing_is (At a l r) (At at' limit' rest) is) in
    subst (λ n. Dies (Head types zero) at limit ts n limit' rest) same.0
    (subst (λ m. Dies (Head types zero) at limit ts a m rest) same.1 (subst (Dies (Head types zero) at limit ts a l) same.2 p))

less_no_end : (t : Token) → Is "<" t → symbol t ≡ End → ⊥
less_no_end t h e = cc

pub missing_dies : (types at : ℕ) (limit : Option Told) (opening : Token) (ts : List Token) → Is "<" opening → Ended (opening ∷ ts) → (at' : ℕ) (limit' : Option Told) (rest : List Token)
    → taken_ahead types at limit (opening ∷ ts) ≡ Missing (At at' limit' rest) → Dies (Head types zero) (suc at) limit ts at' limit' rest
missing_dies types at limit opening ts h e at' limit' rest is =
    look_dies (list_ahead (suc (length (opening ∷ ts))) types (At (suc at) limit ts)) types (suc at) limit ts
    (list_looks (suc (length (opening ∷ ts))) types zero (suc at) limit ts (omega arith) (ended_behind opening ts (less_no_end opening h) e)) at' limit' rest is

pub none_dies : (types at : ℕ) (limit : Option Told) (opening : Token) (ts : List Token) → Is "<" opening → Ended (opening ∷ ts) → TakesNone (opening ∷ ts)
    → (at' : ℕ) × (limit' : Option Told) × (rest : List Token) × Dies (Head types zero) (suc at) limit ts at' limit' rest
none_dies types at limit opening ts h e none =
    let m = none_missing types at limit opening ts h none in
    (m.at, m.limit, m.rest, missing_dies types at limit opening ts h e m.at m.limit m.rest m.is)

-- type arguments as tokens that go on
pub record ArgsGo (types at : ℕ) (limit : Option Told) (ts : List Token) (args : TypeTrees) (rest : List Token) : Type 0 where
  pub pieces : Pieces (Head types zero) (suc at) limit ts (closed_entries types args) Closed rest
  pub entries : args_entries types args ≡ plain ∷ closed_entries types args

pub args_go_by : {tokens after : List Token} {args : TypeTrees} → IsTypeArgs tokens args after → (types at : ℕ) (limit : Option Told) (opening : Token) (ts : List Token) → tokens ≡ opening ∷ ts → ArgsGo types at limit ts args after
args_go_by {after = after} {args = args} (type_args {opening = first} {closing = closing} {tokens = inner} h l c) types at limit opening ts is =
    let same : inner ≡ ts = cc in
    record { pieces = subst (λ ts. Pieces (Head types zero) (suc at) limit ts (closed_entries types args) Closed after) same (list_pieces l closing after refl c types zero (suc at) limit); entries = args_closed types l }

pub args_go : {opening : Token} {ts rest : List Token} {args : TypeTrees} → TakesTypeArgs (opening ∷ ts) args rest → (types at : ℕ) (limit : Option Told) → ArgsGo types at limit ts args rest
args_go {opening = opening} {ts = ts} t types at limit = args_go_by t.arguments types at limit opening ts refl

-- one list in two parts twice
pub data Splits {A : Type 0} (front behind front' behind' : List A) : Type 0 where
  longer : (more : List A) → front ≡ front' ++ more → behind' ≡ more ++ behind → Splits front behind front' behind'
  shorter : (a : A) (more : List A) → front' ≡ front ++ a ∷ more → behind ≡ a ∷ more ++ behind' → Splits front behind front' behind'

pub heads : {A : Type 0} (a b : A) (more others : List A) → a ∷ more ≡ b ∷ others → (a ≡ b) × (more ≡ others)
heads a b more others h = (cc, cc)

splits_more : {A : Type 0} (a b : A) (front behind front' behind' : List A) → a ≡ b → Splits front behind front' behind' → Splits (a ∷ front) behind (b ∷ front') behind'
splits_more a b front behind front' behind' h (longer more is are) = longer more (ap (λ x. x ∷ front) h ∙ ap (λ xs. b ∷ xs) is) are
splits_more a b front behind front' behind' h (shorter c more is are) = shorter c more (ap (λ x. x ∷ front') (sym h) ∙ ap (λ xs. a ∷ xs) is) are

pub splits : {A : Type 0} (front behind front' behind' : List A) → front ++ behind ≡ front' ++ behind' → Splits front behind front' behind'
splits front behind [] behind' h = longer front refl (sym h)
splits [] behind (b ∷ front') behind' h = shorter b front' refl h
splits (a ∷ front) behind (b ∷ front') behind' h =
    let same = heads a b (front ++ behind) (front' ++ behind') h in
    splits_more a b front behind front' behind' same.0 (splits front behind front' behind' same.1)

-- Two ways of the same tokens, of which one comes to the end of the arguments: it goes at least as far.
pub record Meets (stage : Stage) (at : ℕ) (limit : Option Told) (piece tail closed rest : List Token) (limit' : Option Told) : Type 0 where
  pub more : List Token
  pub is : closed ≡ piece ++ more
  pub are : tail ≡ more ++ rest
  pub drives : drive stage at limit more ≡ Some (Closed, limit')

closed_first : (at : ℕ) (limit : Option Told) (t : Token) (ts : List Token) (s : Stage) (l : Option Told) (stage : Stage) → stage ≡ Closed → drive stage at limit (t ∷ ts) ≡ Some (s, l) → ⊥
closed_first at limit t ts s l stage same h =
    let none : next stage (symbol t) ≡ None = ap (λ x. next x (symbol t)) same in
    let first = drive_first stage s at limit l t ts h in
    let some = first.1 in cc

next_same : (o : Option Stage) (s s' : Stage) → o ≡ Some s → o ≡ Some s' → s ≡ s'
next_same o s s' h k = cc

pub meets : (stage stage' : Stage) (at : ℕ) (limit limit' limit'' : Option Told) (piece tail closed rest : List Token) → piece ++ tail ≡ closed ++ rest
    → drive stage at limit piece ≡ Some (stage', limit') → drive stage at limit closed ≡ Some (Closed, limit'')
    → Meets stage' (at + length piece) limit' piece tail closed rest limit''
meets stage stage' at limit limit' limit'' [] tail closed rest h p c =
    let same = some_pair stage stage' limit limit' p in
    record {
      more = closed;
      is = refl;
      are = h;
      drives = ap (λ n. drive stage' n limit' closed) (omega arith) ∙ ap (λ l. drive stage' at l closed) (sym same.1) ∙ ap (λ s. drive s at limit closed) (sym same.0) ∙ c;
    }
meets stage stage' at limit limit' limit'' (t ∷ piece) tail [] rest h p c =
    absurd (closed_first at limit t piece stage' limit' stage (some_pair stage Closed limit limit'' c).0 p)
meets stage stage' at limit limit' limit'' (t ∷ piece) tail (u ∷ closed) rest h p c =
    let same = heads t u (piece ++ tail) (closed ++ rest) h in
    let one = drive_first stage stage' at limit limit' t piece p in
    let two = drive_first stage Closed at limit limit'' t closed (subst (λ x. drive stage at limit (x ∷ closed) ≡ Some (Closed, limit'')) (sym same.0) c) in
    let s = next_same (next stage (symbol t)) two.0 one.0 two.1 one.1 in
    let more = meets one.0 stage' (suc at) (noted limit (entry stage) at t) limit' limit'' piece tail closed rest same.1 one.2
    (subst (λ s. drive s (suc at) (noted limit (entry stage) at t) closed ≡ Some (Closed, limit'')) s two.2) in
    record {
      more = more.more;
      is = ap (λ x. x ∷ closed) (sym same.0) ∙ ap (λ ts. t ∷ ts) more.is;
      are = more.are;
      drives = ap (λ n. drive stage' n limit' more.more) (omega arith) ∙ more.drives;
    }

-- a token that does not go on at a stage does not go on whatever stands behind it
leads_is : (next : Token) (tokens : List Token) → LeadsOn next → leads_on (next ∷ tokens) ≡ true
leads_is next tokens (inl h) = rw h refl
leads_is next tokens (inr (inl h)) = rw h refl
leads_is next tokens (inr (inr h)) = rw h refl

pub takes_leads : {ts rest : List Token} {args : TypeTrees} → TakesTypeArgs ts args rest → leads_on rest ≡ true
takes_leads t = rw t.rest_is (leads_is t.next t.behind t.leads)

-- what stands where arguments end or go on behind some of their tokens
pub dead_stage : (stage : Stage) (at : ℕ) (limit limit' : Option Told) (t : Token) (x y more rest : List Token) → Dead stage (t ∷ x) → t ∷ y ≡ more ++ rest → leads_on rest ≡ true
    → drive stage at limit more ≡ Some (Closed, limit') → ⊥
dead_stage stage at limit limit' t x y [] rest d h leads p =
    let closed = (some_pair stage Closed limit limit' p).0 in
    let on : leads_on (t ∷ y) ≡ true = ap leads_on h ∙ leads in
    false≢true (sym (d.1 closed) ∙ on)
dead_stage stage at limit limit' t x y (u ∷ more) rest d h leads p =
    let same = heads t u y (more ++ rest) h in
    let first = drive_first stage Closed at limit limit' u more p in
    let none : next stage (symbol u) ≡ None = subst (λ (z : Token). next stage (symbol z) ≡ None) same.0 d.0 in
    let some = first.1 in cc

-- so type arguments go no further than to that token
pub dead_none : {types at : ℕ} {limit : Option Told} {at' : ℕ} {limit' : Option Told} {ts r : List Token} (opening t : Token) (x y : List Token) (d : Dies (Head types zero) (suc at) limit ts at' limit' r) → r ≡ t ∷ x
    → TakesNone (opening ∷ (d.alive.piece ++ t ∷ y))
dead_none {types = types} {at = at} {limit = limit} {limit' = limit'} opening t x y d is args rest takes =
    let g = args_go takes types at limit in
    let m = meets (Head types zero) d.stage' (suc at) limit limit' g.pieces.limit' d.alive.piece (t ∷ y) g.pieces.piece rest g.pieces.are d.alive.drives.is g.pieces.drives.is in
    dead_stage d.stage' (suc at + length d.alive.piece) limit' g.pieces.limit' t x y m.more rest (subst (Dead d.stage') is d.dead) m.are (takes_leads takes) m.drives

-- the limit on the way is the first one
pub limit_stays : (stage stage' : Stage) (at : ℕ) (told : Told) (limit' : Option Told) (ts : List Token) → drive stage at (Some told) ts ≡ Some (stage', limit') → Some told ≡ limit'
limit_stays stage stage' at told limit' [] h = (some_pair stage stage' (Some told) limit' h).1
limit_stays stage stage' at told limit' (t ∷ ts) h =
    let first = drive_first stage stage' at (Some told) limit' t ts h in
    limit_stays first.0 stage' (suc at) told limit' ts (ap (λ l. drive first.0 (suc at) l ts) (sym (still (entry stage) at t)) ∙ first.2)
  where
    still : (e : Entry) (at : ℕ) (t : Token) → noted (Some told) e at t ≡ Some told
    still None at t = refl
    still (Some l) at t = refl

-- no limit is told before a place but those on the way there
pub data Within (at : ℕ) : Option Told → Type 0 where
  no_limit : Within at None
  a_limit : (told : Told) → told.at < at → Within at (Some told)

pub within_noted : (at : ℕ) (limit : Option Told) (e : Entry) (t : Token) → Within at limit → Within (suc at) (noted limit e at t)
within_noted at None None t w = no_limit
within_noted at None (Some l) t w = a_limit _ (omega arith)
within_noted at (Some told) None t (a_limit same h) = a_limit told (omega (arith, h))
within_noted at (Some told) (Some l) t (a_limit same h) = a_limit told (omega (arith, h))

-- a limit, and what it is on the way to a later place
pub data Grows (at : ℕ) (limit : Option Told) : Option Told → Type 0 where
  same_limit : Grows at limit limit
  new_limit : (told : Told) → limit ≡ None → at ≤ told.at → Grows at limit (Some told)

pub grows_noted : (at : ℕ) (limit : Option Told) (e : Entry) (t : Token) → Grows at limit (noted limit e at t)
grows_noted at None None t = same_limit
grows_noted at None (Some l) t = new_limit _ refl (le_refl at)
grows_noted at (Some told) None t = same_limit
grows_noted at (Some told) (Some l) t = same_limit

pub grows_more : (at at' : ℕ) (limit limit' limit'' : Option Told) → at ≤ at' → Grows at limit limit' → Grows at' limit' limit'' → Grows at limit limit''
grows_more at at' limit limit' limit'' h same_limit same_limit = same_limit
grows_more at at' limit limit' limit'' h same_limit (new_limit told is k) = new_limit told is (omega (arith, h, k))
grows_more at at' limit limit' limit'' h (new_limit told is k) same_limit = new_limit told is k
grows_more at at' limit limit' limit'' h (new_limit told is k) (new_limit other none l) = absurd (cc)

pub drive_grows : (stage stage' : Stage) (at : ℕ) (limit limit' : Option Told) (ts : List Token) → drive stage at limit ts ≡ Some (stage', limit') → Grows at limit limit'
drive_grows stage stage' at limit limit' [] h = subst (Grows at limit) (some_pair stage stage' limit limit' h).1 same_limit
drive_grows stage stage' at limit limit' (t ∷ ts) h =
    let first = drive_first stage stage' at limit limit' t ts h in
    grows_more at (suc at) limit (noted limit (entry stage) at t) limit' (omega arith) (grows_noted at limit (entry stage) t) (drive_grows first.0 stage' (suc at) (noted limit (entry stage) at t) limit' ts first.2)

-- tokens of which completions are made
abbrev token : lexical.Kind → List ℕ → Token
token kind text = record { kind = kind; text = text; start = 0; end = 0; place = record { line = 1; column = 1 } }

abbrev pub greater : Token
greater = token lexical.Mark (codes ">")

abbrev pub int_word : Token
int_word = token lexical.Keyword (codes "int")

abbrev pub some_name : Token
some_name = token lexical.Name (codes "x")

-- what closes type arguments
abbrev pub greaters : ℕ → List Token
greaters zero = greater ∷ []
greaters (suc many) = greater ∷ greaters many

abbrev pub closers : Stage → List Token
closers (Head types many) = int_word ∷ greaters many
closers (Named' types many) = greaters many
closers (Whole types many) = greaters many
closers (Dot types many) = some_name ∷ greaters many
closers Closed = []

-- a stage where the arguments end
record Comes (stage : Stage) (at : ℕ) (limit : Option Told) (ts : List Token) : Type 0 where
  limit' : Option Told
  is : drive stage at limit ts ≡ Some (Closed, limit')

whole_close : (types many at : ℕ) (limit : Option Told) → Comes (Whole types many) at limit (greaters many)
whole_close types zero at limit = record { limit' = limit; is = refl }
whole_close types (suc many) at limit = let more = whole_close (pred types) many (suc at) limit in record { limit' = more.limit'; is = more.is }

named_close : (types many at : ℕ) (limit : Option Told) → Comes (Named' types many) at limit (greaters many)
named_close types zero at limit = record { limit' = limit; is = refl }
named_close types (suc many) at limit = let more = whole_close (pred types) many (suc at) limit in record { limit' = more.limit'; is = more.is }

pub stage_closes : (stage : Stage) (at : ℕ) (limit : Option Told) → (limit' : Option Told) × (drive stage at limit (closers stage) ≡ Some (Closed, limit'))
stage_closes (Head types many) at limit = let more = whole_close types many (suc at) (noted limit (entry (Head types many)) at int_word) in (more.limit', more.is)
stage_closes (Named' types many) at limit = let more = named_close types many at limit in (more.limit', more.is)
stage_closes (Whole types many) at limit = let more = whole_close types many at limit in (more.limit', more.is)
stage_closes (Dot types many) at limit = let more = whole_close types many (suc at) limit in (more.limit', more.is)
stage_closes Closed at limit = (limit, refl)
