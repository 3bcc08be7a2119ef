-- Forms that are read, one part behind another.
use Rattle.std.proofs.Common.{◌≡◌, ◌≤◌, Bool, true, false, refl, sym, ap, subst}
use Rattle.std.specs.Prelude.{IsErrAnd, None, Result, Ok, Err}
use Prim.Native.String.{String}
use Rattle.def_token.specs.Lexical as lexical
use Rattle.def_tree.specs.Limits.{Entry, Nesting, plain}
use Rattle.def_tree.specs.Symbol.{is_sign}
use Rattle.def_reading.specs.Try.{Reader, try_then}
use Rattle.def_decl_reading.specs.Form.{Front, Form, Made, Never, Branch, Then, As, closed, is_front, reads}
use Rattle.sl_token.specs.View.{token_in, tokens_in}
use Rattle.sl_token.specs.declared.token.Token.{Token}
use Rattle.sl_cursor.specs.Following.{IsAt, IsRead, Follows, passes, IsPassed, MustPass}
use Rattle.sl_stmt.specs.Settling.{Settles}
use Rattle.sl_cursor.specs.Tries.{on_lists}
use Rattle.sl_cursor.specs.declared.source.Here.{Here}
use Rattle.sl_cursor.specs.declared.source.Source.{Source}
use Rattle.sl_cursor.specs.declared.source.Unread.{Unread}
use Rattle.sl_cursor.specs.declared.source.Unread.TheVariants as unread
use Rattle.sl_cursor.proofs.Following.{follows_by, read_as, follows_then, stops_then, stops_as, follows_end, follows_yes, follows_no, follows_must, read_up_to}
use Rattle.sl_stmt.proofs.Settling.{settles_by, settles_yes, settles_no, settles_then, settles_stop_then, settles_stop_as}
use Rattle.sl_decl.specs.Forms.{IsTaken}
use Rattle.sl_decl.proofs.Deciding.{decides_form}

-- what a form comes to, in which blocks may be nested too deep or not
abbrev pub Outcome : {A B : Type 0} → Bool → Source → (A → B) → Reader B → Here → Result (A × Here) Unread → Type 0
Outcome true source view reader from result = Settles source view reader from result
Outcome false source view reader from result = Follows source view reader from result

pub record Comes {A B : Type 0} (deep : Bool) (source : Source) (view : A → B) (form : Form B) (from : Here)
    (result : Result (A × Here) Unread) : Type 0 where
  pub outcome : Outcome deep source view (reads form) from result

-- what is known at a place where no limit ended on the way
pub record Known (P : Type 0) (here : Here) : Type 0 where
  pub holds : here.place.limit ≡ None → P

pub begun : {here : Here} → Known (Unit {0}) here
begun = record { holds = λ h. tt }

pub given : {P : Type 0} {here : Here} → (here.place.limit ≡ None → P) → Known P here
given h = record { holds = h }

-- what is read
pub formed : {A B : Type 0} {source : Source} {view : A → B} {from : Here} {read : A} {to : Here} (form : Form B)
    → Comes false source view form from (Ok (read, to)) → IsRead source view (reads form) from read to
formed form c = c.outcome

-- what is read where it stands at the end of another form
pub whole : {A B : Type 0} {deep : Bool} {source : Source} {view : A → B} {form : Form B} {from : Here} {read : A}
    {to : Here} → IsRead source view (reads form) from read to → Comes deep source view form from (Ok (read, to))
whole {deep = true} r = record { outcome = r }
whole {deep = false} r = record { outcome = r }

-- what is handed on, and what stands at the end
pub follows : {A B : Type 0} (source : Source) (view : A → B) (form : Form B) (from : Here)
    (result : Result (A × Here) Unread) → Comes false source view form from result
    → Follows source view (reads form) from result
follows source view form from result c = c.outcome

pub settles : {A B : Type 0} (source : Source) (view : A → B) (form : Form B) (from : Here)
    (result : Result (A × Here) Unread) → Comes true source view form from result
    → Settles source view (reads form) from result
settles source view form from result c = c.outcome

pub stops : {A B : Type 0} (deep : Bool) (source : Source) (view : A → B) (form : Form B) (from : Here)
    (result : Result (A × Here) Unread) (stop : Unread) → IsErrAnd result (λ x. x ≡ stop)
    → Comes deep source view form from (Err stop)
    → Outcome deep source view (reads form) from result
stops deep source view form from (Ok found) stop h c = absurd h
stops deep source view form from (Err other) stop h c =
    subst (λ (stop : Unread). Outcome deep source view (reads form) from (Err stop)) (sym h) c.outcome

-- what stands behind a token, or at it
pub yes : {A B P : Type 0} {deep : Bool} {source : Source} {view : A → B} {front : Front} {entry : Entry}
    {next : lexical.Token → Form B} {other : Form B} {from : Here} {token : Token} {to : Here}
    {result : Result (A × Here) Unread}
    → Known P from → IsPassed source (is_front front) entry from token to
    → (Known P to → Comes deep source view (next (token_in source.bytes.now token)) to result)
    → Comes deep source view (Branch front entry next other) from result
yes {deep = true} {source = source} {view = view} {front = front} {entry = entry} {next = next} {other = other}
    {from = from} {token = token} {to = to} {result = result} k p c =
    record {
      outcome = settles_yes source view (is_front front) entry (λ token. reads (next token)) (reads other) from
          token to result p (c (record { holds = λ h. k.holds (p.rises h) })).outcome;
    }
yes {deep = false} {source = source} {view = view} {front = front} {entry = entry} {next = next} {other = other}
    {from = from} {token = token} {to = to} {result = result} k p c =
    record {
      outcome = follows_yes source view (is_front front) entry (λ token. reads (next token)) (reads other) from
          token to result p (c (record { holds = λ h. k.holds (p.rises h) })).outcome;
    }

pub no : {A B : Type 0} {deep : Bool} {source : Source} {view : A → B} {front : Front} {entry : Entry}
    {next : lexical.Token → Form B} {other : Form B} {from : Here} {result : Result (A × Here) Unread}
    → passes (is_front front) (tokens_in source.bytes.now from.place.rest.now) ≡ false
    → Comes deep source view other from result → Comes deep source view (Branch front entry next other) from result
no {deep = true} {source = source} {view = view} {front = front} {entry = entry} {next = next} {other = other}
    {from = from} {result = result} h c =
    record {
      outcome = settles_no source view (is_front front) entry (λ token. reads (next token)) (reads other) from
          result h c.outcome;
    }
no {deep = false} {source = source} {view = view} {front = front} {entry = entry} {next = next} {other = other}
    {from = from} {result = result} h c =
    record {
      outcome = follows_no source view (is_front front) entry (λ token. reads (next token)) (reads other) from
          result h c.outcome;
    }

-- what is read behind a form
pub behind : {A B C D P : Type 0} {deep : Bool} {source : Source} {view : A → B} {seen : C → D} {form : Form B}
    {next : B → Form D} {from : Here} {read : A} {mid : Here} {result : Result (C × Here) Unread}
    → Known P from → IsRead source view (reads form) from read mid
    → ((tree : B) → Known ((tree ≡ view read) × P) mid → Comes deep source seen (next tree) mid result)
    → Comes deep source seen (Then form next) from result
behind {deep = true} {source = source} {view = view} {seen = seen} {form = form} {next = next} {from = from} {read = read}
    {mid = mid} {result = result} k r c =
    record {
      outcome = settles_then source view seen (λ tree. reads (next tree)) (reads form) from read mid result r
          (λ tree same. (c tree (record { holds = λ h. (same h, k.holds (r.tried.rises h)) })).outcome);
    }
behind {deep = false} {source = source} {view = view} {seen = seen} {form = form} {next = next} {from = from}
    {read = read} {mid = mid} {result = result} k r c =
    record {
      outcome = follows_then source view seen (λ tree. reads (next tree)) (reads form) from read mid result r
          (λ tree same. (c tree (record { holds = λ h. (same h, k.holds (r.tried.rises h)) })).outcome);
    }

pub outcome_by : {A B : Type 0} (deep : Bool) (source : Source) (view : A → B) (reader next : Reader B) (from mid : Here)
    (result : Result (A × Here) Unread) → on_lists source reader from ≡ on_lists source next mid
    → from.place.at ≤ mid.place.at → (mid.place.limit ≡ None → from.place.limit ≡ None)
    → Outcome deep source view next mid result → Outcome deep source view reader from result
outcome_by true source view reader next from mid result is on rises o =
    settles_by source view reader next from mid result is on rises o
outcome_by false source view reader next from mid result is on rises o =
    follows_by source view reader next from mid result is on rises o

-- what is read behind tokens alone
pub taken : {A B C D P : Type 0} {deep : Bool} {source : Source} {view : A → B} {seen : C → D} {form : Form B}
    {next : B → Form D} {from : Here} {read : A} {mid : Here} {result : Result (C × Here) Unread}
    → Known P from → IsTaken source view (reads form) from read mid
    → (Known P mid → Comes deep source seen (next (view read)) mid result)
    → Comes deep source seen (Then form next) from result
taken {deep = deep} {source = source} {view = view} {seen = seen} {form = form} {next = next} {from = from} {read = read}
    {mid = mid} {result = result} k t c =
    record {
      outcome = outcome_by deep source seen (reads (Then form next)) (reads (next (view read))) from mid result
          (ap (try_then (λ tree. reads (next tree))) t.is) t.on t.rises
          (c (record { holds = λ h. k.holds (t.rises h) })).outcome;
    }

-- a tree made of what is read
pub made_of : {A B C D P : Type 0} {deep : Bool} {source : Source} {view : A → B} {seen : C → D} {make : B → D}
    {form : Form B} {from : Here} {read : A} {made : C} {to : Here}
    → Known P from → IsRead source view (reads form) from read to → (P → make (view read) ≡ seen made)
    → Comes deep source seen (As make form) from (Ok (made, to))
made_of {source = source} {view = view} {seen = seen} {make = make} {form = form} {from = from} {read = read}
    {made = made} {to = to} k r same =
    whole {form = As make form} (read_as source view seen make (reads form) from read made to r (λ h g. same (k.holds g)))

-- a tree that is known
pub made : {A B P : Type 0} {deep : Bool} {source : Source} {view : A → B} {tree : B} {from : Here} {read : A}
    → Known P from → IsAt source from.place → (P → tree ≡ view read)
    → Comes deep source view (Made tree) from (Ok (read, from))
made {source = source} {view = view} {tree = tree} {from = from} {read = read} k at same =
    whole {form = Made tree} (follows_end source view tree from read at (λ h. same (k.holds h)))

-- a form with its mark
closing : {A B : Type 0} (source : Source) (view : A → B) (text : String) (form : Form B) (from : Here) (read : A)
    (mid : Here) (mark : Token) (to : Here)
    → IsRead source view (reads form) from read mid → IsPassed source (is_sign text) plain mid mark to
    → IsRead source view (reads (closed text form)) from read to
closing source view text form from read mid mark to r p =
    read_up_to source view (is_sign text) (reads form) from read mid mark to r p

pub closes : {A B : Type 0} {deep : Bool} {source : Source} {view : A → B} {text : String} {form : Form B} {from : Here}
    {read : A} {mid : Here} {mark : Token} {to : Here}
    → IsRead source view (reads form) from read mid → IsPassed source (is_sign text) plain mid mark to
    → Comes deep source view (closed text form) from (Ok (read, to))
closes {source = source} {view = view} {text = text} {form = form} {from = from} {read = read} {mid = mid} {mark = mark}
    {to = to} r p =
    whole {form = closed text form} (closing source view text form from read mid mark to r p)

pub made_closed : {A B C D P : Type 0} {deep : Bool} {source : Source} {view : A → B} {seen : C → D} {make : B → D}
    {text : String} {form : Form B} {from : Here} {read : A} {mid : Here} {made : C} {mark : Token} {to : Here}
    → Known P from → IsRead source view (reads form) from read mid → IsPassed source (is_sign text) plain mid mark to
    → (P → make (view read) ≡ seen made) → Comes deep source seen (As make (closed text form)) from (Ok (made, to))
made_closed {source = source} {view = view} {text = text} {form = form} {from = from} {read = read} {mid = mid}
    {mark = mark} {to = to} k r p same =
    made_of {form = closed text form} k (closing source view text form from read mid mark to r p) same

-- what is read behind a form with its mark
pub behind_closed : {A B C D P : Type 0} {deep : Bool} {source : Source} {view : A → B} {seen : C → D} {text : String}
    {form : Form B} {next : B → Form D} {from : Here} {read : A} {mid : Here} {mark : Token} {to : Here}
    {result : Result (C × Here) Unread}
    → Known P from → IsRead source view (reads form) from read mid → IsPassed source (is_sign text) plain mid mark to
    → ((tree : B) → Known ((tree ≡ view read) × P) to → Comes deep source seen (next tree) to result)
    → Comes deep source seen (Then (closed text form) next) from result
behind_closed {source = source} {view = view} {text = text} {form = form} {from = from} {read = read} {mid = mid}
    {mark = mark} {to = to} k r p c =
    behind {form = closed text form} k (closing source view text form from read mid mark to r p) c

-- tokens alone are read
pub read_of : {A B : Type 0} {source : Source} {view : A → B} {reader : Reader B} {from : Here} {read : A} {to : Here}
    → IsTaken source view reader from read to → IsRead source view reader from read to
read_of {view = view} {read = read} t =
    record {
      tried = record { tree = view read; is = t.is; same = λ h. refl; rises = t.rises; stands = t.behind.stands };
      on = t.on;
      behind = t.behind;
    }

-- the same inside forms that are equal
pub inside_read : {A B : Type 0} {source : Source} {view : A → B} {from : Here} {read : A} {to : Here} {n m : Nesting}
    (form : Nesting → Form B) → n ≡ m → IsRead source view (reads (form n)) from read to
    → IsRead source view (reads (form m)) from read to
inside_read {source = source} {view = view} {from = from} {read = read} {to = to} form same r =
    subst (λ (n : Nesting). IsRead source view (reads (form n)) from read to) same r

-- Where nothing is read.

-- at a part without statements
pub part_stops : {B C : Type 0} {deep : Bool} {source : Source} {seen : C → B} {form : Form B} {from : Here}
    {stop : Unread} → Follows {A = B} source (λ b. b) (reads form) from (Err stop)
    → Comes deep source seen form from (Err stop)
part_stops {B = B} {deep = deep} {source = source} {seen = seen} {form = form} {from = from} {stop = stop} f =
    record { outcome = stop_by deep stop f }
  where
    stop_by : (deep : Bool) (stop : Unread) → Follows {A = B} source (λ b. b) (reads form) from (Err stop)
        → Outcome deep source seen (reads form) from (Err stop)
    stop_by true (unread.Refused reach) f = f
    stop_by true (unread.Deep told) f = absurd f
    stop_by true unread.NoMemory f = tt
    stop_by false (unread.Refused reach) f = f
    stop_by false (unread.Deep told) f = f
    stop_by false unread.NoMemory f = tt

-- at a part in which blocks may be nested too deep
pub block_stops : {B C : Type 0} {source : Source} {seen : C → B} {form : Form B} {from : Here} {stop : Unread}
    → Settles {A = B} source (λ b. b) (reads form) from (Err stop) → Comes true source seen form from (Err stop)
block_stops {B = B} {source = source} {seen = seen} {form = form} {from = from} {stop = stop} s =
    record { outcome = stop_by stop s }
  where
    stop_by : (stop : Unread) → Settles {A = B} source (λ b. b) (reads form) from (Err stop)
        → Settles source seen (reads form) from (Err stop)
    stop_by (unread.Refused reach) s = s
    stop_by (unread.Deep told) s = s
    stop_by unread.NoMemory s = tt

-- at a token that must stand there
pub must : {A B : Type 0} {deep : Bool} {source : Source} {view : A → B} {front : Front} {entry : Entry}
    {next : lexical.Token → Form B} {from : Here} {stop : Unread}
    → MustPass source (is_front front) entry from (Err stop)
    → Comes deep source view (Branch front entry next Never) from (Err stop)
must {B = B} {source = source} {front = front} {entry = entry} {next = next} {from = from} {stop = stop} m =
    part_stops {form = Branch front entry next Never} (follows_must {A = B} source (λ b. b) (is_front front) entry
    (λ token. reads (next token)) from stop m)

-- at the first of two forms, and in a tree that is made
pub first_stops : {B C D : Type 0} {deep : Bool} {source : Source} {seen : C → D} {form : Form B} {next : B → Form D}
    {from : Here} {stop : Unread}
    → Comes {A = B} deep source (λ b. b) form from (Err stop) → Comes deep source seen (Then form next) from (Err stop)
first_stops {deep = true} {source = source} {seen = seen} {form = form} {next = next} {from = from} {stop = stop} c =
    record {
      outcome = settles_stop_then source (λ b. b) seen (λ tree. reads (next tree)) (reads form) from stop (λ tree.
          decides_form (next tree)) c.outcome;
    }
first_stops {deep = false} {source = source} {seen = seen} {form = form} {next = next} {from = from} {stop = stop} c =
    record { outcome = stops_then source (λ b. b) seen (λ tree. reads (next tree)) (reads form) from stop c.outcome }

pub made_stops : {B C D : Type 0} {deep : Bool} {source : Source} {seen : C → D} {make : B → D} {form : Form B}
    {from : Here} {stop : Unread}
    → Comes {A = B} deep source (λ b. b) form from (Err stop) → Comes deep source seen (As make form) from (Err stop)
made_stops {deep = true} {source = source} {seen = seen} {make = make} {form = form} {from = from} {stop = stop} c =
    record { outcome = settles_stop_as source (λ b. b) seen make (reads form) from stop c.outcome }
made_stops {deep = false} {source = source} {seen = seen} {make = make} {form = form} {from = from} {stop = stop} c =
    record { outcome = stops_as source (λ b. b) seen make (reads form) from stop c.outcome }

-- the same inside forms that are equal
pub inside_stops : {B C : Type 0} {deep : Bool} {source : Source} {seen : C → B} {from : Here} {stop : Unread}
    {n m : Nesting} (form : Nesting → Form B) → n ≡ m → Follows {A = B} source (λ b. b) (reads (form n)) from (Err stop)
    → Comes deep source seen (form m) from (Err stop)
inside_stops {deep = deep} {source = source} {seen = seen} {from = from} {stop = stop} form same f =
    subst (λ (n : Nesting). Comes deep source seen (form n) from (Err stop)) same (part_stops f)

pub inside_blocks : {B C : Type 0} {source : Source} {seen : C → B} {from : Here} {stop : Unread} {n m : Nesting}
    (form : Nesting → Form B) → n ≡ m → Settles {A = B} source (λ b. b) (reads (form n)) from (Err stop)
    → Comes true source seen (form m) from (Err stop)
inside_blocks {source = source} {seen = seen} {from = from} {stop = stop} form same s =
    subst (λ (n : Nesting). Comes true source seen (form n) from (Err stop)) same (block_stops s)
