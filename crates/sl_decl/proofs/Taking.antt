-- Forms of tokens alone, one part behind another.
use Rattle.std.proofs.Common.{◌≡◌, ◌≤◌, List, ℕ, ap, subst, sym, ◌∙◌, arith, le_refl}
use Rattle.std.specs.Prelude.{IsErrAnd, None, Result, Ok, Err}
use Rattle.std.specs.Option.{option_map}
use Rattle.def_token.specs.Lexical as lexical
use Rattle.def_tree.specs.Limits.{Entry}
use Rattle.def_reading.specs.Try.{Reads, try_then}
use Rattle.def_decl_reading.specs.Form.{Front, Form, Made, Never, Branch, Then, is_front, reads}
use Rattle.sl_token.specs.View.{token_in}
use Rattle.sl_token.specs.declared.token.Token.{Token}
use Rattle.sl_cursor.specs.Following.{IsAt, Follows, IsPassed, MustPass}
use Rattle.sl_cursor.specs.Seen.{place_in, reach_in}
use Rattle.sl_cursor.specs.Tries.{on_lists}
use Rattle.sl_cursor.specs.declared.source.Here.{Here}
use Rattle.sl_cursor.specs.declared.source.Source.{Source}
use Rattle.sl_cursor.specs.declared.source.Unread.{Unread}
use Rattle.sl_cursor.specs.declared.source.Unread.TheVariants as unread
use Rattle.sl_cursor.proofs.Following.{choice_is, follows_must}
use Rattle.sl_decl.specs.Forms.{IsTaken, TakesForm}

-- what a form of tokens alone comes to
pub record Takes {A B : Type 0} (source : Source) (view : List ℕ → A → B) (form : Form B) (from : Here)
    (result : Result (A × Here) Unread) : Type 0 where
  pub outcome : TakesForm source view form from result

takes_by : {A B : Type 0} (source : Source) (view : List ℕ → A → B) (form next : Form B) (from mid : Here)
    (result : Result (A × Here) Unread) → on_lists source (reads form) from ≡ on_lists source (reads next) mid
    → from.place.at ≤ mid.place.at → (mid.place.limit ≡ None → from.place.limit ≡ None)
    → TakesForm source view next mid result → TakesForm source view form from result
takes_by source view form next from mid (Ok found) is on rises t =
    record { is = is ∙ t.is; rises = λ h. rises (t.rises h); on = omega (arith, on, t.on); behind = t.behind }
takes_by source view form next from mid (Err (unread.Refused reach)) is on rises t = is ∙ t
takes_by source view form next from mid (Err (unread.Deep told)) is on rises t = t
takes_by source view form next from mid (Err unread.NoMemory) is on rises t = tt

-- what stands behind a token
pub takes_yes : {A B : Type 0} {source : Source} {view : List ℕ → A → B} {front : Front} {entry : Entry}
    {next : lexical.Token → Form B} {other : Form B} {from : Here} {token : Token} {to : Here}
    {result : Result (A × Here) Unread} → IsPassed source (is_front front) entry from token to
    → Takes source view (next (token_in source.bytes.now token)) to result
    → Takes source view (Branch front entry next other) from result
takes_yes {source = source} {view = view} {front = front} {entry = entry} {next = next} {other = other} {from = from}
    {token = token} {to = to} {result = result} p t =
    record {
      outcome = takes_by source view (Branch front entry next other) (next (token_in source.bytes.now token)) from to
          result
          (choice_is source (is_front front) entry (λ token. reads (next token)) (reads other) from token to p)
          (omega (arith, p.on)) p.rises t.outcome;
    }

-- what is read behind tokens alone
pub takes_behind : {A B C D : Type 0} {source : Source} {part : A → B} {view : List ℕ → C → D} {form : Form B}
    {next : B → Form D} {from : Here} {read : A} {mid : Here} {result : Result (C × Here) Unread}
    → IsTaken source part (reads form) from read mid → Takes source view (next (part read)) mid result
    → Takes source view (Then form next) from result
takes_behind {source = source} {part = part} {view = view} {form = form} {next = next} {from = from} {read = read}
    {mid = mid} {result = result} t u =
    record {
      outcome = takes_by source view (Then form next) (next (part read)) from mid result
          (ap (try_then (λ tree. reads (next tree))) t.is) t.on t.rises u.outcome;
    }

-- a token that must stand there
pub takes_must : {A B : Type 0} {source : Source} {view : List ℕ → A → B} {front : Front} {entry : Entry}
    {next : lexical.Token → Form B} {from : Here} {stop : Unread} → MustPass source (is_front front) entry from (Err stop)
    → Takes source view (Branch front entry next Never) from (Err stop)
takes_must {B = B} {source = source} {view = view} {front = front} {entry = entry} {next = next} {from = from}
    {stop = stop} m =
    record {
      outcome = stop_by stop
          (follows_must {A = B} source (λ b. b) (is_front front) entry (λ token. reads (next token)) from stop m);
    }
  where
    stop_by : (stop : Unread)
        → Follows {A = B} source (λ b. b) (reads (Branch front entry next Never)) from (Err stop)
        → TakesForm source view (Branch front entry next Never) from (Err stop)
    stop_by (unread.Refused reach) f = f
    stop_by (unread.Deep told) f = f
    stop_by unread.NoMemory f = tt

-- a tree that is known
pub takes_made : {A B : Type 0} {source : Source} {view : List ℕ → A → B} {tree : B} {from : Here} {read : A}
    → IsAt source from.place → tree ≡ view source.bytes.now read
    → Takes source view (Made tree) from (Ok (read, from))
takes_made {source = source} {from = from} at same =
    let bytes = source.bytes.now in
    record {
      outcome = record {
        is = ap (λ tree. Reads tree (place_in bytes from.place) (option_map (reach_in bytes) from.reach)) same;
        rises = λ h. h;
        on = le_refl from.place.at;
        behind = at;
      };
    }

-- what is handed on, and what is told where nothing is read
pub takes : {A B : Type 0} (source : Source) (view : List ℕ → A → B) (form : Form B) (from : Here)
    (result : Result (A × Here) Unread) → Takes source view form from result → TakesForm source view form from result
takes source view form from result t = t.outcome

pub takes_stop : {A B : Type 0} (source : Source) (view : List ℕ → A → B) (form : Form B) (from : Here)
    (result : Result (A × Here) Unread) (stop : Unread) → IsErrAnd result (λ x. x ≡ stop)
    → Takes source view form from (Err stop) → TakesForm source view form from result
takes_stop source view form from (Ok found) stop h t = absurd h
takes_stop source view form from (Err other) stop h t =
    subst (λ (stop : Unread). TakesForm source view form from (Err stop)) (sym h) t.outcome
