-- The reader of a form goes on from its place, or is refused there; and places and limits only grow.
use Rattle.std.proofs.Common.{ℕ, zero, suc, Bool, true, false, List, [], refl}
use Rattle.std.specs.Prelude.{Option}
use Rattle.def_token.specs.Lexical.{Token}
use Rattle.def_tree.specs.Limits.{Entry}
use Rattle.def_tree.specs.Symbol.{Symbol}
use Rattle.def_reading.specs.Cursor.{Told, At, FarthestFailure}
use Rattle.def_reading.specs.StmtReading.{stmts_in, stmt_in}
use Rattle.def_reading.specs.Try.{Reads, Reader, try_then, try_as, listed, ahead}
use Rattle.def_reading.specs.TypeReading.{Ended}
use Rattle.law_exprs.proofs.ExprFronts.{good_expr, good_type}
use Rattle.law_stmts.proofs.StmtFronts.{good_stmts, good_stmt}
use Rattle.law_exprs.proofs.TryComes.{Noted}
use Rattle.law_exprs.proofs.TryFronts.{Rises, Fronts, Good, good_refused, good_end, good_as, good_then, good_choice, good_listed, good_ahead}
use Rattle.law_exprs.proofs.TryHolds.{Keeps, NotEnd}
use Rattle.def_decl_reading.specs.Form.{Front, AName, ANumber, ANarrow, AText, ASign, is_front, Form, Made, Never, Branch, Then, As, Listed, Many, Until, AType, AnExpr, Stmts, begins, with_first, many_in, unless_by, until_in, reads}

-- what a token is to be is not the end
pub front_not_end : (front : Front) → NotEnd (is_front front)
front_not_end AName = refl
front_not_end ANumber = refl
front_not_end ANarrow = refl
front_not_end AText = refl
front_not_end (ASign sign) = refl

-- forms that each begin with a token of one kind
module _ {A : Type 0} (test : Symbol → Bool) (entry : Entry) (ne : NotEnd test) (form : Token → Reader A) (k : (token : Token) → Good (form token)) where
  abbrev more_many : ℕ → A → Reader (List A)
  more_many turns first reach place = try_as (with_first first) (many_in test entry form turns reach place)

  pub good_many : (turns : ℕ) → Good (many_in test entry form turns)
  good_many zero = good_refused (List A)
  good_many (suc turns) =
      good_choice test entry (λ token reach place. try_then (more_many turns) (form token reach place)) (λ reach place. Reads [] place reach) ne
      (λ token. good_then (more_many turns) (form token) (k token) (λ first. good_as (with_first first) (many_in test entry form turns) (good_many turns))) (good_end [])

-- nothing more at a token that passes a test
module _ {A : Type 0} (test : Symbol → Bool) (more : Reader (List A)) (k : Good more) where
  unless_keeps : (b : Bool) → Keeps (λ reach place. unless_by b more reach place)
  unless_keeps true w at limit tokens reach e p = (e, p)
  unless_keeps false w at limit tokens reach e p = k.keeps w at limit tokens reach e p

  unless_rises : (b : Bool) (at : ℕ) (limit : Option Told) (tokens : List Token) (reach : Option FarthestFailure) → Noted at limit → Rises at limit (unless_by b more reach (At at limit tokens))
  unless_rises true at limit tokens reach n = (good_end {A = List A} []).rises at limit tokens reach n
  unless_rises false at limit tokens reach n = k.rises at limit tokens reach n

  unless_fronts : (b : Bool) (at : ℕ) (limit : Option Told) (tokens : List Token) (reach : Option FarthestFailure) → Ended tokens → Fronts at limit tokens (unless_by b more reach (At at limit tokens))
  unless_fronts true at limit tokens reach e = (good_end {A = List A} []).fronts at limit tokens reach e
  unless_fronts false at limit tokens reach e = k.fronts at limit tokens reach e

  good_unless : Good (λ reach place. unless_by (begins test (ahead place)) more reach place)
  good_unless =
      record {
        keeps = λ w at limit tokens reach e p. unless_keeps (begins test tokens) w at limit tokens reach e p;
        rises = λ at limit tokens reach n. unless_rises (begins test tokens) at limit tokens reach n;
        fronts = λ at limit tokens reach e. unless_fronts (begins test tokens) at limit tokens reach e;
      }

-- forms up to a token that passes a test
module _ {A : Type 0} (test : Symbol → Bool) (form : Reader A) (k : Good form) where
  abbrev more_until : ℕ → A → Reader (List A)
  more_until turns first reach place = try_as (with_first first) (until_in test form turns reach place)

  pub good_until : (turns : ℕ) → Good (until_in test form turns)
  good_until zero = good_refused (List A)
  good_until (suc turns) =
      good_unless test (λ reach place. try_then (more_until turns) (form reach place))
      (good_then (more_until turns) form k (λ first. good_as (with_first first) (until_in test form turns) (good_until turns)))

-- each form
pub good_form : {A : Type 0} (form : Form A) → Good (reads form)
good_form (Made made) = good_end made
good_form (Never {A = A}) = good_refused A
good_form (Branch front entry yes' no') =
    good_choice (is_front front) entry (λ token. reads (yes' token)) (reads no') (front_not_end front) (λ token. good_form (yes' token)) (good_form no')
good_form (Then form next) = good_then (λ a. reads (next a)) (reads form) (good_form form) (λ a. good_form (next a))
good_form (As make form) = good_as make (reads form) (good_form form)
good_form (Listed form) = good_ahead (listed with_first [] (reads form)) (good_listed with_first [] (reads form) (good_form form))
good_form (Many front entry form) =
    good_ahead (many_in (is_front front) entry (λ token. reads (form token))) (good_many (is_front front) entry (front_not_end front) (λ token. reads (form token)) (λ token. good_form (form token)))
good_form (Until test form) = good_ahead (until_in test (reads form)) (good_until test (reads form) (good_form form))
good_form (AType around) = good_type around
good_form (AnExpr around) = good_expr false around
good_form (Stmts around) = good_ahead (λ turns. stmts_in (stmt_in turns around) turns) (λ turns. good_stmts (stmt_in turns around) (good_stmt turns around) turns)
