-- Where a limit stands before a form that no way reaches, whatever is read of it tells the limit.
use Rattle.std.proofs.Common.{ℕ, zero, suc, Bool, true, false, List, [], length}
use Rattle.std.specs.Prelude.{Option}
use Rattle.def_token.specs.Lexical.{Token}
use Rattle.def_tree.specs.Limits.{Entry}
use Rattle.def_tree.specs.Symbol.{Symbol}
use Rattle.def_reading.specs.Cursor.{Cursor, FarthestFailure}
use Rattle.def_reading.specs.StmtReading.{stmt_in}
use Rattle.def_reading.specs.Try.{Reads, Reader, try_then, try_as}
use Rattle.def_decl_reading.specs.Form.{Form, Made, Never, Branch, Then, As, Listed, Many, Until, AType, AnExpr, Stmts, is_front, begins, with_first, many_in, unless_by, until_in, reads}
use Rattle.sl_stmt.proofs.Deciding.{Decides, decides_refused, decides_end, decides_as, decides_then, decides_choice, decides_listed, decides_type, decides_expr}
use Rattle.sl_stmt.proofs.StmtDecides.{decides_stmts, decides_stmt}

decides_many : {A : Type 0} (test : Symbol → Bool) (entry : Entry) (part : Token → Reader A)
    → ((token : Token) → Decides (part token)) → (turns : ℕ) → Decides (many_in test entry part turns)
decides_many {A = A} test entry part k zero = decides_refused (List A)
decides_many {A = A} test entry part k (suc turns) =
    decides_choice test entry (λ token reach place. try_then (λ first reach place.
    try_as (with_first first) (many_in test entry part turns reach place)) (part token reach place)) (λ reach place.
    Reads [] place reach)
    (λ token. decides_then (λ first reach place. try_as (with_first first) (many_in test entry part turns reach place))
    (part token) (k token)
    (λ first. decides_as (with_first first) (many_in test entry part turns) (decides_many test entry part k turns)))
    (decides_end {A = List A} [])

unless_decides : {A : Type 0} (b : Bool) (more : Reader (List A)) → Decides more → Decides (unless_by b more)
unless_decides {A = A} true more k = decides_end {A = List A} []
unless_decides false more k = k

pub decides_until : {A : Type 0} (test : Symbol → Bool) (part : Reader A) → Decides part → (turns : ℕ)
    → Decides (until_in test part turns)
decides_until {A = A} test part k zero = decides_refused (List A)
decides_until {A = A} test part k (suc turns) =
    λ told at tokens reach h o.
    let more = λ (reach : Option FarthestFailure) (place : Cursor). try_then (λ first reach place.
    try_as (with_first first) (until_in test part turns reach place)) (part reach place) in
    unless_decides (begins test tokens) more
    (decides_then (λ first reach place. try_as (with_first first) (until_in test part turns reach place)) part k (λ first.
    decides_as (with_first first) (until_in test part turns) (decides_until test part k turns)))
    told at tokens reach h o

-- every form tells it
pub decides_form : {A : Type 0} (form : Form A) → Decides (reads form)
decides_form (Made a) = decides_end a
decides_form {A = A} Never = decides_refused A
decides_form (Branch front entry yes' no') =
    decides_choice (is_front front) entry (λ token. reads (yes' token)) (reads no') (λ token. decides_form (yes' token))
    (decides_form no')
decides_form (Then form next) =
    decides_then (λ a. reads (next a)) (reads form) (decides_form form) (λ a. decides_form (next a))
decides_form (As make form) = decides_as make (reads form) (decides_form form)
decides_form (Listed form) =
    λ told at tokens reach h o. decides_listed with_first [] (reads form) (decides_form form) (suc (length tokens)) told
    at tokens reach h o
decides_form (Many front entry form) = λ told at tokens reach h o.
    decides_many (is_front front) entry (λ token. reads (form token)) (λ token. decides_form (form token))
    (suc (length tokens)) told at tokens reach h o
decides_form (Until test form) =
    λ told at tokens reach h o. decides_until test (reads form) (decides_form form) (suc (length tokens)) told at tokens
    reach h o
decides_form (AType around) = decides_type around
decides_form (AnExpr around) = decides_expr false around
decides_form (Stmts around) =
    λ told at tokens reach h o. decides_stmts (stmt_in (suc (length tokens)) around)
    (decides_stmt (suc (length tokens)) around) (suc (length tokens)) told at tokens reach h o
