-- The reader of statements before tokens with the same front.
use Rattle.std.proofs.Common.{◌≡◌, ℕ, zero, suc, ◌+◌, ◌-◌, ◌≤◌, Bool, true, false, List, [], ◌∷◌, length, refl, arith, le_refl}
use Rattle.std.specs.Prelude.{Option, Some, None}
use Rattle.def_token.specs.Lexical.{Token}
use Rattle.def_tree.specs.ExprTree.{ExprTree}
use Rattle.def_tree.specs.Limits.{Nesting, Entry, plain, opens, in_bracket, in_block, in_statement}
use Rattle.def_tree.specs.Statements.{IsStmt}
use Rattle.def_tree.specs.StmtTree as tree
use Rattle.def_tree.specs.StmtTree.{LocalTree, SimpleTree, StartTree, StmtTree, StmtTrees, NoStmts, MoreStmts}
use Rattle.def_tree.specs.Symbol.{Symbol, symbol, is_sign}
use Rattle.def_reading.specs.Machine.{sign_of}
use Rattle.def_reading.specs.Cursor.{Told, Cursor, At, noted, FarthestFailure}
use Rattle.def_reading.specs.StmtReading.{local_in, simple_in, declares, local_up_to, simple_up_to, either_by, either_in, start_in, maybe_expr_in, maybe_simple_in, condition_in, Opening, Brace, Semicolon, Return, Break, Continue, If, While, For, opening_text, openings, stmts_in, ended_in, body_in, block_in, else_in, if_in, while_in, for_in, behind_in, opening_entry, stmt_by, stmt_at, stmt_in}
use Rattle.def_reading.specs.Try.{Try, Reads, Stops, Reader, try_then, try_as, or_else, refused, choice_by, up_to, ahead, expr_in}
use Rattle.def_reading.specs.TypeReading.{Ended}
use Rattle.law_stmts.proofs.EitherBeside.{always_either}
use Rattle.law_exprs.proofs.ExprBeside.{always_expr}
use Rattle.law_stmts.proofs.LocalSound.{SoundAt}
use Rattle.law_stmts.proofs.SimpleBeside.{always_simple}
use Rattle.law_stmts.proofs.StmtFronts.{good_local, good_simple, good_stmts, good_body, good_behind, good_at, good_stmt}
use Rattle.law_stmts.proofs.StmtSound.{stmt_sound}
use Rattle.law_exprs.proofs.TryComes.{Noted, noted_stays, noted_later}
use Rattle.law_exprs.proofs.TryFollows.{UpFrom, rises_from, Share, here, one, Follows, follows_place, Local, Beside, Always, beside_as, beside_then, beside_later, beside_choice, beside_end, beside_zero, beside_none, beside_turns, beside_up_to, beside_token}
use Rattle.law_exprs.proofs.TryFronts.{Good}

-- What is read up to a mark takes a token.
mark_later : {A : Type 0} (b : Bool) (a : A) (mark : Token) (rest : List Token) (at at' : ℕ) (limit : Option Told) (reach : Option FarthestFailure) → at ≤ at'
    → UpFrom (suc at) (choice_by b plain (λ mark reach place. Reads a place reach) refused reach mark (At at' limit (mark ∷ rest)))
mark_later true a mark rest at at' limit reach h = omega (arith, h)
mark_later false a mark rest at at' limit reach h = tt

up_later : {A : Type 0} (test : Symbol → Bool) (at : ℕ) (look : Try A) → UpFrom at look → UpFrom (suc at) (up_to test look)
up_later test at (Stops reach) h = tt
up_later test at (Reads a (At at' limit []) reach) h = tt
up_later test at (Reads a (At at' limit (mark ∷ rest)) reach) h = mark_later (test (symbol mark)) a mark rest at at' limit reach h

as_later : {A B : Type 0} (make : A → B) (low : ℕ) (look : Try A) → UpFrom low look → UpFrom low (try_as make look)
as_later make low (Reads a (At at limit rest) reach) h = h
as_later make low (Stops reach) h = tt

else_later : {A : Type 0} (low : ℕ) (next : Reader A) (place : Cursor) (look : Try A) → UpFrom low look → ((reach : Option FarthestFailure) → UpFrom low (next reach place)) → UpFrom low (or_else next place look)
else_later low next place (Reads a (At at limit rest) reach) h k = h
else_later low next place (Stops reach) h k = k reach

-- each reader takes a token
abbrev pub Later : {A : Type 0} → Reader A → Type 0
Later reader = (at : ℕ) (limit : Option Told) (ts : List Token) (reach : Option FarthestFailure) → Noted at limit → UpFrom (suc at) (reader reach (At at limit ts))

local_later : {A : Type 0} (of_a_local : LocalTree → A) (around : Nesting) → Later (local_up_to of_a_local around)
local_later of_a_local around at limit ts reach h =
    let look = local_in around reach (At at limit ts) in
    as_later of_a_local (suc at) (up_to (is_sign ";") look) (up_later (is_sign ";") at look (rises_from at limit look ((good_local around).rises at limit ts reach h)))

simple_later : {A : Type 0} (of_a_simple : SimpleTree → A) (around : Nesting) → Later (simple_up_to of_a_simple around)
simple_later of_a_simple around at limit ts reach h =
    let look = simple_in around reach (At at limit ts) in
    as_later of_a_simple (suc at) (up_to (is_sign ";") look) (up_later (is_sign ";") at look (rises_from at limit look ((good_simple around).rises at limit ts reach h)))

either_later : {A : Type 0} (b : Bool) (of_a_local : LocalTree → A) (of_a_simple : SimpleTree → A) (around : Nesting) → Later (either_by b of_a_local of_a_simple around)
either_later true of_a_local of_a_simple around at limit ts reach h = local_later of_a_local around at limit ts reach h
either_later false of_a_local of_a_simple around at limit ts reach h =
    else_later (suc at) (simple_up_to of_a_simple around) (At at limit ts) (local_up_to of_a_local around reach (At at limit ts)) (local_later of_a_local around at limit ts reach h)
    (λ reach. simple_later of_a_simple around at limit ts reach h)

stmt_later_by : (turns : ℕ) (around : Nesting) (found : Option Opening) (at : ℕ) (limit : Option Told) (t : Token) (ts : List Token) (reach : Option FarthestFailure) → Noted at limit
    → UpFrom (suc at) (stmt_by around (stmt_in turns) found reach t (At at limit (t ∷ ts)))
stmt_later_by turns around None at limit t ts reach h = either_later (declares around (At at limit (t ∷ ts))) tree.Local tree.Simple around at limit (t ∷ ts) reach h
stmt_later_by turns around (Some opening) at limit t ts reach h =
    let entry = opening_entry around (stmt_in turns) opening in
    let limit' = noted limit entry at t in
    let look = behind_in around (stmt_in turns) opening t reach (At (suc at) limit' ts) in
    rises_from (suc at) limit' look
    ((good_behind around (stmt_in turns) (good_stmt turns) (stmt_sound turns) opening t).rises (suc at) limit' ts reach (noted_later limit' at (noted_stays limit entry at t h)))

pub stmt_later : (turns : ℕ) (around : Nesting) → Later (stmt_in turns around)
stmt_later zero around at limit ts reach h = tt
stmt_later (suc turns) around at limit [] reach h = tt
stmt_later (suc turns) around at limit (t ∷ ts) reach h = stmt_later_by turns around (sign_of opening_text openings (symbol t)) at limit t ts reach h

module _ (us us' : List Token) (m : ℕ) (end : Ended us) where
  -- heads of loops
  always_start : (around : Nesting) → Always us us' m end (start_in around) (start_in around)
  always_start around most =
      let none : Token → Reader StartTree = λ semicolon reach place. Reads tree.NoStart place reach in
      let some : Reader StartTree = either_in tree.LocalStart tree.SimpleStart around in
      beside_choice us us' m end (is_sign ";") plain none none some some refl (λ semicolon. beside_end us us' m end tree.NoStart) (always_either us us' m end tree.LocalStart tree.SimpleStart around most)

  always_maybe_expr : (around : Nesting) → Always us us' m end (maybe_expr_in around) (maybe_expr_in around)
  always_maybe_expr around most =
      let none : Token → Reader (Option ExprTree) = λ semicolon reach place. Reads None place reach in
      let some : Reader (Option ExprTree) = λ reach place. try_as Some (up_to (is_sign ";") (expr_in false around reach place)) in
      beside_choice us us' m end (is_sign ";") plain none none some some refl (λ semicolon. beside_end us us' m end {A = Option ExprTree} None)
      (beside_as us us' m end Some (λ reach place. up_to (is_sign ";") (expr_in false around reach place)) (λ reach place. up_to (is_sign ";") (expr_in false around reach place))
      (beside_up_to us us' m end (is_sign ";") (expr_in false around) (expr_in false around) refl (always_expr us us' m end around most)))

  always_maybe_simple : (around : Nesting) → Always us us' m end (maybe_simple_in around) (maybe_simple_in around)
  always_maybe_simple around most =
      let none : Token → Reader (Option SimpleTree) = λ closing reach place. Reads None place reach in
      let some : Reader (Option SimpleTree) = λ reach place. try_as Some (up_to (is_sign ")") (simple_in around reach place)) in
      beside_choice us us' m end (is_sign ")") plain none none some some refl (λ closing. beside_end us us' m end {A = Option SimpleTree} None)
      (beside_as us us' m end Some (λ reach place. up_to (is_sign ")") (simple_in around reach place)) (λ reach place. up_to (is_sign ")") (simple_in around reach place))
      (beside_up_to us us' m end (is_sign ")") (simple_in around) (simple_in around) refl (always_simple us us' m end around most)))

  always_condition : (around : Nesting) → Always us us' m end (condition_in around) (condition_in around)
  always_condition around most =
      let inside = in_bracket around in
      let next : Token → Reader ExprTree = λ opening reach place. up_to (is_sign ")") (expr_in false inside reach place) in
      beside_token us us' m end (is_sign "(") (opens inside.brackets) next next refl
      (λ opening. beside_up_to us us' m end (is_sign ")") (expr_in false inside) (expr_in false inside) refl (always_expr us us' m end inside (most - 1)))

  -- statements up to the closing brace
  pub beside_stmts : (stmt stmt' : Reader StmtTree) (top : ℕ) → ((most : ℕ) → most ≤ top → Beside us us' m end most stmt stmt') → Later stmt' → (turns turns' most : ℕ) → most ≤ turns → most ≤ top
      → Beside us us' m end most (stmts_in stmt turns) (stmts_in stmt' turns')
  beside_stmts stmt stmt' top b later zero turns' most few low =
      beside_zero us us' m end (stmts_in stmt zero) (stmts_in stmt' turns') (good_stmts stmt (b 0 (omega arith)).this zero) (good_stmts stmt' (b 0 (omega arith)).that turns') most few
  beside_stmts stmt stmt' top b later (suc turns) zero most few low = beside_none us us' m end (stmts_in stmt (suc turns)) (good_stmts stmt (b 0 (omega arith)).this (suc turns)) most
  beside_stmts stmt stmt' top b later (suc turns) (suc turns') most few low =
      let none : Token → Reader StmtTrees = λ closing reach place. Reads NoStmts place reach in
      let next : StmtTree → Reader StmtTrees = λ first reach place. try_as (MoreStmts first) (stmts_in stmt turns reach place) in
      let next' : StmtTree → Reader StmtTrees = λ first reach place. try_as (MoreStmts first) (stmts_in stmt' turns' reach place) in
      beside_choice us us' m end (is_sign "}") plain none none (λ reach place. try_then next (stmt reach place)) (λ reach place. try_then next' (stmt' reach place)) refl
      (λ closing. beside_end us us' m end NoStmts)
      (beside_later us us' m end next next' stmt stmt' (b most low) later
      (λ first. beside_as us us' m end (MoreStmts first) (stmts_in stmt turns) (stmts_in stmt' turns') (beside_stmts stmt stmt' top b later turns turns' (most - 1) (omega (arith, few)) (omega (arith, low)))))

  -- A statement by the sign with which it begins, inside which statements are read by these readers.
  module _ (around : Nesting) (stmt stmt' : Nesting → Reader StmtTree) (k : (around : Nesting) → Good (stmt around)) (k' : (around : Nesting) → Good (stmt' around)) (sound : (around : Nesting) → SoundAt IsStmt (stmt around))
      (sound' : (around : Nesting) → SoundAt IsStmt (stmt' around)) (later' : (around : Nesting) → Later (stmt' around)) (top : ℕ) (b : (around : Nesting) (most : ℕ) → most ≤ top → Beside us us' m end most (stmt around) (stmt' around)) where
    body_local : (most : ℕ) → most ≤ top → Local us us' m end most (body_in around stmt) (body_in around stmt')
    body_local most low zero at limit ts ts' reach reach' few is here h =
        follows_place us us' m end (body_in around stmt) (body_in around stmt') (good_body around stmt k sound) (good_body around stmt' k' sound') at limit reach reach' (omega (arith, is)) h
    body_local most low (suc n) at limit ts ts' reach reach' few is (one {t = t} {ts = rest} {ts' = rest'} share) h =
        let inside = in_statement around in
        (b inside most low).local (suc n) at (noted limit (opens inside.statements) at t) (t ∷ rest) (t ∷ rest') reach reach' few is (one share) (noted_stays limit (opens inside.statements) at t h)

    beside_body : (most : ℕ) → most ≤ top → Beside us us' m end most (body_in around stmt) (body_in around stmt')
    beside_body most low = record { this = good_body around stmt k sound; that = good_body around stmt' k' sound'; local = body_local most low }

    beside_block : (token : Token) (most : ℕ) → most ≤ top → Beside us us' m end most (block_in around stmt token) (block_in around stmt' token)
    beside_block token most low =
        let inside = in_block around in
        beside_as us us' m end (tree.Block token) (λ reach place. stmts_in (stmt inside) (suc (length (ahead place))) reach place) (λ reach place. stmts_in (stmt' inside) (suc (length (ahead place))) reach place)
        (beside_turns us us' m end (stmts_in (stmt inside)) (stmts_in (stmt' inside)) top (beside_stmts (stmt inside) (stmt' inside) top (b inside) (later' inside)) most low)

    beside_else : (word : Token) (condition : ExprTree) (yes' : StmtTree) (most : ℕ) → most ≤ top → Beside us us' m end most (else_in around stmt word condition yes') (else_in around stmt' word condition yes')
    beside_else word condition yes' most low =
        let more : Token → Reader StmtTree = λ otherwise reach place. try_as (tree.IfElse word condition yes') (body_in around stmt reach place) in
        let more' : Token → Reader StmtTree = λ otherwise reach place. try_as (tree.IfElse word condition yes') (body_in around stmt' reach place) in
        let none : Reader StmtTree = λ reach place. Reads (tree.If word condition yes') place reach in
        beside_choice us us' m end (is_sign "else") plain more more' none none refl
        (λ otherwise. beside_as us us' m end (tree.IfElse word condition yes') (body_in around stmt) (body_in around stmt') (beside_body (most - 1) (omega (arith, low)))) (beside_end us us' m end (tree.If word condition yes'))

    beside_if : (word : Token) (most : ℕ) → most ≤ top → Beside us us' m end most (if_in around stmt word) (if_in around stmt' word)
    beside_if word most low =
        beside_then us us' m end (λ condition reach place. try_then (else_in around stmt word condition) (body_in around stmt reach place)) (λ condition reach place. try_then (else_in around stmt' word condition) (body_in around stmt' reach place))
        (condition_in around) (condition_in around) (always_condition around most)
        (λ condition. beside_then us us' m end (else_in around stmt word condition) (else_in around stmt' word condition) (body_in around stmt) (body_in around stmt') (beside_body most low)
        (λ yes'. beside_else word condition yes' most low))

    beside_while : (word : Token) (most : ℕ) → most ≤ top → Beside us us' m end most (while_in around stmt word) (while_in around stmt' word)
    beside_while word most low =
        beside_then us us' m end (λ condition reach place. try_as (tree.While word condition) (body_in around stmt reach place)) (λ condition reach place. try_as (tree.While word condition) (body_in around stmt' reach place))
        (condition_in around) (condition_in around) (always_condition around most)
        (λ condition. beside_as us us' m end (tree.While word condition) (body_in around stmt) (body_in around stmt') (beside_body most low))

    abbrev stepped_for : (Nesting → Reader StmtTree) → Token → StartTree → Option ExprTree → Option SimpleTree → Reader StmtTree
    stepped_for stmt word start condition step reach place = try_as (tree.For word start condition step) (body_in around stmt reach place)

    abbrev tested_for : (Nesting → Reader StmtTree) → Token → StartTree → Option ExprTree → Reader StmtTree
    tested_for stmt word start condition reach place = try_then (stepped_for stmt word start condition) (maybe_simple_in (in_bracket around) reach place)

    abbrev started_for : (Nesting → Reader StmtTree) → Token → StartTree → Reader StmtTree
    started_for stmt word start reach place = try_then (tested_for stmt word start) (maybe_expr_in (in_bracket around) reach place)

    abbrev headed_for : (Nesting → Reader StmtTree) → Token → Reader StmtTree
    headed_for stmt word reach place = try_then (started_for stmt word) (start_in (in_bracket around) reach place)

    beside_for : (word : Token) (most : ℕ) → most ≤ top → Beside us us' m end most (for_in around stmt word) (for_in around stmt' word)
    beside_for word most low =
        let bracket = in_bracket around in
        beside_token us us' m end (is_sign "(") (opens bracket.brackets) (λ opening. headed_for stmt word) (λ opening. headed_for stmt' word) refl
        (λ opening. beside_then us us' m end (started_for stmt word) (started_for stmt' word) (start_in bracket) (start_in bracket) (always_start bracket (most - 1))
        (λ start. beside_then us us' m end (tested_for stmt word start) (tested_for stmt' word start) (maybe_expr_in bracket) (maybe_expr_in bracket) (always_maybe_expr bracket (most - 1))
        (λ condition. beside_then us us' m end (stepped_for stmt word start condition) (stepped_for stmt' word start condition) (maybe_simple_in bracket) (maybe_simple_in bracket) (always_maybe_simple bracket (most - 1))
        (λ step. beside_as us us' m end (tree.For word start condition step) (body_in around stmt) (body_in around stmt') (beside_body (most - 1) (omega (arith, low)))))))

    beside_ended : (stmt : StmtTree) (most : ℕ) → Beside us us' m end most (ended_in stmt) (ended_in stmt)
    beside_ended stmt most =
        let next : Token → Reader StmtTree = λ semicolon reach place. Reads stmt place reach in
        beside_token us us' m end (is_sign ";") plain next next refl (λ semicolon. beside_end us us' m end stmt)

    beside_behind : (opening : Opening) (token : Token) (most : ℕ) → most ≤ top → Beside us us' m end most (behind_in around stmt opening token) (behind_in around stmt' opening token)
    beside_behind Brace token most low = beside_block token most low
    beside_behind Semicolon token most low = beside_end us us' m end (tree.Empty token)
    beside_behind Return token most low = beside_as us us' m end (tree.Return token) (maybe_expr_in around) (maybe_expr_in around) (always_maybe_expr around most)
    beside_behind Break token most low = beside_ended (tree.Break token) most
    beside_behind Continue token most low = beside_ended (tree.Continue token) most
    beside_behind If token most low = beside_if token most low
    beside_behind While token most low = beside_while token most low
    beside_behind For token most low = beside_for token most low

    opening_follows : (opening : Opening) (n at : ℕ) (limit : Option Told) (t : Token) (ts ts' : List Token) (reach reach' : Option FarthestFailure) (entry : Entry) → n ≤ top → m ≡ at + suc n → Share us us' m end n ts ts' → Noted at limit
        → Follows us us' m end (behind_in around stmt opening t reach (At (suc at) (noted limit entry at t) ts)) (behind_in around stmt' opening t reach' (At (suc at) (noted limit entry at t) ts'))
    opening_follows opening n at limit t ts ts' reach reach' entry low is share h =
        (beside_behind opening t n low).local n (suc at) (noted limit entry at t) ts ts' reach reach' (le_refl n) (omega (arith, is)) share (noted_later (noted limit entry at t) at (noted_stays limit entry at t h))

    stmt_follows : (found : Option Opening) (n at : ℕ) (limit : Option Told) (t : Token) (ts ts' : List Token) (reach reach' : Option FarthestFailure) → n ≤ top → m ≡ at + suc n → Share us us' m end n ts ts' → Noted at limit
        → Follows us us' m end (stmt_by around stmt found reach t (At at limit (t ∷ ts))) (stmt_by around stmt' found reach' t (At at limit (t ∷ ts')))
    stmt_follows None n at limit t ts ts' reach reach' low is share h =
        (always_either us us' m end tree.Local tree.Simple around (suc n)).local (suc n) at limit (t ∷ ts) (t ∷ ts') reach reach' (le_refl (suc n)) is (one share) h
    stmt_follows (Some Brace) n at limit t ts ts' reach reach' low is share h = opening_follows Brace n at limit t ts ts' reach reach' (opens (in_block around).blocks) low is share h
    stmt_follows (Some Semicolon) n at limit t ts ts' reach reach' low is share h = opening_follows Semicolon n at limit t ts ts' reach reach' plain low is share h
    stmt_follows (Some Return) n at limit t ts ts' reach reach' low is share h = opening_follows Return n at limit t ts ts' reach reach' plain low is share h
    stmt_follows (Some Break) n at limit t ts ts' reach reach' low is share h = opening_follows Break n at limit t ts ts' reach reach' plain low is share h
    stmt_follows (Some Continue) n at limit t ts ts' reach reach' low is share h = opening_follows Continue n at limit t ts ts' reach reach' plain low is share h
    stmt_follows (Some If) n at limit t ts ts' reach reach' low is share h = opening_follows If n at limit t ts ts' reach reach' plain low is share h
    stmt_follows (Some While) n at limit t ts ts' reach reach' low is share h = opening_follows While n at limit t ts ts' reach reach' plain low is share h
    stmt_follows (Some For) n at limit t ts ts' reach reach' low is share h = opening_follows For n at limit t ts ts' reach reach' plain low is share h

    at_local : (most : ℕ) → most ≤ suc top → Local us us' m end most (stmt_at around stmt) (stmt_at around stmt')
    at_local most low zero at limit ts ts' reach reach' few is here h =
        follows_place us us' m end (stmt_at around stmt) (stmt_at around stmt') (good_at around stmt k sound) (good_at around stmt' k' sound') at limit reach reach' (omega (arith, is)) h
    at_local most low (suc n) at limit ts ts' reach reach' few is (one {t = t} {ts = rest} {ts' = rest'} share) h =
        stmt_follows (sign_of opening_text openings (symbol t)) n at limit t rest rest' reach reach' (omega (arith, few, low)) is share h

    beside_at : (most : ℕ) → most ≤ suc top → Beside us us' m end most (stmt_at around stmt) (stmt_at around stmt')
    beside_at most low = record { this = good_at around stmt k sound; that = good_at around stmt' k' sound'; local = at_local most low }

  -- Statements, with as many turns as the front has tokens, and before the other tokens with any.
  pub beside_stmt : (turns turns' : ℕ) (around : Nesting) (most : ℕ) → most ≤ turns → Beside us us' m end most (stmt_in turns around) (stmt_in turns' around)
  beside_stmt zero turns' around most few = beside_zero us us' m end (stmt_in zero around) (stmt_in turns' around) (good_stmt zero around) (good_stmt turns' around) most few
  beside_stmt (suc turns) zero around most few = beside_none us us' m end (stmt_in (suc turns) around) (good_stmt (suc turns) around) most
  beside_stmt (suc turns) (suc turns') around most few =
      beside_at around (stmt_in turns) (stmt_in turns') (good_stmt turns) (good_stmt turns') (stmt_sound turns) (stmt_sound turns') (stmt_later turns') turns (λ around most few. beside_stmt turns turns' around most few) most few
