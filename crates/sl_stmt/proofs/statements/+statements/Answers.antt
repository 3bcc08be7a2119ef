use Rattle.std.proofs.Common.{◌≡◌, ℕ, suc, List, length, refl, sym, subst, ap, ◌∙◌, arith}
use Rattle.std.specs.Prelude.{Option, Some, Ok, Err}
use Rattle.std.specs.Option.{option_map}
use Rattle.def_tree.specs.Limits.{plain, opens, in_block}
use Rattle.def_tree.specs.StmtTree as tree
use Rattle.def_tree.specs.Symbol.{symbol, is_sign}
use Rattle.def_reading.specs.Machine.{sign_of}
use Rattle.def_reading.specs.StmtReading as lists
use Rattle.def_reading.specs.Try.{Reads, try_as, refused}
use Rattle.sl_token.specs.View.{token_in}
use Rattle.sl_token.specs.declared.token.Token.{Token}
use Rattle.sl_tree.specs.View.{stmt_in}
use Rattle.sl_tree.specs.declared.statements.StmtTree.{StmtTree}
use Rattle.sl_tree.specs.declared.statements.StmtTree.TheVariants as stmt
use Rattle.sl_tree.proofs.Views.{stmt_in-Block, stmt_in-Empty, stmt_in-Break, stmt_in-Continue}
use Rattle.sl_cursor.specs.Nestings.{nesting_in}
use Rattle.sl_stmt.specs.Settling.{Settles, SettlesIn, opening_in, stmts_in}
use Rattle.sl_stmt.specs.declared.statements.Head.{Head}
use Rattle.sl_stmt.specs.declared.statements.Opening.{Opening}
use Rattle.sl_stmt.specs.declared.statements.Opening.TheVariants as opening
use Rattle.sl_stmt.proofs.Blocks.{all_of, blocked_none, blocked_more, blocked_closed, blocked_err, settles_all}
use Rattle.sl_cursor.proofs.Following.{follows_yes, follows_must, follows_end, read_as}
use Rattle.sl_stmt.proofs.Settling.{settles_of, settles_err, settles_stop_as}
use Rattle.sl_stmt.proofs.Stmts.{opened_settles, flat_settles, end_settles, decided_settles, body_settles, if_stops, if_alone, else_stops, if_else, while_stops, while_read, for_no_head, for_stops, for_read}
use Rattle.sl_stmt.proofs.statements.+statements.Goals as goal

-- the sign with which a statement begins, as a variant
signed : (bytes : List ℕ) (token : Token) (found : Option Opening) (o other : Opening) → option_map opening_in found ≡ sign_of lists.opening_text lists.openings (symbol (token_in bytes token)) → found ≡ Some o → o ≡ other
    → sign_of lists.opening_text lists.openings (symbol (token_in bytes token)) ≡ Some (opening_in other)
signed bytes token found o other e is same = sym e ∙ ap (option_map opening_in) is ∙ ap (λ o. Some (opening_in o)) same

pub block-returns-in_err-stmts : goal.block-returns-in_err-stmts
block-returns-in_err-stmts t c =
    λ turns h.
    let source = c.args.input.now in
    let bytes = source.bytes.now in
    let around = nesting_in c.args.around.now in
    let make = tree.Block (token_in bytes c.args.opening) in
    let stop = c.in_err-stmts.field-0.0 in
    settles_err source (stmt_in bytes) (lists.block_in around (lists.stmt_in turns) (token_in bytes c.args.opening)) c.args.here.now c.from_residual.result stop c.from_residual.ensures.1
    (settles_stop_as source (all_of bytes) (stmt_in bytes) make (stmts_in (in_block around) turns) c.args.here.now stop
    (subst (λ inside. Settles source (all_of bytes) (stmts_in inside turns) c.args.here.now (Err stop)) c.in_block.ensures.nesting (c.in_err-stmts.ensures.turns turns h)))

pub block-returns : goal.block-returns
block-returns t c =
    λ turns h.
    let source = c.args.input.now in
    let bytes = source.bytes.now in
    let around = nesting_in c.args.around.now in
    let make = tree.Block (token_in bytes c.args.opening) in
    let stmts = c.in_ok-stmts.stmts in
    let end = c.in_ok-stmts.end in
    read_as source (all_of bytes) (stmt_in bytes) make (stmts_in (in_block around) turns) c.args.here.now stmts (stmt.Block c.args.opening stmts) end
    (subst (λ inside. Settles source (all_of bytes) (stmts_in inside turns) c.args.here.now (Ok (stmts, end))) c.in_block.ensures.nesting (c.in_ok-stmts.ensures.turns turns h))
    (λ h k. sym (stmt_in-Block bytes c.args.opening stmts))

pub stmts-loop-end-init : goal.stmts-loop-end-init
stmts-loop-end-init t c = blocked_none c.args.input.now (nesting_in c.args.inside.now) c.args.here.now c.new-stmts.result c.new-stmts.ensures c.requires.at

pub stmts-returns-in-Some-clause-turns : goal.stmts-returns-in-Some-clause-turns
stmts-returns-in-Some-clause-turns t c =
    blocked_closed c.args.input.now (nesting_in c.args.inside.now) c.args.here.now c.loop-end.stmts c.loop-end.next c.in-Some.field-0-0 c.in-Some.end c.loop-end.invariant c.in-Some.ensures

pub stmts-returns-in-Some-clause-read : goal.stmts-returns-in-Some-clause-read
stmts-returns-in-Some-clause-read t c =
    settles_all c.args.input.now (nesting_in c.args.inside.now) c.args.here.now (Ok (c.loop-end.stmts, c.in-Some.end))
    (blocked_closed c.args.input.now (nesting_in c.args.inside.now) c.args.here.now c.loop-end.stmts c.loop-end.next c.in-Some.field-0-0 c.in-Some.end c.loop-end.invariant c.in-Some.ensures)

pub stmts-returns-in_err-stmt-clause-turns : goal.stmts-returns-in_err-stmt-clause-turns
stmts-returns-in_err-stmt-clause-turns t c =
    blocked_err c.args.input.now (nesting_in c.args.inside.now) c.args.here.now c.loop-end.stmts c.loop-end.next c.from_residual.result c.in_err-stmt.field-0.0 c.from_residual.ensures.1
    c.requires.at c.loop-end.invariant c.in_default.ensures c.in_err-stmt.ensures.read

pub stmts-returns-in_err-stmt-clause-read : goal.stmts-returns-in_err-stmt-clause-read
stmts-returns-in_err-stmt-clause-read t c =
    settles_all c.args.input.now (nesting_in c.args.inside.now) c.args.here.now c.from_residual.result
    (blocked_err c.args.input.now (nesting_in c.args.inside.now) c.args.here.now c.loop-end.stmts c.loop-end.next c.from_residual.result c.in_err-stmt.field-0.0 c.from_residual.ensures.1
    c.requires.at c.loop-end.invariant c.in_default.ensures c.in_err-stmt.ensures.read)

pub stmts-loop-end-preserved : goal.stmts-loop-end-preserved
stmts-loop-end-preserved t c =
    blocked_more c.args.input.now (nesting_in c.args.inside.now) c.args.here.now c.loop-end.stmts c.push.new.self c.loop-end.next c.in_ok-stmt.stmt c.in_ok-stmt.behind c.requires.at c.loop-end.invariant c.in_default.ensures
    c.in_ok-stmt.ensures.read c.in_ok-stmt.ensures.on c.in_ok-push.ensures.ok

pub body-returns-in_err-stmt : goal.body-returns-in_err-stmt
body-returns-in_err-stmt t c =
    λ turns h.
    let source = c.args.input.now in
    let around = nesting_in c.args.around.now in
    let stop = c.in_err-stmt.field-0.0 in
    settles_err source (stmt_in source.bytes.now) (lists.body_in around (lists.stmt_in turns)) c.args.here.now c.from_residual.result stop c.from_residual.ensures.1
    (body_settles source around (nesting_in c.in_statement.result) c.args.here.now c.begun-begun.result c.in_statement.ensures.nesting c.begun-begun.ensures (Err stop) c.in_err-stmt.ensures.read turns h)

pub body-returns : goal.body-returns
body-returns t c =
    let source = c.args.input.now in
    let around = nesting_in c.args.around.now in
    subst (λ (read : StmtTree). SettlesIn source (stmt_in source.bytes.now) (λ turns. lists.body_in around (lists.stmt_in turns)) c.args.here.now (Ok (read, c.in_ok-stmt.end))) (sym c.in_ok-new.ensures)
    (body_settles source around (nesting_in c.in_statement.result) c.args.here.now c.begun-begun.result c.in_statement.ensures.nesting c.begun-begun.ensures (Ok (c.in_ok-stmt.stmt, c.in_ok-stmt.end)) c.in_ok-stmt.ensures.read)

pub conditional-returns-in_err-yes : goal.conditional-returns-in_err-yes
conditional-returns-in_err-yes t c =
    λ turns h.
    let source = c.args.input.now in
    let around = nesting_in c.args.around.now in
    let stop = c.in_err-yes.field-0.0 in
    settles_err source (stmt_in source.bytes.now) (lists.if_in around (lists.stmt_in turns) (token_in source.bytes.now c.args.word)) c.args.here.now c.from_residual-in_err-yes.result stop c.from_residual-in_err-yes.ensures.1
    (if_stops source around c.args.word c.args.here.now c.in_ok-condition.condition c.in_ok-condition.behind stop c.requires.at c.in_ok-condition.ensures c.in_err-yes.ensures turns h)

pub conditional-sign-requires : goal.conditional-sign-requires
conditional-sign-requires t c = (c.in_ok-yes.ensures (suc (length c.in_ok-condition.behind.place.rest.now)) (omega arith)).behind

pub conditional-returns-in_default : goal.conditional-returns-in_default
conditional-returns-in_default t c =
    if_alone c.args.input.now (nesting_in c.args.around.now) c.args.word c.args.here.now c.in_ok-condition.condition c.in_ok-condition.behind c.in_ok-yes.yes c.in_ok-yes.end
    c.requires.at c.in_ok-condition.ensures c.in_ok-yes.ensures c.in_default.ensures

pub conditional-returns-in_err-no : goal.conditional-returns-in_err-no
conditional-returns-in_err-no t c =
    λ turns h.
    let source = c.args.input.now in
    let around = nesting_in c.args.around.now in
    let stop = c.in_err-no.field-0.0 in
    settles_err source (stmt_in source.bytes.now) (lists.if_in around (lists.stmt_in turns) (token_in source.bytes.now c.args.word)) c.args.here.now c.from_residual-in_err-no.result stop c.from_residual-in_err-no.ensures.1
    (else_stops source around c.args.word c.args.here.now c.in_ok-condition.condition c.in_ok-condition.behind c.in_ok-yes.yes c.in_ok-yes.end c.in-Some.field-0-0 c.in-Some.next stop
    c.requires.at c.in_ok-condition.ensures c.in_ok-yes.ensures c.in-Some.ensures c.in_err-no.ensures turns h)

pub conditional-returns : goal.conditional-returns
conditional-returns t c =
    if_else c.args.input.now (nesting_in c.args.around.now) c.args.word c.args.here.now c.in_ok-condition.condition c.in_ok-condition.behind c.in_ok-yes.yes c.in_ok-yes.end c.in-Some.field-0-0 c.in-Some.next
    c.in_ok-no.no c.in_ok-no.last c.requires.at c.in_ok-condition.ensures c.in_ok-yes.ensures c.in-Some.ensures c.in_ok-no.ensures

pub counted-returns-in_err-head : goal.counted-returns-in_err-head
counted-returns-in_err-head t c =
    λ turns h.
    let source = c.args.input.now in
    let around = nesting_in c.args.around.now in
    let stop = c.in_err-head.field-0.0 in
    settles_err source (stmt_in source.bytes.now) (lists.for_in around (lists.stmt_in turns) (token_in source.bytes.now c.args.word)) c.args.here.now c.from_residual.result stop c.from_residual.ensures.1
    (for_no_head source around c.args.word c.args.here.now stop c.in_err-head.ensures turns h)

pub counted-returns-in_err-body : goal.counted-returns-in_err-body
counted-returns-in_err-body t c =
    λ turns h.
    let source = c.args.input.now in
    let around = nesting_in c.args.around.now in
    let stop = c.in_err-body.field-0.0 in
    settles_err source (stmt_in source.bytes.now) (lists.for_in around (lists.stmt_in turns) (token_in source.bytes.now c.args.word)) c.args.here.now c.from_residual-in_err-body.result stop c.from_residual-in_err-body.ensures.1
    (for_stops source around c.args.word c.args.here.now c.in_ok-head.head c.in_ok-head.behind stop c.requires.at c.in_ok-head.ensures c.in_err-body.ensures turns h)

pub counted-returns : goal.counted-returns
counted-returns t c =
    let source = c.args.input.now in
    let around = nesting_in c.args.around.now in
    subst (λ (head : Head). SettlesIn source (stmt_in source.bytes.now) (λ turns. lists.for_in around (lists.stmt_in turns) (token_in source.bytes.now c.args.word)) c.args.here.now
    (Ok (stmt.For c.args.word head.start head.condition head.step c.in_ok-body.body, c.in_ok-body.end))) (sym c.into_inner-start.ensures)
    (for_read source around c.args.word c.args.here.now c.in_ok-head.head c.in_ok-head.behind c.in_ok-body.body c.in_ok-body.end c.requires.at c.in_ok-head.ensures c.in_ok-body.ensures)

pub repeated-returns-in_err-body : goal.repeated-returns-in_err-body
repeated-returns-in_err-body t c =
    λ turns h.
    let source = c.args.input.now in
    let around = nesting_in c.args.around.now in
    let stop = c.in_err-body.field-0.0 in
    settles_err source (stmt_in source.bytes.now) (lists.while_in around (lists.stmt_in turns) (token_in source.bytes.now c.args.word)) c.args.here.now c.from_residual-in_err-body.result stop c.from_residual-in_err-body.ensures.1
    (while_stops source around c.args.word c.args.here.now c.in_ok-condition.condition c.in_ok-condition.behind stop c.requires.at c.in_ok-condition.ensures c.in_err-body.ensures turns h)

pub repeated-returns : goal.repeated-returns
repeated-returns t c =
    while_read c.args.input.now (nesting_in c.args.around.now) c.args.word c.args.here.now c.in_ok-condition.condition c.in_ok-condition.behind c.in_ok-body.body c.in_ok-body.end
    c.requires.at c.in_ok-condition.ensures c.in_ok-body.ensures

pub stmt-returns-in-Some-clause-read : goal.stmt-returns-in-Some-clause-read
stmt-returns-in-Some-clause-read t c = decided_settles c.args.input.now (nesting_in c.args.around.now) c.args.here.now c.in-Some.told c.in-Some.ensures

pub stmt-returns-in_default-token-clause-read : goal.stmt-returns-in_default-token-clause-read
stmt-returns-in_default-token-clause-read t c =
    end_settles c.args.input.now (nesting_in c.args.around.now) c.args.here.now c.refused.result c.in_default-token.ensures c.refused.ensures

pub stmt-returns-in_default-opening_of-clause-read : goal.stmt-returns-in_default-opening_of-clause-read
stmt-returns-in_default-opening_of-clause-read t c =
    flat_settles c.args.input.now (nesting_in c.args.around.now) c.args.here.now c.in-Some-token.token c.in-Some-token.behind
    (sym c.opening_of.ensures ∙ ap (option_map opening_in) c.in_default-opening_of.is) c.in-Some-token.ensures c.flat.result c.flat.ensures.read

pub stmt-returns-in-Brace-clause-read : goal.stmt-returns-in-Brace-clause-read
stmt-returns-in-Brace-clause-read t c =
    let source = c.args.input.now in
    let bytes = source.bytes.now in
    let around = nesting_in c.args.around.now in
    let token = c.in-Some-token.token in
    let behind = c.in-Some-token.behind in
    opened_settles source around c.args.here.now token (opens (in_block around).blocks) c.braced-inside.result lists.Brace
    (signed bytes token c.opening_of.result c.in-Some-opening_of.opening opening.Brace c.opening_of.ensures c.in-Some-opening_of.is c.in-Brace.is) (λ stmt. refl) c.requires.at c.braced-inside.ensures c.block.result
    (c.block.ensures)

pub stmt-returns-in-Semicolon-clause-read : goal.stmt-returns-in-Semicolon-clause-read
stmt-returns-in-Semicolon-clause-read t c =
    let source = c.args.input.now in
    let bytes = source.bytes.now in
    let around = nesting_in c.args.around.now in
    let token = c.in-Some-token.token in
    let behind = c.in-Some-token.behind in
    let read = stmt.Empty token in
    opened_settles source around c.args.here.now token plain behind lists.Semicolon
    (signed bytes token c.opening_of.result c.in-Some-opening_of.opening opening.Semicolon c.opening_of.ensures c.in-Some-opening_of.is c.in-Semicolon.is) (λ stmt. refl) c.requires.at c.in-Some-token.ensures (Ok (read, behind))
    (λ k h. follows_end source (stmt_in bytes) (tree.Empty (token_in bytes token)) behind read c.in-Some-token.ensures.behind (λ h. sym (stmt_in-Empty bytes token)))

pub stmt-returns-in-Return-clause-read : goal.stmt-returns-in-Return-clause-read
stmt-returns-in-Return-clause-read t c =
    let source = c.args.input.now in
    let bytes = source.bytes.now in
    let around = nesting_in c.args.around.now in
    let token = c.in-Some-token.token in
    let behind = c.in-Some-token.behind in
    opened_settles source around c.args.here.now token plain behind lists.Return
    (signed bytes token c.opening_of.result c.in-Some-opening_of.opening opening.Return c.opening_of.ensures c.in-Some-opening_of.is c.in-Return.is) (λ stmt. refl) c.requires.at c.in-Some-token.ensures c.returned.result
    (λ k h. settles_of source (stmt_in bytes) (λ reach place. try_as (tree.Return (token_in bytes token)) (lists.maybe_expr_in around reach place)) behind c.returned.result c.returned.ensures)

pub stmt-returns-in_ok-end-in-Break-clause-read : goal.stmt-returns-in_ok-end-in-Break-clause-read
stmt-returns-in_ok-end-in-Break-clause-read t c =
    let source = c.args.input.now in
    let bytes = source.bytes.now in
    let around = nesting_in c.args.around.now in
    let token = c.in-Some-token.token in
    let behind = c.in-Some-token.behind in
    let read = stmt.Break token in
    let made = tree.Break (token_in bytes token) in
    let end = c.in_ok-end-in-Break.end in
    opened_settles source around c.args.here.now token plain behind lists.Break
    (signed bytes token c.opening_of.result c.in-Some-opening_of.opening opening.Break c.opening_of.ensures c.in-Some-opening_of.is c.in-Break.is) (λ stmt. refl) c.requires.at c.in-Some-token.ensures (Ok (read, end))
    (λ k h. follows_yes source (stmt_in bytes) (is_sign ";") plain (λ semicolon reach place. Reads made place reach) refused behind c.in_ok-end-in-Break.field-0-0 end (Ok (read, end)) c.in_ok-end-in-Break.ensures
    (follows_end source (stmt_in bytes) made end read c.in_ok-end-in-Break.ensures.behind (λ h. sym (stmt_in-Break bytes token))))

pub stmt-returns-in_err-end-in-Break-clause-read : goal.stmt-returns-in_err-end-in-Break-clause-read
stmt-returns-in_err-end-in-Break-clause-read t c =
    λ turns h.
    let source = c.args.input.now in
    let bytes = source.bytes.now in
    let around = nesting_in c.args.around.now in
    let token = c.in-Some-token.token in
    let behind = c.in-Some-token.behind in
    let made = tree.Break (token_in bytes token) in
    let stop = c.in_err-end-in-Break.field-0.0 in
    settles_err source (stmt_in bytes) (lists.stmt_in turns around) c.args.here.now c.from_residual.result stop c.from_residual.ensures.1
    (opened_settles source around c.args.here.now token plain behind lists.Break
    (signed bytes token c.opening_of.result c.in-Some-opening_of.opening opening.Break c.opening_of.ensures c.in-Some-opening_of.is c.in-Break.is) (λ stmt. refl) c.requires.at c.in-Some-token.ensures (Err stop)
    (λ k h. settles_of source (stmt_in bytes) (lists.ended_in made) behind (Err stop)
    (follows_must source (stmt_in bytes) (is_sign ";") plain (λ semicolon reach place. Reads made place reach) behind stop c.in_err-end-in-Break.ensures)) turns h)

pub stmt-returns-in_ok-end-in-Continue-clause-read : goal.stmt-returns-in_ok-end-in-Continue-clause-read
stmt-returns-in_ok-end-in-Continue-clause-read t c =
    let source = c.args.input.now in
    let bytes = source.bytes.now in
    let around = nesting_in c.args.around.now in
    let token = c.in-Some-token.token in
    let behind = c.in-Some-token.behind in
    let read = stmt.Continue token in
    let made = tree.Continue (token_in bytes token) in
    let end = c.in_ok-end-in-Continue.end in
    opened_settles source around c.args.here.now token plain behind lists.Continue
    (signed bytes token c.opening_of.result c.in-Some-opening_of.opening opening.Continue c.opening_of.ensures c.in-Some-opening_of.is c.in-Continue.is) (λ stmt. refl) c.requires.at c.in-Some-token.ensures (Ok (read, end))
    (λ k h. follows_yes source (stmt_in bytes) (is_sign ";") plain (λ semicolon reach place. Reads made place reach) refused behind c.in_ok-end-in-Continue.field-0-0 end (Ok (read, end)) c.in_ok-end-in-Continue.ensures
    (follows_end source (stmt_in bytes) made end read c.in_ok-end-in-Continue.ensures.behind (λ h. sym (stmt_in-Continue bytes token))))

pub stmt-returns-in_err-end-in-Continue-clause-read : goal.stmt-returns-in_err-end-in-Continue-clause-read
stmt-returns-in_err-end-in-Continue-clause-read t c =
    λ turns h.
    let source = c.args.input.now in
    let bytes = source.bytes.now in
    let around = nesting_in c.args.around.now in
    let token = c.in-Some-token.token in
    let behind = c.in-Some-token.behind in
    let made = tree.Continue (token_in bytes token) in
    let stop = c.in_err-end-in-Continue.field-0.0 in
    settles_err source (stmt_in bytes) (lists.stmt_in turns around) c.args.here.now c.from_residual-in_err-end-in-Continue.result stop c.from_residual-in_err-end-in-Continue.ensures.1
    (opened_settles source around c.args.here.now token plain behind lists.Continue
    (signed bytes token c.opening_of.result c.in-Some-opening_of.opening opening.Continue c.opening_of.ensures c.in-Some-opening_of.is c.in-Continue.is) (λ stmt. refl) c.requires.at c.in-Some-token.ensures (Err stop)
    (λ k h. settles_of source (stmt_in bytes) (lists.ended_in made) behind (Err stop)
    (follows_must source (stmt_in bytes) (is_sign ";") plain (λ semicolon reach place. Reads made place reach) behind stop c.in_err-end-in-Continue.ensures)) turns h)

pub stmt-returns-in-If-clause-read : goal.stmt-returns-in-If-clause-read
stmt-returns-in-If-clause-read t c =
    let source = c.args.input.now in
    let bytes = source.bytes.now in
    let around = nesting_in c.args.around.now in
    let token = c.in-Some-token.token in
    let behind = c.in-Some-token.behind in
    opened_settles source around c.args.here.now token plain behind lists.If
    (signed bytes token c.opening_of.result c.in-Some-opening_of.opening opening.If c.opening_of.ensures c.in-Some-opening_of.is c.in-If.is) (λ stmt. refl) c.requires.at c.in-Some-token.ensures c.conditional.result
    (c.conditional.ensures)

pub stmt-returns-in-While-clause-read : goal.stmt-returns-in-While-clause-read
stmt-returns-in-While-clause-read t c =
    let source = c.args.input.now in
    let bytes = source.bytes.now in
    let around = nesting_in c.args.around.now in
    let token = c.in-Some-token.token in
    let behind = c.in-Some-token.behind in
    opened_settles source around c.args.here.now token plain behind lists.While
    (signed bytes token c.opening_of.result c.in-Some-opening_of.opening opening.While c.opening_of.ensures c.in-Some-opening_of.is c.in-While.is) (λ stmt. refl) c.requires.at c.in-Some-token.ensures c.repeated.result
    (c.repeated.ensures)

pub stmt-returns-in-For-clause-read : goal.stmt-returns-in-For-clause-read
stmt-returns-in-For-clause-read t c =
    let source = c.args.input.now in
    let bytes = source.bytes.now in
    let around = nesting_in c.args.around.now in
    let token = c.in-Some-token.token in
    let behind = c.in-Some-token.behind in
    opened_settles source around c.args.here.now token plain behind lists.For
    (signed bytes token c.opening_of.result c.in-Some-opening_of.opening opening.For c.opening_of.ensures c.in-Some-opening_of.is c.in-For.is) (λ stmt. refl) c.requires.at c.in-Some-token.ensures c.counted.result
    (c.counted.ensures)
