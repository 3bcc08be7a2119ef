use Rattle.std.proofs.Common.{suc, ◌<◌, length, sym, ap, subst, ◌∙◌, arith}
use Rattle.std.specs.Prelude.{IfOk, IfErr, None, drop}
use Rattle.std.proofs.lemmas.List.{drop-map, length-map}
use Rattle.def_tree.specs.Limits.{Nesting, all_open, stmt_entries}
use Rattle.def_tree.specs.Part.{IsStmtPart}
use Rattle.def_reading.specs.Cursor.{At}
use Rattle.def_reading.specs.StmtReading.{stmt_in as stmt_on_lists}
use Rattle.sl_token.specs.View.{Tells, token_in, tokens_in}
use Rattle.sl_tree.specs.View.{stmt_in}
use Rattle.sl_cursor.specs.Nestings.{nesting_in}
use Rattle.sl_cursor.specs.Parts.{IsReadTo, HasFaultFrom}
use Rattle.sl_stmt.proofs.Answered.{IsExactTry, answered, on_start, settles_come}
use Rattle.sl_stmt.proofs.Ended.{lexed_ended}
use Rattle.sl_parse_expr.proofs.Exactness.{stmt_lasts, stmt_exact}
use Rattle.sl_look.proofs.TailEnds.{rest_from}
use Rattle.sl_parse_expr.proofs.parts.stmt.Goals as goal

-- both clauses
both : (c : goal.After-drop-ahead-inside)
    → IfOk c.part_of.result (λ found. IsReadTo IsStmtPart (stmt_entries (all_open c.args.depth)) (tokens_in c.args.bytes.now c.args.tokens.now) c.args.from (stmt_in c.args.bytes.now found.0) found.1)
    × IfErr c.part_of.result (Tells (HasFaultFrom IsStmtPart (stmt_entries (all_open c.args.depth)) (tokens_in c.args.bytes.now c.args.tokens.now) c.args.from))
both c =
    let source = c.args.bytes.now in
    let all = tokens_in source c.args.tokens.now in
    let around = all_open c.args.depth in
    let tokens = drop c.args.from all in
    let inside : c.args.from < length all = omega (arith, c.requires.from, length-map c.args.tokens.now (token_in source)) in
    let end = lexed_ended source all c.args.from c.requires.tokens inside in
    let are =
    ap (tokens_in source) (rest_from c.as_slice.result.now c.args.from) ∙ sym (drop-map (token_in source) c.args.from c.as_slice.result.now)
    ∙ ap (λ ts. drop c.args.from (tokens_in source ts)) c.as_slice.ensures in
    let exact = subst (λ (n : Nesting). IsExactTry IsStmtPart (stmt_entries around) tokens (stmt_on_lists (suc (length tokens)) n None (At 0 None tokens))) (sym c.all.ensures) (stmt_exact around tokens end) in
    let place = c.start.ensures.place in
    let rest = ap (tokens_in source) place.2 ∙ are in
    let start = on_start source (stmt_on_lists (suc (length tokens)) (nesting_in c.all.result)) c.start.result tokens (place.0, place.1, rest) c.start.ensures.reach in
    let enough : length c.start.result.place.rest.now < suc (length tokens) = omega (arith, ap length rest, length-map c.start.result.place.rest.now (token_in source)) in
    answered IsStmtPart (stmt_entries around) (stmt_in source) (stmt_on_lists (suc (length tokens)) (nesting_in c.all.result)) _ c.start.result all c.args.from c.stmt-read.result c.part_of.result are
    (stmt_lasts around tokens end) (subst (IsExactTry IsStmtPart (stmt_entries around) tokens) (sym start) exact)
    (settles_come _ (stmt_in source) (stmt_on_lists (suc (length tokens)) (nesting_in c.all.result)) c.start.result c.stmt-read.result (c.stmt-read.ensures.read (suc (length tokens)) enough)) c.part_of.ensures

pub returns-clause-read : goal.returns-clause-read
returns-clause-read c = (both c).0

pub returns-clause-fault : goal.returns-clause-fault
returns-clause-fault c = (both c).1
