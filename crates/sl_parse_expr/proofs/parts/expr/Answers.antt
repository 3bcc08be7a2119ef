use Rattle.std.proofs.Common.{◌<◌, length, sym, ap, subst, ◌∙◌, arith}
use Rattle.std.specs.Prelude.{IfOk, IfErr, None, true, drop}
use Rattle.std.proofs.lemmas.List.{drop-map, length-map}
use Rattle.def_tree.specs.Limits.{Nesting, all_open, whole_entries}
use Rattle.def_tree.specs.Part.{IsExprPart}
use Rattle.def_reading.specs.Cursor.{At}
use Rattle.def_reading.specs.Try.{expr_in as expr_on_lists}
use Rattle.sl_token.specs.View.{Tells, token_in, tokens_in}
use Rattle.sl_tree.specs.View.{expr_in}
use Rattle.sl_cursor.specs.Nestings.{nesting_in}
use Rattle.sl_cursor.specs.Parts.{IsReadTo, HasFaultFrom}
use Rattle.sl_stmt.proofs.Answered.{IsExactTry, answered, on_start, tries_come}
use Rattle.sl_stmt.proofs.Ended.{lexed_ended}
use Rattle.sl_parse_expr.proofs.Exactness.{expr_lasts, expr_exact}
use Rattle.sl_look.proofs.TailEnds.{rest_from}
use Rattle.sl_parse_expr.proofs.parts.expr.Goals as goal

-- both clauses
both : (c : goal.After-drop-ahead-inside)
    → IfOk c.part_of.result (λ found. IsReadTo IsExprPart (whole_entries (all_open c.args.depth)) (tokens_in c.args.bytes.now c.args.tokens.now) c.args.from (expr_in c.args.bytes.now found.0) found.1)
    × IfErr c.part_of.result (Tells (HasFaultFrom IsExprPart (whole_entries (all_open c.args.depth)) (tokens_in c.args.bytes.now c.args.tokens.now) c.args.from))
both c =
    let source = c.args.bytes.now in
    let all = tokens_in source c.args.tokens.now in
    let around = all_open c.args.depth in
    let tokens = drop c.args.from all in
    let inside : c.args.from < length all = omega (arith, c.requires.from, length-map c.args.tokens.now (token_in source)) in
    let end = lexed_ended source all c.args.from c.requires.tokens inside in
    let are =
    ap (tokens_in source) (rest_from c.as_slice.result.now c.args.from) ∙ sym (drop-map (token_in source) c.args.from c.as_slice.result.now)
    ∙ ap (λ ts. drop c.args.from (tokens_in source ts)) c.as_slice.ensures in
    let exact = subst (λ (n : Nesting). IsExactTry IsExprPart (whole_entries around) tokens (expr_on_lists true n None (At 0 None tokens))) (sym c.all.ensures) (expr_exact around tokens end) in
    let place = c.start.ensures.place in
    let start = on_start source (expr_on_lists true (nesting_in c.all.result)) c.start.result tokens (place.0, place.1, ap (tokens_in source) place.2 ∙ are) c.start.ensures.reach in
    answered IsExprPart (whole_entries around) (expr_in source) (expr_on_lists true (nesting_in c.all.result)) _ c.start.result all c.args.from c.expr-read.result c.part_of.result are
    (expr_lasts around tokens end) (subst (IsExactTry IsExprPart (whole_entries around) tokens) (sym start) exact) (tries_come _ (expr_in source) (expr_on_lists true (nesting_in c.all.result)) c.start.result c.expr-read.result c.expr-read.ensures.read) c.part_of.ensures

pub returns-clause-read : goal.returns-clause-read
returns-clause-read c = (both c).0

pub returns-clause-fault : goal.returns-clause-fault
returns-clause-fault c = (both c).1
