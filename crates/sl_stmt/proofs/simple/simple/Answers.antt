use Rattle.std.proofs.Common.{true, false, ap}
use Rattle.std.specs.Prelude.{Err}
use Rattle.def_token.specs.Lexical.{Token}
use Rattle.def_tree.specs.Limits.{Nesting, plain}
use Rattle.def_tree.specs.Operator.{Step, Increment, Decrement}
use Rattle.def_tree.specs.StmtTree as tree
use Rattle.def_tree.specs.Symbol.{is_sign}
use Rattle.def_reading.specs.StmtReading.{assigned_in, simple_in}
use Rattle.def_reading.specs.Try.{Reader, try_as, try_then, choice, expr_in}
use Rattle.sl_tree.specs.View as view
use Rattle.sl_cursor.specs.Nestings.{nesting_in}
use Rattle.sl_cursor.proofs.Following.{follows_by, follows_err, follows_yes, follows_no, stops_then}
use Rattle.sl_stmt.proofs.simple.simple.Goals as goal

abbrev before : Nesting → Step → Token → Reader tree.SimpleTree
before around step token = λ reach place. try_as (tree.PrefixStep step token) (expr_in false around reach place)

abbrev begun : Nesting → Reader tree.SimpleTree
begun around = λ reach place. try_then (assigned_in around) (expr_in true around reach place)

abbrev lowered : Nesting → Reader tree.SimpleTree
lowered around = choice (is_sign "--") plain (before around Decrement) (begun around)

pub returns-in-Some : goal.returns-in-Some
returns-in-Some c =
    let source = c.args.input.now in
    let around = nesting_in c.args.around.now in
    follows_yes source (view.simple_in source.bytes.now) (is_sign "++") plain (before around Increment) (lowered around) c.args.here.now c.in-Some.token c.in-Some.behind c.step_before.result
    c.in-Some.ensures c.step_before.ensures

pub returns-in-Some-sign : goal.returns-in-Some-sign
returns-in-Some-sign c =
    let source = c.args.input.now in
    let around = nesting_in c.args.around.now in
    let result = c.step_before-in-Some-sign.result in
    follows_no source (view.simple_in source.bytes.now) (is_sign "++") plain (before around Increment) (lowered around) c.args.here.now result c.in_default.ensures
    (follows_yes source (view.simple_in source.bytes.now) (is_sign "--") plain (before around Decrement) (begun around) c.args.here.now c.in-Some-sign.token c.in-Some-sign.behind result
    c.in-Some-sign.ensures c.step_before-in-Some-sign.ensures)

pub returns-in_err-expr : goal.returns-in_err-expr
returns-in_err-expr c =
    let source = c.args.input.now in
    let bytes = source.bytes.now in
    let around = nesting_in c.args.around.now in
    let stop = c.in_err-expr.field-0.0 in
    let here = c.args.here.now in
    follows_err source (view.simple_in bytes) (simple_in around) here c.from_residual.result stop c.from_residual.ensures.1
    (follows_no source (view.simple_in bytes) (is_sign "++") plain (before around Increment) (lowered around) here (Err stop) c.in_default.ensures
    (follows_no source (view.simple_in bytes) (is_sign "--") plain (before around Decrement) (begun around) here (Err stop) c.in_default-sign.ensures
    (stops_then source (view.expr_in bytes) (view.simple_in bytes) (assigned_in around) (expr_in true around) here stop c.in_err-expr.ensures.read)))

pub returns : goal.returns
returns c =
    let source = c.args.input.now in
    let bytes = source.bytes.now in
    let around = nesting_in c.args.around.now in
    let result = c.assigned.result in
    let here = c.args.here.now in
    let r = c.in_ok-expr.ensures.read in
    follows_no source (view.simple_in bytes) (is_sign "++") plain (before around Increment) (lowered around) here result c.in_default.ensures
    (follows_no source (view.simple_in bytes) (is_sign "--") plain (before around Decrement) (begun around) here result c.in_default-sign.ensures
    (follows_by source (view.simple_in bytes) (begun around) (assigned_in around r.tried.tree) here c.in_ok-expr.behind result (ap (try_then (assigned_in around)) r.tried.is) r.on r.tried.rises
    (c.assigned.ensures r.tried.tree (record { same = r.tried.same; call = c.in_ok-expr.ensures.call r.tried.tree _ _ r.tried.is }))))
