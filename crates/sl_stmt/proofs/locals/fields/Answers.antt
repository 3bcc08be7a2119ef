use Rattle.std.proofs.Common.{List, map, refl, sym, ap}
use Rattle.std.specs.Prelude.{Ok, Err}
use Rattle.def_tree.specs.ExprTree.{NoExprs}
use Rattle.def_tree.specs.Limits.{plain}
use Rattle.def_tree.specs.StmtTree as tree
use Rattle.def_tree.specs.Symbol.{is_sign}
use Rattle.def_reading.specs.Try.{Reads, try_as, up_to}
use Rattle.def_reading.specs.StmtReading.{fields_in, values_in}
use Rattle.sl_token.specs.View.{token_in}
use Rattle.sl_tree.specs.View as view
use Rattle.sl_tree.specs.declared.expressions.ExprTree.{ExprTree}
use Rattle.sl_tree.specs.declared.statements.InitTree.TheVariants as init
use Rattle.sl_cursor.specs.Nestings.{nesting_in}
use Rattle.sl_cursor.proofs.Following.{follows_err, follows_yes, follows_no, follows_end, stops_in, stops_as, read_as, read_up_to, mark_up_to}
use Rattle.sl_stmt.proofs.locals.fields.Goals as goal

pub returns-in-Some : goal.returns-in-Some
returns-in-Some c =
    let source = c.args.input.now in
    let bytes = source.bytes.now in
    let around = nesting_in c.args.around.now in
    let opening = token_in bytes c.args.opening in
    let read = init.Fields c.args.opening c.new.result in
    follows_yes source (view.init_in bytes) (is_sign "}") plain (λ closing reach place. Reads (tree.Fields opening NoExprs) place reach)
    (λ reach place. try_as (tree.Fields opening) (up_to (is_sign "}") (values_in around reach place)))
    c.args.here.now c.in-Some.field-0-0 c.in-Some.behind (Ok (read, c.in-Some.behind)) c.in-Some.ensures
    (follows_end source (view.init_in bytes) (tree.Fields opening NoExprs) c.in-Some.behind read c.in-Some.ensures.behind
    (λ h. ap (λ values. tree.Fields opening (view.exprs_of (map (view.expr_in bytes) values))) (sym c.new.ensures)))

pub returns-in_err-values : goal.returns-in_err-values
returns-in_err-values c =
    let source = c.args.input.now in
    let bytes = source.bytes.now in
    let around = nesting_in c.args.around.now in
    let opening = token_in bytes c.args.opening in
    let stop = c.in_err-values.field-0.0 in
    follows_err source (view.init_in bytes) (fields_in around opening) c.args.here.now c.from_residual.result stop c.from_residual.ensures.1
    (follows_no source (view.init_in bytes) (is_sign "}") plain (λ closing reach place. Reads (tree.Fields opening NoExprs) place reach)
    (λ reach place. try_as (tree.Fields opening) (up_to (is_sign "}") (values_in around reach place))) c.args.here.now (Err stop) c.in_default.ensures
    (stops_in source (λ values. view.exprs_of (map (view.expr_in bytes) values)) (view.init_in bytes) (λ look. try_as (tree.Fields opening) (up_to (is_sign "}") look)) (values_in around)
    c.args.here.now stop (λ reach. refl) c.in_err-values.ensures))

pub returns-in_err-behind : goal.returns-in_err-behind
returns-in_err-behind c =
    let source = c.args.input.now in
    let bytes = source.bytes.now in
    let around = nesting_in c.args.around.now in
    let opening = token_in bytes c.args.opening in
    let stop = c.in_err-behind.field-0.0 in
    let seen = λ (values : List ExprTree). view.exprs_of (map (view.expr_in bytes) values) in
    follows_err source (view.init_in bytes) (fields_in around opening) c.args.here.now c.from_residual-in_err-behind.result stop c.from_residual-in_err-behind.ensures.1
    (follows_no source (view.init_in bytes) (is_sign "}") plain (λ closing reach place. Reads (tree.Fields opening NoExprs) place reach)
    (λ reach place. try_as (tree.Fields opening) (up_to (is_sign "}") (values_in around reach place))) c.args.here.now (Err stop) c.in_default.ensures
    (stops_as source seen (view.init_in bytes) (tree.Fields opening) (λ reach place. up_to (is_sign "}") (values_in around reach place)) c.args.here.now stop
    (mark_up_to source seen seen (is_sign "}") (values_in around) c.args.here.now c.in_ok-values.values c.in_ok-values.end stop c.in_ok-values.ensures c.in_err-behind.ensures)))

pub returns : goal.returns
returns c =
    let source = c.args.input.now in
    let bytes = source.bytes.now in
    let around = nesting_in c.args.around.now in
    let opening = token_in bytes c.args.opening in
    let seen = λ (values : List ExprTree). view.exprs_of (map (view.expr_in bytes) values) in
    let read = init.Fields c.args.opening c.in_ok-values.values in
    follows_no source (view.init_in bytes) (is_sign "}") plain (λ closing reach place. Reads (tree.Fields opening NoExprs) place reach)
    (λ reach place. try_as (tree.Fields opening) (up_to (is_sign "}") (values_in around reach place))) c.args.here.now (Ok (read, c.in_ok-behind.behind)) c.in_default.ensures
    (read_as source seen (view.init_in bytes) (tree.Fields opening) (λ reach place. up_to (is_sign "}") (values_in around reach place)) c.args.here.now c.in_ok-values.values read c.in_ok-behind.behind
    (read_up_to source seen (is_sign "}") (values_in around) c.args.here.now c.in_ok-values.values c.in_ok-values.end c.in_ok-behind.field-0-0 c.in_ok-behind.behind c.in_ok-values.ensures c.in_ok-behind.ensures)
    (λ h k. refl))
