use Rattle.std.proofs.Common.{ap}
use Rattle.std.specs.Prelude.{Ok}
use Rattle.def_tree.specs.ExprTree.{ExprTree}
use Rattle.def_tree.specs.Limits.{plain}
use Rattle.def_tree.specs.Operator.{Increment, Decrement}
use Rattle.def_tree.specs.Statements.{is_call}
use Rattle.def_tree.specs.StmtTree as tree
use Rattle.def_tree.specs.Symbol.{is_sign}
use Rattle.def_reading.specs.StmtReading.{alone_by}
use Rattle.def_reading.specs.Try.{Reader, Reads, choice}
use Rattle.sl_token.specs.View.{token_in}
use Rattle.sl_tree.specs.View as view
use Rattle.sl_tree.specs.declared.operators.Step.TheVariants as step
use Rattle.sl_tree.specs.declared.statements.SimpleTree.TheVariants as simple
use Rattle.sl_cursor.proofs.Following.{follows_yes, follows_no, follows_end}
use Rattle.sl_stmt.proofs.simple.stepped.Goals as goal

-- a place with `--` behind it, or a call alone
lowered : ExprTree → Reader tree.SimpleTree
lowered call = choice (is_sign "--") plain (λ token reach place. Reads (tree.PostfixStep Decrement call token) place reach) (alone_by (is_call call) call)

pub returns-in-Some : goal.returns-in-Some
unfolding lowered
returns-in-Some c =
    λ call o.
    let source = c.args.input.now in
    let bytes = source.bytes.now in
    let read = simple.PostfixStep step.Increment c.args.expr c.in-Some.token in
    let token = token_in bytes c.in-Some.token in
    follows_yes source (view.simple_in bytes) (is_sign "++") plain (λ token reach place. Reads (tree.PostfixStep Increment call token) place reach) (lowered call)
    c.args.here.now c.in-Some.token c.in-Some.behind (Ok (read, c.in-Some.behind)) c.in-Some.ensures
    (follows_end source (view.simple_in bytes) (tree.PostfixStep Increment call token) c.in-Some.behind read c.in-Some.ensures.behind
    (λ h. ap (λ call. tree.PostfixStep Increment call token) (o.same (c.in-Some.ensures.rises h))))

pub returns-in-Some-sign : goal.returns-in-Some-sign
unfolding lowered
returns-in-Some-sign c =
    λ call o.
    let source = c.args.input.now in
    let bytes = source.bytes.now in
    let read = simple.PostfixStep step.Decrement c.args.expr c.in-Some-sign.token in
    let token = token_in bytes c.in-Some-sign.token in
    let end = c.in-Some-sign.behind in
    follows_no source (view.simple_in bytes) (is_sign "++") plain (λ token reach place. Reads (tree.PostfixStep Increment call token) place reach) (lowered call)
    c.args.here.now (Ok (read, end)) c.in_default.ensures
    (follows_yes source (view.simple_in bytes) (is_sign "--") plain (λ token reach place. Reads (tree.PostfixStep Decrement call token) place reach) (alone_by (is_call call) call)
    c.args.here.now c.in-Some-sign.token end (Ok (read, end)) c.in-Some-sign.ensures
    (follows_end source (view.simple_in bytes) (tree.PostfixStep Decrement call token) end read c.in-Some-sign.ensures.behind
    (λ h. ap (λ call. tree.PostfixStep Decrement call token) (o.same (c.in-Some-sign.ensures.rises h)))))

pub returns : goal.returns
unfolding lowered
returns c =
    λ call o.
    let source = c.args.input.now in
    let bytes = source.bytes.now in
    follows_no source (view.simple_in bytes) (is_sign "++") plain (λ token reach place. Reads (tree.PostfixStep Increment call token) place reach) (lowered call)
    c.args.here.now c.alone.result c.in_default.ensures
    (follows_no source (view.simple_in bytes) (is_sign "--") plain (λ token reach place. Reads (tree.PostfixStep Decrement call token) place reach) (alone_by (is_call call) call)
    c.args.here.now c.alone.result c.in_default-sign.ensures (c.alone.ensures call o))
