use Rattle.std.proofs.Common.{map}
use Rattle.std.proofs.lemmas.Result.{err_from_is_err_and}
use Rattle.def_module.specs.Scopes.{args_scope, body_scopes}
use Rattle.sl_tree.specs.DeclView.{arg_in, block_in}
use Rattle.sl_scopes.proofs.Searching.{ends_at_first, ends_behind}
use Rattle.sl_scopes.proofs.search.Search.member.Goals as goal

pub returns-in_err-args-in-Method : goal.returns-in_err-args-in-Method
returns-in_err-args-in-Method c =
    let source = c.args.self.now.source.now in
    let method = c.in-Method.method in
    let p = err_from_is_err_and c.from_residual.result c.from_residual.ensures.1 in
    rw (p.1, p.2, c.in-Method.is)
    (ends_at_first source (args_scope (map (arg_in source) method.tail.args)) (body_scopes (block_in source method.body))
    c.in_err-args-in-Method.field-0.0 (rw (← c.as_slice.ensures) c.in_err-args-in-Method.ensures))

pub returns-in_ok-args-in-Method : goal.returns-in_ok-args-in-Method
returns-in_ok-args-in-Method c =
    let source = c.args.self.now.source.now in
    let method = c.in-Method.method in
    rw c.in-Method.is
    (ends_behind source (args_scope (map (arg_in source) method.tail.args)) (body_scopes (block_in source method.body))
    c.body.result (rw (← c.as_slice.ensures) c.in_ok-args-in-Method.ensures) c.body.ensures)
