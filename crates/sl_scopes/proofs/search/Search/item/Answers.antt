use Rattle.std.proofs.Common.{map}
use Rattle.std.proofs.lemmas.Result.{err_from_is_err_and}
use Rattle.std.specs.Option.{option_map}
use Rattle.def_module.specs.Scopes.{args_scope, maybe_body_scopes}
use Rattle.sl_tree.specs.DeclView.{arg_in, block_in}
use Rattle.sl_scopes.proofs.Searching.{ends_at_first, ends_behind}
use Rattle.sl_scopes.proofs.search.Search.item.Goals as goal

pub returns-in_err-args-in-Require : goal.returns-in_err-args-in-Require
returns-in_err-args-in-Require c =
    let source = c.args.self.now.source.now in
    let require = c.in-Require.require in
    let p = err_from_is_err_and c.from_residual.result c.from_residual.ensures.1 in
    rw (p.1, p.2, c.in-Require.is)
    (ends_at_first source (args_scope (map (arg_in source) require.head.tail.args)) (maybe_body_scopes (option_map (block_in source) require.body))
    c.in_err-args-in-Require.field-0.0 (rw (← c.as_slice.ensures) c.in_err-args-in-Require.ensures))

pub returns-in_ok-args-in-Require : goal.returns-in_ok-args-in-Require
returns-in_ok-args-in-Require c =
    let source = c.args.self.now.source.now in
    let require = c.in-Require.require in
    rw c.in-Require.is
    (ends_behind source (args_scope (map (arg_in source) require.head.tail.args)) (maybe_body_scopes (option_map (block_in source) require.body))
    c.maybe_body.result (rw (← c.as_slice.ensures) c.in_ok-args-in-Require.ensures) c.maybe_body.ensures)
