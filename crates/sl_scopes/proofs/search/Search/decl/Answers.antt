use Rattle.std.proofs.Common.{◌∷◌, map}
use Rattle.std.specs.Prelude.{Err}
use Rattle.std.proofs.lemmas.Result.{err_from_is_err_and}
use Rattle.def_module.specs.Scopes.{args_scope, body_scopes, members_scopes, params_scope}
use Rattle.sl_tree.specs.DeclView.{arg_in, block_in, member_in, param_in}
use Rattle.sl_scopes.proofs.Searching.{ends_at_first, ends_behind}
use Rattle.sl_scopes.proofs.search.Search.decl.Goals as goal

pub returns-in_err-params-in-Struct : goal.returns-in_err-params-in-Struct
returns-in_err-params-in-Struct c =
    let source = c.args.self.now.source.now in
    let struct = c.in-Struct.structure in
    let p = err_from_is_err_and c.from_residual.result c.from_residual.ensures.1 in
    rw (p.1, p.2, c.in-Struct.is)
    (ends_at_first source (params_scope (map (param_in source) struct.params)) (members_scopes (map (member_in source) struct.members))
    c.in_err-params-in-Struct.field-0.0 (rw (← c.as_slice.ensures) c.in_err-params-in-Struct.ensures))

pub returns-in_ok-params-in-Struct : goal.returns-in_ok-params-in-Struct
returns-in_ok-params-in-Struct c =
    let source = c.args.self.now.source.now in
    let struct = c.in-Struct.structure in
    rw c.in-Struct.is
    (ends_behind source (params_scope (map (param_in source) struct.params)) (members_scopes (map (member_in source) struct.members))
    c.members.result (rw (← c.as_slice.ensures) c.in_ok-params-in-Struct.ensures) (rw (← c.as_slice-in-Struct.ensures) c.members.ensures))

pub returns-in_err-params-in-Function : goal.returns-in_err-params-in-Function
returns-in_err-params-in-Function c =
    let source = c.args.self.now.source.now in
    let function = c.in-Function.function in
    let p = err_from_is_err_and c.from_residual-in_err-params-in-Function.result c.from_residual-in_err-params-in-Function.ensures.1 in
    rw (p.1, p.2, c.in-Function.is)
    (ends_at_first source (params_scope (map (param_in source) function.params))
    (args_scope (map (arg_in source) function.args) ∷ body_scopes (block_in source function.body))
    c.in_err-params-in-Function.field-0.0 (rw (← c.as_slice-in-Function.ensures) c.in_err-params-in-Function.ensures))

pub returns-in_err-args-in-Function : goal.returns-in_err-args-in-Function
returns-in_err-args-in-Function c =
    let source = c.args.self.now.source.now in
    let function = c.in-Function.function in
    let args = args_scope (map (arg_in source) function.args) in
    let body = body_scopes (block_in source function.body) in
    let early = c.in_err-args-in-Function.field-0.0 in
    let p = err_from_is_err_and c.from_residual-in_err-args-in-Function.result c.from_residual-in_err-args-in-Function.ensures.1 in
    rw (p.1, p.2, c.in-Function.is)
    (ends_behind source (params_scope (map (param_in source) function.params)) (args ∷ body) (Err early)
    (rw (← c.as_slice-in-Function.ensures) c.in_ok-params-in-Function.ensures)
    (ends_at_first source args body early (rw (← c.as_slice-in-Function-2.ensures) c.in_err-args-in-Function.ensures)))

pub returns-in_ok-args-in-Function : goal.returns-in_ok-args-in-Function
returns-in_ok-args-in-Function c =
    let source = c.args.self.now.source.now in
    let function = c.in-Function.function in
    let args = args_scope (map (arg_in source) function.args) in
    let body = body_scopes (block_in source function.body) in
    rw c.in-Function.is
    (ends_behind source (params_scope (map (param_in source) function.params)) (args ∷ body) c.body.result
    (rw (← c.as_slice-in-Function.ensures) c.in_ok-params-in-Function.ensures)
    (ends_behind source args body c.body.result (rw (← c.as_slice-in-Function-2.ensures) c.in_ok-args-in-Function.ensures) c.body.ensures))
