use Rattle.std.proofs.Common.{[], ◌∷◌, refl}
use Rattle.def_module.specs.Scopes.{single}
use Rattle.sl_token.specs.View.{token_in}
use Rattle.sl_scopes.proofs.Noting.{adds_single, noted_all, noted_more, noted_none}
use Rattle.sl_scopes.proofs.declared.names_of_params.Goals as goal
use Rattle.sl_scopes.proofs.declared.names_of_params.Invariants.{scope_of}

pub loop-param-init : goal.loop-param-init
loop-param-init c = rw c.new-names.ensures (noted_none scope_of [] c.args.params.now)

pub loop-param-preserved : goal.loop-param-preserved
loop-param-preserved c =
    noted_more scope_of (λ source param. single (token_in source param.name) ∷ []) (λ source x xs. refl) [] c.args.params.now c.loop-param.param-index
    c.param-item.result c.param-item.result c.loop-param.names c.push.new.self c.param-item.is c.loop-param-test.true c.loop-param.invariant
    (adds_single (c.param-item.result).name c.loop-param.names c.push.new.self c.single.result c.single.ensures c.in_ok-push.ensures.ok)

pub returns : goal.returns
returns c =
    noted_all scope_of [] c.args.params.now c.loop-param.param-index c.loop-param.names (λ source. refl) c.loop-param-test.false
    c.loop-param.invariant
