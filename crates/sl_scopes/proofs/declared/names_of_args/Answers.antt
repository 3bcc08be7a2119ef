use Rattle.std.proofs.Common.{[], ◌∷◌, refl}
use Rattle.def_module.specs.Scopes.{single}
use Rattle.sl_token.specs.View.{token_in}
use Rattle.sl_scopes.proofs.Noting.{adds_single, noted_all, noted_more, noted_none}
use Rattle.sl_scopes.proofs.declared.names_of_args.Goals as goal
use Rattle.sl_scopes.proofs.declared.names_of_args.Invariants.{scope_of}

pub loop-arg-init : goal.loop-arg-init
loop-arg-init c = rw c.new-names.ensures (noted_none scope_of [] c.args.args.now)

pub loop-arg-preserved : goal.loop-arg-preserved
loop-arg-preserved c =
    noted_more scope_of (λ source arg. single (token_in source arg.name) ∷ []) (λ source x xs. refl) [] c.args.args.now c.loop-arg.arg-index
    c.arg-item.result c.arg-item.result c.loop-arg.names c.push.new.self c.arg-item.is c.loop-arg-test.true c.loop-arg.invariant
    (adds_single (c.arg-item.result).name c.loop-arg.names c.push.new.self c.single.result c.single.ensures c.in_ok-push.ensures.ok)

pub returns : goal.returns
returns c =
    noted_all scope_of [] c.args.args.now c.loop-arg.arg-index c.loop-arg.names (λ source. refl) c.loop-arg-test.false
    c.loop-arg.invariant
