use Rattle.std.proofs.Common.{[], ◌∷◌, refl}
use Rattle.def_module.specs.Scopes.{single}
use Rattle.sl_token.specs.View.{token_in}
use Rattle.sl_scopes.proofs.Noting.{adds_single, noted_all, noted_more, noted_none}
use Rattle.sl_scopes.proofs.declared.note_declarators.Goals as goal
use Rattle.sl_scopes.proofs.declared.note_declarators.Invariants.{scope_of}

pub loop-declarator-init : goal.loop-declarator-init
loop-declarator-init c = noted_none scope_of c.args.names.now c.args.declarators.now

pub loop-declarator-preserved : goal.loop-declarator-preserved
loop-declarator-preserved c =
    noted_more scope_of (λ source declarator. single (token_in source declarator.name) ∷ []) (λ source x xs. refl) c.args.names.now c.args.declarators.now c.loop-declarator.declarator-index
    c.declarator-item.result c.declarator-item.result c.loop-declarator.names c.push.new.self c.declarator-item.is c.loop-declarator-test.true c.loop-declarator.invariant
    (adds_single (c.declarator-item.result).name c.loop-declarator.names c.push.new.self c.single.result c.single.ensures c.in_ok-push.ensures.ok)

pub returns : goal.returns
returns c =
    noted_all scope_of c.args.names.now c.args.declarators.now c.loop-declarator.declarator-index c.loop-declarator.names (λ source. refl) c.loop-declarator-test.false
    c.loop-declarator.invariant
