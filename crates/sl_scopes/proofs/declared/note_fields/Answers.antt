use Rattle.std.proofs.Common.{[], ◌∷◌, ap, refl}
use Rattle.def_module.specs.Scopes.{single}
use Rattle.sl_token.specs.View.{token_in}
use Rattle.sl_scopes.specs.declared.declared.Declared.{Declared}
use Rattle.sl_scopes.proofs.Noting.{adds_one, noted_all, noted_more, noted_none}
use Rattle.sl_scopes.proofs.declared.note_fields.Goals as goal
use Rattle.sl_scopes.proofs.declared.note_fields.Invariants.{scope_of}

pub loop-field-init : goal.loop-field-init
loop-field-init c = noted_none scope_of c.args.names.now c.args.fields.now

pub loop-field-preserved : goal.loop-field-preserved
loop-field-preserved c =
    let this = c.single.result in
    noted_more scope_of (λ source field. single (token_in source field) ∷ []) (λ source x xs. refl) c.args.names.now c.args.fields.now
    c.loop-field.field-index _ this.name c.loop-field.names c.push.new.self (ap (λ (d : Declared). d.name) c.single.ensures)
    c.loop-field-test.true c.loop-field.invariant
    (adds_one (λ source. single (token_in source this.name) ∷ []) c.loop-field.names c.push.new.self this c.in_ok-push.ensures.ok
    (λ source. ap (λ (d : Declared). record { name = token_in source this.name; overloads = d.overloads } ∷ []) c.single.ensures))

pub returns : goal.returns
returns c =
    noted_all scope_of c.args.names.now c.args.fields.now c.loop-field.field-index c.loop-field.names (λ source. refl) c.loop-field-test.false
    c.loop-field.invariant
