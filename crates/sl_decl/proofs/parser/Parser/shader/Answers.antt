use Rattle.std.proofs.Common.{false, refl}
use Rattle.sl_token.specs.View.{token_in}
use Rattle.sl_tree.specs.DeclView.{attr_in}
use Rattle.sl_cursor.specs.Nestings.{nesting_in}
use Rattle.sl_decl.specs.Attributes.{shader_form}
use Rattle.sl_decl.proofs.Forming.{begun, formed, stops, yes, made, must}
use Rattle.sl_decl.proofs.parser.Parser.shader.Goals as goal

pub returns : goal.returns
returns c =
    let source = c.args.self.now.source in
    let bytes = source.bytes.now in
    formed (shader_form (nesting_in c.args.inside.now) (token_in bytes c.args.opening) (token_in bytes c.args.word))
    (yes begun c.in_ok-begun.ensures (λ k1. (yes k1 c.in_ok-stage.ensures (λ k2. (yes k2 c.in_ok-next.ensures (λ k3.
    (yes k3 c.in_ok-end.ensures (λ k4. (made k4 c.in_ok-end.ensures.behind (λ p. refl))))))))))

pub returns-in_err-begun : goal.returns-in_err-begun
returns-in_err-begun c =
    let source = c.args.self.now.source in
    let bytes = source.bytes.now in
    stops false source (attr_in bytes) (shader_form (nesting_in c.args.inside.now) (token_in bytes c.args.opening)
    (token_in bytes c.args.word)) c.args.here.now c.from_residual.result c.in_err-begun.field-0.0
    c.from_residual.ensures.1
    (must c.in_err-begun.ensures)

pub returns-in_err-stage : goal.returns-in_err-stage
returns-in_err-stage c =
    let source = c.args.self.now.source in
    let bytes = source.bytes.now in
    stops false source (attr_in bytes) (shader_form (nesting_in c.args.inside.now) (token_in bytes c.args.opening)
    (token_in bytes c.args.word)) c.args.here.now c.from_residual-in_err-stage.result c.in_err-stage.field-0.0
    c.from_residual-in_err-stage.ensures.1
    (yes begun c.in_ok-begun.ensures (λ k1. (must c.in_err-stage.ensures)))

pub returns-in_err-next : goal.returns-in_err-next
returns-in_err-next c =
    let source = c.args.self.now.source in
    let bytes = source.bytes.now in
    stops false source (attr_in bytes) (shader_form (nesting_in c.args.inside.now) (token_in bytes c.args.opening)
    (token_in bytes c.args.word)) c.args.here.now c.from_residual-in_err-next.result c.in_err-next.field-0.0
    c.from_residual-in_err-next.ensures.1
    (yes begun c.in_ok-begun.ensures (λ k1. (yes k1 c.in_ok-stage.ensures (λ k2. (must c.in_err-next.ensures)))))

pub returns-in_err-end : goal.returns-in_err-end
returns-in_err-end c =
    let source = c.args.self.now.source in
    let bytes = source.bytes.now in
    stops false source (attr_in bytes) (shader_form (nesting_in c.args.inside.now) (token_in bytes c.args.opening)
    (token_in bytes c.args.word)) c.args.here.now c.from_residual-in_err-end.result c.in_err-end.field-0.0
    c.from_residual-in_err-end.ensures.1
    (yes begun c.in_ok-begun.ensures (λ k1. (yes k1 c.in_ok-stage.ensures (λ k2. (yes k2 c.in_ok-next.ensures (λ k3.
    (must c.in_err-end.ensures)))))))
