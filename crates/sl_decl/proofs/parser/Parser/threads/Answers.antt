use Rattle.std.proofs.Common.{false, refl}
use Rattle.sl_token.specs.View.{token_in}
use Rattle.sl_tree.specs.DeclView.{attr_in}
use Rattle.sl_cursor.specs.Nestings.{nesting_in}
use Rattle.sl_decl.specs.Attributes.{threads_form}
use Rattle.sl_decl.proofs.Forming.{begun, formed, stops, yes, made, must}
use Rattle.sl_decl.proofs.parser.Parser.threads.Goals as goal

pub returns : goal.returns
returns c =
    let source = c.args.self.now.source in
    let bytes = source.bytes.now in
    formed (threads_form (nesting_in c.args.inside.now) (token_in bytes c.args.opening) (token_in bytes c.args.word))
    (yes begun c.in_ok-begun.ensures (λ k1. (yes k1 c.in_ok-x.ensures (λ k2. (yes k2 c.in_ok-second.ensures (λ k3.
    (yes k3 c.in_ok-y.ensures (λ k4. (yes k4 c.in_ok-fourth.ensures (λ k5. (yes k5 c.in_ok-z.ensures (λ k6.
    (yes k6 c.in_ok-next.ensures (λ k7. (yes k7 c.in_ok-end.ensures (λ k8.
    (made k8 c.in_ok-end.ensures.behind (λ p. refl))))))))))))))))))

pub returns-in_err-begun : goal.returns-in_err-begun
returns-in_err-begun c =
    let source = c.args.self.now.source in
    let bytes = source.bytes.now in
    stops false source (attr_in bytes) (threads_form (nesting_in c.args.inside.now) (token_in bytes c.args.opening)
    (token_in bytes c.args.word)) c.args.here.now c.from_residual.result c.in_err-begun.field-0.0
    c.from_residual.ensures.1
    (must c.in_err-begun.ensures)

pub returns-in_err-x : goal.returns-in_err-x
returns-in_err-x c =
    let source = c.args.self.now.source in
    let bytes = source.bytes.now in
    stops false source (attr_in bytes) (threads_form (nesting_in c.args.inside.now) (token_in bytes c.args.opening)
    (token_in bytes c.args.word)) c.args.here.now c.from_residual-in_err-x.result c.in_err-x.field-0.0
    c.from_residual-in_err-x.ensures.1
    (yes begun c.in_ok-begun.ensures (λ k1. (must c.in_err-x.ensures)))

pub returns-in_err-second : goal.returns-in_err-second
returns-in_err-second c =
    let source = c.args.self.now.source in
    let bytes = source.bytes.now in
    stops false source (attr_in bytes) (threads_form (nesting_in c.args.inside.now) (token_in bytes c.args.opening)
    (token_in bytes c.args.word)) c.args.here.now c.from_residual-in_err-second.result c.in_err-second.field-0.0
    c.from_residual-in_err-second.ensures.1
    (yes begun c.in_ok-begun.ensures (λ k1. (yes k1 c.in_ok-x.ensures (λ k2. (must c.in_err-second.ensures)))))

pub returns-in_err-y : goal.returns-in_err-y
returns-in_err-y c =
    let source = c.args.self.now.source in
    let bytes = source.bytes.now in
    stops false source (attr_in bytes) (threads_form (nesting_in c.args.inside.now) (token_in bytes c.args.opening)
    (token_in bytes c.args.word)) c.args.here.now c.from_residual-in_err-y.result c.in_err-y.field-0.0
    c.from_residual-in_err-y.ensures.1
    (yes begun c.in_ok-begun.ensures (λ k1. (yes k1 c.in_ok-x.ensures (λ k2. (yes k2 c.in_ok-second.ensures (λ k3.
    (must c.in_err-y.ensures)))))))

pub returns-in_err-fourth : goal.returns-in_err-fourth
returns-in_err-fourth c =
    let source = c.args.self.now.source in
    let bytes = source.bytes.now in
    stops false source (attr_in bytes) (threads_form (nesting_in c.args.inside.now) (token_in bytes c.args.opening)
    (token_in bytes c.args.word)) c.args.here.now c.from_residual-in_err-fourth.result c.in_err-fourth.field-0.0
    c.from_residual-in_err-fourth.ensures.1
    (yes begun c.in_ok-begun.ensures (λ k1. (yes k1 c.in_ok-x.ensures (λ k2. (yes k2 c.in_ok-second.ensures (λ k3.
    (yes k3 c.in_ok-y.ensures (λ k4. (must c.in_err-fourth.ensures)))))))))

pub returns-in_err-z : goal.returns-in_err-z
returns-in_err-z c =
    let source = c.args.self.now.source in
    let bytes = source.bytes.now in
    stops false source (attr_in bytes) (threads_form (nesting_in c.args.inside.now) (token_in bytes c.args.opening)
    (token_in bytes c.args.word)) c.args.here.now c.from_residual-in_err-z.result c.in_err-z.field-0.0
    c.from_residual-in_err-z.ensures.1
    (yes begun c.in_ok-begun.ensures (λ k1. (yes k1 c.in_ok-x.ensures (λ k2. (yes k2 c.in_ok-second.ensures (λ k3.
    (yes k3 c.in_ok-y.ensures (λ k4. (yes k4 c.in_ok-fourth.ensures (λ k5. (must c.in_err-z.ensures)))))))))))

pub returns-in_err-next : goal.returns-in_err-next
returns-in_err-next c =
    let source = c.args.self.now.source in
    let bytes = source.bytes.now in
    stops false source (attr_in bytes) (threads_form (nesting_in c.args.inside.now) (token_in bytes c.args.opening)
    (token_in bytes c.args.word)) c.args.here.now c.from_residual-in_err-next.result c.in_err-next.field-0.0
    c.from_residual-in_err-next.ensures.1
    (yes begun c.in_ok-begun.ensures (λ k1. (yes k1 c.in_ok-x.ensures (λ k2. (yes k2 c.in_ok-second.ensures (λ k3.
    (yes k3 c.in_ok-y.ensures (λ k4. (yes k4 c.in_ok-fourth.ensures (λ k5. (yes k5 c.in_ok-z.ensures (λ k6.
    (must c.in_err-next.ensures)))))))))))))

pub returns-in_err-end : goal.returns-in_err-end
returns-in_err-end c =
    let source = c.args.self.now.source in
    let bytes = source.bytes.now in
    stops false source (attr_in bytes) (threads_form (nesting_in c.args.inside.now) (token_in bytes c.args.opening)
    (token_in bytes c.args.word)) c.args.here.now c.from_residual-in_err-end.result c.in_err-end.field-0.0
    c.from_residual-in_err-end.ensures.1
    (yes begun c.in_ok-begun.ensures (λ k1. (yes k1 c.in_ok-x.ensures (λ k2. (yes k2 c.in_ok-second.ensures (λ k3.
    (yes k3 c.in_ok-y.ensures (λ k4. (yes k4 c.in_ok-fourth.ensures (λ k5. (yes k5 c.in_ok-z.ensures (λ k6.
    (yes k6 c.in_ok-next.ensures (λ k7. (must c.in_err-end.ensures)))))))))))))))
