use Rattle.std.proofs.Common.{◌≡◌, ◌∙◌, ◌+◌, ◌<◌, ℕ, List, Some, Err, length, sym, ap, drop, get_or, arith}
use Rattle.std.proofs.lemmas.List.{get_or_default}
use Rattle.def_query.specs.declared.step.Step.TheVariants.{Done}
use Rattle.def_query.specs.Edges.{body_over, last_of, uses}
use Rattle.def_query.proofs.Edges.{edge_used}
use Rattle.qe_rules.proofs.tests.EdgesBodies.step.Goals as goal

-- the cycle that is used is told
pub returns-in-Some-Err-clause-body : goal.returns-in-Some-Err-clause-body
returns-in-Some-Err-clause-body g c =
    let within : c.loop-edge.edge-index < length c.deref-edge-items.result.now = omega (arith, c.loop-edge-test.true) in
    let has = c.in-Some-Err.ensures.answer ∙ ap Some c.in-Some-Err.field-0-is in
    let used =
    edge_used c.deref-edge-items.result.now c.loop-edge.edge-index (get_or c.deref-edge-items.result.now c.loop-edge.edge-index (0, 0))
    (last_of c.args.self.now.bad c.args.key.now) c.args.key.now c.args.known.now.pairs within
    (sym (get_or_default c.deref-edge-items.result.now c.loop-edge.edge-index (get_or c.deref-edge-items.result.now c.loop-edge.edge-index (0, 0)) (0, 0) within))
    c.if-edge-key.true in
    let same =
    ap (λ (z : List (ℕ × ℕ)). body_over (drop c.loop-edge.edge-index z) (last_of c.args.self.now.bad c.args.key.now) c.args.key.now c.args.known.now.pairs)
    c.deref-edge-items.ensures.value in
    let gives =
    ap
    (uses (body_over (drop (c.loop-edge.edge-index + 1) c.deref-edge-items.result.now) (last_of c.args.self.now.bad c.args.key.now) c.args.key.now c.args.known.now.pairs)
    (get_or c.deref-edge-items.result.now c.loop-edge.edge-index (0, 0)).1)
    has in
    let cycle : c.as_slice.result.now ≡ c.in-Some-Err.cycle = cc (c.as_slice.ensures, c.in-Some-Err.cycle-is) in
    let tells = ap Done (c.in_ok-told-in-Some-Err.ensures ∙ ap (λ (z : List ℕ). Err z) cycle) in
    tells ∙ (sym gives ∙ (sym used ∙ (same ∙ c.loop-edge.invariant.body)))
