use Rattle.std.proofs.Common.{◌≤◌, length, sym, ap, arith}
use Rattle.std.proofs.lemmas.Result.{err_from_is_err_and}
use Rattle.def_sources.specs.Sources.{Sources}
use Rattle.sl_roots.specs.Load.{sources_of}
use Rattle.sl_roots.specs.Load.Gathers.{begins}
use Rattle.sl_roots.proofs.Gathering.{gathers_gained, refuses_fails}
use Rattle.sl_roots.proofs.Seen.{same_element, seen_one, seen_more}
use Rattle.sl_roots.proofs.Walk.{next_at, next_none}
use Rattle.sl_roots.proofs.loading.gather.Goals as goal
use Rattle.sl_roots.proofs.loading.gather.Goals.{then-not-has+in_ok-take, else-not-has}

pub loop-name-init : goal.loop-name-init
loop-name-init g c =
    let none = ap (λ (s : Sources). length s.modules) c.new-set.ensures in
    record {
      gathers = rw c.new-set.ensures begins;
      few = omega (arith, none);
      seen = λ k below. absurd (omega arith);
    }

pub loop-name-preserved : goal.loop-name-preserved
loop-name-preserved g c =
    let sources = sources_of c.loop-name.set in
    let items = c.as_slice-name-items.ensures in
    let seen = c.loop-name.invariant.seen in
    let within = rw items at c.loop-name-test.true in
    let item = rw items at c.name-item.is in
    let is = same_element _ _ _ _ _ within item in
    elim c.if-not-has.branch [
      | then-not-has+in_ok-take w ↦
          let fresh = rw w.if-not-has.true at c.has.ensures in
          let gains = w.in_ok-take.ensures.ok in
          rw (w.set-is, w.roots-is) record {
            gathers = gathers_gained _ _ _ _ _ _ _ c.loop-name.invariant.gathers (next_at _ sources _ _ within is seen (sym fresh)) gains;
            few = w.in_ok-take.ensures.few;
            seen = seen_more _ _ _ sources _ _ _ is seen gains;
          }
      | else-not-has w ↦
          let held = rw w.if-not-has.false at c.has.ensures in
          rw (w.set-is, w.roots-is) record {
            gathers = c.loop-name.invariant.gathers;
            few = c.loop-name.invariant.few;
            seen = seen_one _ _ _ sources is seen (sym held);
          }
    ]

pub returns : goal.returns
returns g c =
    let names = c.args.names.now in
    let all : length names ≤ c.loop-name.name-index = rw c.as_slice-name-items.ensures at c.loop-name-test.false in
    record {
      gathers = c.loop-name.invariant.gathers;
      ended = next_none names (sources_of c.loop-name.set) (λ k below. c.loop-name.invariant.seen k (omega arith));
      few = c.loop-name.invariant.few;
    }

pub returns-in_err-take : goal.returns-in_err-take
returns-in_err-take g c =
    let sources = sources_of c.loop-name.set in
    let items = c.as_slice-name-items.ensures in
    let seen = c.loop-name.invariant.seen in
    let within = rw items at c.loop-name-test.true in
    let item = rw items at c.name-item.is in
    let is = same_element _ _ _ _ _ within item in
    let fresh = rw c.if-not-has.true at c.has.ensures in
    let passed_on = err_from_is_err_and c.from_residual.result c.from_residual.ensures.1 in
    rw (passed_on.1, passed_on.2)
    (refuses_fails _ _ _ _ _ _ _ c.loop-name.invariant.gathers c.loop-name.invariant.few (next_at _ sources _ _ within is seen (sym fresh)) c.in_err-take.ensures.err)
