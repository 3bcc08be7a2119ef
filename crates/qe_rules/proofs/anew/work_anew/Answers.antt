use Rattle.std.proofs.Common.{◌∙◌, sym, refl, arith}
use Rattle.def_query.specs.declared.step.Step.TheVariants.{Needs, Done}
use Rattle.qe_rules.proofs.Used.{going, uses, smaller, done, needs, worked}
use Rattle.qe_rules.proofs.anew.work_anew.Goals as goal

pub loop-answer-init : goal.loop-answer-init
loop-answer-init g c = record {
  going =
      going g.B.Key.Ord.cmp g.met.B.Key.Ord.total (g.B.Bodies.meaning c.args.bodies.now) (g.met.B.Bodies.lawful c.args.bodies.now)
      c.args.known.now.pairs c.args.used.now.pairs c.args.order.now.items c.requires.used c.requires.keys;
  steps = refl;
}

pub returns-in-Done-clause-worked : goal.returns-in-Done-clause-worked
returns-in-Done-clause-worked g c =
    worked g.B.Key.Ord.cmp g.met.B.Key.Ord.total (g.B.Bodies.meaning c.args.bodies.now) (g.met.B.Bodies.lawful c.args.bodies.now)
    c.args.known.now.pairs c.args.used.now.pairs c.args.order.now.items c.loop-answer.used.pairs c.loop-answer.order.items c.loop-answer.invariant.going c.args.key.now
    (Done c.in-Done.answer)
    (done g.B.Key.Ord.cmp g.met.B.Key.Ord.total (g.B.Bodies.meaning c.args.bodies.now) (g.met.B.Bodies.lawful c.args.bodies.now)
    c.args.known.now.pairs c.args.used.now.pairs c.args.order.now.items c.loop-answer.used.pairs c.loop-answer.order.items c.loop-answer.invariant.going c.args.key.now
    c.in-Done.answer (sym c.in_ok-answer.ensures.body ∙ c.in-Done.is))
    (sym c.in_ok-answer.ensures.body ∙ c.in-Done.is)

pub returns-in-None-clause-worked : goal.returns-in-None-clause-worked
returns-in-None-clause-worked g c =
    worked g.B.Key.Ord.cmp g.met.B.Key.Ord.total (g.B.Bodies.meaning c.args.bodies.now) (g.met.B.Bodies.lawful c.args.bodies.now)
    c.args.known.now.pairs c.args.used.now.pairs c.args.order.now.items c.loop-answer.used.pairs c.loop-answer.order.items c.loop-answer.invariant.going c.args.key.now
    (Needs c.in-Needs.need)
    (needs g.B.Key.Ord.cmp g.met.B.Key.Ord.total (g.B.Bodies.meaning c.args.bodies.now) (g.met.B.Bodies.lawful c.args.bodies.now)
    c.args.known.now.pairs c.args.used.now.pairs c.args.order.now.items c.loop-answer.used.pairs c.loop-answer.order.items c.loop-answer.invariant.going c.args.key.now
    c.in-Needs.need (sym c.in_ok-answer.ensures.body ∙ c.in-Needs.is) c.in-None.ensures.answer)
    (sym c.in_ok-answer.ensures.body ∙ c.in-Needs.is)

pub loop-answer-smaller : goal.loop-answer-smaller
loop-answer-smaller g c =
    smaller g.B.Key.Ord.cmp g.met.B.Key.Ord.total (g.B.Bodies.meaning c.args.bodies.now) (g.met.B.Bodies.lawful c.args.bodies.now)
    c.args.known.now.pairs c.args.used.now.pairs c.args.order.now.items c.loop-answer.used.pairs c.loop-answer.order.items c.loop-answer.invariant.going c.args.key.now
    c.in-Needs.need c.in-Some.answer.now c.use_answer.new.used.pairs
    (sym c.in_ok-answer.ensures.body ∙ c.in-Needs.is) c.in-Some.ensures.answer c.in_ok-use_answer-in-Some.ensures.one

pub loop-answer-preserved : goal.loop-answer-preserved
loop-answer-preserved g c = record {
  going =
      uses g.B.Key.Ord.cmp g.met.B.Key.Ord.total (g.B.Bodies.meaning c.args.bodies.now) (g.met.B.Bodies.lawful c.args.bodies.now)
      c.args.known.now.pairs c.args.used.now.pairs c.args.order.now.items c.loop-answer.used.pairs c.loop-answer.order.items c.loop-answer.invariant.going c.args.key.now
      c.in-Needs.need c.in-Some.answer.now c.use_answer.new.used.pairs c.use_answer.new.order.items
      (sym c.in_ok-answer.ensures.body ∙ c.in-Needs.is) c.requires.correct c.in-Some.ensures.answer
      c.in_ok-use_answer-in-Some.ensures.used c.in_ok-use_answer-in-Some.ensures.one c.in_ok-use_answer-in-Some.ensures.order;
  steps = grind (arith, c.loop-answer.invariant.steps, c.in_ok-answer.ensures.steps);
}
