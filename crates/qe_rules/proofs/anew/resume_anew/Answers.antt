use Rattle.std.proofs.Common.{refl, subst, sym}
use Rattle.def_query.specs.Answer.{IsCorrect}
use Rattle.qe_rules.specs.Frame.{Frame}
use Rattle.qe_rules.proofs.Used.{used_correct, right_of}
use Rattle.qe_rules.proofs.anew.resume_anew.Goals as goal

pub work_anew-requires-clause-used : goal.work_anew-requires-clause-used
work_anew-requires-clause-used g c =
    used_correct g.B.Key.Ord.cmp g.met.B.Key.Ord.total (g.B.Bodies.meaning c.args.bodies.now) (g.met.B.Bodies.lawful c.args.bodies.now)
    c.frame.inside.used.pairs c.frame.inside.order.items c.frame.invariant
    (subst (λ (f : Frame g.row.B-Key.Denot g.row.B-Answer.Denot). IsCorrect g.B.Key.Ord.cmp (g.B.Bodies.meaning c.args.bodies.now) f.read) (sym c.frame.view_is) c.requires.right.correct)

pub returns-clause-right : goal.returns-clause-right
returns-clause-right g c =
    right_of g.B.Key.Ord.cmp g.met.B.Key.Ord.total (g.B.Bodies.meaning c.args.bodies.now) (g.met.B.Bodies.lawful c.args.bodies.now)
    _ c.work_anew.new.used.pairs c.work_anew.new.order.items refl c.in_ok-step.ensures.keys c.in_ok-step.ensures.used
