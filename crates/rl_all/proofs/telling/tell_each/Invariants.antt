use Rattle.std.proofs.Common.{◌≡◌, take}
use Rattle.std.specs.List.{flat_map}
use Rattle.def_check.specs.Reply.{told_by}
use Rattle.def_check.specs.Roots.{pointed_to}
use Rattle.rl_all.specs.Asking.{Asks, ForAnswers, Gains}
use Rattle.rl_all.proofs.telling.tell_each.Given as goal

abbrev pub invariant-loop-answer : goal.invariant-loop-answer
invariant-loop-answer g l = record {
  told :
      ForAnswers (g.A.Asker.subject l.fn.asker)
      (λ f. l.told.items ≡ flat_map (told_by (g.A.Asker.subject l.fn.asker) f) (take l.answer-index l.answers));
  asks :
      ForAnswers (g.A.Asker.subject l.fn.asker) (λ f.
      Asks g.A.Asker.subject g.A.Asker.worked g.A.Asker.keeps_to l.fn.asker l.asker l.fn.steps l.steps
      (flat_map (pointed_to (g.A.Asker.subject l.fn.asker) f) (take l.answer-index l.answers)));
  gains :
      ForAnswers (g.A.Asker.subject l.fn.asker) (λ f.
      Gains g.A.Asker.has l.fn.asker l.asker
      (flat_map (pointed_to (g.A.Asker.subject l.fn.asker) f) (take l.answer-index l.answers)));
}
