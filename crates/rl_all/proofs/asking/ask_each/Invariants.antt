use Rattle.std.proofs.Common.{◌≡◌, ◌++◌, map, take}
use Rattle.rl_all.specs.Asking.{Asks, ForAnswers, Gains}
use Rattle.rl_all.proofs.asking.ask_each.Given as goal

abbrev pub invariant-loop-key : goal.invariant-loop-key
invariant-loop-key g l = record {
  answers :
      ForAnswers (g.A.Asker.subject l.fn.asker)
      (λ answer. l.answers.items ≡ l.fn.answers.items ++ map answer (take l.key-index l.keys));
  asks :
      Asks g.A.Asker.subject g.A.Asker.worked g.A.Asker.keeps_to l.fn.asker l.asker l.fn.steps l.steps
      (take l.key-index l.keys);
  gains : Gains g.A.Asker.has l.fn.asker l.asker (take l.key-index l.keys);
}
