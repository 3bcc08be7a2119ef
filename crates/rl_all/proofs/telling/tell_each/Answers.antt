use Rattle.std.proofs.Common.{◌∙◌, ◌+◌, ◌++◌, ap, subst, sym}
use Rattle.std.proofs.lemmas.List.{take_all}
use Rattle.std.specs.List.{flat_map}
use Rattle.def_query.specs.Keys.{IsIn}
use Rattle.def_check.specs.Reply.{told_by}
use Rattle.def_check.specs.Roots.{pointed_to}
use Rattle.rl_all.specs.Asking.{Asks, Gains}
use Rattle.rl_all.proofs.Asked.{asks_then, asks_wider, flat_front, flat_taken, gains_then, told_still}
use Rattle.rl_all.proofs.telling.tell_each.Goals as goal

pub returns-in_err-tell-clause-asks : goal.returns-in_err-tell-clause-asks
returns-in_err-tell-clause-asks g c = λ f tells.
    let before = c.loop-answer.invariant.asks f tells in
    let points = pointed_to (g.A.Asker.subject c.args.asker.now) f in
    asks_wider g.met.A.Asker.wider
    (λ k i. flat_front points c.args.answers.now (c.loop-answer.answer-index + 1) k
    (subst (IsIn k) (sym (flat_taken c.args.answers.now c.loop-answer.answer-index c.answer-item.result c.loop-answer-test.true c.answer-item.is points)) i))
    (asks_then before (c.tell.ensures.asks f (told_still before f tells)))

pub loop-answer-preserved : goal.loop-answer-preserved
loop-answer-preserved g c = record {
  told = λ f tells.
      let before = c.loop-answer.invariant.asks f tells in
      let tell = told_by (g.A.Asker.subject c.args.asker.now) f in
      c.in_ok-tell.ensures.told f (told_still before f tells)
      ∙ ap (λ s. c.loop-answer.told.items ++ told_by s f c.answer-item.result) before.same
      ∙ ap (λ front. front ++ tell c.answer-item.result) (c.loop-answer.invariant.told f tells)
      ∙ sym (flat_taken c.args.answers.now c.loop-answer.answer-index c.answer-item.result c.loop-answer-test.true c.answer-item.is tell);
  asks = λ f tells.
      let before = c.loop-answer.invariant.asks f tells in
      let points = pointed_to (g.A.Asker.subject c.args.asker.now) f in
      subst
      (Asks g.A.Asker.subject g.A.Asker.worked g.A.Asker.keeps_to c.args.asker.now c.tell.new.asker c.args.steps.now c.tell.new.steps)
      (sym (flat_taken c.args.answers.now c.loop-answer.answer-index c.answer-item.result c.loop-answer-test.true c.answer-item.is points))
      (asks_then before (c.tell.ensures.asks f (told_still before f tells)));
  gains = λ f tells.
      let before = c.loop-answer.invariant.asks f tells in
      let points = pointed_to (g.A.Asker.subject c.args.asker.now) f in
      subst
      (Gains g.A.Asker.has c.args.asker.now c.tell.new.asker)
      (sym (flat_taken c.args.answers.now c.loop-answer.answer-index c.answer-item.result c.loop-answer-test.true c.answer-item.is points))
      (gains_then (c.loop-answer.invariant.gains f tells) (c.in_ok-tell.ensures.gains f (told_still before f tells)));
}

pub returns-clause-told : goal.returns-clause-told
returns-clause-told g c = λ f tells.
    c.loop-answer.invariant.told f tells
    ∙ ap (flat_map (told_by (g.A.Asker.subject c.args.asker.now) f)) (take_all c.loop-answer.answer-index c.args.answers.now c.loop-answer-test.false)

pub returns-clause-asks : goal.returns-clause-asks
returns-clause-asks g c = λ f tells.
    subst
    (λ xs. Asks g.A.Asker.subject g.A.Asker.worked g.A.Asker.keeps_to c.args.asker.now c.loop-answer.asker c.args.steps.now c.loop-answer.steps
    (flat_map (pointed_to (g.A.Asker.subject c.args.asker.now) f) xs))
    (take_all c.loop-answer.answer-index c.args.answers.now c.loop-answer-test.false)
    (c.loop-answer.invariant.asks f tells)

pub returns-clause-gains : goal.returns-clause-gains
returns-clause-gains g c = λ f tells.
    subst
    (λ xs. Gains g.A.Asker.has c.args.asker.now c.loop-answer.asker (flat_map (pointed_to (g.A.Asker.subject c.args.asker.now) f) xs))
    (take_all c.loop-answer.answer-index c.args.answers.now c.loop-answer-test.false)
    (c.loop-answer.invariant.gains f tells)
