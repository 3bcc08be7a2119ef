use Rattle.rl_all.proofs.Asked.{answers_more, asks_then, asks_wider, gains_then, taken_in, taken_more, told_still}
use Rattle.rl_all.proofs.asking.ask_each.Goals as goal

pub returns-in_err-ask-clause-asks : goal.returns-in_err-ask-clause-asks
returns-in_err-ask-clause-asks g c =
    asks_wider g.met.A.Asker.wider
    (taken_in c.args.keys.now c.loop-key.key-index c.key-item.result c.loop-key-test.true c.key-item.is)
    (asks_then c.loop-key.invariant.asks c.ask.ensures.asks)

pub returns-in_err-push-clause-asks : goal.returns-in_err-push-clause-asks
returns-in_err-push-clause-asks g c =
    asks_wider g.met.A.Asker.wider
    (taken_in c.args.keys.now c.loop-key.key-index c.key-item.result c.loop-key-test.true c.key-item.is)
    (asks_then c.loop-key.invariant.asks c.ask.ensures.asks)

pub loop-key-preserved : goal.loop-key-preserved
loop-key-preserved g c =
    let more = taken_more c.args.keys.now c.loop-key.key-index c.key-item.result c.loop-key-test.true c.key-item.is in
    record {
      answers = λ f tells.
          answers_more c.args.keys.now c.loop-key.key-index c.key-item.result c.loop-key-test.true c.key-item.is
          f c.args.answers.now.items c.loop-key.answers.items c.push.new.self.items c.in_ok-ask.field-0
          (c.loop-key.invariant.answers f tells)
          (c.in_ok-ask.ensures.answer f (told_still c.loop-key.invariant.asks f tells))
          c.in_ok-push.ensures.items;
      asks = rw more (asks_then c.loop-key.invariant.asks c.ask.ensures.asks);
      gains = rw more (gains_then c.loop-key.invariant.gains c.in_ok-ask.ensures.gains);
    }
