use Rattle.std.proofs.Common.{◌∙◌, ◌∷◌, ◌++◌, [], ap, map, subst}
use Rattle.rl_all.proofs.Asked.{asks_none, asks_then, asks_wider, gains_then, module_answers, module_keys, syntax_in, told_still}
use Rattle.rl_all.specs.Asking.{Asks, Gains}
use Rattle.rl_all.proofs.asking.ask_module.Goals as goal

pub returns-in_err-key-clause-asks : goal.returns-in_err-key-clause-asks
returns-in_err-key-clause-asks g c = λ f tells.
    asks_wider g.met.A.Asker.wider (λ k i. absurd i) (asks_none c.args.asker.now c.args.steps.now)

pub returns-in_err-syntax-clause-asks : goal.returns-in_err-syntax-clause-asks
returns-in_err-syntax-clause-asks g c = λ f tells.
    asks_wider g.met.A.Asker.wider (syntax_in (g.A.Asker.subject c.args.asker.now) f c.args.name.now c.in_ok-key.key c.in_ok-key.ensures) c.ask.ensures.asks

pub returns-in_err-keys-clause-asks : goal.returns-in_err-keys-clause-asks
returns-in_err-keys-clause-asks g c = λ f tells.
    asks_wider g.met.A.Asker.wider (syntax_in (g.A.Asker.subject c.args.asker.now) f c.args.name.now c.in_ok-key.key c.in_ok-key.ensures) c.ask.ensures.asks

pub returns-in_err-push-clause-asks : goal.returns-in_err-push-clause-asks
returns-in_err-push-clause-asks g c = λ f tells.
    asks_wider g.met.A.Asker.wider (syntax_in (g.A.Asker.subject c.args.asker.now) f c.args.name.now c.in_ok-key.key c.in_ok-key.ensures) c.ask.ensures.asks

pub returns-in_err-ask_each-clause-asks : goal.returns-in_err-ask_each-clause-asks
returns-in_err-ask_each-clause-asks g c = λ f tells.
    subst
    (Asks g.A.Asker.subject g.A.Asker.worked g.A.Asker.keeps_to c.args.asker.now c.ask_each.new.asker c.args.steps.now c.ask_each.new.steps)
    (module_keys (g.A.Asker.subject c.args.asker.now) f c.args.name.now c.in_ok-key.key c.in_ok-syntax.syntax c.deref.result.now
    c.in_ok-key.ensures (c.in_ok-syntax.ensures.answer f tells) (c.deref.ensures.value ∙ c.in_ok-keys.ensures (g.A.Asker.subject c.args.asker.now) f tells))
    (asks_then c.ask.ensures.asks c.ask_each.ensures.asks)

pub returns-clause-answers : goal.returns-clause-answers
returns-clause-answers g c = λ f tells.
    module_answers (g.A.Asker.subject c.args.asker.now) f c.args.name.now c.in_ok-key.key c.in_ok-syntax.syntax c.deref.result.now _
    c.in_ok-key.ensures (c.in_ok-syntax.ensures.answer f tells) (c.deref.ensures.value ∙ c.in_ok-keys.ensures (g.A.Asker.subject c.args.asker.now) f tells)
    (c.in_ok-ask_each.ensures.answers f (told_still c.ask.ensures.asks f tells)
    ∙ ap (λ front. front ++ map f c.deref.result.now) (c.in_ok-push.ensures.items ∙ ap (λ none. none ++ c.in_ok-syntax.syntax ∷ []) c.new-answers.ensures.items))

pub returns-clause-asks : goal.returns-clause-asks
returns-clause-asks g c = λ f tells.
    subst
    (Asks g.A.Asker.subject g.A.Asker.worked g.A.Asker.keeps_to c.args.asker.now c.ask_each.new.asker c.args.steps.now c.ask_each.new.steps)
    (module_keys (g.A.Asker.subject c.args.asker.now) f c.args.name.now c.in_ok-key.key c.in_ok-syntax.syntax c.deref.result.now
    c.in_ok-key.ensures (c.in_ok-syntax.ensures.answer f tells) (c.deref.ensures.value ∙ c.in_ok-keys.ensures (g.A.Asker.subject c.args.asker.now) f tells))
    (asks_then c.ask.ensures.asks c.ask_each.ensures.asks)

pub returns-clause-gains : goal.returns-clause-gains
returns-clause-gains g c = λ f tells.
    subst
    (Gains g.A.Asker.has c.args.asker.now c.ask_each.new.asker)
    (module_keys (g.A.Asker.subject c.args.asker.now) f c.args.name.now c.in_ok-key.key c.in_ok-syntax.syntax c.deref.result.now
    c.in_ok-key.ensures (c.in_ok-syntax.ensures.answer f tells) (c.deref.ensures.value ∙ c.in_ok-keys.ensures (g.A.Asker.subject c.args.asker.now) f tells))
    (gains_then c.in_ok-syntax.ensures.gains c.in_ok-ask_each.ensures.gains)
