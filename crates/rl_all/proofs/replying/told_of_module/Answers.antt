use Rattle.std.proofs.Common.{◌∙◌, ◌++◌, ap, subst}
use Rattle.std.proofs.lemmas.Result.{IfOk-weaker, on_ok_weaker}
use Rattle.std.specs.List.{flat_map}
use Rattle.def_query.proofs.Walks.{in_append_left}
use Rattle.def_check.specs.Reply.{told_by}
use Rattle.def_check.specs.Roots.{pointed_to}
use Rattle.rl_all.specs.Asking.{Asks, Gains, keys_for}
use Rattle.rl_all.proofs.Asked.{asks_then, asks_wider, flat_mapped, gains_then, told_still}
use Rattle.rl_all.proofs.replying.told_of_module.Goals as goal

pub returns-in_err-answers-clause-asks : goal.returns-in_err-answers-clause-asks
returns-in_err-answers-clause-asks g c = λ f tells.
    asks_wider g.met.A.Asker.wider
    (λ k i. in_append_left k (keys_for (g.A.Asker.subject c.args.asker.now) f c.args.name.now) _ i)
    (c.ask_module.ensures.asks f tells)

pub returns-clause-told : goal.returns-clause-told
returns-clause-told g c =
    IfOk-weaker c.tell_each.result _ _
    (λ told tells_each f tells.
    let tell = told_by (g.A.Asker.subject c.args.asker.now) f in
    tells_each f (told_still (c.ask_module.ensures.asks f tells) f tells)
    ∙ ap (λ s. flat_map (told_by s f) c.deref.result.now) (c.ask_module.ensures.asks f tells).same
    ∙ ap (flat_map tell) (c.deref.ensures.value ∙ c.in_ok-answers.ensures.answers f tells)
    ∙ flat_mapped tell f (keys_for (g.A.Asker.subject c.args.asker.now) f c.args.name.now))
    c.tell_each.ensures.told

pub returns-clause-asks : goal.returns-clause-asks
returns-clause-asks g c = λ f tells.
    let points = pointed_to (g.A.Asker.subject c.args.asker.now) f in
    let keys = keys_for (g.A.Asker.subject c.args.asker.now) f c.args.name.now in
    subst
    (λ more. Asks g.A.Asker.subject g.A.Asker.worked g.A.Asker.keeps_to c.args.asker.now c.tell_each.new.asker c.args.steps.now c.tell_each.new.steps
    (keys ++ more))
    (ap (flat_map points) (c.deref.ensures.value ∙ c.in_ok-answers.ensures.answers f tells) ∙ flat_mapped points f keys)
    (asks_then (c.ask_module.ensures.asks f tells) (c.tell_each.ensures.asks f (told_still (c.ask_module.ensures.asks f tells) f tells)))

pub returns-clause-gains : goal.returns-clause-gains
returns-clause-gains g c =
    on_ok_weaker c.tell_each.result
    (λ gained f tells.
    let points = pointed_to (g.A.Asker.subject c.args.asker.now) f in
    let keys = keys_for (g.A.Asker.subject c.args.asker.now) f c.args.name.now in
    subst
    (λ more. Gains g.A.Asker.has c.args.asker.now c.tell_each.new.asker (keys ++ more))
    (ap (flat_map points) (c.deref.ensures.value ∙ c.in_ok-answers.ensures.answers f tells) ∙ flat_mapped points f keys)
    (gains_then (c.in_ok-answers.ensures.gains f tells) (gained f (told_still (c.ask_module.ensures.asks f tells) f tells))))
    c.tell_each.ensures.gains
