use Rattle.std.proofs.Common.{◌∙◌, ◌++◌, ap, subst, sym}
use Rattle.std.proofs.lemmas.Result.{IfOk-weaker, on_ok_weaker}
use Rattle.std.specs.List.{flat_map}
use Rattle.def_check.specs.Reply.{TellsAnswers, told_by}
use Rattle.def_check.specs.Roots.{pointed_to}
use Rattle.rl_all.specs.Asking.{Asks, Gains, keys_for}
use Rattle.rl_all.proofs.Cycles.{module_roots, module_told}
use Rattle.rl_all.proofs.replying.told_of_load.Goals as goal

pub returns-in-Some-clause-told : goal.returns-in-Some-clause-told
returns-in-Some-clause-told g c =
    IfOk-weaker c.told_of_module.result _ _
    (λ told tells_all f tells.
    tells_all f (subst (λ s. TellsAnswers s f) (sym c.requires) tells)
    ∙ ap (λ s. flat_map (λ key. told_by s f (f key)) (keys_for s f c.args.name.now)) c.requires
    ∙ module_told c.args.rules.now f c.args.name.now c.in-Some.field-0.now c.in-Some.ensures.some.0)
    c.told_of_module.ensures.told

pub returns-in-Some-clause-asks : goal.returns-in-Some-clause-asks
returns-in-Some-clause-asks g c = λ f tells.
    subst
    (Asks g.A.Asker.subject g.A.Asker.worked g.A.Asker.keeps_to c.args.asker.now c.told_of_module.new.asker c.args.steps.now c.told_of_module.new.steps)
    (ap (λ s. keys_for s f c.args.name.now ++ flat_map (λ key. pointed_to s f (f key)) (keys_for s f c.args.name.now)) c.requires
    ∙ module_roots c.args.rules.now f c.args.name.now c.in-Some.field-0.now c.in-Some.ensures.some.0)
    (c.told_of_module.ensures.asks f (subst (λ s. TellsAnswers s f) (sym c.requires) tells))

pub returns-in-Some-clause-gains : goal.returns-in-Some-clause-gains
returns-in-Some-clause-gains g c =
    on_ok_weaker c.told_of_module.result
    (λ gained f tells.
    subst
    (Gains g.A.Asker.has c.args.asker.now c.told_of_module.new.asker)
    (ap (λ s. keys_for s f c.args.name.now ++ flat_map (λ key. pointed_to s f (f key)) (keys_for s f c.args.name.now)) c.requires
    ∙ module_roots c.args.rules.now f c.args.name.now c.in-Some.field-0.now c.in-Some.ensures.some.0)
    (gained f (subst (λ s. TellsAnswers s f) (sym c.requires) tells)))
    c.told_of_module.ensures.gains
