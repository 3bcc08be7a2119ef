use Rattle.std.proofs.Common.{◌∙◌, ap, subst, sym}
use Rattle.def_body.specs.Part.{or_break, run}
use Rattle.def_check.specs.Evaluate.{converted_to}
use Rattle.def_check.specs.Values.{type_of}
use Rattle.def_tree.specs.ExprTree.{first_token}
use Rattle.sl_key.specs.Fault.{site_of, told_at}
use Rattle.sl_key.specs.Flow.{EndsEarly}
use Rattle.sl_key.specs.declared.answer.Answer.TheVariants.{Bad}
use Rattle.sl_key.specs.declared.fault.Fault.TheVariants.{NoConversion}
use Rattle.sl_key.specs.declared.flow.Early.TheVariants.{Stop}
use Rattle.rl_sig.specs.Reading.{facts_of, scope_of, text_of}
use Rattle.sl_tree.specs.View.{expr_in}
use Rattle.rl_sig.proofs.scope.Reader.converted_to.Goals as goal

pub returns-in_ok-broken-in-None : goal.returns-in_ok-broken-in-None
returns-in_ok-broken-in-None c =
    let reader = c.args.self.now in
    let first = first_token (expr_in (text_of reader) c.args.expr.now) in
    let site = site_of reader.module.now in
    subst
    (λ early. EndsEarly early (run (facts_of reader) (converted_to (scope_of reader) c.args.ty first c.args.value)))
    (sym (c.in_ok-broken-in-None.ensures
    ∙ ap (λ token. Stop (Bad (told_at (site token) (NoConversion c.type_of.result c.args.ty))))
    (c.first_token.ensures (text_of reader))
    ∙ ap (λ from. Stop (Bad (told_at (site first) (NoConversion from c.args.ty)))) c.type_of.ensures))
    (ap (λ made. run (facts_of reader) (or_break made (site first) (NoConversion (type_of c.args.value) c.args.ty)))
    (sym c.converted.ensures ∙ c.in-None.is))
