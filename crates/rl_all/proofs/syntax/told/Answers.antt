use Rattle.std.proofs.Common.{◌≡◌, ◌∙◌, ap, subst, sym}
use Rattle.std.specs.Prelude.{IfOk}
use Rattle.def_body.specs.Part.{answer_of}
use Rattle.def_check.specs.Syntax.{told}
use Rattle.def_module.specs.Syntax as module_syntax
use Rattle.sl_key.specs.declared.answer.Answer.{Answer}
use Rattle.sl_key.specs.declared.answer.Answer.TheVariants.{Bad}
use Rattle.sl_key.specs.declared.key.Kind.TheVariants.{Syntax}
use Rattle.sl_token.specs.View.{place_of, token_in}
use Rattle.sl_tree.specs.DeclView.{module_in}
use Rattle.rl_all.proofs.Built.{told_bad, told_good, told_unbuilt}
use Rattle.rl_all.proofs.syntax.told.Goals as goal

pub declared-requires : goal.declared-requires
declared-requires c =
    told_good c.args.text.now (module_in c.args.text.now c.in-Ok.tree) c.in-Ok.ensures.tree c.in-None.ensures

pub returns-in-None : goal.returns-in-None
returns-in-None c =
    subst
    (λ (answer : module_syntax.Answer). IfOk c.declared.result (λ (given : Answer).
    given ≡ answer_of Syntax (told c.args.name.now c.args.text.now answer)))
    (sym (told_good c.args.text.now (module_in c.args.text.now c.in-Ok.tree) c.in-Ok.ensures.tree c.in-None.ensures))
    c.declared.ensures

pub returns-in-Some : goal.returns-in-Some
returns-in-Some c =
    subst
    (λ (answer : module_syntax.Answer). IfOk c.unbuilt.result (λ (given : Answer).
    given ≡ answer_of Syntax (told c.args.name.now c.args.text.now answer)))
    (sym
    (told_unbuilt c.args.text.now (module_in c.args.text.now c.in-Ok.tree) (token_in c.args.text.now c.in-Some.token)
    c.in-Ok.ensures.tree c.in-Some.ensures))
    (c.unbuilt.ensures c.args.text.now)

pub returns-in_ok-diagnostic-in-Err-Diag : goal.returns-in_ok-diagnostic-in-Err-Diag
returns-in_ok-diagnostic-in-Err-Diag c =
    let refused = rw c.in-Err-Diag.field-0-is at c.in-Err-Diag.ensures.fault in
    ap Bad c.in_ok-diagnostic-in-Err-Diag.ensures
    ∙ ap (λ (answer : module_syntax.Answer). answer_of Syntax (told c.args.name.now c.args.text.now answer))
    (sym
    (told_bad c.args.text.now
    (record { place = place_of c.in-Err-Diag.at; code = c.in-Err-Diag.code; args = c.in-Err-Diag.args })
    refused))
