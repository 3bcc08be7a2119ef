use Rattle.std.proofs.Common.{◌≡◌, ◌∙◌, ap, subst, sym}
use Rattle.std.specs.Prelude.{IfOk}
use Rattle.def_body.specs.Part.{run_body}
use Rattle.def_check.specs.Body.{body}
use Rattle.def_query.specs.declared.step.Step.TheVariants.{Done}
use Rattle.sl_key.specs.declared.key.Kind.{Kind}
use Rattle.rl_all.proofs.rules.SlangRules.body.Goals as goal

pub returns-in_ok-syntax-in-Syntax : goal.returns-in_ok-syntax-in-Syntax
returns-in_ok-syntax-in-Syntax c =
    let key = c.args.key.now in
    let at = λ (kind : Kind). run_body kind c.args.known.now.pairs (body c.args.self.now kind key.path) in
    ap Done c.in_ok-syntax-in-Syntax.ensures ∙ sym (ap at c.in-Syntax.is)

pub returns-in-Imports : goal.returns-in-Imports
returns-in-Imports c =
    let key = c.args.key.now in
    let at = λ (kind : Kind). run_body kind c.args.known.now.pairs (body c.args.self.now kind key.path) in
    subst (λ given. IfOk c.imports.result (λ step. step ≡ given)) (sym (ap at c.in-Imports.is)) c.imports.ensures

pub returns-in-Alias : goal.returns-in-Alias
returns-in-Alias c =
    let key = c.args.key.now in
    let at = λ (kind : Kind). run_body kind c.args.known.now.pairs (body c.args.self.now kind key.path) in
    subst (λ given. IfOk c.alias.result (λ step. step ≡ given)) (sym (ap at c.in-Alias.is)) c.alias.ensures

pub returns-in-Const : goal.returns-in-Const
returns-in-Const c =
    let key = c.args.key.now in
    let at = λ (kind : Kind). run_body kind c.args.known.now.pairs (body c.args.self.now kind key.path) in
    subst (λ given. IfOk c.constant.result (λ step. step ≡ given)) (sym (ap at c.in-Const.is)) c.constant.ensures
