use Rattle.std.proofs.Common.{◌∙◌, ap, sym}
use Rattle.std.proofs.lemmas.Result.{on_ok_weaker}
use Rattle.std.specs.Option.{option_copied, option_map}
use Rattle.sl_token.specs.View.{token_in}
use Rattle.sl_tree.specs.DeclView.{decl_in}
use Rattle.sl_key.specs.Index.{number_in}
use Rattle.sl_key.proofs.Indexes.{index_again, index_grows, index_unnamed}
use Rattle.sl_key.proofs.declarations.enter.Goals as goal

pub returns-in_default : goal.returns-in_default
returns-in_default c before count index =
    let source = c.args.source.now in
    index_unnamed before (decl_in source c.args.decl.now) c.args.numbers.now.entries
    (sym (c.name_of.ensures source) ∙ ap (option_map (token_in source)) c.in_default.is) index

pub returns-in-Some-get : goal.returns-in-Some-get
returns-in-Some-get c before count index =
    let source = c.args.source.now in
    let entries = c.args.numbers.now.entries in
    let token = token_in source c.in-Some.token in
    let named = sym (c.name_of.ensures source) ∙ ap (option_map (token_in source)) c.in-Some.is in
    let has = sym c.get.ensures.value ∙ ap option_copied c.in-Some-get.is in
    index_again before (decl_in source c.args.decl.now) entries token c.in-Some-get.field-0.now named
    (ap (λ name. number_in name entries) (sym c.text_at-name.ensures) ∙ has) index

pub returns-in-None : goal.returns-in-None
returns-in-None c =
    let source = c.args.source.now in
    let old = c.args.numbers.now.entries in
    let new = c.put.new.numbers.entries in
    let token = token_in source c.in-Some.token in
    let named = sym (c.name_of.ensures source) ∙ ap (option_map (token_in source)) c.in-Some.is in
    let lacks = sym c.get.ensures.value ∙ ap option_copied c.in-None.is in
    on_ok_weaker c.put.result (λ has before count index.
    index_grows before (decl_in source c.args.decl.now) old new token c.text_at-name.result.now c.args.number named
    c.text_at-name.ensures count lacks has index) c.put.ensures
