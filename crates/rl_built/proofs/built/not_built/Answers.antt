use Rattle.std.proofs.Common.{◌∙◌, ap, Some, None}
use Rattle.std.specs.Prelude.{find, not}
use Rattle.std.specs.Option.{option_map}
use Rattle.def_built.specs.Built.{is_built}
use Rattle.sl_token.specs.View.{token_in}
use Rattle.sl_tree.specs.DeclView.{decl_in}
use Rattle.sl_tree.specs.declared.declarations.DeclTree.{DeclTree}
use Rattle.rl_built.proofs.Small.{told_first}
use Rattle.rl_built.proofs.built.not_built.Goals as goal

pub returns-in_err-decl : goal.returns-in_err-decl
returns-in_err-decl c =
    ap (option_map (token_in c.args.source.now)) c.from_residual.ensures
    ∙ told_first c.args.source.now c.args.tree.now.decls None
    (c.in_err-decl.ensures ∙ ap (find (λ (decl : DeclTree). not (is_built (decl_in c.args.source.now decl)))) c.as_slice.ensures)

pub returns : goal.returns
returns c =
    ap Some (c.first_token.ensures c.args.source.now)
    ∙ told_first c.args.source.now c.args.tree.now.decls (Some c.in_ok-decl.decl.now)
    (c.in_ok-decl.ensures ∙ ap (find (λ (decl : DeclTree). not (is_built (decl_in c.args.source.now decl)))) c.as_slice.ensures)
