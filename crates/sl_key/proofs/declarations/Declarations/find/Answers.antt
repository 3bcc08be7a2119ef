use Rattle.std.proofs.Common.{◌≡◌, ◌∙◌, ap, sym, Some, None}
use Rattle.std.specs.Prelude.{slice_get}
use Rattle.std.specs.Option.{option_copied, option_map}
use Rattle.sl_tree.specs.DeclView.{decl_in, module_in}
use Rattle.sl_key.specs.Index.{number_in}
use Rattle.sl_key.specs.Names.{decls_in, named_in}
use Rattle.sl_key.proofs.Naming.{text_named}
use Rattle.sl_key.proofs.Views.{found_in, named_at}
use Rattle.sl_key.proofs.declarations.Declarations.find.Goals as goal

pub returns-in-Some-clause-value : goal.returns-in-Some-clause-value
returns-in-Some-clause-value c =
    let text = c.self.inside.source in
    let tree = c.self.inside.tree in
    let entries = c.self.inside.numbers.entries in
    let name = c.args.name.now in
    let number = c.in-Some.number.now in
    let known = c.self.invariant in
    let has : number_in name entries ≡ Some number = sym c.get.ensures.value ∙ ap option_copied c.in-Some.is in
    let decl = c.at.ensures ∙ ap (λ decls. slice_get decls number) c.as_slice.ensures in
    ap (λ source. option_map (decl_in source) (option_copied c.at.result)) (sym c.self.view_is)
    ∙ ap (option_map (decl_in text)) decl
    ∙ sym (found_in text tree entries name (Some number) known.0 known.1 has)
    ∙ ap (λ source. named_in (decls_in source) name) c.self.view_is

pub returns-in-Some-clause-named : goal.returns-in-Some-clause-named
returns-in-Some-clause-named c =
    let text = c.self.inside.source in
    let tree = c.self.inside.tree in
    let number = c.in-Some.number.now in
    let decl = c.at.ensures ∙ ap (λ decls. slice_get decls number) c.as_slice.ensures in
    let all = text_named text (module_in text tree) c.self.invariant.0 in
    rw (sym c.self.view_is) (rw decl (named_at text tree.decls number all))

pub returns-in-None-clause-value : goal.returns-in-None-clause-value
returns-in-None-clause-value c =
    let entries = c.self.inside.numbers.entries in
    let name = c.args.name.now in
    let known = c.self.invariant in
    let lacks : number_in name entries ≡ None = sym c.get.ensures.value ∙ ap option_copied c.in-None.is in
    sym (found_in c.self.inside.source c.self.inside.tree entries name None known.0 known.1 lacks)
    ∙ ap (λ source. named_in (decls_in source) name) c.self.view_is
