use Rattle.std.proofs.Common.{◌≡◌, ◌∙◌, ◌++◌, [], ap, map, sym}
use Rattle.std.specs.List.{cons_option}
use Rattle.std.proofs.lemmas.List.{append-nil, take_all}
use Rattle.sl_tree.specs.DeclView.{decl_in, module_in}
use Rattle.sl_key.specs.Index.{AreNamed}
use Rattle.sl_key.specs.Names.{decls_in, keys_of}
use Rattle.sl_key.proofs.Naming.{text_named}
use Rattle.sl_key.proofs.Views.{decls_of, keys_more, named_item}
use Rattle.sl_key.proofs.declarations.Declarations.add_keys.Goals as goal
use Rattle.sl_key.proofs.declarations.Declarations.add_keys.Goals.{in-Some+in_ok-push, in_default}

pub key_of-requires : goal.key_of-requires
key_of-requires c =
    let text = c.self.inside.source in
    let tree = c.self.inside.tree in
    let decls = c.as_slice-decl-items.result.now in
    let named = text_named text (module_in text tree) c.self.invariant.0 in
    let all : AreNamed (map (decl_in text) decls) = rw c.as_slice-decl-items.ensures named in
    rw (sym c.self.view_is)
    (named_item text decls c.loop-decl.decl-index c.decl-item.result all c.loop-decl-test.true c.decl-item.is)

pub loop-decl-preserved : goal.loop-decl-preserved
loop-decl-preserved c =
    let before = c.loop-decl.keys.items in
    let key = c.in_ok-key.field-0 in
    let grown : c.match-branch-2.keys.items ≡ before ++ cons_option key [] =
    elim c.match-branch-2.branch [
      | in-Some+in_ok-push w ↦
          ap (λ keys. keys.items) w.keys-is ∙ w.in_ok-push.ensures.items
          ∙ ap (λ k. before ++ cons_option k []) (sym w.in-Some.is)
      | in_default w ↦
          ap (λ keys. keys.items) w.keys-is ∙ sym (append-nil before)
          ∙ ap (λ k. before ++ cons_option k []) (sym w.in_default.is)
    ] in
    keys_more c.args.module.now c.args.self.now c.as_slice-decl-items.result.now c.loop-decl.decl-index
    c.decl-item.result key c.args.keys.now.items before c.match-branch-2.keys.items
    c.loop-decl-test.true c.decl-item.is c.in_ok-key.ensures c.loop-decl.invariant grown

pub returns : goal.returns
returns c =
    let decls = c.as_slice-decl-items.result.now in
    let keys = c.args.keys.now.items in
    let whole : decls_in c.args.self.now ≡ map (decl_in c.args.self.now) c.self.inside.tree.decls =
    rw (sym c.self.view_is) (decls_of c.self.inside.source c.self.inside.tree c.self.invariant.0) in
    c.loop-decl.invariant
    ∙ ap (λ ds. keys ++ keys_of c.args.module.now (map (decl_in c.args.self.now) ds))
    (take_all c.loop-decl.decl-index decls c.loop-decl-test.false ∙ c.as_slice-decl-items.ensures)
    ∙ ap (λ ds. keys ++ keys_of c.args.module.now ds) (sym whole)
