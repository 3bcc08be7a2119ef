use Rattle.std.proofs.Common.{sym, ◌∙◌}
use Rattle.sl_run.proofs.Texts.{texts_from_same, same_from_texts}
use Rattle.sl_run.proofs.buffer_write.are_same.Goals as goal

pub returns : goal.returns
returns c =
    let tokens = c.args.tokens.now in
    let others = c.args.others.now in
    (λ same. texts_from_same tokens others (sym c.eq.ensures ∙ same), λ same. c.eq.ensures ∙ same_from_texts tokens others same)
