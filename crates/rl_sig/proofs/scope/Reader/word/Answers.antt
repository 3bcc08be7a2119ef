use Rattle.std.proofs.Common.{subst, sym}
use Rattle.def_body.specs.Part.{run}
use Rattle.sl_key.specs.Flow.{Tells}
use Rattle.rl_sig.specs.Reading.{facts_of, scope_of, text_of}
use Rattle.rl_sig.proofs.NotBuilt.{long_word}
use Rattle.sl_token.specs.View.{token_in}
use Rattle.sl_tree.specs.View.{word_of}
use Rattle.rl_sig.proofs.scope.Reader.word.Goals as goal

pub returns-then-not-is_empty : goal.returns-then-not-is_empty
returns-then-not-is_empty c =
    let reader = c.args.self.now in
    let long =
    long_word (scope_of reader) (text_of reader) (word_of c.args.word)
    (token_in (text_of reader) c.args.first) c.args.path.now c.is_empty.result c.is_empty.ensures
    c.if-not-is_empty.true in
    subst (λ part. Tells c.unbuilt.result (run (facts_of reader) part)) (sym long) c.unbuilt.ensures
