use Rattle.std.proofs.Common.{◌∙◌, ap, sym}
use Rattle.def_built.specs.Built.{is_small_type}
use Rattle.sl_token.specs.View.{token_in}
use Rattle.sl_tree.specs.View.{type_in, word_of}
use Rattle.sl_tree.proofs.Views.{type_in-Named, type_in-Word}
use Rattle.rl_built.proofs.Small.{long_name, long_word, short_name}
use Rattle.rl_built.proofs.built.is_small_type.Goals as goal

pub returns-else-is_empty : goal.returns-else-is_empty
returns-else-is_empty c source =
    long_word source (word_of c.in-Word.word) (token_in source c.in-Word.first) c.in-Word.path c.is_empty.result c.is_empty.ensures c.if-is_empty.false
    ∙ ap is_small_type (sym (ap (type_in source) c.in-Word.is ∙ type_in-Word source c.in-Word.word c.in-Word.first c.in-Word.path))

pub returns-then-is_empty-2 : goal.returns-then-is_empty-2
returns-then-is_empty-2 c source =
    short_name source (token_in source c.in-Named.first) c.in-Named.args c.in-Named.path c.is_empty-then-is_empty-2.result (c.is_empty-in-Named.ensures.0 c.if-is_empty-2.true) c.is_empty-then-is_empty-2.ensures
    ∙ ap is_small_type (sym (ap (type_in source) c.in-Named.is ∙ type_in-Named source c.in-Named.first c.in-Named.args c.in-Named.path))

pub returns-else-is_empty-2 : goal.returns-else-is_empty-2
returns-else-is_empty-2 c source =
    long_name source (token_in source c.in-Named.first) c.in-Named.args c.in-Named.path c.is_empty-in-Named.result c.is_empty-in-Named.ensures c.if-is_empty-2.false
    ∙ ap is_small_type (sym (ap (type_in source) c.in-Named.is ∙ type_in-Named source c.in-Named.first c.in-Named.args c.in-Named.path))
