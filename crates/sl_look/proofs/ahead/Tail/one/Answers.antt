use Rattle.std.proofs.Common.{sym, ap, ◌∙◌}
use Rattle.std.proofs.lemmas.List.{nil_from_length}
use Rattle.sl_tree.specs.View.{word_of}
use Rattle.sl_cursor.specs.Signs.{lead_in}
use Rattle.sl_look.proofs.TailEnds.{no_type, worded}
use Rattle.sl_look.proofs.ahead.Tail.one.Goals as goal

pub returns-in_default-clause-end : goal.returns-in_default-clause-end
returns-in_default-clause-end c = no_type c.args.self.now.source.now c.args.self.now.tokens.now (nil_from_length c.args.self.now.tokens.now c.in_default.ensures.cases)

pub returns-in-Word-clause-end : goal.returns-in-Word-clause-end
returns-in-Word-clause-end c =
    worded c.args.self.now.source.now c.args.self.now.tokens.now c.in-Some.after.now c.in-Some.first.now _
    c.in-Some.ensures.cases.0 (word_of c.in-Word.field-0) (sym c.lead_of.ensures ∙ ap lead_in c.in-Word.is) c.path_behind.ensures.end
