use Rattle.std.proofs.Common.{◌≡◌, ◌-◌, length, drop, get_or, sym, subst, ◌∙◌}
use Rattle.std.proofs.lemmas.List.{length-map}
use Rattle.sl_token.specs.View.{token_in}
use Rattle.sl_cursor.specs.Ending.{AreEnds}
use Rattle.sl_look.specs.Tails.{lexemes}
use Rattle.sl_look.proofs.TailEnds.{entry_behind, no_ends}
use Rattle.sl_look.proofs.ahead.Tail.behind.Goals as goal

pub returns : goal.returns
returns c =
    let tail = c.args.self.now in
    let same : length (lexemes tail) ≡ length tail.tokens.now = length-map tail.tokens.now (token_in tail.source.now) in
    subst (λ n. AreEnds (get_or tail.table.now (n - c.args.many) no_ends) (drop c.args.many (lexemes tail))) same
    (entry_behind (lexemes tail) tail.table.now c.args.many no_ends c.requires.tail.table (c.requires.tail.whole ∙ sym same) c.requires.some
    (rw same c.requires.within))
