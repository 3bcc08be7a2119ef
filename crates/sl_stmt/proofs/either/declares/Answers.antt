use Rattle.std.proofs.Common.{drop, sym, ap, ◌∙◌}
use Rattle.std.proofs.lemmas.List.{drop-map, take_rest}
use Rattle.def_reading.specs.StmtReading.{names_a_value}
use Rattle.sl_token.specs.View.{token_in, tokens_in}
use Rattle.sl_cursor.specs.Nestings.{nesting_in}
use Rattle.sl_stmt.proofs.Eithers.{valued, kept, declares_is}
use Rattle.sl_stmt.proofs.either.declares.Goals as goal

pub returns-then-end : goal.returns-then-end
returns-then-end c =
    let source = c.args.input.now in
    let bytes = source.bytes.now in
    let place = c.args.here.now.place in
    let many = (kept source place).one.many in
    c.names_a_value.ensures ∙ ap (λ ts. names_a_value (tokens_in bytes ts)) (take_rest place.rest.now many) ∙ ap names_a_value (sym (drop-map (token_in bytes) many place.rest.now))
    ∙ ap (λ b. valued b (drop many (tokens_in bytes place.rest.now))) (sym c.if-end.true) ∙ sym (declares_is source (nesting_in c.args.around.now) place c.requires.stands)

pub returns-else-end : goal.returns-else-end
returns-else-end c =
    let source = c.args.input.now in
    let bytes = source.bytes.now in
    let place = c.args.here.now.place in
    let many = (kept source place).one.many in
    c.if-end.false
    ∙ ap (λ b. valued b (drop many (tokens_in bytes place.rest.now))) (sym c.if-end.false) ∙ sym (declares_is source (nesting_in c.args.around.now) place c.requires.stands)
