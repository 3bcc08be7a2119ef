use Rattle.std.proofs.Common.{◌≡◌, ◌+◌, arith, suc, length, map, sym, subst}
use Rattle.std.specs.Prelude.{Err}
use Rattle.sl_token.specs.View.{token_in}
use Rattle.sl_tree.specs.View.{type_in, types_of, word_of}
use Rattle.sl_look.specs.Looks.{Reads, type_named}
use Rattle.sl_cursor.specs.Seen.{place_in}
use Rattle.def_reading.specs.TypeAhead.{list_ahead, type_ahead}
use Rattle.def_reading.specs.TypeReading.{AWord, AName}
use Rattle.sl_look.proofs.TypeLists.{start_of_list, list_missing, list_further, list_closed, list_other, list_stop, named_stop, word_reads, name_reads, handed_on, one_stop}
use Rattle.sl_look.proofs.types.Types.+types.Goals as goal

pub list-loop-trees-init : goal.list-loop-trees-init
list-loop-trees-init t c = start_of_list c.args.self.now.source.now c.args.types c.args.place.now c.new-trees.result c.new-trees.ensures

pub list-returns-in-Missing : goal.list-returns-in-Missing
list-returns-in-Missing t c =
    list_missing c.args.self.now.source.now c.args.types c.args.place.now c.loop-trees.here c.in-Missing.behind c.loop-trees.trees c.in_ok-behind.field-0
    c.loop-trees.invariant c.in_ok-behind.ensures c.in-Missing.is

pub list-loop-trees-preserved : goal.list-loop-trees-preserved
list-loop-trees-preserved t c =
    list_further c.args.self.now.source.now c.args.types c.args.place.now c.loop-trees.here c.in-Found.behind c.in-Comma.next c.loop-trees.trees c.push.new.self
    c.in-Found.tree c.in_ok-behind.field-0 c.loop-trees.invariant c.in_ok-behind.ensures c.in-Found.is c.in_ok-push-in-Found.ensures.ok c.in-Comma.ensures

pub list-returns-in-Closing : goal.list-returns-in-Closing
list-returns-in-Closing t c =
    list_closed c.args.self.now.source.now c.args.types c.args.place.now c.loop-trees.here c.in-Found.behind c.in-Closing.next c.loop-trees.trees c.push.new.self
    c.in-Found.tree c.in_ok-behind.field-0 c.loop-trees.invariant c.in_ok-behind.ensures c.in-Found.is c.in_ok-push-in-Found.ensures.ok c.in-Closing.ensures

pub list-returns-in-Neither : goal.list-returns-in-Neither
list-returns-in-Neither t c =
    list_other c.args.self.now.source.now c.args.types c.args.place.now c.loop-trees.here c.in-Found.behind c.loop-trees.trees
    c.in-Found.tree c.in_ok-behind.field-0 c.loop-trees.invariant c.in_ok-behind.ensures c.in-Found.is c.in-Neither.ensures

pub list-returns-in_err-behind : goal.list-returns-in_err-behind
list-returns-in_err-behind t c =
    let source = c.args.self.now.source.now in
    let stopped = c.in_err-behind.field-0.0 in
    let same : c.from_residual.result ≡ Err stopped = handed_on c.from_residual.result stopped c.from_residual.ensures.1 in
    subst (Reads source (λ trees. types_of (map (type_in source) trees)) (λ turns. list_ahead turns c.args.types (place_in source c.args.place.now))
    (suc (length c.args.place.now.rest.now)) c.args.place.now) (sym same)
    (list_stop source c.args.types c.args.place.now c.loop-trees.here c.loop-trees.trees stopped c.loop-trees.invariant c.in_err-behind.ensures)

pub named-returns-in_err-args : goal.named-returns-in_err-args
named-returns-in_err-args t c =
    let source = c.args.self.now.source.now in
    let stopped = c.in_err-args.field-0.0 in
    let same : c.from_residual.result ≡ Err stopped = handed_on c.from_residual.result stopped c.from_residual.ensures.1 in
    subst (Reads source (type_in source) (λ turns. type_named turns c.args.types (token_in source c.args.first) (place_in source c.args.place.now))
    (length c.args.place.now.rest.now) c.args.place.now) (sym same)
    (named_stop source c.args.types c.args.first c.args.place.now stopped c.in_err-args.ensures)

pub one-returns-in_err-behind-in-Word : goal.one-returns-in_err-behind-in-Word
one-returns-in_err-behind-in-Word t c =
    let source = c.args.self.now.source.now in
    let stopped = c.in_err-behind-in-Word.field-0.0 in
    let same : c.from_residual.result ≡ Err stopped = handed_on c.from_residual.result stopped c.from_residual.ensures.1 in
    subst (Reads source (type_in source) (λ turns. type_ahead turns c.args.types (place_in source c.args.place.now))
    (length c.args.place.now.rest.now) c.args.place.now) (sym same)
    (one_stop source c.args.types c.args.place.now c.in-Some.first.now (AWord (word_of c.in-Word.word)) stopped
    (record { behind = c.in-Some.field-0-1.now; are = c.in-Some.ensures.cases.0 }) c.in-Word.ensures (λ e. cc) c.in_err-behind-in-Word.ensures.place)

pub one-returns-in_err-behind-in-Name : goal.one-returns-in_err-behind-in-Name
one-returns-in_err-behind-in-Name t c =
    let source = c.args.self.now.source.now in
    let stopped = c.in_err-behind-in-Name.field-0.0 in
    let same : c.from_residual-in_err-behind-in-Name.result ≡ Err stopped = handed_on c.from_residual-in_err-behind-in-Name.result stopped c.from_residual-in_err-behind-in-Name.ensures.1 in
    subst (Reads source (type_in source) (λ turns. type_ahead turns c.args.types (place_in source c.args.place.now))
    (length c.args.place.now.rest.now) c.args.place.now) (sym same)
    (one_stop source c.args.types c.args.place.now c.in-Some.first.now AName stopped
    (record { behind = c.in-Some.field-0-1.now; are = c.in-Some.ensures.cases.0 }) c.in-Name.ensures (λ e. cc) c.in_err-behind-in-Name.ensures.place)

pub one-returns-in_ok-behind-in-Word : goal.one-returns-in_ok-behind-in-Word
one-returns-in_ok-behind-in-Word t c =
    let source = c.args.self.now.source.now in
    word_reads source c.args.types c.args.place.now c.in_ok-behind-in-Word.behind c.in-Some.first.now (word_of c.in-Word.word) c.worded.result
    (record { behind = c.in-Some.field-0-1.now; are = c.in-Some.ensures.cases.0 }) (sym c.in-Word.ensures) c.in_ok-behind-in-Word.ensures.place c.worded.ensures

pub one-returns-in_ok-behind-in-Name : goal.one-returns-in_ok-behind-in-Name
one-returns-in_ok-behind-in-Name t c =
    let source = c.args.self.now.source.now in
    name_reads source c.args.types (c.args.types + 1) (omega arith) c.args.place.now c.in_ok-behind-in-Name.behind c.in-Some.first.now c.named.result
    (record { behind = c.in-Some.field-0-1.now; are = c.in-Some.ensures.cases.0 }) (sym c.in-Name.ensures) c.in_ok-behind-in-Name.ensures.place c.named.ensures
