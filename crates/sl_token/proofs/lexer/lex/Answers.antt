use Rattle.std.proofs.Common.{◌≡◌, ◌<◌, length, sym, subst, arith}
use Rattle.std.proofs.lemmas.Bool.Decides.{nat_tests}
use Rattle.std.proofs.lemmas.Result.{err_from_is_err_and}
use Rattle.sl_token.specs.Cutting.{class_of, cut_of}
use Rattle.sl_token.proofs.Reached.{Reached, all_within, at_end, cut_off, first_at, further, has_fault, has_tokens, reached_small, start}
use Rattle.sl_token.proofs.lexer.lex.Goals as goal

pub loop-rest-init : goal.loop-rest-init
loop-rest-init c =
    subst (λ tokens. Reached c.args.bytes.now tokens c.split_at.result.1.now c.behind-here.result) (sym c.new-tokens.ensures)
    (start c.args.bytes.now c.split_at.result.0.now c.split_at.result.1.now c.mark_len.result c.start.result c.behind-here.result
    c.mark_len.ensures.value c.split_at.ensures.front c.split_at.ensures.back c.start.ensures c.behind-here.ensures.offset c.behind-here.ensures.place)

pub split_at-requires-in-loop-rest : goal.split_at-requires-in-loop-rest
split_at-requires-in-loop-rest c =
    let rest = c.loop-rest.rest.now in
    let some : 0 < length rest = grind (arith, nat_tests, c.loop-rest-test.ensures) in
    (first_at rest (cut_of c.first_piece-class.result) c.first_piece-class.ensures some).within

pub returns-in_err-put-clause-fault : goal.returns-in_err-put-clause-fault
returns-in_err-put-clause-fault c =
    let passed_on = err_from_is_err_and c.from_residual.result c.from_residual.ensures.1 in
    let rest = c.loop-rest.rest.now in
    let some : 0 < length rest = grind (arith, nat_tests, c.loop-rest-test.ensures) in
    let first = first_at rest (cut_of c.first_piece-class.result) c.first_piece-class.ensures some in
    let piece = c.split_at-in-loop-rest.result.0.now in
    let after = c.split_at-in-loop-rest.result.1.now in
    let cut = cut_off rest piece after (cut_of c.first_piece-class.result) first c.split_at-in-loop-rest.ensures.front c.split_at-in-loop-rest.ensures.back in
    rw (passed_on.1, passed_on.2)
    (has_fault c.args.bytes.now c.loop-rest.tokens rest c.loop-rest.here (record { class = class_of c.first_piece-class.result.0; bytes = piece }) after _
    c.loop-rest.invariant cut.front c.in_err-put.ensures.err)

pub past-here-requires : goal.past-here-requires
past-here-requires c =
    let rest = c.loop-rest.rest.now in
    let some : 0 < length rest = grind (arith, nat_tests, c.loop-rest-test.ensures) in
    let first = first_at rest (cut_of c.first_piece-class.result) c.first_piece-class.ensures some in
    let cut = cut_off rest c.split_at-in-loop-rest.result.0.now c.split_at-in-loop-rest.result.1.now (cut_of c.first_piece-class.result) first
    c.split_at-in-loop-rest.ensures.front c.split_at-in-loop-rest.ensures.back in
    let small = reached_small c.loop-rest.invariant in
    let len = c.split_at-in-loop-rest.ensures.front_len in
    let back = c.split_at-in-loop-rest.ensures.back_len in
    record {
      offset = omega (arith, small.offset, len, back, c.requires);
      line = omega (arith, small.line, len, back, c.requires);
      column = omega (arith, small.column, len, back, c.requires);
      piece = cut.front.kind;
    }

pub loop-rest-smaller : goal.loop-rest-smaller
loop-rest-smaller c =
    let rest = c.loop-rest.rest.now in
    let some : 0 < length rest = grind (arith, nat_tests, c.loop-rest-test.ensures) in
    let first = first_at rest (cut_of c.first_piece-class.result) c.first_piece-class.ensures some in
    (cut_off rest c.split_at-in-loop-rest.result.0.now c.split_at-in-loop-rest.result.1.now (cut_of c.first_piece-class.result) first
    c.split_at-in-loop-rest.ensures.front c.split_at-in-loop-rest.ensures.back).some

pub loop-rest-preserved : goal.loop-rest-preserved
loop-rest-preserved c =
    let rest = c.loop-rest.rest.now in
    let some : 0 < length rest = grind (arith, nat_tests, c.loop-rest-test.ensures) in
    let first = first_at rest (cut_of c.first_piece-class.result) c.first_piece-class.ensures some in
    let piece = c.split_at-in-loop-rest.result.0.now in
    let after = c.split_at-in-loop-rest.result.1.now in
    let cut = cut_off rest piece after (cut_of c.first_piece-class.result) first c.split_at-in-loop-rest.ensures.front c.split_at-in-loop-rest.ensures.back in
    further c.args.bytes.now c.loop-rest.tokens c.put.new.tokens rest c.loop-rest.here c.past-here.result
    (record { class = class_of c.first_piece-class.result.0; bytes = piece }) after
    c.loop-rest.invariant cut.front c.in_ok-put.ensures.ok c.past-here.ensures.offset c.past-here.ensures.place

pub returns-clause-tokens : goal.returns-clause-tokens
returns-clause-tokens c =
    let none : length c.loop-rest.rest.now ≡ 0 = grind (arith, nat_tests, c.loop-rest-test.ensures) in
    has_tokens c.args.bytes.now c.loop-rest.tokens c.push.new.self c.loop-rest.here c.token.result
    (at_end c.args.bytes.now c.loop-rest.tokens c.loop-rest.rest.now c.loop-rest.here c.loop-rest.invariant none)
    c.in_ok-push.ensures.ok c.token.ensures

pub returns-clause-within : goal.returns-clause-within
returns-clause-within c =
    let none : length c.loop-rest.rest.now ≡ 0 = grind (arith, nat_tests, c.loop-rest-test.ensures) in
    all_within c.args.bytes.now c.loop-rest.tokens c.push.new.self c.loop-rest.here c.token.result
    (at_end c.args.bytes.now c.loop-rest.tokens c.loop-rest.rest.now c.loop-rest.here c.loop-rest.invariant none)
    c.in_ok-push.ensures.ok c.token.ensures
