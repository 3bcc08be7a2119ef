use Rattle.std.proofs.Common.{◌≡◌, ◌-◌, ◌≤◌, [], ◌∷◌, length, drop, refl, ap, subst, ◌∙◌, arith}
use Rattle.std.proofs.lemmas.List.{length-map, length-append}
use Rattle.sl_token.specs.View.{token_in, tokens_in}
use Rattle.sl_cursor.specs.Ending.{AreEnds}
use Rattle.sl_look.proofs.TailEnds.{tail_lexed, tail_table, tail_whole, table_longer}
use Rattle.sl_look.proofs.ahead.ahead_of.Goals as goal

pub ends-ends-requires : goal.ends-ends-requires
ends-ends-requires c =
    let tokens = c.args.tokens.now in
    let short : length c.loop-table.table ≤ length tokens = omega arith in
    record {
      table = tail_table c.args.source.now tokens c.loop-table.table c.as_slice.result.now c.len-in-loop-table.result (length tokens - c.len-in-loop-table.result)
          c.len-in-loop-table.ensures c.as_slice.ensures refl short c.loop-table.invariant.table;
      whole = tail_whole tokens c.loop-table.table c.as_slice.result.now c.len-in-loop-table.result (length tokens - c.len-in-loop-table.result)
          c.len-in-loop-table.ensures c.as_slice.ensures refl short;
    }

pub loop-table-preserved : goal.loop-table-preserved
loop-table-preserved c =
    let tokens = c.args.tokens.now in
    let source = c.args.source.now in
    let all : length (tokens_in source tokens) ≡ length tokens = length-map tokens (token_in source) in
    let many : c.len-in-loop-table.result ≡ length c.loop-table.table = c.len-in-loop-table.ensures in
    let right = subst (AreEnds c.ends-ends.result) (tail_lexed source tokens (length tokens - c.len-in-loop-table.result)
    ∙ ap (λ n. drop n (tokens_in source tokens)) (omega arith)) c.ends-ends.ensures in
    record {
      table = table_longer (tokens_in source tokens) c.loop-table.table c.push.new.self c.ends-ends.result c.in_ok-push.ensures.ok c.loop-table.invariant.table right;
      short = let e = ap length c.in_ok-push.ensures.ok in omega (arith, e, length-append c.loop-table.table (c.ends-ends.result ∷ []));
    }
