use Rattle.std.proofs.Common.{◌+◌, ◌-◌, ◌≤◌, length}
use Rattle.sl_token.specs.View.{tokens_in}
use Rattle.sl_cursor.specs.Ending.{IsTable}
use Rattle.sl_look.proofs.ahead.ahead_of.Given as goal

-- the table so far is right, and has as many entries as tokens at most, and one more
abbrev pub invariant-loop-table : goal.invariant-loop-table
invariant-loop-table l =
    record {
      table : IsTable (tokens_in l.source l.tokens) l.table;
      short : length l.table ≤ length l.tokens + 1;
    }

abbrev pub decreases-loop-table : goal.decreases-loop-table
decreases-loop-table l = length l.tokens + 1 - length l.table
