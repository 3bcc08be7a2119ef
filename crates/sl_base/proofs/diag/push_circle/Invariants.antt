-- The text so far ends with an arrow and its query for each query that the loop has passed.
use Rattle.std.proofs.Common.{◌≡◌, ◌++◌, take, codes}
use Rattle.std.specs.List.{flat_map}
use Rattle.sl_base.proofs.diag.push_circle.Given as goal

abbrev pub invariant-loop-query : goal.invariant-loop-query
invariant-loop-query l =
    l.text
    ≡ l.initial.text ++ flat_map (λ query. codes " -> " ++ query) (take l.query-index l.others)
