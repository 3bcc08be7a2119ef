use Rattle.std.proofs.Common.{Some}
use Rattle.std.proofs.lemmas.Map.Text.{btree_map_updates_str}
use Rattle.sl_scopes.proofs.scope.put.Goals as goal

pub returns : goal.returns
returns c = btree_map_updates_str c.args.text.now c.args.seen.now c.insert.new.self (Some c.args.overloads) c.in_ok-insert.ensures.updates
