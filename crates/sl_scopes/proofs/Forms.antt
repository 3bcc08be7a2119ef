-- What forms of trees stand for, for the tactics.
use Rattle.std.proofs.Common.{append-nil}
use Rattle.sl_tree.proofs.Forms.{stmt_forms}
use Rattle.sl_scopes.proofs.Searching.{twice_none}

-- the names of statements
pub ruleset name_forms = (stmt_forms, append-nil)

-- the scopes of statements
pub ruleset scope_forms = (stmt_forms, twice_none)
