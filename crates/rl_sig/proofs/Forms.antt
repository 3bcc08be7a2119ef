-- How parts are run, for the tactics.
use Rattle.def_body.proofs.Uses.{run_then}

-- how parts in turn are run
pub ruleset part_forms = (run_then)
