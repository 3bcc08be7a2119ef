use Rattle.std.proofs.Common.{subst}
use Rattle.std.specs.Option.{option_map}
use Rattle.sl_token.specs.View.{tokens_in}
use Rattle.sl_machine.specs.Framed.{frames_in}
use Rattle.sl_machine.specs.Long.{long_in}
use Rattle.sl_look.specs.Lookups.{IsLooked}
use Rattle.sl_cursor.specs.Nestings.{nesting_in}
use Rattle.sl_cursor.specs.Seen.{told_in}
use Rattle.def_reading.specs.TypeAhead.{taken_ahead}
use Rattle.sl_machine.proofs.Naming.{name_found}
use Rattle.sl_machine.proofs.machine.Around.generic.Goals as goal

pub returns-in-Found : goal.returns-in-Found
returns-in-Found c =
    λ frames. let source = c.args.self.now.source.bytes.now in
    let taken = taken_ahead c.args.self.now.open.types c.args.place.now.at (option_map (told_in source) c.args.place.now.limit) (tokens_in source c.args.place.now.rest.now) in
    name_found source (nesting_in c.args.self.now.open) (long_in c.args.self.now) (frames_in source frames) c.args.token c.in-Found.args c.args.place.now c.in-Found.behind taken
    (subst (IsLooked source _ taken) c.in-Found.is c.in_ok-args.ensures)
