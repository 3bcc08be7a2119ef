use Rattle.std.proofs.Common.{ap}
use Rattle.std.specs.Option.{option_map}
use Rattle.sl_cursor.specs.Seen.{place_in, told_in}
use Rattle.sl_look.proofs.TypeLists.{list_keeps}
use Rattle.sl_look.proofs.looked.type_list.Goals as goal

pub returns-in-Some : goal.returns-in-Some
returns-in-Some c =
    let source = c.args.input.now.bytes.now in
    let types = c.args.around.now.types in
    λ turns h. c.limited.ensures turns types h
    (list_keeps turns types (place_in source c.args.place.now) (told_in source c.in-Some.told) (ap (option_map (told_in source)) c.in-Some.is))
