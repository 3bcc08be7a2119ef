use Rattle.sl_look.proofs.TypeLists.{worded_found}
use Rattle.sl_look.proofs.types.Types.worded.Goals as goal

pub returns-in-Found : goal.returns-in-Found
returns-in-Found c =
    worded_found c.args.self.now.source.now c.args.word c.args.first c.args.place.now c.in-Found.behind c.in-Found.path c.in_ok-path.field-0
    c.in_ok-path.ensures c.in-Found.is
