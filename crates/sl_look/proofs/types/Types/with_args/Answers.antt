use Rattle.sl_look.proofs.TypeLists.{named_found}
use Rattle.sl_look.proofs.types.Types.with_args.Goals as goal

pub returns-in-Found : goal.returns-in-Found
returns-in-Found c =
    named_found c.args.self.now.source.now c.args.first c.args.args c.args.place.now c.in-Found.behind c.in-Found.path c.in_ok-path.field-0
    c.in_ok-path.ensures c.in-Found.is
