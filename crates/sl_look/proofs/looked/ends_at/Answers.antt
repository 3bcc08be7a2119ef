use Rattle.sl_look.proofs.Looking.{ends_here}
use Rattle.sl_look.proofs.looked.ends_at.Goals as goal

pub returns : goal.returns
returns c =
    let all = c.args.input.now in
    ends_here all.bytes.now all.tokens.now c.args.place.now.rest.now all.ahead.now c.args.place.now.at _ all.table all.whole c.requires.rest c.requires.within
