use Rattle.std.proofs.Common.{rules, ◌≡◌, ◌∷◌, [], Some}
use Rattle.sl_turn.proofs.Ends.{opens}
use Rattle.sl_turn.proofs.turn.Turn.new.Goals as goal

pub new-requires : goal.new-requires
new-requires g c =
    let items : c.push.new.self.items ≡ Some c.args.value ∷ [] = search rules in
    rw (c.of-origin.ensures, items) (opens _ _ _ _ c.args.value c.requires.empty c.requires.legal)
