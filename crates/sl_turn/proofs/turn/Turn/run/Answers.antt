use Rattle.std.proofs.Common.{rules, ◌∷◌, Some, sym, ap, ◌∙◌}
use Rattle.atomic_table.specs.Table.{rest}
use Rattle.sl_turn.proofs.turn.Turn.run.Goals as goal

pub exchange-requires : goal.exchange-requires
exchange-requires g c =
    let taken = c.requires.taken in
    let is = taken.1 in
    (search rules, (Some taken.0, is ∙ ap (λ z. (0, Some taken.0) ∷ z) (sym (ap rest is))))
