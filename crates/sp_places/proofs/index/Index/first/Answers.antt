use Rattle.std.proofs.Common.{◌∙◌, ◌==◌, ap, sym, length, ℕ}
use Rattle.std.specs.Option.{option_copied}
use Rattle.sp_places.proofs.Keys.{position-none}
use Rattle.sp_places.proofs.index.Index.first.Goals as goal

pub returns-in-None : goal.returns-in-None
returns-in-None c =
    rw (← c.self.view_is)
    (ap length c.as_slice.ensures.value
    ∙ position-none (λ (other : ℕ). other == c.args.key) c.self.inside.keys.items
    (sym (c.self.invariant c.args.key) ∙ sym c.get.ensures.value ∙ ap option_copied c.in-None.is))
