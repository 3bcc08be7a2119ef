use Rattle.std.proofs.Common.{◌∙◌, ◌==◌, ap, ℕ}
use Rattle.std.specs.List.{position_or_len}
use Rattle.def_valid.specs.Places.{place_of}
use Rattle.sp_places.proofs.places.Places.place.Goals as goal

pub returns : goal.returns
unfolding place_of
returns c =
    rw (← c.self.view_is)
    (c.first.ensures ∙ ap (position_or_len (λ (other : ℕ). other == c.args.id)) c.self.invariant.results_are)
