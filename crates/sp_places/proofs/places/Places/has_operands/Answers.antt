use Rattle.std.proofs.Common.{◌∙◌, ap, get_or, true, Bool, List}
use Rattle.sp_words.specs.View.{module_of}
use Rattle.sp_places.proofs.Listed.{has_operands-at}
use Rattle.sp_places.proofs.places.Places.has_operands.Goals as goal

pub returns : goal.returns
returns c =
    rw (← c.self.view_is)
    (c.truth_at.ensures
    ∙ ap (λ (s : List Bool). get_or s c.args.place true) (c.as_slice.ensures.value ∙ c.self.invariant.fits_are)
    ∙ has_operands-at (module_of c.self.inside.words.now) c.args.place)
