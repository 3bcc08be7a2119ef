use Rattle.std.proofs.Common.{◌∙◌, ap, get_or, [], List, ℕ}
use Rattle.sp_words.specs.View.{module_of}
use Rattle.sp_places.proofs.Listed.{uses-at}
use Rattle.sp_places.proofs.places.Places.uses.Goals as goal

pub returns : goal.returns
returns c =
    rw (← c.self.view_is)
    ((c.list_at.ensures ∙ ap (λ (s : List (List ℕ)). get_or s c.args.place []) (c.as_slice.ensures.value ∙ c.self.invariant.uses_are)) ∙ uses-at (module_of c.self.inside.words.now) c.args.place)
