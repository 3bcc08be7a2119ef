use Rattle.std.proofs.Common.{◌∙◌, ap, get_or, length, [], List, ℕ}
use Rattle.std.specs.Prelude.{nat_lt}
use Rattle.sp_words.specs.View.{module_of}
use Rattle.sp_places.proofs.Listed.{has_result-words}
use Rattle.sp_places.proofs.places.Places.has_result.Goals as goal

pub returns : goal.returns
returns c =
    rw (← c.self.view_is)
    (ap (λ (s : List ℕ). nat_lt 0 (length s))
    (c.list_at.ensures ∙ ap (λ (s : List (List ℕ)). get_or s c.args.place []) (c.as_slice.ensures.value ∙ c.self.invariant.defined_are))
    ∙ has_result-words (module_of c.self.inside.words.now) c.args.place)
