use Rattle.std.proofs.Common.{◌∙◌, ap, get_or, [], List, ℕ}
use Rattle.sp_words.specs.View.{module_of}
use Rattle.sp_places.proofs.Listed.{type_at-words}
use Rattle.sp_places.proofs.places.Places.result_type.Goals as goal

pub returns : goal.returns
returns c =
    rw (← c.self.view_is)
    (c.word_at.ensures ∙ ap (λ (s : List ℕ). get_or s 0 0) (c.list_at.ensures ∙ ap (λ (s : List (List ℕ)). get_or s c.args.place []) (c.as_slice.ensures.value ∙ c.self.invariant.types_are)) ∙ type_at-words (module_of c.self.inside.words.now) c.args.place)
