-- How cycles are told, and what is told of a module.
use Rattle.std.proofs.Common.{◌≡◌, ◌∙◌, ℕ, ◌<◌, ap, sym, List, [], ◌∷◌, ◌++◌, map, length, get_or, Some, arith}
use Rattle.std.specs.List.{flat_map}
use Rattle.sl_base.specs.declared.diag.Diag.{Diag}
use Rattle.sl_base.specs.declared.place.Place.{Place}
use Rattle.sl_io.specs.Root.{bytes_of}
use Rattle.sl_key.specs.Order.{module_of}
use Rattle.sl_key.specs.declared.answer.Answer.{Answer}
use Rattle.sl_key.specs.declared.key.Key.{Key}
use Rattle.sl_key.specs.declared.request.Request.TheVariants.{Make}
use Rattle.sl_key.specs.declared.request.Term.TheVariants.{Load}
use Rattle.def_sources.specs.Sources.{Sources}
use Rattle.def_check.specs.Syntax.{diagnostic}
use Rattle.def_check.specs.Reply.{cycle_told, key_place, key_text, told_by, told_for, told_of}
use Rattle.def_check.specs.Roots.{asked_of, pointed_to, roots_of}
use Rattle.rl_all.specs.Asking.{keys_for}
use Rattle.rl_all.specs.Telling.{place_in}
use Rattle.rl_all.proofs.Asked.{Syntax}

module _ (sources : Sources) (f : Key → Answer) where
  -- the diagnostic of a cycle, from the parts of which it is made
  pub told_cycle :
      (cycle : List Key) (least key : Key) (syntax : Answer) (place : Place) (keys : List (List ℕ)) (diag : Diag)
      → 0 < length cycle → least ≡ get_or cycle 0 least
      → key ≡ Syntax (module_of least) → syntax ≡ f key → place ≡ place_in syntax least
      → keys ≡ map key_text cycle → diag ≡ diagnostic (module_of least) place 901 keys
      → diag ∷ [] ≡ cycle_told sources f cycle
  told_cycle [] least key syntax place keys diag some is key_is syntax_is place_is keys_is diag_is = absurd (omega arith)
  told_cycle (first ∷ others) least key syntax place keys diag some is key_is syntax_is place_is keys_is diag_is =
      let at : place ≡ key_place sources f least = place_is ∙ ap (λ a. place_in a least) (syntax_is ∙ ap f key_is) in
      ap (λ d. d ∷ [])
      (diag_is
      ∙ ap (λ p. diagnostic (module_of least) p 901 keys) at
      ∙ ap (λ ks. diagnostic (module_of least) (key_place sources f least) 901 ks) keys_is)
      ∙ ap (λ l. diagnostic (module_of l) (key_place sources f l) 901 (map key_text (first ∷ others)) ∷ []) is

  module _ (name bytes : List ℕ) (found : bytes_of sources.modules name ≡ Some bytes) where
    asked : keys_for sources f name ≡ asked_of sources f name (bytes_of sources.modules name)
    asked = ap (asked_of sources f name) (sym found)

    pub module_told :
        flat_map (λ key. told_by sources f (f key)) (keys_for sources f name) ≡ told_for sources f (Make (Load name))
    module_told =
        ap (flat_map (λ key. told_by sources f (f key))) asked ∙ ap (told_of sources f name) (sym found)

    pub module_roots :
        keys_for sources f name ++ flat_map (λ key. pointed_to sources f (f key)) (keys_for sources f name)
        ≡ roots_of sources f (Make (Load name))
    module_roots = ap (λ keys. keys ++ flat_map (λ key. pointed_to sources f (f key)) keys) asked
