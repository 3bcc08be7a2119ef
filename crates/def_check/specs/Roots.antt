-- What a request asks, where this function tells the answer of each key.
use Rattle.std.specs.Prelude.{ℕ, List, [], ◌∷◌, ◌++◌, Option, Some, None}
use Rattle.std.specs.List.{flat_map}
use Rattle.sl_key.specs.Names.{decls_in, keys_of}
use Rattle.sl_key.specs.Order.{module_key, module_of}
use Rattle.sl_key.specs.declared.answer.Answer.{Answer}
use Rattle.sl_key.specs.declared.answer.Answer.TheVariants.{Good, Bad, Spoiled, Circular}
use Rattle.sl_key.specs.declared.answer.Good.TheVariants as held
use Rattle.sl_key.specs.declared.key.Key.{Key}
use Rattle.sl_key.specs.declared.key.Kind.TheVariants.{Syntax, Imports}
use Rattle.sl_key.specs.declared.request.Request.{Request}
use Rattle.sl_key.specs.declared.request.Request.TheVariants.{Make}
use Rattle.sl_key.specs.declared.request.Term.TheVariants.{Load}
use Rattle.sl_io.specs.Root.{bytes_of}
use Rattle.def_sources.specs.Sources.{Sources}

module _ (sources : Sources) (answer : Key → Answer) where
  -- behind a module's syntax its imports are asked, and the key of each declaration in order
  abbrev pub behind_syntax : List ℕ → Answer → List Key
  behind_syntax name (Good (held.Syntax text)) =
      module_key Imports name ∷ keys_of name (decls_in text)
  behind_syntax name _ = []

  -- the keys that are asked for a module with these bytes, and none for an absent module
  abbrev pub asked_of : List ℕ → Option (List ℕ) → List Key
  asked_of name (Some bytes) =
      module_key Syntax name ∷ behind_syntax name (answer (module_key Syntax name))
  asked_of name None = []

  -- the keys that are asked for a module
  abbrev pub asked_for : List ℕ → List Key
  asked_for name = asked_of name (bytes_of sources.modules name)

  -- what an answer points to: the key at fault, or the syntax of the module that has a cycle's
  -- least key
  abbrev pub pointed_to : Answer → List Key
  pointed_to (Good value) = []
  pointed_to (Bad told) = []
  pointed_to (Spoiled culprit) = culprit ∷ []
  pointed_to (Circular []) = []
  pointed_to (Circular (least ∷ others)) = module_key Syntax (module_of least) ∷ []

  -- the keys of a request: those that are asked for it, and then what their answers point to
  abbrev pub roots_of : Request → List Key
  roots_of (Make (Load name)) =
      asked_for name ++ flat_map (λ key. pointed_to (answer key)) (asked_for name)
