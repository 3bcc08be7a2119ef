-- The syntax of a module, which needs no other key.
use Rattle.std.specs.Prelude.{ℕ, List, Option, Some, None, Result, Ok, Err}
use Rattle.sl_base.specs.declared.diag.Diag.{Diag}
use Rattle.sl_base.specs.declared.diag.Site.TheVariants.{Request, Source}
use Rattle.sl_base.specs.declared.place.Place.{Place}
use Rattle.sl_key.specs.Fault.{told_at}
use Rattle.sl_key.specs.declared.answer.Answer as answers
use Rattle.sl_key.specs.declared.fault.Fault.TheVariants.{NoModule}
use Rattle.sl_key.specs.declared.key.Kind.TheVariants as kind
use Rattle.sl_io.specs.Root.{bytes_of}
use Rattle.def_body.specs.Part.{answer_of}
use Rattle.def_module.specs.Syntax.{Answer, Good, Bad}
use Rattle.def_built.specs.Told.{told_in}
use Rattle.def_sources.specs.Sources.{Sources}

-- a diagnostic at a place of a module
abbrev pub diagnostic : List ℕ → Place → ℕ → List (List ℕ) → Diag
diagnostic name at code args = record { site = Source name at; code = code; args = args }

-- What is told of a module's text. Where nothing is, the text is known, which has one tree.
abbrev pub told : List ℕ → List ℕ → Answer → Result (List ℕ) Diag
told name text (Good tree) = Ok text
told name text (Bad fault) =
    let at : Place = record { line = fault.place.line; column = fault.place.column } in
    Err (diagnostic name at fault.code fault.args)

-- a module's text, if the sources have it; a module that is absent is not asked for
abbrev pub read : List ℕ → Option (List ℕ) → Result (List ℕ) Diag
read name (Some text) = told name text (told_in text)
read name None = Err (told_at Request (NoModule name))

-- what is known of the syntax of a module
abbrev pub syntax_known : Sources → List ℕ → Result (List ℕ) Diag
syntax_known sources name = read name (bytes_of sources.modules name)

-- the same as an answer
abbrev pub syntax_of : Sources → List ℕ → answers.Answer
syntax_of sources name = answer_of kind.Syntax (syntax_known sources name)
