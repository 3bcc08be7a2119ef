-- Diagnostics by the rule that is broken.
use Rattle.std.specs.Prelude.{ℕ, List, [], ◌∷◌, codes}
use Rattle.def_token.specs.Lexical as lexical
use Rattle.sl_base.specs.declared.diag.Diag.{Diag}
use Rattle.sl_base.specs.declared.diag.Site.{Site}
use Rattle.sl_base.specs.declared.diag.Site.TheVariants.{Source}
use Rattle.sl_base.specs.declared.place.Place.{Place}
use Rattle.sl_key.specs.declared.fault.Fault.{Fault}
use Rattle.sl_key.specs.declared.fault.Fault.TheVariants.{NotBuilt, NoModule, UnknownName, NoConversion, NotAType, NotAValue, NotTaken}
use Rattle.sl_key.specs.declared.value.Arithmetic.{Arithmetic}
use Rattle.sl_key.specs.declared.value.Arithmetic.TheVariants.{Add, Subtract, Multiply}
use Rattle.sl_key.specs.declared.value.Ty.{Ty}
use Rattle.sl_key.specs.declared.value.Ty.TheVariants as type

-- how a type is told
abbrev pub text_of : Ty → List ℕ
text_of type.Bool = codes "bool"
text_of type.Int = codes "int"
text_of type.Uint = codes "uint"

-- the mark of an operator
abbrev pub mark_of : Arithmetic → List ℕ
mark_of Add = codes "+"
mark_of Subtract = codes "-"
mark_of Multiply = codes "*"

-- the code of the diagnostic that tells a broken rule
abbrev pub code_of : Fault → ℕ
code_of NotBuilt = 100
code_of (NoModule name) = 201
code_of (UnknownName name) = 301
code_of (NoConversion from to) = 302
code_of (NotAType name) = 303
code_of (NotAValue name) = 304
code_of (NotTaken operator type) = 311

-- the arguments of that diagnostic
abbrev pub args_of : Fault → List (List ℕ)
args_of NotBuilt = []
args_of (NoModule name) = name ∷ []
args_of (UnknownName name) = name ∷ []
args_of (NoConversion from to) = text_of from ∷ text_of to ∷ []
args_of (NotAType name) = name ∷ []
args_of (NotAValue name) = name ∷ []
args_of (NotTaken operator type) = mark_of operator ∷ text_of type ∷ []

-- the diagnostic that tells a broken rule at a site
abbrev pub told_at : Site → Fault → Diag
told_at site fault = record { site = site; code = code_of fault; args = args_of fault }

-- the place of a token
abbrev pub place_of : lexical.Token → Place
place_of token = record { line = token.place.line; column = token.place.column }

-- the site of a token of a module
abbrev pub site_of : List ℕ → lexical.Token → Site
site_of «module» token = Source «module» (place_of token)

-- the place of a module as a whole
abbrev pub first_place : Place
first_place = record { line = 1; column = 1 }
