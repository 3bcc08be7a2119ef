-- The line of a diagnostic.
use Rattle.std.specs.Prelude.{ℕ, List, ◌++◌, codes}
use Rattle.std.specs.Fmt.{decimal}
use Rattle.def_slang.specs.Diagnostic.{message}
use Rattle.sl_base.specs.declared.diag.Diag.{Diag}
use Rattle.sl_base.specs.declared.diag.Site.{Site}
use Rattle.sl_base.specs.declared.diag.Site.TheVariants.{Request, Source}
use Rattle.sl_base.specs.declared.place.Place.{Place}

-- line and column
abbrev pub place_text : Place → List ℕ
place_text place = decimal place.line ++ (codes ":" ++ decimal place.column)

-- the word `request`, or a module and a place in it
abbrev pub site_text : Site → List ℕ
site_text Request = codes "request"
site_text (Source name place) = name ++ (codes ":" ++ place_text place)

-- the site, the code and its message
abbrev pub diagnostic_text : Diag → List ℕ
diagnostic_text d =
    site_text d.site
    ++ (codes ": error E" ++ (decimal d.code ++ (codes ": " ++ message d.code d.args)))
