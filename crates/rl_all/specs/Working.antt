-- How much work a request takes.
use Rattle.std.specs.Prelude.{◌≡◌, ℕ, List, [], ◌∷◌, length}
use Rattle.def_sources.specs.Sources.{Sources}
use Rattle.def_check.specs.Reply.{IsClosure}
use Rattle.sl_key.specs.declared.key.Key.{Key}
use Rattle.sl_key.specs.declared.request.Request.{Request}

-- as many queries as the request comes to
abbrev pub IsWorkOf : Sources → Request → ℕ → Type 0
IsWorkOf sources request queries =
    (keys : List Key) × IsClosure sources (request ∷ []) keys × (length keys ≡ queries)
