-- What follows from the definitions.
use Rattle.std.specs.Prelude.{◌≡◌, map}
use Rattle.sl_base.specs.Diag.{diagnostic_text}
use Rattle.sl_key.specs.Order.{key_cmp}
use Rattle.sl_key.specs.declared.request.Reply.{Reply}
use Rattle.sl_key.specs.declared.request.Reply.TheVariants.{Made, Failed}
use Rattle.sl_key.specs.declared.request.Request.{Request}
use Rattle.def_query.specs.Lawful.{IsLawful}
use Rattle.def_sources.specs.Sources.{Sources}
use Rattle.def_check.specs.Body.{meaning_of}
use Rattle.def_check.specs.Reply.{IsReply}

-- the bodies of keys keep to what is asked of rules, over any sources
abbrev pub BodiesAreLawful : Type 0
BodiesAreLawful = (sources : Sources) → IsLawful key_cmp (meaning_of sources)

-- two replies say the same: that nothing is wrong, or the same lines
abbrev pub SayTheSame : Reply → Reply → Type 0
SayTheSame Made Made = Unit {0}
SayTheSame (Failed told) (Failed other) = map diagnostic_text told ≡ map diagnostic_text other
SayTheSame _ _ = ⊥

-- all replies to a request say the same
abbrev pub OneReply : Type 0
OneReply =
    (sources : Sources) (request : Request) (one other : Reply)
    → IsReply sources request one → IsReply sources request other → SayTheSame one other
