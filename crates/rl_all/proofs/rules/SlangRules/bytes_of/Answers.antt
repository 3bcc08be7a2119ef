use Rattle.std.proofs.Common.{◌≡◌, ◌≤◌, Some, length, subst}
use Rattle.std.specs.Prelude.{IfSome}
use Rattle.std.proofs.lemmas.Option.{IfSome_then}
use Rattle.def_sources.specs.Limits.{most_bytes}
use Rattle.def_sources.specs.Sources.{Sources}
use Rattle.sl_io.specs.Root.{bytes_of}
use Rattle.rl_all.proofs.Reading.{small_found}
use Rattle.rl_all.proofs.rules.SlangRules.bytes_of.Goals as goal

pub returns-clause-some : goal.returns-clause-some
returns-clause-some c =
    subst
    (λ (s : Sources). IfSome c.bytes_of.result (λ bytes.
    (bytes_of s.modules c.args.name.now ≡ Some bytes.now) × (length bytes.now ≤ most_bytes)))
    c.self.view_is
    (IfSome_then c.bytes_of.result c.bytes_of.ensures.some
    (λ bytes found. (found, small_found _ c.args.name.now bytes.now c.self.invariant found)))
