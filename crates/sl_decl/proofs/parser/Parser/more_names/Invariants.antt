use Rattle.std.proofs.Common.{[], length}
use Rattle.def_decl_reading.specs.Form.{reads, Made, name, with_first}
use Rattle.sl_token.specs.View.{token_in}
use Rattle.sl_cursor.proofs.Listed.{IsListed}
use Rattle.sl_decl.proofs.Looping.{Behind}
use Rattle.sl_decl.proofs.parser.Parser.more_names.Given as goal

-- the names so far stand in front of those that are left
abbrev pub invariant-loop-names : goal.invariant-loop-names
invariant-loop-names l =
    Behind l.fn.first l.names (λ more.
    IsListed l.self.source (token_in l.self.source.bytes.now) with_first [] (reads (name (λ name. Made name))) l.here more
    l.next)

abbrev pub decreases-loop-names : goal.decreases-loop-names
decreases-loop-names l = length l.next.place.rest.now
