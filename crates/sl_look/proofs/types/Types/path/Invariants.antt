use Rattle.std.proofs.Common.{◌≡◌, ◌≤◌, length, map}
use Rattle.sl_token.specs.View.{token_in}
use Rattle.sl_cursor.specs.Seen.{place_in}
use Rattle.def_reading.specs.TypeAhead.{path_from}
use Rattle.sl_look.proofs.TypeSteps.{in_front}
use Rattle.sl_look.proofs.types.Types.path.Given as goal

-- the names so far stand in front of those that are left
abbrev pub invariant-loop-path : goal.invariant-loop-path
invariant-loop-path l =
    record {
      front : path_from (place_in l.self.source.now l.place) ≡ in_front (map (token_in l.self.source.now) l.path) (path_from (place_in l.self.source.now l.here));
      free : l.here.limit ≡ l.place.limit;
      fewer : length l.here.rest.now ≤ length l.place.rest.now;
    }

abbrev pub decreases-loop-path : goal.decreases-loop-path
decreases-loop-path l = length l.here.rest.now
