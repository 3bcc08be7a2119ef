use Rattle.std.proofs.Common.{ap, refl, ◌∙◌, arith}
use Rattle.sl_token.specs.View.{token_in}
use Rattle.std.proofs.Common.{map}
use Rattle.sl_cursor.specs.Seen.{place_in}
use Rattle.def_reading.specs.TypeAhead.{path_from}
use Rattle.sl_look.proofs.TypeSteps.{in_front, front_none, name_further, path_whole}
use Rattle.sl_look.proofs.types.Types.path.Goals as goal

pub loop-path-init : goal.loop-path-init
loop-path-init c =
    record {
      front = rw c.new-path.ensures (front_none (path_from (place_in c.args.self.now.source.now c.args.place.now)));
      free = refl;
      fewer = omega arith;
    }

pub returns-in-Nothing : goal.returns-in-Nothing
returns-in-Nothing c =
    let inv = c.loop-path.invariant in
    record {
      is = λ turns h. path_whole c.args.self.now.source.now c.args.place.now c.loop-path.here c.loop-path.path inv.front c.in-Nothing.ensures;
      free = inv.free;
      fewer = inv.fewer;
    }

pub returns-in-Unexpected : goal.returns-in-Unexpected
returns-in-Unexpected c =
    let inv = c.loop-path.invariant in
    record {
      is = λ turns h. inv.front ∙ ap (in_front (map (token_in c.args.self.now.source.now) c.loop-path.path)) c.in-Unexpected.ensures.path;
      free = c.in-Unexpected.ensures.free ∙ inv.free;
      fewer = omega (arith, c.in-Unexpected.ensures.fewer, inv.fewer);
    }

pub loop-path-smaller : goal.loop-path-smaller
loop-path-smaller c = c.in-Name.ensures.fewer

pub loop-path-preserved : goal.loop-path-preserved
loop-path-preserved c =
    let inv = c.loop-path.invariant in
    record {
      front = name_further c.args.self.now.source.now c.args.place.now c.loop-path.here c.in-Name.behind c.loop-path.path c.push.new.self c.in-Name.name
          inv.front c.in-Name.ensures c.in_ok-push-in-Name.ensures.ok;
      free = c.in-Name.ensures.free ∙ inv.free;
      fewer = omega (arith, c.in-Name.ensures.fewer, inv.fewer);
    }
