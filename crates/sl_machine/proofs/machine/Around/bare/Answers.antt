use Rattle.std.proofs.Common.{ap, ◌∙◌, map}
use Rattle.std.specs.Option.{option_map}
use Rattle.def_tree.specs.ExprTree as trees
use Rattle.def_reading.specs.Machine as machine
use Rattle.sl_token.specs.View.{token_in}
use Rattle.sl_tree.proofs.Views.{expr_in-Name}
use Rattle.sl_tree.specs.View.{type_in, types_of}
use Rattle.sl_machine.specs.Framed.{frames_in}
use Rattle.sl_cursor.specs.Seen.{place_in, reach_in}
use Rattle.sl_machine.proofs.machine.Around.bare.Goals as goal

pub returns : goal.returns
returns c =
    λ frames. let source = c.args.self.now.source.bytes.now in
    ap (λ tree. machine.On (option_map (reach_in source) c.args.other) (record { frames = frames_in source frames; mode = machine.Value tree; place = place_in source c.args.behind.now }))
    (expr_in-Name source c.args.token c.new.result
    ∙ ap (λ args. trees.Name (token_in source c.args.token) (types_of (map (type_in source) args))) c.new.ensures)
