use Rattle.std.proofs.Common.{sym, ◌∙◌}
use Rattle.std.proofs.lemmas.Result.{IfOk-weaker}
use Rattle.sl_machine.specs.Framed.{frames_in}
use Rattle.sl_machine.specs.Long.{long_in}
use Rattle.sl_cursor.specs.Nestings.{nesting_in}
use Rattle.sl_machine.specs.Steps.{step_in}
use Rattle.sl_machine.proofs.Counted.{types_are}
use Rattle.sl_machine.proofs.Keeping.{alike_to}
use Rattle.sl_look.proofs.Looking.{in_after}
use Rattle.sl_machine.proofs.Naming.{name_generic}
use Rattle.sl_machine.proofs.machine.Around.name.Goals as goal

pub generic-requires-clause-within : goal.generic-requires-clause-within
generic-requires-clause-within c =
    in_after c.args.self.now.source c.args.place.now c.advance-behind.result c.args.token c.requires.first.behind c.requires.within c.requires.first.are c.advance-behind.ensures

pub returns-then-begins_with : goal.returns-then-begins_with
returns-then-begins_with c =
    λ frames. let source = c.args.self.now.source.bytes.now in
    let around = nesting_in c.args.self.now.open in
    IfOk-weaker c.generic.result _ _
    (λ step a. alike_to (Unit {0}) (step_in source frames step) _ _ a
    (name_generic source around (long_in c.args.self.now) (frames_in source frames) c.args.self.now.open.types c.args.token c.requires.first.behind c.args.place.now c.advance-behind.result
    c.requires.first.are c.advance-behind.ensures c.requires.name (sym c.begins_with.ensures ∙ c.if-begins_with.true) (types_are source around frames)))
    (c.generic.ensures frames)
