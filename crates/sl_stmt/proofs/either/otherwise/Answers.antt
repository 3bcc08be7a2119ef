use Rattle.std.proofs.Common.{refl, sym, ap, ◌∙◌, le_refl}
use Rattle.std.specs.Option.{option_map}
use Rattle.def_tree.specs.Symbol.{is_sign}
use Rattle.def_reading.specs.StmtReading.{declares, simple_in}
use Rattle.def_reading.specs.Try.{try_as, up_to}
use Rattle.sl_tree.specs.View as view
use Rattle.sl_stmt.specs.Eithers.{ASimple, either_in, else_by}
use Rattle.sl_cursor.specs.Nestings.{nesting_in}
use Rattle.sl_cursor.specs.Seen.{place_in, reach_in}
use Rattle.sl_stmt.specs.declared.either.Either.TheVariants as either
use Rattle.sl_cursor.specs.declared.source.Here.{Here}
use Rattle.sl_cursor.proofs.Following.{read_by, read_as}
use Rattle.sl_stmt.proofs.either.otherwise.Goals as goal

pub returns-clause-read : goal.returns-clause-read
returns-clause-read c =
    let source = c.args.input.now in
    let bytes = source.bytes.now in
    let around = nesting_in c.args.around.now in
    let from = c.args.here.now in
    let again : Here = record { place = from.place; reach = c.args.reach } in
    let reach = option_map (reach_in bytes) c.args.reach in
    let place = place_in bytes from.place in
    let read = either.Simple c.in_ok-simple.simple in
    read_by source (either_in bytes) (λ other place. else_by (declares around place) around reach place) (λ reach place. try_as ASimple (up_to (is_sign ";") (simple_in around reach place)))
    from again read c.in_ok-simple.end (ap (λ b. else_by b around reach place) (sym c.declares.ensures ∙ c.if-declares.false)) (le_refl from.place.at) (λ h. h)
    (read_as source (view.simple_in bytes) (either_in bytes) ASimple (λ reach place. up_to (is_sign ";") (simple_in around reach place)) again c.in_ok-simple.simple read c.in_ok-simple.end
    c.in_ok-simple.ensures.read (λ h k. refl))
