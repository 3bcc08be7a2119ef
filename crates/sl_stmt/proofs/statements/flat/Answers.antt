use Rattle.std.proofs.Common.{sym, le_refl}
use Rattle.std.specs.Prelude.{Ok, Err}
use Rattle.std.specs.Option.{option_map}
use Rattle.def_tree.specs.StmtTree as tree
use Rattle.def_reading.specs.StmtReading as reading
use Rattle.def_reading.specs.Try.{try_as}
use Rattle.sl_tree.specs.View as view
use Rattle.sl_stmt.specs.Eithers.{either_in, either_read, made_of}
use Rattle.sl_cursor.specs.Nestings.{nesting_in}
use Rattle.sl_cursor.specs.Seen.{place_in, reach_in}
use Rattle.sl_stmt.proofs.Eithers.{either_made}
use Rattle.sl_cursor.proofs.Following.{follows_by, follows_err, stops_as, read_as}
use Rattle.sl_stmt.proofs.statements.flat.Goals as goal

pub returns-in_err-either-clause-read : goal.returns-in_err-either-clause-read
returns-in_err-either-clause-read c =
    let source = c.args.input.now in
    let bytes = source.bytes.now in
    let around = nesting_in c.args.around.now in
    let from = c.args.here.now in
    let stop = c.in_err-either.field-0.0 in
    follows_err source (view.stmt_in bytes) (reading.either_in tree.Local tree.Simple around) from c.from_residual.result stop c.from_residual.ensures.1
    (follows_by source (view.stmt_in bytes) (reading.either_in tree.Local tree.Simple around) (λ reach place. try_as (made_of tree.Local tree.Simple) (either_read around reach place)) from from (Err stop)
    (either_made tree.Local tree.Simple around (option_map (reach_in bytes) from.reach) (place_in bytes from.place)) (le_refl from.place.at) (λ h. h)
    (stops_as source (either_in bytes) (view.stmt_in bytes) (made_of tree.Local tree.Simple) (either_read around) from stop c.in_err-either.ensures.read))

pub returns-clause-read : goal.returns-clause-read
returns-clause-read c =
    let source = c.args.input.now in
    let bytes = source.bytes.now in
    let around = nesting_in c.args.around.now in
    let from = c.args.here.now in
    let read = c.stmt_of.result in
    let end = c.in_ok-either.end in
    follows_by source (view.stmt_in bytes) (reading.either_in tree.Local tree.Simple around) (λ reach place. try_as (made_of tree.Local tree.Simple) (either_read around reach place)) from from (Ok (read, end))
    (either_made tree.Local tree.Simple around (option_map (reach_in bytes) from.reach) (place_in bytes from.place)) (le_refl from.place.at) (λ h. h)
    (read_as source (either_in bytes) (view.stmt_in bytes) (made_of tree.Local tree.Simple) (either_read around) from c.in_ok-either.either read end c.in_ok-either.ensures.read (λ h k. sym (c.stmt_of.ensures bytes)))
