use Rattle.std.proofs.Common.{sym, le_refl}
use Rattle.std.specs.Prelude.{Ok, Err}
use Rattle.std.specs.Option.{option_map}
use Rattle.def_tree.specs.Limits.{plain}
use Rattle.def_tree.specs.StmtTree as tree
use Rattle.def_tree.specs.Symbol.{is_sign}
use Rattle.def_reading.specs.StmtReading as reading
use Rattle.def_reading.specs.Try.{Reads, try_as}
use Rattle.sl_tree.specs.View as view
use Rattle.sl_stmt.specs.Eithers.{either_in, either_read, made_of}
use Rattle.sl_cursor.specs.Nestings.{nesting_in}
use Rattle.sl_cursor.specs.Seen.{place_in, reach_in}
use Rattle.sl_stmt.proofs.Eithers.{either_made}
use Rattle.sl_cursor.proofs.Following.{follows_by, follows_err, follows_no, stops_as, read_as}
use Rattle.sl_stmt.proofs.heads.start.Goals as goal

pub returns-in_err-either : goal.returns-in_err-either
returns-in_err-either c =
    let source = c.args.input.now in
    let bytes = source.bytes.now in
    let around = nesting_in c.args.around.now in
    let from = c.args.here.now in
    let stop = c.in_err-either.field-0.0 in
    follows_err source (view.start_in bytes) (reading.start_in around) from c.from_residual.result stop c.from_residual.ensures.1
    (follows_no source (view.start_in bytes) (is_sign ";") plain (λ semicolon reach place. Reads tree.NoStart place reach) (reading.either_in tree.LocalStart tree.SimpleStart around)
    from (Err stop) c.in_default.ensures
    (follows_by source (view.start_in bytes) (reading.either_in tree.LocalStart tree.SimpleStart around) (λ reach place. try_as (made_of tree.LocalStart tree.SimpleStart) (either_read around reach place)) from from (Err stop)
    (either_made tree.LocalStart tree.SimpleStart around (option_map (reach_in bytes) from.reach) (place_in bytes from.place)) (le_refl from.place.at) (λ h. h)
    (stops_as source (either_in bytes) (view.start_in bytes) (made_of tree.LocalStart tree.SimpleStart) (either_read around) from stop c.in_err-either.ensures.read)))

pub returns : goal.returns
returns c =
    let source = c.args.input.now in
    let bytes = source.bytes.now in
    let around = nesting_in c.args.around.now in
    let from = c.args.here.now in
    let read = c.start_of.result in
    let end = c.in_ok-either.end in
    follows_no source (view.start_in bytes) (is_sign ";") plain (λ semicolon reach place. Reads tree.NoStart place reach) (reading.either_in tree.LocalStart tree.SimpleStart around)
    from (Ok (read, end)) c.in_default.ensures
    (follows_by source (view.start_in bytes) (reading.either_in tree.LocalStart tree.SimpleStart around) (λ reach place. try_as (made_of tree.LocalStart tree.SimpleStart) (either_read around reach place)) from from (Ok (read, end))
    (either_made tree.LocalStart tree.SimpleStart around (option_map (reach_in bytes) from.reach) (place_in bytes from.place)) (le_refl from.place.at) (λ h. h)
    (read_as source (either_in bytes) (view.start_in bytes) (made_of tree.LocalStart tree.SimpleStart) (either_read around) from c.in_ok-either.either read end c.in_ok-either.ensures.read (λ h k. sym (c.start_of.ensures bytes))))
