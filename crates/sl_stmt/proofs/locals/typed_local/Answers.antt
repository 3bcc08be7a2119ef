use Rattle.std.proofs.Common.{map, ap}
use Rattle.std.specs.Prelude.{Ok}
use Rattle.std.specs.Option.{option_map}
use Rattle.def_tree.specs.StmtTree as tree
use Rattle.def_reading.specs.Try.{try_as, type_in}
use Rattle.def_reading.specs.StmtReading.{declarators_in}
use Rattle.sl_token.specs.View.{token_in}
use Rattle.sl_tree.specs.View as view
use Rattle.sl_tree.specs.declared.statements.LocalTree.TheVariants as local
use Rattle.sl_cursor.specs.Nestings.{nesting_in}
use Rattle.sl_cursor.proofs.Following.{follows_then, read_as}
use Rattle.sl_stmt.proofs.locals.typed_local.Goals as goal

pub returns : goal.returns
returns c =
    let source = c.args.input.now in
    let bytes = source.bytes.now in
    let around = nesting_in c.args.around.now in
    let word = option_map (token_in bytes) c.args.word in
    let read = local.Typed c.args.word c.in_ok-ty.ty c.in_ok-declarators.declarators in
    follows_then source (view.type_in bytes) (view.local_in bytes) (λ type reach place. try_as (tree.Typed word type) (declarators_in around reach place)) (type_in around)
    c.args.here.now c.in_ok-ty.ty c.in_ok-ty.behind (Ok (read, c.in_ok-declarators.end)) c.in_ok-ty.ensures
    (λ type same. read_as source (λ declarators. map (view.declarator_in bytes) declarators) (view.local_in bytes) (tree.Typed word type) (declarators_in around) c.in_ok-ty.behind
    c.in_ok-declarators.declarators read c.in_ok-declarators.end c.in_ok-declarators.ensures
    (λ h k. ap (λ type. tree.Typed word type (map (view.declarator_in bytes) c.in_ok-declarators.declarators)) (same k)))
