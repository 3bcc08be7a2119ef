use Rattle.std.proofs.Common.{refl}
use Rattle.std.specs.Prelude.{Some, None, Ok}
use Rattle.std.specs.Option.{option_map}
use Rattle.def_tree.specs.Limits.{plain}
use Rattle.def_tree.specs.Symbol.{is_sign}
use Rattle.def_reading.specs.Try.{Reads, try_as, type_in}
use Rattle.sl_tree.specs.View as view
use Rattle.sl_cursor.specs.Nestings.{nesting_in}
use Rattle.sl_cursor.proofs.Following.{follows_yes, read_as}
use Rattle.sl_stmt.proofs.locals.maybe_type.Goals as goal

pub returns : goal.returns
returns c =
    let source = c.args.input.now in
    let around = nesting_in c.args.around.now in
    let seen = view.type_in source.bytes.now in
    follows_yes source (λ type. option_map seen type) (is_sign ":") plain (λ colon reach place. try_as Some (type_in around reach place)) (λ reach place. Reads None place reach)
    c.args.here.now c.in-Some.field-0-0 c.in-Some.behind (Ok (Some c.in_ok-ty.ty, c.in_ok-ty.end)) c.in-Some.ensures
    (read_as source seen (λ type. option_map seen type) Some (type_in around) c.in-Some.behind c.in_ok-ty.ty (Some c.in_ok-ty.ty) c.in_ok-ty.end c.in_ok-ty.ensures (λ h k. refl))
