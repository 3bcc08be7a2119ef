use Rattle.std.proofs.Common.{refl}
use Rattle.std.specs.Prelude.{Ok}
use Rattle.std.specs.Option.{option_map}
use Rattle.def_tree.specs.Limits.{plain}
use Rattle.def_reading.specs.Try.{try_as, refused}
use Rattle.def_reading.specs.StmtReading.{declarator, maybe_init_in}
use Rattle.def_reading.specs.TypeAhead.{names}
use Rattle.sl_token.specs.View.{token_in}
use Rattle.sl_tree.specs.View as view
use Rattle.sl_tree.specs.declared.statements.Declarator.{Declarator}
use Rattle.sl_cursor.specs.Nestings.{nesting_in}
use Rattle.sl_cursor.proofs.Following.{follows_yes, read_as}
use Rattle.sl_stmt.proofs.locals.one_declarator.Goals as goal

pub returns : goal.returns
returns c =
    let source = c.args.input.now in
    let bytes = source.bytes.now in
    let around = nesting_in c.args.around.now in
    let read : Declarator = record { name = c.in_ok-name.name; init = c.in_ok-init.init } in
    follows_yes source (view.declarator_in bytes) names plain (λ name reach place. try_as (declarator name) (maybe_init_in around reach place)) refused
    c.args.here.now c.in_ok-name.name c.in_ok-name.behind (Ok (read, c.in_ok-init.end)) c.in_ok-name.ensures
    (read_as source (λ init. option_map (view.init_in bytes) init) (view.declarator_in bytes) (declarator (token_in bytes c.in_ok-name.name)) (maybe_init_in around) c.in_ok-name.behind
    c.in_ok-init.init read c.in_ok-init.end c.in_ok-init.ensures (λ h k. refl))
