use Rattle.std.proofs.Common.{false, ap}
use Rattle.std.specs.Prelude.{Ok, Err}
use Rattle.std.specs.Option.{option_map}
use Rattle.def_tree.specs.Limits.{plain}
use Rattle.def_tree.specs.StmtTree as tree
use Rattle.def_tree.specs.Symbol.{is_sign}
use Rattle.def_reading.specs.Try.{try_then, try_as, refused, expr_in}
use Rattle.def_reading.specs.StmtReading.{inferred_in, maybe_type_in, valued_in}
use Rattle.def_reading.specs.TypeAhead.{names}
use Rattle.sl_token.specs.View.{token_in}
use Rattle.sl_tree.specs.View as view
use Rattle.sl_tree.specs.declared.statements.LocalTree.TheVariants as local
use Rattle.sl_cursor.specs.Nestings.{nesting_in}
use Rattle.sl_cursor.proofs.Following.{follows_err, follows_yes, follows_then, follows_must, read_as}
use Rattle.sl_stmt.proofs.locals.inferred.Goals as goal

pub returns-in_err-next : goal.returns-in_err-next
returns-in_err-next c =
    let source = c.args.input.now in
    let bytes = source.bytes.now in
    let around = nesting_in c.args.around.now in
    let binding = view.binding_of c.args.binding in
    let word = token_in bytes c.args.word in
    let stop = c.in_err-next.field-0.0 in
    follows_err source (view.local_in bytes) (inferred_in around binding word) c.args.here.now c.from_residual-in_err-next.result stop c.from_residual-in_err-next.ensures.1
    (follows_yes source (view.local_in bytes) names plain (λ name reach place. try_then (λ type. valued_in around (tree.Inferred binding word name type)) (maybe_type_in around reach place)) refused
    c.args.here.now c.in_ok-name.name c.in_ok-name.behind (Err stop) c.in_ok-name.ensures
    (follows_then source (λ type. option_map (view.type_in bytes) type) (view.local_in bytes) (λ type. valued_in around (tree.Inferred binding word (token_in bytes c.in_ok-name.name) type)) (maybe_type_in around)
    c.in_ok-name.behind c.in_ok-ty.ty c.in_ok-ty.marked (Err stop) c.in_ok-ty.ensures
    (λ type same. follows_must source (view.local_in bytes) (is_sign "=") plain
    (λ equals reach place. try_as (tree.Inferred binding word (token_in bytes c.in_ok-name.name) type) (expr_in false around reach place)) c.in_ok-ty.marked stop c.in_err-next.ensures)))

pub returns : goal.returns
returns c =
    let source = c.args.input.now in
    let bytes = source.bytes.now in
    let around = nesting_in c.args.around.now in
    let binding = view.binding_of c.args.binding in
    let word = token_in bytes c.args.word in
    let name = token_in bytes c.in_ok-name.name in
    let read = local.Inferred c.args.binding c.args.word c.in_ok-name.name c.in_ok-ty.ty c.in_ok-value.value in
    follows_yes source (view.local_in bytes) names plain (λ name reach place. try_then (λ type. valued_in around (tree.Inferred binding word name type)) (maybe_type_in around reach place)) refused
    c.args.here.now c.in_ok-name.name c.in_ok-name.behind (Ok (read, c.in_ok-value.end)) c.in_ok-name.ensures
    (follows_then source (λ type. option_map (view.type_in bytes) type) (view.local_in bytes) (λ type. valued_in around (tree.Inferred binding word name type)) (maybe_type_in around)
    c.in_ok-name.behind c.in_ok-ty.ty c.in_ok-ty.marked (Ok (read, c.in_ok-value.end)) c.in_ok-ty.ensures
    (λ type same. follows_yes source (view.local_in bytes) (is_sign "=") plain (λ equals reach place. try_as (tree.Inferred binding word name type) (expr_in false around reach place)) refused
    c.in_ok-ty.marked c.in_ok-next.field-0-0 c.in_ok-next.next (Ok (read, c.in_ok-value.end)) c.in_ok-next.ensures
    (read_as source (view.expr_in bytes) (view.local_in bytes) (tree.Inferred binding word name type) (expr_in false around) c.in_ok-next.next c.in_ok-value.value read c.in_ok-value.end c.in_ok-value.ensures
    (λ h k. ap (λ type. tree.Inferred binding word name type (view.expr_in bytes c.in_ok-value.value)) (same (c.in_ok-next.ensures.rises k))))))
