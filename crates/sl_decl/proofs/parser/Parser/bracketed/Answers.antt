use Rattle.std.proofs.Common.{subst}
use Rattle.def_tree.specs.Limits.{Nesting, in_bracket, opens}
use Rattle.def_tree.specs.Symbol.{is_sign}
use Rattle.sl_token.specs.View.{token_in}
use Rattle.sl_tree.specs.DeclView.{decl_in}
use Rattle.sl_cursor.specs.Following.{IsPassed}
use Rattle.sl_cursor.specs.Nestings.{nesting_in}
use Rattle.sl_stmt.proofs.Settling.{settles_of}
use Rattle.sl_decl.specs.Modules.{bracketed_form}
use Rattle.sl_decl.proofs.Forming.{begun, settles, yes, no}
use Rattle.sl_decl.proofs.parser.Parser.bracketed.Goals as goal

pub returns-in-Some : goal.returns-in-Some
returns-in-Some c =
    let source = c.args.self.now.source in
    let bytes = source.bytes.now in
    let second = subst (λ (n : Nesting). IsPassed source (is_sign "[")
    (opens (in_bracket n).brackets) c.args.here.now c.in-Some.field-0-0 c.in-Some.inside) c.in_bracket.ensures
    c.in-Some.ensures in
    settles source (decl_in bytes) (bracketed_form (nesting_in c.args.around.now) (token_in bytes c.args.first))
    c.args.here.now c.bound_buffer.result
    (yes begun second (λ k1. (record { outcome = settles_of source (decl_in bytes) _ _ _ c.bound_buffer.ensures })))

pub returns-in-None : goal.returns-in-None
returns-in-None c =
    let source = c.args.self.now.source in
    let bytes = source.bytes.now in
    settles source (decl_in bytes) (bracketed_form (nesting_in c.args.around.now) (token_in bytes c.args.first))
    c.args.here.now c.attributed.result
    (no c.in-None.ensures (record { outcome = c.attributed.ensures }))
