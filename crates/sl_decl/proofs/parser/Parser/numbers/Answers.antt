use Rattle.std.proofs.Common.{refl}
use Rattle.std.specs.Prelude.{Ok}
use Rattle.sl_token.specs.View.{token_in}
use Rattle.sl_tree.specs.DeclView.{binding_in}
use Rattle.sl_decl.specs.Bindings.{numbers_form}
use Rattle.sl_decl.proofs.Taking.{takes, takes_behind, takes_made, takes_must, takes_stop, takes_yes}
use Rattle.sl_decl.proofs.parser.Parser.numbers.Goals as goal

pub returns-in_err-square : goal.returns-in_err-square
returns-in_err-square c =
    let source = c.args.self.now.source in
    takes_stop source binding_in (numbers_form (token_in source.bytes.now c.args.first)) c.args.here.now
    c.from_residual-in_err-square.result c.in_err-square.field-0.0 c.from_residual-in_err-square.ensures.1
    (takes_yes c.in_ok-number.ensures (takes_behind c.in_ok-set.ensures
    (takes_yes c.in_ok-round.ensures (takes_must c.in_err-square.ensures))))

pub returns-in_err-end : goal.returns-in_err-end
returns-in_err-end c =
    let source = c.args.self.now.source in
    takes_stop source binding_in (numbers_form (token_in source.bytes.now c.args.first)) c.args.here.now
    c.from_residual-in_err-end.result c.in_err-end.field-0.0 c.from_residual-in_err-end.ensures.1
    (takes_yes c.in_ok-number.ensures (takes_behind c.in_ok-set.ensures
    (takes_yes c.in_ok-round.ensures (takes_yes c.in_ok-square.ensures (takes_must c.in_err-end.ensures)))))

pub returns : goal.returns
returns c =
    let source = c.args.self.now.source in
    takes source binding_in (numbers_form (token_in source.bytes.now c.args.first)) c.args.here.now
    (Ok (record { opening = c.args.first; number = c.in_ok-number.number; set = c.in_ok-set.set }, c.in_ok-end.end))
    (takes_yes c.in_ok-number.ensures (takes_behind c.in_ok-set.ensures
    (takes_yes c.in_ok-round.ensures (takes_yes c.in_ok-square.ensures (takes_yes c.in_ok-end.ensures
    (takes_made c.in_ok-end.ensures.behind refl))))))
