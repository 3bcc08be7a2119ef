use Rattle.std.proofs.Common.{[], ◌∷◌, ◌++◌, map, sym, ap, ◌∙◌}
use Rattle.def_decl_reading.specs.MemberReading as forms
use Rattle.sl_token.specs.View.{token_in}
use Rattle.sl_decl.proofs.Forming.{begun, formed, follows, yes, no, made}
use Rattle.sl_decl.proofs.parser.Parser.names.Goals as goal

pub returns-in-Some : goal.returns-in-Some
returns-in-Some c =
    let source = c.args.self.now.source in
    let bytes = source.bytes.now in
    follows source (λ names. map (token_in bytes) names) (forms.names_form (token_in bytes c.args.first))
    c.args.here.now c.more_names.result
    (yes begun c.in-Some.ensures (λ k1. (record { outcome = c.more_names.ensures })))

pub returns : goal.returns
returns c =
    let source = c.args.self.now.source in
    let bytes = source.bytes.now in
    formed (forms.names_form (token_in bytes c.args.first))
    (no c.in_default.ensures (made begun c.requires (λ p.
    sym (ap (map (token_in bytes)) (c.in_ok-push.ensures.ok ∙ ap (λ names. names ++ c.args.first ∷ []) c.new-names.ensures)))))
