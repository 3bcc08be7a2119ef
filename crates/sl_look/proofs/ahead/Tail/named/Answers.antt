use Rattle.std.proofs.Common.{◌∷◌, sym, ap, ◌∙◌}
use Rattle.std.proofs.lemmas.List.{nil_from_length}
use Rattle.sl_look.proofs.TailEnds.{named_alone, named_plain, named_with, named_without}
use Rattle.sl_look.proofs.ahead.Tail.named.Goals as goal

pub returns-in_default-clause-end : goal.returns-in_default-clause-end
returns-in_default-clause-end c =
    named_alone c.args.self.now.source.now c.args.self.now.tokens.now c.args.name _
    (c.requires.tokens ∙ ap (λ ts. c.args.name ∷ ts) (nil_from_length c.args.after.now c.in_default.ensures.cases)) c.requires.name c.path_behind.ensures.end

pub returns-then-not-is_sign-clause-end : goal.returns-then-not-is_sign-clause-end
returns-then-not-is_sign-clause-end c =
    named_plain c.args.self.now.source.now c.args.self.now.tokens.now c.args.after.now _ c.args.name c.in-Some.opening.now _
    c.requires.tokens c.in-Some.ensures.cases.0 c.requires.name (sym c.is_sign.ensures ∙ c.if-not-is_sign.true) c.path_behind-then-not-is_sign.ensures.end

pub returns-then-args-clause-end : goal.returns-then-args-clause-end
returns-then-args-clause-end c =
    named_with c.args.self.now.source.now c.args.self.now.tokens.now c.args.after.now _ c.args.name c.in-Some.opening.now c.behind.result.list _
    c.requires.tokens c.in-Some.ensures.cases.0 c.requires.name (sym c.is_sign.ensures ∙ c.if-not-is_sign.false) c.if-args.true c.behind.ensures.list
    c.path_behind-then-args.ensures.end

pub returns-else-args-clause-end : goal.returns-else-args-clause-end
returns-else-args-clause-end c =
    named_without c.args.self.now.source.now c.args.self.now.tokens.now c.args.after.now _ c.args.name c.in-Some.opening.now c.behind.result.list
    c.requires.tokens c.in-Some.ensures.cases.0 c.requires.name (sym c.is_sign.ensures ∙ c.if-not-is_sign.false) c.if-args.false c.behind.ensures.list
