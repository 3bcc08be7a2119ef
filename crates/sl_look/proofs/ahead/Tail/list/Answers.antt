use Rattle.std.proofs.Common.{sym, ◌∙◌}
use Rattle.std.proofs.lemmas.List.{nil_from_length}
use Rattle.sl_look.proofs.TailEnds.{rest_from, unless_not, nothing_behind, comma_behind, closed_behind, other_behind}
use Rattle.sl_look.proofs.ahead.Tail.list.Goals as goal

pub returns-in_default-clause-end : goal.returns-in_default-clause-end
returns-in_default-clause-end c =
    nothing_behind c.args.self.now.source.now c.args.self.now.tokens.now c.args.one (unless_not c.args.one.found c.if-not-one.false) c.requires.one
    (sym (rest_from c.args.self.now.tokens.now c.args.one.many) ∙ nil_from_length _ c.in_default.ensures.cases)

pub returns-then-is_sign-clause-end : goal.returns-then-is_sign-clause-end
returns-then-is_sign-clause-end c =
    comma_behind c.args.self.now.source.now c.args.self.now.tokens.now _ c.in-Some.mark.now c.args.one c.behind.result.list
    (unless_not c.args.one.found c.if-not-one.false) c.requires.one (sym (rest_from c.args.self.now.tokens.now c.args.one.many) ∙ c.in-Some.ensures.cases.0) (sym c.is_sign.ensures ∙ c.if-is_sign.true) c.behind.ensures.list

pub returns-then-is_sign-2-clause-end : goal.returns-then-is_sign-2-clause-end
returns-then-is_sign-2-clause-end c =
    closed_behind c.args.self.now.source.now c.args.self.now.tokens.now _ c.in-Some.mark.now c.args.one
    (unless_not c.args.one.found c.if-not-one.false) c.requires.one (sym (rest_from c.args.self.now.tokens.now c.args.one.many) ∙ c.in-Some.ensures.cases.0) (sym c.is_sign.ensures ∙ c.if-is_sign.false)
    (sym c.is_sign-else-is_sign.ensures ∙ c.if-is_sign-2.true)

pub returns-else-is_sign-2-clause-end : goal.returns-else-is_sign-2-clause-end
returns-else-is_sign-2-clause-end c =
    other_behind c.args.self.now.source.now c.args.self.now.tokens.now _ c.in-Some.mark.now c.args.one
    (unless_not c.args.one.found c.if-not-one.false) c.requires.one (sym (rest_from c.args.self.now.tokens.now c.args.one.many) ∙ c.in-Some.ensures.cases.0) (sym c.is_sign.ensures ∙ c.if-is_sign.false)
    (sym c.is_sign-else-is_sign.ensures ∙ c.if-is_sign-2.false)
