use Rattle.std.proofs.Common.{◌∙◌, [], ◌∷◌, ◌++◌, map, drop, sym, subst, ap}
use Rattle.std.specs.List.{AllByRecursion}
use Rattle.def_query.specs.Answer.{IsCorrect}
use Rattle.qe_rules.specs.Frame.{HasBegun, IsStack, IsResumed}
use Rattle.qe_rules.specs.Worker.{Advances, IsChain, IsTurned}
use Rattle.qe_rules.proofs.Advancing.{done_turn, push_turn, close_turn}
use Rattle.qe_rules.proofs.Lists.{whole_behind}
use Rattle.qe_rules.proofs.Stacks.{map_snoc, all_front, all_last, all_snoc}
use Rattle.qe_rules.proofs.worker.advance.Goals as goal

-- the last frame is one of these rules
pub resume-requires-clause-of : goal.resume-requires-clause-of
resume-requires-clause-of g c =
    all_last (g.R.Rules.is_of c.args.rules.now) c.pop.new.self.items c.in-Some.frame
    (subst (AllByRecursion (g.R.Rules.is_of c.args.rules.now)) c.in-Some.ensures.items c.requires.of)

-- the body of the last key is done
pub returns-in-Done-clause-ok : goal.returns-in-Done-clause-ok
returns-in-Done-clause-ok g c =
    let same = c.reserve.ensures.pairs in
    subst
    (λ m. Advances g.R.Key.Ord.cmp (g.R.Rules.meaning c.args.rules.now) m c.args.chain.now.keys.items c.settle.new.known.pairs c.settle.new.chain.items
    × IsStack g.R.Key.Ord.cmp (g.R.Rules.meaning c.args.rules.now) c.settle.new.known.pairs (map g.R.Rules.stands_for c.pop.new.self.items) c.settle.new.chain.items)
    same
    (done_turn g.R.Key.Ord.cmp g.met.R.Key.Ord.total (g.R.Rules.meaning c.args.rules.now) (g.met.R.Rules.lawful c.args.rules.now)
    c.reserve.new.self.pairs c.args.chain.now.keys.items
    (map g.R.Rules.stands_for c.args.chain.now.frames.items) (map g.R.Rules.stands_for c.pop.new.self.items)
    (g.R.Rules.stands_for c.in-Some.frame) (g.R.Rules.stands_for c.resume.new.frame)
    (subst (IsCorrect g.R.Key.Ord.cmp (g.R.Rules.meaning c.args.rules.now)) (sym same) c.requires.correct)
    (subst (λ m. IsChain g.R.Key.Ord.cmp (g.R.Rules.meaning c.args.rules.now) m c.args.chain.now.keys.items) (sym same) c.requires.chained)
    (subst (λ m. IsStack g.R.Key.Ord.cmp (g.R.Rules.meaning c.args.rules.now) m (map g.R.Rules.stands_for c.args.chain.now.frames.items) c.args.chain.now.keys.items) (sym same) c.requires.stack)
    (ap (map g.R.Rules.stands_for) c.in-Some.ensures.items ∙ map_snoc g.R.Rules.stands_for c.pop.new.self.items c.in-Some.frame)
    c.settle.new.known.pairs c.settle.new.chain.items c.in-Done.answer
    (subst (λ s. IsResumed g.R.Key.Ord.cmp (g.R.Rules.meaning c.args.rules.now) (g.R.Rules.stands_for c.in-Some.frame) c.reserve.new.self.pairs s (g.R.Rules.stands_for c.resume.new.frame)) c.in-Done.is c.in_ok-answer-in-Some.ensures.resumed)
    c.settle.ensures)

pub returns-in-Done-clause-of : goal.returns-in-Done-clause-of
returns-in-Done-clause-of g c =
    all_front (g.R.Rules.is_of c.args.rules.now) c.pop.new.self.items (c.in-Some.frame ∷ [])
    (subst (AllByRecursion (g.R.Rules.is_of c.args.rules.now)) c.in-Some.ensures.items c.requires.of)

-- it needs a key that is not in the chain
pub returns-in_ok-go_down-in-None-place_of-clause-ok : goal.returns-in_ok-go_down-in-None-place_of-clause-ok
returns-in_ok-go_down-in-None-place_of-clause-ok g c =
    let down : HasBegun (g.R.Rules.is_of c.args.rules.now) g.R.Rules.stands_for (c.pop.new.self.items ++ c.resume.new.frame ∷ []) c.in-Needs.need c.go_down.new.self.frames.items =
    c.in_ok-go_down-in-None-place_of.ensures.frames in
    let same = c.reserve.ensures.pairs in
    let frames =
    ap (map g.R.Rules.stands_for) down.behind
    ∙ (map_snoc g.R.Rules.stands_for (c.pop.new.self.items ++ c.resume.new.frame ∷ []) down.frame
    ∙ ap (λ l. l ++ g.R.Rules.stands_for down.frame ∷ []) (map_snoc g.R.Rules.stands_for c.pop.new.self.items c.resume.new.frame)) in
    subst
    (λ m. Advances g.R.Key.Ord.cmp (g.R.Rules.meaning c.args.rules.now) m c.args.chain.now.keys.items c.reserve.new.self.pairs c.go_down.new.self.keys.items
    × IsStack g.R.Key.Ord.cmp (g.R.Rules.meaning c.args.rules.now) c.reserve.new.self.pairs (map g.R.Rules.stands_for c.go_down.new.self.frames.items) c.go_down.new.self.keys.items)
    same
    (subst
    (λ l. Advances g.R.Key.Ord.cmp (g.R.Rules.meaning c.args.rules.now) c.reserve.new.self.pairs c.args.chain.now.keys.items c.reserve.new.self.pairs c.go_down.new.self.keys.items
    × IsStack g.R.Key.Ord.cmp (g.R.Rules.meaning c.args.rules.now) c.reserve.new.self.pairs l c.go_down.new.self.keys.items)
    (sym frames)
    (push_turn g.R.Key.Ord.cmp g.met.R.Key.Ord.total (g.R.Rules.meaning c.args.rules.now) (g.met.R.Rules.lawful c.args.rules.now)
    c.reserve.new.self.pairs c.args.chain.now.keys.items
    (map g.R.Rules.stands_for c.args.chain.now.frames.items) (map g.R.Rules.stands_for c.pop.new.self.items)
    (g.R.Rules.stands_for c.in-Some.frame) (g.R.Rules.stands_for c.resume.new.frame)
    (subst (IsCorrect g.R.Key.Ord.cmp (g.R.Rules.meaning c.args.rules.now)) (sym same) c.requires.correct)
    (subst (λ m. IsChain g.R.Key.Ord.cmp (g.R.Rules.meaning c.args.rules.now) m c.args.chain.now.keys.items) (sym same) c.requires.chained)
    (subst (λ m. IsStack g.R.Key.Ord.cmp (g.R.Rules.meaning c.args.rules.now) m (map g.R.Rules.stands_for c.args.chain.now.frames.items) c.args.chain.now.keys.items) (sym same) c.requires.stack)
    (ap (map g.R.Rules.stands_for) c.in-Some.ensures.items ∙ map_snoc g.R.Rules.stands_for c.pop.new.self.items c.in-Some.frame)
    (g.R.Rules.stands_for down.frame) c.go_down.new.self.keys.items c.in-Needs.need
    (subst (λ s. IsResumed g.R.Key.Ord.cmp (g.R.Rules.meaning c.args.rules.now) (g.R.Rules.stands_for c.in-Some.frame) c.reserve.new.self.pairs s (g.R.Rules.stands_for c.resume.new.frame)) c.in-Needs.is c.in_ok-answer-in-Some.ensures.resumed)
    (rw c.deref.ensures.value at c.in-None-place_of.ensures)
    down.begun c.in_ok-go_down-in-None-place_of.ensures.keys))

pub returns-in_ok-go_down-in-None-place_of-clause-of : goal.returns-in_ok-go_down-in-None-place_of-clause-of
returns-in_ok-go_down-in-None-place_of-clause-of g c =
    let down : HasBegun (g.R.Rules.is_of c.args.rules.now) g.R.Rules.stands_for (c.pop.new.self.items ++ c.resume.new.frame ∷ []) c.in-Needs.need c.go_down.new.self.frames.items =
    c.in_ok-go_down-in-None-place_of.ensures.frames in
    subst (AllByRecursion (g.R.Rules.is_of c.args.rules.now)) (sym down.behind)
    (all_snoc (g.R.Rules.is_of c.args.rules.now) (c.pop.new.self.items ++ c.resume.new.frame ∷ []) down.frame
    (all_snoc (g.R.Rules.is_of c.args.rules.now) c.pop.new.self.items c.resume.new.frame
    (all_front (g.R.Rules.is_of c.args.rules.now) c.pop.new.self.items (c.in-Some.frame ∷ [])
    (subst (AllByRecursion (g.R.Rules.is_of c.args.rules.now)) c.in-Some.ensures.items c.requires.of))
    c.in_ok-answer-in-Some.ensures.of)
    down.of)

-- it needs a key of the chain
pub returns-in_ok-answer-in-Some-place_of-clause-ok : goal.returns-in_ok-answer-in-Some-place_of-clause-ok
returns-in_ok-answer-in-Some-place_of-clause-ok g c =
    let same = c.reserve.ensures.pairs in
    let found = rw c.deref.ensures.value at c.in-Some-place_of.ensures in
    let told = c.in_ok-answer-in-Some-place_of.ensures in
    let keys = whole_behind c.deref-in-Some-place_of.result.now c.in-Some-place_of.at ∙ ap (drop c.in-Some-place_of.at) c.deref-in-Some-place_of.ensures.value in
    subst
    (λ m. Advances g.R.Key.Ord.cmp (g.R.Rules.meaning c.args.rules.now) m c.args.chain.now.keys.items c.settle-in-Some-place_of.new.known.pairs c.settle-in-Some-place_of.new.chain.items
    × IsStack g.R.Key.Ord.cmp (g.R.Rules.meaning c.args.rules.now) c.settle-in-Some-place_of.new.known.pairs (map g.R.Rules.stands_for c.pop.new.self.items) c.settle-in-Some-place_of.new.chain.items)
    same
    (close_turn g.R.Key.Ord.cmp g.met.R.Key.Ord.total (g.R.Rules.meaning c.args.rules.now) (g.met.R.Rules.lawful c.args.rules.now)
    c.reserve.new.self.pairs c.args.chain.now.keys.items
    (map g.R.Rules.stands_for c.args.chain.now.frames.items) (map g.R.Rules.stands_for c.pop.new.self.items)
    (g.R.Rules.stands_for c.in-Some.frame) (g.R.Rules.stands_for c.resume.new.frame)
    (subst (IsCorrect g.R.Key.Ord.cmp (g.R.Rules.meaning c.args.rules.now)) (sym same) c.requires.correct)
    (subst (λ m. IsChain g.R.Key.Ord.cmp (g.R.Rules.meaning c.args.rules.now) m c.args.chain.now.keys.items) (sym same) c.requires.chained)
    (subst (λ m. IsStack g.R.Key.Ord.cmp (g.R.Rules.meaning c.args.rules.now) m (map g.R.Rules.stands_for c.args.chain.now.frames.items) c.args.chain.now.keys.items) (sym same) c.requires.stack)
    (ap (map g.R.Rules.stands_for) c.in-Some.ensures.items ∙ map_snoc g.R.Rules.stands_for c.pop.new.self.items c.in-Some.frame)
    c.settle-in-Some-place_of.new.known.pairs c.settle-in-Some-place_of.new.chain.items c.in_ok-answer-in-Some-place_of.answer c.in-Needs.need c.in-Some-place_of.at
    (subst (λ s. IsResumed g.R.Key.Ord.cmp (g.R.Rules.meaning c.args.rules.now) (g.R.Rules.stands_for c.in-Some.frame) c.reserve.new.self.pairs s (g.R.Rules.stands_for c.resume.new.frame)) c.in-Needs.is c.in_ok-answer-in-Some.ensures.resumed)
    found.0 found.1
    (told.0, subst (λ l. IsTurned g.R.Key.Ord.cmp l told.0) keys told.1, told.2)
    c.settle-in-Some-place_of.ensures)

pub returns-in_ok-answer-in-Some-place_of-clause-of : goal.returns-in_ok-answer-in-Some-place_of-clause-of
returns-in_ok-answer-in-Some-place_of-clause-of g c =
    all_front (g.R.Rules.is_of c.args.rules.now) c.pop.new.self.items (c.in-Some.frame ∷ [])
    (subst (AllByRecursion (g.R.Rules.is_of c.args.rules.now)) c.in-Some.ensures.items c.requires.of)
