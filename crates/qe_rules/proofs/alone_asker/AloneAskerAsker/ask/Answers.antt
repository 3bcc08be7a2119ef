use Rattle.std.proofs.Common.{List, [], ◌∷◌, ◌++◌, subst}
use Rattle.qe_rules.specs.Asker.{AskerState, HasClosure, LiesWithin}
use Rattle.qe_rules.proofs.Asking.{closed_has, kept_has, lies_same, lies_more}
use Rattle.qe_rules.proofs.alone_asker.AloneAskerAsker.ask.Goals as goal

-- memory ran out before, and nothing changes
pub returns-then-self-clause-within : goal.returns-then-self-clause-within
returns-then-self-clause-within g c =
    lies_same g.R.Key.Ord.cmp g.met.R.Key.Ord.total (g.met.R.Rules.lawful c.args.self.now.rules).one_key
    (g.R.Rules.meaning c.args.self.now.rules) c.args.self.now.pairs c.args.key.now

pub invariant_of-self : goal.invariant_of-self
invariant_of-self g c = record {
  correct = c.in-Ok.ensures.correct;
  closed = λ _. c.in-Ok.ensures.closed (c.self.invariant.closed c.if-self.false);
}

pub returns-in-Ok-clause-has : goal.returns-in-Ok-clause-has
returns-in-Ok-clause-has g c =
    closed_has g.R.Key.Ord.cmp g.met.R.Key.Ord.total (g.met.R.Rules.lawful c.self.inside.rules.now).one_key
    (g.R.Rules.meaning c.self.inside.rules.now) c.alone.new.known.pairs c.args.key.now
    (c.in-Ok.ensures.closed (c.self.invariant.closed c.if-self.false)) c.in-Ok.ensures.known

pub returns-in-Ok-clause-kept : goal.returns-in-Ok-clause-kept
returns-in-Ok-clause-kept g c =
    subst
    (λ (s : AskerState g.row.R.Denot g.row.R-Key.Denot g.row.R-Answer.Denot).
    (k : g.row.R-Key.Denot) → HasClosure g.R.Key.Ord.cmp (g.R.Rules.meaning s.rules) s.pairs k
    → HasClosure g.R.Key.Ord.cmp (g.R.Rules.meaning c.self.inside.rules.now) c.alone.new.known.pairs k)
    c.self.view_is
    (kept_has g.R.Key.Ord.cmp g.met.R.Key.Ord.total (g.met.R.Rules.lawful c.self.inside.rules.now).one_key
    (g.R.Rules.meaning c.self.inside.rules.now) c.self.inside.known.pairs c.alone.new.known.pairs c.in-Ok.ensures.kept)

pub returns-in-Ok-clause-within : goal.returns-in-Ok-clause-within
returns-in-Ok-clause-within g c =
    subst
    (λ (s : AskerState g.row.R.Denot g.row.R-Key.Denot g.row.R-Answer.Denot).
    (keys : List g.row.R-Key.Denot) → LiesWithin g.R.Key.Ord.cmp (g.R.Rules.meaning s.rules) s.pairs keys
    → LiesWithin g.R.Key.Ord.cmp (g.R.Rules.meaning c.self.inside.rules.now) c.alone.new.known.pairs (keys ++ c.args.key.now ∷ []))
    c.self.view_is
    (lies_more g.R.Key.Ord.cmp g.met.R.Key.Ord.total (g.met.R.Rules.lawful c.self.inside.rules.now).one_key
    (g.R.Rules.meaning c.self.inside.rules.now) c.self.inside.known.pairs c.alone.new.known.pairs c.args.key.now c.in-Ok.ensures.within)

pub returns-in-Err-clause-within : goal.returns-in-Err-clause-within
returns-in-Err-clause-within g c =
    subst
    (λ (s : AskerState g.row.R.Denot g.row.R-Key.Denot g.row.R-Answer.Denot).
    (keys : List g.row.R-Key.Denot) → LiesWithin g.R.Key.Ord.cmp (g.R.Rules.meaning s.rules) s.pairs keys
    → LiesWithin g.R.Key.Ord.cmp (g.R.Rules.meaning c.self.inside.rules.now) c.alone.new.known.pairs (keys ++ c.args.key.now ∷ []))
    c.self.view_is
    (lies_more g.R.Key.Ord.cmp g.met.R.Key.Ord.total (g.met.R.Rules.lawful c.self.inside.rules.now).one_key
    (g.R.Rules.meaning c.self.inside.rules.now) c.self.inside.known.pairs c.alone.new.known.pairs c.args.key.now c.in-Err.ensures.within)
