use Rattle.std.proofs.Common.{◌≡◌, ◌∙◌, [], ◌∷◌, ◌++◌, length, map, sym, subst, ap, refl, arith}
use Rattle.std.proofs.lemmas.Bool.Decides.{nat_tests}
use Rattle.std.specs.List.{AllByRecursion}
use Rattle.qe_rules.specs.Frame.{HasBegun}
use Rattle.qe_rules.specs.Worker.{IsWorking}
use Rattle.qe_rules.proofs.Lists.{empty_list}
use Rattle.qe_rules.proofs.Stacks.{one_stack}
use Rattle.qe_rules.proofs.Working.{start, advanced, ended_closed}
use Rattle.qe_rules.proofs.worker.work.Goals as goal

-- the chain has the key alone
pub chain-init : goal.chain-init
chain-init g c =
    let begun : HasBegun (g.R.Rules.is_of c.args.rules.now) g.R.Rules.stands_for c.new-chain.result.frames.items c.in_ok-copy_key.field-0 c.begin.new.self.frames.items =
    c.in_ok-begin.ensures.frames in
    let keys : c.begin.new.self.keys.items ≡ c.args.key.now ∷ [] =
    c.in_ok-begin.ensures.keys
    ∙ (ap (λ l. l ++ c.in_ok-copy_key.field-0 ∷ []) c.new-chain.ensures.keys ∙ ap (λ k. k ∷ []) c.in_ok-copy_key.ensures) in
    let frames : c.begin.new.self.frames.items ≡ begun.frame ∷ [] =
    begun.behind ∙ ap (λ l. l ++ begun.frame ∷ []) c.new-chain.ensures.frames in
    record {
      working =
          subst (IsWorking g.R.Key.Ord.cmp (g.R.Rules.meaning c.args.rules.now) c.args.key.now c.args.known.now.pairs c.args.known.now.pairs) (sym keys)
          (start g.R.Key.Ord.cmp g.met.R.Key.Ord.total (g.R.Rules.meaning c.args.rules.now) (g.met.R.Rules.lawful c.args.rules.now)
          c.args.key.now c.args.known.now.pairs c.requires.correct c.requires.unknown);
      of = subst (AllByRecursion (g.R.Rules.is_of c.args.rules.now)) (sym frames) (begun.of, tt);
      stack =
          one_stack g.R.Key.Ord.cmp g.met.R.Key.Ord.total (g.R.Rules.meaning c.args.rules.now) (g.met.R.Rules.lawful c.args.rules.now)
          c.args.known.now.pairs (map g.R.Rules.stands_for c.begin.new.self.frames.items) (g.R.Rules.stands_for begun.frame)
          c.begin.new.self.keys.items c.in_ok-copy_key.field-0
          (ap (map g.R.Rules.stands_for) frames) begun.begun (keys ∙ ap (λ k. k ∷ []) (sym c.in_ok-copy_key.ensures));
      steps = refl;
    }

pub chain-preserved : goal.chain-preserved
chain-preserved g c = record {
  working =
      advanced g.R.Key.Ord.cmp g.met.R.Key.Ord.total (g.R.Rules.meaning c.args.rules.now) (g.met.R.Rules.lawful c.args.rules.now)
      c.args.key.now c.args.known.now.pairs c.chain.known.pairs c.advance.new.known.pairs c.chain.chain.keys.items c.advance.new.chain.keys.items
      c.chain.invariant.working c.in_ok-advance.ensures.ok.0;
  of = c.in_ok-advance.ensures.of;
  stack = c.in_ok-advance.ensures.ok.1;
  steps = omega (arith, c.chain.invariant.steps, c.in_ok-advance.ensures.steps);
}

-- the chain is empty
pub returns-clause-closed : goal.returns-clause-closed
returns-clause-closed g c =
    let none : length c.chain.chain.keys.items ≡ 0 = grind (arith, nat_tests) in
    ended_closed g.R.Key.Ord.cmp g.met.R.Key.Ord.total (g.R.Rules.meaning c.args.rules.now) (g.met.R.Rules.lawful c.args.rules.now)
    c.args.key.now c.args.known.now.pairs c.chain.known.pairs
    (subst (IsWorking g.R.Key.Ord.cmp (g.R.Rules.meaning c.args.rules.now) c.args.key.now c.args.known.now.pairs c.chain.known.pairs)
    (empty_list c.chain.chain.keys.items none) c.chain.invariant.working)
