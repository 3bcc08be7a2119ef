use Rattle.std.proofs.Common.{◌≡◌, true, false, sym, ◌∙◌}
use Rattle.def_core.specs.declared.event.Event.TheVariants.{Abandon}
use Rattle.qe_table.proofs.Standing.{enters, keeps_many, given_back, nothing_back}
use Rattle.qe_table.proofs.table.Table.abandon.Goals as goal

pub invariant_of-self : goal.invariant_of-self
invariant_of-self g c =
    enters g.R.Key.Ord.cmp c.self.inside.core c.apply_other.new.self c.self.inside.history c.push.new.self
    (Abandon c.args.caller) c.of-entry.result.value c.self.invariant c.apply_other.ensures.state c.of-entry.ensures c.push.ensures

pub returns-then-fits-clause-gives_back : goal.returns-then-fits-clause-gives_back
returns-then-fits-clause-gives_back g c =
    given_back g.R.Key.Ord.cmp c.args.self.now _ _ c.self.inside.history c.push.new.self c.args.caller c.of-entry.result.value c.self.view_is
    (keeps_many g.R.Key.Ord.cmp c.self.inside.core c.apply_other.new.self (Abandon c.args.caller) c.apply_other.ensures.state)
    c.of-entry.ensures c.push.ensures

pub returns-else-fits-clause-gives_back : goal.returns-else-fits-clause-gives_back
returns-else-fits-clause-gives_back g c =
    nothing_back g.R.Key.Ord.cmp c.args.self.now c.self.inside.core c.self.inside.history c.args.caller c.self.view_is c.self.invariant
    c.requires (λ f. let a : c.fits.result ≡ true = c.fits.ensures.1 f in let e : true ≡ false = sym a ∙ c.if-fits.false in cc)
