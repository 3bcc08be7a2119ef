use Rattle.std.proofs.Common.{◌≡◌, ℕ, ◌<◌, List, length, get_or, Some, sym, ap, ◌∙◌}
use Rattle.std.specs.Prelude.{slice_get}
use Rattle.std.proofs.lemmas.Option.{slice_get-get_or}
use Rattle.def_layout.specs.declared.slot.Wanted.{Wanted}
use Rattle.def_layout.specs.declared.slot.Wanted.TheVariants.{Any}
use Rattle.lay_out.proofs.Clashing.{seen_all, seen_any, seen_clash, seen_more}
use Rattle.lay_out.proofs.clash.refuse_clash.Goals as goal
use Rattle.lay_out.proofs.clash.refuse_clash.Goals.{in-At+in_ok-first+in_default-2, in_default}

-- the buffer of an iteration
this_one : (wanted : List Wanted) (number : ℕ) (this : Wanted) → number < length wanted → get_or wanted number Any ≡ this
    → slice_get wanted number ≡ Some this
this_one wanted number this within is = slice_get-get_or wanted number Any within ∙ ap (λ w. Some w) is

pub returns-in-Some-clause-err : goal.returns-in-Some-clause-err
returns-in-Some-clause-err c =
    let wanted = c.args.wanted.now in
    let number = c.loop-number.number in
    seen_clash wanted number c.loop-number.seen c.in-At.slot c.in-Some.first c.loop-number.invariant
    (this_one wanted number _ c.loop-number-test.true c.in-At.is) (sym c.in_ok-first.ensures.old ∙ c.in-Some.is)

pub loop-number-preserved : goal.loop-number-preserved
loop-number-preserved c =
    let wanted = c.args.wanted.now in
    let number = c.loop-number.number in
    let seen = c.loop-number.seen in
    elim c.match-this.branch [
      | in-At+in_ok-first+in_default-2 w ↦
          rw w.seen-is (seen_more wanted number seen w.put.new.seen w.in-At.slot c.loop-number.invariant
          (this_one wanted number _ c.loop-number-test.true w.in-At.is) (sym w.in_ok-first.ensures.old ∙ w.in_default-2.is)
          w.in_ok-first.ensures.updates)
      | in_default w ↦
          rw w.seen-is (seen_any wanted number seen c.loop-number.invariant
          (this_one wanted number _ c.loop-number-test.true w.in_default.is))
    ]

pub returns-clause-ok : goal.returns-clause-ok
returns-clause-ok c = seen_all c.args.wanted.now c.loop-number.number c.loop-number.seen c.loop-number-test.false c.loop-number.invariant
