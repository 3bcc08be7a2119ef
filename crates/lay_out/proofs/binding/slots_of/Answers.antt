use Rattle.std.proofs.Common.{◌≡◌, ℕ, ◌+◌, ◌<◌, ◌++◌, ◌∷◌, [], List, length, get_or, Some, sym, ap, ◌∙◌, subst, arith, length-append}
use Rattle.std.specs.List.{slice_get}
use Rattle.std.proofs.lemmas.Option.{slice_get-get_or}
use Rattle.def_layout.specs.declared.slot.Slot.{Slot}
use Rattle.def_layout.specs.declared.slot.Wanted.{Wanted}
use Rattle.def_layout.specs.declared.slot.Wanted.TheVariants.{Any, At}
use Rattle.lay_out.proofs.Choosing.{AreBoundSoFar, all_bound, any_bound, room, wanted_bound}
use Rattle.lay_out.specs.declared.free.Free.{Free}
use Rattle.lay_out.proofs.binding.slots_of.Goals.{in-At, in-Any}
use Rattle.lay_out.proofs.binding.slots_of.Goals as goal

-- the buffer that was read is the next one
next_is : (wanted : List Wanted) (slots : List Slot) (index : ℕ) (other this : Wanted) → length slots ≡ index → index < length wanted
    → get_or wanted index other ≡ this → slice_get wanted (length slots) ≡ Some this
next_is wanted slots index other this count within is =
    ap (slice_get wanted) count ∙ slice_get-get_or wanted index other within ∙ ap Some is

-- what is known at one slot and one state is known at those that are the same
at_same : (wanted : List Wanted) (slots : List Slot) (slot other : Slot) (free new : Free) → slot ≡ other → free ≡ new
    → AreBoundSoFar wanted (slots ++ other ∷ []) new → AreBoundSoFar wanted (slots ++ slot ∷ []) free
at_same wanted slots slot other free new same is so_far =
    subst (λ s. AreBoundSoFar wanted (slots ++ s ∷ []) free) (sym same)
    (subst (λ f. AreBoundSoFar wanted (slots ++ other ∷ []) f) (sym is) so_far)

pub take-requires-clause-fits : goal.take-requires-clause-fits
take-requires-clause-fits c =
    let before = c.loop-this.invariant in
    let this = next_is c.args.wanted.now c.loop-this.slots c.loop-this.this-index Any Any before.count c.loop-this-test.true c.in-Any.is in
    let p = room c.args.wanted.now c.loop-this.slots c.loop-this.free this before.so_far in
    let few = c.requires in
    omega arith

pub loop-this-preserved : goal.loop-this-preserved
loop-this-preserved c =
    let before = c.loop-this.invariant in
    let wanted = c.args.wanted.now in
    let slots = c.loop-this.slots in
    let index = c.loop-this.this-index in
    let pushed = c.in_ok-push.ensures.ok in
    let count : length c.push.new.self ≡ index + 1 =
    ap length pushed ∙ length-append slots (c.match-this.slot ∷ []) ∙ (let e = before.count in omega arith) in
    let so_far : AreBoundSoFar wanted (slots ++ c.match-this.slot ∷ []) c.match-this.free = elim c.match-this.branch [
      | in-At w ↦ at_same wanted slots c.match-this.slot w.in-At.slot c.match-this.free c.loop-this.free w.slot-is w.free-is
          (wanted_bound wanted slots c.loop-this.free w.in-At.slot
          (next_is wanted slots index Any (At w.in-At.slot) before.count c.loop-this-test.true w.in-At.is) before.so_far)
      | in-Any w ↦ at_same wanted slots c.match-this.slot _ c.match-this.free w.take.new.self w.slot-is w.free-is
          (any_bound wanted slots c.loop-this.free w.take.new.self w.take.result
          (next_is wanted slots index Any Any before.count c.loop-this-test.true w.in-Any.is) before.so_far w.take.ensures)
    ] in
    record { so_far = subst (λ (l : List Slot). AreBoundSoFar wanted l c.match-this.free) (sym pushed) so_far; count = count }

pub returns : goal.returns
returns c =
    let before = c.loop-this.invariant in
    all_bound c.args.wanted.now c.loop-this.slots c.loop-this.free (omega arith) before.so_far
