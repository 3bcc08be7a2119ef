use Rattle.std.proofs.Common.{ap, sym, subst, refl, ◌∙◌}
use Rattle.std.specs.Option.{option_map}
use Rattle.def_reading.specs.Cursor.{further}
use Rattle.sl_machine.specs.Long.{long_in}
use Rattle.sl_cursor.specs.Nestings.{nesting_in}
use Rattle.sl_cursor.specs.Seen.{reach_in}
use Rattle.sl_machine.specs.Steps.{step_in}
use Rattle.sl_machine.specs.declared.machine.Step.{Step}
use Rattle.sl_machine.specs.declared.machine.Step.TheVariants as step
use Rattle.sl_machine.proofs.Running.{Made, made_further, run_begins, run_goes_on, run_shrinks, run_refused, run_ends, run_calls}
use Rattle.sl_look.proofs.Typing.{behind_from, within_from}
use Rattle.sl_machine.proofs.machine.Around.run.Goals as goal
use Rattle.sl_machine.proofs.machine.Around.run.Goals.{In-Ok-On, In-Ok-Ends, In-Ok-Refused}

-- the step that leads on
on_made : (c : In-Ok-On) → Made c.args.self.now.source.bytes.now (nesting_in c.args.self.now.open) (long_in c.args.self.now) c.loop-frames.frames c.loop-frames.mode c.loop-frames.place
    (step_in c.args.self.now.source.bytes.now c.advance.new.frames (step.On c.in-Ok-On.other c.in-Ok-On.next c.in-Ok-On.behind))
on_made c =
    let bytes = c.args.self.now.source.bytes.now in
    let P : Step → Type 0 = λ made. Made bytes (nesting_in c.args.self.now.open) (long_in c.args.self.now) c.loop-frames.frames c.loop-frames.mode c.loop-frames.place (step_in bytes c.advance.new.frames made) in
    subst P c.in-Ok-On.field-0-is c.in-Ok-On.ensures

-- the step at which the expression ends
ends_made : (c : In-Ok-Ends) → Made c.args.self.now.source.bytes.now (nesting_in c.args.self.now.open) (long_in c.args.self.now) c.loop-frames.frames c.loop-frames.mode c.loop-frames.place
    (step_in c.args.self.now.source.bytes.now c.advance.new.frames (step.Ends c.in-Ok-Ends.expr c.in-Ok-Ends.field-0-1))
ends_made c =
    let bytes = c.args.self.now.source.bytes.now in
    let P : Step → Type 0 = λ made. Made bytes (nesting_in c.args.self.now.open) (long_in c.args.self.now) c.loop-frames.frames c.loop-frames.mode c.loop-frames.place (step_in bytes c.advance.new.frames made) in
    subst P c.in-Ok-Ends.field-0-is c.in-Ok-Ends.ensures

-- the step at which no token goes on
refused_made : (c : In-Ok-Refused) → Made c.args.self.now.source.bytes.now (nesting_in c.args.self.now.open) (long_in c.args.self.now) c.loop-frames.frames c.loop-frames.mode c.loop-frames.place
    (step_in c.args.self.now.source.bytes.now c.advance.new.frames (step.Refused c.in-Ok-Refused.behind))
refused_made c =
    let bytes = c.args.self.now.source.bytes.now in
    let P : Step → Type 0 = λ made. Made bytes (nesting_in c.args.self.now.open) (long_in c.args.self.now) c.loop-frames.frames c.loop-frames.mode c.loop-frames.place (step_in bytes c.advance.new.frames made) in
    subst P c.in-Ok-Refused.field-0-is c.in-Ok-Refused.ensures

pub loop-frames-init : goal.loop-frames-init
loop-frames-init c =
    run_begins c.args.self.now.source (nesting_in c.args.self.now.open) c.args.assigns (long_in c.args.self.now) c.args.here.now c.new-frames.result _ c.new-frames.ensures refl
    c.requires.long c.requires.within

pub advance-requires : goal.advance-requires
advance-requires c = c.loop-frames.invariant.stands

pub returns-in-Ok-Refused-clause-read : goal.returns-in-Ok-Refused-clause-read
returns-in-Ok-Refused-clause-read c =
    run_refused c.args.self.now.source (nesting_in c.args.self.now.open) c.args.assigns (long_in c.args.self.now) c.args.here.now c.loop-frames.reach c.refused.result c.loop-frames.frames
    c.advance.new.frames c.loop-frames.mode c.loop-frames.place c.in-Ok-Refused.behind c.loop-frames.invariant (refused_made (goal.at.returns-in-Ok-Refused-clause-read c).In-Ok-Refused)
    (c.refused.ensures c.args.assigns)

pub returns-in-Ok-Ends-clause-read : goal.returns-in-Ok-Ends-clause-read
returns-in-Ok-Ends-clause-read c =
    run_ends c.args.self.now.source (nesting_in c.args.self.now.open) c.args.assigns (long_in c.args.self.now) c.args.here.now c.loop-frames.reach c.loop-frames.frames
    c.advance.new.frames c.loop-frames.mode c.loop-frames.place c.in-Ok-Ends.field-0-1 c.in-Ok-Ends.expr c.end.result c.loop-frames.invariant
    (ends_made (goal.at.returns-in-Ok-Ends-clause-read c).In-Ok-Ends) c.end.ensures

pub returns-in-Ok-Ends-clause-call : goal.returns-in-Ok-Ends-clause-call
returns-in-Ok-Ends-clause-call c =
    run_calls c.args.self.now.source (nesting_in c.args.self.now.open) c.args.assigns (long_in c.args.self.now) c.args.here.now c.loop-frames.reach c.loop-frames.frames
    c.advance.new.frames c.loop-frames.mode c.loop-frames.place c.in-Ok-Ends.field-0-1 c.in-Ok-Ends.expr c.end.result c.loop-frames.invariant
    (ends_made (goal.at.returns-in-Ok-Ends-clause-call c).In-Ok-Ends) c.end.ensures

pub follow-place-requires-clause-behind : goal.follow-place-requires-clause-behind
follow-place-requires-clause-behind c =
    let bytes = c.args.self.now.source.bytes.now in
    behind_from bytes c.loop-frames.place c.in-Ok-On.behind
    (made_further bytes (nesting_in c.args.self.now.open) (long_in c.args.self.now) c.loop-frames.frames c.advance.new.frames c.loop-frames.mode c.in-Ok-On.next c.loop-frames.place
    c.in-Ok-On.behind c.in-Ok-On.other (on_made (goal.at.follow-place-requires-clause-behind c).In-Ok-On))

pub follow-place-requires-clause-within : goal.follow-place-requires-clause-within
follow-place-requires-clause-within c =
    let bytes = c.args.self.now.source.bytes.now in
    within_from bytes c.loop-frames.place c.in-Ok-On.behind
    (made_further bytes (nesting_in c.args.self.now.open) (long_in c.args.self.now) c.loop-frames.frames c.advance.new.frames c.loop-frames.mode c.in-Ok-On.next c.loop-frames.place
    c.in-Ok-On.behind c.in-Ok-On.other (on_made (goal.at.follow-place-requires-clause-within c).In-Ok-On))

pub loop-frames-smaller : goal.loop-frames-smaller
loop-frames-smaller c =
    run_shrinks c.args.self.now.source.bytes.now (nesting_in c.args.self.now.open) (long_in c.args.self.now) c.loop-frames.frames c.advance.new.frames c.loop-frames.mode c.in-Ok-On.next
    c.loop-frames.place c.in-Ok-On.behind c.follow-place.result c.in-Ok-On.other (on_made (goal.at.loop-frames-smaller c).In-Ok-On)
    (record { at = c.follow-place.ensures.at; limit = c.follow-place.ensures.limit; rest = c.follow-place.ensures.rest })

pub loop-frames-preserved : goal.loop-frames-preserved
loop-frames-preserved c =
    let bytes = c.args.self.now.source.bytes.now in
    run_goes_on c.args.self.now.source (nesting_in c.args.self.now.open) c.args.assigns (long_in c.args.self.now) c.args.here.now c.loop-frames.reach c.further-reach.result
    c.loop-frames.frames c.advance.new.frames c.loop-frames.mode c.in-Ok-On.next c.loop-frames.place c.in-Ok-On.behind c.follow-place.result c.in-Ok-On.other c.loop-frames.invariant
    (on_made (goal.at.loop-frames-preserved c).In-Ok-On)
    (record { at = c.follow-place.ensures.at; limit = c.follow-place.ensures.limit; rest = c.follow-place.ensures.rest })
    (c.further-reach.ensures bytes
    ∙ ap (further (option_map (reach_in bytes) c.loop-frames.reach)) (c.way.ensures bytes ∙ sym (c.counts-counts.ensures bytes (option_map (reach_in bytes) c.in-Ok-On.other))))
