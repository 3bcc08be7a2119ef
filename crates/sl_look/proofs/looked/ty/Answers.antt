use Rattle.std.proofs.Common.{false}
use Rattle.sl_cursor.specs.Nestings.{nesting_in}
use Rattle.sl_look.proofs.Looking.{ends_here, type_further}
use Rattle.sl_look.proofs.Typing.{behind_from, within_from, type_missing, type_found}
use Rattle.sl_look.proofs.looked.ty.Goals as goal
use Rattle.sl_look.proofs.looked.ty.Goals.{In-Ok-Found}
use Rattle.sl_cursor.specs.declared.ends.Ends.{Ends}
use Rattle.sl_token.specs.View.{tokens_in}
use Rattle.law_machine.proofs.MachineStays.{IsFurther}

-- no looks
none : Ends
none =
    record {
      path = record { found = false; many = 0 };
      one = record { found = false; many = 0 };
      list = record { found = false; many = 0 };
    }

-- where the type ends
further : (c : In-Ok-Found) → IsFurther c.args.here.now.place.at (tokens_in c.args.input.now.bytes.now c.args.here.now.place.rest.now) c.in-Ok-Found.behind.at
    (tokens_in c.args.input.now.bytes.now c.in-Ok-Found.behind.rest.now)
further c =
    let all = c.args.input.now in
    let place = c.args.here.now.place in
    type_further all.bytes.now c.args.around.now.types place c.in-Ok-Found.behind c.in-Ok-Found.field-0 c.in-Ok-Found.tree _
    (ends_here all.bytes.now all.tokens.now place.rest.now all.ahead.now place.at none all.table all.whole c.requires.rest c.requires.within)
    c.in-Ok-Found.ensures c.in-Ok-Found.field-0-is

pub follow-place-requires-clause-behind : goal.follow-place-requires-clause-behind
follow-place-requires-clause-behind c =
    behind_from c.args.input.now.bytes.now c.args.here.now.place c.in-Ok-Found.behind (further (goal.at.follow-place-requires-clause-behind c).In-Ok-Found)

pub follow-place-requires-clause-within : goal.follow-place-requires-clause-within
follow-place-requires-clause-within c =
    within_from c.args.input.now.bytes.now c.args.here.now.place c.in-Ok-Found.behind (further (goal.at.follow-place-requires-clause-within c).In-Ok-Found)

pub returns-in-Ok-Missing : goal.returns-in-Ok-Missing
returns-in-Ok-Missing c =
    let source = c.args.input.now in
    type_missing source (nesting_in c.args.around.now) c.args.here.now c.in-Ok-Missing.field-0 c.in-Ok-Missing.behind c.settled.result c.reach_at-way.result c.further.result
    c.in-Ok-Missing.ensures c.in-Ok-Missing.field-0-is (c.settled.ensures source.bytes.now) (c.reach_at-way.ensures source.bytes.now) (c.further.ensures source.bytes.now)

pub returns-in-Ok-Found : goal.returns-in-Ok-Found
returns-in-Ok-Found c =
    let source = c.args.input.now in
    type_found source (nesting_in c.args.around.now) c.args.here.now c.in-Ok-Found.field-0 c.in-Ok-Found.tree c.in-Ok-Found.behind c.follow-place.result c.requires
    c.in-Ok-Found.ensures c.in-Ok-Found.field-0-is (further (goal.at.returns-in-Ok-Found c).In-Ok-Found)
    (record { at = c.follow-place.ensures.at; limit = c.follow-place.ensures.limit; rest = c.follow-place.ensures.rest })
