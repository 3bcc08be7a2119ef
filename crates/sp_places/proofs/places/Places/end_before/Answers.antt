use Rattle.std.proofs.Common.{◌∙◌, lit<}
use Rattle.def_spirv.specs.Opcodes as op
use Rattle.sp_places.proofs.Modules.{lasts-clamped}
use Rattle.sp_places.proofs.places.Places.end_before.Goals as goal

pub returns : goal.returns
returns c =
    rw (← c.self.view_is)
    (c.last_at.ensures
    ∙ lasts-clamped op.function_end _ c.as_slice.result.now c.args.place (lit< tt) (c.as_slice.ensures.value ∙ c.self.invariant.ends_are))
