-- What each form of a shape stands for.
use Rattle.std.proofs.Common.{◌≡◌, List, sym, ap, ◌∙◌}
use Rattle.def_layout.specs.Shape as shapes
use Rattle.def_layout.specs.declared.scalar.Scalar.TheVariants as scalar
use Rattle.lay_out.specs.View.{shape_in, shape_by, shapes_in}
use Rattle.lay_out.specs.declared.shape.Shape.{Shape, fold-roll-Shape}
use Rattle.lay_out.specs.declared.shape.Shape.TheOpen.{Shape-F}
use Rattle.lay_out.specs.declared.shape.Shape.TheVariants as shape

pub shape_in-Int : shape_in shape.Int ≡ shapes.Single scalar.Int
unfolding shape_in
shape_in-Int = ap shape_in (sym shape.rolls-Int) ∙ fold-roll-Shape shapes.Shape shape_by Shape-F.Int

pub shape_in-Uint : shape_in shape.Uint ≡ shapes.Single scalar.Uint
unfolding shape_in
shape_in-Uint = ap shape_in (sym shape.rolls-Uint) ∙ fold-roll-Shape shapes.Shape shape_by Shape-F.Uint

pub shape_in-Fields : (fields : List Shape) → shape_in (shape.Fields fields) ≡ shapes.Struct (shapes_in fields)
unfolding shape_in
shape_in-Fields fields = ap shape_in (sym (shape.rolls-Fields fields)) ∙ fold-roll-Shape shapes.Shape shape_by (Shape-F.Fields fields)

-- what shapes stand for
pub ruleset shape_forms = (shape_in-Int, shape_in-Uint, shape_in-Fields)
