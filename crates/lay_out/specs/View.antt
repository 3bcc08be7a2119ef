-- What the types of this crate stand for.
use Rattle.std.specs.Prelude.{List, [], ◌∷◌, map, reverse}
use Rattle.def_layout.specs.Shape as shapes
use Rattle.def_layout.specs.declared.laid.Leaf.{Leaf}
use Rattle.def_layout.specs.declared.scalar.Scalar.TheVariants as scalar
use Rattle.lay_out.specs.declared.found.Found.{Found}
use Rattle.lay_out.specs.declared.shape.Shape.{Shape, fold-Shape}
use Rattle.lay_out.specs.declared.shape.Shape.TheOpen as layer
use Rattle.lay_out.specs.declared.shape.Shape.TheOpen.{Shape-F}

-- members in order as the definitions have them
abbrev pub members_of : List shapes.Shape → shapes.Shapes
members_of [] = shapes.NoShapes
members_of (first ∷ more) = shapes.MoreShapes first (members_of more)

-- a shape whose fields stand for these
abbrev pub shape_by : Shape-F shapes.Shape → shapes.Shape
shape_by layer.Int = shapes.Single scalar.Int
shape_by layer.Uint = shapes.Single scalar.Uint
shape_by (layer.Fields fields) = shapes.Struct (members_of fields)

-- the shape that a shape of this crate stands for
unfoldable pub shape_in : Shape → shapes.Shape
shape_in shape = fold-Shape shapes.Shape shape_by shape

-- the members that fields of these shapes are
abbrev pub shapes_in : List Shape → shapes.Shapes
shapes_in fields = members_of (map shape_in fields)

-- a number with the numbers of its fields from the outermost struct on
abbrev pub leaf_of : Found → Leaf
leaf_of found =
    record { path = reverse found.outwards.items; offset = found.offset; scalar = found.scalar }
