-- Shapes of the tests.
use Rattle.def_layout.specs.Shape.{Shape, Single, Struct, NoShapes, MoreShapes}
use Rattle.def_layout.specs.declared.scalar.Scalar.TheVariants.{Int, Uint}

-- a struct of two numbers
abbrev pub pair : Shape
pair = Struct (MoreShapes (Single Uint) (MoreShapes (Single Uint) NoShapes))

-- a struct of a number, a pair and a number
abbrev pub nested : Shape
nested = Struct (MoreShapes (Single Int) (MoreShapes pair (MoreShapes (Single Int) NoShapes)))
