-- What a shape takes, as the parts of this crate promise it to each other.
use Rattle.std.specs.Prelude.{◌≡◌, ◌*◌, ◌≤◌, length, map}
use Rattle.def_layout.specs.Shape.{Shape, leaf_count, most_bytes}
use Rattle.def_layout.specs.Std430.{Takes, alignment}
use Rattle.lay_out.specs.View.{leaf_of}
use Rattle.lay_out.specs.declared.std430.Part.{Part}

-- the shape takes this
pub record IsPart (shape : Shape) (part : Part) : Type 0 where
  pub takes : Takes shape part.size (map leaf_of part.found.items)
  pub align : part.align ≡ alignment shape
  pub count : length part.found.items ≡ leaf_count shape
  pub few : part.size ≤ leaf_count shape * most_bytes
