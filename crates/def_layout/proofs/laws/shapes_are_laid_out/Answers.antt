use Rattle.def_layout.proofs.Existing.{a_layout}
use Rattle.def_layout.proofs.laws.shapes_are_laid_out.Goals as goal

pub returns : goal.returns
returns c = a_layout
