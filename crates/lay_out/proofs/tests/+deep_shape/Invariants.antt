use Rattle.lay_out.proofs.tests.+deep_shape.Given as goal

abbrev pub decreases-deep_shape : goal.decreases-deep_shape
decreases-deep_shape l = l.levels
