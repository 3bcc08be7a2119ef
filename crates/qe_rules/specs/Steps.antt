-- How many steps are counted.
use Rattle.std.specs.Prelude.{ℕ, ◌+◌}
use Rattle.def_query.specs.declared.step.Step.{Step}
use Rattle.def_query.specs.declared.step.Step.TheVariants.{Needs, Done}

-- a body that is done adds one
abbrev pub after_step : {K A : Type 0} → ℕ → Step K A → ℕ
after_step n (Needs k) = n
after_step n (Done a) = n + 1
