-- What has happened.
use Rattle.std.specs.Prelude.{List, [], ◌∷◌, ◌++◌}
use Rattle.qe_table.specs.declared.history.Past.{Past}
use Rattle.qe_table.specs.declared.history.Past.TheVariants.{Start, Then}

-- the entries, the first one first
abbrev pub entries : {E : Type 0} → Past E → List E
entries Start = []
entries (Then before e) = before.value ++ e.value ∷ []
