use Rattle.def_spirv.specs.Table.{table}
use Rattle.sp_words.proofs.table.kinds_of.Goals as goal

-- the table of the code is that of the definitions
pub returns : goal.returns
unfolding table
returns c = c.kinds_in.ensures
