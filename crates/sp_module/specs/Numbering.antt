-- What the parts of the numbering promise each other.
use Rattle.std.specs.Prelude.{ℕ, nat_eq, List, map}
use Rattle.indexmap.specs.IndexSet.{insert_all}
use Rattle.def_spirv.specs.Symbolic.{mentions, number_of, numbered_line, operand_words}
use Rattle.def_spirv.specs.Words.{Instruction}
use Rattle.sp_module.specs.View.{line_of, operand_of}
use Rattle.sp_module.specs.declared.sections.Line.{Line}
use Rattle.sp_module.specs.declared.sections.Operand.{Operand}

-- ids in order of first mention, after these are mentioned too
abbrev pub with_ids : List ℕ → List ℕ → List ℕ
with_ids ids more = insert_all nat_eq ids more

-- the ids that instructions mention
abbrev pub ids_of : List Line → List ℕ
ids_of lines = mentions (map line_of lines)

-- the words of an operand, by the place of its id among the ids
abbrev pub words_by : List ℕ → Operand → List ℕ
words_by ids operand = operand_words (number_of nat_eq ids) (operand_of operand)

-- an instruction with numbers for its ids
abbrev pub instruction_by : List ℕ → Line → Instruction
instruction_by ids line = numbered_line (number_of nat_eq ids) (line_of line)
