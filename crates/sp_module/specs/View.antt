-- The instructions and sections that the types of this crate stand for.
use Rattle.std.specs.Prelude.{ℕ, map}
use Rattle.def_spirv.specs.Symbolic as definition
use Rattle.sp_module.specs.declared.sections.Line.{Line}
use Rattle.sp_module.specs.declared.sections.Operand.{Operand}
use Rattle.sp_module.specs.declared.sections.Operand.TheVariants.{Id, Number, Text}
use Rattle.sp_module.specs.declared.sections.Sections.{Sections}

-- an operand, whose id is a symbol
abbrev pub operand_of : Operand → definition.Operand ℕ
operand_of (Id i) = definition.Id i
operand_of (Number n) = definition.Number n
operand_of (Text bytes) = definition.Text bytes

-- an instruction over symbols
abbrev pub line_of : Line → definition.Line ℕ
line_of l = record { opcode = l.op; operands = map operand_of l.operands }

-- the instructions over symbols by section
abbrev pub sections_of : Sections → definition.Sections ℕ
sections_of s = record {
  capabilities = map line_of s.capabilities;
  memory_model = map line_of s.memory_model;
  entry_points = map line_of s.entry_points;
  execution_modes = map line_of s.execution_modes;
  names = map line_of s.names;
  decorations = map line_of s.decorations;
  globals = map line_of s.globals;
  functions = map line_of s.functions;
}
