-- The modules that the types of this crate stand for.
use Rattle.std.specs.Prelude.{ℕ, ◌+◌, ◌^◌, ◌<◌, ◌==◌, List, Option, length, map}
use Rattle.std.specs.Borrow.{Bor}
use Rattle.std.specs.List.{find}
use Rattle.std.specs.Option.{option_map}
use Rattle.def_spirv.specs.Table as definition
use Rattle.def_spirv.specs.Words.{Instruction, Module}
use Rattle.sp_words.specs.declared.instruction.Inst.{Inst}
use Rattle.sp_words.specs.declared.instruction.Words.{Words}
use Rattle.sp_words.specs.declared.table.Enumeration.{Enumeration}
use Rattle.sp_words.specs.declared.table.Enumeration.TheVariants as enumeration
use Rattle.sp_words.specs.declared.table.Role.{Role}
use Rattle.sp_words.specs.declared.table.Role.TheVariants as role
use Rattle.sp_words.specs.declared.table.Kind.{Kind}
use Rattle.sp_words.specs.declared.table.Kind.TheVariants as kind

-- the instruction of an opcode and operands
abbrev pub instruction_of : Inst → Instruction
instruction_of i = record { opcode = i.op; operands = i.operands }

-- the module of a header's numbers and instructions
abbrev pub module_of : Words → Module
module_of w =
    record { generator = w.generator; bound = w.bound; instructions = map instruction_of w.insts }

-- the number of words, the first among them, fits the 16 bits that the first word has for it
-- (SPIR-V 1.5, 2.3)
abbrev pub FitsWordCount : Inst → Type 0
FitsWordCount i = length i.operands + 1 < 2 ^ 16

-- an enumeration as the definitions have it
abbrev pub enumeration_of : Enumeration → definition.Enumeration
enumeration_of enumeration.ExecutionModel = definition.ExecutionModel
enumeration_of enumeration.AddressingModel = definition.AddressingModel
enumeration_of enumeration.MemoryModel = definition.MemoryModel
enumeration_of enumeration.ExecutionMode = definition.ExecutionMode
enumeration_of enumeration.StorageClass = definition.StorageClass
enumeration_of enumeration.SelectionControl = definition.SelectionControl
enumeration_of enumeration.LoopControl = definition.LoopControl
enumeration_of enumeration.FunctionControl = definition.FunctionControl
enumeration_of enumeration.Decoration = definition.Decoration
enumeration_of enumeration.Capability = definition.Capability

-- a role as the definitions have it
abbrev pub role_of : Role → definition.Role
role_of role.ResultType = definition.ResultType
role_of role.Result = definition.Result
role_of role.Reference = definition.Reference
role_of role.LiteralNumber = definition.LiteralNumber
role_of (role.Enumerant e) = definition.Enumerant (enumeration_of e)

-- what stands at an operand's place as the definitions have it
abbrev pub kind_of : Kind → definition.Kind
kind_of (kind.One r) = definition.One (role_of r)
kind_of kind.LiteralString = definition.LiteralString
kind_of (kind.Rest r) = definition.Rest (role_of r)

-- an entry of the table as the definitions have it
abbrev pub entry_of : ℕ × Bor (List Kind) → definition.Entry
entry_of e = definition.entry e.0 (map kind_of e.1.now)

-- what the instructions of an opcode have behind it by the first of these entries that has the
-- opcode
abbrev pub kinds_among : List definition.Entry → ℕ → Option (List definition.Kind)
kinds_among entries opcode = option_map (λ e. e.kinds) (find (λ e. e.opcode == opcode) entries)
