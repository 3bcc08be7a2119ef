-- The module of a program that writes one buffer, as an explicit list of instructions.
--
-- Whether two ids are the same computes for each two ids that the module mentions, but for the constant that is
-- written: it has no numeral. So the ids are numbered as if that constant were 0.
use Rattle.std.proofs.Common.{◌≡◌, ℕ, List, map, refl, ap, sym, ◌∙◌, append-nil, eq-eqb}
use Rattle.def_slang.specs.BufferWrite.{BufferWrite}
use Rattle.def_spirv.specs.Words.{Instruction}
use Rattle.def_spirv.specs.Symbolic.{Line, numbered, section_lines}
use Rattle.def_spirv.proofs.Renaming.{rename_line, numbered_alike}
use Rattle.def_emit.specs.Program.{Scalar, Int, Uint}
use Rattle.def_emit.specs.Symbol.{Global, TypeOf, Constant, DispatchId, BufferVariable, Symbol, Of, Entry, Start, SlotVariable, Result, same_global, same_symbol}
use Rattle.def_emit.specs.Lower.{program_of}
use Rattle.def_emit.specs.Emit.{sections, emitted}
use Rattle.sl_run.specs.Instructions.{instructions_of}
use Rattle.sl_run.specs.declared.module.id.TheConstants as id

-- the value of a constant of a type, where each of type `int` becomes n
abbrev constant_as : ℕ → Scalar → ℕ → ℕ
constant_as n Int m = n
constant_as n Uint m = m

abbrev global_as : ℕ → Global → Global
global_as n (Constant s m) = Constant s (constant_as n s m)
global_as n global = global

abbrev symbol_as : ℕ → Symbol → Symbol
symbol_as n (Of g) = Of (global_as n g)
symbol_as n symbol = symbol

same_global_as : (m n : ℕ) (x y : Global) → same_global (global_as m x) (global_as m y) ≡ same_global (global_as n x) (global_as n y)
same_global_as m n (Constant Int j) (Constant Int k) = eq-eqb m m refl ∙ sym (eq-eqb n n refl)
same_global_as m n (Constant Uint j) (Constant Uint k) = refl
same_global_as m n (TypeOf s) (TypeOf t) = refl
same_global_as m n DispatchId DispatchId = refl
same_global_as m n (BufferVariable j s) (BufferVariable k t) = refl
same_global_as m n x y = refl

same_symbol_as : (m n : ℕ) (x y : Symbol) → same_symbol (symbol_as m x) (symbol_as m y) ≡ same_symbol (symbol_as n x) (symbol_as n y)
same_symbol_as m n (Of x) (Of y) = same_global_as m n x y
same_symbol_as m n Entry Entry = refl
same_symbol_as m n Start Start = refl
same_symbol_as m n (SlotVariable j) (SlotVariable k) = refl
same_symbol_as m n (Result j q) (Result k r) = refl
same_symbol_as m n x y = refl

-- the instructions over symbols
abbrev lines_of : BufferWrite → List (Line Symbol)
lines_of w = section_lines (sections (program_of w))

lines-as_value : (w : BufferWrite) → lines_of w ≡ map (rename_line (symbol_as w.value)) (lines_of w)
lines-as_value w = refl

numbered-as_zero : (w : BufferWrite) → numbered same_symbol (map (rename_line (symbol_as 0)) (lines_of w)) ≡ record { generator = 0; bound = id.BOUND; instructions = instructions_of w }
numbered-as_zero w = simp append-nil

-- the program's module, in which each id has its number
pub emitted_buffer_write : (w : BufferWrite) → emitted (program_of w) ≡ record { generator = 0; bound = id.BOUND; instructions = instructions_of w }
emitted_buffer_write w =
    ap (numbered same_symbol) (lines-as_value w)
    ∙ numbered_alike same_symbol (symbol_as w.value) (symbol_as 0) (same_symbol_as w.value 0) (lines_of w)
    ∙ numbered-as_zero w

-- the module of these instructions is the program's
pub emitted_of_instructions : (w : BufferWrite) (instructions : List Instruction) → instructions ≡ instructions_of w → record { generator = 0; bound = id.BOUND; instructions = instructions } ≡ emitted (program_of w)
emitted_of_instructions w instructions is =
    ap (λ list. record { generator = 0; bound = id.BOUND; instructions = list }) is ∙ sym (emitted_buffer_write w)
