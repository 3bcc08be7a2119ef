-- The operands of an instruction: what each of its words is by the table.
use Rattle.std.specs.Prelude.{ℕ, ◌+◌, ◌/◌, ◌==◌, nat_eq, Bool, true, false, not, Option, Some, None, List, [], ◌∷◌, length, map, take, drop, slice_get, if◌then◌else◌}
use Rattle.std.specs.List.{flat_map, take_while}
use Rattle.std.specs.Option.{option_and_then, option_map}
use lib.Pointwise.{pointwise}
use Rattle.def_spirv.specs.Words.{Instruction, word_bytes, text_words}
use Rattle.def_spirv.specs.Table.{Role, ResultType, Result, Reference, Kind, One, LiteralString, Rest, kinds_of}

-- what an instruction has behind its opcode: a word with its role, or the bytes of a string
pub data Part : Type 0 where
  Word : Role → ℕ → Part
  Text : List ℕ → Part

-- Words that begin with a string, as its bytes and the words behind it, where they do: the bytes go
-- up to the first zero byte, and zero bytes fill its word (SPIR-V 1.5, 2.2.1, "Instructions").
abbrev pub text_before : List ℕ → Option (List ℕ × List ℕ)
text_before words =
    let bytes = take_while (λ b. not (b == 0)) (word_bytes words) in
    let count = length bytes / 4 + 1 in
    if pointwise nat_eq (take count words) (text_words bytes)
    then Some (bytes, drop count words) else None

-- the words of an instruction by what stands at each place, where they fit it
abbrev pub operands_by : List Kind → List ℕ → Option (List Part)
operands_by [] [] = Some []
operands_by [] (word ∷ words) = None
operands_by (One role ∷ kinds) [] = None
operands_by (One role ∷ kinds) (word ∷ words) =
    option_map (λ parts. Word role word ∷ parts) (operands_by kinds words)
operands_by (LiteralString ∷ kinds) words =
    option_and_then
    (λ (bytes, behind). option_map (λ parts. Text bytes ∷ parts) (operands_by kinds behind))
    (text_before words)
operands_by (Rest role ∷ kinds) words = Some (map (Word role) words)

-- the operands of an instruction, where it has those that its opcode takes
abbrev pub operands_of : Instruction → Option (List Part)
operands_of i = option_and_then (λ kinds. operands_by kinds i.operands) (kinds_of i.opcode)

-- the words of an operand that pass a test of their role
abbrev pub words_where : (Role → Bool) → Part → List ℕ
words_where test (Word role word) = if test role then word ∷ [] else []
words_where test (Text bytes) = []

-- the words of an instruction that pass a test of their role, in order
abbrev pub words_of : (Role → Bool) → Instruction → List ℕ
words_of test i =
    elim (operands_of i) [ None ↦ [] | Some parts ↦ flat_map (words_where test) parts ]

-- whether a word is the id that the instruction defines
abbrev pub is_result : Role → Bool
is_result Result = true
is_result _ = false

-- whether it names the type of the result
abbrev pub is_result_type : Role → Bool
is_result_type ResultType = true
is_result_type _ = false

-- whether it names an id that is defined elsewhere
abbrev pub is_reference : Role → Bool
is_reference Reference = true
is_reference _ = false

-- whether it names an id that the instruction does not define
abbrev pub is_use : Role → Bool
is_use Reference = true
is_use ResultType = true
is_use _ = false

-- the id that an instruction defines
abbrev pub result_of : Instruction → Option ℕ
result_of i = slice_get (words_of is_result i) 0

-- the id of the type of what it defines
abbrev pub result_type_of : Instruction → Option ℕ
result_type_of i = slice_get (words_of is_result_type i) 0

-- the ids that it refers to, without the type of its result
abbrev pub references_of : Instruction → List ℕ
references_of i = words_of is_reference i

-- the ids that it uses: all that it names but the one that it defines
abbrev pub uses_of : Instruction → List ℕ
uses_of i = words_of is_use i
