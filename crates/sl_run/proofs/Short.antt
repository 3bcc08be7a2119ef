-- Each instruction of a module that writes one buffer is short enough to be spelled, where its names are.
use Rattle.std.proofs.Common.{◌≡◌, ℕ, ◌+◌, ◌≤◌, ◌^◌, Bool, true, nat_lt, List, [], ◌∷◌, length, map, All, ap, sym, ◌∙◌, arith, lt-ltb, ltb-true, length-append}
use Rattle.std.specs.List.{list_all}
use Rattle.std.proofs.lemmas.List.Folds.{list_all-map}
use Rattle.std.proofs.lemmas.List.Sums.{AllPass-from_list_all}
use Rattle.def_slang.specs.BufferWrite.{BufferWrite}
use Rattle.def_spirv.specs.Words.{Instruction, text_words}
use Rattle.sp_words.specs.View.{instruction_of, FitsWordCount}
use Rattle.sp_words.specs.declared.instruction.Inst.{Inst}
use Rattle.sl_run.specs.Instructions.{entry_point, name_of, instructions_of}
use Rattle.sl_run.specs.declared.module.id.TheConstants as id

length-text_words : (text : List ℕ) → length (text_words text) ≤ length text + 1
length-text_words [] = omega arith
length-text_words (a ∷ []) = omega arith
length-text_words (a ∷ b ∷ []) = omega arith
length-text_words (a ∷ b ∷ c ∷ []) = omega arith
length-text_words (a ∷ b ∷ c ∷ d ∷ rest) = omega (arith, length-text_words rest)

-- whether the words of an instruction can be counted in its first
abbrev is_short : Instruction → Bool
is_short i = nat_lt (length i.operands + 1) (2 ^ 16)

-- as an instruction of a short text and few more operands
short_by_text : (i : Instruction) (text : List ℕ) → length text ≤ 255 → length i.operands ≤ length (text_words text) + 4 → is_short i ≡ true
short_by_text i text short few = lt-ltb (length i.operands + 1) (2 ^ 16) (omega (arith, length-text_words text))

short_instructions : (w : BufferWrite) → length w.buffer ≤ 255 → length w.entry ≤ 255 → list_all is_short (instructions_of w) ≡ true
short_instructions w buffer entry =
    let variables = id.DISPATCH_ID ∷ id.BUFFER ∷ [] in
    let point = short_by_text (entry_point w.entry) w.entry entry (omega (arith, length-append (text_words w.entry) variables)) in
    let point_name = short_by_text (name_of id.ENTRY_POINT w.entry) w.entry entry (omega arith) in
    let buffer_name = short_by_text (name_of id.BUFFER w.buffer) w.buffer buffer (omega arith) in
    rw (point, point_name, buffer_name)

pub all_fit : (w : BufferWrite) (insts : List Inst) → length w.buffer ≤ 255 → length w.entry ≤ 255 → map instruction_of insts ≡ instructions_of w → All FitsWordCount insts
all_fit w insts buffer entry is k d within =
    let pass : list_all (λ inst. is_short (instruction_of inst)) insts ≡ true
    = sym (list_all-map is_short instruction_of insts) ∙ ap (list_all is_short) is ∙ short_instructions w buffer entry in
    ltb-true _ _ (AllPass-from_list_all _ insts pass k d within)
