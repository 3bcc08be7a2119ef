-- The module that the two passes over the sections make.
use Rattle.std.proofs.Common.{◌≡◌, ◌∙◌, ℕ, ◌+◌, nat_eq, List, [], ◌∷◌, ◌++◌, length, map, refl, ap, ap₂}
use Rattle.def_spirv.specs.Symbolic as definition
use Rattle.def_spirv.specs.Symbolic.{firsts, mentions, number_of, numbered, numbered_line}
use Rattle.def_spirv.specs.Words.{Instruction, Module}
use Rattle.sp_module.specs.Numbering.{ids_of, instruction_by, with_ids}
use Rattle.sp_module.specs.View.{line_of}
use Rattle.sp_module.specs.declared.sections.Line.{Line}
use Rattle.sp_words.specs.View.{instruction_of}
use Rattle.sp_words.specs.declared.instruction.Inst.{Inst}
use Rattle.sp_module.proofs.Firsts.{insert_all-firsts}

mapped : (ids : List ℕ) (lines : List Line) →
    map (instruction_by ids) lines ≡ map (numbered_line (number_of nat_eq ids)) (map line_of lines)
mapped ids [] = refl
mapped ids (line ∷ lines) = ap (λ s. instruction_by ids line ∷ s) (mapped ids lines)

-- the ids of one pass, and the instructions of another with their places, are the numbered module
pub numbered-by : (lines : List (definition.Line ℕ)) (one two : List Line) (none ids : List ℕ) (bound : ℕ)
    (before : List Inst) (instructions : List Instruction) →
    map line_of one ≡ lines → map line_of two ≡ lines → none ≡ [] → ids ≡ with_ids none (ids_of one) →
    bound ≡ length ids + 1 → before ≡ [] →
    instructions ≡ map instruction_of before ++ map (instruction_by ids) two →
    let m : Module = record { generator = 0; bound = bound; instructions = instructions } in m ≡ numbered nat_eq lines
numbered-by lines one two none ids bound before instructions o t empty has b new is =
    let in_order : ids ≡ firsts nat_eq (mentions lines) =
    has ∙ ap (λ s. with_ids s (ids_of one)) empty ∙ insert_all-firsts (ids_of one)
    ∙ ap (λ s. firsts nat_eq (mentions s)) o in
    let whole : instructions ≡ map (numbered_line (number_of nat_eq (firsts nat_eq (mentions lines)))) lines =
    is ∙ ap (λ s. map instruction_of s ++ map (instruction_by ids) two) new ∙ mapped ids two ∙ ap (λ s. map (numbered_line (number_of nat_eq ids)) s) t
    ∙ ap (λ s. map (numbered_line (number_of nat_eq s)) lines) in_order in
    ap₂ (λ n s. let m : Module = record { generator = 0; bound = n; instructions = s } in m)
    (b ∙ ap (λ s. length s + 1) in_order) whole
