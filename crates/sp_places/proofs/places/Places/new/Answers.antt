use Rattle.std.proofs.Common.{◌∙◌, ap, map, get_or, List, ℕ}
use Rattle.def_spirv.specs.Operands.{is_result, is_result_type, is_use, operands_of, words_of}
use Rattle.std.specs.Prelude.{is_some}
use Rattle.sp_words.specs.View.{instruction_of, module_of}
use Rattle.sp_words.specs.declared.instruction.Inst.{Inst}
use Rattle.sp_places.proofs.Listed.{firsts-are}
use Rattle.sp_places.proofs.places.Places.new.Goals as goal

pub invariant_of-result : goal.invariant_of-result
invariant_of-result c =
    let insts = c.as_slice-insts.ensures in
    let defined = c.in_ok-defined.ensures ∙ ap (λ (s : List Inst). map (words_of is_result) (map instruction_of s)) insts in
    record {
      fits_are = c.in_ok-fits.ensures ∙ ap (λ (s : List Inst). map (λ i. is_some (operands_of i)) (map instruction_of s)) insts;
      defined_are = defined;
      types_are = c.in_ok-types.ensures ∙ ap (λ (s : List Inst). map (words_of is_result_type) (map instruction_of s)) insts;
      uses_are = c.in_ok-uses.ensures ∙ ap (λ (s : List Inst). map (words_of is_use) (map instruction_of s)) insts;
      results_are =
          c.in_ok-results.ensures ∙ c.in_ok-all_firsts.ensures
          ∙ ap (map (λ (ids : List ℕ). get_or ids 0 0)) (c.as_slice.ensures.value ∙ defined)
          ∙ firsts-are (module_of c.args.words.now).instructions;
      functions_are = c.in_ok-functions.ensures;
      ends_are = c.in_ok-ends.ensures;
      labels_are = c.in_ok-labels.ensures;
    }
