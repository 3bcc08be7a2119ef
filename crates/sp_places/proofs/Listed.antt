-- What tables of lists have of a place.
use Rattle.std.proofs.Common.{◌≡◌, ◌∙◌, ℕ, ◌<◌, ◌≤◌, Bool, true, false, ◌||◌, List, [], ◌∷◌, length, map, get_or, refl, ap, ap₂, sym, is_some, arith, ⊎_elim}
use Rattle.std.specs.Prelude.{nat_le, nat_lt}
use Rattle.std.proofs.lemmas.Bool.{cases_lt}
use Rattle.std.proofs.lemmas.Bool.Decides.{nat_tests}
use Rattle.std.proofs.lemmas.List.{get_or-map as get_or-map-in, get_or_past}
use Rattle.std.proofs.lemmas.Option.{unwrap_or-slice_get}
use Rattle.std.proofs.Math.ListN.{get_or-map, length-map}
use Rattle.def_spirv.specs.Operands.{is_result, is_result_type, is_use, operands_of, words_of}
use Rattle.def_spirv.specs.Table.{Role, table}
use Rattle.def_spirv.specs.Words.{Instruction, Module}
use Rattle.def_valid.specs.Ids.{has_result, result_type_at, uses_at}
use Rattle.def_valid.specs.Places.{instruction_at, no_instruction, result_at, result_or_none, size}
use Rattle.def_valid.specs.Sections.{has_operands}

-- the words of what stands at a place, by the table of words
words-at : (test : Role → Bool) → [] ≡ words_of test no_instruction → (m : Module) (k : ℕ) →
    get_or (map (words_of test) m.instructions) k [] ≡ words_of test (instruction_at m k)
unfolding instruction_at
words-at test none m k =
    ap (get_or (map (words_of test) m.instructions) k) none ∙ get_or-map (words_of test) m.instructions k no_instruction

none_at : (test : Role → Bool) → [] ≡ words_of test no_instruction
unfolding table
none_at test = refl

pub uses-at : (m : Module) (k : ℕ) → get_or (map (words_of is_use) m.instructions) k [] ≡ uses_at m k
unfolding uses_at
uses-at m k = words-at is_use (none_at is_use) m k

pub result_at-words : (m : Module) (k : ℕ) → get_or (get_or (map (words_of is_result) m.instructions) k []) 0 0 ≡ result_at m k
unfolding result_at
result_at-words m k =
    ap (λ (s : List ℕ). get_or s 0 0) (words-at is_result (none_at is_result) m k)
    ∙ sym (unwrap_or-slice_get (words_of is_result (instruction_at m k)) 0 0)

pub type_at-words : (m : Module) (k : ℕ) → get_or (get_or (map (words_of is_result_type) m.instructions) k []) 0 0 ≡ result_type_at m k
unfolding result_type_at
type_at-words m k =
    ap (λ (s : List ℕ). get_or s 0 0) (words-at is_result_type (none_at is_result_type) m k)
    ∙ sym (unwrap_or-slice_get (words_of is_result_type (instruction_at m k)) 0 0)

pub has_result-words : (m : Module) (k : ℕ) → nat_lt 0 (length (get_or (map (words_of is_result) m.instructions) k [])) ≡ has_result m k
unfolding has_result
has_result-words m k = ap (λ (s : List ℕ). nat_lt 0 (length s)) (words-at is_result (none_at is_result) m k)

-- the first results of all
pub firsts-are : (instructions : List Instruction) →
    map (λ ids. get_or ids 0 0) (map (words_of is_result) instructions) ≡ map result_or_none instructions
firsts-are [] = refl
firsts-are (i ∷ instructions) =
    ap₂ (λ (n : ℕ) (ns : List ℕ). n ∷ ns) (sym (unwrap_or-slice_get (words_of is_result i) 0 0)) (firsts-are instructions)

leb-false : {k n : ℕ} → k < n → nat_le n k ≡ false
leb-false h = grind (arith, nat_tests)

leb-true : {k n : ℕ} → n ≤ k → nat_le n k ≡ true
leb-true h = grind (arith, nat_tests)

-- whether what stands at a place has its operands, by the table of truths
pub has_operands-at : (m : Module) (k : ℕ) → get_or (map (λ i. is_some (operands_of i)) m.instructions) k true ≡ has_operands m k
unfolding has_operands instruction_at size
has_operands-at m k =
    ⊎_elim
    (λ (low : k < length m.instructions).
    let fits = λ (i : Instruction). is_some (operands_of i) in
    get_or-map-in fits m.instructions k no_instruction true low
    ∙ ap (λ b. b || fits (get_or m.instructions k no_instruction)) (sym (leb-false low)))
    (λ (high : length m.instructions ≤ k).
    let past : length (map (λ i. is_some (operands_of i)) m.instructions) ≤ k = rw (length-map m.instructions (λ i. is_some (operands_of i))) high in
    get_or_past (map (λ i. is_some (operands_of i)) m.instructions) k true past
    ∙ ap (λ b. b || is_some (operands_of (get_or m.instructions k no_instruction))) (sym (leb-true high)))
    (cases_lt k (length m.instructions))
