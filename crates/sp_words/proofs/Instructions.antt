-- Words read as instructions.
use Rattle.std.proofs.Common.{◌≡◌, ◌∙◌, ℕ, ◌+◌, ◌-◌, ◌*◌, ◌/◌, ◌%◌, ◌^◌, ◌<◌, ◌≤◌, true, List, [], ◌∷◌, ◌++◌, length, get_or, take, drop, map, bit_and, Fits, w32, ap, ap₂, sym, append_assoc, length-append, add-one, arith}
use Rattle.std.specs.List.{All, flat_map}
use Rattle.std.proofs.lemmas.Grind.{flat_map-append}
use Rattle.std.proofs.lemmas.List.{take-append-drop, length-take-le, length-drop, take_all, map-append, append-nil}
use Rattle.std.proofs.lemmas.List.Elements.{All-push, All-tail, All-take, All-from_get_or}
use Rattle.std.proofs.lemmas.Nat.{and_mask}
use Rattle.def_spirv.specs.Table.{is_known}
use Rattle.def_spirv.specs.Words.{instruction_words}
use Rattle.sp_words.specs.Decoding.{IsInUse}
use Rattle.sp_words.specs.Reading.{Begins}
use Rattle.sp_words.specs.View.{instruction_of}
use Rattle.sp_words.specs.declared.instruction.Inst.{Inst}

-- the words are the instructions so far, and then the rest, whose first stands at this place
pub record HasRead (words : List ℕ) (insts : List Inst) (rest : List ℕ) (at : ℕ) : Type 0 where
  pub in_use : All IsInUse (map instruction_of insts)
  pub split : words ≡ flat_map instruction_words (map instruction_of insts) ++ rest
  pub place : at + length rest ≡ length words + 5

-- one more instruction is read
pub HasRead-more : (words : List ℕ) (insts : List Inst) (rest : List ℕ) (at : ℕ) (inst : Inst) →
    HasRead words insts rest at → Begins rest (instruction_of inst) →
    HasRead words (insts ++ inst ∷ []) (drop (length inst.operands + 1) rest) (at + (length inst.operands + 1))
HasRead-more words insts rest at inst h b =
    let i = instruction_of inst in
    let behind = drop (length inst.operands + 1) rest in
    let mapped : map instruction_of (insts ++ inst ∷ []) ≡ map instruction_of insts ++ i ∷ [] =
    map-append instruction_of insts (inst ∷ []) in
    let flat : flat_map instruction_words (map instruction_of insts ++ i ∷ []) ≡
    flat_map instruction_words (map instruction_of insts) ++ instruction_words i =
    flat_map-append instruction_words (map instruction_of insts) (i ∷ [])
    ∙ ap (λ s. flat_map instruction_words (map instruction_of insts) ++ s) (append-nil (instruction_words i)) in
    let long : length rest ≡ length inst.operands + 1 + length behind =
    omega (arith, ap length b.split, length-append (instruction_words i) behind) in
    record {
      in_use = rw mapped (All-push IsInUse (map instruction_of insts) i h.in_use b.in_use);
      split = h.split ∙ ap (λ s. flat_map instruction_words (map instruction_of insts) ++ s) b.split
          ∙ sym (append_assoc (flat_map instruction_words (map instruction_of insts)) (instruction_words i) behind)
          ∙ ap (λ s. s ++ behind) (sym flat)
          ∙ ap (λ s. flat_map instruction_words s ++ behind) (sym mapped);
      place = omega (arith, h.place, long);
    }

-- the first word gives back its two halves
pub first-count : (n opcode : ℕ) → opcode < 2 ^ 16 → (2 ^ 16 * (n + 1) + opcode) / 2 ^ 16 ≡ n + 1
first-count n opcode h = omega arith

pub first-opcode : (n opcode : ℕ) → opcode < 2 ^ 16 → (2 ^ 16 * (n + 1) + opcode) % 2 ^ 16 ≡ opcode
first-opcode n opcode h = omega arith

-- words whose first has their number and opcode begin with that instruction
pub Begins-first : (words operands : List ℕ) (count opcode : ℕ) →
    count ≡ get_or words 0 0 / 2 ^ 16 → 0 < count → count ≤ length words →
    opcode ≡ bit_and (get_or words 0 0) 65535 → is_known opcode ≡ true →
    ((i : ℕ) → Fits w32 (get_or words i 0)) → operands ≡ take (count - 1) (drop 1 words) →
    Begins words (record { opcode = opcode; operands = operands })
Begins-first [] operands count opcode c more within o known fits is = absurd (omega arith)
Begins-first (w ∷ rest) operands count opcode c more within o known fits is =
    let masked : opcode ≡ w % 2 ^ 16 = o ∙ and_mask w 16 in
    let long : length operands ≡ count - 1 = ap length is ∙ length-take-le (count - 1) rest (omega arith) in
    let whole : w ≡ 2 ^ 16 * (length operands + 1) + opcode = omega (arith, fits 0) in
    let behind : drop (length operands + 1) (w ∷ rest) ≡ drop (count - 1) rest = rw (add-one, long) in
    record {
      in_use = record {
        known = known;
        spellable = record {
          opcode = omega arith;
          count = omega (arith, fits 0);
          operands = rw is (All-take (λ n. n < 2 ^ 32) (count - 1) rest
              (All-tail (λ n. n < 2 ^ 32) w rest
              (All-from_get_or (λ n. n < 2 ^ 32) (w ∷ rest) 0 (λ i _. omega (arith, fits i)))));
        };
      };
      split = ap₂ ◌∷◌ whole
          (sym (take-append-drop (count - 1) rest) ∙ ap₂ ◌++◌ (sym is) (sym behind));
    }

-- the same, as the decoder has it
pub HasRead-next : {words : List ℕ} {insts new : List Inst} {rest : List ℕ} {at count : ℕ} {inst : Inst} →
    HasRead words insts rest at → Begins rest (instruction_of inst) → new ≡ insts ++ inst ∷ [] →
    count ≡ length inst.operands →
    HasRead words new (take (length rest - (count + 1)) (drop (count + 1) rest)) (at + (count + 1))
HasRead-next {words = words} {insts = insts} {rest = rest} {at = at} {count = count} {inst = inst} h b new counted =
    let whole : take (length rest - (count + 1)) (drop (count + 1) rest) ≡ drop (count + 1) rest =
    take_all (length rest - (count + 1)) (drop (count + 1) rest)
    (omega (arith, length-drop (count + 1) rest)) in
    rw (new, whole, counted) (HasRead-more words insts rest at inst h b)
