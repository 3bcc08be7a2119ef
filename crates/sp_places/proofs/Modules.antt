-- What stands at a place of a module, by its words.
use Rattle.std.proofs.Common.{◌≡◌, ◌∙◌, ℕ, zero, suc, ◌+◌, ◌-◌, ◌<◌, ◌≤◌, ◌==◌, Bool, true, false, cond, not, if◌then◌else◌, List, [], ◌∷◌, ◌++◌, length, map, get_or, min, refl, ap, sym, arith, ⊎_elim, add-one, add-zero, add-suc, length-append}
use Rattle.std.proofs.lemmas.Grind.{common_steps}
use Rattle.std.proofs.lemmas.Bool.{cases_lt}
use Rattle.std.proofs.lemmas.Bool.Decides.{nat_tests}
use Rattle.std.proofs.lemmas.List.{get_or-map, get_or_past, get_or-append_right, get_or_append_left}
use Rattle.std.proofs.Math.ListN.{length-map}
use Rattle.def_spirv.specs.Words.{Instruction, Module}
use Rattle.def_valid.specs.Places.{first_of, instruction_at, last_before, no_instruction, opcode_at, size}
use Rattle.sp_places.specs.Last.{lasts}
use Rattle.std.specs.List.{position, position_or_len}
use Rattle.std.specs.Option.{unwrap_or}
use Rattle.std.proofs.lemmas.List.Sums.{prefix_len-le-length}
use Rattle.sp_words.specs.View.{instruction_of, module_of}
use Rattle.sp_words.specs.declared.instruction.Inst.{Inst}
use Rattle.sp_words.specs.declared.instruction.Words.{Words}

-- how many instructions words have
pub size_lem : (w : Words) → length w.insts ≡ size (module_of w)
unfolding size
size_lem w = sym (length-map w.insts instruction_of)

-- the instruction at a place
pub instruction-found : (w : Words) (k : ℕ) (x : Inst) → k < length w.insts → x ≡ get_or w.insts k x →
    instruction_of x ≡ instruction_at (module_of w) k
unfolding instruction_at
instruction-found w k x h is = ap instruction_of is ∙ sym (get_or-map instruction_of w.insts k x no_instruction h)

-- what stands past the last
pub instruction-past : (m : Module) (k : ℕ) → size m ≤ k → instruction_at m k ≡ no_instruction
unfolding instruction_at size
instruction-past m k h = get_or_past m.instructions k no_instruction h

pub opcode-past : (m : Module) (k : ℕ) → size m ≤ k → opcode_at m k ≡ 0
unfolding opcode_at
opcode-past m k h = ap (λ (i : Instruction). i.opcode) (instruction-past m k h)

pub opcode-found : (w : Words) (k : ℕ) (x : Inst) → k < length w.insts → x ≡ get_or w.insts k x → opcode_at (module_of w) k ≡ x.op
unfolding opcode_at
opcode-found w k x h is = sym (ap (λ (i : Instruction). i.opcode) (instruction-found w k x h is))

-- one place more
pub last-more : (opcode : ℕ) (m : Module) (k : ℕ) →
    last_before opcode m (suc k) ≡ (if opcode_at m k == opcode then suc k else last_before opcode m k)
unfolding last_before
last-more opcode m k = refl

pub last-none : (opcode : ℕ) (m : Module) → last_before opcode m 0 ≡ 0
unfolding last_before
last-none opcode m = refl

missed : (opcode a b : ℕ) → 0 < opcode → (if 0 == opcode then a else b) ≡ b
missed zero a b h = absurd (omega arith)
missed (suc n) a b h = grind (arith, nat_tests)

-- past the end nothing is added
pub last-past : (opcode : ℕ) (m : Module) (d : ℕ) → 0 < opcode → last_before opcode m (size m + d) ≡ last_before opcode m (size m)
last-past opcode m zero h = ap (last_before opcode m) (add-zero (size m))
last-past opcode m (suc d) h =
    let k = size m + d in
    let e : opcode_at m k ≡ 0 = opcode-past m k (omega arith) in
    ap (last_before opcode m) (add-suc (size m) d)
    ∙ last-more opcode m k
    ∙ ap (λ o. if o == opcode then suc k else last_before opcode m k) e
    ∙ missed opcode (suc k) (last_before opcode m k) h
    ∙ last-past opcode m d h

-- the table has each place
pub length-lasts : (opcode : ℕ) (m : Module) (n : ℕ) → length (lasts opcode m n) ≡ n + 1
length-lasts opcode m zero = refl
length-lasts opcode m (suc n) =
    length-append (lasts opcode m n) (last_before opcode m (suc n) ∷ []) ∙ ap (λ k. k + 1) (length-lasts opcode m n) ∙ omega arith

zero_gap : (n : ℕ) → suc n - suc n ≡ 0
zero_gap n = omega arith

pub lasts-at : (opcode : ℕ) (m : Module) (n k : ℕ) → k ≤ n → get_or (lasts opcode m n) k 0 ≡ last_before opcode m k
lasts-at opcode m zero k h = let e : k ≡ 0 = omega arith in rw e refl
lasts-at opcode m (suc n) k h =
    ⊎_elim
    (λ (low : k < suc n). let in_range : k < length (lasts opcode m n) = rw (length-lasts opcode m n) (omega arith) in
    get_or_append_left (lasts opcode m n) (last_before opcode m (suc n) ∷ []) 0 k in_range ∙ lasts-at opcode m n k (omega arith))
    (λ (high : suc n ≤ k). let e : k ≡ suc n = omega arith in
    let l : length (lasts opcode m n) ≡ suc n = length-lasts opcode m n ∙ omega arith in
    rw e (get_or-append_right (lasts opcode m n) (last_before opcode m (suc n) ∷ []) (suc n) (suc n) 0 l (omega arith)
    ∙ ap (λ i. get_or (last_before opcode m (suc n) ∷ []) i 0) (zero_gap n)))
    (cases_lt k (suc n))

-- an entry of the table, by a clamped place
pub lasts-clamped : (opcode : ℕ) (m : Module) (table : List ℕ) (k : ℕ) → 0 < opcode → table ≡ lasts opcode m (size m) →
    get_or table (min k (length table - 1)) 0 ≡ last_before opcode m k
lasts-clamped opcode m table k h is =
    let n = size m in
    let l : length table - 1 ≡ size m = ap (λ t. length t - 1) is ∙ ap (λ a. a - 1) (length-lasts opcode m n) ∙ omega arith in
    rw (l, is)
    (⊎_elim
    (λ (low : k < n). let e : min k n ≡ k = omega arith in rw e (lasts-at opcode m n k (omega arith)))
    (λ (high : n ≤ k). let e : min k n ≡ n = omega arith in
    let g : k ≡ n + (k - n) = omega arith in
    rw e (lasts-at opcode m n n (omega arith) ∙ sym (last-past opcode m (k - n) h) ∙ ap (last_before opcode m) (sym g)))
    (cases_lt k n))

-- one place more, by the instruction that stands there
pub last-step : (w : Words) (opcode k : ℕ) (x : Inst) (last next : ℕ) → k < length w.insts → x ≡ get_or w.insts k x →
    last ≡ last_before opcode (module_of w) k → next ≡ (if x.op == opcode then k + 1 else last) →
    next ≡ last_before opcode (module_of w) (suc k)
last-step w opcode k x last next h is before step =
    let m = module_of w in
    let o : opcode_at m k ≡ x.op = opcode-found w k x h is in
    step
    ∙ ap (λ l. if x.op == opcode then k + 1 else l) before
    ∙ ap (λ n. if x.op == opcode then n else last_before opcode m k) (add-one k)
    ∙ ap (λ v. if v == opcode then suc k else last_before opcode m k) (sym o)
    ∙ sym (last-more opcode m k)

-- the entries of one more place
pub lasts-more : (opcode : ℕ) (m : Module) (k : ℕ) (table new : List ℕ) (last : ℕ) →
    table ≡ lasts opcode m k → new ≡ table ++ last ∷ [] → last ≡ last_before opcode m (suc k) → new ≡ lasts opcode m (suc k)
lasts-more opcode m k table new last is more here = cc

-- what a function begins or a block, past the end nothing does
pub last-behind : (opcode : ℕ) (m : Module) (k : ℕ) → 0 < opcode → size m ≤ k → last_before opcode m k ≡ last_before opcode m (k + 1)
last-behind opcode m k h past =
    let e : opcode_at m k ≡ 0 = opcode-past m k past in
    rw (add-one k)
    (sym (last-more opcode m k
    ∙ ap (λ o. if o == opcode then suc k else last_before opcode m k) e
    ∙ missed opcode (suc k) (last_before opcode m k) h))

-- the first place, or the length
pub first_or_length : {X : Type 0} (p : X → Bool) (xs : List X) → unwrap_or (position p xs) (length xs) ≡ position_or_len p xs
first_or_length p xs =
    let le = prefix_len-le-length (λ x. cond (p x) false true) xs in grind (arith, nat_tests, common_steps)

pub position_or_len-map : {X Y : Type 0} (f : X → Y) (p : Y → Bool) (xs : List X) → position_or_len p (map f xs) ≡ position_or_len (λ x. p (f x)) xs
position_or_len-map f p [] = refl
position_or_len-map f p (x ∷ xs) = ap (λ n. cond (not (p (f x))) (1 + n) 0) (position_or_len-map f p xs)

-- where an opcode stands first
pub first-opcode : (w : Words) (opcode : ℕ) (insts : List Inst) (found : ℕ) → insts ≡ w.insts →
    found ≡ unwrap_or (position (λ (i : Inst). i.op == opcode) insts) (length insts) → found ≡ first_of (module_of w) opcode
unfolding first_of
first-opcode w opcode insts found same is =
    is ∙ first_or_length (λ (i : Inst). i.op == opcode) insts
    ∙ ap (position_or_len (λ (i : Inst). i.op == opcode)) same
    ∙ sym (position_or_len-map instruction_of (λ (i : Instruction). i.opcode == opcode) w.insts)
