-- What each instruction of a module names, one instruction more at a time.
use Rattle.std.proofs.Common.{◌≡◌, ◌∙◌, ℕ, ◌+◌, ◌<◌, ◌≤◌, List, [], ◌∷◌, ◌++◌, map, take, ap, sym}
use Rattle.std.proofs.lemmas.List.{map-append, take_more, take_all}
use Rattle.def_spirv.specs.Words.{Instruction, Module}
use Rattle.def_valid.specs.Places.{instruction_at, no_instruction, size}

-- the instruction at a place is that behind those before it
pub named-more : (f : Instruction → ℕ) (m : Module) (k name : ℕ) (old new : List ℕ) → k < size m →
    old ≡ map f (take k m.instructions) → name ≡ f (instruction_at m k) → new ≡ old ++ name ∷ [] →
    new ≡ map f (take (k + 1) m.instructions)
unfolding instruction_at size
named-more f m k name old new h before here push =
    push
    ∙ ap (λ s. s ++ name ∷ []) before
    ∙ ap (λ n. map f (take k m.instructions) ++ n ∷ []) here
    ∙ sym (map-append f (take k m.instructions) (instruction_at m k ∷ []))
    ∙ ap (map f) (sym (take_more m.instructions k no_instruction h))

-- and all of them are those before the end
pub named-all : (f : Instruction → ℕ) (m : Module) (k : ℕ) (names : List ℕ) → size m ≤ k →
    names ≡ map f (take k m.instructions) → names ≡ map f m.instructions
unfolding size
named-all f m k names h is = is ∙ ap (map f) (take_all k m.instructions h)
