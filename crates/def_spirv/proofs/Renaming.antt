-- The numbers of ids depend only on which ids are the same: lines whose ids come from two renamings that agree on that
-- get the same numbers.
use Rattle.std.proofs.Common.{◌≡◌, ℕ, ◌+◌, Bool, true, false, cond, not, nat_lt, Some, None, List, [], ◌∷◌, ◌++◌, map, filter, position, length, refl, ap, ap₂, ◌∙◌, sym}
use Rattle.std.proofs.lemmas.List.{map-append, length-map}
use Rattle.std.specs.List.{flat_map, position_or_len}
use Rattle.def_spirv.specs.Words.{text_words}
use Rattle.def_spirv.specs.Symbolic.{Operand, Id, Number, Text, Line, operand_ids, mentions, firsts, number_at, number_of, operand_words, numbered_line, numbered}

-- an operand whose id is renamed
abbrev pub rename_operand : {I J : Type 0} → (I → J) → Operand I → Operand J
rename_operand f (Id i) = Id (f i)
rename_operand f (Number n) = Number n
rename_operand f (Text bytes) = Text bytes

-- a line whose ids are renamed
abbrev pub rename_line : {I J : Type 0} → (I → J) → Line I → Line J
rename_line f line = record { opcode = line.opcode; operands = map (rename_operand f) line.operands }

module _ {I J : Type 0} (f : I → J) where
  operand_ids-rename : (operands : List (Operand I)) → flat_map operand_ids (map (rename_operand f) operands) ≡ map f (flat_map operand_ids operands)
  operand_ids-rename [] = refl
  operand_ids-rename (Id i ∷ operands) = ap (λ ids. f i ∷ ids) (operand_ids-rename operands)
  operand_ids-rename (Number n ∷ operands) = operand_ids-rename operands
  operand_ids-rename (Text bytes ∷ operands) = operand_ids-rename operands

  mentions-rename : (lines : List (Line I)) → mentions (map (rename_line f) lines) ≡ map f (mentions lines)
  mentions-rename [] = refl
  mentions-rename (line ∷ lines) =
      ap₂ ◌++◌ (operand_ids-rename line.operands) (mentions-rename lines)
      ∙ sym (map-append f (flat_map operand_ids line.operands) (mentions lines))

  map-cond : (b : Bool) (xs ys : List I) → cond b (map f xs) (map f ys) ≡ map f (cond b xs ys)
  map-cond true xs ys = refl
  map-cond false xs ys = refl

  filter-map : (p : J → Bool) (xs : List I) → filter p (map f xs) ≡ map f (filter (λ x. p (f x)) xs)
  filter-map p [] = refl
  filter-map p (x ∷ xs) =
      let kept = filter (λ y. p (f y)) xs in
      ap (λ ys. cond (p (f x)) (f x ∷ ys) ys) (filter-map p xs) ∙ map-cond (p (f x)) (x ∷ kept) kept

  firsts-map : (same : J → J → Bool) (xs : List I) → firsts same (map f xs) ≡ map f (firsts (λ x y. same (f x) (f y)) xs)
  firsts-map same [] = refl
  firsts-map same (x ∷ xs) =
      ap (λ ys. f x ∷ filter (λ y. not (same (f x) y)) ys) (firsts-map same xs)
      ∙ ap (λ ys. f x ∷ ys) (filter-map (λ y. not (same (f x) y)) (firsts (λ x y. same (f x) (f y)) xs))

  position_or_len-map : (p : J → Bool) (xs : List I) → position_or_len p (map f xs) ≡ position_or_len (λ x. p (f x)) xs
  position_or_len-map p [] = refl
  position_or_len-map p (x ∷ xs) = ap (λ n. cond (not (p (f x))) (1 + n) 0) (position_or_len-map p xs)

  position-map : (p : J → Bool) (xs : List I) → position p (map f xs) ≡ position (λ x. p (f x)) xs
  position-map p xs = ap₂ (λ n size. cond (nat_lt n size) (Some n) None) (position_or_len-map p xs) (length-map xs f)

  operand_words-rename : (number : J → ℕ) (operands : List (Operand I)) → flat_map (operand_words number) (map (rename_operand f) operands) ≡ flat_map (operand_words (λ i. number (f i))) operands
  operand_words-rename number [] = refl
  operand_words-rename number (Id i ∷ operands) = ap (λ words. number (f i) ∷ words) (operand_words-rename number operands)
  operand_words-rename number (Number n ∷ operands) = ap (λ words. n ∷ words) (operand_words-rename number operands)
  operand_words-rename number (Text bytes ∷ operands) = ap (λ words. text_words bytes ++ words) (operand_words-rename number operands)

  numbered_lines-rename : (number : J → ℕ) (lines : List (Line I)) → map (numbered_line number) (map (rename_line f) lines) ≡ map (numbered_line (λ i. number (f i))) lines
  numbered_lines-rename number [] = refl
  numbered_lines-rename number (line ∷ lines) =
      ap₂ ◌∷◌ (ap (λ words. record { opcode = line.opcode; operands = words }) (operand_words-rename number line.operands)) (numbered_lines-rename number lines)

  firsts-rename : (same : J → J → Bool) (lines : List (Line I)) → firsts same (mentions (map (rename_line f) lines)) ≡ map f (firsts (λ x y. same (f x) (f y)) (mentions lines))
  firsts-rename same lines = ap (firsts same) (mentions-rename lines) ∙ firsts-map same (mentions lines)

  number_of-map : (same : J → J → Bool) (ids : List I) → (λ i. number_of same (map f ids) (f i)) ≡ number_of (λ x y. same (f x) (f y)) ids
  number_of-map same ids = λ k i. number_at (position-map (same (f i)) ids k)

  numbered-rename : (same : J → J → Bool) (lines : List (Line I)) → numbered same (map (rename_line f) lines) ≡ numbered (λ x y. same (f x) (f y)) lines
  numbered-rename same lines =
      let ids = firsts (λ x y. same (f x) (f y)) (mentions lines) in
      let renamed = map (rename_line f) lines in
      ap (λ names. record { generator = 0; bound = length names + 1; instructions = map (numbered_line (number_of same names)) renamed }) (firsts-rename same lines)
      ∙ ap₂ (λ n instructions. record { generator = 0; bound = n + 1; instructions = instructions }) (length-map ids f) (numbered_lines-rename (number_of same (map f ids)) lines)
      ∙ ap (λ number. record { generator = 0; bound = length ids + 1; instructions = map (numbered_line number) lines }) (number_of-map same ids)

-- lines are numbered alike under two renamings that make the same ids the same
pub numbered_alike : {I J : Type 0} (same : J → J → Bool) (f g : I → J) → ((x y : I) → same (f x) (f y) ≡ same (g x) (g y)) → (lines : List (Line I)) → numbered same (map (rename_line f) lines) ≡ numbered same (map (rename_line g) lines)
numbered_alike same f g alike lines =
    numbered-rename f same lines
    ∙ ap (λ along. numbered along lines) (λ k x y. alike x y k)
    ∙ sym (numbered-rename g same lines)
