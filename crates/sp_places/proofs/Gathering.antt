-- The ids of an instruction that have a role, a kind of operand at a time.
use Rattle.std.proofs.Common.{◌≡◌, ◌∙◌, ℕ, ◌+◌, ◌/◌, ◌≤◌, ◌==◌, Bool, true, false, cond, not, if◌then◌else◌, List, [], ◌∷◌, ◌++◌, length, map, take, drop, get_or, is_some, refl, ap, sym, nat_eq, Option, Some, None, subst, arith}
use Rattle.std.specs.List.{flat_map, take_while}
use Rattle.std.proofs.lemmas.List.{append-nil}
use Rattle.std.specs.Option.{option_map}
use Rattle.def_spirv.specs.Operands.{Part, Word, operands_by, operands_of, text_before, words_of, words_where}
use Rattle.def_spirv.specs.Table.{Role}
use Rattle.def_spirv.specs.Words.{Instruction, text_words, word_bytes}
use Rattle.sp_places.specs.Gather.{Gathers, wanted_ids, wanted_in}
use Rattle.sp_places.specs.declared.operands.Wanted.{Wanted}
use Rattle.sp_words.specs.View.{kind_of, role_of}
use Rattle.sp_words.specs.declared.table.Kind.{Kind}
use Rattle.sp_words.specs.declared.table.Kind.TheVariants as kind
use Rattle.sp_words.specs.declared.table.Role as code
use lib.Pointwise.{pointwise}

pub rest-wanted : (test : Role → Bool) (role : Role) (words : List ℕ) → test role ≡ true →
    flat_map (words_where test) (map (Word role) words) ≡ words
rest-wanted test role [] e = refl
rest-wanted test role (w ∷ words) e =
    ap (λ b. cond b (w ∷ []) [] ++ flat_map (words_where test) (map (Word role) words)) e
    ∙ ap (λ ws. w ∷ ws) (rest-wanted test role words e)

pub rest-unwanted : (test : Role → Bool) (role : Role) (words : List ℕ) → test role ≡ false →
    flat_map (words_where test) (map (Word role) words) ≡ []
rest-unwanted test role [] e = refl
rest-unwanted test role (w ∷ words) e =
    ap (λ b. cond b (w ∷ []) [] ++ flat_map (words_where test) (map (Word role) words)) e
    ∙ rest-unwanted test role words e

map-choice : {X Y : Type 0} (f : X → Y) (b : Bool) (x : X) → cond b (Some (f x)) None ≡ option_map f (cond b (Some x) None)
map-choice f true x = refl
map-choice f false x = refl

-- the words behind a string
pub behind-text : (words bytes : List ℕ) → bytes ≡ take_while (λ b. not (b == 0)) (word_bytes words) →
    (if pointwise nat_eq (take (length bytes / 4 + 1) words) (text_words bytes) then Some (drop (length bytes / 4 + 1) words) else None)
    ≡ option_map (λ found. found.1) (text_before words)
behind-text words bytes is =
    let count = λ (s : List ℕ). length s / 4 + 1 in
    ap (λ s. if pointwise nat_eq (take (count s) words) (text_words s) then Some (drop (count s) words) else None) is
    ∙ (let s = take_while (λ b. not (b == 0)) (word_bytes words) in
    map-choice (λ (found : List ℕ × List ℕ). found.1) (pointwise nat_eq (take (count s) words) (text_words s)) (s, drop (count s) words))

found-some : {A : Type 0} (f : A → List ℕ) (o : Option A) (ids : List ℕ) → Some ids ≡ option_map f o →
    elim o as (λ _. List ℕ) [ None ↦ [] | Some a ↦ f a ] ≡ ids
found-some f None ids e = cc
found-some f (Some a) ids e = cc

found-none : {A : Type 0} (f : A → List ℕ) (o : Option A) → None ≡ option_map f o →
    elim o as (λ _. List ℕ) [ None ↦ [] | Some a ↦ f a ] ≡ []
found-none f None e = refl
found-none f (Some a) e = cc

-- the wanted ids, where there are operands and where there are none
pub wanted-some : (wanted : Wanted) (i : Instruction) (ids : List ℕ) → Some ids ≡ wanted_ids wanted (operands_of i) →
    ids ≡ words_of (wanted_in wanted) i
wanted-some wanted i ids e =
    sym (found-some (λ (ps : List Part). flat_map (words_where (wanted_in wanted)) ps) (operands_of i) ids e)

pub wanted-none : (wanted : Wanted) (i : Instruction) → None ≡ wanted_ids wanted (operands_of i) → [] ≡ words_of (wanted_in wanted) i
wanted-none wanted i e =
    sym (found-none (λ (ps : List Part). flat_map (words_where (wanted_in wanted)) ps) (operands_of i) e)

fits-mapped : {X Y : Type 0} (f : X → Y) (o : Option X) → is_some (option_map f o) ≡ is_some o
fits-mapped f None = refl
fits-mapped f (Some x) = refl

-- there are wanted ids, maybe none, where there are operands
pub fits-wanted : (wanted : Wanted) (i : Instruction) → is_some (wanted_ids wanted (operands_of i)) ≡ is_some (operands_of i)
fits-wanted wanted i = fits-mapped (λ (ps : List Part). flat_map (words_where (wanted_in wanted)) ps) (operands_of i)

-- the rest of the words, where their role is wanted and where it is not
pub rest-kept : (wanted : Wanted) (kinds : List Kind) (d : Kind) (role : code.Role) (words old new : List ℕ) →
    1 ≤ length kinds → get_or kinds 0 d ≡ kind.Rest role → wanted_in wanted (role_of role) ≡ true → new ≡ old ++ words →
    Gathers (wanted_ids wanted (operands_by (map kind_of kinds) words)) old new true
rest-kept wanted [] d role words old new h e t is = absurd (omega arith)
rest-kept wanted (k ∷ ks) d role words old new h e t is =
    subst (λ (x : Kind). Gathers (wanted_ids wanted (operands_by (kind_of x ∷ map kind_of ks) words)) old new true) (sym e)
    (refl, is ∙ ap (λ s. old ++ s) (sym (rest-wanted (wanted_in wanted) (role_of role) words t)))

pub rest-passed : (wanted : Wanted) (kinds : List Kind) (d : Kind) (role : code.Role) (words old : List ℕ) →
    1 ≤ length kinds → get_or kinds 0 d ≡ kind.Rest role → wanted_in wanted (role_of role) ≡ false →
    Gathers (wanted_ids wanted (operands_by (map kind_of kinds) words)) old old true
rest-passed wanted [] d role words old h e t = absurd (omega arith)
rest-passed wanted (k ∷ ks) d role words old h e t =
    subst (λ (x : Kind). Gathers (wanted_ids wanted (operands_by (kind_of x ∷ map kind_of ks) words)) old old true) (sym e)
    (refl, sym (ap (λ s. old ++ s) (rest-unwanted (wanted_in wanted) (role_of role) words t) ∙ append-nil old))
