-- Keys that are asked one after another.
use Rattle.std.proofs.Common.{◌≡◌, ◌∙◌, ℕ, ◌+◌, ◌<◌, inl, inr, ap, subst, sym, refl, List, [], ◌∷◌, ◌++◌, map, take, length, get_or, append_assoc, append-nil, arith}
use Rattle.std.proofs.lemmas.List.{flat_map_more, map_more, take-append-drop, take_more}
use Rattle.std.specs.List.{flat_map}
use Rattle.def_query.specs.Keys.{IsIn}
use Rattle.def_query.proofs.Walks.{in_append_cases, in_append_left, in_append_right}
use Rattle.def_sources.specs.Sources.{Sources}
use Rattle.def_check.specs.Reply.{TellsAnswers}
use Rattle.def_check.specs.Roots.{behind_syntax}
use Rattle.sl_key.specs.declared.answer.Answer.{Answer}
use Rattle.sl_key.specs.declared.key.Key.{Key}
use Rattle.sl_key.specs.Order.{module_key}
use Rattle.sl_key.specs.declared.key.Kind.TheVariants.{Syntax as syntax_kind}
use Rattle.rl_all.specs.Asking.{Asks, Gains, keys_for}

-- the key of a module's syntax
abbrev pub Syntax : List ℕ → Key
Syntax name = module_key syntax_kind name

-- ---- one part after another

pub asks_none : {S : Type 0} {subject : S → Sources} {worked : S → ℕ} {keeps_to : S → List Key → Type 0} (s : S) (n : ℕ)
    → Asks subject worked keeps_to s s n n []
asks_none {keeps_to} s n = record {
  same = refl;
  steps = refl;
  within = λ others h. subst (keeps_to s) (sym (append-nil others)) h;
}

pub asks_then : {S : Type 0} {subject : S → Sources} {worked : S → ℕ} {keeps_to : S → List Key → Type 0}
    {s t u : S} {n m p : ℕ} {ks ls : List Key} → Asks subject worked keeps_to s t n m ks
    → Asks subject worked keeps_to t u m p ls → Asks subject worked keeps_to s u n p (ks ++ ls)
asks_then {keeps_to} {u} {ks} {ls} a b = record {
  same = b.same ∙ a.same;
  steps = omega (arith, a.steps, b.steps);
  within = λ others h. subst (keeps_to u) (append_assoc others ks ls) (b.within (others ++ ks) (a.within others h));
}

pub asks_wider : {S : Type 0} {subject : S → Sources} {worked : S → ℕ} {keeps_to : S → List Key → Type 0}
    {s t : S} {n m : ℕ} {ks ls : List Key}
    → ((s : S) (xs ys : List Key) → ((k : Key) → IsIn k xs → IsIn k ys) → keeps_to s xs → keeps_to s ys)
    → ((k : Key) → IsIn k ks → IsIn k ls)
    → Asks subject worked keeps_to s t n m ks → Asks subject worked keeps_to s t n m ls
asks_wider {t} {ks} {ls} wider more a = record {
  same = a.same;
  steps = a.steps;
  within = λ others h.
      wider t (others ++ ks) (others ++ ls)
      (λ k i. elim (in_append_cases k others ks i) [
        | inl old ↦ in_append_left k others ls old
        | inr new ↦ in_append_right k others ls (more k new)
      ])
      (a.within others h);
}

pub gains_none : {S : Type 0} {has : S → Key → Type 0} (s : S) → Gains has s s []
gains_none s = record { has_all = λ k i. elim i [ ]; kept = λ k h. h }

pub gains_then : {S : Type 0} {has : S → Key → Type 0} {s t u : S} {ks ls : List Key}
    → Gains has s t ks → Gains has t u ls → Gains has s u (ks ++ ls)
gains_then {ks} {ls} a b = record {
  has_all = λ k i. elim (in_append_cases k ks ls i) [
    | inl old ↦ b.kept k (a.has_all k old)
    | inr new ↦ b.has_all k new
  ];
  kept = λ k h. b.kept k (a.kept k h);
}

-- after keys are asked a function tells the answers that it told before
pub told_still : {S : Type 0} {subject : S → Sources} {worked : S → ℕ} {keeps_to : S → List Key → Type 0}
    {s t : S} {n m : ℕ} {ks : List Key} → Asks subject worked keeps_to s t n m ks → (f : Key → Answer)
    → TellsAnswers (subject s) f → TellsAnswers (subject t) f
told_still a f tells = subst (λ sources. TellsAnswers sources f) (sym a.same) tells

-- ---- lists, of which one more member is taken

module _ {X : Type 0} (xs : List X) (i : ℕ) (x : X) (below : i < length xs) (at : x ≡ get_or xs i x) where
  pub taken_more : take (i + 1) xs ≡ take i xs ++ x ∷ []
  taken_more = take_more xs i x below ∙ ap (λ y. take i xs ++ y ∷ []) (sym at)

  pub taken_in : (y : X) → IsIn y (take i xs ++ x ∷ []) → IsIn y xs
  taken_in y h =
      subst (IsIn y) (take-append-drop (i + 1) xs)
      (in_append_left y (take (i + 1) xs) _ (subst (IsIn y) (sym taken_more) h))

  pub flat_taken : {Y : Type 0} (f : X → List Y) → flat_map f (take (i + 1) xs) ≡ flat_map f (take i xs) ++ f x
  flat_taken f = ap (flat_map f) taken_more ∙ sym (flat_map_more f [] (take i xs) x)

  pub answers_more : {Y : Type 0} (f : X → Y) (old now next : List Y) (a : Y)
      → now ≡ old ++ map f (take i xs) → a ≡ f x → next ≡ now ++ a ∷ [] → next ≡ old ++ map f (take (i + 1) xs)
  answers_more f old now next a was same pushed =
      pushed
      ∙ ap (λ b. now ++ b ∷ []) same
      ∙ ap (λ ys. ys ++ f x ∷ []) was
      ∙ append_assoc old (map f (take i xs)) (f x ∷ [])
      ∙ ap (λ ys. old ++ ys) (sym (map_more f xs i x below ∙ ap (λ y. map f (take i xs) ++ f y ∷ []) (sym at)))

flat_prefix : {X Y : Type 0} (f : X → List Y) (xs ys : List X) (y : Y) → IsIn y (flat_map f xs) → IsIn y (flat_map f (xs ++ ys))
flat_prefix f [] ys y h = absurd h
flat_prefix f (x ∷ xs) ys y h =
    elim (in_append_cases y (f x) (flat_map f xs) h) [
      | inl here ↦ in_append_left y (f x) (flat_map f (xs ++ ys)) here
      | inr there ↦ in_append_right y (f x) (flat_map f (xs ++ ys)) (flat_prefix f xs ys y there)
    ]

-- what the first members give is among what all give
pub flat_front : {X Y : Type 0} (f : X → List Y) (xs : List X) (n : ℕ) (y : Y) → IsIn y (flat_map f (take n xs)) → IsIn y (flat_map f xs)
flat_front f xs n y h =
    subst (λ zs. IsIn y (flat_map f zs)) (take-append-drop n xs) (flat_prefix f (take n xs) _ y h)

-- what members of a mapped list give
pub flat_mapped : {X Y Z : Type 0} (f : Y → List Z) (g : X → Y) (xs : List X) → flat_map f (map g xs) ≡ flat_map (λ x. f (g x)) xs
flat_mapped f g [] = refl
flat_mapped f g (x ∷ xs) = ap (λ zs. f (g x) ++ zs) (flat_mapped f g xs)

-- ---- the keys of a module

pub module_keys : (sources : Sources) (f : Key → Answer) (name : List ℕ) (key : Key) (syntax : Answer) (keys : List Key)
    → key ≡ Syntax name → syntax ≡ f key → keys ≡ behind_syntax sources f name syntax
    → key ∷ keys ≡ keys_for sources f name
module_keys sources f name key syntax keys same told behind =
    ap (λ ks. key ∷ ks) (behind ∙ ap (behind_syntax sources f name) told)
    ∙ ap (λ k. k ∷ behind_syntax sources f name (f k)) same

pub module_answers : (sources : Sources) (f : Key → Answer) (name : List ℕ) (key : Key) (syntax : Answer) (keys : List Key) (answers : List Answer)
    → key ≡ Syntax name → syntax ≡ f key → keys ≡ behind_syntax sources f name syntax
    → answers ≡ syntax ∷ map f keys → answers ≡ map f (keys_for sources f name)
module_answers sources f name key syntax keys answers same told behind is =
    is ∙ ap (λ a. a ∷ map f keys) told ∙ ap (map f) (module_keys sources f name key syntax keys same told behind)

-- the key of a module's syntax is one of those of the module
pub syntax_in : (sources : Sources) (f : Key → Answer) (name : List ℕ) (key : Key) → key ≡ Syntax name
    → (k : Key) → IsIn k (key ∷ []) → IsIn k (keys_for sources f name)
syntax_in sources f name key same k (inl e) = inl (e ∙ same)
syntax_in sources f name key same k (inr i) = absurd i
