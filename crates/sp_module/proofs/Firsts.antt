-- Ids that are put into a set one after another stand there in the order of their first mentions.
use Rattle.std.proofs.Common.{◌≡◌, ◌∙◌, ℕ, ◌&&◌, ◌||◌, nat_eq, not, Bool, true, false, cond, List, [], ◌∷◌, ◌++◌, filter, refl, ap, ap₂, sym, append_assoc, ⊎_elim, subst}
use Rattle.std.specs.List.{list_any}
use Rattle.std.proofs.lemmas.List.{append-nil}
use Rattle.std.proofs.lemmas.List.Elements.{filter_agree}
use Rattle.std.proofs.lemmas.List.Folds.{list_any-append}
use Rattle.std.proofs.lemmas.Bool.{cases_eq, eq-eqb, ne_eqb}
use Rattle.indexmap.specs.IndexSet.{insert_all}
use Rattle.def_spirv.specs.Symbolic.{firsts}

twice-by : (p : ℕ → Bool) (b c : Bool) (x : ℕ) (xs ys : List ℕ) → p x ≡ c → filter p xs ≡ ys →
    filter p (cond b (x ∷ xs) xs) ≡ cond (b && c) (x ∷ ys) ys
twice-by p true true x xs ys h e = rw h (ap (λ s. x ∷ s) e)
twice-by p true false x xs ys h e = rw h e
twice-by p false c x xs ys h e = e

-- a filter of a filter
filter-twice : (p q : ℕ → Bool) (xs : List ℕ) → filter p (filter q xs) ≡ filter (λ y. q y && p y) xs
filter-twice p q [] = refl
filter-twice p q (x ∷ xs) =
    twice-by p (q x) (p x) x (filter q xs) (filter (λ y. q y && p y) xs) refl (filter-twice p q xs)

-- those that the ids lack
abbrev lacks : List ℕ → ℕ → Bool
lacks ids y = not (list_any (nat_eq y) ids)

both : (b c : Bool) → (not b && not c) ≡ not (c || b)
both true true = refl
both true false = refl
both false true = refl
both false false = refl

or-false : (b : Bool) → (b || false) ≡ b
or-false true = refl
or-false false = refl

flip : (x y : ℕ) → nat_eq x y ≡ nat_eq y x
flip x y = ⊎_elim (λ e. rw e) (λ n. ne_eqb x y n ∙ sym (ne_eqb y x (λ e. n (sym e)))) (cases_eq x y)

-- what an id that is there differs from and what the ids lack
there : (ids : List ℕ) (x y : ℕ) → list_any (nat_eq x) ids ≡ true →
    (not (nat_eq x y) && lacks ids y) ≡ lacks ids y
there ids x y h =
    ⊎_elim
    (λ e. let P : ℕ → Type 0 = λ z. list_any (nat_eq z) ids ≡ true in let in' : list_any (nat_eq y) ids ≡ true = subst P e h in rw (eq-eqb x y e, in'))
    (λ n. rw (ne_eqb x y n))
    (cases_eq x y)

-- what the ids and one more lack
lacks-more : (ids : List ℕ) (x y : ℕ) →
    (not (nat_eq x y) && lacks ids y) ≡ lacks (ids ++ x ∷ []) y
lacks-more ids x y =
    ap (λ b. not b && lacks ids y) (flip x y)
    ∙ both (nat_eq y x) (list_any (nat_eq y) ids)
    ∙ ap (λ b. not (list_any (nat_eq y) ids || b)) (sym (or-false (nat_eq y x)))
    ∙ ap not (sym (list_any-append (nat_eq y) ids (x ∷ [])))

-- one more id, in front of others
step : (ids : List ℕ) (x : ℕ) (rest : List ℕ) (b : Bool) → list_any (nat_eq x) ids ≡ b →
    cond b (ids ++ filter (lacks ids) rest) ((ids ++ x ∷ []) ++ filter (lacks (ids ++ x ∷ [])) rest)
    ≡ ids ++ filter (lacks ids) (x ∷ filter (λ y. not (nat_eq x y)) rest)
step ids x rest true h =
    let fewer = filter-twice (lacks ids) (λ y. not (nat_eq x y)) rest in
    let same = filter_agree (λ y. not (nat_eq x y) && lacks ids y) (lacks ids) (λ y. there ids x y h) rest in
    rw h (ap (λ s. ids ++ s) (sym (fewer ∙ same)))
step ids x rest false h =
    let fewer = filter-twice (lacks ids) (λ y. not (nat_eq x y)) rest in
    let same = filter_agree (λ y. not (nat_eq x y) && lacks ids y) (lacks (ids ++ x ∷ [])) (λ y. lacks-more ids x y) rest in
    rw h (append_assoc ids (x ∷ []) (filter (lacks (ids ++ x ∷ [])) rest)
    ∙ ap (λ s. ids ++ x ∷ s) (sym (fewer ∙ same)))

insert_all-cond : (b : Bool) (ids : List ℕ) (x : ℕ) (xs : List ℕ) →
    insert_all nat_eq (cond b ids (ids ++ x ∷ [])) xs
    ≡ cond b (insert_all nat_eq ids xs) (insert_all nat_eq (ids ++ x ∷ []) xs)
insert_all-cond true ids x xs = refl
insert_all-cond false ids x xs = refl

insert_all-onto : (ids xs : List ℕ) → insert_all nat_eq ids xs ≡ ids ++ filter (lacks ids) (firsts nat_eq xs)
insert_all-onto ids [] = sym (append-nil ids)
insert_all-onto ids (x ∷ xs) =
    let b = list_any (nat_eq x) ids in
    insert_all-cond b ids x xs
    ∙ ap₂ (λ s t. cond b s t) (insert_all-onto ids xs) (insert_all-onto (ids ++ x ∷ []) xs)
    ∙ step ids x (firsts nat_eq xs) b refl

filter-all : (xs : List ℕ) → filter (lacks []) xs ≡ xs
filter-all [] = refl
filter-all (x ∷ xs) = ap (λ s. x ∷ s) (filter-all xs)

-- put into an empty set, ids stand in the order of their first mentions
pub insert_all-firsts : (xs : List ℕ) → insert_all nat_eq [] xs ≡ firsts nat_eq xs
insert_all-firsts xs = insert_all-onto [] xs ∙ filter-all (firsts nat_eq xs)
