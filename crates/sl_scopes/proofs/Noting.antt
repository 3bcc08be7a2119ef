-- How names are gathered from the elements of a list.
use Rattle.std.proofs.Common.{◌≡◌, ◌∙◌, refl, sym, ap, ℕ, suc, false, ◌+◌, ◌<◌, ◌≤◌, length, get_or, drop, List, [], ◌∷◌, ◌++◌, map, append_assoc, append-nil, add-one}
use Rattle.std.proofs.Math.Seq.{drop-cons}
use Rattle.std.proofs.lemmas.List.{drop_all, map-append}
use Rattle.def_module.specs.Scopes.{Scope, single}
use Rattle.sl_token.specs.View.{token_in}
use Rattle.sl_token.specs.declared.token.Token.{Token}
use Rattle.sl_scopes.specs.Names.{Adds, declared_in}
use Rattle.sl_scopes.specs.declared.declared.Declared.{Declared}

-- one name more
pub adds_one : (scope : List ℕ → Scope) (old new : List Declared) (this : Declared) → new ≡ old ++ this ∷ []
    → ((source : List ℕ) → declared_in source this ∷ [] ≡ scope source) → Adds scope old new
adds_one scope old new this is same source =
    ap (map (declared_in source)) is ∙ map-append (declared_in source) old (this ∷ [])
    ∙ ap (λ more. map (declared_in source) old ++ more) (same source)

-- one name more, of what does not overload
pub adds_single : (name : Token) (old new : List Declared) (this : Declared) → this ≡ record { name = name; overloads = false }
    → new ≡ old ++ this ∷ [] → Adds (λ source. single (token_in source name) ∷ []) old new
adds_single name old new this same is =
    adds_one (λ source. single (token_in source name) ∷ []) old new this is (λ source. ap (λ d. declared_in source d ∷ []) same)

-- The scope of a list has the names of its elements one behind another.
module _ {T : Type 0} (all : List ℕ → List T → Scope) where
  -- the names of so many elements stand behind those that stood there
  pub record AreNoted (old : List Declared) (xs : List T) (i : ℕ) (names : List Declared) : Type 0 where
    pub rest : (source : List ℕ) → map (declared_in source) old ++ all source xs ≡ map (declared_in source) names ++ all source (drop i xs)

  -- before the first element
  pub noted_none : (old : List Declared) (xs : List T) → AreNoted old xs 0 old
  noted_none old xs = record { rest = λ source. refl }

  module _ (of : List ℕ → T → Scope) (step : (source : List ℕ) (x : T) (xs : List T) → all source (x ∷ xs) ≡ of source x ++ all source xs) where
    -- the names of an element stand before those of the elements behind it
    split : (source : List ℕ) (xs : List T) (i : ℕ) (d item : T) → item ≡ get_or xs i d → i < length xs
        → all source (drop i xs) ≡ of source item ++ all source (drop (i + 1) xs)
    split source xs i d item is below =
        ap (all source) (drop-cons xs i d below) ∙ step source (get_or xs i d) (drop (suc i) xs)
        ∙ ap (λ x. of source x ++ all source (drop (suc i) xs)) (sym is)
        ∙ ap (λ n. of source item ++ all source (drop n xs)) (sym (add-one i))

    -- behind one element more
    pub noted_more : (old : List Declared) (xs : List T) (i : ℕ) (d item : T) (names new : List Declared) → item ≡ get_or xs i d → i < length xs
        → AreNoted old xs i names → Adds (λ source. of source item) names new → AreNoted old xs (i + 1) new
    noted_more old xs i d item names new is below before adds = record {
      rest = λ source.
          before.rest source
          ∙ ap (λ more. map (declared_in source) names ++ more) (split source xs i d item is below)
          ∙ sym (append_assoc (map (declared_in source) names) (of source item) (all source (drop (i + 1) xs)))
          ∙ ap (λ front. front ++ all source (drop (i + 1) xs)) (sym (adds source));
    }

  -- behind the last element
  pub noted_all : (old : List Declared) (xs : List T) (i : ℕ) (names : List Declared) → ((source : List ℕ) → all source [] ≡ []) → length xs ≤ i
      → AreNoted old xs i names → Adds (λ source. all source xs) old names
  noted_all old xs i names none past before source =
      sym (before.rest source
      ∙ ap (λ ys. map (declared_in source) names ++ all source ys) (drop_all i xs past)
      ∙ ap (λ more. map (declared_in source) names ++ more) (none source)
      ∙ append-nil (map (declared_in source) names))
