-- How a search of scopes goes on behind some of them.
use Rattle.std.proofs.Common.{◌≡◌, ◌∙◌, refl, sym, ap, subst, ℕ, suc, ◌+◌, ◌<◌, ◌≤◌, length, get_or, drop, List, [], ◌∷◌, ◌++◌, map, Option, Some, None, add-one}
use Rattle.std.specs.Prelude.{Result}
use Rattle.std.proofs.Math.Seq.{drop-cons}
use Rattle.std.proofs.lemmas.List.{drop_all, map-append}
use Rattle.def_token.specs.Lexical.{Token}
use Rattle.def_module.specs.Scopes.{Scope}
use Rattle.def_module.specs.Twice.{first_some, second_name}
use Rattle.sl_scopes.specs.Names.{declared_in}
use Rattle.sl_scopes.specs.Search.{Ends, EndsEarly, twice_in}
use Rattle.sl_scopes.specs.declared.declared.Declared.{Declared}
use Rattle.sl_scopes.specs.declared.early.Early.{Early}
use Rattle.sl_scopes.specs.declared.early.Early.TheVariants.{Twice, NoMemory}

-- the first that there is in two lists, where the first list has none
some_both : (xs ys : List (Option Token)) → first_some xs ≡ None → first_some (xs ++ ys) ≡ first_some ys
some_both [] ys h = refl
some_both (None ∷ xs) ys h = some_both xs ys h
some_both (Some x ∷ xs) ys h = absurd (cc)

-- the first that there is in two lists, where the first list has it
some_early : (xs ys : List (Option Token)) (token : Token) → first_some xs ≡ Some token → first_some (xs ++ ys) ≡ Some token
some_early [] ys token h = absurd (cc)
some_early (None ∷ xs) ys token h = some_early xs ys token h
some_early (Some x ∷ xs) ys token h = h

-- the first that there is in a list of one
some_one : (o : Option Token) → first_some (o ∷ []) ≡ o
some_one None = refl
some_one (Some x) = refl

-- nothing clashes in no scopes
pub twice_none : twice_in [] ≡ None
unfolding twice_in
twice_none = refl

-- what is told of one scope
pub twice_one : (scope : Scope) → twice_in (scope ∷ []) ≡ second_name scope
unfolding twice_in
twice_one scope = some_one (second_name scope)

-- where nothing clashes in some scopes, what is told of more is told of the others
pub twice_both : (xs ys : List Scope) → twice_in xs ≡ None → twice_in (xs ++ ys) ≡ twice_in ys
unfolding twice_in
twice_both xs ys h = ap first_some (map-append second_name xs ys) ∙ some_both (map second_name xs) (map second_name ys) h

-- what is told of some scopes is told of more
twice_early : (xs ys : List Scope) (token : Token) → twice_in xs ≡ Some token → twice_in (xs ++ ys) ≡ Some token
unfolding twice_in
twice_early xs ys token h = ap first_some (map-append second_name xs ys) ∙ some_early (map second_name xs) (map second_name ys) token h

-- a search that ends in some scopes ends so in more
pub ends_early : (source : List ℕ) (xs ys : List Scope) (early : Early) → EndsEarly source (twice_in xs) early → EndsEarly source (twice_in (xs ++ ys)) early
ends_early source xs ys (Twice token) h = twice_early xs ys _ h
ends_early source xs ys NoMemory h = tt

-- the same where the scopes begin with one
pub ends_at_first : (source : List ℕ) (scope : Scope) (ys : List Scope) (early : Early) → EndsEarly source (second_name scope) early → EndsEarly source (twice_in (scope ∷ ys)) early
ends_at_first source scope ys early h =
    ends_early source (scope ∷ []) ys early (subst (λ name. EndsEarly source name early) (sym (twice_one scope)) h)

-- a search behind some scopes ends as in the others
pub ends_both : (source : List ℕ) (xs ys : List Scope) (result : Result (Unit {0}) Early) → twice_in xs ≡ None → Ends source (twice_in ys) result → Ends source (twice_in (xs ++ ys)) result
ends_both source xs ys result none h = subst (λ name. Ends source name result) (sym (twice_both xs ys none)) h

-- the same where one scope stands before the others
pub ends_behind : (source : List ℕ) (scope : Scope) (ys : List Scope) (result : Result (Unit {0}) Early) → second_name scope ≡ None → Ends source (twice_in ys) result → Ends source (twice_in (scope ∷ ys)) result
ends_behind source scope ys result none h = ends_both source (scope ∷ []) ys result (twice_one scope ∙ none) h

-- the same where the last scope has these names
pub ends_with : (source : List ℕ) (xs : List Scope) (scope : Scope) (names : List Declared) (result : Result (Unit {0}) Early)
    → twice_in xs ≡ None → map (declared_in source) names ≡ scope → Ends source (second_name (map (declared_in source) names)) result
    → Ends source (twice_in (xs ++ scope ∷ [])) result
ends_with source xs scope names result none same h =
    ends_both source xs (scope ∷ []) result none
    (subst (λ name. Ends source name result) (ap second_name same ∙ sym (twice_one scope)) h)

-- a search of one scope
pub ends_one : (source : List ℕ) (scope : Scope) (result : Result (Unit {0}) Early) → Ends source (second_name scope) result → Ends source (twice_in (scope ∷ [])) result
ends_one source scope result h = subst (λ name. Ends source name result) (sym (twice_one scope)) h

-- The scopes of a list stand one behind another, element by element.
module _ {T : Type 0} (all : List T → List Scope) where
  -- nothing clashes in those of so many elements
  pub record AreSearched (xs : List T) (i : ℕ) : Type 0 where
    pub rest : twice_in (all xs) ≡ twice_in (all (drop i xs))

  module _ (of : T → List Scope) (step : (x : T) (xs : List T) → all (x ∷ xs) ≡ of x ++ all xs) where
    -- the scopes of an element stand before those of the elements behind it
    split : (xs : List T) (i : ℕ) (item : T) → item ≡ get_or xs i item → i < length xs → all (drop i xs) ≡ of item ++ all (drop (i + 1) xs)
    split xs i item is below =
        ap all (drop-cons xs i item below) ∙ step (get_or xs i item) (drop (suc i) xs)
        ∙ ap (λ x. of x ++ all (drop (suc i) xs)) (sym is)
        ∙ ap (λ n. of item ++ all (drop n xs)) (sym (add-one i))

    -- behind one element more
    pub searched_more : (xs : List T) (i : ℕ) (item : T) → item ≡ get_or xs i item → i < length xs
        → AreSearched xs i → twice_in (of item) ≡ None → AreSearched xs (i + 1)
    searched_more xs i item is below before none =
        record { rest = before.rest ∙ ap twice_in (split xs i item is below) ∙ twice_both (of item) (all (drop (i + 1) xs)) none }

    -- a search that ends in an element
    pub searched_early : (source : List ℕ) (xs : List T) (i : ℕ) (item : T) (early : Early) → item ≡ get_or xs i item → i < length xs
        → AreSearched xs i → EndsEarly source (twice_in (of item)) early → EndsEarly source (twice_in (all xs)) early
    searched_early source xs i item early is below before ends =
        subst (λ name. EndsEarly source name early) (sym (before.rest ∙ ap twice_in (split xs i item is below)))
        (ends_early source (of item) (all (drop (i + 1) xs)) early ends)

  -- before the first element
  pub searched_none : (xs : List T) → AreSearched xs 0
  searched_none xs = record { rest = refl }

  -- behind the last element
  pub searched_all : (xs : List T) (i : ℕ) → all [] ≡ [] → length xs ≤ i → AreSearched xs i → twice_in (all xs) ≡ None
  searched_all xs i none past before =
      before.rest ∙ ap (λ ys. twice_in (all ys)) (drop_all i xs past) ∙ ap twice_in none ∙ twice_none
