-- What a map tells of names that clash.
use Rattle.std.proofs.Common.{◌≡◌, ◌∙◌, refl, sym, ap, subst, ℕ, ◌+◌, ◌<◌, ◌≤◌, length, get_or, take, drop, Bool, true, false, cond, List, [], ◌∷◌, ◌++◌, map, Option, Some, None, add-one}
use Rattle.std.specs.Prelude.{not, ◌&&◌, ◌||◌}
use Rattle.std.specs.List.{list_any}
use Rattle.std.specs.Map.{lookup, update}
use Rattle.std.specs.Str.{bytes_eq}
use Rattle.std.specs.BTreeMap.{is_at}
use Rattle.std.specs.Cmp.Lexicographic.{slice_cmp}
use Rattle.std.specs.Ordering.{nat_cmp}
use denote.Ref.{Bor}
use Rattle.std.proofs.Math.Seq.{drop-cons}
use Rattle.std.proofs.lemmas.List.{drop_all, map-append, take_more}
use Rattle.std.proofs.lemmas.List.Folds.{list_any-append}
use Rattle.std.proofs.lemmas.Slice.Eq.{bytes_eq-Decides}
use Rattle.def_module.specs.Scopes as scopes
use Rattle.def_module.specs.Scopes.{Scope}
use Rattle.def_module.specs.Twice.{clash, second_behind, second_name}
use Rattle.sl_token.specs.View.{token_in}
use Rattle.sl_scopes.specs.Names.{declared_in}
use Rattle.sl_scopes.specs.Search.{EndsEarly}
use Rattle.sl_scopes.specs.Seen.{Seen, Notes, TellsClash, clashes_with, seen_in}
use Rattle.sl_scopes.specs.declared.declared.Declared.{Declared}
use Rattle.sl_scopes.specs.declared.early.Early.{Early}
use Rattle.sl_scopes.specs.declared.early.Early.TheVariants.{Twice, NoMemory}

-- two texts differ, in whichever order
apart : (xs ys : List ℕ) (b : Bool) → bytes_eq ys xs ≡ b → bytes_eq xs ys ≡ false → b ≡ false
apart xs ys true e h = absurd (let other : bytes_eq xs ys ≡ true = (bytes_eq-Decides xs ys).1 (sym ((bytes_eq-Decides ys xs).0 e)) in cc)
apart xs ys false e h = refl

-- texts are compared in either order
bytes_eq_sym : (xs ys : List ℕ) (b : Bool) → bytes_eq xs ys ≡ b → bytes_eq ys xs ≡ b
bytes_eq_sym xs ys true h = (bytes_eq-Decides ys xs).1 (sym ((bytes_eq-Decides xs ys).0 h))
bytes_eq_sym xs ys false h = apart xs ys (bytes_eq ys xs) refl h

-- names of one text, where the one that was there and the next do not clash
same_text : (this other : Bool) (o : Option Bool) → clashes_with this o ≡ false
    → (clashes_with other o || not (other && this)) ≡ not (other && this)
same_text this other None h = refl
same_text true true (Some true) h = refl
same_text true false (Some true) h = refl
same_text true other (Some false) h = absurd (cc)
same_text false other (Some b) h = absurd (cc)

-- a test, or none
or_false : (a : Bool) → (a || false) ≡ a
or_false true = refl
or_false false = refl

-- what a map tells behind one name more
step_by : (this other : scopes.Declared) (old : Option Bool) (here : Option Bool) (same : Bool)
    → bytes_eq this.name.text other.name.text ≡ same → (same ≡ true → old ≡ here)
    → clashes_with this.overloads here ≡ false
    → (clashes_with other.overloads old || (clash other this || false)) ≡ clashes_with other.overloads (cond same (Some this.overloads) old)
step_by this other old here true is at h =
    ap (λ b. clashes_with other.overloads old || ((b && not (other.overloads && this.overloads)) || false)) (bytes_eq_sym this.name.text other.name.text true is)
    ∙ ap (λ b. clashes_with other.overloads old || b) (or_false (not (other.overloads && this.overloads)))
    ∙ same_text this.overloads other.overloads old (ap (clashes_with this.overloads) (at refl) ∙ h)
step_by this other old here false is at h =
    ap (λ b. clashes_with other.overloads old || ((b && not (other.overloads && this.overloads)) || false)) (bytes_eq_sym this.name.text other.name.text false is)
    ∙ or_false (clashes_with other.overloads old)

-- a name that clashes with none before it is noted behind them
pub notes_more : (before : Scope) (this : scopes.Declared) (old new : Seen) → Notes before old → list_any (clash this) before ≡ false
    → ((text : List ℕ) → seen_in new text ≡ update bytes_eq (seen_in old) this.name.text (Some this.overloads) text)
    → Notes (before ++ this ∷ []) new
notes_more before this old new notes none updated other =
    list_any-append (clash other) before (this ∷ [])
    ∙ ap (λ b. b || (clash other this || false)) (notes other)
    ∙ step_by this other (seen_in old other.name.text) (seen_in old this.name.text) (bytes_eq this.name.text other.name.text) refl
    (λ same. ap (seen_in old) (sym ((bytes_eq-Decides this.name.text other.name.text).0 same)))
    (sym (notes this) ∙ none)
    ∙ ap (clashes_with other.overloads) (sym (updated other.name.text))

-- a text has what it had
kept_by : (old : Seen) (text other : List ℕ) (overloads : Bool) (same : Bool) → bytes_eq text other ≡ same → seen_in old text ≡ Some overloads
    → seen_in old other ≡ cond same (Some overloads) (seen_in old other)
kept_by old text other overloads true is has = ap (seen_in old) (sym ((bytes_eq-Decides text other).0 is)) ∙ has
kept_by old text other overloads false is has = refl

-- a map that has what is put into it stays as it is
pub kept : (old : Seen) (text : List ℕ) (overloads : Bool) → seen_in old text ≡ Some overloads
    → (other : List ℕ) → seen_in old other ≡ update bytes_eq (seen_in old) text (Some overloads) other
kept old text overloads has other = kept_by old text other overloads (bytes_eq text other) refl has

-- so many names of a scope are seen, and none of them clashes with one before it
pub record AreSeen (source : List ℕ) (names : List Declared) (i : ℕ) (seen : Seen) : Type 0 where
  pub notes : Notes (map (declared_in source) (take i names)) seen
  pub rest : second_name (map (declared_in source) names)
      ≡ second_behind (map (declared_in source) (take i names)) (map (declared_in source) (drop i names))

-- the names behind so many
behind : (source : List ℕ) (names : List Declared) (i : ℕ) (d : Declared) → i < length names
    → map (declared_in source) (drop i names) ≡ declared_in source (get_or names i d) ∷ map (declared_in source) (drop (i + 1) names)
behind source names i d below =
    ap (map (declared_in source)) (drop-cons names i d below)
    ∙ ap (λ n. declared_in source (get_or names i d) ∷ map (declared_in source) (drop n names)) (sym (add-one i))

-- the names before one more
before_more : (source : List ℕ) (names : List Declared) (i : ℕ) (d : Declared) → i < length names
    → map (declared_in source) (take (i + 1) names) ≡ map (declared_in source) (take i names) ++ declared_in source (get_or names i d) ∷ []
before_more source names i d below =
    ap (map (declared_in source)) (take_more names i d below)
    ∙ map-append (declared_in source) (take i names) (get_or names i d ∷ [])

-- behind one name more
pub seen_more : (source : List ℕ) (names : List Declared) (i : ℕ) (d : Declared) (old new : Seen) → i < length names
    → AreSeen source names i old
    → ((before : Scope) → Notes before old
    → (list_any (clash (declared_in source (get_or names i d))) before ≡ false) × Notes (before ++ declared_in source (get_or names i d) ∷ []) new)
    → AreSeen source names (i + 1) new
seen_more source names i d old new below seen enters =
    let this = get_or names i d in
    let before = map (declared_in source) (take i names) in
    let more = map (declared_in source) (drop (i + 1) names) in
    let entered = enters before seen.notes in record {
      notes = subst (λ front. Notes front new) (sym (before_more source names i d below)) entered.1;
      rest = seen.rest
          ∙ ap (second_behind before) (behind source names i d below)
          ∙ ap (λ b. cond b (Some (token_in source this.name)) (second_behind (before ++ declared_in source this ∷ []) more)) entered.0
          ∙ ap (λ front. second_behind front more) (sym (before_more source names i d below));
    }

-- a name that clashes is told
early_by : (source : List ℕ) (this : Declared) (before more : Scope) (early : Early) → TellsClash source this before early
    → EndsEarly source (second_behind before (declared_in source this ∷ more)) early
early_by source this before more (Twice token) told =
    ap (λ b. cond b (Some (token_in source this.name)) (second_behind (before ++ declared_in source this ∷ []) more)) told.1
    ∙ ap (λ t. Some (token_in source t)) (sym told.0)
early_by source this before more NoMemory told = tt

-- a search that ends at a name
pub seen_early : (source : List ℕ) (names : List Declared) (i : ℕ) (d : Declared) (old : Seen) (early : Early) → i < length names
    → AreSeen source names i old → ((before : Scope) → Notes before old → TellsClash source (get_or names i d) before early)
    → EndsEarly source (second_name (map (declared_in source) names)) early
seen_early source names i d old early below seen told =
    let before = map (declared_in source) (take i names) in
    subst (λ name. EndsEarly source name early)
    (sym (seen.rest ∙ ap (second_behind before) (behind source names i d below)))
    (early_by source (get_or names i d) before (map (declared_in source) (drop (i + 1) names)) early (told before seen.notes))

-- before the first name
pub seen_none : (source : List ℕ) (names : List Declared) (seen : Seen) → seen.entries ≡ [] → AreSeen source names 0 seen
seen_none source names seen empty = record {
  notes = λ this. ap (λ entries. clashes_with this.overloads (lookup (is_at (λ (key : Bor (List ℕ)). slice_cmp nat_cmp this.name.text key.now)) entries)) (sym empty);
  rest = refl;
}

-- behind the last name
pub seen_all : (source : List ℕ) (names : List Declared) (i : ℕ) (seen : Seen) → length names ≤ i → AreSeen source names i seen
    → second_name (map (declared_in source) names) ≡ None
seen_all source names i seen past has =
    has.rest ∙ ap (λ xs. second_behind (map (declared_in source) (take i names)) (map (declared_in source) xs)) (drop_all i names past)
