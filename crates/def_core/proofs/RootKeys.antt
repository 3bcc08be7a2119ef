-- The keys that were asked on an empty chain, without their callers.
use Rattle.std.proofs.Common.{◌≡◌, ℕ, List, [], ◌∷◌, ◌++◌, length, map, refl, sym, ◌∙◌, ap, arith}
use Rattle.std.specs.declared.cmp.Ordering.{Ordering}
use Rattle.def_query.specs.Meaning.{Meaning}
use Rattle.def_core.specs.declared.event.Event.{Event}
use Rattle.def_core.specs.declared.event.Event.TheVariants.{Ask, Publish, Look, Abandon}
use Rattle.def_core.specs.State.{State, opening, caller_at}
use Rattle.def_core.specs.Replay.{after}
use Rattle.def_core.specs.Laws.{keys_of, asked_on as who_asked_on, root_of as who_root_of, roots_from as who_roots_from, roots as who_roots}

module _ {X Y : Type 0} (f : X → Y) where
  pub map_append : (xs ys : List X) → map f (xs ++ ys) ≡ map f xs ++ map f ys
  map_append [] ys = refl
  map_append (x ∷ xs) ys = ap (λ l. f x ∷ l) (map_append xs ys)

  pub map_length : (xs : List X) → length (map f xs) ≡ length xs
  map_length [] = refl
  map_length (x ∷ xs) = let e = map_length xs in omega arith

module _ {K A : Type 0} (cmp : K → K → Ordering) (r : Meaning K A) where
  abbrev pub asked_on : List K → K → List K
  asked_on [] k = k ∷ []
  asked_on (x ∷ xs) k = []

  abbrev pub root_of : State K A → Event K A → List K
  root_of s (Ask c k) = asked_on (caller_at s.callers c).chain k
  root_of s _ = []

  abbrev pub roots_from : State K A → List (Event K A) → List K
  roots_from s [] = []
  roots_from s (e ∷ h) = root_of s e ++ roots_from (after cmp s e) h

  abbrev pub roots : ℕ → List (Event K A) → List K
  roots n h = roots_from (opening n) h

  same_on : (l : List K) (c : ℕ) (k : K) → asked_on l k ≡ keys_of cmp r (who_asked_on cmp r l c k)
  same_on [] c k = refl
  same_on (x ∷ l) c k = refl

  same_root : (s : State K A) (e : Event K A) → root_of s e ≡ keys_of cmp r (who_root_of cmp r s e)
  same_root s (Ask c k) = same_on (caller_at s.callers c).chain c k
  same_root s (Publish c a) = refl
  same_root s (Look c) = refl
  same_root s (Abandon c) = refl

  same_from : (s : State K A) (h : List (Event K A)) → roots_from s h ≡ keys_of cmp r (who_roots_from cmp r s h)
  same_from s [] = refl
  same_from s (e ∷ h) =
      ap (λ l. l ++ roots_from (after cmp s e) h) (same_root s e)
      ∙ (ap (λ l. keys_of cmp r (who_root_of cmp r s e) ++ l) (same_from (after cmp s e) h)
      ∙ sym (map_append (λ (p : ℕ × K). p.1) (who_root_of cmp r s e) (who_roots_from cmp r (after cmp s e) h)))

  pub same_roots : (n : ℕ) (h : List (Event K A)) → roots n h ≡ keys_of cmp r (who_roots cmp r n h)
  same_roots n h = same_from (opening n) h

  pub as_many : (n : ℕ) (h : List (Event K A)) → length (roots n h) ≡ length (who_roots cmp r n h)
  as_many n h = ap length (same_roots n h) ∙ map_length (λ (p : ℕ × K). p.1) (who_roots cmp r n h)
