-- Whatever is asked lies under what was asked on an empty chain.
use Rattle.std.proofs.Common.{◌≡◌, inl, inr, ℕ, List, [], ◌∷◌, ◌++◌, Some, None, map, IsSome, refl, sym, ◌∙◌, ap, subst}
use Rattle.std.specs.Cmp.{IsTotalOrder}
use Rattle.std.specs.List.{flat_map}
use Rattle.std.specs.declared.cmp.Ordering.{Ordering}
use Rattle.def_query.specs.Keys.{IsIn}
use Rattle.def_query.specs.Lawful.{IsLawful}
use Rattle.def_query.specs.Meaning.{Meaning}
use Rattle.def_query.proofs.Walks.{in_append_cases}
use Rattle.def_core.specs.declared.event.Event.{Event}
use Rattle.def_core.specs.declared.event.Event.TheVariants.{Ask, Publish, Look, Abandon}
use Rattle.def_core.specs.Laws.{AskedUnder, IsUnder, keys_of, asks, asked_by, roots as roots_of}
use Rattle.def_core.specs.Legal.{MayFollow, Legal}
use Rattle.def_core.proofs.Histories.{always}
use Rattle.def_core.proofs.Lists.{append_nil, append_more}
use Rattle.def_core.proofs.RootKeys.{roots, same_roots, map_append}
use Rattle.def_core.proofs.Roots.{Rooted, rooted, under_more, asked_under}
use Rattle.def_core.proofs.WorkedOnce.{worked_once}

module _ {X Y : Type 0} (f : X → List Y) where
  flat_snoc : (xs : List X) (x : X) → flat_map f (xs ++ x ∷ []) ≡ flat_map f xs ++ f x
  flat_snoc [] x = append_nil (f x)
  flat_snoc (y ∷ xs) x = ap (λ l. f y ++ l) (flat_snoc xs x) ∙ sym (append_more (f y) (flat_map f xs) (f x))

module _ {K A : Type 0} (cmp : K → K → Ordering) (total : IsTotalOrder cmp) (r : Meaning K A)
    (lawful : IsLawful cmp r) where
  keys_snoc :
      (h : List (Event K A)) (e : Event K A)
      → keys_of cmp r (asks cmp r (h ++ e ∷ [])) ≡ keys_of cmp r (asks cmp r h) ++ keys_of cmp r (asked_by cmp r e)
  keys_snoc h e =
      ap (keys_of cmp r) (flat_snoc (asked_by cmp r) h e)
      ∙ map_append (λ (p : ℕ × K). p.1) (asks cmp r h) (asked_by cmp r e)

  one_under :
      (n : ℕ) (h : List (Event K A)) (e : Event K A) (k : K) → Rooted cmp total r lawful n h → MayFollow cmp r n h e
      → IsIn k (keys_of cmp r (asked_by cmp r e)) → IsUnder cmp r (roots cmp r n (h ++ e ∷ [])) k
  one_under n h (Ask c j) k ro m (inl same) =
      subst (IsUnder cmp r (roots cmp r n (h ++ Ask c j ∷ []))) (sym same)
      (asked_under cmp total r lawful n h (Ask c j) j ro refl m.may)
  one_under n h (Ask c j) k ro m (inr none) = absurd none
  one_under n h (Publish c a) k ro m i = absurd i
  one_under n h (Look c) k ro m i = absurd i
  one_under n h (Abandon c) k ro m i = absurd i

  all_under :
      (n : ℕ) (h : List (Event K A)) → Legal cmp r n h → (k : K) → IsIn k (keys_of cmp r (asks cmp r h))
      → IsUnder cmp r (roots cmp r n h) k
  all_under n =
      always cmp r n (λ h. (k : K) → IsIn k (keys_of cmp r (asks cmp r h)) → IsUnder cmp r (roots cmp r n h) k)
      (λ k i. absurd i)
      (λ h e legal ih m k i.
      elim (in_append_cases k (keys_of cmp r (asks cmp r h)) (keys_of cmp r (asked_by cmp r e)) (subst (IsIn k) (keys_snoc h e) i)) [
        | inl old ↦ under_more cmp total r lawful n h e k (ih k old)
        | inr new ↦ one_under n h e k (rooted cmp total r lawful n h legal) m new
      ])

  under :
      (n : ℕ) (h : List (Event K A)) → Legal cmp r n h → (k : K) → IsIn k (keys_of cmp r (asks cmp r h))
      → IsUnder cmp r (keys_of cmp r (roots_of cmp r n h)) k
  under n h legal k i = subst (λ l. IsUnder cmp r l k) (same_roots cmp r n h) (all_under n h legal k i)

  pub asked_lie_under : AskedUnder cmp r
  asked_lie_under n h legal =
      let once = worked_once cmp total r lawful n h legal in
      record {
        under = under n h legal;
        published = λ idle all k i. once.whole idle all k (under n h legal k i);
        ended = λ stays idle k i. once.whole idle (once.ended stays idle) k (under n h legal k i);
      }
