-- What an asker has and keeps to after a call.
use Rattle.std.proofs.Common.{◌≡◌, inl, inr, List, [], ◌∷◌, ◌++◌, refl, subst}
use Rattle.std.specs.Cmp.{IsTotalOrder}
use Rattle.std.specs.declared.cmp.Ordering.{Ordering}
use Rattle.std.specs.declared.cmp.Ordering.TheVariants.{Equal}
use Rattle.def_query.specs.Keys.{IsWalk}
use Rattle.def_query.specs.Map.{IsWithin}
use Rattle.def_query.specs.Meaning.{Meaning}
use Rattle.def_query.specs.Settles.{Depends}
use Rattle.def_query.proofs.Maps.{has_or_lacks}
use Rattle.def_query.proofs.Walks.{in_append_left, in_append_right}
use Rattle.qe_rules.specs.Asker.{HasClosure, LiesWithin}
use Rattle.qe_rules.specs.Worker.{IsKnown, IsClosed, GainsWithin}

module _ {K A : Type 0} (cmp : K → K → Ordering) (total : IsTotalOrder cmp) (one_key : (x y : K) → cmp x y ≡ Equal → x ≡ y) (r : Meaning K A) where
  pub closed_has : (n : List (K × A)) (k : K) → IsClosed cmp r n → IsKnown cmp r n k → HasClosure cmp r n k
  closed_has n k closed known x (inl e) = subst (IsKnown cmp r n) e known
  closed_has n k closed known x (inr w) = go k w.0 w.1 known
    where
      go : (y : K) (zs : List K) → IsWalk (Depends cmp r) y (zs ++ x ∷ []) → IsKnown cmp r n y → IsKnown cmp r n x
      go y [] v h = closed y x h v.0
      go y (z ∷ zs) v h = go z zs v.1 (closed y z h v.0)

  pub kept_has : (m n : List (K × A)) → IsWithin cmp m n → (k : K) → HasClosure cmp r m k → HasClosure cmp r n k
  kept_has m n w k has x h = let f = has x h in (f.0, w x f.0 f.1)

  pub lies_same : (m : List (K × A)) (key : K) (keys : List K) → LiesWithin cmp r m keys → LiesWithin cmp r m (keys ++ key ∷ [])
  lies_same m key keys lies k h = let f = lies k h in (f.0, in_append_left f.0 keys (key ∷ []) f.1, f.2)

  pub lies_more : (m n : List (K × A)) (key : K) → GainsWithin cmp r key m n → (keys : List K) → LiesWithin cmp r m keys → LiesWithin cmp r n (keys ++ key ∷ [])
  lies_more m n key gains keys lies k h =
      elim (has_or_lacks cmp total one_key m k) [
        | inl old ↦ lies_same m key keys lies k old
        | inr new ↦ (key, in_append_right key keys (key ∷ []) (inl refl), gains k h new)
      ]
