-- Turning a cycle so that it begins at its least key.
use Rattle.std.proofs.Common.{◌≡◌, inl, inr, List, [], ◌∷◌, ◌++◌, refl, sym, ◌∙◌, ap, subst}
use Rattle.std.specs.Cmp.{IsTotalOrder}
use Rattle.std.specs.List.{AllByRecursion}
use Rattle.std.specs.Ordering.{ordering_reverse}
use Rattle.std.specs.declared.cmp.Ordering.{Ordering}
use Rattle.std.specs.declared.cmp.Ordering.TheVariants.{Less, Equal, Greater}
use Rattle.def_query.specs.Keys.{IsIn, AreDistinct}

module _ {K : Type 0} (cmp : K → K → Ordering) (total : IsTotalOrder cmp) (one_key : (x y : K) → cmp x y ≡ Equal → x ≡ y) where
  abbrev pub LessThanAll : K → List K → Type 0
  LessThanAll x xs = AllByRecursion (λ y. cmp x y ≡ Less) xs

  less_upto : (x y : K) (zs : List K) → cmp x y ≡ Less → LessThanAll y zs → LessThanAll x zs
  less_upto x y [] h a = tt
  less_upto x y (z ∷ zs) h a = (total.trans x y z h a.0, less_upto x y zs h a.1)

  pub less_append : (x : K) (ys zs : List K) → LessThanAll x ys → LessThanAll x zs → LessThanAll x (ys ++ zs)
  less_append x [] zs a b = b
  less_append x (y ∷ ys) zs a b = (a.0, less_append x ys zs a.1 b)

  -- the least of distinct keys, and what stands before and after it
  pub record LeastOf (xs : List K) : Type 0 where
    pub before : List K
    pub key : K
    pub after : List K
    pub is : xs ≡ before ++ key ∷ after
    pub less_before : LessThanAll key before
    pub less_after : LessThanAll key after

  here : (x y : K) (before after : List K) → x ≡ y → IsIn x (before ++ y ∷ after)
  here x y [] after e = inl e
  here x y (b ∷ before) after e = inr (here x y before after e)

  least_cons : (x : K) (ys : List K) (l : LeastOf ys) → ¬ IsIn x ys → (o : Ordering) → cmp x l.key ≡ o → LeastOf (x ∷ ys)
  least_cons x ys l apart Less e = record {
    before = [];
    key = x;
    after = ys;
    is = refl;
    less_before = tt;
    less_after =
        subst (LessThanAll x) (sym l.is)
        (less_append x l.before (l.key ∷ l.after) (less_upto x l.key l.before e l.less_before)
        (e, less_upto x l.key l.after e l.less_after));
  }
  least_cons x ys l apart Equal e =
      absurd (apart (subst (IsIn x) (sym l.is) (here x l.key l.before l.after (one_key x l.key e))))
  least_cons x ys l apart Greater e = record {
    before = x ∷ l.before;
    key = l.key;
    after = l.after;
    is = ap (λ w. x ∷ w) l.is;
    less_before = (total.antisymm l.key x ∙ ap ordering_reverse e, l.less_before);
    less_after = l.less_after;
  }

  pub least_of : (x : K) (xs : List K) → AreDistinct (x ∷ xs) → LeastOf (x ∷ xs)
  least_of x [] d = record { before = []; key = x; after = []; is = refl; less_before = tt; less_after = tt }
  least_of x (y ∷ ys) d =
      let l = least_of y ys d.1 in least_cons x (y ∷ ys) l d.0 (cmp x l.key) refl
