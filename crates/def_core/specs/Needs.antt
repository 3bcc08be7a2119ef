-- Who has claimed a key, what it needs now, and the cycles that current needs close.
use Rattle.std.specs.Prelude.{◌≡◌, ℕ, zero, suc, List, [], ◌∷◌, ◌++◌, length, cond, Bool, Option, Some, None, option_map, option_and_then, option_to_list}
use Rattle.std.specs.List.{list_any}
use Rattle.std.specs.Ordering.{eq_by_cmp, is_lt}
use Rattle.std.specs.declared.cmp.Ordering.{Ordering}
use Rattle.def_query.specs.Keys.{Reaches}
use Rattle.def_core.specs.State.{Caller, caller_at, claimed, last}

module _ {K : Type 0} (cmp : K → K → Ordering) where
  -- whether the key is one of the list
  abbrev pub is_in : K → List K → Bool
  is_in k xs = list_any (eq_by_cmp cmp k) xs

  -- the number of the caller whose chain has the key, where the first of the list has the number n
  abbrev pub owner_from : ℕ → List (Caller K) → K → Option ℕ
  owner_from n [] k = None
  owner_from n (c ∷ callers) k = cond (is_in k c.chain) (Some n) (owner_from (suc n) callers k)

  -- the number of the caller that has claimed the key
  abbrev pub owner : List (Caller K) → K → Option ℕ
  owner callers k = owner_from 1 callers k

  -- the first element
  abbrev pub first : List K → Option K
  first [] = None
  first (x ∷ xs) = Some x

  -- what stands directly behind the key in the list
  abbrev pub behind : List K → K → Option K
  behind [] k = None
  behind (x ∷ xs) k = cond (eq_by_cmp cmp k x) (first xs) (behind xs k)

  -- the current need of a claimed key: the next key of its chain, and of a chain's last key what
  -- its caller waits for
  abbrev pub need : List (Caller K) → K → Option K
  need [] k = None
  need (c ∷ callers) k =
      cond (is_in k c.chain) (behind (c.chain ++ option_to_list c.awaits) k) (need callers k)

  -- y is the current need of x
  abbrev pub Needs : List (Caller K) → K → K → Type 0
  Needs callers x y = need callers x ≡ Some y

  -- the keys from k on, each the current need of the one before it, up to the first that is t;
  -- there is no such path where t is not among the first n of them
  abbrev pub path : List (Caller K) → ℕ → K → K → Option (List K)
  path callers zero k t = None
  path callers (suc n) k t =
      cond (eq_by_cmp cmp k t) (Some (k ∷ []))
      (option_map (λ p. k ∷ p) (option_and_then (λ y. path callers n y t) (need callers k)))

  -- the least of x and the keys of the list
  abbrev pub least : K → List K → K
  least x [] = x
  least x (y ∷ ys) = cond (is_lt (cmp y x)) (least y ys) (least x ys)

  -- the list from the key on, and what stands before the key
  abbrev pub list_from : K → List K → List K
  list_from k [] = []
  list_from k (x ∷ xs) = cond (eq_by_cmp cmp k x) (x ∷ xs) (list_from k xs)

  abbrev pub list_before : K → List K → List K
  list_before k [] = []
  list_before k (x ∷ xs) = cond (eq_by_cmp cmp k x) [] (x ∷ list_before k xs)

  -- the keys of a cycle, begun at the least of them
  abbrev pub rotated : List K → List K
  rotated [] = []
  rotated (x ∷ xs) = list_from (least x xs) (x ∷ xs) ++ list_before (least x xs) (x ∷ xs)

  -- the cycle that would close if the last key of the caller's chain needed k: the path of current
  -- needs from k to that key, rotated. A path that meets no key twice has at most as many keys as
  -- are claimed
  abbrev pub closing : List (Caller K) → ℕ → K → Option (List K)
  closing callers c k =
      option_map rotated
      (option_and_then (λ t. path callers (length (claimed callers)) k t)
      (last (caller_at callers c).chain))

  -- following current needs from k reaches the last key of the caller's chain
  abbrev pub Closes : List (Caller K) → ℕ → K → Type 0
  Closes callers c k =
      (t : K) × (last (caller_at callers c).chain ≡ Some t) × Reaches (Needs callers) k t
