-- Where keys stand first, one key more at a time.
use Rattle.std.proofs.Common.{◌≡◌, ◌∙◌, ℕ, ◌+◌, ◌<◌, ◌≤◌, ◌==◌, Bool, true, false, cond, ◌&&◌, is_none, Some, None, if◌then◌else◌, List, [], ◌∷◌, ◌++◌, length, take, get_or, ap, sym, arith, eqb, ltb, length-append}
use Rattle.std.proofs.lemmas.Grind.{common_steps}
use Rattle.std.proofs.lemmas.Bool.Decides.{nat_tests}
use Rattle.std.proofs.lemmas.List.{take_more, length-take-le}
use Rattle.std.proofs.lemmas.List.Folds.{position_or_len_push}
use Rattle.std.proofs.lemmas.List.Sums.{prefix_len-le-length}
use Rattle.std.specs.BTreeMap.{BTreeMap, get}
use Rattle.std.specs.List.{position, position_or_len}
use Rattle.std.specs.Ordering.{nat_cmp}
use Rattle.sp_places.specs.Index.{IsIndex}

found : (a n : ℕ) (hit : Bool) → a ≤ n →
    cond (ltb (cond (eqb a n) (n + cond hit 0 1) a) (n + 1)) (Some (cond (eqb a n) (n + cond hit 0 1) a)) None
    ≡ (if hit && is_none (cond (ltb a n) (Some a) None) then Some n else cond (ltb a n) (Some a) None)
found a n true h = grind (arith, nat_tests, common_steps)
found a n false h = grind (arith, nat_tests, common_steps)

-- one element more is the first where it passes, and none before it does
pub position-push : {X : Type 0} (p : X → Bool) (xs : List X) (x : X) →
    position p (xs ++ x ∷ []) ≡ (if p x && is_none (position p xs) then Some (length xs) else position p xs)
position-push p xs x =
    rw (position_or_len_push p xs x, length-append xs (x ∷ []))
    (found (position_or_len p xs) (length xs) (p x) (prefix_len-le-length _ xs))

-- where none passes, the first is the length
pub position-none : {X : Type 0} (p : X → Bool) (xs : List X) → position p xs ≡ None → length xs ≡ position_or_len p xs
position-none p xs none =
    let le = prefix_len-le-length (λ x. cond (p x) false true) xs in grind (arith, nat_tests, common_steps)

-- an index of one key more
pub IsIndex-more : (keys : List ℕ) (place : ℕ) (old new : BTreeMap ℕ ℕ) → place < length keys → IsIndex (take place keys) old →
    ((other : ℕ) → get nat_cmp new other ≡ (if get_or keys place 0 == other && is_none (get nat_cmp old other) then Some place else get nat_cmp old other)) →
    IsIndex (take (place + 1) keys) new
IsIndex-more keys place old new h is enters = λ key.
    let p = λ (other : ℕ). other == key in
    let before = take place keys in
    let x = get_or keys place 0 in
    let e : place ≡ length before = sym (length-take-le place keys (omega arith)) in
    rw (take_more keys place 0 h)
    (enters key
    ∙ ap (λ o. if p x && is_none o then Some place else o) (is key)
    ∙ ap (λ n. if p x && is_none (position p before) then Some n else position p before) e
    ∙ sym (position-push p before x))
