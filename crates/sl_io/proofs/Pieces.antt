-- Two steps of a source or a sink are one step.
use Rattle.std.proofs.Common.{◌≡◌, ℕ, ◌+◌, List, ◌++◌, take, drop, Option, Some, None, sym, ap, ◌∙◌, append_assoc}
use Rattle.std.proofs.Math.Seq.{take-add}
use Rattle.sl_io.specs.Source.{Gives, GivesSome}
use Rattle.sl_io.specs.Sink.{Gains}

-- what was given in two steps was given in one
pub Gives-append : (first middle last : Option (List ℕ)) (xs ys : List ℕ)
    → Gives first middle xs → Gives middle last ys → Gives first last (xs ++ ys)
Gives-append None middle last xs ys p q = tt
Gives-append (Some all) None last xs ys p q = absurd p
Gives-append (Some all) (Some rest) None xs ys p q = absurd q
Gives-append (Some all) (Some rest) (Some end) xs ys p q =
    p ∙ ap (λ r. xs ++ r) q ∙ sym (append_assoc xs ys end)

-- and so some bytes were given by both
pub GivesSome-after : (first middle last : Option (List ℕ)) (xs : List ℕ)
    → Gives first middle xs → GivesSome middle last → GivesSome first last
GivesSome-after first middle last xs p q =
    (xs ++ q.0, Gives-append first middle last xs q.0 p q.1)

-- the next bytes of a list were added behind its first ones
pub Gains-take : (first middle last : Option (List ℕ)) (bytes : List ℕ) (n k : ℕ)
    → Gains first middle (take n bytes) → Gains middle last (take k (drop n bytes))
    → Gains first last (take (n + k) bytes)
Gains-take None middle last bytes n k p q = tt
Gains-take (Some old) middle last bytes n k p q =
    let front = take n bytes in
    let next = take k (drop n bytes) in
    let joined : (old ++ front) ++ next ≡ old ++ take (n + k) bytes =
    append_assoc old front next ∙ ap (λ r. old ++ r) (sym (take-add n k bytes)) in
    (rw p at q) ∙ ap (λ r. Some r) joined
