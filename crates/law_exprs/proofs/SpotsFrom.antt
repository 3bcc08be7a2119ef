-- Where an expression is refused that begins behind other tokens.
use Rattle.std.proofs.Common.{◌≡◌, ◌⊎◌, inl, inr, ⊎_elim, ℕ, ◌+◌, ◌<◌, ◌≤◌, Bool, true, false, List, ◌∷◌, ◌++◌, length, take, drop, refl, sym, ap, subst, ◌∙◌, arith}
use Rattle.std.specs.Prelude.{Option, Some, None, nat_lt}
use Rattle.std.proofs.lemmas.Bool.Decides.{nat_tests}
use Rattle.def_token.specs.Lexical.{Token}
use Rattle.def_tree.specs.ExprTree.{ExprTree}
use Rattle.def_tree.specs.Expressions.{IsExpr}
use Rattle.def_tree.specs.Fault.{first_spot}
use Rattle.def_tree.specs.Limits.{Nesting, Entry, at_most_long, expr_entries}
use Rattle.law_tree.proofs.Covered.{expr_covered}
use Rattle.def_reading.specs.Cursor.{Told, At, told_at, passed, before, before_by, earlier, earlier_by, told_by}
use Rattle.law_types.proofs.AheadComplete.{passed-append}
use Rattle.law_types.proofs.AheadFaults.{Within, no_limit, Grows, same_limit}
use Rattle.law_exprs.proofs.ExprSpots.{cut_same, passed_within, passed_grows, at_of, limit_of, left_of, place_is, take_drop, take_all, take_some}
use Rattle.law_types.proofs.LimitSpots.{spot_told, same_place, passed_at, spot_plain, spot_deep, spot_long, NotBefore, told_within, DropView, drops_all, drops_to, drop_view, take_few}
use Rattle.law_machine.proofs.MachineWays.{LeastOf, within_more}

-- what is told is one thing
some_told : (this other : Told) → Some this ≡ Some other → this ≡ other
some_told this other h = cc

-- the spot, by what is told
module _ (at many least : ℕ) (es : List Entry) (toks tokens : List Token) (x : Token) (xs : List Token) (told : Told) (few : many ≤ length toks) (few' : many ≤ length tokens) (of : LeastOf (at + length es) (at + many) least) where
  -- a limit that is told on the way stands on the way
  inside : (deep : Told) {at' : ℕ} {rest : List Token} → passed (take many es) (At at None toks) ≡ At at' (Some deep) rest → (deep.at < at + many) × (deep.at < least)
  inside deep is =
      let w = told_within (take many es) at toks deep is in
      let t = take_few many es in
      (omega (arith, w.0, t.0), ⊎_elim (λ h. omega (arith, w.0, t.0, h.1)) (λ h. omega (arith, w.0, t.1, h.1)) of)

  -- tokens that are not too many
  short : least ≤ at + 1024 → (many ≤ 1024) ⊎ (length es ≤ 1024)
  short h = ⊎_elim (λ k. inl (omega (arith, h, k.1))) (λ k. inr (omega (arith, h, k.1))) of

  -- tokens that are too many
  over : at + 1024 < least → (1024 < many) × (1024 < length es)
  over h = ⊎_elim (λ k. (omega (arith, h, k.1), omega (arith, h, k.0, k.1))) (λ k. (omega (arith, h, k.0, k.1), omega (arith, h, k.1))) of

  -- no limit
  plain_from : {at' : ℕ} {rest : List Token} → (many ≤ 1024) ⊎ (length es ≤ 1024) → passed (take many es) (At at None toks) ≡ At at' None rest → told_by None (at + many) (x ∷ xs) ≡ Some told
      → first_spot at many (at_most_long es) ≡ spot_told told
  plain_from h is k = spot_plain at many 1024 es toks few h is ∙ ap spot_told (some_told _ told k)

  -- a limit of nesting
  deep_from : (deep : Told) {at' : ℕ} {rest : List Token} → deep.at ≤ at + 1024 → passed (take many es) (At at None toks) ≡ At at' (Some deep) rest → Some deep ≡ Some told → first_spot at many (at_most_long es) ≡ spot_told told
  deep_from deep h is k = spot_deep at many 1024 es toks deep few h is ∙ ap spot_told (some_told deep told k)

  -- the limit of length
  long_from' : (t : Token) (cut : Option Told) {at' : ℕ} {rest : List Token} → at + 1024 < least → NotBefore (at + 1024) cut → passed (take many es) (At at None toks) ≡ At at' cut rest
      → Some (record { at = at + 1024; token = t; code = 112 }) ≡ Some told → first_spot at many (at_most_long es) ≡ spot_told told
  long_from' t cut h late is k = let o = over h in spot_long at many 1024 es toks few o.0 o.1 late is ∙ ap spot_told (some_told _ told k)

  -- the earlier of two limits
  earlier_from : (c : Bool) (t : Token) (deep : Told) {at' : ℕ} {rest : List Token} → nat_lt (at + 1024) deep.at ≡ c → at + 1024 < least → passed (take many es) (At at None toks) ≡ At at' (Some deep) rest
      → told_by (earlier_by c deep (record { at = at + 1024; token = t; code = 112 })) (at + many) (x ∷ xs) ≡ Some told → first_spot at many (at_most_long es) ≡ spot_told told
  earlier_from true t deep c h is k = let late : at + 1024 < deep.at = grind (arith, nat_tests, c) in long_from' t (Some deep) h late is k
  earlier_from false t deep c h is k = let early : deep.at ≤ at + 1024 = grind (arith, nat_tests, c) in deep_from deep early is k

  -- the limit of length, if so many tokens are read
  before_from : (c : Bool) (t : Token) (cut : Option Told) {at' : ℕ} {rest : List Token} → nat_lt (at + 1024) least ≡ c → passed (take many es) (At at None toks) ≡ At at' cut rest
      → told_by (earlier cut (before_by c (record { at = at + 1024; token = t; code = 112 }))) (at + many) (x ∷ xs) ≡ Some told → first_spot at many (at_most_long es) ≡ spot_told told
  before_from true t None c is k = let h : at + 1024 < least = grind (arith, nat_tests, c) in long_from' t None h tt is k
  before_from true t (Some deep) c is k = let h : at + 1024 < least = grind (arith, nat_tests, c) in earlier_from (nat_lt (at + 1024) deep.at) t deep refl h is k
  before_from false t None c is k = let h : least ≤ at + 1024 = grind (arith, nat_tests, c) in plain_from (short h) is k
  before_from false t (Some deep) c is k = let h : least ≤ at + 1024 = grind (arith, nat_tests, c) in deep_from deep (omega (arith, h, (inside deep is).1)) is k

  -- each case
  view_from : (long : Option Told) (cut : Option Told) {at' : ℕ} {rest : List Token} → DropView 1024 (at + 1024) tokens long → passed (take many es) (At at None toks) ≡ At at' cut rest
      → told_by (earlier cut (before least long)) (at + many) (x ∷ xs) ≡ Some told → first_spot at many (at_most_long es) ≡ spot_told told
  view_from None None (drops_all h) is k = plain_from (inl (omega (arith, h, few'))) is k
  view_from None (Some deep) (drops_all h) is k = deep_from deep (omega (arith, h, few', (inside deep is).0)) is k
  view_from (Some long) cut (drops_to t h) is k = before_from (nat_lt (at + 1024) least) t cut refl is k

-- where an expression begins at a place where nothing is told
pub expr_spot : (around : Nesting) (at : ℕ) (front more tokens : List Token) (e : ExprTree) (n : ℕ) (lf : Option Told) (rest : List Token) → IsExpr (front ++ more) e rest
    → passed (expr_entries around e) (At at None (front ++ more)) ≡ At n lf rest → length front ≤ length (front ++ more) → length front ≤ length tokens
    → (limit : Option Told) (least : ℕ) (t : Token) (ts : List Token) (told : Told) → told_by (earlier limit (before least (told_at 112 (at + 1024) (drop 1024 tokens)))) (at + length front) (t ∷ ts) ≡ Some told
    → Grows (at + length front) limit lf → Within (at + length front) limit → LeastOf n (at + length front) least → first_spot at (length front) (at_most_long (expr_entries around e)) ≡ spot_told told
expr_spot around at front more tokens e n lf rest part passes few few' limit least t ts told told_is g w least_of =
    let many = length front in
    let es = expr_entries around e in
    let covered = expr_covered around part in
    let n_is : n ≡ at + length es = passed_at es at None (front ++ more) (omega (arith, covered)) passes in
    let place = passed (take many es) (At at None (front ++ more)) in
    let takes = take_few many es in
    let at_is : at_of place ≡ at + length (take many es) = passed_at (take many es) at None (front ++ more) (omega (arith, takes.0, few)) (place_is place) in
    let within : Within (at + many) (limit_of place) = within_more (at_of place) (at + many) (limit_of place) (omega (arith, at_is, takes.0)) (passed_within (take many es) at None (front ++ more) no_limit (place_is place)) in
    let drops : passed (drop many es) (At (at_of place) (limit_of place) (left_of place)) ≡ At n lf rest =
    ap (passed (drop many es)) (sym (place_is place)) ∙ sym (passed-append (take many es) (drop many es) (At at None (front ++ more))) ∙ ap (λ es. passed es (At at None (front ++ more))) (take_drop many es) ∙ passes in
    let grown : Grows (at + many) (limit_of place) lf =
    ⊎_elim (λ h. subst (λ k. Grows k (limit_of place) lf) (at_is ∙ ap (λ k. at + k) (take_some many es (omega (arith, h.0, n_is)))) (passed_grows (drop many es) (at_of place) (limit_of place) (left_of place) drops))
    (λ h. subst (Grows (at + many) (limit_of place)) (same_place (sym (place_is place) ∙ ap (λ es. passed es (At at None (front ++ more))) (take_all many es (omega (arith, h.0, n_is))) ∙ passes)).1 same_limit) least_of in
    let same : limit_of place ≡ limit = cut_same (at + many) (limit_of place) limit lf within grown w g in
    view_from at many least es (front ++ more) tokens t ts told few few' (subst (λ n. LeastOf n (at + many) least) n_is least_of) (told_at 112 (at + 1024) (drop 1024 tokens)) (limit_of place) (drop_view 1024 (at + 1024) tokens) (place_is place)
    (ap (λ l. told_by (earlier l (before least (told_at 112 (at + 1024) (drop 1024 tokens)))) (at + many) (t ∷ ts)) same ∙ told_is)
