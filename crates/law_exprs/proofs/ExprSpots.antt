-- Where a tree of other tokens with the same front is refused, by what the machine was told.
use Rattle.std.proofs.Common.{◌≡◌, ◌⊎◌, inl, inr, ⊎_elim, ℕ, zero, suc, ◌≤◌, Bool, true, false, List, [], ◌∷◌, ◌++◌, length, take, drop, refl, sym, ap, subst, ◌∙◌, arith}
use Rattle.std.specs.Prelude.{Option, Some, None, nat_lt}
use Rattle.std.proofs.lemmas.Bool.Decides.{nat_tests}
use Rattle.def_token.specs.Lexical.{Token}
use Rattle.def_tree.specs.ExprTree.{ExprTree}
use Rattle.def_tree.specs.Fault.{spot_of}
use Rattle.def_tree.specs.Limits.{Nesting, Entry, at_most_long, expr_entries}
use Rattle.def_tree.specs.Part.{IsExprPart}
use Rattle.law_tree.proofs.Covered.{expr_covered}
use Rattle.def_reading.specs.Cursor.{Told, Cursor, At, noted, passed, long_of, before, before_by, earlier, earlier_by, told_by, FarthestFailure}
use Rattle.def_reading.specs.Machine.{Config, Step, On, Ends, step}
use Rattle.law_machine.proofs.MachineOutcome.{started}
use Rattle.law_types.proofs.AheadComplete.{passed-append}
use Rattle.law_types.proofs.AheadFaults.{Within, no_limit, a_limit, within_noted, Grows, same_limit, new_limit, grows_noted, grows_more}
use Rattle.law_types.proofs.LimitSpots.{spot_told, same_place, passed_at, LongView, is_short, is_long, long_view, spot_is, take_few}
use Rattle.law_machine.proofs.MachineComplete.{Leads, here, through, expr_comes}
use Rattle.law_machine.proofs.MachineGrows.{Finishes, finished, goes_on}
use Rattle.law_machine.proofs.MachineRun.{ends_step, step_holds}
use Rattle.law_machine.proofs.MachineSound.{HoldsAt, SoundStep}
use Rattle.law_machine.proofs.MachineWays.{LeastOf, within_more}

-- the one limit on the way to a place
pub cut_same : (many : ℕ) (this other lf : Option Told) → Within many this → Grows many this lf → Within many other → Grows many other lf → this ≡ other
cut_same many this other lf w same_limit v same_limit = refl
cut_same many (Some told) other (Some told') (a_limit same h) same_limit v (new_limit told'' none k) = absurd (omega (arith, h, k))
cut_same many this (Some told) lf w (new_limit told' none k) (a_limit same h) same_limit = absurd (omega (arith, h, k))
cut_same many this other lf w (new_limit told none k) v (new_limit told' none' k') = none ∙ sym none'

pub passed_within : (es : List Entry) (at : ℕ) (limit : Option Told) (ts : List Token) {at' : ℕ} {limit' : Option Told} {ts' : List Token} → Within at limit → passed es (At at limit ts) ≡ At at' limit' ts' → Within at' limit'
passed_within [] at limit ts {limit' = limit'} w is = let same = same_place is in subst (λ n. Within n limit') same.0 (subst (Within at) same.1 w)
passed_within (e ∷ es) at limit [] w is = passed_within es at limit [] w is
passed_within (e ∷ es) at limit (t ∷ ts) w is = passed_within es (suc at) (noted limit e at t) ts (within_noted at limit e t w) is

pub passed_grows : (es : List Entry) (at : ℕ) (limit : Option Told) (ts : List Token) {at' : ℕ} {limit' : Option Told} {ts' : List Token} → passed es (At at limit ts) ≡ At at' limit' ts' → Grows at limit limit'
passed_grows [] at limit ts is = subst (Grows at limit) (same_place is).1 same_limit
passed_grows (e ∷ es) at limit [] is = passed_grows es at limit [] is
passed_grows (e ∷ es) at limit (t ∷ ts) is = grows_more at (suc at) limit (noted limit e at t) _ (omega arith) (grows_noted at limit e t) (passed_grows es (suc at) (noted limit e at t) ts is)

-- each place has its parts
abbrev pub at_of : Cursor → ℕ
at_of (At at limit ts) = at

abbrev pub limit_of : Cursor → Option Told
limit_of (At at limit ts) = limit

abbrev pub left_of : Cursor → List Token
left_of (At at limit ts) = ts

pub place_is : (place : Cursor) → place ≡ At (at_of place) (limit_of place) (left_of place)
place_is (At at limit ts) = refl

pub take_drop : (k : ℕ) (es : List Entry) → take k es ++ drop k es ≡ es
take_drop zero es = refl
take_drop (suc k) [] = refl
take_drop (suc k) (e ∷ es) = ap (λ es. e ∷ es) (take_drop k es)

pub take_all : (k : ℕ) (es : List Entry) → length es ≤ k → take k es ≡ es
take_all zero [] h = refl
take_all zero (e ∷ es) h = absurd (omega (arith, h))
take_all (suc k) [] h = refl
take_all (suc k) (e ∷ es) h = ap (λ es. e ∷ es) (take_all k es (omega (arith, h)))

pub take_some : (k : ℕ) (es : List Entry) → k ≤ length es → length (take k es) ≡ k
take_some zero es h = refl
take_some (suc k) [] h = absurd (omega (arith, h))
take_some (suc k) (e ∷ es) h = ap suc (take_some k es (omega (arith, h)))

-- where too many tokens are told, in tokens with the same front
data SameLong : Option Told → Option Told → Type 0 where
  no_long : SameLong None None
  one_long : (t u : Token) → SameLong (Some (record { at = 1024; token = t; code = 112 })) (Some (record { at = 1024; token = u; code = 112 }))

same_long_by : (b : Bool) (t u : Token) → SameLong (before_by b (record { at = 1024; token = t; code = 112 })) (before_by b (record { at = 1024; token = u; code = 112 }))
same_long_by true t u = one_long t u
same_long_by false t u = no_long

no_before : (least : ℕ) (t : Token) → least ≤ 1024 → before_by (nat_lt 1024 least) (record { at = 1024; token = t; code = 112 }) ≡ None
no_before least t h = let below : nat_lt 1024 least ≡ false = grind (arith, nat_tests, h) in ap (λ b. before_by b (record { at = 1024; token = t; code = 112 })) below

same_long : (tokens others : List Token) (least : ℕ) (long long' : Option Told) → LongView tokens long → LongView others long' → least ≤ length tokens → least ≤ length others → SameLong (before least long) (before least long')
same_long tokens others least None None (is_short h) (is_short k) few low = no_long
same_long tokens others least None (Some told) (is_short h) (is_long u k) few low = subst (SameLong None) (sym (no_before least u (omega (arith, few, h)))) no_long
same_long tokens others least (Some told) None (is_long t h) (is_short k) few low = subst (λ o. SameLong o None) (sym (no_before least t (omega (arith, low, k)))) no_long
same_long tokens others least (Some told) (Some told') (is_long t h) (is_long u k) few low = same_long_by (nat_lt 1024 least) t u

-- what is told there is told at the same spot
record SameTold (o : Option Told) (told : Told) : Type 0 where
  other : Told
  is : o ≡ Some other
  spot : spot_told other ≡ spot_told told

some_told : (this other : Told) → Some this ≡ Some other → this ≡ other
some_told this other h = cc

same_by : (b : Bool) (deep told : Told) (t u : Token) (many : ℕ) (x y : Token) (xs ys : List Token) → told_by (earlier_by b deep (record { at = 1024; token = t; code = 112 })) many (x ∷ xs) ≡ Some told
    → SameTold (told_by (earlier_by b deep (record { at = 1024; token = u; code = 112 })) many (y ∷ ys)) told
same_by true deep told t u many x y xs ys h = record { other = record { at = 1024; token = u; code = 112 }; is = refl; spot = ap spot_told (some_told _ told h) }
same_by false deep told t u many x y xs ys h = record { other = deep; is = refl; spot = ap spot_told (some_told deep told h) }

same_told : (limit long long' : Option Told) (told : Told) (many : ℕ) (x y : Token) (xs ys : List Token) → SameLong long long' → told_by (earlier limit long) many (x ∷ xs) ≡ Some told → SameTold (told_by (earlier limit long') many (y ∷ ys)) told
same_told None long long' told many x y xs ys no_long h = record { other = record { at = many; token = y; code = 110 }; is = refl; spot = ap spot_told (some_told _ told h) }
same_told (Some deep) long long' told many x y xs ys no_long h = record { other = deep; is = refl; spot = ap spot_told (some_told deep told h) }
same_told None long long' told many x y xs ys (one_long t u) h = record { other = record { at = 1024; token = u; code = 112 }; is = refl; spot = ap spot_told (some_told _ told h) }
same_told (Some deep) long long' told many x y xs ys (one_long t u) h = same_by (nat_lt 1024 deep.at) deep told t u many x y xs ys h

-- where a tree is refused
pub other_spot : (around : Nesting) (front more : List Token) (tokens : List Token) (e : ExprTree) (n : ℕ) (lf : Option Told) (rest : List Token) → IsExprPart (front ++ more) e rest
    → passed (expr_entries around e) (At 0 None (front ++ more)) ≡ At n lf rest → length front ≤ length (front ++ more) → length front ≤ length tokens
    → (limit : Option Told) (least : ℕ) (t : Token) (ts : List Token) (told : Told) → told_by (earlier limit (before least (long_of tokens))) (length front) (t ∷ ts) ≡ Some told
    → Grows (length front) limit lf → Within (length front) limit → LeastOf n (length front) least → spot_of (length front) (at_most_long (expr_entries around e)) ≡ spot_told told
other_spot around front more tokens e n lf rest part passes few few' limit least t ts told told_is g w least_of =
    let many = length front in
    let es = expr_entries around e in
    let covered = expr_covered around part.tree in
    let n_is : n ≡ length es = passed_at es 0 None (front ++ more) (omega (arith, covered)) passes ∙ omega arith in
    let place = passed (take many es) (At 0 None (front ++ more)) in
    let takes = take_few many es in
    let at_is : at_of place ≡ length (take many es) = passed_at (take many es) 0 None (front ++ more) (omega (arith, takes.0, few)) (place_is place) ∙ omega arith in
    let within : Within many (limit_of place) = within_more (at_of place) many (limit_of place) (omega (arith, at_is, takes.0)) (passed_within (take many es) 0 None (front ++ more) no_limit (place_is place)) in
    let drops : passed (drop many es) (At (at_of place) (limit_of place) (left_of place)) ≡ At n lf rest =
    ap (passed (drop many es)) (sym (place_is place)) ∙ sym (passed-append (take many es) (drop many es) (At 0 None (front ++ more))) ∙ ap (λ es. passed es (At 0 None (front ++ more))) (take_drop many es) ∙ passes in
    let grown : Grows many (limit_of place) lf =
    ⊎_elim (λ h. subst (λ k. Grows k (limit_of place) lf) (at_is ∙ take_some many es (omega (arith, h.0, n_is))) (passed_grows (drop many es) (at_of place) (limit_of place) (left_of place) drops))
    (λ h. subst (Grows many (limit_of place)) (same_place (sym (place_is place) ∙ ap (λ es. passed es (At 0 None (front ++ more))) (take_all many es (omega (arith, h.0, n_is))) ∙ passes)).1 same_limit) least_of in
    let same : limit_of place ≡ limit = cut_same many (limit_of place) limit lf within grown w g in
    let low : least ≤ length es = ⊎_elim (λ h. omega (arith, h.0, h.1, n_is)) (λ h. omega (arith, h.1, n_is)) least_of in
    let lower : least ≤ many = ⊎_elim (λ h. omega (arith, h.1)) (λ h. omega (arith, h.0, h.1)) least_of in
    let tight : (many ≤ least) ⊎ (length es ≤ least) = ⊎_elim (λ h. inl (omega (arith, h.1))) (λ h. inr (omega (arith, h.1, n_is))) least_of in
    let longs = same_long tokens (front ++ more) least (long_of tokens) (long_of (front ++ more)) (long_view tokens) (long_view (front ++ more)) (omega (arith, lower, few')) (omega (arith, lower, few)) in
    let told' = same_told limit (before least (long_of tokens)) (before least (long_of (front ++ more))) told many t t ts ts longs told_is in
    spot_is many least es (front ++ more) t ts few low lower tight (limit_of place) told'.other (place_is place)
    (ap (λ l. told_by (earlier l (before least (long_of (front ++ more)))) many (t ∷ ts)) same ∙ told'.is) ∙ told'.spot

-- trees by the machine
pub leads_finish : {around : Nesting} {long : Option Told} {c d : Config} {e : ExprTree} {n : ℕ} {lf : Option Told} {rest : List Token} → Leads around long c d → step around long d ≡ Ends e (At n lf rest) → Finishes around long c e n lf rest
leads_finish here s = finished s
leads_finish (through other d s p) k = goes_on other d s (leads_finish p k)

pub finishes_sound : {around : Nesting} {long : Option Told} {c : Config} {e : ExprTree} {n : ℕ} {lf : Option Told} {rest : List Token} (tokens : List Token) → Finishes around long c e n lf rest → HoldsAt tokens c.mode c.frames c.place → IsExprPart tokens e rest
finishes_sound {around = around} {long = long} {c = c} tokens (finished s) h = subst (SoundStep tokens) s (step_holds tokens around long c.mode c.frames c.place h)
finishes_sound {around = around} {long = long} {c = c} tokens (goes_on other d s f) h = finishes_sound tokens f (subst (SoundStep tokens) s (step_holds tokens around long c.mode c.frames c.place h))

-- a tree and its end, by the machine
pub record PartBy (around : Nesting) (long : Option Told) (tokens : List Token) (e : ExprTree) (rest : List Token) : Type 0 where
  pub n : ℕ
  pub lf : Option Told
  pub finishes : Finishes around long (started tokens) e n lf rest
  pub passes : passed (expr_entries around e) (At 0 None tokens) ≡ At n lf rest

pub part_by : (around : Nesting) (long : Option Told) {tokens rest : List Token} {e : ExprTree} → IsExprPart tokens e rest → PartBy around long tokens e rest
part_by around long {rest = rest} {e = e} p =
    let c = expr_comes around long p.tree [] (λ l h value. refl) 0 None in
    record { n = c.at'; lf = c.limit'; finishes = leads_finish c.leads (ends_step around long c.value e c.frames' c.at' c.limit' rest c.wholes p.ended); passes = c.passes }

ends_one : (e e' : ExprTree) (p q : Cursor) (s : Step) → s ≡ Ends e p → s ≡ Ends e' q → p ≡ q
ends_one e e' p q s h k = cc

ends_on : (e : ExprTree) (p : Cursor) (o : Option FarthestFailure) (d : Config) (s : Step) → s ≡ Ends e p → s ≡ On o d → ⊥
ends_on e p o d s h k = cc

on_one : (o o' : Option FarthestFailure) (d d' : Config) (s : Step) → s ≡ On o d → s ≡ On o' d' → d ≡ d'
on_one o o' d d' s h k = cc

pub finishes_same : {around : Nesting} {long : Option Told} {c : Config} {e e' : ExprTree} {n n' : ℕ} {lf lf' : Option Told} {rest rest' : List Token} → Finishes around long c e n lf rest → Finishes around long c e' n' lf' rest' → (n ≡ n') × (lf ≡ lf')
finishes_same {around = around} {long = long} {c = c} {e = e} {e' = e'} {n = n} {n' = n'} {lf = lf} {lf' = lf'} {rest = rest} {rest' = rest'} (finished s) (finished k) =
    let same = same_place (ends_one e e' (At n lf rest) (At n' lf' rest') (step around long c) s k) in (same.0, same.1)
finishes_same {around = around} {long = long} {c = c} {e = e} {n = n} {lf = lf} {rest = rest} (finished s) (goes_on o d k f) = absurd (ends_on e (At n lf rest) o d (step around long c) s k)
finishes_same {around = around} {long = long} {c = c} {e' = e'} {n' = n'} {lf' = lf'} {rest' = rest'} (goes_on o d s f) (finished k) = absurd (ends_on e' (At n' lf' rest') o d (step around long c) k s)
finishes_same {around = around} {long = long} {c = c} {e' = e'} {n' = n'} {lf' = lf'} {rest' = rest'} (goes_on o d s f) (goes_on o' d' k g) =
    finishes_same f (subst (λ d. Finishes around long d e' n' lf' rest') (on_one o' o d' d (step around long c) k s) g)
