-- The first limit on the way to a place is where a tree is refused.
use Rattle.std.proofs.Common.{◌≡◌, ◌⊎◌, inl, inr, ⊎_elim, ℕ, zero, suc, ◌+◌, ◌<◌, ◌≤◌, Bool, true, false, List, [], ◌∷◌, ◌++◌, length, take, drop, refl, sym, ap, subst, ◌∙◌, arith}
use Rattle.std.specs.Prelude.{Option, Some, None, is_none, nat_lt}
use Rattle.std.specs.List.{list_all}
use Rattle.std.proofs.lemmas.Bool.Decides.{nat_tests}
use Rattle.def_token.specs.Lexical.{Token}
use Rattle.def_tree.specs.Fault.{Spot, first_spot, spot_of}
use Rattle.def_tree.specs.Limits.{Long, Entry, led_by, at_most_long}
use Rattle.def_reading.specs.Cursor.{Told, Cursor, At, told_at, noted, passed, long_of, before, before_by, earlier, earlier_by, told_by}

abbrev pub spot_with : ℕ → ℕ → Spot
spot_with at code = record { at = at; code = code }

abbrev pub spot_told : Told → Spot
spot_told told = spot_with told.at told.code

place_parts : (p q : Cursor) → p ≡ q → (at at' : ℕ) (limit limit' : Option Told) (ts ts' : List Token) → p ≡ At at limit ts → q ≡ At at' limit' ts' → (at ≡ at') × (limit ≡ limit') × (ts ≡ ts')
place_parts p q same at at' limit limit' ts ts' h k = (cc, cc, cc)

pub same_place : {at at' : ℕ} {limit limit' : Option Told} {ts ts' : List Token} → At at limit ts ≡ At at' limit' ts' → (at ≡ at') × (limit ≡ limit') × (ts ≡ ts')
same_place {at = at} {at' = at'} {limit = limit} {limit' = limit'} {ts = ts} {ts' = ts'} h = place_parts (At at limit ts) (At at' limit' ts') h at at' limit limit' ts ts' refl refl

-- a limit that is told stays so
pub told_stays : (es : List Entry) (at : ℕ) (told : Told) (ts : List Token) {at' : ℕ} {limit' : Option Told} {ts' : List Token} → passed es (At at (Some told) ts) ≡ At at' limit' ts' → limit' ≡ Some told
told_stays [] at told ts h = sym (same_place h).1
told_stays (e ∷ es) at told [] h = told_stays es at told [] h
told_stays (None ∷ es) at told (t ∷ ts) h = told_stays es (suc at) told ts h
told_stays (Some l ∷ es) at told (t ∷ ts) h = told_stays es (suc at) told ts h

some_none : {A : Type 0} (a : A) → None ≡ Some a → ⊥
some_none a h = cc

pub passed_at : (es : List Entry) (at : ℕ) (limit : Option Told) (ts : List Token) {at' : ℕ} {limit' : Option Told} {ts' : List Token} → length es ≤ length ts
    → passed es (At at limit ts) ≡ At at' limit' ts' → at' ≡ at + length es
passed_at [] at limit ts h is = sym (same_place is).0 ∙ omega arith
passed_at (e ∷ es) at limit [] h is = absurd (omega (arith, h))
passed_at (e ∷ es) at limit (t ∷ ts) h is = passed_at es (suc at) (noted limit e at t) ts (omega (arith, h)) is ∙ omega arith

-- where no limit is told, none ends at a token
pub all_none : (es : List Entry) (at : ℕ) (ts : List Token) {at' : ℕ} {ts' : List Token} → length es ≤ length ts → passed es (At at None ts) ≡ At at' None ts' → list_all is_none es ≡ true
all_none [] at ts h is = refl
all_none (e ∷ es) at [] h is = absurd (omega (arith, h))
all_none (None ∷ es) at (t ∷ ts) h is = all_none es (suc at) ts (omega (arith, h)) is
all_none (Some l ∷ es) at (t ∷ ts) h is = absurd (some_none _ (told_stays es (suc at) _ ts is))

abbrev limited : ℕ → List Entry → List Entry
limited g es = take g es ++ led_by (Some Long) (drop g es)

limited_none : (g : ℕ) → limited g [] ≡ []
limited_none zero = refl
limited_none (suc g) = refl

pub limited_short : (g : ℕ) (es : List Entry) → length es ≤ g → limited g es ≡ es
limited_short g [] h = limited_none g
limited_short zero (e ∷ es) h = absurd (omega (arith, h))
limited_short (suc g) (e ∷ es) h = ap (λ es. e ∷ es) (limited_short g es (omega (arith, h)))

no_entries : (from many : ℕ) → first_spot from many [] ≡ spot_with (from + many) 110
no_entries from zero = ap (λ n. spot_with n 110) (omega arith)
no_entries from (suc many) = no_entries (suc from) many ∙ ap (λ n. spot_with n 110) (omega arith)

-- no limit
pub spot_plain : (from many g : ℕ) (es : List Entry) (ts : List Token) {at' : ℕ} {ts' : List Token} → many ≤ length ts → (many ≤ g) ⊎ (length es ≤ g)
    → passed (take many es) (At from None ts) ≡ At at' None ts' → first_spot from many (limited g es) ≡ spot_with (from + many) 110
spot_plain from zero g es ts few short is = ap (λ n. spot_with n 110) (omega arith)
spot_plain from (suc many) g [] ts few short is = ap (first_spot from (suc many)) (limited_none g) ∙ no_entries from (suc many)
spot_plain from (suc many) g (e ∷ es) [] few short is = absurd (omega (arith, few))
spot_plain from (suc many) zero (e ∷ es) (t ∷ ts) few (inl h) is = absurd (omega (arith, h))
spot_plain from (suc many) zero (e ∷ es) (t ∷ ts) few (inr h) is = absurd (omega (arith, h))
spot_plain from (suc many) (suc g) (None ∷ es) (t ∷ ts) few short is =
    spot_plain (suc from) many g es ts (omega (arith, few)) (⊎_elim (λ h. inl (omega (arith, h))) (λ h. inr (omega (arith, h))) short) is ∙ ap (λ n. spot_with n 110) (omega arith)
spot_plain from (suc many) (suc g) (Some l ∷ es) (t ∷ ts) few short is = absurd (some_none _ (told_stays (take many es) (suc from) _ ts is))

some_same : {A : Type 0} (a b : A) → Some a ≡ Some b → a ≡ b
some_same a b h = cc

-- a limit that is told on the way stands on the way
pub told_later : (es : List Entry) (at : ℕ) (ts : List Token) (told : Told) {at' : ℕ} {ts' : List Token} → passed es (At at None ts) ≡ At at' (Some told) ts' → at ≤ told.at
told_later [] at ts told is = absurd (some_none told (same_place is).1)
told_later (e ∷ es) at [] told is = told_later es at [] told is
told_later (None ∷ es) at (t ∷ ts) told is = omega (arith, told_later es (suc at) ts told is)
told_later (Some l ∷ es) at (t ∷ ts) told is = omega (arith, ap (λ (x : Told). x.at) (some_same told _ (told_stays es (suc at) _ ts is)))

-- a limit of nesting that ends at no later token than the one behind the longest expression
pub spot_deep : (from many g : ℕ) (es : List Entry) (ts : List Token) (told : Told) {at' : ℕ} {ts' : List Token} → many ≤ length ts → told.at ≤ from + g
    → passed (take many es) (At from None ts) ≡ At at' (Some told) ts' → first_spot from many (limited g es) ≡ spot_told told
spot_deep from zero g es ts told few early is = absurd (some_none told (same_place is).1)
spot_deep from (suc many) g [] ts told few early is = absurd (some_none told (same_place is).1)
spot_deep from (suc many) g (e ∷ es) [] told few early is = absurd (omega (arith, few))
spot_deep from (suc many) (suc g) (None ∷ es) (t ∷ ts) told few early is = spot_deep (suc from) many g es ts told (omega (arith, few)) (omega (arith, early)) is
spot_deep from (suc many) (suc g) (Some l ∷ es) (t ∷ ts) told few early is = ap spot_told (sym (some_same told _ (told_stays (take many es) (suc from) _ ts is)))
spot_deep from (suc many) zero (None ∷ es) (t ∷ ts) told few early is = absurd (omega (arith, early, told_later (take many es) (suc from) ts told is))
spot_deep from (suc many) zero (Some l ∷ es) (t ∷ ts) told few early is = ap spot_told (sym (some_same told _ (told_stays (take many es) (suc from) _ ts is)))

-- the limit is not told before a token
abbrev pub NotBefore : ℕ → Option Told → Type 0
NotBefore at None = Unit {0}
NotBefore at (Some told) = at < told.at

late_told : (at : ℕ) (limit : Option Told) (told : Told) → limit ≡ Some told → NotBefore at limit → at < told.at
late_told at limit told is late = subst (NotBefore at) is late

-- too long
pub spot_long : (from many g : ℕ) (es : List Entry) (ts : List Token) {at' : ℕ} {limit' : Option Told} {ts' : List Token} → many ≤ length ts → g < many → g < length es → NotBefore (from + g) limit'
    → passed (take many es) (At from None ts) ≡ At at' limit' ts' → first_spot from many (limited g es) ≡ spot_with (from + g) 112
spot_long from zero g es ts few low long late is = absurd (omega (arith, low))
spot_long from (suc many) g [] ts few low long late is = absurd (omega (arith, long))
spot_long from (suc many) g (e ∷ es) [] few low long late is = absurd (omega (arith, few))
spot_long from (suc many) zero (None ∷ es) (t ∷ ts) few low long late is = ap (λ n. spot_with n 112) (omega arith)
spot_long from (suc many) zero (Some l ∷ es) (t ∷ ts) few low long late is =
    absurd (omega (arith, late_told (from + zero) _ _ (told_stays (take many es) (suc from) _ ts is) late))
spot_long from (suc many) (suc g) (None ∷ es) (t ∷ ts) {limit' = limit'} few low long late is =
    spot_long (suc from) many g es ts (omega (arith, few)) (omega (arith, low)) (omega (arith, long)) (subst (λ n. NotBefore n limit') (omega arith) late) is ∙ ap (λ n. spot_with n 112) (omega arith)
spot_long from (suc many) (suc g) (Some l ∷ es) (t ∷ ts) {limit' = limit'} few low long late is =
    absurd (omega (arith, late_told (from + suc g) limit' _ (told_stays (take many es) (suc from) _ ts is) late))

-- a limit that is told on the way is told of a token there
pub told_within : (es : List Entry) (at : ℕ) (ts : List Token) (told : Told) {at' : ℕ} {ts' : List Token} → passed es (At at None ts) ≡ At at' (Some told) ts' → (told.at < at + length es) × (told.at < at + length ts)
told_within [] at ts told is = absurd (some_none told (same_place is).1)
told_within (e ∷ es) at [] told is = let more = told_within es at [] told is in (omega (arith, more.0), more.1)
told_within (None ∷ es) at (t ∷ ts) told is = let more = told_within es (suc at) ts told is in (omega (arith, more.0), omega (arith, more.1))
told_within (Some l ∷ es) at (t ∷ ts) told is =
    let here : told.at ≡ at = ap (λ (x : Told). x.at) (some_same told _ (told_stays es (suc at) _ ts is)) in (omega (arith, here), omega (arith, here))

-- the 1,025th token, if there is one
pub data LongView (tokens : List Token) : Option Told → Type 0 where
  is_short : length tokens ≤ 1024 → LongView tokens None
  is_long : (token : Token) → 1024 < length tokens → LongView tokens (Some (record { at = 1024; token = token; code = 112 }))

pub data DropView (g at : ℕ) (ts : List Token) : Option Told → Type 0 where
  drops_all : length ts ≤ g → DropView g at ts None
  drops_to : (token : Token) → g < length ts → DropView g at ts (Some (record { at = at; token = token; code = 112 }))

drop_more : (g at : ℕ) (t : Token) (ts : List Token) (told : Option Told) → DropView g at ts told → DropView (suc g) at (t ∷ ts) told
drop_more g at t ts None (drops_all h) = drops_all (omega (arith, h))
drop_more g at t ts (Some told) (drops_to token h) = drops_to token (omega (arith, h))

pub drop_view : (g at : ℕ) (ts : List Token) → DropView g at ts (told_at 112 at (drop g ts))
drop_view zero at [] = drops_all (omega arith)
drop_view zero at (t ∷ ts) = drops_to t (omega arith)
drop_view (suc g) at [] = drops_all (omega arith)
drop_view (suc g) at (t ∷ ts) = drop_more g at t ts (told_at 112 at (drop g ts)) (drop_view g at ts)

long_by : (tokens : List Token) (told : Option Told) → DropView 1024 1024 tokens told → LongView tokens told
long_by tokens None (drops_all h) = is_short h
long_by tokens (Some told) (drops_to token h) = is_long token h

pub long_view : (tokens : List Token) → LongView tokens (long_of tokens)
long_view tokens = long_by tokens (long_of tokens) (drop_view 1024 1024 tokens)

pub take_few : (k : ℕ) (es : List Entry) → (length (take k es) ≤ k) × (length (take k es) ≤ length es)
take_few zero es = (omega arith, omega arith)
take_few (suc k) [] = (omega arith, omega arith)
take_few (suc k) (e ∷ es) = let more = take_few k es in (omega (arith, more.0), omega (arith, more.1))

-- where a tree is refused that has the first so many tokens
module _ (many least : ℕ) (es : List Entry) (tokens : List Token) (t : Token) (ts : List Token) (few : many ≤ length tokens) (low : least ≤ length es) (lower : least ≤ many) (tight : (many ≤ least) ⊎ (length es ≤ least)) where
  within_least : (told : Told) {at' : ℕ} {ts' : List Token} → passed (take many es) (At 0 None tokens) ≡ At at' (Some told) ts' → told.at < least
  within_least told is =
      let inside = told_within (take many es) 0 tokens told is in
      let takes = take_few many es in
      ⊎_elim (λ h. omega (arith, h, inside.0, takes.0)) (λ h. omega (arith, h, inside.0, takes.1)) tight

  fits : least ≤ 1024 → (many ≤ 1024) ⊎ (length es ≤ 1024)
  fits h = ⊎_elim (λ k. inl (omega (arith, h, k))) (λ k. inr (omega (arith, h, k))) tight

  plain_spot : (told : Told) {at' : ℕ} {ts' : List Token} → least ≤ 1024 → passed (take many es) (At 0 None tokens) ≡ At at' None ts' → told_by None many (t ∷ ts) ≡ Some told → spot_of many (at_most_long es) ≡ spot_told told
  plain_spot told h is k = spot_plain 0 many 1024 es tokens few (fits h) is ∙ ap (λ n. spot_with n 110) (omega arith) ∙ ap spot_told (some_same _ told k)

  deep_spot : (deep told : Told) {at' : ℕ} {ts' : List Token} → deep.at ≤ 1024 → passed (take many es) (At 0 None tokens) ≡ At at' (Some deep) ts' → Some deep ≡ Some told → spot_of many (at_most_long es) ≡ spot_told told
  deep_spot deep told h is k = spot_deep 0 many 1024 es tokens deep few (omega (arith, h)) is ∙ ap spot_told (some_same deep told k)

  long_spot : (token : Token) (told : Told) (limit : Option Told) {at' : ℕ} {ts' : List Token} → 1024 < least → NotBefore 1024 limit → passed (take many es) (At 0 None tokens) ≡ At at' limit ts'
      → Some (record { at = 1024; token = token; code = 112 }) ≡ Some told → spot_of many (at_most_long es) ≡ spot_told told
  long_spot token told limit h late is k =
      spot_long 0 many 1024 es tokens few (omega (arith, h, lower)) (omega (arith, h, low)) (subst (λ n. NotBefore n limit) (omega arith) late) is
      ∙ ap (λ n. spot_with n 112) (omega arith) ∙ ap spot_told (some_same _ told k)

  earlier_spot : (b : Bool) (token : Token) (deep told : Told) {at' : ℕ} {ts' : List Token} → nat_lt 1024 deep.at ≡ b → 1024 < least → passed (take many es) (At 0 None tokens) ≡ At at' (Some deep) ts'
      → told_by (earlier_by b deep (record { at = 1024; token = token; code = 112 })) many (t ∷ ts) ≡ Some told → spot_of many (at_most_long es) ≡ spot_told told
  earlier_spot true token deep told b h is k = let late : 1024 < deep.at = grind (arith, nat_tests, b) in long_spot token told (Some deep) h late is k
  earlier_spot false token deep told b h is k = let early : deep.at ≤ 1024 = grind (arith, nat_tests, b) in deep_spot deep told early is k

  long_by_spot : (b : Bool) (token : Token) (limit : Option Told) (told : Told) {at' : ℕ} {ts' : List Token} → nat_lt 1024 least ≡ b → passed (take many es) (At 0 None tokens) ≡ At at' limit ts'
      → told_by (earlier limit (before_by b (record { at = 1024; token = token; code = 112 }))) many (t ∷ ts) ≡ Some told → spot_of many (at_most_long es) ≡ spot_told told
  long_by_spot true token None told b is k = let h : 1024 < least = grind (arith, nat_tests, b) in long_spot token told None h tt is k
  long_by_spot true token (Some deep) told b is k = let h : 1024 < least = grind (arith, nat_tests, b) in earlier_spot (nat_lt 1024 deep.at) token deep told refl h is k
  long_by_spot false token None told b is k = let h : least ≤ 1024 = grind (arith, nat_tests, b) in plain_spot told h is k
  long_by_spot false token (Some deep) told b is k =
      let h : least ≤ 1024 = grind (arith, nat_tests, b) in deep_spot deep told (omega (arith, h, within_least deep is)) is k

  spot_by_view : (long : Option Told) (limit : Option Told) (told : Told) {at' : ℕ} {ts' : List Token} → LongView tokens long → passed (take many es) (At 0 None tokens) ≡ At at' limit ts'
      → told_by (earlier limit (before least long)) many (t ∷ ts) ≡ Some told → spot_of many (at_most_long es) ≡ spot_told told
  spot_by_view None None told (is_short h) is k = plain_spot told (omega (arith, h, few, lower)) is k
  spot_by_view None (Some deep) told (is_short h) is k = deep_spot deep told (omega (arith, h, few, lower, within_least deep is)) is k
  spot_by_view (Some long) limit told (is_long token h) is k = long_by_spot (nat_lt 1024 least) token limit told refl is k

  pub spot_is : (limit : Option Told) (told : Told) {at' : ℕ} {ts' : List Token} → passed (take many es) (At 0 None tokens) ≡ At at' limit ts'
      → told_by (earlier limit (before least (long_of tokens))) many (t ∷ ts) ≡ Some told → spot_of many (at_most_long es) ≡ spot_told told
  spot_is limit told is k = spot_by_view (long_of tokens) limit told (long_view tokens) is k
