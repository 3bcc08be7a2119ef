-- Readers that come to trees: how they are put together.
use Rattle.std.proofs.Common.{◌≡◌, ℕ, zero, suc, ◌+◌, ◌<◌, ◌≤◌, Bool, true, false, List, [], ◌∷◌, ◌++◌, length, take, drop, refl, sym, ap, subst, ◌∙◌, arith}
use Rattle.std.specs.Prelude.{Option, Some, None, nat_lt}
use Rattle.std.proofs.lemmas.Bool.Decides.{nat_tests}
use Rattle.def_token.specs.Lexical.{Token}
use Rattle.def_tree.specs.Fault.{code_of}
use Rattle.def_tree.specs.Limits.{Entry, Long, plain, led_by, at_most_long, first_of}
use Rattle.def_tree.specs.Symbol.{Symbol, symbol}
use Rattle.def_reading.specs.Cursor.{Told, Cursor, At, told_at, noted, passed, before, before_by, earlier, FarthestFailure}
use Rattle.def_reading.specs.Try.{Try, Reads, Reader, try_then, try_as, refused, choice, token_then, up_to, long_from, finished}
use Rattle.law_types.proofs.AheadComplete.{passed-append}
use Rattle.law_types.proofs.LimitSpots.{same_place}

-- the first limit stands at no later token than this one
abbrev pub Noted : ℕ → Option Told → Type 0
Noted at None = Unit {0}
Noted at (Some told) = told.at ≤ at

pub noted_stays : (limit : Option Told) (entry : Entry) (at : ℕ) (token : Token) → Noted at limit → Noted at (noted limit entry at token)
noted_stays limit None at token h = h
noted_stays (Some told) (Some l) at token h = h
noted_stays None (Some l) at token h = omega arith

pub noted_later : (limit : Option Told) (at : ℕ) → Noted at limit → Noted (suc at) limit
noted_later None at h = tt
noted_later (Some told) at h = omega (arith, h)

pub passed_noted : (entries : List Entry) (at : ℕ) (limit : Option Told) (tokens : List Token) {at' : ℕ} {limit' : Option Told} {tokens' : List Token} → Noted at limit
    → passed entries (At at limit tokens) ≡ At at' limit' tokens' → Noted at' limit'
passed_noted [] at limit tokens {at' = at'} {limit' = limit'} h is =
    let same = same_place is in subst (λ n. Noted n limit') same.0 (subst (Noted at) same.1 h)
passed_noted (entry ∷ entries) at limit [] h is = passed_noted entries at limit [] h is
passed_noted (entry ∷ entries) at limit (token ∷ tokens) h is =
    passed_noted entries (suc at) (noted limit entry at token) tokens (noted_later (noted limit entry at token) at (noted_stays limit entry at token h)) is

abbrev pub NotedAt : Cursor → Type 0
NotedAt (At at limit tokens) = Noted at limit

-- what is read, and where
pub record Gets {A : Type 0} (look : Try A) (a : A) (entries : List Entry) (place : Cursor) (rest : List Token) : Type 0 where
  pub at : ℕ
  pub limit : Option Told
  pub reach : Option FarthestFailure
  pub is : look ≡ Reads a (At at limit rest) reach
  pub passes : NotedAt place → passed entries place ≡ At at limit rest

-- the reader comes to the tree, with its limits
pub record Comes {A : Type 0} (reader : Reader A) (tokens : List Token) (a : A) (entries : List Entry) (rest : List Token) : Type 0 where
  pub comes : (at : ℕ) (limit : Option Told) (reach : Option FarthestFailure) → Gets (reader reach (At at limit tokens)) a entries (At at limit tokens) rest

pub comes_end : {A : Type 0} (a : A) (rest : List Token) → Comes (λ reach place. Reads a place reach) rest a [] rest
comes_end a rest = record { comes = λ at limit reach. record { at = at; limit = limit; reach = reach; is = refl; passes = λ h. refl } }

pub comes_as : {A B : Type 0} (make : A → B) (reader : Reader A) {tokens rest : List Token} {a : A} {entries : List Entry} → Comes reader tokens a entries rest
    → Comes (λ reach place. try_as make (reader reach place)) tokens (make a) entries rest
comes_as make reader c =
    record {
      comes = λ at limit reach.
          let g = c.comes at limit reach in
          record { at = g.at; limit = g.limit; reach = g.reach; is = ap (try_as make) g.is; passes = g.passes };
    }

pub comes_then : {A B : Type 0} (next : A → Reader B) (reader : Reader A) {tokens mid rest : List Token} {a : A} {b : B} {entries others : List Entry} → Comes reader tokens a entries mid
    → Comes (next a) mid b others rest → Comes (λ reach place. try_then next (reader reach place)) tokens b (entries ++ others) rest
comes_then next reader {tokens = tokens} {mid = mid} {a = a} {entries = entries} {others = others} c d =
    record {
      comes = λ at limit reach.
          let g = c.comes at limit reach in
          let k = d.comes g.at g.limit g.reach in
          record {
            at = k.at;
            limit = k.limit;
            reach = k.reach;
            is = ap (try_then next) g.is ∙ k.is;
            passes = λ h.
                passed-append entries others (At at limit tokens) ∙ ap (passed others) (g.passes h) ∙ k.passes (passed_noted entries at limit tokens h (g.passes h));
          };
    }

pub comes_yes : {A : Type 0} (test : Symbol → Bool) (entry : Entry) (yes' : Token → Reader A) (no' : Reader A) (token : Token) {tokens rest : List Token} {a : A} {entries : List Entry}
    → test (symbol token) ≡ true → Comes (yes' token) tokens a entries rest → Comes (choice test entry yes' no') (token ∷ tokens) a (entry ∷ entries) rest
comes_yes test entry yes' no' token {tokens = tokens} {rest = rest} {a = a} {entries = entries} is c =
    record {
      comes = λ at limit reach.
          let limit' = noted limit entry at token in
          let g = c.comes (suc at) limit' reach in
          record {
            at = g.at;
            limit = g.limit;
            reach = g.reach;
            is = rw is g.is;
            passes = λ h. g.passes (noted_later limit' at (noted_stays limit entry at token h));
          };
    }

-- a token with which tokens begin passes a test
abbrev pub starts : (Symbol → Bool) → List Token → Bool
starts test [] = false
starts test (token ∷ tokens) = test (symbol token)

no_is : {A : Type 0} (test : Symbol → Bool) (entry : Entry) (yes' : Token → Reader A) (no' : Reader A) (tokens : List Token) → starts test tokens ≡ false
    → (at : ℕ) (limit : Option Told) (reach : Option FarthestFailure) → choice test entry yes' no' reach (At at limit tokens) ≡ no' reach (At at limit tokens)
no_is test entry yes' no' [] is at limit reach = refl
no_is test entry yes' no' (token ∷ tokens) is at limit reach = rw is refl

pub comes_no : {A : Type 0} (test : Symbol → Bool) (entry : Entry) (yes' : Token → Reader A) (no' : Reader A) {tokens rest : List Token} {a : A} {entries : List Entry}
    → starts test tokens ≡ false → Comes no' tokens a entries rest → Comes (choice test entry yes' no') tokens a entries rest
comes_no test entry yes' no' {tokens = tokens} is c =
    record {
      comes = λ at limit reach.
          let g = c.comes at limit reach in
          record { at = g.at; limit = g.limit; reach = g.reach; is = no_is test entry yes' no' tokens is at limit reach ∙ g.is; passes = g.passes };
    }

abbrev at_mark : {A : Type 0} → (Symbol → Bool) → A → Reader A
at_mark test a = token_then test plain (λ mark reach place. Reads a place reach)

pub comes_up_to : {A : Type 0} (test : Symbol → Bool) (reader : Reader A) (mark : Token) {tokens rest : List Token} {a : A} {entries : List Entry} → test (symbol mark) ≡ true
    → Comes reader tokens a entries (mark ∷ rest) → Comes (λ reach place. up_to test (reader reach place)) tokens a (entries ++ plain ∷ []) rest
comes_up_to test reader mark {rest = rest} {a = a} is c =
    comes_then (at_mark test) reader c (comes_yes test plain (λ mark reach place. Reads a place reach) refused mark is (comes_end a rest))

-- the entries written in another way
pub comes_with : {A : Type 0} (reader : Reader A) {tokens rest : List Token} {a : A} (entries others : List Entry) → entries ≡ others → Comes reader tokens a entries rest → Comes reader tokens a others rest
comes_with reader {tokens = tokens} {rest = rest} {a = a} entries others same c = subst (λ es. Comes reader tokens a es rest) same c

-- the limit of length
earlier_none : (limit : Option Told) → earlier limit None ≡ limit
earlier_none None = refl
earlier_none (Some told) = refl

before_none : (at n : ℕ) (tokens : List Token) → before at (told_at 112 (at + n) tokens) ≡ None
before_none at n [] = refl
before_none at n (token ∷ tokens) = let no : nat_lt (at + n) at ≡ false = grind (arith, nat_tests) in rw no refl

earlier_by_noted : (b : Bool) (told : Told) (at n : ℕ) (token : Token) → told.at ≤ at → earlier (Some told) (before_by b (record { at = at + n; token = token; code = 112 })) ≡ Some told
earlier_by_noted true told at n token h = let no : nat_lt (at + n) told.at ≡ false = grind (arith, nat_tests, h) in rw no refl
earlier_by_noted false told at n token h = refl

pub earlier_noted : (told : Told) (at later n : ℕ) (tokens : List Token) → told.at ≤ at → earlier (Some told) (before later (told_at 112 (at + n) tokens)) ≡ Some told
earlier_noted told at later n [] h = refl
earlier_noted told at later n (token ∷ tokens) h = earlier_by_noted (nat_lt (at + n) later) told at n token h

abbrev limited : ℕ → List Entry → List Entry
limited g es = take g es ++ led_by (Some Long) (drop g es)

limited_none : (g : ℕ) → limited g [] ≡ []
limited_none zero = refl
limited_none (suc g) = refl

-- how far an expression goes that is too long behind so many tokens
abbrev long_at : ℕ → ℕ → List Token → Option Told
long_at n at tokens = told_at 112 (at + n) (drop n tokens)

-- where a limit is told, it stays the first one
told_finished : (told : Told) (n : ℕ) (es : List Entry) (at' at : ℕ) (ts tokens : List Token) → told.at ≤ at → passed es (At at' (Some told) ts) ≡ finished (long_at n at tokens) (passed es (At at' (Some told) ts))
told_finished told n [] at' at ts tokens h = ap (λ l. At at' l ts) (sym (earlier_noted told at at' n (drop n tokens) h))
told_finished told n (e ∷ es) at' at [] tokens h = told_finished told n es at' at [] tokens h
told_finished told n (None ∷ es) at' at (t ∷ ts) tokens h = told_finished told n es (suc at') at ts tokens h
told_finished told n (Some l ∷ es) at' at (t ∷ ts) tokens h = told_finished told n es (suc at') at ts tokens h

before_told : (told : Told) (at : ℕ) → told.at < at → before at (Some told) ≡ Some told
before_told told at h = let yes' : nat_lt told.at at ≡ true = grind (arith, nat_tests, h) in rw yes' refl

earlier_told : (told other : Told) → told.at < other.at → earlier (Some other) (Some told) ≡ Some told
earlier_told told other h = let yes' : nat_lt told.at other.at ≡ true = grind (arith, nat_tests, h) in rw yes' refl

-- what is too long stands before a limit that is told later
long_before : (long told : Told) (es : List Entry) (at : ℕ) (ts : List Token) → long.at < at → long.at < told.at
    → passed es (At at (Some long) ts) ≡ finished (Some long) (passed es (At at (Some told) ts))
long_before long told [] at ts h k = ap (λ l. At at l ts) (sym (ap (earlier (Some told)) (before_told long at h) ∙ earlier_told long told k))
long_before long told (e ∷ es) at [] h k = long_before long told es at [] h k
long_before long told (None ∷ es) at (t ∷ ts) h k = long_before long told es (suc at) ts (omega (arith, h)) k
long_before long told (Some l ∷ es) at (t ∷ ts) h k = long_before long told es (suc at) ts (omega (arith, h)) k

long_alone : (long : Told) (es : List Entry) (at : ℕ) (ts : List Token) → long.at < at → passed es (At at (Some long) ts) ≡ finished (Some long) (passed es (At at None ts))
long_alone long [] at ts h = ap (λ l. At at l ts) (sym (before_told long at h))
long_alone long (e ∷ es) at [] h = long_alone long es at [] h
long_alone long (None ∷ es) at (t ∷ ts) h = long_alone long es (suc at) ts (omega (arith, h))
long_alone long (Some l ∷ es) at (t ∷ ts) h = long_before long (record { at = at; token = t; code = code_of l }) es (suc at) ts (omega (arith, h)) h

first_long : (limit : Option Told) (e : Entry) (at : ℕ) (t : Token) (ts : List Token) (es : List Entry) → Noted at limit
    → passed es (At (suc at) (noted limit (first_of e (Some Long)) at t) ts) ≡ finished (long_at zero at (t ∷ ts)) (passed es (At (suc at) (noted limit e at t) ts))
first_long (Some told) None at t ts es h = told_finished told zero es (suc at) at ts (t ∷ ts) h
first_long (Some told) (Some l) at t ts es h = told_finished told zero es (suc at) at ts (t ∷ ts) h
first_long None (Some l) at t ts es h = told_finished (record { at = at; token = t; code = code_of l }) zero es (suc at) at ts (t ∷ ts) (omega arith)
first_long None None at t ts es h =
    let same : at + 0 ≡ at = omega arith in
    rw same (long_alone (record { at = at; token = t; code = 112 }) es (suc at) ts (omega arith))

long_passes : (n : ℕ) (es : List Entry) (at : ℕ) (limit : Option Told) (tokens : List Token) → length es ≤ length tokens → Noted at limit
    → passed (limited n es) (At at limit tokens) ≡ finished (long_at n at tokens) (passed es (At at limit tokens))
long_passes n [] at limit tokens few h =
    ap (λ es. passed es (At at limit tokens)) (limited_none n) ∙ ap (λ l. At at l tokens) (sym (ap (earlier limit) (before_none at n (drop n tokens)) ∙ earlier_none limit))
long_passes n (e ∷ es) at limit [] few h = absurd (omega (arith, few))
long_passes zero (e ∷ es) at limit (t ∷ ts) few h = first_long limit e at t ts es h
long_passes (suc n) (e ∷ es) at limit (t ∷ ts) few h =
    long_passes n es (suc at) (noted limit e at t) ts (omega (arith, few)) (noted_later (noted limit e at t) at (noted_stays limit e at t h))
    ∙ ap (λ m. finished (told_at 112 m (drop n ts)) (passed es (At (suc at) (noted limit e at t) ts))) (omega arith)

-- the entries of a whole expression are passed as the machine passes those of the expression
pub whole_passes : (es : List Entry) (at : ℕ) (limit : Option Told) (tokens : List Token) → length es ≤ length tokens → Noted at limit
    → passed (at_most_long es) (At at limit tokens) ≡ finished (long_from (At at limit tokens)) (passed es (At at limit tokens))
whole_passes es at limit tokens few h = long_passes 1024 es at limit tokens few h
