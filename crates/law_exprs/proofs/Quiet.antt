-- Tokens that no type arguments go on with: names before them take none, whatever stands behind them.
use Rattle.std.proofs.Common.{◌≡◌, ℕ, suc, Bool, true, false, List, [], ◌∷◌, ◌++◌, refl, sym, ap, subst, ◌∙◌, codes, append_assoc}
use Rattle.std.specs.Prelude.{Some, None, ◌&&◌}
use Rattle.std.proofs.lemmas.Bool.{false≢true, and_parts}
use Rattle.def_token.specs.Lexical.{Token}
use Rattle.def_tree.specs.Expressions.{TakesNone}
use Rattle.def_tree.specs.Operator.{joins}
use Rattle.def_tree.specs.Statements.{begins_with}
use Prim.Native.String.{String}
use Rattle.def_tree.specs.Symbol.{Symbol, Name, Sign, symbol, is_sign, Is, IsName, touches}
use Rattle.law_tree.proofs.Symbols.{is_sign-true}
use Rattle.def_reading.specs.Cursor.{noted}
use Rattle.def_reading.specs.TypeAhead.{names, leads_on}
use Rattle.def_reading.specs.TypeReading.{Ended, Lead, AWord, AName, NoType, lead_of}
use Rattle.law_types.proofs.AheadKept.{Harmless, none_kept, name_open}
use Rattle.law_types.proofs.AheadSound.{none_without}
use Rattle.law_types.proofs.AheadStages.{drive_first}
use Rattle.law_types.proofs.TypeStages.{Stage, Head, Named', Whole, Dot, Closed, mark_behind, named_by, next, entry, some_pair}

-- nothing that begins a type
abbrev is_no_type : Lead → Bool
is_no_type (AWord word) = false
is_no_type AName = false
is_no_type NoType = true

-- the other truth value
abbrev other : Bool → Bool
other true = false
other false = true

-- the symbol is in no type, and does not lead on behind type arguments
abbrev pub quiet : Symbol → Bool
quiet s =
    (is_no_type (lead_of s) && (other (names s) && (other (is_sign "<" s) && other (is_sign "." s))))
    && (other (is_sign "," s) && (other (is_sign ">" s) && (other (is_sign "(" s) && other (is_sign "::" s))))

-- what begins no type is no type's first token
no_type : (lead : Lead) → is_no_type lead ≡ true → lead ≡ NoType
no_type (AWord word) h = absurd (false≢true h)
no_type AName h = absurd (false≢true h)
no_type NoType h = refl

-- the other of true is false
other_true : (b : Bool) → other b ≡ true → b ≡ false
other_true true h = absurd (false≢true h)
other_true false h = refl

record IsQuiet (s : Symbol) : Type 0 where
  lead : lead_of s ≡ NoType
  no_name : names s ≡ false
  no_less : is_sign "<" s ≡ false
  no_dot : is_sign "." s ≡ false
  no_comma : is_sign "," s ≡ false
  no_greater : is_sign ">" s ≡ false
  no_bracket : is_sign "(" s ≡ false
  no_colons : is_sign "::" s ≡ false

-- what a quiet symbol is not
quiet_parts : (s : Symbol) → quiet s ≡ true → IsQuiet s
quiet_parts s h =
    let two = and_parts (is_no_type (lead_of s) && (other (names s) && (other (is_sign "<" s) && other (is_sign "." s)))) (other (is_sign "," s) && (other (is_sign ">" s) && (other (is_sign "(" s) && other (is_sign "::" s)))) h in
    let a = and_parts (is_no_type (lead_of s)) (other (names s) && (other (is_sign "<" s) && other (is_sign "." s))) two.0 in
    let b = and_parts (other (names s)) (other (is_sign "<" s) && other (is_sign "." s)) a.1 in
    let c = and_parts (other (is_sign "<" s)) (other (is_sign "." s)) b.1 in
    let d = and_parts (other (is_sign "," s)) (other (is_sign ">" s) && (other (is_sign "(" s) && other (is_sign "::" s))) two.1 in
    let e = and_parts (other (is_sign ">" s)) (other (is_sign "(" s) && other (is_sign "::" s)) d.1 in
    let f = and_parts (other (is_sign "(" s)) (other (is_sign "::" s)) e.1 in
    record {
      lead = no_type (lead_of s) a.0;
      no_name = other_true (names s) b.0;
      no_less = other_true (is_sign "<" s) c.0;
      no_dot = other_true (is_sign "." s) c.1;
      no_comma = other_true (is_sign "," s) d.0;
      no_greater = other_true (is_sign ">" s) e.0;
      no_bracket = other_true (is_sign "(" s) f.0;
      no_colons = other_true (is_sign "::" s) f.1;
    }

-- no mark of types
no_mark : (s : Symbol) (types many : ℕ) → IsQuiet s → mark_behind s types many ≡ None
no_mark s types many q = rw (q.no_dot, q.no_comma, q.no_greater) refl

-- no stage goes on with a quiet symbol
no_next : (stage : Stage) (s : Symbol) → IsQuiet s → next stage s ≡ None
no_next (Head types many) s q = rw (q.lead) refl
no_next (Named' types many) s q = ap (λ b. named_by b types many (mark_behind s types many)) q.no_less ∙ no_mark s types many q
no_next (Whole types many) s q = no_mark s types many q
no_next (Dot types many) s q = rw (q.no_name) refl
no_next Closed s q = refl

-- a quiet token does not lead on
no_lead : (t : Token) (ts : List Token) → IsQuiet (symbol t) → leads_on (t ∷ ts) ≡ false
no_lead t ts q = rw (q.no_bracket, q.no_dot, q.no_colons) refl

-- lists that are one have one first token
heads : (a b : Token) (more others : List Token) → a ∷ more ≡ b ∷ others → a ≡ b
heads a b more others h = cc

-- a quiet token closes no type arguments before it
harmless_quiet : (stage : Stage) (t : Token) (ts : List Token) → IsQuiet (symbol t) → Harmless stage (t ∷ ts)
harmless_quiet stage t ts q at limit limit' [] rest are leads d = false≢true (sym (no_lead t ts q) ∙ ap leads_on are ∙ leads)
harmless_quiet stage t ts q at limit limit' (u ∷ piece) rest are leads d =
    let first = drive_first stage Closed at limit limit' u piece d in
    let none : next stage (symbol u) ≡ None = no_next stage (symbol u) (subst (λ (x : Token). IsQuiet (symbol x)) (heads t u ts (piece ++ rest) are) q) in
    let some = first.1 in cc

-- names that take no type arguments before some tokens take none before others
abbrev pub Kept : List Token → List Token → Type 0
Kept rest new = (mid : List Token) → Ended (mid ++ rest) → TakesNone (mid ++ rest) → TakesNone (mid ++ new)

-- harmless tokens in place of others
kept_by : (b : Bool) (o : Token) (front rest new : List Token) → is_sign "<" (symbol o) ≡ b → ((stage : Stage) → Harmless stage new) → Ended (o ∷ (front ++ rest)) → TakesNone (o ∷ (front ++ rest)) → TakesNone (o ∷ (front ++ new))
kept_by true o front rest new is harmless end none = none_kept o front rest new (is_sign-true "<" (symbol o) is) end none (λ stage l h. harmless stage)
kept_by false o front rest new is harmless end none = none_without (o ∷ (front ++ new)) is

-- tokens that close no type arguments before them, in place of others
pub kept_harmless : (rest new : List Token) → begins_with "<" new ≡ false → ((stage : Stage) → Harmless stage new) → Kept rest new
kept_harmless rest new less harmless [] end none = none_without new less
kept_harmless rest new less harmless (o ∷ front) end none = kept_by (is_sign "<" (symbol o)) o front rest new refl harmless end none

-- a quiet token in place of others
pub kept_quiet : (rest : List Token) (t : Token) (ts : List Token) → quiet (symbol t) ≡ true → Kept rest (t ∷ ts)
kept_quiet rest t ts h = let q = quiet_parts (symbol t) h in kept_harmless rest (t ∷ ts) q.no_less (λ stage. harmless_quiet stage t ts q)

-- the same with a token before both
pub kept_cons : (t : Token) (rest new : List Token) → Kept rest new → Kept (t ∷ rest) (t ∷ new)
kept_cons t rest new k mid end none =
    subst TakesNone (append_assoc mid (t ∷ []) new)
    (k (mid ++ t ∷ []) (subst Ended (sym (append_assoc mid (t ∷ []) rest)) end) (subst TakesNone (sym (append_assoc mid (t ∷ []) rest)) none))

-- the same with tokens before both
pub kept_front : (front rest new : List Token) → Kept rest new → Kept (front ++ rest) (front ++ new)
kept_front [] rest new k = k
kept_front (t ∷ front) rest new k = kept_cons t (front ++ rest) (front ++ new) (kept_front front rest new k)

-- tokens that begin with a quiet one do not lead on
pub quiet_lead : (t : Token) (ts : List Token) → quiet (symbol t) ≡ true → leads_on (t ∷ ts) ≡ false
quiet_lead t ts h = no_lead t ts (quiet_parts (symbol t) h)

-- no `else` stands before the new tokens, unless one stands before the old ones
abbrev pub NoElse : List Token → List Token → Type 0
NoElse rest new = begins_with "else" rest ≡ false → begins_with "else" new ≡ false

pub record Both (rest new : List Token) : Type 0 where
  pub kept : Kept rest new
  pub no_else : NoElse rest new

-- tokens that begin with a quiet one that is no `else`
pub record Fine (tokens : List Token) : Type 0 where
  pub first : Token
  pub others : List Token
  pub are : tokens ≡ first ∷ others
  pub quiet_first : quiet (symbol first) ≡ true
  pub no_else : is_sign "else" (symbol first) ≡ false

-- a quiet token before others
pub fine : (t : Token) (ts : List Token) → quiet (symbol t) ≡ true → is_sign "else" (symbol t) ≡ false → Fine (t ∷ ts)
fine t ts h k = record { first = t; others = ts; are = refl; quiet_first = h; no_else = k }

-- fine tokens in place of others
pub fine_both : (rest new : List Token) → Fine new → Both rest new
fine_both rest new f =
    record {
      kept = subst (Kept rest) (sym f.are) (kept_quiet rest f.first f.others f.quiet_first);
      no_else = λ h. ap (begins_with "else") f.are ∙ f.no_else;
    }

-- other tokens behind a quiet one
pub quiet_both : (t : Token) (one other : List Token) → quiet (symbol t) ≡ true → Both (t ∷ one) (t ∷ other)
quiet_both t one other h = record { kept = kept_quiet (t ∷ one) t other h; no_else = λ k. k }

-- a token is quiet if its sign is
quiet_by : (sign : String) (s : Symbol) → quiet (Sign (codes sign)) ≡ true → is_sign sign s ≡ true → quiet s ≡ true
quiet_by sign s h is = ap quiet (is_sign-true sign s is) ∙ h

-- the tokens of `>>=` in place of others
joined_is : (t p : Token) (sign : String) → joins t sign p ≡ true → Is sign p
joined_is t p sign j = is_sign-true sign (symbol p) (and_parts (touches t p) (is_sign sign (symbol p)) j).1

-- a sign that does not lead on
no_lead_sign : (t : Token) (ts : List Token) (s : Symbol) → symbol t ≡ s → leads_on (t ∷ ts) ≡ true → (is_sign "(" s ≡ false) × (is_sign "." s ≡ false) × (is_sign "::" s ≡ false) → ⊥
no_lead_sign t ts s is leads none =
    let quiet_one : leads_on (t ∷ ts) ≡ false = rw (is, none.0, none.1, none.2) refl in false≢true (sym quiet_one ∙ leads)

-- `>>=` closes no type arguments before it that something leads on
shift_harmless : (stage : Stage) (p q r : Token) (ts : List Token) → Is ">" p → Is ">" q → Is "=" r → Harmless stage (p ∷ q ∷ r ∷ ts)
shift_harmless stage p q r ts g j h at limit limit' [] rest are leads d = no_lead_sign p (q ∷ r ∷ ts) _ g (ap leads_on are ∙ leads) (refl, refl, refl)
shift_harmless stage p q r ts g j h at limit limit' (x ∷ []) rest are leads d =
    let is : q ∷ r ∷ ts ≡ rest = cc in no_lead_sign q (r ∷ ts) _ j (ap leads_on is ∙ leads) (refl, refl, refl)
shift_harmless stage p q r ts g j h at limit limit' (x ∷ y ∷ []) rest are leads d =
    let is : r ∷ ts ≡ rest = cc in no_lead_sign r ts _ h (ap leads_on is ∙ leads) (refl, refl, refl)
shift_harmless stage p q r ts g j h at limit limit' (x ∷ y ∷ z ∷ piece) rest are leads d =
    let is : r ≡ z = cc in
    let one = drive_first stage Closed at limit limit' x (y ∷ z ∷ piece) d in
    let two = drive_first one.0 Closed (suc at) (noted limit (entry stage) at x) limit' y (z ∷ piece) one.2 in
    let three = drive_first two.0 Closed (suc (suc at)) (noted (noted limit (entry stage) at x) (entry one.0) (suc at) y) limit' z piece two.2 in
    let none : next two.0 (symbol z) ≡ None = no_next two.0 (symbol z) (quiet_parts (symbol z) (ap quiet (ap symbol (sym is) ∙ h))) in
    let some = three.1 in cc

-- the tokens of `>>=` in place of others
pub kept_shift : (rest : List Token) (p q r : Token) (ts : List Token) → Is ">" p → joins p ">" q ≡ true → joins q "=" r ≡ true → Kept rest (p ∷ q ∷ r ∷ ts)
kept_shift rest p q r ts g j h =
    kept_harmless rest (p ∷ q ∷ r ∷ ts) (ap (is_sign "<") g) (λ stage. shift_harmless stage p q r ts g (joined_is p q ">" j) (joined_is q r "=" h))

-- a name, and then a quiet token
name_harmless : (stage : Stage) (name t : Token) (ts : List Token) → IsName name → IsQuiet (symbol t) → Harmless stage (name ∷ t ∷ ts)
name_harmless stage name t ts n q at limit limit' [] rest are leads d = no_lead_sign name (t ∷ ts) _ n (ap leads_on are ∙ leads) (refl, refl, refl)
name_harmless stage name t ts n q at limit limit' (u ∷ []) rest are leads d =
    let is : name ≡ u = cc in
    let first = drive_first stage Closed at limit limit' u [] d in
    let at_name : next stage Name ≡ Some first.0 = ap (next stage) (sym n ∙ ap symbol is) ∙ first.1 in
    name_open stage first.0 at_name (some_pair first.0 Closed (noted limit (entry stage) at u) limit' first.2).0
name_harmless stage name t ts n q at limit limit' (u ∷ w ∷ piece) rest are leads d =
    let is : t ≡ w = cc in
    let first = drive_first stage Closed at limit limit' u (w ∷ piece) d in
    let second = drive_first first.0 Closed (suc at) (noted limit (entry stage) at u) limit' w piece first.2 in
    let none : next first.0 (symbol w) ≡ None = no_next first.0 (symbol w) (subst (λ (x : Token). IsQuiet (symbol x)) is q) in
    let some = second.1 in cc

-- a name and a quiet token in place of others
pub kept_name : (rest : List Token) (name : Token) (new : List Token) → IsName name → Fine new → Kept rest (name ∷ new)
kept_name rest name new n f =
    subst (λ ts. Kept rest (name ∷ ts)) (sym f.are)
    (kept_harmless rest (name ∷ f.first ∷ f.others) (ap (is_sign "<") n) (λ stage. name_harmless stage name f.first f.others n (quiet_parts (symbol f.first) f.quiet_first)))
