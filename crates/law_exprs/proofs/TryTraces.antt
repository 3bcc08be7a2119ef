-- Each way that a reader notes has a tree that goes as far: how such readers are put together.
use Rattle.std.proofs.Common.{◌≡◌, ◌⊎◌, inl, inr, ⊎_elim, ℕ, zero, suc, ◌+◌, ◌≤◌, Bool, true, false, List, [], ◌∷◌, ◌++◌, length, refl, sym, ap, subst, ◌∙◌, arith, append_assoc, length-append}
use Rattle.std.specs.Prelude.{Option, Some, None, nat_lt}
use Rattle.std.proofs.lemmas.Bool.Decides.{nat_tests}
use Rattle.def_token.specs.Lexical.{Token}
use Rattle.def_tree.specs.Fault.{Spot, first_spot}
use Rattle.def_tree.specs.Limits.{Entry, plain}
use Rattle.def_tree.specs.Symbol.{Symbol, symbol}
use Rattle.def_reading.specs.Cursor.{Told, At, noted, passed, before, before_by, earlier, told_by, FarthestFailure, reach_at, reach_by}
use Rattle.def_reading.specs.Try.{Try, Reads, Stops, Reader, try_then, try_as, or_else, refused, choice, choice_by, token_then, up_to}
use Rattle.def_reading.specs.TypeReading.{Ended}
use Rattle.law_types.proofs.AheadComplete.{passed-append}
use Rattle.law_types.proofs.LimitSpots.{spot_told, spot_with, same_place, passed_at}
use Rattle.law_machine.proofs.MachineOrigins.{further_is}
use Rattle.law_machine.proofs.MachineGood.{Stands, MaybeStands, Placed, placed_token, told_by_stands, earlier_stands, before_stands}
use Rattle.law_types.proofs.Stopping.{ended_behind}
use Rattle.law_exprs.proofs.TryComes.{Noted, noted_stays, noted_later, passed_noted, starts}
use Rattle.law_exprs.proofs.TryHolds.{NotEnd, not_end}

-- where a tree is refused that has so many tokens behind a place and not the one behind them
abbrev pub spot_within : Bool → Told → ℕ → Spot
spot_within true told many = spot_told told
spot_within false told many = spot_with many 110

-- where a tree with these entries is refused, from a place with this limit on the way
abbrev pub spot_by : Option Told → ℕ → ℕ → List Entry → Spot
spot_by None at many entries = first_spot at many entries
spot_by (Some told) at many entries = spot_within (nat_lt told.at (at + many)) told (at + many)

-- the spot behind one more token
pub spot_cons : (limit : Option Told) (at many : ℕ) (e : Entry) (entries : List Entry) (t : Token) → spot_by limit at (suc many) (e ∷ entries) ≡ spot_by (noted limit e at t) (suc at) many entries
spot_cons None at many None entries t = refl
spot_cons None at many (Some l) entries t = let yes' : nat_lt at (suc at + many) ≡ true = grind (arith, nat_tests) in rw yes' refl
spot_cons (Some told) at many None entries t = ap (λ n. spot_within (nat_lt told.at n) told n) (omega arith)
spot_cons (Some told) at many (Some l) entries t = ap (λ n. spot_within (nat_lt told.at n) told n) (omega arith)

-- the spot behind the tokens of some entries
spot_append : (es others : List Entry) (limit : Option Told) (at many : ℕ) (tokens : List Token) {at' : ℕ} {limit' : Option Told} {rest : List Token} → length es ≤ length tokens
    → passed es (At at limit tokens) ≡ At at' limit' rest → spot_by limit at (length es + many) (es ++ others) ≡ spot_by limit' at' many others
spot_append [] others limit at many tokens {limit' = limit'} few is =
    let same = same_place is in
    ap (λ n. spot_by limit at n others) (omega arith) ∙ ap (λ l. spot_by l at many others) same.1 ∙ ap (λ n. spot_by limit' n many others) same.0
spot_append (e ∷ es) others limit at many [] few is = absurd (omega (arith, few))
spot_append (e ∷ es) others limit at many (t ∷ tokens) few is =
    ap (λ n. spot_by limit at n (e ∷ (es ++ others))) (omega arith) ∙ spot_cons limit at (length es + many) e (es ++ others) t
    ∙ spot_append es others (noted limit e at t) (suc at) many tokens (omega (arith, few)) is

-- entries behind the tokens change no spot
first_before : (es others : List Entry) (from many : ℕ) → many ≤ length es → first_spot from many (es ++ others) ≡ first_spot from many es
first_before es others from zero h = refl
first_before [] others from (suc many) h = absurd (omega (arith, h))
first_before (None ∷ es) others from (suc many) h = first_before es others (suc from) many (omega (arith, h))
first_before (Some l ∷ es) others from (suc many) h = refl

-- entries behind the tokens change no spot, whatever is told before
pub spot_before : (es others : List Entry) (limit : Option Told) (at many : ℕ) → many ≤ length es → spot_by limit at many (es ++ others) ≡ spot_by limit at many es
spot_before es others None at many h = first_before es others at many h
spot_before es others (Some told) at many h = refl

-- tokens, the tree that they begin with, its entries, and a rest
abbrev pub Language : Type 0 → Type 1
Language A = List Token → A → List Entry → List Token → Type 0

-- a class of tokens
abbrev pub Class : Type 1
Class = List Token → Type 0

-- some tokens in place of others
abbrev pub Change : Type 1
Change = List Token → List Token → Type 0

-- what stands before a rest of a class: a tree from nothing
pub record Scratch {A : Type 0} (P : Language A) (Ends Before : Class) : Type 0 where
  pub tokens : List Token
  pub tree : A
  pub entries : List Entry
  pub whole : (rest : List Token) → Ends rest → P (tokens ++ rest) tree entries rest
  pub before : (rest : List Token) → Ends rest → Before (tokens ++ rest)

-- what stands behind something that is read
abbrev pub Suffix : {A B : Type 0} → Language A → A → Language B → Language B
Suffix P a Q mid b es rest = (tokens : List Token) (front : List Entry) → P tokens a front mid → Q tokens b (front ++ es) rest

-- what is read behind a token
abbrev pub After : {A : Type 0} → Token → Entry → Language A → Language A
After t e Q mid a es rest = Q (t ∷ mid) a (e ∷ es) rest

-- what is told where no token goes on
reach_told : (at : ℕ) (o : Option Told) (b : FarthestFailure) → reach_by at o ≡ Some b → (b.many ≡ at) × (o ≡ Some b.told)
reach_told at None b h = absurd (cc)
reach_told at (Some told) b h =
    let same : record { many = at; told = told } ≡ b = cc in
    (ap (λ (r : FarthestFailure). r.many) (sym same), ap (λ (r : FarthestFailure). Some r.told) same)

-- what is told is one thing
some_told : (this other : Told) → Some this ≡ Some other → this ≡ other
some_told this other h = cc

-- the spot of what is told before a place
before_told : (c : Bool) (told : Told) (at : ℕ) (tokens : List Token) (b : Told) (es : List Entry) → nat_lt told.at at ≡ c → told_by (earlier (before_by c told) None) at tokens ≡ Some b
    → spot_within c told at ≡ spot_told b
before_told true told at tokens b es is h = ap spot_told (some_told told b h)
before_told false told at [] b es is h = absurd (cc)
before_told false told at (t ∷ tokens) b es is h = ap spot_told (some_told _ b h)

-- the spot of what a refusal tells
pub refused_spot : (limit : Option Told) (at : ℕ) (tokens : List Token) (b : Told) (es : List Entry) → told_by (earlier (before at limit) None) at tokens ≡ Some b → spot_by limit at zero es ≡ spot_told b
refused_spot None at [] b es h = absurd (cc)
refused_spot None at (t ∷ tokens) b es h = ap spot_told (some_told _ b h)
refused_spot (Some told) at tokens b es h =
    ap (λ n. spot_within (nat_lt told.at n) told n) (omega arith) ∙ before_told (nat_lt told.at at) told at tokens b es refl h

-- each list of tokens
abbrev pub Any : Class
Any rest = Unit {0}

-- what is told stands among all tokens
refused_stands : (all : List Token) (limit : Option Told) (at : ℕ) (tokens : List Token) (b : Told) → Placed all at limit tokens → told_by (earlier (before at limit) None) at tokens ≡ Some b → Stands all b
refused_stands all limit at tokens b placed h =
    subst (MaybeStands all) h
    (told_by_stands all (earlier (before at limit) None) at limit tokens (earlier_stands all (before at limit) None (before_stands all at limit placed.stands) tt) placed)

-- a place behind entries stands among all tokens
pub passed_placed : (all : List Token) (es : List Entry) (at : ℕ) (limit : Option Told) (tokens : List Token) {at' : ℕ} {limit' : Option Told} {rest : List Token} → length es ≤ length tokens → Placed all at limit tokens
    → passed es (At at limit tokens) ≡ At at' limit' rest → Placed all at' limit' rest
passed_placed all [] at limit tokens {at' = at'} {limit' = limit'} {rest = rest} few p is =
    let same = same_place is in subst (λ n. Placed all n limit' rest) same.0 (subst (λ l. Placed all at l rest) same.1 (subst (Placed all at limit) same.2 p))
passed_placed all (e ∷ es) at limit [] few p is = absurd (omega (arith, few))
passed_placed all (e ∷ es) at limit (t ∷ tokens) few p is = passed_placed all es (suc at) (noted limit e at t) tokens (omega (arith, few)) (placed_token all at limit e t tokens p) is

-- what is read, and a mark behind it
pub record UpTo {A : Type 0} (test : Symbol → Bool) (P : Language A) (tokens : List Token) (a : A) (es : List Entry) (rest : List Token) : Type 0 where
  pub mark : Token
  pub front : List Entry
  pub passes : test (symbol mark) ≡ true
  pub part : P tokens a front (mark ∷ rest)
  pub are : es ≡ front ++ plain ∷ []

-- each change of tokens
abbrev pub Free : Change
Free rest new = Unit {0}

module _ (all : List Token) where
  -- A tree that goes as far as a way. It stands before each rest of a class. In place of the tokens its own may stand
  -- behind what stands before them.
  pub record Completes {A : Type 0} (P : Language A) (Ends : Class) (G : Change) (at : ℕ) (limit : Option Told) (tokens : List Token) (b : FarthestFailure) : Type 0 where
    pub front : List Token
    pub tail : List Token
    pub are : tokens ≡ front ++ tail
    pub here : b.many ≡ at + length front
    pub more : List Token
    pub tree : A
    pub entries : List Entry
    pub whole : (rest : List Token) → Ends rest → P (front ++ (more ++ rest)) tree entries rest
    pub room : length front ≤ length entries
    pub spot : spot_by limit at (length front) entries ≡ spot_told b.told
    pub alike : (rest : List Token) → Ends rest → G tokens (front ++ (more ++ rest))
    pub stands : Stands all b.told

  -- what is read, where, and before which other tokens it stands
  pub record Gives {A : Type 0} (P : Language A) (F G : Change) (at : ℕ) (limit : Option Told) (tokens : List Token) (a : A) (at' : ℕ) (limit' : Option Told) (rest : List Token) : Type 0 where
    pub entries : List Entry
    pub piece : List Token
    pub are : tokens ≡ piece ++ rest
    pub stable : (other : List Token) → F rest other → P (piece ++ other) a entries other
    pub count : length piece ≡ length entries
    pub passes : passed entries (At at limit tokens) ≡ At at' limit' rest
    pub end : Ended rest
    pub alike : (other : List Token) → F rest other → G tokens (piece ++ other)

  -- a way counts already, or a tree goes as far
  abbrev pub Origin : {A : Type 0} → Language A → Class → Change → Option FarthestFailure → ℕ → Option Told → List Token → FarthestFailure → Option FarthestFailure → Type 0
  Origin P Ends G start at limit tokens b reach = reach ≡ Some b → (start ≡ Some b) ⊎ Completes P Ends G at limit tokens b

  -- what a reader comes to, and where the ways that it notes come from
  abbrev pub Traced : {A : Type 0} → Language A → Class → Change → Change → Option FarthestFailure → ℕ → Option Told → List Token → FarthestFailure → Try A → Type 0
  Traced P Ends F G start at limit tokens b (Reads a (At at' limit' rest) reach) = Gives P F G at limit tokens a at' limit' rest × Origin P Ends G start at limit tokens b reach
  Traced P Ends F G start at limit tokens b (Stops reach) = Origin P Ends G start at limit tokens b reach

  -- the same of a reader, at each place among all tokens
  abbrev pub Traces : {A : Type 0} → Language A → Class → Change → Change → Reader A → Type 0
  Traces P Ends F G reader = (at : ℕ) (limit : Option Told) (tokens : List Token) (start : Option FarthestFailure) (b : FarthestFailure) → Ended tokens → Noted at limit → Placed all at limit tokens
      → Traced P Ends F G start at limit tokens b (reader start (At at limit tokens))

  -- a tree that goes as far, as a part of another
  completes_by : {A B : Type 0} (make : A → B) {P : Language A} {Q : Language B} {Ends : Class} {G : Change} {at : ℕ} {limit : Option Told} {tokens : List Token} {b : FarthestFailure}
      → ((tokens : List Token) (a : A) (es : List Entry) (rest : List Token) → P tokens a es rest → Q tokens (make a) es rest) → Completes P Ends G at limit tokens b → Completes Q Ends G at limit tokens b
  completes_by make f c =
      record {
        front = c.front;
        tail = c.tail;
        are = c.are;
        here = c.here;
        more = c.more;
        tree = make c.tree;
        entries = c.entries;
        whole = λ rest h. f (c.front ++ (c.more ++ rest)) c.tree c.entries rest (c.whole rest h);
        room = c.room;
        spot = c.spot;
        alike = c.alike;
        stands = c.stands;
      }

  -- the same of where ways come from
  origin_by : {A B : Type 0} (make : A → B) {P : Language A} {Q : Language B} {Ends : Class} {G : Change} {start : Option FarthestFailure} {at : ℕ} {limit : Option Told} {tokens : List Token} {b : FarthestFailure} {reach : Option FarthestFailure}
      → ((tokens : List Token) (a : A) (es : List Entry) (rest : List Token) → P tokens a es rest → Q tokens (make a) es rest) → Origin P Ends G start at limit tokens b reach → Origin Q Ends G start at limit tokens b reach
  origin_by make f o is = ⊎_elim (λ h. inl h) (λ c. inr (completes_by make f c)) (o is)

  -- a tree made of what is read
  pub traced_as : {A B : Type 0} (make : A → B) (P : Language A) (Q : Language B) (Ends : Class) (F G : Change) (start : Option FarthestFailure) (at : ℕ) (limit : Option Told) (tokens : List Token) (b : FarthestFailure) (look : Try A)
      → ((tokens : List Token) (a : A) (es : List Entry) (rest : List Token) → P tokens a es rest → Q tokens (make a) es rest)
      → Traced P Ends F G start at limit tokens b look → Traced Q Ends F G start at limit tokens b (try_as make look)
  traced_as make P Q Ends F G start at limit tokens b (Reads a (At at' limit' rest) reach) f (g, o) = (
    record {
      entries = g.entries;
      piece = g.piece;
      are = g.are;
      stable = λ other h. f (g.piece ++ other) a g.entries other (g.stable other h);
      count = g.count;
      passes = g.passes;
      end = g.end;
      alike = g.alike;
    },
    origin_by make f o,
  )
  traced_as make P Q Ends F G start at limit tokens b (Stops reach) f o = origin_by make f o

  -- a tree that goes as far, with what is read behind it from nothing
  pub extended : {A B : Type 0} {P : Language A} {Q : Language B} {Ends Before : Class} {G : Change} {at : ℕ} {limit : Option Told} {tokens : List Token} {b : FarthestFailure}
      → (c : Completes P Before G at limit tokens b) → Scratch (Suffix P c.tree Q) Ends Before → Completes Q Ends G at limit tokens b
  extended {Q = Q} {G = G} {at = at} {limit = limit} {tokens = tokens} c s =
      record {
        front = c.front;
        tail = c.tail;
        are = c.are;
        here = c.here;
        more = c.more ++ s.tokens;
        tree = s.tree;
        entries = c.entries ++ s.entries;
        whole = λ rest h.
            subst (λ ts. Q (c.front ++ ts) s.tree (c.entries ++ s.entries) rest) (sym (append_assoc c.more s.tokens rest))
            (s.whole rest h (c.front ++ (c.more ++ (s.tokens ++ rest))) c.entries (c.whole (s.tokens ++ rest) (s.before rest h)));
        room = omega (arith, c.room, length-append c.entries s.entries);
        spot = spot_before c.entries s.entries limit at (length c.front) c.room ∙ c.spot;
        alike = λ rest h. subst (λ ts. G tokens (c.front ++ ts)) (sym (append_assoc c.more s.tokens rest)) (c.alike (s.tokens ++ rest) (s.before rest h));
        stands = c.stands;
      }

  -- entries are no more than the tokens
  few_pieces : (piece rest tokens : List Token) (es : List Entry) → tokens ≡ piece ++ rest → length piece ≡ length es → length es ≤ length tokens
  few_pieces piece rest tokens es are count = omega (arith, ap length are, length-append piece rest, count)

  -- a tree that goes as far, behind what is read before it
  placed_behind : {A B : Type 0} {P : Language A} {Q : Language B} {Ends : Class} {F G : Change} {at : ℕ} {limit : Option Told} {tokens : List Token} {b : FarthestFailure} {a : A} {at' : ℕ} {limit' : Option Told} {rest : List Token}
      → (g : Gives P F G at limit tokens a at' limit' rest) → Completes (Suffix P a Q) Ends F at' limit' rest b → Completes Q Ends G at limit tokens b
  placed_behind {Q = Q} {G = G} {at = at} {limit = limit} {tokens = tokens} {a = a} g c =
      let few = few_pieces g.piece _ tokens g.entries g.are g.count in
      let at_is = passed_at g.entries at limit tokens few g.passes in
      record {
        front = g.piece ++ c.front;
        tail = c.tail;
        are = g.are ∙ ap (λ ts. g.piece ++ ts) c.are ∙ sym (append_assoc g.piece c.front c.tail);
        here = omega (arith, c.here, at_is, g.count, length-append g.piece c.front);
        more = c.more;
        tree = c.tree;
        entries = g.entries ++ c.entries;
        whole = λ rest h.
            subst (λ ts. Q ts c.tree (g.entries ++ c.entries) rest) (sym (append_assoc g.piece c.front (c.more ++ rest)))
            (c.whole rest h (g.piece ++ (c.front ++ (c.more ++ rest))) g.entries (g.stable (c.front ++ (c.more ++ rest)) (c.alike rest h)));
        room = omega (arith, c.room, g.count, length-append g.piece c.front, length-append g.entries c.entries);
        spot = ap (λ n. spot_by limit at n (g.entries ++ c.entries)) (length-append g.piece c.front ∙ ap (λ n. n + length c.front) g.count)
            ∙ spot_append g.entries c.entries limit at (length c.front) tokens few g.passes ∙ c.spot;
        alike = λ rest h. subst (G tokens) (sym (append_assoc g.piece c.front (c.more ++ rest))) (g.alike (c.front ++ (c.more ++ rest)) (c.alike rest h));
        stands = c.stands;
      }

  -- one thing behind another
  module _ {A B : Type 0} (P : Language A) (Q : Language B) (Ends Before : Class) (F F' G : Change) where
    -- what is read in two parts
    joined : {a : A} {b : B} {at at' at'' : ℕ} {limit limit' limit'' : Option Told} {tokens mid rest : List Token}
        → Gives P F G at limit tokens a at' limit' mid → Gives (Suffix P a Q) F' F at' limit' mid b at'' limit'' rest → Gives Q F' G at limit tokens b at'' limit'' rest
    joined {a = a} {b = b} {at = at} {limit = limit} {tokens = tokens} {mid = mid} {rest = rest} g k =
        record {
          entries = g.entries ++ k.entries;
          piece = g.piece ++ k.piece;
          are = g.are ∙ ap (λ ts. g.piece ++ ts) k.are ∙ sym (append_assoc g.piece k.piece rest);
          stable = λ other h.
              subst (λ ts. Q ts b (g.entries ++ k.entries) other) (sym (append_assoc g.piece k.piece other))
              (k.stable other h (g.piece ++ (k.piece ++ other)) g.entries (g.stable (k.piece ++ other) (k.alike other h)));
          count = length-append g.piece k.piece ∙ omega (arith, g.count, k.count) ∙ sym (length-append g.entries k.entries);
          passes = passed-append g.entries k.entries (At at limit tokens) ∙ ap (passed k.entries) g.passes ∙ k.passes;
          end = k.end;
          alike = λ other h. subst (G tokens) (sym (append_assoc g.piece k.piece other)) (g.alike (k.piece ++ other) (k.alike other h));
        }

    -- the ways of two parts
    origin_then : {a : A} {at at' : ℕ} {limit limit' : Option Told} {tokens mid : List Token} {start reach last : Option FarthestFailure} {b : FarthestFailure}
        → ((a : A) → Scratch (Suffix P a Q) Ends Before) → Gives P F G at limit tokens a at' limit' mid → Origin P Before G start at limit tokens b reach
        → Origin (Suffix P a Q) Ends F reach at' limit' mid b last → Origin Q Ends G start at limit tokens b last
    origin_then scratch g o k is =
        ⊎_elim (λ h. ⊎_elim (λ same. inl same) (λ c. inr (extended c (scratch c.tree))) (o h)) (λ c. inr (placed_behind g c)) (k is)

    -- the second part, behind what is read
    behind_traced : {a : A} {at at' : ℕ} {limit limit' : Option Told} {tokens mid : List Token} {start reach : Option FarthestFailure} {b : FarthestFailure} (look : Try B)
        → ((a : A) → Scratch (Suffix P a Q) Ends Before) → Gives P F G at limit tokens a at' limit' mid → Origin P Before G start at limit tokens b reach
        → Traced (Suffix P a Q) Ends F' F reach at' limit' mid b look → Traced Q Ends F' G start at limit tokens b look
    behind_traced (Reads b (At at'' limit'' rest) last) scratch g o t = (joined g t.0, origin_then scratch g o t.1)
    behind_traced (Stops last) scratch g o t = origin_then scratch g o t

    -- one thing read behind another
    pub traced_then : (next : A → Reader B) (start : Option FarthestFailure) (at : ℕ) (limit : Option Told) (tokens : List Token) (b : FarthestFailure) (look : Try A) → Noted at limit → Placed all at limit tokens
        → ((a : A) → Scratch (Suffix P a Q) Ends Before) → ((a : A) → Traces (Suffix P a Q) Ends F' F (next a))
        → Traced P Before F G start at limit tokens b look → Traced Q Ends F' G start at limit tokens b (try_then next look)
    traced_then next start at limit tokens b (Reads a (At at' limit' mid) reach) n placed scratch each (g, o) =
        behind_traced (next a reach (At at' limit' mid)) scratch g o (each a at' limit' mid reach b g.end (passed_noted g.entries at limit tokens n g.passes)
        (passed_placed all g.entries at limit tokens (few_pieces g.piece mid tokens g.entries g.are g.count) placed g.passes))
    traced_then next start at limit tokens b (Stops reach) n placed scratch each o = λ is. ⊎_elim (λ same. inl same) (λ c. inr (extended c (scratch c.tree))) (o is)

  -- the same of a wider language
  pub traced_by : {A : Type 0} (P Q : Language A) (Ends : Class) (F G : Change) (start : Option FarthestFailure) (at : ℕ) (limit : Option Told) (tokens : List Token) (b : FarthestFailure) (look : Try A)
      → ((tokens : List Token) (a : A) (es : List Entry) (rest : List Token) → P tokens a es rest → Q tokens a es rest)
      → Traced P Ends F G start at limit tokens b look → Traced Q Ends F G start at limit tokens b look
  traced_by P Q Ends F G start at limit tokens b (Reads a (At at' limit' rest) reach) f (g, o) = (
    record {
      entries = g.entries;
      piece = g.piece;
      are = g.are;
      stable = λ other h. f (g.piece ++ other) a g.entries other (g.stable other h);
      count = g.count;
      passes = g.passes;
      end = g.end;
      alike = g.alike;
    },
    origin_by (λ a. a) f o,
  )
  traced_by P Q Ends F G start at limit tokens b (Stops reach) f o = origin_by (λ a. a) f o

  -- the same with other classes
  module _ {A : Type 0} (P : Language A) (Ends Ends' : Class) (F F' G G' : Change) (narrow : (rest : List Token) → Ends' rest → Ends rest) (before : (rest other : List Token) → F' rest other → F rest other) where
    -- the ways, with other classes
    origin_for : {start reach : Option FarthestFailure} {at : ℕ} {limit : Option Told} {tokens : List Token} {b : FarthestFailure} → ((other : List Token) → G tokens other → G' tokens other)
        → Origin P Ends G start at limit tokens b reach → Origin P Ends' G' start at limit tokens b reach
    origin_for g o is =
        ⊎_elim (λ h. inl h)
        (λ c. inr (record {
          front = c.front;
          tail = c.tail;
          are = c.are;
          here = c.here;
          more = c.more;
          tree = c.tree;
          entries = c.entries;
          whole = λ rest h. c.whole rest (narrow rest h);
          room = c.room;
          spot = c.spot;
          alike = λ rest h. g (c.front ++ (c.more ++ rest)) (c.alike rest (narrow rest h));
          stands = c.stands;
        })) (o is)

    -- what is read and the ways, with other classes
    pub traced_for : (start : Option FarthestFailure) (at : ℕ) (limit : Option Told) (tokens : List Token) (b : FarthestFailure) (look : Try A) → ((other : List Token) → G tokens other → G' tokens other)
        → Traced P Ends F G start at limit tokens b look → Traced P Ends' F' G' start at limit tokens b look
    traced_for start at limit tokens b (Reads a (At at' limit' rest) reach) f (g, o) = (
      record {
        entries = g.entries;
        piece = g.piece;
        are = g.are;
        stable = λ other h. g.stable other (before rest other h);
        count = g.count;
        passes = g.passes;
        end = g.end;
        alike = λ other h. f (g.piece ++ other) (g.alike other (before rest other h));
      },
      origin_for f o,
    )
    traced_for start at limit tokens b (Stops reach) f o = origin_for f o

  module _ {A : Type 0} (Q : Language A) (Ends : Class) (F F' G : Change) (t : Token) (e : Entry) (like : (one other : List Token) → F' one other → G (t ∷ one) (t ∷ other)) where
    -- the ways behind a token
    origin_after : {start reach : Option FarthestFailure} {at : ℕ} {limit : Option Told} {tokens : List Token} {b : FarthestFailure} → Origin (After t e Q) Ends F' start (suc at) (noted limit e at t) tokens b reach
        → Origin Q Ends G start at limit (t ∷ tokens) b reach
    origin_after {at = at} {limit = limit} {tokens = tokens} o is =
        ⊎_elim (λ h. inl h)
        (λ c. inr (record {
          front = t ∷ c.front;
          tail = c.tail;
          are = ap (λ ts. t ∷ ts) c.are;
          here = omega (arith, c.here);
          more = c.more;
          tree = c.tree;
          entries = e ∷ c.entries;
          whole = c.whole;
          room = omega (arith, c.room);
          spot = spot_cons limit at (length c.front) e c.entries t ∙ c.spot;
          alike = λ rest h. like tokens (c.front ++ (c.more ++ rest)) (c.alike rest h);
          stands = c.stands;
        })) (o is)

    -- what is read behind a token
    pub traced_after : (start : Option FarthestFailure) (at : ℕ) (limit : Option Told) (tokens : List Token) (b : FarthestFailure) (look : Try A) → Traced (After t e Q) Ends F F' start (suc at) (noted limit e at t) tokens b look
        → Traced Q Ends F G start at limit (t ∷ tokens) b look
    traced_after start at limit tokens b (Reads a (At at' limit' rest) reach) (g, o) = (
      record {
        entries = e ∷ g.entries;
        piece = t ∷ g.piece;
        are = ap (λ ts. t ∷ ts) g.are;
        stable = g.stable;
        count = ap suc g.count;
        passes = g.passes;
        end = g.end;
        alike = λ other h. like tokens (g.piece ++ other) (g.alike other h);
      },
      origin_after o,
    )
    traced_after start at limit tokens b (Stops reach) o = origin_after o

  -- a token that passes a test, or else something else
  module _ {A : Type 0} (Q : Language A) (Ends : Class) (F F' G : Change) (test : Symbol → Bool) (e : Entry) (yes' : Token → Reader A) (no' : Reader A) (some : NotEnd test)
      (like : (t : Token) (one other : List Token) → test (symbol t) ≡ true → F' one other → G (t ∷ one) (t ∷ other)) where
    choice_by_traced : (c : Bool) (start : Option FarthestFailure) (at : ℕ) (limit : Option Told) (t : Token) (tokens : List Token) (b : FarthestFailure) → test (symbol t) ≡ c → Ended (t ∷ tokens) → Noted at limit → Placed all at limit (t ∷ tokens)
        → (test (symbol t) ≡ true → Traces (After t e Q) Ends F F' (yes' t))
        → (test (symbol t) ≡ false → Traced Q Ends F G start at limit (t ∷ tokens) b (no' start (At at limit (t ∷ tokens))))
        → Traced Q Ends F G start at limit (t ∷ tokens) b (choice_by c e yes' no' start t (At at limit (t ∷ tokens)))
    choice_by_traced true start at limit t tokens b is end n placed y z =
        traced_after Q Ends F F' G t e (λ one other h. like t one other is h) start at limit tokens b (yes' t start (At (suc at) (noted limit e at t) tokens))
        (y is (suc at) (noted limit e at t) tokens start b (ended_behind t tokens (not_end test t some is) end) (noted_later (noted limit e at t) at (noted_stays limit e at t n)) (placed_token all at limit e t tokens placed))
    choice_by_traced false start at limit t tokens b is end n placed y z = z is

    -- what is read behind a token that passes a test, or else at the token
    pub traced_choice : (start : Option FarthestFailure) (at : ℕ) (limit : Option Told) (tokens : List Token) (b : FarthestFailure) → Ended tokens → Noted at limit → Placed all at limit tokens
        → ((t : Token) → test (symbol t) ≡ true → Traces (After t e Q) Ends F F' (yes' t))
        → (starts test tokens ≡ false → Traced Q Ends F G start at limit tokens b (no' start (At at limit tokens)))
        → Traced Q Ends F G start at limit tokens b (choice test e yes' no' start (At at limit tokens))
    traced_choice start at limit [] b end n placed y z = absurd end
    traced_choice start at limit (t ∷ tokens) b end n placed y z = choice_by_traced (test (symbol t)) start at limit t tokens b refl end n placed (y t) z

  -- where nothing goes on, a tree goes on that is written here
  pub traced_refused : {A : Type 0} (Q : Language A) (Ends : Class) (F G : Change) (start : Option FarthestFailure) (at : ℕ) (limit : Option Told) (tokens : List Token) (b : FarthestFailure) → Placed all at limit tokens
      → (s : Scratch Q Ends Any) → ((rest : List Token) → Ends rest → G tokens (s.tokens ++ rest)) → Traced Q Ends F G start at limit tokens b (refused start (At at limit tokens))
  traced_refused Q Ends F G start at limit tokens b placed s like is =
      ⊎_elim (λ h. inl h)
      (λ h.
      let told = reach_told at (told_by (earlier (before at limit) None) at tokens) b h in
      inr (record {
        front = [];
        tail = tokens;
        are = refl;
        here = omega (arith, told.0);
        more = s.tokens;
        tree = s.tree;
        entries = s.entries;
        whole = s.whole;
        room = omega arith;
        spot = refused_spot limit at tokens b.told s.entries told.1;
        alike = like;
        stands = refused_stands all limit at tokens b.told placed told.1;
      })) (further_is start (reach_at None 0 (At at (before at limit) tokens)) b is)

  -- what is read of no token
  pub traced_end : {A : Type 0} (Q : Language A) (Ends : Class) (F G : Change) (a : A) (start : Option FarthestFailure) (at : ℕ) (limit : Option Told) (tokens : List Token) (b : FarthestFailure) → Ended tokens
      → ((other : List Token) → F tokens other → Q other a [] other) → ((other : List Token) → F tokens other → G tokens other) → Traced Q Ends F G start at limit tokens b (Reads a (At at limit tokens) start)
  traced_end Q Ends F G a start at limit tokens b end whole like = (
    record { entries = []; piece = []; are = refl; stable = whole; count = refl; passes = refl; end = end; alike = like },
    λ is. inl is,
  )

  -- a token, or nothing goes on
  pub traced_token : {A : Type 0} (Q : Language A) (Ends : Class) (F F' G : Change) (test : Symbol → Bool) (e : Entry) (next : Token → Reader A) → NotEnd test
      → ((t : Token) (one other : List Token) → test (symbol t) ≡ true → F' one other → G (t ∷ one) (t ∷ other))
      → (start : Option FarthestFailure) (at : ℕ) (limit : Option Told) (tokens : List Token) (b : FarthestFailure) → Ended tokens → Noted at limit → Placed all at limit tokens
      → ((t : Token) → test (symbol t) ≡ true → Traces (After t e Q) Ends F F' (next t))
      → (s : Scratch Q Ends Any) → ((rest : List Token) → Ends rest → G tokens (s.tokens ++ rest))
      → Traced Q Ends F G start at limit tokens b (token_then test e next start (At at limit tokens))
  traced_token Q Ends F F' G test e next some like start at limit tokens b end n placed y s z =
      traced_choice Q Ends F F' G test e next refused some like start at limit tokens b end n placed y (λ no'. traced_refused Q Ends F G start at limit tokens b placed s z)

  -- what is read up to a mark, which closes it in completions too
  module _ {A : Type 0} (P : Language A) (Ends Before : Class) (F F' G : Change) (test : Symbol → Bool) (some : NotEnd test) (m : Token) (passes : test (symbol m) ≡ true)
      (before : (rest : List Token) → Ends rest → Before (m ∷ rest)) (marks : (t : Token) (one other : List Token) → test (symbol t) ≡ true → F (t ∷ one) (t ∷ other)) (missed : (tokens rest : List Token) → F tokens (m ∷ rest)) where
    abbrev mark_scratch : (a : A) → Scratch (Suffix P a (UpTo test P)) Ends Before
    mark_scratch a =
        record {
          tokens = m ∷ [];
          tree = a;
          entries = plain ∷ [];
          whole = λ rest h tokens front p. record { mark = m; front = front; passes = passes; part = p; are = refl };
          before = before;
        }

    -- the same where the mark is missed
    abbrev missed_scratch : (a : A) → Scratch (Suffix P a (UpTo test P)) Ends Any
    missed_scratch a = let s = mark_scratch a in record { tokens = s.tokens; tree = s.tree; entries = s.entries; whole = s.whole; before = λ rest h. tt }

    -- what is read up to the mark
    pub traced_up_to : (start : Option FarthestFailure) (at : ℕ) (limit : Option Told) (tokens : List Token) (b : FarthestFailure) (look : Try A) → Noted at limit → Placed all at limit tokens → Traced P Before F G start at limit tokens b look
        → Traced (UpTo test P) Ends F' G start at limit tokens b (up_to test look)
    traced_up_to start at limit tokens b look n p t =
        traced_then P (UpTo test P) Ends Before F F' G (λ a. token_then test plain (λ mark reach place. Reads a place reach)) start at limit tokens b look n p mark_scratch
        (λ a at' limit' mid reach b end n' p'.
        traced_token (Suffix P a (UpTo test P)) Ends F' Free F test plain (λ mark reach place. Reads a place reach) some (λ t one other h k. marks t one other h) reach at' limit' mid b end n' p'
        (λ mark h at'' limit'' rest reach b end n'' p''.
        traced_end (After mark plain (Suffix P a (UpTo test P))) Ends F' Free a reach at'' limit'' rest b end
        (λ other k tokens front q. record { mark = mark; front = front; passes = h; part = q; are = refl }) (λ other k. tt))
        (missed_scratch a) (λ rest h. missed mid rest)) t

  -- the same beside other ways, from which those before it come
  module _ {A : Type 0} (Q : Language A) (Ends : Class) (F G : Change) where
    -- the ways beside others
    origin_from : {first start reach : Option FarthestFailure} {at : ℕ} {limit : Option Told} {tokens : List Token} {b : FarthestFailure} → Origin Q Ends G start at limit tokens b first → Origin Q Ends G first at limit tokens b reach
        → Origin Q Ends G start at limit tokens b reach
    origin_from o p is = ⊎_elim (λ h. o h) (λ c. inr c) (p is)

    -- what is read beside other ways
    pub traced_from : (first start : Option FarthestFailure) (at : ℕ) (limit : Option Told) (tokens : List Token) (b : FarthestFailure) (look : Try A) → Origin Q Ends G start at limit tokens b first → Traced Q Ends F G first at limit tokens b look
        → Traced Q Ends F G start at limit tokens b look
    traced_from first start at limit tokens b (Reads a (At at' limit' rest) reach) o (g, p) = (g, origin_from o p)
    traced_from first start at limit tokens b (Stops reach) o p = origin_from o p

  -- what is read, or else something else
  pub traced_else : {A : Type 0} (Q : Language A) (Ends : Class) (F G : Change) (other : Reader A) (start : Option FarthestFailure) (at : ℕ) (limit : Option Told) (tokens : List Token) (b : FarthestFailure) (look : Try A)
      → Traced Q Ends F G start at limit tokens b look → ((reach : Option FarthestFailure) → Traced Q Ends F G reach at limit tokens b (other reach (At at limit tokens)))
      → Traced Q Ends F G start at limit tokens b (or_else other (At at limit tokens) look)
  traced_else Q Ends F G other start at limit tokens b (Reads a (At at' limit' rest) reach) t o = t
  traced_else Q Ends F G other start at limit tokens b (Stops reach) t o = traced_from Q Ends F G reach start at limit tokens b (other reach (At at limit tokens)) t (o reach)

  -- what stands before trees of a language
  module _ {A : Type 0} (Q : Language A) (Ends : Class) (F G G' : Change) (head : (old new : List Token) (a : A) (es : List Entry) (rest : List Token) → Q new a es rest → G' old new) where
    -- the ways, by what their trees begin with
    origin_head : {start reach : Option FarthestFailure} {at : ℕ} {limit : Option Told} {tokens : List Token} {b : FarthestFailure} → Origin Q Ends G start at limit tokens b reach → Origin Q Ends G' start at limit tokens b reach
    origin_head {tokens = tokens} o is =
        ⊎_elim (λ h. inl h)
        (λ c. inr (record {
          front = c.front;
          tail = c.tail;
          are = c.are;
          here = c.here;
          more = c.more;
          tree = c.tree;
          entries = c.entries;
          whole = c.whole;
          room = c.room;
          spot = c.spot;
          alike = λ rest h. head tokens (c.front ++ (c.more ++ rest)) c.tree c.entries rest (c.whole rest h);
          stands = c.stands;
        })) (o is)

    -- what is read, by what it begins with
    pub traced_head : (start : Option FarthestFailure) (at : ℕ) (limit : Option Told) (tokens : List Token) (b : FarthestFailure) (look : Try A) → Traced Q Ends F G start at limit tokens b look → Traced Q Ends F G' start at limit tokens b look
    traced_head start at limit tokens b (Reads a (At at' limit' rest) reach) (g, o) = (
      record {
        entries = g.entries;
        piece = g.piece;
        are = g.are;
        stable = g.stable;
        count = g.count;
        passes = g.passes;
        end = g.end;
        alike = λ other f. head tokens (g.piece ++ other) a g.entries other (g.stable other f);
      },
      origin_head o,
    )
    traced_head start at limit tokens b (Stops reach) o = origin_head o
