-- What the machine comes to in front of tokens, beside a tree of other tokens with the same front.
use Rattle.std.proofs.Common.{◌≡◌, ◌⊎◌, inl, inr, ⊎_elim, ℕ, ◌+◌, ◌<◌, ◌≤◌, Bool, true, false, List, [], ◌∷◌, ◌++◌, length, refl, sym, ap, subst, ◌∙◌, codes, arith}
use Rattle.std.specs.Prelude.{Option, Some, None, nat_lt, ◌||◌}
use Rattle.std.specs.List.{list_any}
use Rattle.std.specs.Str.{bytes_eq}
use Rattle.std.proofs.lemmas.Bool.{false≢true, or_parts}
use Rattle.std.proofs.lemmas.Bool.Decides.{nat_tests}
use Rattle.std.proofs.lemmas.Slice.Eq.{bytes_eq-Decides}
use Prim.Native.String.{String}
use Rattle.def_token.specs.Lexical.{Token}
use Rattle.def_tree.specs.ExprTree.{ExprTree}
use Rattle.def_tree.specs.Limits.{Nesting}
use Rattle.def_tree.specs.Operator.{Operator, operators, operator_text, Greater, sign_at, joins}
use Rattle.def_tree.specs.Part.{begins_with_operator, expr_goes_on, signs_behind}
use Rattle.def_tree.specs.Statements.{begins_with}
use Rattle.def_tree.specs.Symbol.{symbol, is_sign, Is}
use Rattle.law_tree.proofs.OperatorSigns.{sign_by}
use Rattle.def_reading.specs.Cursor.{Told, Cursor, At, before, earlier, told_by, FarthestFailure}
use Rattle.def_reading.specs.Machine.{Frame, Mode, Config, Step, On, Ends, Refused, written, step_at}
use Rattle.def_reading.specs.Try.{Try, Reads, Stops, assign_ends, finished}
use Rattle.def_reading.specs.TypeReading.{Ended}
use Rattle.law_types.proofs.AheadFaults.{Within, no_limit, a_limit, Grows}
use Rattle.law_types.proofs.LimitSpots.{same_place}
use Rattle.law_machine.proofs.MachineComplete.{config}
use Rattle.law_machine.proofs.MachineGrows.{Finishes, goes_on, GrowsStep, GrowsTo, GrowsFrom, finishes_grows, step_grows_at, AtMost, less_far, at_most_more, Above, above}
use Rattle.law_machine.proofs.MachineGrows as grows
use Rattle.law_machine.proofs.MachineKinds.{Kind, uniform, bare, without, generic, operates, ends, stuck, stuck_behind, exhausted, kind_of}
use Rattle.law_machine.proofs.MachineSigns.{operator_found}
use Rattle.law_machine.proofs.MachineWays.{LeastOf}
use Rattle.law_machine.proofs.SignParts.{greater_sign, assign_sign}
use Rattle.law_machine.proofs.SignsBehind.{IsAssignment, assigns, any-written, alone}
use Rattle.law_exprs.proofs.TryComes.{Noted}
use Rattle.law_exprs.proofs.TryHolds.{Holds}

-- a limit that is noted at a token stands before the later ones
pub noted_within : (at at' : ℕ) (limit : Option Told) → at < at' → Noted at limit → Within at' limit
noted_within at at' None h n = no_limit
noted_within at at' (Some told) h n = a_limit told (omega (arith, h, n))

-- a limit before a place is told before it
pub before_within : (at : ℕ) (limit : Option Told) → Within at limit → before at limit ≡ limit
before_within at None w = refl
before_within at (Some told) (a_limit same h) = let yes' : nat_lt told.at at ≡ true = grind (arith, nat_tests, h) in rw yes' refl

above_up : (w r : FarthestFailure) (o : Option FarthestFailure) → AtMost w r → Above r o → Above w o
above_up w r (Some s) h (above same k) = above s (at_most_more w r s h k)
above_up w r None h a = elim a [ ]

-- what ends earlier counts less
pub above_less : (w r : FarthestFailure) (o : Option FarthestFailure) → w.many < r.many → Above r o → Above w o
above_less w r o h a = above_up w r o (less_far h) a

-- what counts less is held where what counts more is
pub holds_up : {A : Type 0} (w r : FarthestFailure) (look : Try A) → AtMost w r → w.many ≡ r.many → Holds r look → Holds w look
holds_up w r (Reads a (At at limit rest) reach) h same k = (k.0, ⊎_elim (λ a. inl (above_up w r reach h a)) (λ less. inr (omega (arith, less, same))) k.1)
holds_up w r (Stops reach) h same k = above_up w r reach h k

-- `>>=` stands at a place, and begins before another place and ends behind it
pub record Across (m n : ℕ) (rest : List Token) : Type 0 where
  pub from : n < m
  pub upto : m < n + 3
  pub sign : bytes_eq (sign_at rest).0 (codes ">>=") ≡ true

-- The machine comes to the same expression in the front; to one that ends where the front does; it is told there what is
-- told of the tree; it goes over the place; or it ends before `>>=`, which goes over the place.
pub data Goes (assigns' : Bool) (long : Option Told) (us us' : List Token) (m : ℕ) (e : ExprTree) (n : ℕ) (lf : Option Told) (rest' : List Token) (look : Try ExprTree) : Type 0 where
  as_other : (front : List Token) (reach : Option FarthestFailure) → rest' ≡ front ++ us' → m ≡ n + length front → expr_goes_on (front ++ us) ≡ false
      → look ≡ Reads e (finished long (At n lf (front ++ us))) reach → Goes assigns' long us us' m e n lf rest' look
  ends_at : (b : ExprTree) (l : Option Told) (reach : Option FarthestFailure) → look ≡ Reads b (finished long (At m l us)) reach → m ≤ n → Grows m l lf → Within m l → Goes assigns' long us us' m e n lf rest' look
  told_at : (limit : Option Told) (least : ℕ) (t : Token) (ts : List Token) (r : FarthestFailure) → r.many ≡ m → told_by (earlier limit (before least long)) m (t ∷ ts) ≡ Some r.told → Holds r look
      → Grows m limit lf → Within m limit → LeastOf n m least → (m ≤ n) ⊎ ((assigns' ≡ true) × Across m n rest') → Goes assigns' long us us' m e n lf rest' look
  past_all : ((w : FarthestFailure) → w.many ≡ m → Holds w look) → Goes assigns' long us us' m e n lf rest' look
  over : (b : ExprTree) (at' : ℕ) (limit' : Option Told) (rest : List Token) (reach : Option FarthestFailure) → look ≡ Reads b (At at' limit' rest) reach → Ended rest → assigns' ≡ true → Across m at' rest → Goes assigns' long us us' m e n lf rest' look

-- signs behind a whole expression
pub sign_same : (p : Token) (x y : List Token) → is_sign ">" (symbol p) ≡ false → (sign_at (p ∷ x)).0 ≡ (sign_at (p ∷ y)).0
sign_same p x y g = ap (λ b. (sign_by b p x).0) g ∙ sym (ap (λ b. (sign_by b p y).0) g)

abbrev goes_text : List ℕ → Token → Bool
goes_text text p =
    list_any (λ (operator : Operator). bytes_eq text (codes (operator_text operator))) operators || list_any (λ (sign : String). begins_with sign (p ∷ [])) signs_behind

-- before a token other than `>` an expression goes on whatever stands behind the token, or never
pub goes_same : (p : Token) (x y : List Token) → is_sign ">" (symbol p) ≡ false → expr_goes_on (p ∷ x) ≡ expr_goes_on (p ∷ y)
goes_same p x y g = ap (λ text. goes_text text p) (sign_same p x y g)

-- `>>=` does not go on with an expression
pub assign_goes : (p q r : Token) (ts : List Token) → Is ">" p → joins p ">" q ≡ true → joins q "=" r ≡ true → expr_goes_on (p ∷ q ∷ r ∷ ts) ≡ false
assign_goes p q r ts g j k = ap (λ text. goes_text text p) (ap (λ (x : List ℕ × List Token). x.0) (assign_sign p q r ts g j k)) ∙ rw g refl

-- where `>` does not go on it begins `>>=`
pub greater_assigns : (p : Token) (ts : List Token) → Is ">" p → expr_goes_on (p ∷ ts) ≡ false → bytes_eq (sign_at (p ∷ ts)).0 (codes ">>=") ≡ true
greater_assigns p ts g h =
    let none = any-written operator_text operators (sign_at (p ∷ ts)).0 (or_parts (begins_with_operator (p ∷ ts)) _ h).0 in
    by_sign (bytes_eq (sign_at (p ∷ ts)).0 (codes ">>=")) refl none
  where
    by_sign : (b : Bool) → bytes_eq (sign_at (p ∷ ts)).0 (codes ">>=") ≡ b → written operator_text operators (sign_at (p ∷ ts)).0 ≡ None → bytes_eq (sign_at (p ∷ ts)).0 (codes ">>=") ≡ true
    by_sign true is none = is
    by_sign false is none =
        let no' = (alone p ts none is).no_operator [] in
        let yes' = ap (λ (x : List ℕ × List Token). written operator_text operators x.0) (greater_sign p [] g tt) ∙ operator_found Greater in
        absurd (cc)

-- the tokens of `>>=`
pub assign_parts : (p : Token) (ts : List Token) → bytes_eq (sign_at (p ∷ ts)).0 (codes ">>=") ≡ true → IsAssignment p ts
assign_parts p ts h = assigns p ts ((bytes_eq-Decides (sign_at (p ∷ ts)).0 (codes ">>=")).0 h)

-- where no assignment may stand, no expression ends before `>>=`
pub assign_none : (b : Bool) (ts : List Token) → assign_ends b ts ≡ false → bytes_eq (sign_at ts).0 (codes ">>=") ≡ true → b ≡ true
assign_none true ts h k = refl
assign_none false ts h k = absurd (false≢true (sym h ∙ k))

-- what ends before `>>=` where no assignment may stand
pub assign_some : (b : Bool) (ts : List Token) → assign_ends b ts ≡ true → (b ≡ false) × (bytes_eq (sign_at ts).0 (codes ">>=") ≡ true)
assign_some true ts h = absurd (false≢true h)
assign_some false ts h = (refl, h)

on_ends : (o : Option FarthestFailure) (d : Config) (e : ExprTree) (place : Cursor) → On o d ≡ Ends e place → ⊥
on_ends o d e place h = cc

refused_ends : (p : Cursor) (e : ExprTree) (place : Cursor) → Refused p ≡ Ends e place → ⊥
refused_ends p e place h = cc

ends_same : (e e' : ExprTree) (p q : Cursor) (s : Step) → s ≡ Ends e p → s ≡ Ends e' q → (e ≡ e') × (p ≡ q)
ends_same e e' p q s h k = (cc, cc)

ends_on : (e : ExprTree) (p : Cursor) (o : Option FarthestFailure) (d : Config) (s : Step) → s ≡ Ends e p → s ≡ On o d → ⊥
ends_on e p o d s h k = cc

module _ (around : Nesting) (long : Option Told) where
  ends_goes_by : {fs : List Frame} {mode : Mode} {at : ℕ} {limit : Option Told} {ts : List Token} {s : Step} (e : ExprTree) (place : Cursor) → Kind around long fs mode at limit ts s → s ≡ Ends e place → expr_goes_on ts ≡ false
  ends_goes_by e place (uniform fs' mode' en no_end fits each) h = absurd (on_ends _ _ e place h)
  ends_goes_by e place (bare n l) h = absurd (on_ends _ _ e place h)
  ends_goes_by e place (without n l none at' limit' rest look) h = absurd (on_ends _ _ e place h)
  ends_goes_by e place (generic n l args at' limit' rest takes look) h = absurd (on_ends _ _ e place h)
  ends_goes_by e place (operates op behind next sign passes) h = absurd (on_ends _ _ e place h)
  ends_goes_by e place (ends w end) h = end
  ends_goes_by e place (stuck each) h = absurd (refused_ends _ e place h)
  ends_goes_by e place (stuck_behind p q others w g j k are) h = absurd (refused_ends _ e place h)
  ends_goes_by e place exhausted h = absurd (refused_ends _ e place h)

  -- nothing goes on where an expression ends
  pub ends_goes : (mode : Mode) (fs : List Frame) (at : ℕ) (limit : Option Told) (ts : List Token) (e : ExprTree) (place : Cursor) → step_at around long mode fs (At at limit ts) ≡ Ends e place → expr_goes_on ts ≡ false
  ends_goes mode fs at limit ts e place h = ends_goes_by e place (kind_of around long mode fs at limit ts) h

  -- nothing goes on behind an expression
  pub finishes_goes : {c : Config} {e : ExprTree} {n : ℕ} {lf : Option Told} {rest : List Token} → Finishes around long c e n lf rest → expr_goes_on rest ≡ false
  finishes_goes {c = c} {e = e} {n = n} {lf = lf} {rest = rest} (grows.finished s) = goes_at c.mode c.frames c.place e n lf rest s
    where
      goes_at : (mode : Mode) (fs : List Frame) (place : Cursor) (e : ExprTree) (n : ℕ) (lf : Option Told) (rest : List Token) → step_at around long mode fs place ≡ Ends e (At n lf rest) → expr_goes_on rest ≡ false
      goes_at mode fs (At at limit ts) e n lf rest s =
          let same = same_place (subst (GrowsStep at limit ts) s (step_grows_at around long mode fs at limit ts)) in
          subst (λ ts. expr_goes_on ts ≡ false) (sym same.2) (ends_goes mode fs at limit ts e (At n lf rest) s)
  finishes_goes (goes_on o d s f) = finishes_goes f

  place_less : (place : Cursor) (at : ℕ) (limit : Option Told) (n : ℕ) (lf : Option Told) → GrowsTo at limit place → GrowsFrom place n lf → at < n
  place_less (At at' limit' ts) at limit n lf g h = omega (arith, g.0, h.0)

  -- an expression that ends at a place ends there with the first step
  pub finish_there : {fs : List Frame} {mode : Mode} {at : ℕ} {limit : Option Told} {ts : List Token} {e : ExprTree} {n : ℕ} {lf : Option Told} {rest : List Token} → Finishes around long (config fs mode at limit ts) e n lf rest → n ≡ at
      → step_at around long mode fs (At at limit ts) ≡ Ends e (At n lf rest)
  finish_there (grows.finished s) is = s
  finish_there {fs = fs} {mode = mode} {at = at} {limit = limit} {ts = ts} {n = n} {lf = lf} (goes_on o d s f) is =
      absurd (omega (arith, is, place_less d.place at limit n lf (subst (GrowsStep at limit ts) s (step_grows_at around long mode fs at limit ts)) (finishes_grows f)))

  -- and the tokens are those there
  pub finish_rest : {fs : List Frame} {mode : Mode} {at : ℕ} {limit : Option Told} {ts : List Token} {e : ExprTree} {n : ℕ} {lf : Option Told} {rest : List Token} → Finishes around long (config fs mode at limit ts) e n lf rest → n ≡ at
      → rest ≡ ts
  finish_rest {fs = fs} {mode = mode} {at = at} {limit = limit} {ts = ts} f is =
      (same_place (subst (GrowsStep at limit ts) (finish_there f is) (step_grows_at around long mode fs at limit ts))).2

  -- where the first step ends an expression, this is the one
  pub finish_one : {fs : List Frame} {mode : Mode} {at : ℕ} {limit : Option Told} {ts : List Token} {e : ExprTree} {n : ℕ} {lf : Option Told} {rest : List Token} (e' : ExprTree) (place : Cursor)
      → Finishes around long (config fs mode at limit ts) e n lf rest → step_at around long mode fs (At at limit ts) ≡ Ends e' place → (e ≡ e') × (At n lf rest ≡ place)
  finish_one {fs = fs} {mode = mode} {at = at} {limit = limit} {ts = ts} {e = e} {n = n} {lf = lf} {rest = rest} e' place (grows.finished s) h =
      ends_same e e' (At n lf rest) place (step_at around long mode fs (At at limit ts)) s h
  finish_one {fs = fs} {mode = mode} {at = at} {limit = limit} {ts = ts} e' place (goes_on o d s f) h = absurd (ends_on e' place o d (step_at around long mode fs (At at limit ts)) h s)
