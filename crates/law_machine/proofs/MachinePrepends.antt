-- A step before a tree that goes as far as a way.
use Rattle.std.proofs.Common.{◌≡◌, inl, inr, ℕ, zero, suc, ◌+◌, Bool, true, false, List, [], ◌∷◌, ◌++◌, length, refl, sym, ap, subst, ◌∙◌, codes, arith, length-append, append_assoc}
use Rattle.std.specs.Prelude.{Option, None}
use Rattle.std.proofs.lemmas.Bool.{false≢true}
use Rattle.def_token.specs.Lexical.{Token}
use Rattle.def_tree.specs.ExprTree as tree
use Rattle.def_tree.specs.ExprTree.{ExprTree}
use Rattle.def_tree.specs.Expressions.{LeadsOn, TakesTypeArgs, TakesNone}
use Rattle.def_tree.specs.Limits.{Nesting, operator_tokens}
use Rattle.def_tree.specs.Operator.{Operator, operator_text, level, SignAt}
use Rattle.def_tree.specs.Statements.{begins_with}
use Rattle.def_tree.specs.Symbol.{symbol, IsName}
use Rattle.def_tree.specs.TypeTree.{TypeTrees, NoTypes}
use Rattle.law_tree.proofs.Symbols.{is_sign-true}
use Rattle.def_reading.specs.Cursor.{Told, At, noted, FarthestFailure, reach_at}
use Rattle.def_reading.specs.TypeAhead.{Found, taken_ahead}
use Rattle.def_reading.specs.TypeReading.{Ended}
use Rattle.def_reading.specs.Machine.{Frame, Left, InCall, Mode, Expected, Value, Dotted, Config, On, nesting, bracket_opens, bound, name_by, step_at}
use Rattle.law_types.proofs.AheadFaults.{args_go}
use Rattle.law_types.proofs.AheadSound.{taken_found, none_missing, none_without}
use Rattle.law_machine.proofs.MachineCloses.{to_finish}
use Rattle.law_machine.proofs.MachineComplete.{config}
use Rattle.law_machine.proofs.MachineGrows.{args_exact}
use Rattle.law_machine.proofs.MachineKinds.{Fits}
use Rattle.law_machine.proofs.MachineOpenEnds.{operates_so}
use Rattle.law_machine.proofs.MachineWays.{refused_on}
use Rattle.law_machine.proofs.SignParts.{SignParts, one_token, greater, greater_equal, shift, Apart, NoEqual, greater_sign, equal_sign, shift_sign}
use Rattle.law_types.proofs.TypeStable.{cancel, takes_stable}
use Rattle.law_types.proofs.TypeStages.{Head, next, drive}
use Rattle.law_machine.proofs.MachineFollows.{Completion, some_limit, no_front}

module _ (around : Nesting) (long : Option Told) (assigns' : Bool) (b : FarthestFailure) where
  -- a step before a completion
  pub prepend : {fs fs' : List Frame} {mode mode' : Mode} {at at' : ℕ} {limit limit' : Option Told} {toks toks' : List Token} (s : Token) (others : List Token) (c : Completion around long assigns' b fs' mode' at' limit' toks')
      → at' ≡ at + suc (length others) → toks ≡ s ∷ (others ++ toks') → ((before : List Token) → Fits mode' (before ++ s ∷ others)) → (o : Option FarthestFailure)
      → step_at around long mode fs (At at limit (s ∷ (others ++ (c.front ++ c.more)))) ≡ On o (config fs' mode' at' limit' (c.front ++ c.more)) → Completion around long assigns' b fs mode at limit toks
  prepend {fs = fs} {fs' = fs'} {mode = mode} {mode' = mode'} {at = at} {at' = at'} {limit = limit} {limit' = limit'} s others c at_is are fits o is =
      let assoc : (others ++ c.front) ++ c.more ≡ others ++ (c.front ++ c.more) = append_assoc others c.front c.more in
      record {
        front = s ∷ (others ++ c.front);
        tail = c.tail;
        are = are ∙ ap (λ ts. s ∷ (others ++ ts)) c.are ∙ ap (λ ts. s ∷ ts) (sym (append_assoc others c.front c.tail));
        some_tail = c.some_tail;
        more = c.more;
        finish = to_finish around long o (config fs' mode' at' limit' (c.front ++ c.more)) (ap (λ ts. step_at around long mode fs (At at limit (s ∷ ts))) assoc ∙ is) c.finish;
        limit' = c.limit';
        least = c.least;
        first = c.first;
        others = c.others;
        here = omega (arith, c.here, at_is, length-append others c.front);
        told = c.told;
        grows = c.grows;
        within = c.within;
        least_of = c.least_of;
        over = c.over;
        kept = λ before inner opening _ h less end none. c.kept (before ++ s ∷ others) inner opening (fits before) (append_assoc before (s ∷ others) c.front ∙ h) less end none;
        empty = λ h. absurd (no_front s (others ++ c.front) h);
      }

  -- a name before tokens of which it takes none
  name_alone_by : (l : Bool) (fs : List Frame) (at : ℕ) (limit : Option Told) (p : Token) (ts : List Token) → IsName p → begins_with "<" ts ≡ l → TakesNone ts
      → (o : Option FarthestFailure) × (step_at around long Expected fs (At at limit (p ∷ ts)) ≡ On o (config fs (Value (tree.Name p NoTypes)) (suc at) limit ts))
  name_alone_by true fs at limit p [] n l none = absurd (false≢true l)
  name_alone_by true fs at limit p (opening ∷ ts) n l none =
      let m = none_missing (nesting around fs).types (suc at) limit opening ts (is_sign-true "<" (symbol opening) l) none in
      (reach_at long m.at (At m.at m.limit m.rest), rw (n, l) (ap (λ look. name_by around long look fs p (At (suc at) limit (opening ∷ ts))) m.is))
  name_alone_by false fs at limit p ts n l none = (None, rw (n, l) refl)

  name_alone : (fs : List Frame) (at : ℕ) (limit : Option Told) (p : Token) (ts : List Token) → IsName p → TakesNone ts
      → (o : Option FarthestFailure) × (step_at around long Expected fs (At at limit (p ∷ ts)) ≡ On o (config fs (Value (tree.Name p NoTypes)) (suc at) limit ts))
  name_alone fs at limit p ts n none = name_alone_by (begins_with "<" ts) fs at limit p ts n refl none

  none_more : {fs : List Frame} {v : ExprTree} {at : ℕ} {limit : Option Told} {toks : List Token} (c : Completion around long assigns' b fs (Value v) at limit toks) → TakesNone toks → Ended toks
      → (front : List Token) → c.front ≡ front → TakesNone (front ++ c.more)
  none_more c none end [] is = none_without c.more (c.empty is).2.no_less
  none_more {toks = toks} c none end (o ∷ front) is = none_kept_by (begins_with "<" (o ∷ (front ++ c.more))) refl
    where
      none_kept_by : (l : Bool) → begins_with "<" (o ∷ (front ++ c.more)) ≡ l → TakesNone (o ∷ (front ++ c.more))
      none_kept_by true l =
          let toks_are : toks ≡ o ∷ (front ++ c.tail) = c.are ∙ ap (λ ts. ts ++ c.tail) is in
          c.kept [] front o tt is (is_sign-true "<" (symbol o) l) (subst Ended toks_are end) (subst TakesNone toks_are none)
      none_kept_by false l = none_without (o ∷ (front ++ c.more)) l

  pub name_prepend : {fs : List Frame} {at : ℕ} {limit : Option Told} {p : Token} {ts : List Token} → IsName p → TakesNone ts → Ended ts → Completion around long assigns' b fs (Value (tree.Name p NoTypes)) (suc at) limit ts
      → Completion around long assigns' b fs Expected at limit (p ∷ ts)
  name_prepend {fs = fs} {at = at} {limit = limit} {p = p} {ts = ts} n none end c =
      let alone = name_alone fs at limit p (c.front ++ c.more) n (none_more c none end c.front refl) in
      prepend p [] c (omega arith) refl (λ before. tt) alone.0 alone.1

  lead_on : (fs : List Frame) (v : ExprTree) (at : ℕ) (limit : Option Told) (t : Token) (behind : List Token) → LeadsOn t
      → (d : Config) × (step_at around long (Value v) fs (At at limit (t ∷ behind)) ≡ On None d)
  lead_on fs v at limit t behind (inl h) = (config (InCall v t [] ∷ fs) Expected (suc at) (noted limit (bracket_opens around fs) at t) behind, rw h refl)
  lead_on fs v at limit t behind (inr (inl h)) = (config fs (Dotted v) (suc at) limit behind, rw h refl)
  lead_on fs v at limit t behind (inr (inr h)) = (config fs (Dotted v) (suc at) limit behind, rw h refl)

  -- a name with type arguments
  pub generic_prepend : {fs : List Frame} {at : ℕ} {limit : Option Told} {p o : Token} {ts : List Token} (args : TypeTrees) (at' : ℕ) (limit' : Option Told) (left : List Token) → IsName p → begins_with "<" (o ∷ ts) ≡ true
      → (takes : TakesTypeArgs (o ∷ ts) args left) → taken_ahead (nesting around fs).types (suc at) limit (o ∷ ts) ≡ Found args (At at' limit' left)
      → (c : Completion around long assigns' b fs (Value (tree.Name p args)) at' limit' left) → (front : List Token) → c.front ≡ front → Completion around long assigns' b fs Expected at limit (p ∷ o ∷ ts)
  generic_prepend {fs = fs} {p = p} args at' limit' left n less takes found c [] is =
      let place = c.empty is in
      let on = lead_on fs (tree.Name p args) at' limit' takes.next takes.behind takes.leads in
      absurd (refused_on around long place.0 None on.0 (step_at around long (Value (tree.Name p args)) fs (At at' limit' left)) place.1
      (ap (λ toks. step_at around long (Value (tree.Name p args)) fs (At at' limit' toks)) takes.rest_is ∙ on.1))
  generic_prepend {fs = fs} {at = at} {limit = limit} {p = p} {o = o} {ts = ts} args at' limit' left n less takes found c (t ∷ front) is =
      let types = (nesting around fs).types in
      let g = args_go takes types (suc at) limit in
      let exact = args_exact types (suc at) limit takes at' limit' found in
      let piece = g.pieces.piece in
      let left_is : left ≡ t ∷ (front ++ c.tail) = c.are ∙ ap (λ ts. ts ++ c.tail) is in
      let onto : o ∷ ts ≡ (o ∷ piece) ++ t ∷ (front ++ c.tail) = ap (λ ts. o ∷ ts) (g.pieces.are ∙ ap (λ left. piece ++ left) left_is) in
      let takes' = takes_stable (o ∷ piece) t (front ++ c.tail) (front ++ c.more) (subst (λ left. TakesTypeArgs ((o ∷ piece) ++ t ∷ (front ++ c.tail)) args left) left_is (subst (λ toks. TakesTypeArgs toks args left) onto takes)) in
      let found' = taken_found takes' types (suc at) limit in
      let g' = args_go takes' types (suc at) limit in
      let exact' = args_exact types (suc at) limit takes' found'.at found'.limit found'.found in
      let same : g'.pieces.piece ≡ piece = cancel g'.pieces.piece piece (t ∷ (front ++ c.more)) (sym g'.pieces.are) in
      let at_same : found'.at ≡ at' = omega (arith, exact'.0, g'.pieces.is_at, ap length same, exact.0, g.pieces.is_at) in
      let limits = some_limit g'.pieces.limit' g.pieces.limit' (drive (Head types zero) (suc (suc at)) limit piece) (ap (drive (Head types zero) (suc (suc at)) limit) (sym same) ∙ g'.pieces.drives.is) g.pieces.drives.is in
      let limit_same : found'.limit ≡ limit' = exact'.1 ∙ limits ∙ sym exact.1 in
      let front_is : t ∷ (front ++ c.more) ≡ c.front ++ c.more = ap (λ ts. ts ++ c.more) (sym is) in
      let look : taken_ahead types (suc at) limit (o ∷ (piece ++ (c.front ++ c.more))) ≡ Found args (At at' limit' (c.front ++ c.more)) =
      ap (λ rest. taken_ahead types (suc at) limit (o ∷ (piece ++ rest))) (sym front_is) ∙ found'.found ∙ ap (λ k. Found args (At k found'.limit (t ∷ (front ++ c.more)))) at_same
      ∙ ap (λ l. Found args (At at' l (t ∷ (front ++ c.more)))) limit_same ∙ ap (λ rest. Found args (At at' limit' rest)) front_is in
      prepend p (o ∷ piece) c (omega (arith, exact.0, g.pieces.is_at)) (ap (λ ts. p ∷ o ∷ ts) g.pieces.are) (λ before. tt) None
      (rw (n, less) (ap (λ look. name_by around long look fs p (At (suc at) limit (o ∷ (piece ++ (c.front ++ c.more))))) look))

  -- an operator
  apart_more : {fs : List Frame} {mode : Mode} {at : ℕ} {limit : Option Told} {toks : List Token} (c : Completion around long assigns' b fs mode at limit toks) (p : Token) (front : List Token) → c.front ≡ front → Apart p toks → Apart p (front ++ c.more)
  apart_more c p [] is a = (c.empty is).2.apart p
  apart_more c p (q ∷ front) is a = subst (Apart p) (c.are ∙ ap (λ ts. ts ++ c.tail) is) a

  equal_more : {fs : List Frame} {mode : Mode} {at : ℕ} {limit : Option Told} {toks : List Token} (c : Completion around long assigns' b fs mode at limit toks) (p : Token) (front : List Token) → c.front ≡ front → NoEqual p toks → NoEqual p (front ++ c.more)
  equal_more c p [] is a = (c.empty is).2.no_equal p
  equal_more c p (q ∷ front) is a = subst (NoEqual p) (c.are ∙ ap (λ ts. ts ++ c.tail) is) a

  abbrev sign_pair : Operator → List Token → SignAt
  sign_pair op ts = (codes (operator_text op), ts)

  pub operator_prepend : {fs : List Frame} {v : ExprTree} {at : ℕ} {limit : Option Told} {t : Token} {ts : List Token} (op : Operator) (behind : List Token) (next : ℕ) → next ≡ at + operator_tokens op → length (t ∷ ts) ≡ operator_tokens op + length behind
      → (c : Completion around long assigns' b (Left (bound (level op) v fs).0 op t ∷ (bound (level op) v fs).1) Expected next limit behind) → SignParts t ts op behind → Completion around long assigns' b fs (Value v) at limit (t ∷ ts)
  operator_prepend {fs = fs} {v = v} {at = at} {limit = limit} {t = t} {ts = ts} op behind next is covered c (one_token g no_end each are) =
      let o = operates_so around long fs v at limit t (c.front ++ c.more) (c.front ++ c.more) op (each (c.front ++ c.more)) in
      prepend t [] c (omega (arith, is, covered, ap length are)) (ap (λ ts. t ∷ ts) (sym are)) (λ before. tt) o.other
      (o.is ∙ ap (λ k. On o.other (config (Left (bound (level op) v fs).0 op t ∷ (bound (level op) v fs).1) Expected k limit (c.front ++ c.more))) (sym is))
  operator_prepend {fs = fs} {v = v} {at = at} {limit = limit} {t = t} {ts = ts} op behind next is covered c (greater g op_is are a) =
      let o = operates_so around long fs v at limit t (c.front ++ c.more) (c.front ++ c.more) op
      (greater_sign t (c.front ++ c.more) g (apart_more c t c.front refl (subst (Apart t) (sym are) a)) ∙ ap (λ op. sign_pair op (c.front ++ c.more)) (sym op_is)) in
      prepend t [] c (omega (arith, is, ap operator_tokens op_is)) (ap (λ ts. t ∷ ts) (sym are)) (λ before. tt) o.other
      (o.is ∙ ap (λ k. On o.other (config (Left (bound (level op) v fs).0 op t ∷ (bound (level op) v fs).1) Expected k limit (c.front ++ c.more))) (sym is))
  operator_prepend {fs = fs} {v = v} {at = at} {limit = limit} {t = t} {ts = ts} op behind next is covered c (greater_equal g q are j k op_is) =
      let o = operates_so around long fs v at limit t (q ∷ (c.front ++ c.more)) (c.front ++ c.more) op (equal_sign t q (c.front ++ c.more) g j k ∙ ap (λ op. sign_pair op (c.front ++ c.more)) (sym op_is)) in
      prepend t (q ∷ []) c (omega (arith, is, ap operator_tokens op_is)) (ap (λ ts. t ∷ ts) are) (λ before. tt) o.other
      (o.is ∙ ap (λ k. On o.other (config (Left (bound (level op) v fs).0 op t ∷ (bound (level op) v fs).1) Expected k limit (c.front ++ c.more))) (sym is))
  operator_prepend {fs = fs} {v = v} {at = at} {limit = limit} {t = t} {ts = ts} op behind next is covered c (shift g q are j a op_is) =
      let o = operates_so around long fs v at limit t (q ∷ (c.front ++ c.more)) (c.front ++ c.more) op
      (shift_sign t q (c.front ++ c.more) g j (equal_more c q c.front refl a) ∙ ap (λ op. sign_pair op (c.front ++ c.more)) (sym op_is)) in
      prepend t (q ∷ []) c (omega (arith, is, ap operator_tokens op_is)) (ap (λ ts. t ∷ ts) are) (λ before. tt) o.other
      (o.is ∙ ap (λ k. On o.other (config (Left (bound (level op) v fs).0 op t ∷ (bound (level op) v fs).1) Expected k limit (c.front ++ c.more))) (sym is))
