-- The moves of the machine by what they hang on: most hang on one token alone.
use Rattle.std.proofs.Common.{◌≡◌, ◌⊎◌, inl, inr, ℕ, suc, true, false, List, [], ◌∷◌, ◌++◌, refl, ap, codes, Bool}
use Rattle.std.specs.Prelude.{Option, None, replicate}
use Rattle.def_token.specs.Lexical.{Token}
use Rattle.def_tree.specs.ExprTree as tree
use Rattle.def_tree.specs.ExprTree.{ExprTree}
use Rattle.def_tree.specs.Expressions.{TakesTypeArgs, TakesNone}
use Rattle.def_tree.specs.Limits.{Nesting, Entry, plain, operator_tokens}
use Rattle.def_tree.specs.Operator.{Operator, operator_text, level, sign_at, joins}
use Rattle.def_tree.specs.Part.{expr_goes_on}
use Rattle.def_tree.specs.Statements.{begins_with}
use Rattle.def_tree.specs.Symbol.{Number, End, Sign, symbol, is_sign, Is, IsName}
use Rattle.def_tree.specs.TypeTree.{TypeWord, word_text, TypeTrees, NoTypes}
use Rattle.def_reading.specs.Cursor.{Told, At, passed, noted, reach_at}
use Rattle.def_reading.specs.TypeAhead.{Found, Missing, taken_ahead}
use Rattle.def_reading.specs.Machine.{Frame, Prefix, Casting, Left, Asked, Chosen, InGroup, InFunctionalCast, InCall, InIndex, Mode, Expected, Value, Dotted, Converting, Step, On, Ends, Refused, nesting, bracket_opens, unary_opens, bound, whole, exprs_of, stands, may_assign, assign_by, colon_by, comma_by, closing_by, index_by, step_by, step_at}
use Rattle.law_machine.proofs.MachineComplete.{config}
use Rattle.law_machine.proofs.MachineMoves as moves
use Rattle.law_machine.proofs.MachineMoves.{IsAtom, a_number, a_true, a_false, itself, own_type, Moves, an_atom, converts, prefixes, opens_group, no_arguments, opens_conversion, casts, names_member, calls, indexes, dots, asks, chooses, separates, closes_group, closes_conversion, closes_call, closes_index, view}
use Rattle.law_machine.proofs.MachineSigns.{scalar_start, unary_start}

pub sign_no_end : (t : Token) (text : List ℕ) → symbol t ≡ Sign text → symbol t ≡ End → ⊥
sign_no_end t text h e = cc

pub name_no_end : (t : Token) → IsName t → symbol t ≡ End → ⊥
name_no_end t h e = cc

number_no_end : {wide : Bool} (t : Token) → symbol t ≡ Number wide → symbol t ≡ End → ⊥
number_no_end t h e = cc

-- behind the word of a conversion or a cast stands nothing else
abbrev pub Fits : Mode → List Token → Type 0
Fits Expected before = Unit {0}
Fits (Value v) before = Unit {0}
Fits (Dotted v) before = Unit {0}
Fits (Converting word first) before = (front : List Token) × (before ≡ front ++ first ∷ []) × Is (word_text word) first

module _ (around : Nesting) (long : Option Told) where
  pub data Kind : List Frame → Mode → ℕ → Option Told → List Token → Step → Type 0 where
    uniform : {fs : List Frame} {mode : Mode} {at : ℕ} {limit : Option Told} {t : Token} {ts : List Token} (fs' : List Frame) (mode' : Mode) (e : Entry) → (symbol t ≡ End → ⊥) → ((before : List Token) → Fits mode' (before ++ t ∷ []))
        → ((at : ℕ) (limit : Option Told) (more : List Token) → step_by around long mode fs at limit t more ≡ On None (config fs' mode' (suc at) (noted limit e at t) more))
        → Kind fs mode at limit (t ∷ ts) (On None (config fs' mode' (suc at) (noted limit e at t) ts))
    bare : {fs : List Frame} {at : ℕ} {limit : Option Told} {t : Token} {ts : List Token} → IsName t → begins_with "<" ts ≡ false
        → Kind fs Expected at limit (t ∷ ts) (stands fs (tree.Name t NoTypes) (At (suc at) limit ts))
    without : {fs : List Frame} {at : ℕ} {limit : Option Told} {t : Token} {ts : List Token} → IsName t → begins_with "<" ts ≡ true → TakesNone ts
        → (at' : ℕ) (limit' : Option Told) (rest : List Token) → taken_ahead (nesting around fs).types (suc at) limit ts ≡ Missing (At at' limit' rest)
        → Kind fs Expected at limit (t ∷ ts) (On (reach_at long at' (At at' limit' rest)) (config fs (Value (tree.Name t NoTypes)) (suc at) limit ts))
    generic : {fs : List Frame} {at : ℕ} {limit : Option Told} {t : Token} {ts : List Token} → IsName t → begins_with "<" ts ≡ true
        → (args : TypeTrees) (at' : ℕ) (limit' : Option Told) (rest : List Token) → TakesTypeArgs ts args rest
        → taken_ahead (nesting around fs).types (suc at) limit ts ≡ Found args (At at' limit' rest)
        → Kind fs Expected at limit (t ∷ ts) (stands fs (tree.Name t args) (At at' limit' rest))
    operates : {fs : List Frame} {at : ℕ} {limit : Option Told} {t : Token} {ts : List Token} {v : ExprTree} (op : Operator) (behind : List Token) (next : ℕ)
        → sign_at (t ∷ ts) ≡ (codes (operator_text op), behind)
        → passed (replicate (operator_tokens op) plain) (At at limit (t ∷ ts)) ≡ At next limit behind
        → Kind fs (Value v) at limit (t ∷ ts)
        (On (assign_by around long (may_assign op (whole v fs)) at (At next limit behind))
        (config (Left (bound (level op) v fs).0 op t ∷ (bound (level op) v fs).1) Expected next limit behind))
    ends : {fs : List Frame} {at : ℕ} {limit : Option Told} {ts : List Token} {v e : ExprTree} → whole v fs ≡ (e, []) → expr_goes_on ts ≡ false
        → Kind fs (Value v) at limit ts (Ends e (At at limit ts))
    stuck : {fs : List Frame} {mode : Mode} {at : ℕ} {limit : Option Told} {t : Token} {ts : List Token}
        → ((at : ℕ) (limit : Option Told) (more : List Token) → step_by around long mode fs at limit t more ≡ Refused (At at limit (t ∷ more)))
        → Kind fs mode at limit (t ∷ ts) (Refused (At at limit (t ∷ ts)))
    stuck_behind : {fs fs' : List Frame} {f : Frame} {at : ℕ} {limit : Option Told} {t : Token} {ts : List Token} {v e : ExprTree} (second third : Token) (others : List Token)
        → whole v fs ≡ (e, f ∷ fs') → Is ">" t → joins t ">" second ≡ true → joins second "=" third ≡ true → ts ≡ second ∷ third ∷ others
        → Kind fs (Value v) at limit (t ∷ ts) (Refused (At (suc (suc at)) limit (third ∷ others)))
    exhausted : {fs : List Frame} {mode : Mode} {at : ℕ} {limit : Option Told} → Kind fs mode at limit [] (Refused (At at limit []))

  atom_kind : {fs : List Frame} {at : ℕ} {limit : Option Told} {t : Token} {ts : List Token} {e : ExprTree} → IsAtom t e → Kind fs Expected at limit (t ∷ ts) (stands fs e (At (suc at) limit ts))
  atom_kind {fs = fs} {t = t} (a_number h) = uniform fs (Value (tree.Number t)) plain (number_no_end t h) (λ before. tt) (λ at limit more. rw h refl)
  atom_kind {fs = fs} {t = t} (a_true h) = uniform fs (Value (tree.BooleanLiteral true t)) plain (sign_no_end t _ h) (λ before. tt) (λ at limit more. rw h refl)
  atom_kind {fs = fs} {t = t} (a_false h) = uniform fs (Value (tree.BooleanLiteral false t)) plain (sign_no_end t _ h) (λ before. tt) (λ at limit more. rw h refl)
  atom_kind {fs = fs} {t = t} (itself h) = uniform fs (Value (tree.Itself t)) plain (sign_no_end t _ h) (λ before. tt) (λ at limit more. rw h refl)
  atom_kind {fs = fs} {t = t} (own_type h) = uniform fs (Value (tree.OwnType t)) plain (sign_no_end t _ h) (λ before. tt) (λ at limit more. rw h refl)

  dot_kind : {fs : List Frame} {at : ℕ} {limit : Option Told} {t : Token} {ts : List Token} {v : ExprTree} → Is "." t ⊎ Is "::" t → Kind fs (Value v) at limit (t ∷ ts) (On None (config fs (Dotted v) (suc at) limit ts))
  dot_kind {fs = fs} {t = t} {v = v} (inl h) = uniform fs (Dotted v) plain (sign_no_end t _ h) (λ before. tt) (λ at limit more. rw h refl)
  dot_kind {fs = fs} {t = t} {v = v} (inr h) = uniform fs (Dotted v) plain (sign_no_end t _ h) (λ before. tt) (λ at limit more. rw h refl)

  empty_kind : {fs : List Frame} {at : ℕ} {limit : Option Told} {t : Token} {ts : List Token} (callee : ExprTree) (opening : Token) → Is ")" t
      → Kind (InCall callee opening [] ∷ fs) Expected at limit (t ∷ ts) (stands fs (tree.Call callee opening tree.NoExprs) (At (suc at) limit ts))
  empty_kind {fs = fs} {t = t} callee opening h =
      let closes : is_sign ")" (symbol t) ≡ true = rw h refl in
      uniform fs (Value (tree.Call callee opening tree.NoExprs)) plain (sign_no_end t _ h) (λ before. tt) (λ at limit more. rw (h, closes) refl)

  cast_kind : {fs : List Frame} {at : ℕ} {limit : Option Told} {t : Token} {ts : List Token} {word : TypeWord} {first opening : Token} → Is ")" t
      → Kind (InGroup opening ∷ fs) (Converting word first) at limit (t ∷ ts) (On None (config (Casting opening word first ∷ fs) Expected (suc at) limit ts))
  cast_kind {fs = fs} {t = t} {word = word} {first = first} {opening = opening} h =
      let opens' : is_sign "(" (symbol t) ≡ false = rw h refl in
      let closes : is_sign ")" (symbol t) ≡ true = rw h refl in
      uniform (Casting opening word first ∷ fs) Expected plain (sign_no_end t _ h) (λ before. tt) (λ at limit more. rw (opens', closes) refl)

  pub kind : {fs : List Frame} {mode : Mode} {at : ℕ} {limit : Option Told} {ts : List Token} {s : Step} → Moves around long fs mode at limit ts s → Kind fs mode at limit ts s
  kind (an_atom a) = atom_kind a
  kind (moves.bare n b) = bare n b
  kind (moves.without n b none at' limit' rest is) = without n b none at' limit' rest is
  kind (moves.generic n b args at' limit' rest takes is) = generic n b args at' limit' rest takes is
  kind (converts {fs = fs} {t = t} {word = word} s h) = uniform fs (Converting word t) plain (sign_no_end t _ h) (λ before. (before, refl, h)) (λ at limit more. rw (h, scalar_start word s) refl)
  kind (prefixes {fs = fs} {t = t} {op = op} h) = uniform (Prefix op t ∷ fs) Expected (unary_opens around fs) (sign_no_end t _ h) (λ before. tt) (λ at limit more. rw (h, unary_start op) refl)
  kind (opens_group {fs = fs} {t = t} h) = uniform (InGroup t ∷ fs) Expected (bracket_opens around fs) (sign_no_end t _ h) (λ before. tt) (λ at limit more. rw h refl)
  kind (no_arguments {callee = callee} {opening = opening} h) = empty_kind callee opening h
  kind (opens_conversion {fs = fs} {t = t} {word = word} {first = first} h) = uniform (InFunctionalCast word first ∷ fs) Expected (bracket_opens around fs) (sign_no_end t _ h) (λ before. tt) (λ at limit more. rw h refl)
  kind (casts h) = cast_kind h
  kind (names_member {fs = fs} {t = t} {base = base} h) = uniform fs (Value (tree.Member base t)) plain (name_no_end t h) (λ before. tt) (λ at limit more. rw h refl)
  kind (calls {fs = fs} {t = t} {v = v} h) = uniform (InCall v t [] ∷ fs) Expected (bracket_opens around fs) (sign_no_end t _ h) (λ before. tt) (λ at limit more. rw h refl)
  kind (indexes {fs = fs} {t = t} {v = v} h) = uniform (InIndex v t ∷ fs) Expected (bracket_opens around fs) (sign_no_end t _ h) (λ before. tt) (λ at limit more. rw h refl)
  kind (dots h) = dot_kind h
  kind (asks {fs = fs} {t = t} {v = v} h) = uniform (Asked (bound 1 v fs).0 t ∷ (bound 1 v fs).1) Expected plain (sign_no_end t _ h) (λ before. tt) (λ at limit more. rw h refl)
  kind (chooses {fs' = fs'} {t = t} {q = q} {c = c} {yes' = yes'} h w) =
      uniform (Chosen c q yes' ∷ fs') Expected plain (sign_no_end t _ h) (λ before. tt) (λ at limit more. rw h (ap (λ held. colon_by held (t ∷ more) (At at limit (t ∷ more))) w))
  kind (separates {fs' = fs'} {t = t} {opening = opening} {callee = callee} {arg = arg} {args = args} h w) =
      uniform (InCall callee opening (args ++ arg ∷ []) ∷ fs') Expected plain (sign_no_end t _ h) (λ before. tt) (λ at limit more. rw h (ap (λ held. comma_by held (t ∷ more) (At at limit (t ∷ more))) w))
  kind (closes_group {fs' = fs'} {t = t} {opening = opening} {inner = inner} h w) =
      uniform fs' (Value (tree.Group opening inner)) plain (sign_no_end t _ h) (λ before. tt) (λ at limit more. rw h (ap (λ held. closing_by held (t ∷ more) (At at limit (t ∷ more))) w))
  kind (closes_conversion {fs' = fs'} {t = t} {first = first} {inner = inner} {word = word} h w) =
      uniform fs' (Value (tree.FunctionalCast word first inner)) plain (sign_no_end t _ h) (λ before. tt) (λ at limit more. rw h (ap (λ held. closing_by held (t ∷ more) (At at limit (t ∷ more))) w))
  kind (closes_call {fs' = fs'} {t = t} {opening = opening} {callee = callee} {arg = arg} {args = args} h w) =
      uniform fs' (Value (tree.Call callee opening (exprs_of (args ++ arg ∷ [])))) plain (sign_no_end t _ h) (λ before. tt) (λ at limit more. rw h (ap (λ held. closing_by held (t ∷ more) (At at limit (t ∷ more))) w))
  kind (closes_index {fs' = fs'} {t = t} {opening = opening} {base = base} {inner = inner} h w) =
      uniform fs' (Value (tree.Index base opening inner)) plain (sign_no_end t _ h) (λ before. tt) (λ at limit more. rw h (ap (λ held. index_by held (t ∷ more) (At at limit (t ∷ more))) w))
  kind (moves.operates op behind next sign passes) = operates op behind next sign passes
  kind (moves.ends w end) = ends w end
  kind (moves.stuck each) = stuck each
  kind (moves.stuck_behind {second = second} {third = third} {ts = ts} w g j k) = stuck_behind second third ts w g j k refl
  kind moves.exhausted = exhausted

  -- each step by what it hangs on
  pub kind_of : (mode : Mode) (fs : List Frame) (at : ℕ) (limit : Option Told) (ts : List Token) → Kind fs mode at limit ts (step_at around long mode fs (At at limit ts))
  kind_of mode fs at limit ts = kind (view around long mode fs at limit ts)
