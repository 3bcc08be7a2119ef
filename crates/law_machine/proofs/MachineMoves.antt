-- The moves of the machine: what each step takes, and where it leads.
use Rattle.std.proofs.Common.{◌≡◌, ◌⊎◌, inl, inr, ℕ, suc, Bool, true, false, List, [], ◌∷◌, ◌++◌, refl, sym, ap, subst, ◌∙◌, codes}
use Rattle.std.specs.Prelude.{Option, Some, None, IsTrue, replicate}
use Rattle.std.specs.Str.{bytes_eq}
use Rattle.std.proofs.lemmas.Bool.{false≢true}
use Rattle.std.proofs.lemmas.Slice.Eq.{bytes_eq-Decides}
use Rattle.def_token.specs.Lexical.{Token}
use Rattle.def_tree.specs.ExprTree as tree
use Rattle.def_tree.specs.ExprTree.{ExprTree, ExprTrees, NoExprs, MoreExprs}
use Rattle.def_tree.specs.Expressions.{TakesTypeArgs, TakesNone}
use Rattle.def_tree.specs.Limits.{Nesting, plain, operator_tokens}
use Rattle.def_tree.specs.Operator.{Operator, operators, operator_text, level, UnaryOperator, unary_text, sign_at, joins}
use Rattle.def_tree.specs.Part.{expr_goes_on}
use Rattle.def_tree.specs.Statements.{begins_with}
use Rattle.def_tree.specs.Symbol.{Symbol, Name, Number, Text, End, Sign, symbol, is_sign, Is, IsName, IsNumeral}
use Rattle.def_tree.specs.TypeTree.{TypeWord, Void, Uint3, This, word_text, is_scalar, TypeTrees, NoTypes}
use Rattle.law_tree.proofs.Symbols.{is_sign-true, is_numeral}
use Rattle.def_reading.specs.Cursor.{Told, At, passed, noted, reach_at}
use Rattle.def_reading.specs.TypeAhead.{LookAhead, Found, Missing, names, taken_ahead}
use Rattle.def_reading.specs.Machine.{Frame, Prefix, Casting, Left, Asked, Chosen, InGroup, InFunctionalCast, InCall, InIndex, Mode, Expected, Value, Dotted, Converting, Step, On, Ends, Refused, nesting, bracket_opens, unary_opens, Held, bound, whole, written, sign_of, start_text, starts, behind_text, behinds, Start, True, False, Itself, OwnType, Bracket, Scalar, Unary, Behind, Call, Index, Dot, Colons, Question, Colon, Comma, Closing, IndexClosing, exprs_of, stands, expects, name_by, name_if, empty_by, start_by, operand_by, cast_by, conversion_by, member_by, refused_by, ends_by, may_assign, assign_by, operator_by, colon_by, comma_by, closing_by, index_by, behind_by, step_by, step_at}
use Rattle.law_types.proofs.AheadSound.{SoundLook, taken_sound, taken_missing, names-true}
use Rattle.law_machine.proofs.MachineComplete.{config}
use Rattle.law_machine.proofs.MachineSigns.{written-some, sign_of-some, operator_passes}
use Rattle.law_machine.proofs.SignsBehind.{ends_before, IsAssignment, assigns, alone}
use Rattle.law_tree.proofs.Words.{every_word}

-- an operand of one token
pub data IsAtom : Token → ExprTree → Type 0 where
  a_number : {token : Token} → IsNumeral token → IsAtom token (tree.Number token)
  a_true : {token : Token} → Is "true" token → IsAtom token (tree.BooleanLiteral true token)
  a_false : {token : Token} → Is "false" token → IsAtom token (tree.BooleanLiteral false token)
  itself : {token : Token} → Is "this" token → IsAtom token (tree.Itself token)
  own_type : {token : Token} → Is "This" token → IsAtom token (tree.OwnType token)

module _ (around : Nesting) (long : Option Told) where
  -- a step at a place, by what it does
  pub data Moves : List Frame → Mode → ℕ → Option Told → List Token → Step → Type 0 where
    an_atom : {fs : List Frame} {at : ℕ} {limit : Option Told} {t : Token} {ts : List Token} {e : ExprTree} → IsAtom t e
        → Moves fs Expected at limit (t ∷ ts) (stands fs e (At (suc at) limit ts))
    bare : {fs : List Frame} {at : ℕ} {limit : Option Told} {t : Token} {ts : List Token} → IsName t → begins_with "<" ts ≡ false
        → Moves fs Expected at limit (t ∷ ts) (stands fs (tree.Name t NoTypes) (At (suc at) limit ts))
    without : {fs : List Frame} {at : ℕ} {limit : Option Told} {t : Token} {ts : List Token} → IsName t → begins_with "<" ts ≡ true → TakesNone ts
        → (at' : ℕ) (limit' : Option Told) (rest : List Token) → taken_ahead (nesting around fs).types (suc at) limit ts ≡ Missing (At at' limit' rest)
        → Moves fs Expected at limit (t ∷ ts) (On (reach_at long at' (At at' limit' rest)) (config fs (Value (tree.Name t NoTypes)) (suc at) limit ts))
    generic : {fs : List Frame} {at : ℕ} {limit : Option Told} {t : Token} {ts : List Token} → IsName t → begins_with "<" ts ≡ true
        → (args : TypeTrees) (at' : ℕ) (limit' : Option Told) (rest : List Token) → TakesTypeArgs ts args rest
        → taken_ahead (nesting around fs).types (suc at) limit ts ≡ Found args (At at' limit' rest)
        → Moves fs Expected at limit (t ∷ ts) (stands fs (tree.Name t args) (At at' limit' rest))
    converts : {fs : List Frame} {at : ℕ} {limit : Option Told} {t : Token} {ts : List Token} {word : TypeWord} → IsTrue (is_scalar word) → Is (word_text word) t
        → Moves fs Expected at limit (t ∷ ts) (On None (config fs (Converting word t) (suc at) limit ts))
    prefixes : {fs : List Frame} {at : ℕ} {limit : Option Told} {t : Token} {ts : List Token} {op : UnaryOperator} → Is (unary_text op) t
        → Moves fs Expected at limit (t ∷ ts) (expects (Prefix op t ∷ fs) (At (suc at) (noted limit (unary_opens around fs) at t) ts))
    opens_group : {fs : List Frame} {at : ℕ} {limit : Option Told} {t : Token} {ts : List Token} → Is "(" t
        → Moves fs Expected at limit (t ∷ ts) (expects (InGroup t ∷ fs) (At (suc at) (noted limit (bracket_opens around fs) at t) ts))
    no_arguments : {fs : List Frame} {at : ℕ} {limit : Option Told} {t : Token} {ts : List Token} {callee : ExprTree} {opening : Token} → Is ")" t
        → Moves (InCall callee opening [] ∷ fs) Expected at limit (t ∷ ts) (stands fs (tree.Call callee opening NoExprs) (At (suc at) limit ts))
    opens_conversion : {fs : List Frame} {at : ℕ} {limit : Option Told} {t : Token} {ts : List Token} {word : TypeWord} {first : Token} → Is "(" t
        → Moves fs (Converting word first) at limit (t ∷ ts) (expects (InFunctionalCast word first ∷ fs) (At (suc at) (noted limit (bracket_opens around fs) at t) ts))
    casts : {fs : List Frame} {at : ℕ} {limit : Option Told} {t : Token} {ts : List Token} {word : TypeWord} {first opening : Token} → Is ")" t
        → Moves (InGroup opening ∷ fs) (Converting word first) at limit (t ∷ ts) (expects (Casting opening word first ∷ fs) (At (suc at) limit ts))
    names_member : {fs : List Frame} {at : ℕ} {limit : Option Told} {t : Token} {ts : List Token} {base : ExprTree} → IsName t
        → Moves fs (Dotted base) at limit (t ∷ ts) (stands fs (tree.Member base t) (At (suc at) limit ts))
    calls : {fs : List Frame} {at : ℕ} {limit : Option Told} {t : Token} {ts : List Token} {v : ExprTree} → Is "(" t
        → Moves fs (Value v) at limit (t ∷ ts) (expects (InCall v t [] ∷ fs) (At (suc at) (noted limit (bracket_opens around fs) at t) ts))
    indexes : {fs : List Frame} {at : ℕ} {limit : Option Told} {t : Token} {ts : List Token} {v : ExprTree} → Is "[" t
        → Moves fs (Value v) at limit (t ∷ ts) (expects (InIndex v t ∷ fs) (At (suc at) (noted limit (bracket_opens around fs) at t) ts))
    dots : {fs : List Frame} {at : ℕ} {limit : Option Told} {t : Token} {ts : List Token} {v : ExprTree} → Is "." t ⊎ Is "::" t
        → Moves fs (Value v) at limit (t ∷ ts) (On None (config fs (Dotted v) (suc at) limit ts))
    asks : {fs : List Frame} {at : ℕ} {limit : Option Told} {t : Token} {ts : List Token} {v : ExprTree} → Is "?" t
        → Moves fs (Value v) at limit (t ∷ ts) (expects (Asked (bound 1 v fs).0 t ∷ (bound 1 v fs).1) (At (suc at) limit ts))
    chooses : {fs fs' : List Frame} {at : ℕ} {limit : Option Told} {t q : Token} {ts : List Token} {v c yes' : ExprTree} → Is ":" t → whole v fs ≡ (yes', Asked c q ∷ fs')
        → Moves fs (Value v) at limit (t ∷ ts) (expects (Chosen c q yes' ∷ fs') (At (suc at) limit ts))
    separates : {fs fs' : List Frame} {at : ℕ} {limit : Option Told} {t opening : Token} {ts : List Token} {v callee arg : ExprTree} {args : List ExprTree}
        → Is "," t → whole v fs ≡ (arg, InCall callee opening args ∷ fs')
        → Moves fs (Value v) at limit (t ∷ ts) (expects (InCall callee opening (args ++ arg ∷ []) ∷ fs') (At (suc at) limit ts))
    closes_group : {fs fs' : List Frame} {at : ℕ} {limit : Option Told} {t opening : Token} {ts : List Token} {v inner : ExprTree} → Is ")" t → whole v fs ≡ (inner, InGroup opening ∷ fs')
        → Moves fs (Value v) at limit (t ∷ ts) (stands fs' (tree.Group opening inner) (At (suc at) limit ts))
    closes_conversion : {fs fs' : List Frame} {at : ℕ} {limit : Option Told} {t first : Token} {ts : List Token} {v inner : ExprTree} {word : TypeWord}
        → Is ")" t → whole v fs ≡ (inner, InFunctionalCast word first ∷ fs')
        → Moves fs (Value v) at limit (t ∷ ts) (stands fs' (tree.FunctionalCast word first inner) (At (suc at) limit ts))
    closes_call : {fs fs' : List Frame} {at : ℕ} {limit : Option Told} {t opening : Token} {ts : List Token} {v callee arg : ExprTree} {args : List ExprTree}
        → Is ")" t → whole v fs ≡ (arg, InCall callee opening args ∷ fs')
        → Moves fs (Value v) at limit (t ∷ ts) (stands fs' (tree.Call callee opening (exprs_of (args ++ arg ∷ []))) (At (suc at) limit ts))
    closes_index : {fs fs' : List Frame} {at : ℕ} {limit : Option Told} {t opening : Token} {ts : List Token} {v base inner : ExprTree} → Is "]" t → whole v fs ≡ (inner, InIndex base opening ∷ fs')
        → Moves fs (Value v) at limit (t ∷ ts) (stands fs' (tree.Index base opening inner) (At (suc at) limit ts))
    operates : {fs : List Frame} {at : ℕ} {limit : Option Told} {t : Token} {ts : List Token} {v : ExprTree} (op : Operator) (behind : List Token) (next : ℕ)
        → sign_at (t ∷ ts) ≡ (codes (operator_text op), behind)
        → passed (replicate (operator_tokens op) plain) (At at limit (t ∷ ts)) ≡ At next limit behind
        → Moves fs (Value v) at limit (t ∷ ts)
        (On (assign_by around long (may_assign op (whole v fs)) at (At next limit behind))
        (config (Left (bound (level op) v fs).0 op t ∷ (bound (level op) v fs).1) Expected next limit behind))
    ends : {fs : List Frame} {at : ℕ} {limit : Option Told} {ts : List Token} {v e : ExprTree} → whole v fs ≡ (e, []) → expr_goes_on ts ≡ false
        → Moves fs (Value v) at limit ts (Ends e (At at limit ts))
    stuck : {fs : List Frame} {mode : Mode} {at : ℕ} {limit : Option Told} {t : Token} {ts : List Token}
        → ((at : ℕ) (limit : Option Told) (more : List Token) → step_by around long mode fs at limit t more ≡ Refused (At at limit (t ∷ more)))
        → Moves fs mode at limit (t ∷ ts) (Refused (At at limit (t ∷ ts)))
    stuck_behind : {fs fs' : List Frame} {f : Frame} {at : ℕ} {limit : Option Told} {t second third : Token} {ts : List Token} {v e : ExprTree}
        → whole v fs ≡ (e, f ∷ fs') → Is ">" t → joins t ">" second ≡ true → joins second "=" third ≡ true
        → Moves fs (Value v) at limit (t ∷ second ∷ third ∷ ts) (Refused (At (suc (suc at)) limit (third ∷ ts)))
    exhausted : {fs : List Frame} {mode : Mode} {at : ℕ} {limit : Option Told} → Moves fs mode at limit [] (Refused (At at limit []))

  -- names
  name_by_view : (look : LookAhead TypeTrees) (fs : List Frame) (at : ℕ) (limit : Option Told) (t : Token) (ts : List Token) → IsName t → begins_with "<" ts ≡ true
      → taken_ahead (nesting around fs).types (suc at) limit ts ≡ look → SoundLook TakesTypeArgs ts look
      → Moves fs Expected at limit (t ∷ ts) (name_by around long look fs t (At (suc at) limit ts))
  name_by_view (Found args (At at' limit' rest)) fs at limit t ts h b is sound = generic h b args at' limit' rest sound is
  name_by_view (Missing (At at' limit' rest)) fs at limit t ts h b is sound =
      without h b (taken_missing (nesting around fs).types (suc at) limit ts (At at' limit' rest) is) at' limit' rest is

  sound_if : (types at : ℕ) (limit : Option Told) (ts : List Token) → begins_with "<" ts ≡ true → SoundLook TakesTypeArgs ts (taken_ahead types at limit ts)
  sound_if types at limit [] b = absurd (false≢true b)
  sound_if types at limit (opening ∷ ts) b = taken_sound types at limit opening ts (is_sign-true "<" (symbol opening) b)

  name_view : (b : Bool) (fs : List Frame) (at : ℕ) (limit : Option Told) (t : Token) (ts : List Token) → IsName t → begins_with "<" ts ≡ b
      → Moves fs Expected at limit (t ∷ ts) (name_if around long b fs t (suc at) limit ts)
  name_view true fs at limit t ts h b =
      name_by_view (taken_ahead (nesting around fs).types (suc at) limit ts) fs at limit t ts h b refl (sound_if (nesting around fs).types (suc at) limit ts b)
  name_view false fs at limit t ts h b = bare h b

  -- operands
  empty_view : (b : Bool) (fs : List Frame) (at : ℕ) (limit : Option Told) (t : Token) (ts : List Token) (text : List ℕ) → symbol t ≡ Sign text → written start_text starts text ≡ None → is_sign ")" (symbol t) ≡ b
      → Moves fs Expected at limit (t ∷ ts) (empty_by b fs (At at limit (t ∷ ts)))
  empty_view false fs at limit t ts text h o b = stuck (λ at limit more. rw (h, o, b) refl)
  empty_view true [] at limit t ts text h o b = stuck (λ at limit more. rw (h, o, b) refl)
  empty_view true (InCall callee opening [] ∷ fs) at limit t ts text h o b = no_arguments (is_sign-true ")" (symbol t) b)
  empty_view true (InCall callee opening (arg ∷ args) ∷ fs) at limit t ts text h o b = stuck (λ at limit more. rw (h, o, b) refl)
  empty_view true (Prefix operator token' ∷ fs) at limit t ts text h o b = stuck (λ at limit more. rw (h, o, b) refl)
  empty_view true (Casting opening word token' ∷ fs) at limit t ts text h o b = stuck (λ at limit more. rw (h, o, b) refl)
  empty_view true (Left left operator token' ∷ fs) at limit t ts text h o b = stuck (λ at limit more. rw (h, o, b) refl)
  empty_view true (Asked condition question ∷ fs) at limit t ts text h o b = stuck (λ at limit more. rw (h, o, b) refl)
  empty_view true (Chosen condition question yes' ∷ fs) at limit t ts text h o b = stuck (λ at limit more. rw (h, o, b) refl)
  empty_view true (InGroup opening ∷ fs) at limit t ts text h o b = stuck (λ at limit more. rw (h, o, b) refl)
  empty_view true (InFunctionalCast word token' ∷ fs) at limit t ts text h o b = stuck (λ at limit more. rw (h, o, b) refl)
  empty_view true (InIndex base opening ∷ fs) at limit t ts text h o b = stuck (λ at limit more. rw (h, o, b) refl)

  scalar_again : (text : List ℕ) (word : TypeWord) → written start_text starts text ≡ Some (Scalar word) → written start_text starts (codes (word_text word)) ≡ Some (Scalar word)
  scalar_again text word h = sym (ap (written start_text starts) (written-some start_text starts text (Scalar word) h)) ∙ h

  scalar_is : (text : List ℕ) (word : TypeWord) → written start_text starts text ≡ Some (Scalar word) → IsTrue (is_scalar word)
  scalar_is text = every_word (λ word. written start_text starts text ≡ Some (Scalar word) → IsTrue (is_scalar word)) ((λ h. refl), ((λ h. refl), ((λ h. refl), ((λ h. refl), ((λ h. refl), ((λ h. let again = scalar_again text Void h in absurd (cc)), ((λ h. let again = scalar_again text Uint3 h in absurd (cc)), ((λ h. let again = scalar_again text This h in absurd (cc)), tt))))))))

  sign_as : (t : Token) (text : List ℕ) (start : Start) → symbol t ≡ Sign text → written start_text starts text ≡ Some start → Is (start_text start) t
  sign_as t text start h o = h ∙ ap Sign (written-some start_text starts text start o)

  start_view : (o : Option Start) (fs : List Frame) (at : ℕ) (limit : Option Told) (t : Token) (ts : List Token) (text : List ℕ) → symbol t ≡ Sign text → written start_text starts text ≡ o
      → Moves fs Expected at limit (t ∷ ts) (start_by around long o fs t (At at limit (t ∷ ts)))
  start_view None fs at limit t ts text h o = empty_view (is_sign ")" (symbol t)) fs at limit t ts text h o refl
  start_view (Some True) fs at limit t ts text h o = an_atom (a_true (sign_as t text True h o))
  start_view (Some False) fs at limit t ts text h o = an_atom (a_false (sign_as t text False h o))
  start_view (Some Itself) fs at limit t ts text h o = an_atom (itself (sign_as t text Itself h o))
  start_view (Some OwnType) fs at limit t ts text h o = an_atom (own_type (sign_as t text OwnType h o))
  start_view (Some Bracket) fs at limit t ts text h o = opens_group (sign_as t text Bracket h o)
  start_view (Some (Scalar word)) fs at limit t ts text h o = converts (scalar_is text word o) (sign_as t text (Scalar word) h o)
  start_view (Some (Unary op)) fs at limit t ts text h o = prefixes (sign_as t text (Unary op) h o)

  operand_view : (s : Symbol) (fs : List Frame) (at : ℕ) (limit : Option Told) (t : Token) (ts : List Token) → symbol t ≡ s → Moves fs Expected at limit (t ∷ ts) (operand_by around long s fs at limit t ts)
  operand_view Name fs at limit t ts h = name_view (begins_with "<" ts) fs at limit t ts h refl
  operand_view (Number wide) fs at limit t ts h = an_atom (a_number (is_numeral t wide h))
  operand_view Text fs at limit t ts h = stuck (λ at limit more. rw h refl)
  operand_view End fs at limit t ts h = stuck (λ at limit more. rw h refl)
  operand_view (Sign text) fs at limit t ts h = start_view (written start_text starts text) fs at limit t ts text h refl

  -- behind the word of a conversion or a cast
  cast_view : (b : Bool) (word : TypeWord) (first : Token) (fs : List Frame) (at : ℕ) (limit : Option Told) (t : Token) (ts : List Token) → is_sign "(" (symbol t) ≡ false → is_sign ")" (symbol t) ≡ b
      → Moves fs (Converting word first) at limit (t ∷ ts) (cast_by b word first fs (At at limit (t ∷ ts)))
  cast_view false word first fs at limit t ts o c = stuck (λ at limit more. rw (o, c) refl)
  cast_view true word first [] at limit t ts o c = stuck (λ at limit more. rw (o, c) refl)
  cast_view true word first (InGroup opening ∷ fs) at limit t ts o c = casts (is_sign-true ")" (symbol t) c)
  cast_view true word first (Prefix operator token' ∷ fs) at limit t ts o c = stuck (λ at limit more. rw (o, c) refl)
  cast_view true word first (Casting opening word' token' ∷ fs) at limit t ts o c = stuck (λ at limit more. rw (o, c) refl)
  cast_view true word first (Left left operator token' ∷ fs) at limit t ts o c = stuck (λ at limit more. rw (o, c) refl)
  cast_view true word first (Asked condition question ∷ fs) at limit t ts o c = stuck (λ at limit more. rw (o, c) refl)
  cast_view true word first (Chosen condition question yes' ∷ fs) at limit t ts o c = stuck (λ at limit more. rw (o, c) refl)
  cast_view true word first (InFunctionalCast word' token' ∷ fs) at limit t ts o c = stuck (λ at limit more. rw (o, c) refl)
  cast_view true word first (InCall callee opening args ∷ fs) at limit t ts o c = stuck (λ at limit more. rw (o, c) refl)
  cast_view true word first (InIndex base opening ∷ fs) at limit t ts o c = stuck (λ at limit more. rw (o, c) refl)

  conversion_view : (b : Bool) (word : TypeWord) (first : Token) (fs : List Frame) (at : ℕ) (limit : Option Told) (t : Token) (ts : List Token) → is_sign "(" (symbol t) ≡ b
      → Moves fs (Converting word first) at limit (t ∷ ts) (conversion_by around long b (is_sign ")" (symbol t)) word first fs (At at limit (t ∷ ts)))
  conversion_view true word first fs at limit t ts o = opens_conversion (is_sign-true "(" (symbol t) o)
  conversion_view false word first fs at limit t ts o = cast_view (is_sign ")" (symbol t)) word first fs at limit t ts o refl

  member_view : (b : Bool) (base : ExprTree) (fs : List Frame) (at : ℕ) (limit : Option Told) (t : Token) (ts : List Token) → names (symbol t) ≡ b
      → Moves fs (Dotted base) at limit (t ∷ ts) (member_by b base t fs (At at limit (t ∷ ts)))
  member_view true base fs at limit t ts h = names_member (names-true (symbol t) h)
  member_view false base fs at limit t ts h = stuck (λ at limit more. rw h refl)

  -- signs that nothing wants
  unwanted : (held : Held) (v : ExprTree) (fs : List Frame) (at : ℕ) (limit : Option Told) (t : Token) (ts : List Token) → whole v fs ≡ held
      → ((at : ℕ) (limit : Option Told) (more : List Token) → step_by around long (Value v) fs at limit t more ≡ ends_by held (t ∷ more) (At at limit (t ∷ more)))
      → ((more : List Token) → bytes_eq (sign_at (t ∷ more)).0 (codes ">>=") ≡ false) → expr_goes_on (t ∷ ts) ≡ false
      → Moves fs (Value v) at limit (t ∷ ts) (ends_by held (t ∷ ts) (At at limit (t ∷ ts)))
  unwanted (e, []) v fs at limit t ts w is none end = ends w end
  unwanted (e, f ∷ fs') v fs at limit t ts w is none end =
      rw (none ts) (stuck (λ at limit more. is at limit more ∙ ap (λ b. refused_by b (At at limit (t ∷ more))) (none more)))

  colon_view : (held : Held) (v : ExprTree) (fs : List Frame) (at : ℕ) (limit : Option Told) (t : Token) (ts : List Token) → Is ":" t → whole v fs ≡ held
      → Moves fs (Value v) at limit (t ∷ ts) (colon_by held (t ∷ ts) (At at limit (t ∷ ts)))
  colon_view (e, []) v fs at limit t ts h w = unwanted (e, []) v fs at limit t ts w (λ at limit more. rw (h, w) refl) (λ more. rw h refl) (rw h refl)
  colon_view (e, Prefix operator token' ∷ fs') v fs at limit t ts h w =
      unwanted (e, Prefix operator token' ∷ fs') v fs at limit t ts w (λ at limit more. rw (h, w, h) refl) (λ more. rw h refl) (rw h refl)
  colon_view (e, Casting opening word token' ∷ fs') v fs at limit t ts h w =
      unwanted (e, Casting opening word token' ∷ fs') v fs at limit t ts w (λ at limit more. rw (h, w, h) refl) (λ more. rw h refl) (rw h refl)
  colon_view (e, Left left operator token' ∷ fs') v fs at limit t ts h w =
      unwanted (e, Left left operator token' ∷ fs') v fs at limit t ts w (λ at limit more. rw (h, w, h) refl) (λ more. rw h refl) (rw h refl)
  colon_view (e, Asked condition question ∷ fs') v fs at limit t ts h w = chooses h w
  colon_view (e, Chosen condition question yes' ∷ fs') v fs at limit t ts h w =
      unwanted (e, Chosen condition question yes' ∷ fs') v fs at limit t ts w (λ at limit more. rw (h, w, h) refl) (λ more. rw h refl) (rw h refl)
  colon_view (e, InGroup opening ∷ fs') v fs at limit t ts h w =
      unwanted (e, InGroup opening ∷ fs') v fs at limit t ts w (λ at limit more. rw (h, w, h) refl) (λ more. rw h refl) (rw h refl)
  colon_view (e, InFunctionalCast word token' ∷ fs') v fs at limit t ts h w =
      unwanted (e, InFunctionalCast word token' ∷ fs') v fs at limit t ts w (λ at limit more. rw (h, w, h) refl) (λ more. rw h refl) (rw h refl)
  colon_view (e, InCall callee opening args ∷ fs') v fs at limit t ts h w =
      unwanted (e, InCall callee opening args ∷ fs') v fs at limit t ts w (λ at limit more. rw (h, w, h) refl) (λ more. rw h refl) (rw h refl)
  colon_view (e, InIndex base opening ∷ fs') v fs at limit t ts h w =
      unwanted (e, InIndex base opening ∷ fs') v fs at limit t ts w (λ at limit more. rw (h, w, h) refl) (λ more. rw h refl) (rw h refl)

  comma_view : (held : Held) (v : ExprTree) (fs : List Frame) (at : ℕ) (limit : Option Told) (t : Token) (ts : List Token) → Is "," t → whole v fs ≡ held
      → Moves fs (Value v) at limit (t ∷ ts) (comma_by held (t ∷ ts) (At at limit (t ∷ ts)))
  comma_view (e, []) v fs at limit t ts h w = unwanted (e, []) v fs at limit t ts w (λ at limit more. rw (h, w) refl) (λ more. rw h refl) (rw h refl)
  comma_view (e, Prefix operator token' ∷ fs') v fs at limit t ts h w =
      unwanted (e, Prefix operator token' ∷ fs') v fs at limit t ts w (λ at limit more. rw (h, w, h) refl) (λ more. rw h refl) (rw h refl)
  comma_view (e, Casting opening word token' ∷ fs') v fs at limit t ts h w =
      unwanted (e, Casting opening word token' ∷ fs') v fs at limit t ts w (λ at limit more. rw (h, w, h) refl) (λ more. rw h refl) (rw h refl)
  comma_view (e, Left left operator token' ∷ fs') v fs at limit t ts h w =
      unwanted (e, Left left operator token' ∷ fs') v fs at limit t ts w (λ at limit more. rw (h, w, h) refl) (λ more. rw h refl) (rw h refl)
  comma_view (e, Asked condition question ∷ fs') v fs at limit t ts h w =
      unwanted (e, Asked condition question ∷ fs') v fs at limit t ts w (λ at limit more. rw (h, w, h) refl) (λ more. rw h refl) (rw h refl)
  comma_view (e, Chosen condition question yes' ∷ fs') v fs at limit t ts h w =
      unwanted (e, Chosen condition question yes' ∷ fs') v fs at limit t ts w (λ at limit more. rw (h, w, h) refl) (λ more. rw h refl) (rw h refl)
  comma_view (e, InGroup opening ∷ fs') v fs at limit t ts h w =
      unwanted (e, InGroup opening ∷ fs') v fs at limit t ts w (λ at limit more. rw (h, w, h) refl) (λ more. rw h refl) (rw h refl)
  comma_view (e, InFunctionalCast word token' ∷ fs') v fs at limit t ts h w =
      unwanted (e, InFunctionalCast word token' ∷ fs') v fs at limit t ts w (λ at limit more. rw (h, w, h) refl) (λ more. rw h refl) (rw h refl)
  comma_view (e, InCall callee opening args ∷ fs') v fs at limit t ts h w = separates h w
  comma_view (e, InIndex base opening ∷ fs') v fs at limit t ts h w =
      unwanted (e, InIndex base opening ∷ fs') v fs at limit t ts w (λ at limit more. rw (h, w, h) refl) (λ more. rw h refl) (rw h refl)

  closing_view : (held : Held) (v : ExprTree) (fs : List Frame) (at : ℕ) (limit : Option Told) (t : Token) (ts : List Token) → Is ")" t → whole v fs ≡ held
      → Moves fs (Value v) at limit (t ∷ ts) (closing_by held (t ∷ ts) (At at limit (t ∷ ts)))
  closing_view (e, []) v fs at limit t ts h w = unwanted (e, []) v fs at limit t ts w (λ at limit more. rw (h, w) refl) (λ more. rw h refl) (rw h refl)
  closing_view (e, Prefix operator token' ∷ fs') v fs at limit t ts h w =
      unwanted (e, Prefix operator token' ∷ fs') v fs at limit t ts w (λ at limit more. rw (h, w, h) refl) (λ more. rw h refl) (rw h refl)
  closing_view (e, Casting opening word token' ∷ fs') v fs at limit t ts h w =
      unwanted (e, Casting opening word token' ∷ fs') v fs at limit t ts w (λ at limit more. rw (h, w, h) refl) (λ more. rw h refl) (rw h refl)
  closing_view (e, Left left operator token' ∷ fs') v fs at limit t ts h w =
      unwanted (e, Left left operator token' ∷ fs') v fs at limit t ts w (λ at limit more. rw (h, w, h) refl) (λ more. rw h refl) (rw h refl)
  closing_view (e, Asked condition question ∷ fs') v fs at limit t ts h w =
      unwanted (e, Asked condition question ∷ fs') v fs at limit t ts w (λ at limit more. rw (h, w, h) refl) (λ more. rw h refl) (rw h refl)
  closing_view (e, Chosen condition question yes' ∷ fs') v fs at limit t ts h w =
      unwanted (e, Chosen condition question yes' ∷ fs') v fs at limit t ts w (λ at limit more. rw (h, w, h) refl) (λ more. rw h refl) (rw h refl)
  closing_view (e, InGroup opening ∷ fs') v fs at limit t ts h w = closes_group h w
  closing_view (e, InFunctionalCast word token' ∷ fs') v fs at limit t ts h w = closes_conversion h w
  closing_view (e, InCall callee opening args ∷ fs') v fs at limit t ts h w = closes_call h w
  closing_view (e, InIndex base opening ∷ fs') v fs at limit t ts h w =
      unwanted (e, InIndex base opening ∷ fs') v fs at limit t ts w (λ at limit more. rw (h, w, h) refl) (λ more. rw h refl) (rw h refl)

  index_view : (held : Held) (v : ExprTree) (fs : List Frame) (at : ℕ) (limit : Option Told) (t : Token) (ts : List Token) → Is "]" t → whole v fs ≡ held
      → Moves fs (Value v) at limit (t ∷ ts) (index_by held (t ∷ ts) (At at limit (t ∷ ts)))
  index_view (e, []) v fs at limit t ts h w = unwanted (e, []) v fs at limit t ts w (λ at limit more. rw (h, w) refl) (λ more. rw h refl) (rw h refl)
  index_view (e, Prefix operator token' ∷ fs') v fs at limit t ts h w =
      unwanted (e, Prefix operator token' ∷ fs') v fs at limit t ts w (λ at limit more. rw (h, w, h) refl) (λ more. rw h refl) (rw h refl)
  index_view (e, Casting opening word token' ∷ fs') v fs at limit t ts h w =
      unwanted (e, Casting opening word token' ∷ fs') v fs at limit t ts w (λ at limit more. rw (h, w, h) refl) (λ more. rw h refl) (rw h refl)
  index_view (e, Left left operator token' ∷ fs') v fs at limit t ts h w =
      unwanted (e, Left left operator token' ∷ fs') v fs at limit t ts w (λ at limit more. rw (h, w, h) refl) (λ more. rw h refl) (rw h refl)
  index_view (e, Asked condition question ∷ fs') v fs at limit t ts h w =
      unwanted (e, Asked condition question ∷ fs') v fs at limit t ts w (λ at limit more. rw (h, w, h) refl) (λ more. rw h refl) (rw h refl)
  index_view (e, Chosen condition question yes' ∷ fs') v fs at limit t ts h w =
      unwanted (e, Chosen condition question yes' ∷ fs') v fs at limit t ts w (λ at limit more. rw (h, w, h) refl) (λ more. rw h refl) (rw h refl)
  index_view (e, InGroup opening ∷ fs') v fs at limit t ts h w =
      unwanted (e, InGroup opening ∷ fs') v fs at limit t ts w (λ at limit more. rw (h, w, h) refl) (λ more. rw h refl) (rw h refl)
  index_view (e, InFunctionalCast word token' ∷ fs') v fs at limit t ts h w =
      unwanted (e, InFunctionalCast word token' ∷ fs') v fs at limit t ts w (λ at limit more. rw (h, w, h) refl) (λ more. rw h refl) (rw h refl)
  index_view (e, InCall callee opening args ∷ fs') v fs at limit t ts h w =
      unwanted (e, InCall callee opening args ∷ fs') v fs at limit t ts w (λ at limit more. rw (h, w, h) refl) (λ more. rw h refl) (rw h refl)
  index_view (e, InIndex base opening ∷ fs') v fs at limit t ts h w = closes_index h w

  -- behind an operand, where no sign goes on
  assignment_view : (t : Token) (ts : List Token) (a : IsAssignment t ts) (v e : ExprTree) (f : Frame) (fs fs' : List Frame) (at : ℕ) (limit : Option Told) → whole v fs ≡ (e, f ∷ fs')
      → Moves fs (Value v) at limit (t ∷ ts) (Refused (passed (plain ∷ plain ∷ []) (At at limit (t ∷ ts))))
  assignment_view t ts a v e f fs fs' at limit w =
      subst (λ ts. Moves fs (Value v) at limit (t ∷ ts) (Refused (passed (plain ∷ plain ∷ []) (At at limit (t ∷ ts))))) (sym a.are) (stuck_behind w a.first a.shifts a.assigns)

  refused_view : (b : Bool) (v e : ExprTree) (f : Frame) (fs fs' : List Frame) (at : ℕ) (limit : Option Told) (t : Token) (ts : List Token) → whole v fs ≡ (e, f ∷ fs')
      → sign_of behind_text behinds (symbol t) ≡ None → written operator_text operators (sign_at (t ∷ ts)).0 ≡ None → bytes_eq (sign_at (t ∷ ts)).0 (codes ">>=") ≡ b
      → Moves fs (Value v) at limit (t ∷ ts) (refused_by b (At at limit (t ∷ ts)))
  refused_view true v e f fs fs' at limit t ts w none o is =
      assignment_view t ts (assigns t ts ((bytes_eq-Decides (sign_at (t ∷ ts)).0 (codes ">>=")).0 is)) v e f fs fs' at limit w
  refused_view false v e f fs fs' at limit t ts w none o is =
      let a = alone t ts o is in
      stuck (λ at limit more. rw (none, a.no_operator more, w, a.no_assignment more) refl)

  ends_view : (held : Held) (v : ExprTree) (fs : List Frame) (at : ℕ) (limit : Option Told) (t : Token) (ts : List Token) → whole v fs ≡ held
      → sign_of behind_text behinds (symbol t) ≡ None → written operator_text operators (sign_at (t ∷ ts)).0 ≡ None
      → Moves fs (Value v) at limit (t ∷ ts) (ends_by held (t ∷ ts) (At at limit (t ∷ ts)))
  ends_view (e, []) v fs at limit t ts w none o = ends w (ends_before t ts none o)
  ends_view (e, f ∷ fs') v fs at limit t ts w none o = refused_view (bytes_eq (sign_at (t ∷ ts)).0 (codes ">>=")) v e f fs fs' at limit t ts w none o refl

  operator_view : (o : Option Operator) (v : ExprTree) (fs : List Frame) (at : ℕ) (limit : Option Told) (t : Token) (ts : List Token)
      → sign_of behind_text behinds (symbol t) ≡ None → written operator_text operators (sign_at (t ∷ ts)).0 ≡ o
      → Moves fs (Value v) at limit (t ∷ ts) (operator_by around long o v fs at t ts (At at limit (t ∷ ts)))
  operator_view None v fs at limit t ts none o = ends_view (whole v fs) v fs at limit t ts refl none o
  operator_view (Some op) v fs at limit t ts none o =
      let sign : sign_at (t ∷ ts) ≡ (codes (operator_text op), (sign_at (t ∷ ts)).1) =
      ap (λ (text : List ℕ). (text, (sign_at (t ∷ ts)).1)) (written-some operator_text operators (sign_at (t ∷ ts)).0 op o) in
      let p = operator_passes op at limit t ts (sign_at (t ∷ ts)).1 sign in
      rw (p.is) (operates op (sign_at (t ∷ ts)).1 p.next sign p.is)

  behind_view : (o : Option Behind) (v : ExprTree) (fs : List Frame) (at : ℕ) (limit : Option Told) (t : Token) (ts : List Token) → sign_of behind_text behinds (symbol t) ≡ o
      → Moves fs (Value v) at limit (t ∷ ts) (behind_by around long o v fs at t ts (At at limit (t ∷ ts)))
  behind_view None v fs at limit t ts h = operator_view (written operator_text operators (sign_at (t ∷ ts)).0) v fs at limit t ts h refl
  behind_view (Some Call) v fs at limit t ts h = calls (sign_of-some behind_text behinds (symbol t) Call h)
  behind_view (Some Index) v fs at limit t ts h = indexes (sign_of-some behind_text behinds (symbol t) Index h)
  behind_view (Some Dot) v fs at limit t ts h = dots (inl (sign_of-some behind_text behinds (symbol t) Dot h))
  behind_view (Some Colons) v fs at limit t ts h = dots (inr (sign_of-some behind_text behinds (symbol t) Colons h))
  behind_view (Some Question) v fs at limit t ts h = asks (sign_of-some behind_text behinds (symbol t) Question h)
  behind_view (Some Colon) v fs at limit t ts h = colon_view (whole v fs) v fs at limit t ts (sign_of-some behind_text behinds (symbol t) Colon h) refl
  behind_view (Some Comma) v fs at limit t ts h = comma_view (whole v fs) v fs at limit t ts (sign_of-some behind_text behinds (symbol t) Comma h) refl
  behind_view (Some Closing) v fs at limit t ts h = closing_view (whole v fs) v fs at limit t ts (sign_of-some behind_text behinds (symbol t) Closing h) refl
  behind_view (Some IndexClosing) v fs at limit t ts h = index_view (whole v fs) v fs at limit t ts (sign_of-some behind_text behinds (symbol t) IndexClosing h) refl

  end_view : (held : Held) (v : ExprTree) (fs : List Frame) (at : ℕ) (limit : Option Told) → whole v fs ≡ held → Moves fs (Value v) at limit [] (ends_by held [] (At at limit []))
  end_view (e, []) v fs at limit w = ends w refl
  end_view (e, f ∷ fs') v fs at limit w = exhausted

  -- each step is a move
  pub view : (mode : Mode) (fs : List Frame) (at : ℕ) (limit : Option Told) (tokens : List Token) → Moves fs mode at limit tokens (step_at around long mode fs (At at limit tokens))
  view Expected fs at limit [] = exhausted
  view Expected fs at limit (t ∷ ts) = operand_view (symbol t) fs at limit t ts refl
  view (Value v) fs at limit [] = end_view (whole v fs) v fs at limit refl
  view (Value v) fs at limit (t ∷ ts) = behind_view (sign_of behind_text behinds (symbol t)) v fs at limit t ts refl
  view (Dotted base) fs at limit [] = exhausted
  view (Dotted base) fs at limit (t ∷ ts) = member_view (names (symbol t)) base fs at limit t ts refl
  view (Converting word first) fs at limit [] = exhausted
  view (Converting word first) fs at limit (t ∷ ts) = conversion_view (is_sign "(" (symbol t)) word first fs at limit t ts refl
