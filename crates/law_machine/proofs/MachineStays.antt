-- The machine stays among the tokens that it goes over: where it comes to, the rest of them stands.
use Rattle.std.proofs.Common.{◌≡◌, ℕ, suc, ◌+◌, ◌≤◌, List, [], ◌∷◌, length, drop, refl, subst, ◌∙◌, arith}
use Rattle.std.specs.Prelude.{Option, replicate}
use Rattle.def_token.specs.Lexical.{Token}
use Rattle.def_tree.specs.Expressions.{TakesTypeArgs}
use Rattle.def_tree.specs.Limits.{Nesting, Entry, args_entries, plain, operator_tokens}
use Rattle.def_tree.specs.TypeTree.{TypeTrees}
use Rattle.def_reading.specs.Cursor.{Told, Cursor, At, advance, passed}
use Rattle.def_reading.specs.TypeAhead.{LookAhead, Found, taken_ahead}
use Rattle.def_reading.specs.Machine.{Frame, Mode, Step, On, Ends, Refused, nesting, step_at}
use Rattle.law_types.proofs.AheadSound.{taken_found}
use Rattle.law_machine.proofs.MachineKinds.{Kind, uniform, bare, without, generic, operates, ends, stuck, stuck_behind, exhausted, kind_of}

-- so many tokens further the rest of them stands
pub record IsFurther (at : ℕ) (tokens : List Token) (at' : ℕ) (rest : List Token) : Type 0 where
  pub many : ℕ
  pub is : at' ≡ at + many
  pub are : rest ≡ drop many tokens
  pub within : many ≤ length tokens

-- a place is so many tokens further
abbrev pub IsFurtherAt : ℕ → List Token → Cursor → Type 0
IsFurtherAt at tokens (At at' limit rest) = IsFurther at tokens at' rest

here : (at : ℕ) (tokens : List Token) → IsFurther at tokens at tokens
here at tokens = record { many = 0; is = omega arith; are = refl; within = omega arith }

one_more : (at : ℕ) (token : Token) (tokens : List Token) (at' : ℕ) (rest : List Token) → IsFurther (suc at) tokens at' rest → IsFurther at (token ∷ tokens) at' rest
one_more at token tokens at' rest f = record { many = suc f.many; is = omega (arith, f.is); are = f.are; within = omega (arith, f.within) }

one : (at : ℕ) (token : Token) (tokens : List Token) → IsFurther at (token ∷ tokens) (suc at) tokens
one at token tokens = one_more at token tokens (suc at) tokens (here (suc at) tokens)

passed_at : (entries : List Entry) (at : ℕ) (limit : Option Told) (tokens : List Token) → IsFurtherAt at tokens (passed entries (At at limit tokens))
passed_at [] at limit tokens = here at tokens
passed_at (entry ∷ entries) at limit [] = passed_at entries at limit []
passed_at (entry ∷ entries) at limit (token ∷ tokens) = first (passed entries (advance entry (At at limit (token ∷ tokens)))) (passed_at entries (suc at) _ tokens)
  where
    first : (place : Cursor) → IsFurtherAt (suc at) tokens place → IsFurtherAt at (token ∷ tokens) place
    first (At at' limit' rest) f = one_more at token tokens at' rest f

-- where a step leads
abbrev pub StaysStep : ℕ → List Token → Step → Type 0
StaysStep at tokens (On other c) = IsFurtherAt at tokens c.place
StaysStep at tokens (Ends e place) = Unit {0}
StaysStep at tokens (Refused place) = Unit {0}

found_place : (look : LookAhead TypeTrees) (args : TypeTrees) (p q : Cursor) → look ≡ Found args p → look ≡ Found args q → p ≡ q
found_place look args p q h k = cc

taken_stays : (types at : ℕ) (limit : Option Told) {ts rest : List Token} {args : TypeTrees} → TakesTypeArgs ts args rest → (at' : ℕ) (limit' : Option Told)
    → taken_ahead types at limit ts ≡ Found args (At at' limit' rest) → IsFurther at ts at' rest
taken_stays types at limit {ts = ts} {rest = rest} {args = args} takes at' limit' is =
    let f = taken_found takes types at limit in
    let same = found_place (taken_ahead types at limit ts) args (At f.at f.limit rest) (At at' limit' rest) f.found is in
    subst (IsFurtherAt at ts) (f.passes ∙ same) (passed_at (args_entries types args) at limit ts)

stays : {around : Nesting} {long : Option Told} {fs : List Frame} {mode : Mode} {at : ℕ} {limit : Option Told} {ts : List Token} {s : Step} → Kind around long fs mode at limit ts s → StaysStep at ts s
stays (uniform {at = at} {t = t} {ts = ts} fs' mode' e no_end fits each) = one at t ts
stays (bare {at = at} {t = t} {ts = ts} h l) = one at t ts
stays (without {at = at} {t = t} {ts = ts} h l none at' limit' rest look) = one at t ts
stays {around = around} (generic {fs = fs} {at = at} {limit = limit} {t = t} {ts = ts} h l args at' limit' rest takes look) =
    one_more at t ts at' rest (taken_stays (nesting around fs).types (suc at) limit takes at' limit' look)
stays (operates {at = at} {limit = limit} {t = t} {ts = ts} op behind next sign passes) =
    subst (IsFurtherAt at (t ∷ ts)) passes (passed_at (replicate (operator_tokens op) plain) at limit (t ∷ ts))
stays (ends w end') = tt
stays (stuck each) = tt
stays (stuck_behind p q others w g' j k are) = tt
stays exhausted = tt

pub step_stays : (around : Nesting) (long : Option Told) (mode : Mode) (fs : List Frame) (at : ℕ) (limit : Option Told) (ts : List Token) → StaysStep at ts (step_at around long mode fs (At at limit ts))
step_stays around long mode fs at limit ts = stays (kind_of around long mode fs at limit ts)
