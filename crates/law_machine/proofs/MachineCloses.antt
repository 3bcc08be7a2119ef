-- How an expression is completed from where the machine stands.
use Rattle.std.proofs.Common.{◌≡◌, ℕ, suc, false, List, [], ◌∷◌, ◌++◌, refl, sym, ap, subst, ◌∙◌, codes}
use Rattle.std.specs.Prelude.{Option, None, ◌&&◌}
use Rattle.std.proofs.Math.Bool.{and-false}
use Prim.Native.String.{String}
use Rattle.def_token.specs.Lexical as lexical
use Rattle.def_token.specs.Lexical.{Kind, Token}
use Rattle.def_tree.specs.ExprTree as tree
use Rattle.def_tree.specs.ExprTree.{ExprTree}
use Rattle.def_tree.specs.Limits.{Nesting}
use Rattle.def_tree.specs.Operator.{joins}
use Rattle.def_tree.specs.Statements.{begins_with}
use Rattle.def_tree.specs.Symbol.{Symbol, symbol, is_sign, touches}
use Rattle.def_reading.specs.Cursor.{Told, At, noted, FarthestFailure}
use Rattle.def_reading.specs.TypeAhead.{leads_on}
use Rattle.def_reading.specs.TypeReading.{Ended}
use Rattle.def_reading.specs.Machine.{Frame, Prefix, Casting, Left, Asked, Chosen, InGroup, InFunctionalCast, InCall, InIndex, Mode, Expected, Value, Dotted, Converting, Config, On, bracket_opens, whole, exprs_of, colon_by, closing_by, index_by, step}
use Rattle.law_types.proofs.AheadKept.{IsStop, stop_number, stop_end, stop_round, stop_square, stop_colon, stop_bracket}
use Rattle.law_machine.proofs.MachineComplete.{config}
use Rattle.law_machine.proofs.MachineGrows.{Finishes, finished, goes_on}
use Rattle.law_machine.proofs.MachineRun.{ends_step}
use Rattle.law_machine.proofs.SignParts.{Apart, NoEqual}

-- tokens that touch nothing
abbrev token : Kind → String → Token
token kind text = record { kind = kind; text = codes text; start = 0; end = 0; place = record { line = 1; column = 1 } }

abbrev pub round : Token
round = token lexical.Mark "("

abbrev pub closing : Token
closing = token lexical.Mark ")"

abbrev pub square : Token
square = token lexical.Mark "]"

abbrev pub colon : Token
colon = token lexical.Mark ":"

abbrev pub number : Token
number = token lexical.Number "1"

abbrev pub some_name : Token
some_name = token lexical.Name "x"

abbrev pub ending : Token
ending = token lexical.End ""

-- what closes frames
abbrev pub closers : List Frame → List Token
closers [] = ending ∷ []
closers (Prefix operator t ∷ fs) = closers fs
closers (Casting opening word t ∷ fs) = closers fs
closers (Left left operator t ∷ fs) = closers fs
closers (Asked condition question ∷ fs) = colon ∷ number ∷ closers fs
closers (Chosen condition question yes' ∷ fs) = closers fs
closers (InGroup opening ∷ fs) = closing ∷ closers fs
closers (InFunctionalCast word t ∷ fs) = closing ∷ closers fs
closers (InCall callee opening args ∷ fs) = closing ∷ closers fs
closers (InIndex base opening ∷ fs) = square ∷ closers fs

-- what begins completions
pub record IsStopped (ts : List Token) : Type 0 where
  pub first : Token
  pub others : List Token
  pub are : ts ≡ first ∷ others
  pub stop : IsStop (symbol first)
  pub no_lead : leads_on ts ≡ false

stopped : (t : Token) (ts : List Token) → IsStop (symbol t) → leads_on (t ∷ ts) ≡ false → IsStopped (t ∷ ts)
stopped t ts h k = record { first = t; others = ts; are = refl; stop = h; no_lead = k }

pub closers_stop : (fs : List Frame) → IsStopped (closers fs)
closers_stop [] = stopped ending [] stop_end refl
closers_stop (Prefix operator t ∷ fs) = closers_stop fs
closers_stop (Casting opening word t ∷ fs) = closers_stop fs
closers_stop (Left left operator t ∷ fs) = closers_stop fs
closers_stop (Asked condition question ∷ fs) = stopped colon (number ∷ closers fs) stop_colon refl
closers_stop (Chosen condition question yes' ∷ fs) = closers_stop fs
closers_stop (InGroup opening ∷ fs) = stopped closing (closers fs) stop_round refl
closers_stop (InFunctionalCast word t ∷ fs) = stopped closing (closers fs) stop_round refl
closers_stop (InCall callee opening args ∷ fs) = stopped closing (closers fs) stop_round refl
closers_stop (InIndex base opening ∷ fs) = stopped square (closers fs) stop_square refl

ended_cons : (t : Token) (ts : List Token) → Ended ts → Ended (t ∷ ts)
ended_cons t [] e = absurd e
ended_cons t (u ∷ ts) e = e

pub closers_end : (fs : List Frame) → Ended (closers fs)
closers_end [] = refl
closers_end (Prefix operator t ∷ fs) = closers_end fs
closers_end (Casting opening word t ∷ fs) = closers_end fs
closers_end (Left left operator t ∷ fs) = closers_end fs
closers_end (Asked condition question ∷ fs) = ended_cons colon (number ∷ closers fs) (ended_cons number (closers fs) (closers_end fs))
closers_end (Chosen condition question yes' ∷ fs) = closers_end fs
closers_end (InGroup opening ∷ fs) = ended_cons closing (closers fs) (closers_end fs)
closers_end (InFunctionalCast word t ∷ fs) = ended_cons closing (closers fs) (closers_end fs)
closers_end (InCall callee opening args ∷ fs) = ended_cons closing (closers fs) (closers_end fs)
closers_end (InIndex base opening ∷ fs) = ended_cons square (closers fs) (closers_end fs)

-- no mark before these tokens is a part of a longer one
pub record Joinless (ts : List Token) : Type 0 where
  pub no_less : begins_with "<" ts ≡ false
  pub apart : (p : Token) → Apart p ts
  pub no_equal : (p : Token) → NoEqual p ts

stop_no : {s : Symbol} → IsStop s → (is_sign "<" s ≡ false) × (is_sign ">" s ≡ false) × (is_sign "=" s ≡ false)
stop_no stop_number = (refl, refl, refl)
stop_no stop_end = (refl, refl, refl)
stop_no stop_round = (refl, refl, refl)
stop_no stop_square = (refl, refl, refl)
stop_no stop_colon = (refl, refl, refl)
stop_no stop_bracket = (refl, refl, refl)

no_join : (p t : Token) (sign : String) → is_sign sign (symbol t) ≡ false → joins p sign t ≡ false
no_join p t sign h = ap (λ b. touches p t && b) h ∙ and-false (touches p t)

pub stop_joinless : (t : Token) (ts : List Token) → IsStop (symbol t) → Joinless (t ∷ ts)
stop_joinless t ts h =
    let no = stop_no h in
    record { no_less = no.0; apart = λ p. (no_join p t ">" no.1, no_join p t "=" no.2); no_equal = λ p. no_join p t "=" no.2 }

pub stopped_joinless : (ts : List Token) → IsStopped ts → Joinless ts
stopped_joinless ts s = subst Joinless (sym s.are) (stop_joinless s.first s.others s.stop)

pub name_joinless : (ts : List Token) → Joinless (some_name ∷ ts)
name_joinless ts = record { no_less = refl; apart = λ p. (no_join p some_name ">" refl, no_join p some_name "=" refl); no_equal = λ p. no_join p some_name "=" refl }

module _ (around : Nesting) (long : Option Told) where
  -- the machine comes to some expression
  pub record Finish (c : Config) : Type 0 where
    pub e : ExprTree
    pub n : ℕ
    pub lf : Option Told
    pub rest : List Token
    pub finishes : Finishes around long c e n lf rest
    pub end : Ended rest

  abbrev pub to_finish : {c : Config} (o : Option FarthestFailure) (d : Config) → step around long c ≡ On o d → Finish d → Finish c
  to_finish o d s f = record { e = f.e; n = f.n; lf = f.lf; rest = f.rest; finishes = goes_on o d s f.finishes; end = f.end }

  -- a value with what closes its frames
  pub value_finish : (fs fs' : List Frame) (v v' : ExprTree) (at : ℕ) (limit : Option Told) → whole v' fs' ≡ whole v fs → Finish (config fs' (Value v') at limit (closers fs))
  value_finish [] fs' v v' at limit h =
      record { e = v; n = at; lf = limit; rest = ending ∷ []; finishes = finished (ends_step around long v' v fs' at limit (ending ∷ []) h refl); end = refl }
  value_finish (Prefix operator t ∷ fs) fs' v v' at limit h = value_finish fs fs' (tree.Unary operator t v) v' at limit h
  value_finish (Casting opening word t ∷ fs) fs' v v' at limit h = value_finish fs fs' (tree.Cast opening word t v) v' at limit h
  value_finish (Left left operator t ∷ fs) fs' v v' at limit h = value_finish fs fs' (tree.Binary operator t left v) v' at limit h
  value_finish (Asked condition question ∷ fs) fs' v v' at limit h =
      to_finish None (config (Chosen condition question v ∷ fs) Expected (suc at) limit (number ∷ closers fs)) (ap (λ held. colon_by held (colon ∷ number ∷ closers fs) (At at limit (colon ∷ number ∷ closers fs))) h)
      (to_finish None (config (Chosen condition question v ∷ fs) (Value (tree.Number number)) (suc (suc at)) limit (closers fs)) refl
      (value_finish fs (Chosen condition question v ∷ fs) (tree.Conditional condition question v (tree.Number number)) (tree.Number number) (suc (suc at)) limit refl))
  value_finish (Chosen condition question yes' ∷ fs) fs' v v' at limit h = value_finish fs fs' (tree.Conditional condition question yes' v) v' at limit h
  value_finish (InGroup opening ∷ fs) fs' v v' at limit h =
      to_finish None (config fs (Value (tree.Group opening v)) (suc at) limit (closers fs)) (ap (λ held. closing_by held (closing ∷ closers fs) (At at limit (closing ∷ closers fs))) h)
      (value_finish fs fs (tree.Group opening v) (tree.Group opening v) (suc at) limit refl)
  value_finish (InFunctionalCast word t ∷ fs) fs' v v' at limit h =
      to_finish None (config fs (Value (tree.FunctionalCast word t v)) (suc at) limit (closers fs)) (ap (λ held. closing_by held (closing ∷ closers fs) (At at limit (closing ∷ closers fs))) h)
      (value_finish fs fs (tree.FunctionalCast word t v) (tree.FunctionalCast word t v) (suc at) limit refl)
  value_finish (InCall callee opening args ∷ fs) fs' v v' at limit h =
      to_finish None (config fs (Value (tree.Call callee opening (exprs_of (args ++ v ∷ [])))) (suc at) limit (closers fs)) (ap (λ held. closing_by held (closing ∷ closers fs) (At at limit (closing ∷ closers fs))) h)
      (value_finish fs fs (tree.Call callee opening (exprs_of (args ++ v ∷ []))) (tree.Call callee opening (exprs_of (args ++ v ∷ []))) (suc at) limit refl)
  value_finish (InIndex base opening ∷ fs) fs' v v' at limit h =
      to_finish None (config fs (Value (tree.Index base opening v)) (suc at) limit (closers fs)) (ap (λ held. index_by held (square ∷ closers fs) (At at limit (square ∷ closers fs))) h)
      (value_finish fs fs (tree.Index base opening v) (tree.Index base opening v) (suc at) limit refl)

  -- what completes an expression in a mode
  abbrev pub completion : Mode → List Frame → List Token
  completion Expected fs = number ∷ closers fs
  completion (Value v) fs = closers fs
  completion (Dotted v) fs = some_name ∷ closers fs
  completion (Converting word t) fs = round ∷ number ∷ closing ∷ closers fs

  pub mode_finish : (mode : Mode) (fs : List Frame) (at : ℕ) (limit : Option Told) → Finish (config fs mode at limit (completion mode fs))
  mode_finish Expected fs at limit =
      to_finish None (config fs (Value (tree.Number number)) (suc at) limit (closers fs)) refl (value_finish fs fs (tree.Number number) (tree.Number number) (suc at) limit refl)
  mode_finish (Value v) fs at limit = value_finish fs fs v v at limit refl
  mode_finish (Dotted v) fs at limit =
      to_finish None (config fs (Value (tree.Member v some_name)) (suc at) limit (closers fs)) refl (value_finish fs fs (tree.Member v some_name) (tree.Member v some_name) (suc at) limit refl)
  mode_finish (Converting word t) fs at limit =
      let inside = InFunctionalCast word t ∷ fs in
      let limit' = noted limit (bracket_opens around fs) at round in
      to_finish None (config inside Expected (suc at) limit' (number ∷ closers inside)) refl
      (to_finish None (config inside (Value (tree.Number number)) (suc (suc at)) limit' (closers inside)) refl
      (value_finish inside inside (tree.Number number) (tree.Number number) (suc (suc at)) limit' refl))

  pub completion_joinless : (mode : Mode) (fs : List Frame) → Joinless (completion mode fs)
  completion_joinless Expected fs = stop_joinless number (closers fs) stop_number
  completion_joinless (Value v) fs = stopped_joinless (closers fs) (closers_stop fs)
  completion_joinless (Dotted v) fs = name_joinless (closers fs)
  completion_joinless (Converting word t) fs = stop_joinless round (number ∷ closing ∷ closers fs) stop_bracket
