-- Operators with their left operands, and how far other ways go.
use Rattle.std.proofs.Common.{◌≡◌, ◌⊎◌, inl, inr, ℕ, ◌+◌, ◌<◌, Bool, true, false, List, [], ◌∷◌, refl, sym, ap, ◌∙◌, arith}
use Rattle.std.specs.Prelude.{Option, nat_eq}
use Rattle.std.proofs.lemmas.Bool.Decides.{nat_tests}
use Rattle.def_token.specs.Lexical.{Token}
use Rattle.def_tree.specs.ExprTree.{ExprTree as Tree}
use Rattle.def_tree.specs.Operator as operators
use Rattle.def_reading.specs.Machine.{Frame as Form, Held, Step, may_assign, operator_on, whole}
use Rattle.def_reading.specs.Cursor.{Cursor, FarthestFailure}
use Rattle.law_machine.proofs.PlainSteps.{operator_plain}
use Rattle.sl_tree.specs.View.{operator_of}
use Rattle.sl_tree.specs.declared.operators.Operator.{Operator}
use Rattle.sl_tree.specs.declared.operators.Operator.TheVariants as operator
use Rattle.sl_machine.specs.Counts.{brackets_in, asked_in}
use Rattle.sl_machine.specs.Framed.{frames_in}
use Rattle.sl_machine.specs.Kept.{kept_held, IsAlike}
use Rattle.sl_machine.specs.declared.frames.Frame.{Frame}
use Rattle.sl_machine.proofs.Counted.{whole_alone, whole_inside}
use Rattle.sl_machine.proofs.Keeping.{held_alike}

-- an operator with which an assignment begins
greater_alone : (o : Operator) → (o ≡ operator.Greater) ⊎ (o ≡ operator.ShiftRight) → (held : Held) → held.1 ≡ [] → may_assign (operator_of o) held ≡ true
greater_alone o (inl h) held none = ap (λ o. may_assign (operator_of o) held) h ∙ ap (λ (fs : List Form). may_assign operators.Greater (held.0, fs)) none
greater_alone o (inr h) held none = ap (λ o. may_assign (operator_of o) held) h ∙ ap (λ (fs : List Form). may_assign operators.ShiftRight (held.0, fs)) none

greater_inside : (o : Operator) → (o ≡ operator.Greater) ⊎ (o ≡ operator.ShiftRight) → (held : Held) (f : Form) (fs : List Form) → held.1 ≡ f ∷ fs → may_assign (operator_of o) held ≡ false
greater_inside o (inl h) held f fs some = ap (λ o. may_assign (operator_of o) held) h ∙ ap (λ (fs : List Form). may_assign operators.Greater (held.0, fs)) some
greater_inside o (inr h) held f fs some = ap (λ o. may_assign (operator_of o) held) h ∙ ap (λ (fs : List Form). may_assign operators.ShiftRight (held.0, fs)) some

-- whether an assignment may begin, by how many brackets and `?` are open
pub begins_none : (source : List ℕ) (o : Operator) (frames : List Frame) (value : Tree) → (o ≡ operator.Greater) ⊎ (o ≡ operator.ShiftRight)
    → brackets_in frames ≡ 0 → asked_in frames ≡ 0 → true ≡ may_assign (operator_of o) (whole value (frames_in source frames))
begins_none source o frames value h b a = sym (greater_alone o h (whole value (frames_in source frames)) (whole_alone source frames value b a))

pub begins_some : (source : List ℕ) (o : Operator) (frames : List Frame) (value : Tree) → (o ≡ operator.Greater) ⊎ (o ≡ operator.ShiftRight)
    → 0 < brackets_in frames + asked_in frames → false ≡ may_assign (operator_of o) (whole value (frames_in source frames))
begins_some source o frames value h some =
    let f = whole_inside source frames value some in sym (greater_inside o h (whole value (frames_in source frames)) f.frame f.more f.are)

begins_by : (b : Bool) (asked : ℕ) (source : List ℕ) (o : Operator) (frames : List Frame) (value : Tree) → (o ≡ operator.Greater) ⊎ (o ≡ operator.ShiftRight)
    → brackets_in frames ≡ 0 → asked ≡ asked_in frames → nat_eq asked 0 ≡ b → b ≡ may_assign (operator_of o) (whole value (frames_in source frames))
begins_by true asked source o frames value h b a t = begins_none source o frames value h b (let z : asked ≡ 0 = grind (arith, nat_tests) in omega arith)
begins_by false asked source o frames value h b a t = begins_some source o frames value h (let z : 0 < asked = grind (arith, nat_tests) in omega arith)

pub begins_asked : (asked : ℕ) (source : List ℕ) (o : Operator) (frames : List Frame) (value : Tree) → (o ≡ operator.Greater) ⊎ (o ≡ operator.ShiftRight)
    → brackets_in frames ≡ 0 → asked ≡ asked_in frames → nat_eq asked 0 ≡ may_assign (operator_of o) (whole value (frames_in source frames))
begins_asked asked source o frames value h b a = begins_by (nat_eq asked 0) asked source o frames value h b a refl

pub begins_bracket : (brackets : ℕ) (source : List ℕ) (o : Operator) (frames : List Frame) (value : Tree) → (o ≡ operator.Greater) ⊎ (o ≡ operator.ShiftRight)
    → (brackets ≡ 0 → ⊥) → brackets ≡ brackets_in frames → nat_eq brackets 0 ≡ may_assign (operator_of o) (whole value (frames_in source frames))
begins_bracket brackets source o frames value h no' b =
    (let e : nat_eq brackets 0 ≡ false = grind (arith, nat_tests) in e) ∙ begins_some source o frames value h (omega (arith, b, no'))

-- an operator with a left operand that is the same or plain
pub operator_alike : (keep : Bool) (o : operators.Operator) (other other' : Option FarthestFailure) (token : Token) (place place' : Cursor) (held held' : Held) (made : Step)
    → made ≡ operator_on o held other' token place' → other' ≡ other → place' ≡ place → kept_held keep held ≡ kept_held keep held'
    → IsAlike (keep ≡ true) made (operator_on o held' other token place)
operator_alike keep o other other' token place place' held held' made m w p h =
    held_alike keep (λ held. operator_on o held other token place) made (operator_on o held' other token place) held held' (operator_plain o other token place) h
    (m ∙ ap (λ other. operator_on o held other token place') w ∙ ap (operator_on o held other token) p) refl
