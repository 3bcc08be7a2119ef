-- How many frames of some kinds there are.
use Rattle.std.proofs.Common.{◌≡◌, ℕ, suc, ◌+◌, ◌<◌, ◌≤◌, Bool, List, [], ◌∷◌, length, refl, sym, ap, subst, ◌∙◌, arith}
use Rattle.std.specs.Prelude.{nat_lt}
use Rattle.def_tree.specs.Limits.{Nesting}
use Rattle.sl_machine.specs.Counts.{counts_of, brackets_in, unary_in, asked_in}
use Rattle.sl_machine.specs.Framed.{frames_in}
use Rattle.def_tree.specs.ExprTree.{ExprTree as Tree}
use Rattle.def_reading.specs.Machine as machine
use Rattle.def_reading.specs.Machine.{Held, nesting, whole, bracket_opens, unary_opens}
use Rattle.sl_cursor.specs.Seen.{deep_by}
use Rattle.sl_machine.specs.declared.frames.Frame.{Frame}
use Rattle.sl_machine.specs.declared.frames.Frame.TheVariants as frame

-- a frame counts once at most
pub record AreOnce (counts : ℕ × ℕ × ℕ) : Type 0 where
  pub bracket : counts.0 ≤ 1
  pub unary : counts.1 ≤ 1
  pub asked : counts.2 ≤ 1

once : (f : Frame) → AreOnce (counts_of f)
once (frame.Prefix operator token) = record { bracket = omega arith; unary = omega arith; asked = omega arith }
once (frame.Casting opening word token) = record { bracket = omega arith; unary = omega arith; asked = omega arith }
once (frame.Left left operator token) = record { bracket = omega arith; unary = omega arith; asked = omega arith }
once (frame.Asked condition question) = record { bracket = omega arith; unary = omega arith; asked = omega arith }
once (frame.Chosen condition question yes') = record { bracket = omega arith; unary = omega arith; asked = omega arith }
once (frame.InGroup opening) = record { bracket = omega arith; unary = omega arith; asked = omega arith }
once (frame.InFunctionalCast word token) = record { bracket = omega arith; unary = omega arith; asked = omega arith }
once (frame.InCall callee opening args) = record { bracket = omega arith; unary = omega arith; asked = omega arith }
once (frame.InIndex base opening) = record { bracket = omega arith; unary = omega arith; asked = omega arith }

pub counted_once : (f : Frame) (counts : ℕ × ℕ × ℕ) → counts ≡ counts_of f → AreOnce counts
counted_once f counts is = subst AreOnce (sym is) (once f)

-- there are no more than all frames
pub record AreFew (frames : List Frame) : Type 0 where
  pub brackets : brackets_in frames ≤ length frames
  pub unary : unary_in frames ≤ length frames
  pub asked : asked_in frames ≤ length frames

pub few : (frames : List Frame) → AreFew frames
few [] = record { brackets = omega arith; unary = omega arith; asked = omega arith }
few (f ∷ frames) =
    let o = once f in
    let e = few frames in
    record { brackets = omega (arith, o.bracket, e.brackets); unary = omega (arith, o.unary, e.unary); asked = omega (arith, o.asked, e.asked) }

-- forms that are open inside frames, as they are counted
pub brackets_are : (source : List ℕ) (around : Nesting) (frames : List Frame) → (nesting around (frames_in source frames)).brackets ≡ around.brackets + brackets_in frames
brackets_are source around [] = omega arith
brackets_are source around (frame.Prefix operator token ∷ frames) = brackets_are source around frames ∙ omega arith
brackets_are source around (frame.Casting opening word token ∷ frames) = brackets_are source around frames ∙ omega arith
brackets_are source around (frame.Left left operator token ∷ frames) = brackets_are source around frames ∙ omega arith
brackets_are source around (frame.Asked condition question ∷ frames) = brackets_are source around frames ∙ omega arith
brackets_are source around (frame.Chosen condition question yes' ∷ frames) = brackets_are source around frames ∙ omega arith
brackets_are source around (frame.InGroup opening ∷ frames) = ap suc (brackets_are source around frames) ∙ omega arith
brackets_are source around (frame.InFunctionalCast word token ∷ frames) = ap suc (brackets_are source around frames) ∙ omega arith
brackets_are source around (frame.InCall callee opening args ∷ frames) = ap suc (brackets_are source around frames) ∙ omega arith
brackets_are source around (frame.InIndex base opening ∷ frames) = ap suc (brackets_are source around frames) ∙ omega arith

pub unary_are : (source : List ℕ) (around : Nesting) (frames : List Frame) → (nesting around (frames_in source frames)).unary ≡ around.unary + unary_in frames
unary_are source around [] = omega arith
unary_are source around (frame.Prefix operator token ∷ frames) = ap suc (unary_are source around frames) ∙ omega arith
unary_are source around (frame.Casting opening word token ∷ frames) = unary_are source around frames ∙ omega arith
unary_are source around (frame.Left left operator token ∷ frames) = unary_are source around frames ∙ omega arith
unary_are source around (frame.Asked condition question ∷ frames) = unary_are source around frames ∙ omega arith
unary_are source around (frame.Chosen condition question yes' ∷ frames) = unary_are source around frames ∙ omega arith
unary_are source around (frame.InGroup opening ∷ frames) = unary_are source around frames ∙ omega arith
unary_are source around (frame.InFunctionalCast word token ∷ frames) = unary_are source around frames ∙ omega arith
unary_are source around (frame.InCall callee opening args ∷ frames) = unary_are source around frames ∙ omega arith
unary_are source around (frame.InIndex base opening ∷ frames) = unary_are source around frames ∙ omega arith

pub types_are : (source : List ℕ) (around : Nesting) (frames : List Frame) → (nesting around (frames_in source frames)).types ≡ around.types
types_are source around [] = refl
types_are source around (frame.Prefix operator token ∷ frames) = types_are source around frames
types_are source around (frame.Casting opening word token ∷ frames) = types_are source around frames
types_are source around (frame.Left left operator token ∷ frames) = types_are source around frames
types_are source around (frame.Asked condition question ∷ frames) = types_are source around frames
types_are source around (frame.Chosen condition question yes' ∷ frames) = types_are source around frames
types_are source around (frame.InGroup opening ∷ frames) = types_are source around frames
types_are source around (frame.InFunctionalCast word token ∷ frames) = types_are source around frames
types_are source around (frame.InCall callee opening args ∷ frames) = types_are source around frames
types_are source around (frame.InIndex base opening ∷ frames) = types_are source around frames

-- what ends at a token that opens a bracket, or an operator before its operand
pub bracket_entry : (source : List ℕ) (around : Nesting) (inside : ℕ) (frames : List Frame) (deep : Bool) → inside ≡ brackets_in frames → deep ≡ nat_lt 64 (suc (around.brackets + inside))
    → deep_by deep ≡ bracket_opens around (frames_in source frames)
bracket_entry source around inside frames deep i d =
    ap deep_by (d ∙ ap (λ n. nat_lt 64 (suc n)) (ap (λ n. around.brackets + n) i ∙ sym (brackets_are source around frames)))

pub unary_entry : (source : List ℕ) (around : Nesting) (inside : ℕ) (frames : List Frame) (deep : Bool) → inside ≡ unary_in frames → deep ≡ nat_lt 64 (suc (around.unary + inside))
    → deep_by deep ≡ unary_opens around (frames_in source frames)
unary_entry source around inside frames deep i d =
    ap deep_by (d ∙ ap (λ n. nat_lt 64 (suc n)) (ap (λ n. around.unary + n) i ∙ sym (unary_are source around frames)))

-- no frames are left around a whole expression where no bracket and no `?` is open
pub whole_alone : (source : List ℕ) (frames : List Frame) (value : Tree) → brackets_in frames ≡ 0 → asked_in frames ≡ 0
    → (whole value (frames_in source frames)).1 ≡ []
whole_alone source [] value b a = refl
whole_alone source (frame.Prefix operator token ∷ frames) value b a = whole_alone source frames _ (omega (arith, b)) (omega (arith, a))
whole_alone source (frame.Casting opening word token ∷ frames) value b a = whole_alone source frames _ (omega (arith, b)) (omega (arith, a))
whole_alone source (frame.Left left operator token ∷ frames) value b a = whole_alone source frames _ (omega (arith, b)) (omega (arith, a))
whole_alone source (frame.Asked condition question ∷ frames) value b a = absurd (omega (arith, a))
whole_alone source (frame.Chosen condition question yes' ∷ frames) value b a = whole_alone source frames _ (omega (arith, b)) (omega (arith, a))
whole_alone source (frame.InGroup opening ∷ frames) value b a = absurd (omega (arith, b))
whole_alone source (frame.InFunctionalCast word token ∷ frames) value b a = absurd (omega (arith, b))
whole_alone source (frame.InCall callee opening args ∷ frames) value b a = absurd (omega (arith, b))
whole_alone source (frame.InIndex base opening ∷ frames) value b a = absurd (omega (arith, b))

-- some frame is left where one is
pub record HasFrame (held : Held) : Type 0 where
  pub frame : machine.Frame
  pub more : List machine.Frame
  pub are : held.1 ≡ frame ∷ more

pub whole_inside : (source : List ℕ) (frames : List Frame) (value : Tree) → 0 < brackets_in frames + asked_in frames → HasFrame (whole value (frames_in source frames))
whole_inside source [] value h = absurd (omega (arith, h))
whole_inside source (frame.Prefix operator token ∷ frames) value h = whole_inside source frames _ (omega (arith, h))
whole_inside source (frame.Casting opening word token ∷ frames) value h = whole_inside source frames _ (omega (arith, h))
whole_inside source (frame.Left left operator token ∷ frames) value h = whole_inside source frames _ (omega (arith, h))
whole_inside source (frame.Asked condition question ∷ frames) value h = record { frame = _; more = _; are = refl }
whole_inside source (frame.Chosen condition question yes' ∷ frames) value h = whole_inside source frames _ (omega (arith, h))
whole_inside source (frame.InGroup opening ∷ frames) value h = record { frame = _; more = _; are = refl }
whole_inside source (frame.InFunctionalCast word token ∷ frames) value h = record { frame = _; more = _; are = refl }
whole_inside source (frame.InCall callee opening args ∷ frames) value h = record { frame = _; more = _; are = refl }
whole_inside source (frame.InIndex base opening ∷ frames) value h = record { frame = _; more = _; are = refl }
