-- Trees that are kept, or what is plain of them.
use Rattle.std.proofs.Common.{◌≡◌, ℕ, Bool, true, false, List, ◌∷◌, sym, ap, subst, ◌∙◌}
use Rattle.def_tree.specs.ExprTree.{ExprTree as Tree}
use Rattle.sl_tree.specs.View.{expr_in}
use Rattle.sl_tree.specs.declared.expressions.ExprTree.{ExprTree}
use Rattle.def_reading.specs.Machine as machine
use Rattle.def_reading.specs.Machine.{Held, Step, bound, whole}
use Rattle.def_reading.specs.Plain.{plain_held, plain_step}
use Rattle.law_machine.proofs.PlainSteps.{bound_plain, whole_plain}
use Rattle.sl_machine.specs.Framed.{frame_in, frames_in}
use Rattle.sl_machine.specs.Joins.{binds, closes, join}
use Rattle.sl_machine.specs.Kept.{kept_tree, kept_held, IsAlike}
use Rattle.sl_machine.specs.declared.frames.Frame.{Frame}
use Rattle.sl_machine.proofs.Joined.{whole_closes, bound_closes}

kept_whole : (keep : Bool) (fs : List machine.Frame) (v w : Tree) → kept_tree keep v ≡ kept_tree keep w → kept_held keep (whole v fs) ≡ kept_held keep (whole w fs)
kept_whole true fs v w h = ap (λ v. whole v fs) h
kept_whole false fs v w h = whole_plain fs v w h

kept_bound : (keep : Bool) (least : ℕ) (fs : List machine.Frame) (v w : Tree) → kept_tree keep v ≡ kept_tree keep w → kept_held keep (bound least v fs) ≡ kept_held keep (bound least w fs)
kept_bound true least fs v w h = ap (λ v. bound least v fs) h
kept_bound false least fs v w h = bound_plain least fs v w h

-- one form more is complete
pub whole_further : (source : List ℕ) (keep : Bool) (frame : Frame) (frames more : List Frame) (value next : ExprTree) → frames ≡ frame ∷ more → closes (frame_in source frame) ≡ true
    → kept_tree keep (expr_in source next) ≡ kept_tree keep (join (frame_in source frame) (expr_in source value))
    → kept_held keep (whole (expr_in source value) (frames_in source frames)) ≡ kept_held keep (whole (expr_in source next) (frames_in source more))
whole_further source keep frame frames more value next are c j =
    ap (λ fs. kept_held keep (whole (expr_in source value) (frames_in source fs))) are
    ∙ ap (kept_held keep) (whole_closes (frame_in source frame) (frames_in source more) (expr_in source value) c)
    ∙ sym (kept_whole keep (frames_in source more) (expr_in source next) (join (frame_in source frame) (expr_in source value)) j)

pub bound_further : (source : List ℕ) (keep : Bool) (least : ℕ) (frame : Frame) (frames more : List Frame) (value next : ExprTree) → frames ≡ frame ∷ more → binds least (frame_in source frame) ≡ true
    → kept_tree keep (expr_in source next) ≡ kept_tree keep (join (frame_in source frame) (expr_in source value))
    → kept_held keep (bound least (expr_in source value) (frames_in source frames)) ≡ kept_held keep (bound least (expr_in source next) (frames_in source more))
bound_further source keep least frame frames more value next are c j =
    ap (λ fs. kept_held keep (bound least (expr_in source value) (frames_in source fs))) are
    ∙ ap (kept_held keep) (bound_closes least (frame_in source frame) (frames_in source more) (expr_in source value) c)
    ∙ sym (kept_bound keep least (frames_in source more) (expr_in source next) (join (frame_in source frame) (expr_in source value)) j)

-- steps that are the same are alike
pub same_alike : (Keeps : Type 0) (made given : Step) → made ≡ given → IsAlike Keeps made given
same_alike Keeps made given h = record { alike = ap plain_step h; same = λ k f. h }

-- a step that is another one, for one that is alike to a third
pub alike_from : (Keeps : Type 0) (made between given : Step) → made ≡ between → IsAlike Keeps between given → IsAlike Keeps made given
alike_from Keeps made between given h a = subst (λ s. IsAlike Keeps s given) (sym h) a

pub alike_to : (Keeps : Type 0) (made between given : Step) → IsAlike Keeps made between → between ≡ given → IsAlike Keeps made given
alike_to Keeps made between given a h = subst (IsAlike Keeps made) h a

pub always_alike : (Keeps : Type 0) (made given : Step) → IsAlike (Unit {0}) made given → IsAlike Keeps made given
always_alike Keeps made given a = record { alike = a.alike; same = λ k f. a.same tt f }

-- what follows from a value and the frames around it, where these are kept or plain
kept_next : (keep : Bool) (next : Held → Step) → ((held other : Held) → plain_held held ≡ plain_held other → plain_step (next held) ≡ plain_step (next other))
    → (held other : Held) → kept_held keep held ≡ kept_held keep other → IsAlike (keep ≡ true) (next held) (next other)
kept_next true next plain held other h = same_alike (true ≡ true) (next held) (next other) (ap next h)
kept_next false next plain held other h = record { alike = plain held other h; same = λ k. absurd (cc) }

pub held_alike : (keep : Bool) (next : Held → Step) (made given : Step) (held other : Held)
    → ((held other : Held) → plain_held held ≡ plain_held other → plain_step (next held) ≡ plain_step (next other))
    → kept_held keep held ≡ kept_held keep other → made ≡ next held → next other ≡ given → IsAlike (keep ≡ true) made given
held_alike keep next made given held other plain h m g =
    alike_to (keep ≡ true) made (next other) given (alike_from (keep ≡ true) made (next held) (next other) m (kept_next keep next plain held other h)) g
