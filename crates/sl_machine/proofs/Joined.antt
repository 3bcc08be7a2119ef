-- Forms that are complete around a value.
use Rattle.std.proofs.Common.{◌≡◌, ℕ, true, false, List, [], ◌∷◌, ◌++◌, reverse, refl, sym, ap, ◌∙◌}
use Rattle.std.proofs.lemmas.List.{reverse-append}
use Rattle.def_tree.specs.ExprTree as tree
use Rattle.def_tree.specs.ExprTree.{ExprTree}
use Rattle.sl_token.specs.View.{token_in}
use Rattle.sl_token.specs.declared.token.Token.{Token}
use Rattle.sl_tree.proofs.Views.{expr_in-Unary, expr_in-Cast, expr_in-Binary, expr_in-Conditional}
use Rattle.sl_tree.specs.View.{expr_in, operator_of, unary_of, word_of}
use Rattle.sl_tree.specs.declared.expressions.ExprTree.{ExprTree as Kept}
use Rattle.sl_tree.specs.declared.expressions.ExprTree.TheVariants as expr
use Rattle.sl_tree.specs.declared.operators.Operator.{Operator}
use Rattle.sl_tree.specs.declared.operators.UnaryOperator.{UnaryOperator}
use Rattle.sl_tree.specs.declared.types.TypeWord.{TypeWord}
use Rattle.sl_machine.specs.Framed.{frame_in}
use Rattle.sl_machine.specs.Joins.{binds, closes, join}
use Rattle.def_reading.specs.Machine as machine
use Rattle.def_reading.specs.Machine.{bound, whole}
use Rattle.sl_machine.specs.declared.frames.Frame.{Frame}
use Rattle.sl_machine.specs.declared.frames.Frame.TheVariants as frame

pub join_prefix : (source : List ℕ) (f : Frame) (operator : UnaryOperator) (token : Token) (boxed last : Kept) → f ≡ frame.Prefix operator token → boxed ≡ last
    → expr_in source (expr.Unary operator token boxed) ≡ join (frame_in source f) (expr_in source last)
join_prefix source f operator token boxed last is b =
    expr_in-Unary source operator token boxed ∙ ap (λ e. tree.Unary (unary_of operator) (token_in source token) (expr_in source e)) b
    ∙ sym (ap (λ g. join (frame_in source g) (expr_in source last)) is)

pub join_casting : (source : List ℕ) (f : Frame) (opening : Token) (word : TypeWord) (token : Token) (boxed last : Kept) → f ≡ frame.Casting opening word token → boxed ≡ last
    → expr_in source (expr.Cast opening word token boxed) ≡ join (frame_in source f) (expr_in source last)
join_casting source f opening word token boxed last is b =
    expr_in-Cast source opening word token boxed ∙ ap (λ e. tree.Cast (token_in source opening) (word_of word) (token_in source token) (expr_in source e)) b
    ∙ sym (ap (λ g. join (frame_in source g) (expr_in source last)) is)

pub join_left : (source : List ℕ) (f : Frame) (operator : Operator) (token : Token) (left kept boxed last : Kept) → f ≡ frame.Left left operator token → kept ≡ left → boxed ≡ last
    → expr_in source (expr.Binary operator token kept boxed) ≡ join (frame_in source f) (expr_in source last)
join_left source f operator token left kept boxed last is k b =
    expr_in-Binary source operator token kept boxed ∙ ap (λ e. tree.Binary (operator_of operator) (token_in source token) (expr_in source e) (expr_in source boxed)) k
    ∙ ap (λ e. tree.Binary (operator_of operator) (token_in source token) (expr_in source left) (expr_in source e)) b
    ∙ sym (ap (λ g. join (frame_in source g) (expr_in source last)) is)

pub join_chosen : (source : List ℕ) (f : Frame) (question : Token) (condition first held one boxed last : Kept) → f ≡ frame.Chosen condition question first
    → held ≡ condition → one ≡ first → boxed ≡ last
    → expr_in source (expr.Conditional held question one boxed) ≡ join (frame_in source f) (expr_in source last)
join_chosen source f question condition first held one boxed last is h o b =
    expr_in-Conditional source held question one boxed
    ∙ ap (λ e. tree.Conditional (expr_in source e) (token_in source question) (expr_in source one) (expr_in source boxed)) h
    ∙ ap (λ e. tree.Conditional (expr_in source condition) (token_in source question) (expr_in source e) (expr_in source boxed)) o
    ∙ ap (λ e. tree.Conditional (expr_in source condition) (token_in source question) (expr_in source first) (expr_in source e)) b
    ∙ sym (ap (λ g. join (frame_in source g) (expr_in source last)) is)

-- a frame more at the end of those that are kept is the innermost
pub one_more : {A : Type 0} (items : List A) (item : A) → reverse (items ++ item ∷ []) ≡ item ∷ reverse items
one_more items item = reverse-append items (item ∷ [])

-- one frame of those that are complete before the end

pub whole_closes : (f : machine.Frame) (fs : List machine.Frame) (value : ExprTree) → closes f ≡ true → whole value (f ∷ fs) ≡ whole (join f value) fs
whole_closes (machine.Prefix operator token) fs value h = refl
whole_closes (machine.Casting opening word token) fs value h = refl
whole_closes (machine.Left left operator token) fs value h = refl
whole_closes (machine.Asked condition question) fs value h = absurd (cc)
whole_closes (machine.Chosen condition question yes') fs value h = refl
whole_closes (machine.InGroup opening) fs value h = absurd (cc)
whole_closes (machine.InFunctionalCast word token) fs value h = absurd (cc)
whole_closes (machine.InCall callee opening args) fs value h = absurd (cc)
whole_closes (machine.InIndex base opening) fs value h = absurd (cc)

pub whole_stays : (f : machine.Frame) (fs : List machine.Frame) (value : ExprTree) → closes f ≡ false → whole value (f ∷ fs) ≡ (value, f ∷ fs)
whole_stays (machine.Prefix operator token) fs value h = absurd (cc)
whole_stays (machine.Casting opening word token) fs value h = absurd (cc)
whole_stays (machine.Left left operator token) fs value h = absurd (cc)
whole_stays (machine.Asked condition question) fs value h = refl
whole_stays (machine.Chosen condition question yes') fs value h = absurd (cc)
whole_stays (machine.InGroup opening) fs value h = refl
whole_stays (machine.InFunctionalCast word token) fs value h = refl
whole_stays (machine.InCall callee opening args) fs value h = refl
whole_stays (machine.InIndex base opening) fs value h = refl

pub bound_closes : (least : ℕ) (f : machine.Frame) (fs : List machine.Frame) (value : ExprTree) → binds least f ≡ true → bound least value (f ∷ fs) ≡ bound least (join f value) fs
bound_closes least (machine.Prefix operator token) fs value h = refl
bound_closes least (machine.Casting opening word token) fs value h = refl
bound_closes least (machine.Left left operator token) fs value h = rw h refl
bound_closes least (machine.Asked condition question) fs value h = absurd (cc)
bound_closes least (machine.Chosen condition question yes') fs value h = absurd (cc)
bound_closes least (machine.InGroup opening) fs value h = absurd (cc)
bound_closes least (machine.InFunctionalCast word token) fs value h = absurd (cc)
bound_closes least (machine.InCall callee opening args) fs value h = absurd (cc)
bound_closes least (machine.InIndex base opening) fs value h = absurd (cc)

pub bound_stays : (least : ℕ) (f : machine.Frame) (fs : List machine.Frame) (value : ExprTree) → binds least f ≡ false → bound least value (f ∷ fs) ≡ (value, f ∷ fs)
bound_stays least (machine.Prefix operator token) fs value h = absurd (cc)
bound_stays least (machine.Casting opening word token) fs value h = absurd (cc)
bound_stays least (machine.Left left operator token) fs value h = rw h refl
bound_stays least (machine.Asked condition question) fs value h = refl
bound_stays least (machine.Chosen condition question yes') fs value h = refl
bound_stays least (machine.InGroup opening) fs value h = refl
bound_stays least (machine.InFunctionalCast word token) fs value h = refl
bound_stays least (machine.InCall callee opening args) fs value h = refl
bound_stays least (machine.InIndex base opening) fs value h = refl
