-- The machine goes the same way whatever the trees are: steps and runs keep what is plain.
use Rattle.std.proofs.Common.{◌≡◌, ℕ, Bool, true, false, List, [], ◌∷◌, ◌++◌, refl, sym, ap, ◌∙◌}
use Rattle.std.specs.Prelude.{Option, None, nat_le}
use Rattle.def_token.specs.Lexical.{Token}
use Rattle.def_tree.specs.ExprTree as tree
use Rattle.def_tree.specs.ExprTree.{ExprTree}
use Rattle.def_tree.specs.Limits.{Nesting, plain, in_bracket, in_unary}
use Rattle.def_tree.specs.Operator.{Operator, Greater, ShiftRight, level}
use Rattle.def_tree.specs.Statements.{is_call}
use Rattle.def_reading.specs.Cursor.{Cursor, advance, FarthestFailure}
use Rattle.def_reading.specs.Machine.{Frame, Prefix, Casting, Left, Asked, Chosen, InGroup, InFunctionalCast, InCall, InIndex, Expected, Value, Step, On, Ends, Held, held_by, nesting, bound, whole, exprs_of, stands, expects, ends_by, may_assign, operator_on, asked_by, colon_by, comma_by, closing_by, index_by}
use Rattle.def_reading.specs.Plain.{leaf, plain_by, plain_tree, plain_args, plain_frame, plain_frames, plain_held, plain_step}

-- what is plain stays as it is
plain_by_twice : (call : Bool) → plain_tree (plain_by call) ≡ plain_by call
plain_by_twice true = refl
plain_by_twice false = refl

pub plain_twice : (expr : ExprTree) → plain_tree (plain_tree expr) ≡ plain_tree expr
plain_twice expr = plain_by_twice (is_call expr)

args_twice : (args : List ExprTree) → plain_args (plain_args args) ≡ plain_args args
args_twice [] = refl
args_twice (first ∷ more) = refl

frame_twice : (frame : Frame) → plain_frame (plain_frame frame) ≡ plain_frame frame
frame_twice (Prefix operator token) = refl
frame_twice (Casting opening word token) = refl
frame_twice (Left left operator token) = refl
frame_twice (Asked condition question) = refl
frame_twice (Chosen condition question yes') = refl
frame_twice (InGroup opening) = refl
frame_twice (InFunctionalCast word token) = refl
frame_twice (InCall callee opening args) = ap (InCall leaf opening) (args_twice args)
frame_twice (InIndex base opening) = refl

pub frames_twice : (frames : List Frame) → plain_frames (plain_frames frames) ≡ plain_frames frames
frames_twice [] = refl
frames_twice (frame ∷ frames) =
    ap (λ f. f ∷ plain_frames (plain_frames frames)) (frame_twice frame) ∙ ap (λ fs. plain_frame frame ∷ fs) (frames_twice frames)

-- a frame and frames that are the same where they are plain
pub both : {f g : Frame} {fs gs : List Frame} → f ≡ g → fs ≡ gs → f ∷ fs ≡ g ∷ gs
both h k = cc

-- a value and frames that are the same where they are plain
pub held_both : (v w : ExprTree) (fs gs : List Frame) → plain_tree v ≡ plain_tree w → plain_frames fs ≡ plain_frames gs → plain_held (v, fs) ≡ plain_held (w, gs)
held_both v w fs gs h k = ap (λ e. let held : Held = (e, plain_frames fs) in held) h ∙ ap (λ fs. let held : Held = (plain_tree w, fs) in held) k

-- forms are counted the same
pub nesting_plain : (around : Nesting) (fs : List Frame) → nesting around (plain_frames fs) ≡ nesting around fs
nesting_plain around [] = refl
nesting_plain around (Prefix operator token ∷ fs) = ap in_unary (nesting_plain around fs)
nesting_plain around (Casting opening word token ∷ fs) = nesting_plain around fs
nesting_plain around (Left left operator token ∷ fs) = nesting_plain around fs
nesting_plain around (Asked condition question ∷ fs) = nesting_plain around fs
nesting_plain around (Chosen condition question yes' ∷ fs) = nesting_plain around fs
nesting_plain around (InGroup opening ∷ fs) = ap in_bracket (nesting_plain around fs)
nesting_plain around (InFunctionalCast word token ∷ fs) = ap in_bracket (nesting_plain around fs)
nesting_plain around (InCall callee opening args ∷ fs) = ap in_bracket (nesting_plain around fs)
nesting_plain around (InIndex base opening ∷ fs) = ap in_bracket (nesting_plain around fs)

-- a value with the frame around it where nothing is complete
stays : (f : Frame) (fs : List Frame) (v w : ExprTree) → plain_tree v ≡ plain_tree w → plain_held (v, f ∷ fs) ≡ plain_held (w, plain_frame f ∷ plain_frames fs)
stays f fs v w h = held_both v w (f ∷ fs) (plain_frame f ∷ plain_frames fs) h (sym (frames_twice (f ∷ fs)))

held_by_plain : (b : Bool) (closed closed' open' open'' : Held) → plain_held closed ≡ plain_held closed' → plain_held open' ≡ plain_held open'' → plain_held (held_by b closed open') ≡ plain_held (held_by b closed' open'')
held_by_plain true closed closed' open' open'' h k = h
held_by_plain false closed closed' open' open'' h k = k

pub bound_to : (least : ℕ) (fs : List Frame) (v w : ExprTree) → plain_tree v ≡ plain_tree w → plain_held (bound least v fs) ≡ plain_held (bound least w (plain_frames fs))
bound_to least [] v w h = held_both v w [] [] h refl
bound_to least (Prefix operator token ∷ fs) v w h = bound_to least fs (tree.Unary operator token v) (tree.Unary operator token w) refl
bound_to least (Casting opening word token ∷ fs) v w h = bound_to least fs (tree.Cast opening word token v) (tree.Cast opening word token w) refl
bound_to least (Left left operator token ∷ fs) v w h =
    held_by_plain (nat_le least (level operator)) (bound least (tree.Binary operator token left v) fs) (bound least (tree.Binary operator token leaf w) (plain_frames fs))
    (v, Left left operator token ∷ fs) (w, Left leaf operator token ∷ plain_frames fs)
    (bound_to least fs (tree.Binary operator token left v) (tree.Binary operator token leaf w) refl)
    (stays (Left left operator token) fs v w h)
bound_to least (Asked condition question ∷ fs) v w h = stays (Asked condition question) fs v w h
bound_to least (Chosen condition question yes' ∷ fs) v w h = stays (Chosen condition question yes') fs v w h
bound_to least (InGroup opening ∷ fs) v w h = stays (InGroup opening) fs v w h
bound_to least (InFunctionalCast word token ∷ fs) v w h = stays (InFunctionalCast word token) fs v w h
bound_to least (InCall callee opening args ∷ fs) v w h = stays (InCall callee opening args) fs v w h
bound_to least (InIndex base opening ∷ fs) v w h = stays (InIndex base opening) fs v w h

pub whole_to : (fs : List Frame) (v w : ExprTree) → plain_tree v ≡ plain_tree w → plain_held (whole v fs) ≡ plain_held (whole w (plain_frames fs))
whole_to [] v w h = held_both v w [] [] h refl
whole_to (Prefix operator token ∷ fs) v w h = whole_to fs (tree.Unary operator token v) (tree.Unary operator token w) refl
whole_to (Casting opening word token ∷ fs) v w h = whole_to fs (tree.Cast opening word token v) (tree.Cast opening word token w) refl
whole_to (Left left operator token ∷ fs) v w h = whole_to fs (tree.Binary operator token left v) (tree.Binary operator token leaf w) refl
whole_to (Asked condition question ∷ fs) v w h = stays (Asked condition question) fs v w h
whole_to (Chosen condition question yes' ∷ fs) v w h = whole_to fs (tree.Conditional condition question yes' v) (tree.Conditional leaf question leaf w) refl
whole_to (InGroup opening ∷ fs) v w h = stays (InGroup opening) fs v w h
whole_to (InFunctionalCast word token ∷ fs) v w h = stays (InFunctionalCast word token) fs v w h
whole_to (InCall callee opening args ∷ fs) v w h = stays (InCall callee opening args) fs v w h
whole_to (InIndex base opening ∷ fs) v w h = stays (InIndex base opening) fs v w h

-- what is complete around values that are the same where they are plain
pub bound_plain : (least : ℕ) (fs : List Frame) (v w : ExprTree) → plain_tree v ≡ plain_tree w → plain_held (bound least v fs) ≡ plain_held (bound least w fs)
bound_plain least fs v w h = bound_to least fs v w h ∙ sym (bound_to least fs w w refl)

pub whole_plain : (fs : List Frame) (v w : ExprTree) → plain_tree v ≡ plain_tree w → plain_held (whole v fs) ≡ plain_held (whole w fs)
whole_plain fs v w h = whole_to fs v w h ∙ sym (whole_to fs w w refl)

-- steps that are the same where they are plain

pub stands_plain : (fs gs : List Frame) (v w : ExprTree) (place : Cursor) → plain_frames fs ≡ plain_frames gs → plain_tree v ≡ plain_tree w
    → plain_step (stands fs v place) ≡ plain_step (stands gs w place)
stands_plain fs gs v w place f h =
    ap (λ fs. On None (record { frames = fs; mode = Value (plain_tree v); place = place })) f
    ∙ ap (λ e. On None (record { frames = plain_frames gs; mode = Value e; place = place })) h

pub expects_plain : (fs gs : List Frame) (place : Cursor) → plain_frames fs ≡ plain_frames gs → plain_step (expects fs place) ≡ plain_step (expects gs place)
expects_plain fs gs place f = ap (λ fs. On None (record { frames = fs; mode = Expected; place = place })) f

-- what is plain of frames around a step
pub twice : (fs : List Frame) → plain_frames fs ≡ plain_frames (plain_frames fs)
twice fs = sym (frames_twice fs)

-- what stands behind a whole expression, from what is plain of it
ends_to : (held : Held) (tokens : List Token) (place : Cursor) → plain_step (ends_by held tokens place) ≡ plain_step (ends_by (plain_held held) tokens place)
ends_to (v, []) tokens place = ap (λ e. Ends e place) (sym (plain_twice v))
ends_to (v, f ∷ fs) tokens place = refl

colon_to : (held : Held) (tokens : List Token) (place : Cursor) → plain_step (colon_by held tokens place) ≡ plain_step (colon_by (plain_held held) tokens place)
colon_to (v, []) tokens place = ends_to (v, []) tokens place
colon_to (v, Prefix operator token ∷ fs) tokens place = refl
colon_to (v, Casting opening word token ∷ fs) tokens place = refl
colon_to (v, Left left operator token ∷ fs) tokens place = refl
colon_to (v, Asked condition question ∷ fs) tokens place =
    expects_plain (Chosen condition question v ∷ fs) (Chosen leaf question (plain_tree v) ∷ plain_frames fs) (advance plain place) (both refl (twice fs))
colon_to (v, Chosen condition question yes' ∷ fs) tokens place = refl
colon_to (v, InGroup opening ∷ fs) tokens place = refl
colon_to (v, InFunctionalCast word token ∷ fs) tokens place = refl
colon_to (v, InCall callee opening args ∷ fs) tokens place = refl
colon_to (v, InIndex base opening ∷ fs) tokens place = refl

-- arguments with one more
more_args : (args : List ExprTree) (v w : ExprTree) → plain_args (args ++ v ∷ []) ≡ plain_args (plain_args args ++ w ∷ [])
more_args [] v w = refl
more_args (first ∷ more) v w = refl

comma_to : (held : Held) (tokens : List Token) (place : Cursor) → plain_step (comma_by held tokens place) ≡ plain_step (comma_by (plain_held held) tokens place)
comma_to (v, []) tokens place = ends_to (v, []) tokens place
comma_to (v, Prefix operator token ∷ fs) tokens place = refl
comma_to (v, Casting opening word token ∷ fs) tokens place = refl
comma_to (v, Left left operator token ∷ fs) tokens place = refl
comma_to (v, Asked condition question ∷ fs) tokens place = refl
comma_to (v, Chosen condition question yes' ∷ fs) tokens place = refl
comma_to (v, InGroup opening ∷ fs) tokens place = refl
comma_to (v, InFunctionalCast word token ∷ fs) tokens place = refl
comma_to (v, InCall callee opening args ∷ fs) tokens place =
    expects_plain (InCall callee opening (args ++ v ∷ []) ∷ fs) (InCall leaf opening (plain_args args ++ plain_tree v ∷ []) ∷ plain_frames fs) (advance plain place)
    (both (ap (InCall leaf opening) (more_args args v (plain_tree v))) (twice fs))
comma_to (v, InIndex base opening ∷ fs) tokens place = refl

closing_to : (held : Held) (tokens : List Token) (place : Cursor) → plain_step (closing_by held tokens place) ≡ plain_step (closing_by (plain_held held) tokens place)
closing_to (v, []) tokens place = ends_to (v, []) tokens place
closing_to (v, Prefix operator token ∷ fs) tokens place = refl
closing_to (v, Casting opening word token ∷ fs) tokens place = refl
closing_to (v, Left left operator token ∷ fs) tokens place = refl
closing_to (v, Asked condition question ∷ fs) tokens place = refl
closing_to (v, Chosen condition question yes' ∷ fs) tokens place = refl
closing_to (v, InGroup opening ∷ fs) tokens place =
    stands_plain fs (plain_frames fs) (tree.Group opening v) (tree.Group opening (plain_tree v)) (advance plain place) (twice fs) refl
closing_to (v, InFunctionalCast word token ∷ fs) tokens place =
    stands_plain fs (plain_frames fs) (tree.FunctionalCast word token v) (tree.FunctionalCast word token (plain_tree v)) (advance plain place) (twice fs) refl
closing_to (v, InCall callee opening args ∷ fs) tokens place =
    stands_plain fs (plain_frames fs) (tree.Call callee opening (exprs_of (args ++ v ∷ []))) (tree.Call leaf opening (exprs_of (plain_args args ++ plain_tree v ∷ [])))
    (advance plain place) (twice fs) refl
closing_to (v, InIndex base opening ∷ fs) tokens place = refl

index_to : (held : Held) (tokens : List Token) (place : Cursor) → plain_step (index_by held tokens place) ≡ plain_step (index_by (plain_held held) tokens place)
index_to (v, []) tokens place = ends_to (v, []) tokens place
index_to (v, Prefix operator token ∷ fs) tokens place = refl
index_to (v, Casting opening word token ∷ fs) tokens place = refl
index_to (v, Left left operator token ∷ fs) tokens place = refl
index_to (v, Asked condition question ∷ fs) tokens place = refl
index_to (v, Chosen condition question yes' ∷ fs) tokens place = refl
index_to (v, InGroup opening ∷ fs) tokens place = refl
index_to (v, InFunctionalCast word token ∷ fs) tokens place = refl
index_to (v, InCall callee opening args ∷ fs) tokens place = refl
index_to (v, InIndex base opening ∷ fs) tokens place =
    stands_plain fs (plain_frames fs) (tree.Index base opening v) (tree.Index leaf opening (plain_tree v)) (advance plain place) (twice fs) refl

asked_to : (held : Held) (question : Token) (place : Cursor) → plain_step (asked_by held question place) ≡ plain_step (asked_by (plain_held held) question place)
asked_to held question place =
    expects_plain (Asked held.0 question ∷ held.1) (Asked (plain_tree held.0) question ∷ plain_frames held.1) (advance plain place) (both refl (twice held.1))

operator_to : (operator : Operator) (held : Held) (other : Option FarthestFailure) (token : Token) (place : Cursor)
    → plain_step (operator_on operator held other token place) ≡ plain_step (operator_on operator (plain_held held) other token place)
operator_to operator held other token place =
    ap (λ fs. On other (record { frames = fs; mode = Expected; place = place })) (both {f = Left leaf operator token} refl (twice held.1))

-- what follows from what is plain of a value and its frames
pub follows : (next : Held → Step) → ((held : Held) → plain_step (next held) ≡ plain_step (next (plain_held held)))
    → (held other : Held) → plain_held held ≡ plain_held other → plain_step (next held) ≡ plain_step (next other)
follows next to held other h = to held ∙ ap (λ held. plain_step (next held)) h ∙ sym (to other)

pub ends_plain : (tokens : List Token) (place : Cursor) (held other : Held) → plain_held held ≡ plain_held other → plain_step (ends_by held tokens place) ≡ plain_step (ends_by other tokens place)
ends_plain tokens place = follows (λ held. ends_by held tokens place) (λ held. ends_to held tokens place)

pub colon_plain : (tokens : List Token) (place : Cursor) (held other : Held) → plain_held held ≡ plain_held other → plain_step (colon_by held tokens place) ≡ plain_step (colon_by other tokens place)
colon_plain tokens place = follows (λ held. colon_by held tokens place) (λ held. colon_to held tokens place)

pub comma_plain : (tokens : List Token) (place : Cursor) (held other : Held) → plain_held held ≡ plain_held other → plain_step (comma_by held tokens place) ≡ plain_step (comma_by other tokens place)
comma_plain tokens place = follows (λ held. comma_by held tokens place) (λ held. comma_to held tokens place)

pub closing_plain : (tokens : List Token) (place : Cursor) (held other : Held) → plain_held held ≡ plain_held other → plain_step (closing_by held tokens place) ≡ plain_step (closing_by other tokens place)
closing_plain tokens place = follows (λ held. closing_by held tokens place) (λ held. closing_to held tokens place)

pub index_plain : (tokens : List Token) (place : Cursor) (held other : Held) → plain_held held ≡ plain_held other → plain_step (index_by held tokens place) ≡ plain_step (index_by other tokens place)
index_plain tokens place = follows (λ held. index_by held tokens place) (λ held. index_to held tokens place)

pub asked_plain : (question : Token) (place : Cursor) (held other : Held) → plain_held held ≡ plain_held other → plain_step (asked_by held question place) ≡ plain_step (asked_by other question place)
asked_plain question place = follows (λ held. asked_by held question place) (λ held. asked_to held question place)

pub operator_plain : (operator : Operator) (other : Option FarthestFailure) (token : Token) (place : Cursor) (held held' : Held) → plain_held held ≡ plain_held held'
    → plain_step (operator_on operator held other token place) ≡ plain_step (operator_on operator held' other token place)
operator_plain operator other token place = follows (λ held. operator_on operator held other token place) (λ held. operator_to operator held other token place)

-- a whole expression may end before an assignment whatever it is
assigns_to : (operator : Operator) (held : Held) → may_assign operator held ≡ may_assign operator (plain_held held)
assigns_to Greater (v, []) = refl
assigns_to Greater (v, f ∷ fs) = refl
assigns_to ShiftRight (v, []) = refl
assigns_to ShiftRight (v, f ∷ fs) = refl
assigns_to _ held = refl

pub assigns_plain : (operator : Operator) (held other : Held) → plain_held held ≡ plain_held other → may_assign operator held ≡ may_assign operator other
assigns_plain operator held other h = assigns_to operator held ∙ ap (may_assign operator) h ∙ sym (assigns_to operator other)
