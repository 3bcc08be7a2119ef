-- What is read is a tree of the tokens: how sound readers are put together.
use Rattle.std.proofs.Common.{◌≡◌, ℕ, zero, suc, Bool, true, false, List, [], ◌∷◌, length, refl, subst}
use Rattle.std.specs.Prelude.{Option}
use Rattle.def_token.specs.Lexical.{Token}
use Rattle.def_tree.specs.ExprTree.{ExprTree}
use Rattle.def_tree.specs.Expressions.{IsExpr}
use Rattle.def_tree.specs.Limits.{Nesting, Entry, plain}
use Rattle.def_tree.specs.Symbol.{Symbol, symbol}
use Rattle.def_tree.specs.TypeTree.{TypeTree}
use Rattle.def_tree.specs.Types.{IsType}
use Rattle.def_reading.specs.Cursor.{Told, Cursor, At, noted, FarthestFailure, further}
use Rattle.def_reading.specs.Machine.{Mode, Config, Step, On, Ends, Refused, step}
use Rattle.def_reading.specs.Try.{Try, Reads, Stops, Reader, try_then, try_as, refused, choice, choice_by, token_then, up_to, ahead, expr_in, type_in, way_by, assign_ends, end_by, run_by, run, started, look_by, long_from}
use Rattle.def_reading.specs.TypeAhead.{LookAhead, Found, Missing, type_ahead}
use Rattle.law_types.proofs.AheadSound.{SoundLook, type_sound}
use Rattle.law_machine.proofs.MachineRun.{step_holds}
use Rattle.law_machine.proofs.MachineSound.{HoldsAt, PartAt, SoundStep, nothing}
use Rattle.law_exprs.proofs.TryComes.{starts}

-- this holds of what is read
abbrev pub Sound : {A : Type 0} → (A → List Token → Type 0) → Try A → Type 0
Sound P (Reads a (At at limit rest) reach) = P a rest
Sound P (Stops reach) = Unit {0}

pub sound_as : {A B : Type 0} (P : A → List Token → Type 0) (Q : B → List Token → Type 0) (make : A → B) (look : Try A) → ((a : A) (rest : List Token) → P a rest → Q (make a) rest)
    → Sound P look → Sound Q (try_as make look)
sound_as P Q make (Reads a (At at limit rest) reach) f h = f a rest h
sound_as P Q make (Stops reach) f h = tt

pub sound_by : {A : Type 0} (P Q : A → List Token → Type 0) (look : Try A) → ((a : A) (rest : List Token) → P a rest → Q a rest) → Sound P look → Sound Q look
sound_by P Q (Reads a (At at limit rest) reach) f h = f a rest h
sound_by P Q (Stops reach) f h = tt

pub sound_then : {A B : Type 0} (P : A → List Token → Type 0) (Q : B → List Token → Type 0) (next : A → Reader B) (look : Try A) → Sound P look
    → ((a : A) (at : ℕ) (limit : Option Told) (rest : List Token) (reach : Option FarthestFailure) → P a rest → Sound Q (next a reach (At at limit rest)))
    → Sound Q (try_then next look)
sound_then P Q next (Reads a (At at limit rest) reach) h f = f a at limit rest reach h
sound_then P Q next (Stops reach) h f = tt

-- tokens that begin with one that passes a test
pub record Begins (test : Symbol → Bool) (tokens : List Token) (token : Token) (others : List Token) : Type 0 where
  pub are : tokens ≡ token ∷ others
  pub passes : test (symbol token) ≡ true

choice_sound_by : {A : Type 0} (b : Bool) (Q : A → List Token → Type 0) (test : Symbol → Bool) (entry : Entry) (yes' : Token → Reader A) (no' : Reader A) (token : Token) (tokens : List Token)
    (at : ℕ) (limit : Option Told) (reach : Option FarthestFailure) → test (symbol token) ≡ b
    → ((limit : Option Told) → Begins test (token ∷ tokens) token tokens → Sound Q (yes' token reach (At (suc at) limit tokens)))
    → (test (symbol token) ≡ false → Sound Q (no' reach (At at limit (token ∷ tokens))))
    → Sound Q (choice_by b entry yes' no' reach token (At at limit (token ∷ tokens)))
choice_sound_by true Q test entry yes' no' token tokens at limit reach is f g = f (noted limit entry at token) (record { are = refl; passes = is })
choice_sound_by false Q test entry yes' no' token tokens at limit reach is f g = g is

pub sound_choice : {A : Type 0} (Q : A → List Token → Type 0) (test : Symbol → Bool) (entry : Entry) (yes' : Token → Reader A) (no' : Reader A) (at : ℕ) (limit : Option Told) (tokens : List Token) (reach : Option FarthestFailure)
    → ((token : Token) (others : List Token) (at : ℕ) (limit : Option Told) → Begins test tokens token others → Sound Q (yes' token reach (At at limit others)))
    → (starts test tokens ≡ false → Sound Q (no' reach (At at limit tokens)))
    → Sound Q (choice test entry yes' no' reach (At at limit tokens))
sound_choice Q test entry yes' no' at limit [] reach f g = g refl
sound_choice Q test entry yes' no' at limit (token ∷ tokens) reach f g =
    choice_sound_by (test (symbol token)) Q test entry yes' no' token tokens at limit reach refl (λ limit b. f token tokens (suc at) limit b) g

pub sound_refused : {A : Type 0} (Q : A → List Token → Type 0) (reach : Option FarthestFailure) (place : Cursor) → Sound Q (refused reach place)
sound_refused Q reach place = tt

-- a mark stands behind what is read
pub record UpTo {A : Type 0} (P : A → List Token → Type 0) (test : Symbol → Bool) (a : A) (rest : List Token) : Type 0 where
  pub mark : Token
  pub passes : test (symbol mark) ≡ true
  pub part : P a (mark ∷ rest)

pub sound_up_to : {A : Type 0} (P : A → List Token → Type 0) (test : Symbol → Bool) (look : Try A) → Sound P look → Sound (UpTo P test) (up_to test look)
sound_up_to P test look h =
    sound_then P (UpTo P test) (λ a. token_then test plain (λ mark reach place. Reads a place reach)) look h
    (λ a at limit rest reach p. sound_choice (UpTo P test) test plain (λ mark reach place. Reads a place reach) refused at limit rest reach
    (λ mark others at limit b. record { mark = mark; passes = b.passes; part = subst (P a) b.are p }) (λ n. tt))

-- expressions
end_sound : (around : Nesting) (assigns b : Bool) (long : Option Told) (tokens : List Token) (reach : Option FarthestFailure) (e : ExprTree) (place : Cursor) → PartAt tokens e place
    → Sound (IsExpr tokens) (end_by around assigns long b reach e place)
end_sound around assigns true long tokens reach e place h = tt
end_sound around assigns false long tokens reach e (At at limit rest) h = h.tree

run_by_sound : (around : Nesting) (assigns : Bool) (long : Option Told) (tokens : List Token) (more : Option FarthestFailure → Config → Try ExprTree) (mode : Mode) (reach : Option FarthestFailure) (s : Step)
    → SoundStep tokens s
    → ((reach : Option FarthestFailure) (c : Config) → HoldsAt tokens c.mode c.frames c.place → Sound (IsExpr tokens) (more reach c))
    → Sound (IsExpr tokens) (run_by around assigns long more mode reach s)
run_by_sound around assigns long tokens more mode reach (On other c) h g = g (further reach (way_by assigns mode other)) c h
run_by_sound around assigns long tokens more mode reach (Ends e place) h g = end_sound around assigns (assign_ends assigns (ahead place)) long tokens reach e place h
run_by_sound around assigns long tokens more mode reach (Refused place) h g = tt

run_sound : (around : Nesting) (assigns : Bool) (long : Option Told) (tokens : List Token) (turns : ℕ) (reach : Option FarthestFailure) (c : Config) → HoldsAt tokens c.mode c.frames c.place
    → Sound (IsExpr tokens) (run around assigns long turns reach c)
run_sound around assigns long tokens zero reach c h = tt
run_sound around assigns long tokens (suc turns) reach c h =
    run_by_sound around assigns long tokens (run around assigns long turns) c.mode reach (step around long c)
    (step_holds tokens around long c.mode c.frames c.place h) (λ reach d holds. run_sound around assigns long tokens turns reach d holds)

pub expr_sound : (assigns : Bool) (around : Nesting) (at : ℕ) (limit : Option Told) (tokens : List Token) (reach : Option FarthestFailure) → Sound (IsExpr tokens) (expr_in assigns around reach (At at limit tokens))
expr_sound assigns around at limit tokens reach =
    run_sound around assigns (long_from (At at limit tokens)) tokens (suc (length tokens)) reach (started (At at limit tokens)) nothing

-- types
look_sound : (tokens : List Token) (reach : Option FarthestFailure) (look : LookAhead TypeTree) → SoundLook IsType tokens look → Sound (IsType tokens) (look_by reach look)
look_sound tokens reach (Found type (At at limit rest)) h = h
look_sound tokens reach (Missing place) h = tt

pub type_is_sound : (around : Nesting) (at : ℕ) (limit : Option Told) (tokens : List Token) (reach : Option FarthestFailure) → Sound (IsType tokens) (type_in around reach (At at limit tokens))
type_is_sound around at limit tokens reach =
    look_sound tokens reach (type_ahead (length tokens) around.types (At at limit tokens)) (type_sound (length tokens) around.types at limit tokens)
