-- How the lexer goes over a text.
use Rattle.std.specs.Prelude.{◌≡◌, ℕ, ◌+◌, nat_eq, List, [], ◌∷◌, ◌++◌, length, if◌then◌else◌}
use Rattle.std.specs.List.{starts_with}
use Rattle.def_token.specs.Lexeme.{is_line_feed}
use Rattle.def_token.specs.Lexical as definition
use Rattle.def_slang.specs.Token.{byte_order_mark}
use Rattle.sl_token.specs.View.{place_of, kind_of}
use Rattle.sl_token.specs.declared.position.Position.{Position}
use Rattle.sl_token.specs.declared.token.Token.{Token}
use Rattle.sl_token.specs.declared.verdict.Verdict.{Verdict}
use Rattle.sl_token.specs.declared.verdict.Verdict.TheVariants as verdict
use Rattle.sl_base.specs.declared.place.Place.{Place}
use Rattle.sl_base.specs.declared.refusal.Refusal.{Refusal}
use Rattle.sl_base.specs.declared.refusal.Refusal.TheVariants as refusal

-- the place behind one more byte
abbrev pub next_place : definition.Place → ℕ → definition.Place
next_place place b =
    if is_line_feed b
    then record { line = place.line + 1; column = 1 }
    else record { line = place.line; column = place.column + 1 }

-- the place behind more bytes
abbrev pub place_after : definition.Place → List ℕ → definition.Place
place_after place [] = place
place_after place (b ∷ bytes) = place_after (next_place place b) bytes

-- the position behind these bytes
pub record IsBehind (before : List ℕ) (position : Position) : Type 0 where
  pub offset : position.offset ≡ length before
  pub place : place_of position.place ≡ definition.place_behind before

-- a verdict as the definitions have it
abbrev pub verdict_in : Verdict → definition.Verdict
verdict_in verdict.Skipped = definition.Skipped
verdict_in (verdict.Token kind) = definition.IsToken (kind_of kind)
verdict_in (verdict.Fault code) = definition.IsFault code

-- it is the token of so many bytes at a position
pub record IsTokenAt (here : Position) (of : definition.Kind) (bytes : ℕ) (token : Token) : Type 0
  where
    pub kind : kind_of token.kind ≡ of
    pub start : token.span.start ≡ here.offset
    pub end : token.span.end ≡ here.offset + bytes
    pub place : token.place ≡ here.place

-- the tokens with the one that a verdict makes of so many bytes
abbrev pub Adds : definition.Verdict → Position → ℕ → List Token → List Token → Type 0
Adds definition.Skipped here bytes old new = new ≡ old
Adds (definition.IsToken kind) here bytes old new =
    (token : Token) × (new ≡ old ++ token ∷ []) × IsTokenAt here kind bytes token
Adds (definition.IsFault code) here bytes old new = ⊥

-- what is refused at a piece with this verdict, if memory did not run out
pub record Refuses (verdict : definition.Verdict) (bytes : List ℕ) (here : Place)
    (at : Place) (code : ℕ) (args : List (List ℕ)) : Type 0 where
  pub faulty : verdict ≡ definition.IsFault code
  pub place : at ≡ here
  pub args_are : args ≡ definition.args_of code bytes

-- a refusal tells the fault of a verdict, if memory did not run out
abbrev pub TellsVerdict : definition.Verdict → List ℕ → Place → Refusal → Type 0
TellsVerdict v bytes here (refusal.Diag at code args) = Refuses v bytes here at code args
TellsVerdict v bytes here refusal.NoMemory = Unit {0}

-- how many bytes the byte order mark has that a source begins with
abbrev pub mark_len : List ℕ → ℕ
mark_len text = if starts_with nat_eq text byte_order_mark then 3 else 0
