-- The tokens, numbers and faults that the types of this crate stand for.
use Rattle.std.specs.Prelude.{ℕ, ◌-◌, ◌≤◌, List, map, take, drop}
use Rattle.sl_base.specs.declared.place.Place.{Place}
use Rattle.sl_base.specs.declared.refusal.Refusal.{Refusal}
use Rattle.sl_base.specs.declared.refusal.Refusal.TheVariants as refusal
use Rattle.sl_token.specs.declared.token.Span.{Span}
use Rattle.sl_token.specs.declared.number.Number.{Number}
use Rattle.sl_token.specs.declared.number.NumberType.{NumberType}
use Rattle.sl_token.specs.declared.number.NumberType.TheVariants as number_type
use Rattle.sl_token.specs.declared.token.Kind.{Kind}
use Rattle.sl_token.specs.declared.token.Kind.TheVariants as kind
use Rattle.sl_token.specs.declared.token.Token.{Token}
use Rattle.def_token.specs.Lexical as definition
use Rattle.def_token.specs.Number as numbers

-- the span lies in a source of this length
pub record IsWithin (bytes : ℕ) (span : Span) : Type 0 where
  pub ordered : span.start ≤ span.end
  pub inside : span.end ≤ bytes

-- the bytes of a source at a span
abbrev pub slice_of : List ℕ → Span → List ℕ
slice_of source span = take (span.end - span.start) (drop span.start source)

-- a place as the definitions have it
abbrev pub place_of : Place → definition.Place
place_of place = record { line = place.line; column = place.column }

-- a kind of tokens as the definitions have it
abbrev pub kind_of : Kind → definition.Kind
kind_of kind.Name = definition.Name
kind_of kind.Keyword = definition.Keyword
kind_of kind.Number = definition.Number
kind_of kind.Text = definition.Text
kind_of kind.Mark = definition.Mark
kind_of kind.End = definition.End

-- the token of a source, whose text is the source's slice
abbrev pub token_in : List ℕ → Token → definition.Token
token_in source token =
    record {
      kind = kind_of token.kind;
      text = slice_of source token.span;
      start = token.span.start;
      end = token.span.end;
      place = place_of token.place;
    }

-- the tokens of a source
abbrev pub tokens_in : List ℕ → List Token → List definition.Token
tokens_in source tokens = map (token_in source) tokens

-- a refusal tells a fault for which this holds, if memory did not run out
abbrev pub Tells : (definition.Fault → Type 0) → Refusal → Type 0
Tells IsTold (refusal.Diag at code args) =
    IsTold (record { place = place_of at; code = code; args = args })
Tells IsTold refusal.NoMemory = Unit {0}

-- a number's type as the definitions have it
abbrev pub type_of : NumberType → numbers.NumberType
type_of number_type.Int = numbers.Int
type_of number_type.Uint = numbers.Uint
type_of number_type.Int64 = numbers.Int64
type_of number_type.Uint64 = numbers.Uint64

-- a number as the definitions have it
abbrev pub number_in : Number → numbers.Number
number_in number = record { number_type = type_of number.number_type; value = number.value }
