-- The definitions' bases and suffixes that the lexer's stand for.
use Rattle.std.specs.Prelude.{ℕ, List, map}
use Rattle.def_token.specs.Number as definition
use Rattle.sl_token.specs.View.{type_of}
use Rattle.sl_token.specs.declared.number.Base.{Base}
use Rattle.sl_token.specs.declared.number.Base.TheVariants as base
use Rattle.sl_token.specs.declared.number.NumberType.{NumberType}
use Rattle.sl_token.specs.declared.number.Suffix.{Suffix}

-- a base as the definitions have it
abbrev pub base_in : Base → definition.Base
base_in base.Decimal = definition.Decimal
base_in base.Hexadecimal = definition.Hexadecimal

-- a type with its greatest value as the definitions have it
abbrev pub range_in : NumberType × ℕ → definition.Range
range_in range = (type_of range.0, range.1)

-- types with their greatest values as the definitions have them
abbrev pub ranges_in : List (NumberType × ℕ) → List definition.Range
ranges_in ranges = map range_in ranges

-- a suffix as the definitions have it
abbrev pub suffix_in : Suffix → definition.Suffix
suffix_in suffix =
    record {
      text = suffix.text.now;
      decimal = ranges_in suffix.decimal.now;
      hexadecimal = ranges_in suffix.hexadecimal.now;
    }
