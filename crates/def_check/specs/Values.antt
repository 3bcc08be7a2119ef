-- Types, values, and how values are converted and combined. An integer type has a width, in bits:
-- its values are residues modulo 2 to the width, which an int shows as the numbers from the least
-- negative one.
use Rattle.std.specs.Prelude.{ℕ, ◌+◌, ◌-◌, ◌*◌, ◌%◌, ◌^◌, Option, Some, None, ℤ}
use mir.Val.{bits}
use Rattle.std.specs.Int.{Width, w32, cast_signed, cast_unsigned, int_wrapping_add, int_wrapping_sub, int_wrapping_mul}
use Rattle.sl_key.specs.declared.value.Ty.{Ty}
use Rattle.sl_key.specs.declared.value.Ty.TheVariants as type
use Rattle.sl_key.specs.declared.value.Value.{Value}
use Rattle.sl_key.specs.declared.value.Value.TheVariants.{Bool, Int, Uint}
use Rattle.sl_key.specs.declared.value.Arithmetic.{Arithmetic}
use Rattle.sl_key.specs.declared.value.Arithmetic.TheVariants.{Add, Subtract, Multiply}
use Rattle.def_tree.specs.Operator as written

-- the type of a value
abbrev pub type_of : Value → Ty
type_of (Bool truth) = type.Bool
type_of (Int number) = type.Int
type_of (Uint number) = type.Uint

-- the width of int and of uint
abbrev pub width : Width
width = w32

-- A value as one of a type. A value of the type stays, and int and uint are converted to each
-- other; no other conversion exists.
abbrev pub converted : Ty → Value → Option Value
converted type.Bool (Bool truth) = Some (Bool truth)
converted type.Int (Int number) = Some (Int number)
converted type.Int (Uint number) = Some (Int (cast_signed width number))
converted type.Uint (Int number) = Some (Uint (cast_unsigned width number))
converted type.Uint (Uint number) = Some (Uint number)
converted _ _ = None

-- the operator on integers that is written, if it is built
abbrev pub arithmetic_of : written.Operator → Option Arithmetic
arithmetic_of written.Add = Some Add
arithmetic_of written.Subtract = Some Subtract
arithmetic_of written.Multiply = Some Multiply
arithmetic_of _ = None

-- an operator on ints: what is left of the result in the type's width
abbrev pub int_result : Width → Arithmetic → ℤ → ℤ → ℤ
int_result w Add x y = int_wrapping_add w x y
int_result w Subtract x y = int_wrapping_sub w x y
int_result w Multiply x y = int_wrapping_mul w x y

-- an operator on uints: what is left of the result in the type's width
abbrev pub uint_result : Width → Arithmetic → ℕ → ℕ → ℕ
uint_result w Add x y = (x + y) % 2 ^ bits w
uint_result w Subtract x y = (x + (2 ^ bits w - y)) % 2 ^ bits w
uint_result w Multiply x y = (x * y) % 2 ^ bits w

-- An operator on two values. It takes integers; with a uint on one side both become uint.
abbrev pub result_of : Arithmetic → Value → Value → Option Value
result_of operator (Int x) (Int y) = Some (Int (int_result width operator x y))
result_of operator (Int x) (Uint y) =
    Some (Uint (uint_result width operator (cast_unsigned width x) y))
result_of operator (Uint x) (Int y) =
    Some (Uint (uint_result width operator x (cast_unsigned width y)))
result_of operator (Uint x) (Uint y) = Some (Uint (uint_result width operator x y))
result_of operator _ _ = None

-- the type of the first operand that is no integer
abbrev pub misfit_of : Value → Value → Ty
misfit_of (Bool x) y = type.Bool
misfit_of (Int x) y = type_of y
misfit_of (Uint x) y = type_of y
