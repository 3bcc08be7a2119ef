-- Bindings behind their words.
use Rattle.def_token.specs.Lexical.{Token}
use Rattle.def_module.specs.DeclTree.{BindingTree}
use Rattle.def_decl_reading.specs.Form.{Form, Made, Then, narrow, sign}
use Rattle.def_decl_reading.specs.DeclReading.{set_form}

-- the number and the set of a binding, with the brackets behind them
abbrev pub numbers_form : Token → Form BindingTree
numbers_form first =
    narrow (λ number.
    Then set_form (λ set.
    sign ")" (λ closing.
    sign "]" (λ third.
    sign "]" (λ fourth.
    Made (record { opening = first; number = number; set = set }))))))
