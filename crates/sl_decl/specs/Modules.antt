-- Declarations by what they begin with, and whole modules.
use Rattle.std.specs.Prelude.{◌≡◌, ℕ, [], ◌∷◌, drop, Option, None, Result, Ok, Err}
use Rattle.def_token.specs.Lexical.{Token}
use Rattle.def_tree.specs.Limits.{Nesting, opens, in_bracket}
use Rattle.def_module.specs.DeclTree as tree
use Rattle.def_module.specs.DeclTree.{AccessTree, DeclTree}
use Rattle.def_decl_reading.specs.DeclReading as reading
use Rattle.def_decl_reading.specs.DeclReading.{attributed_form, bound_form, buffer_form, function_form}
use Rattle.def_decl_reading.specs.Form.{ASign, Form, As, Branch}
use Rattle.def_tree.specs.Symbol.{End, symbol}
use Rattle.sl_token.specs.View.{token_in, tokens_in}
use Rattle.sl_token.specs.declared.token.Token as tokens
use Rattle.sl_tree.specs.DeclView.{module_in}
use Rattle.sl_tree.specs.declared.declarations.ModuleTree.{ModuleTree}
use Rattle.sl_stmt.specs.Settling.{Settles}
use Rattle.sl_cursor.specs.declared.source.Here.{Here}
use Rattle.sl_cursor.specs.declared.source.Source.{Source}
use Rattle.sl_cursor.specs.declared.source.Unread.{Unread}

-- a buffer without a binding, or a function without attributes
abbrev pub buffer_or_function : Nesting → Option AccessTree → Form DeclTree
buffer_or_function around access =
    buffer_form around None access (As tree.Function (function_form around [] access))

-- a declaration behind the bracket with which it begins
abbrev pub bracketed_form : Nesting → Token → Form DeclTree
bracketed_form around opening =
    let first = in_bracket around in
    Branch (ASign "[") (opens (in_bracket first).brackets) (λ second. bound_form around opening)
    (attributed_form around opening)

-- a module with the end
abbrev pub ReadsModule : Source → Here → Result (ModuleTree × Here) Unread → Type 0
ReadsModule source from result =
    Settles source (module_in source.bytes.now) reading.module_in from result

-- the place stands behind the end
pub record IsBehindEnd (source : Source) (here : Here) : Type 0 where
  pub before : ℕ
  pub mark : tokens.Token
  pub are : drop before (tokens_in source.bytes.now source.tokens.now)
      ≡ token_in source.bytes.now mark ∷ tokens_in source.bytes.now here.place.rest.now
  pub ends : symbol (token_in source.bytes.now mark) ≡ End

-- a module ends with the end
abbrev pub EndsModule : Source → Result (ModuleTree × Here) Unread → Type 0
EndsModule source (Ok found) = IsBehindEnd source found.1
EndsModule source (Err unread) = Unit {0}
