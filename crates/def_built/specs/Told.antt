-- What the key of a module's syntax tells: what is told of its text, and then the first form that
-- is not checked yet.
use Rattle.std.specs.Prelude.{ℕ, List, [], Option, Some, None}
use Rattle.def_token.specs.Lexical.{Fault, Token}
use Rattle.def_module.specs.DeclTree.{ModuleTree}
use Rattle.def_module.specs.Syntax.{Answer, Good, Bad}
use Rattle.def_syntax.specs.Syntax.{syntax_in}
use Rattle.def_built.specs.Built.{not_built}

-- a form is not built yet
abbrev pub unbuilt : Token → Fault
unbuilt token = record { place = token.place; code = 100; args = [] }

-- what is told of a module, by the first token of what is not checked yet
abbrev pub answer_by : Option Token → ModuleTree → Answer
answer_by None tree = Good tree
answer_by (Some token) tree = Bad (unbuilt token)

-- what is told of a module of whose text nothing is told
abbrev pub then_built : Answer → Answer
then_built (Good tree) = answer_by (not_built tree) tree
then_built (Bad fault) = Bad fault

-- what is told of a module's text
abbrev pub told_in : List ℕ → Answer
told_in text = then_built (syntax_in text)
