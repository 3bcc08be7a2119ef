-- What is told of a text, as a function: `HasSyntax` has one answer for each text, which is this.
use Rattle.std.specs.Prelude.{ℕ, List, Option, Some, None, Result, Ok, Err}
use Rattle.def_token.specs.Lexical.{Fault, Token}
use Rattle.def_tree.specs.Fault.{fault_at}
use Rattle.def_module.specs.DeclTree.{ModuleTree}
use Rattle.def_module.specs.Syntax.{Answer, Good, Bad, twice}
use Rattle.def_module.specs.Twice.{declared_twice}
use Rattle.def_reading.specs.TypeReading.{Reading}
use Rattle.def_decl_reading.specs.DeclReading.{module_of}
use Rattle.def_token.specs.Lexed.{lexed}

-- what is told of a module, by the name that it declares twice
abbrev pub answer_by : Option Token → ModuleTree → Answer
answer_by (Some name) tree = Bad (twice name)
answer_by None tree = Good tree

-- what is told of a module within the limits
abbrev pub answer_of : ModuleTree → Answer
answer_of tree = answer_by (declared_twice tree) tree

-- what is told of what is read
abbrev pub answer_read : Reading ModuleTree → Answer
answer_read (Ok found) = answer_of found.0
answer_read (Err stop) = Bad (fault_at stop.code stop.token)

-- what is told of tokens, or of the lexical fault of a text
abbrev pub answer_lexed : Result (List Token) Fault → Answer
answer_lexed (Ok tokens) = answer_read (module_of tokens)
answer_lexed (Err fault) = Bad fault

-- what is told of a text
unfoldable pub syntax_in : List ℕ → Answer
syntax_in text = answer_lexed (lexed text)

-- the tree of which nothing is told
abbrev pub good_tree : Answer → Option ModuleTree
good_tree (Good tree) = Some tree
good_tree (Bad fault) = None

-- the tree of a text of which nothing is told
abbrev pub tree_in : List ℕ → Option ModuleTree
tree_in text = good_tree (syntax_in text)
