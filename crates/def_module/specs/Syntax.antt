-- What is told of a module: its tree, or a fault.
use Rattle.std.specs.Prelude.{ℕ, List, [], ◌∷◌}
use Rattle.def_token.specs.Lexical as lexical
use Rattle.def_token.specs.Lexical.{Fault, HasTokens, Token}
use Rattle.def_tree.specs.Fault as parts
use Rattle.def_module.specs.DeclTree.{ModuleTree}
use Rattle.def_module.specs.Entries.{module_entries}
use Rattle.def_module.specs.Module.{IsModule}
use Rattle.def_module.specs.Twice.{DeclaresOnce, IsDeclaredTwice}

-- the tokens are a module within the limits
abbrev pub AreRead : List Token → ModuleTree → Type 0
AreRead tokens tree = parts.IsRead IsModule module_entries tokens tree []

-- the text is a module within the limits
pub record HasTree (text : List ℕ) (tree : ModuleTree) : Type 0 where
  pub tokens : List Token
  pub lexed : HasTokens text tokens
  pub read : AreRead tokens tree

-- the fault is what is told of tokens that are no module within the limits
abbrev pub AreRefused : List Token → Fault → Type 0
AreRefused tokens fault = parts.HasFault IsModule module_entries tokens fault

-- a name is declared twice
abbrev pub twice : Token → Fault
twice name = record { place = name.place; code = 120; args = name.text ∷ [] }

-- what is told
pub data Answer : Type 0 where
  Good : ModuleTree → Answer
  Bad : Fault → Answer

-- First the tokens are a module within the limits, then it declares no name twice.
pub data IsSyntax (tokens : List Token) : Answer → Type 0 where
  is_good : {tree : ModuleTree} → AreRead tokens tree → DeclaresOnce tree
      → IsSyntax tokens (Good tree)
  is_refused : {fault : Fault} → AreRefused tokens fault → IsSyntax tokens (Bad fault)
  is_twice : {tree : ModuleTree} {name : Token}
      → AreRead tokens tree → IsDeclaredTwice tree name
      → IsSyntax tokens (Bad (twice name))

-- What is told of a text is its first lexical fault, or else what is told of its tokens.
pub data HasSyntax (text : List ℕ) : Answer → Type 0 where
  is_lexical : {fault : Fault} → lexical.HasLexicalFault text fault → HasSyntax text (Bad fault)
  of_tokens : {tokens : List Token} {answer : Answer}
      → HasTokens text tokens → IsSyntax tokens answer
      → HasSyntax text answer
