-- What the laws of this crate say.
use Rattle.std.specs.Prelude.{◌≡◌, ℕ, suc, ◌+◌, ◌<◌, false, List, ◌∷◌, ◌++◌, length, IsTrue}
use Rattle.def_token.specs.Lexical.{Token}
use Rattle.def_tree.specs.Fault.{AreRefusedLast, AtMostOne, IsDetermined, Spot}
use Rattle.def_tree.specs.Laws.{TellsDepth}
use Rattle.def_tree.specs.Marks.{opens_bracket, opens_brace, open_brackets, open_braces, ends_with}
use Rattle.def_module.specs.DeclTree.{ModuleTree}
use Rattle.def_module.specs.Entries.{module_entries}
use Rattle.def_module.specs.Module.{IsModule}
use Rattle.def_module.specs.Syntax.{Answer, HasTree, HasSyntax}
use Rattle.def_module.specs.Twice.{TellsTwice}

-- tokens are one module at most
abbrev pub ModulesAreUnique : Type 0
ModulesAreUnique = AtMostOne IsModule

-- a module has an entry for each of its tokens
abbrev pub EntriesCover : Type 0
EntriesCover =
    (tokens rest : List Token) (tree : ModuleTree)
    → IsModule tokens tree rest → length tokens ≡ length (module_entries tree) + length rest

-- How deep a bracket or a block is that opens at a token of a module: it stands in those that the
-- marks of the module before it leave open. A brace behind `=` is one of an initialiser, and opens
-- no block.
pub record AreCounted (before : List Token) (token : Token) (behind rest : List Token)
    (tree : ModuleTree) : Type 0 where
  pub bracket : IsTrue (opens_bracket token)
      → TellsDepth (module_entries tree) (length before) (suc (open_brackets before))
  pub block : IsTrue (opens_brace token) → ends_with "=" before ≡ false
      → TellsDepth (module_entries tree) (length before) (suc (open_braces before))

-- the marks of a module tell how deep its brackets and blocks are
abbrev pub DepthsAreCounted : Type 0
DepthsAreCounted =
    (before : List Token) (token : Token) (behind rest : List Token) (tree : ModuleTree)
    → IsModule (before ++ token ∷ behind) tree rest → length before < length (module_entries tree)
    → AreCounted before token behind rest tree

-- tokens are one module within the limits at most, or have one fault at most, and not both
abbrev pub FaultsAreDetermined : Type 0
FaultsAreDetermined = (tokens : List Token) → IsDetermined IsModule module_entries tokens

-- what is told of tokens is told of the modules that continue them furthest; of those the one that
-- is refused last
abbrev pub FaultsAreLast : Type 0
FaultsAreLast =
    (tokens : List Token) (spot : Spot) → AreRefusedLast IsModule module_entries tokens spot

-- a text is one module within the limits at most
abbrev pub TreesAreUnique : Type 0
TreesAreUnique =
    (text : List ℕ) (this other : ModuleTree) → HasTree text this → HasTree text other
    → this ≡ other

-- one thing is told of a text at most
abbrev pub SyntaxIsDetermined : Type 0
SyntaxIsDetermined =
    (text : List ℕ) (this other : Answer) → HasSyntax text this → HasSyntax text other
    → this ≡ other

-- which name is declared twice is told of each module
abbrev pub NamesAreTold : Type 0
NamesAreTold = (tree : ModuleTree) → TellsTwice tree
