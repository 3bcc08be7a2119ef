-- What the laws of this crate say.
use Rattle.std.specs.Prelude.{◌≡◌, ◌↔◌, ℕ, List, Some}
use Rattle.def_module.specs.DeclTree.{ModuleTree}
use Rattle.def_module.specs.Syntax.{Answer, Good, HasSyntax}
use Rattle.def_syntax.specs.Syntax.{syntax_in, tree_in}

-- `syntax_in` tells what is told of a text
abbrev pub SyntaxIsTold : Type 0
SyntaxIsTold = (text : List ℕ) (answer : Answer) → (syntax_in text ≡ answer) ↔ HasSyntax text answer

-- `tree_in` tells the tree of which nothing is told
abbrev pub TreesAreTold : Type 0
TreesAreTold =
    (text : List ℕ) (tree : ModuleTree) → (tree_in text ≡ Some tree) ↔ HasSyntax text (Good tree)
