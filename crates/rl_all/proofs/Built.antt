-- What is told of a text, from its tree or its fault to its first form that is not checked yet.
use Rattle.std.proofs.Common.{◌≡◌, ◌∙◌, ℕ, List, ap, sym}
use Rattle.std.specs.Prelude.{Some, None}
use Rattle.def_token.specs.Lexical.{Fault, Token}
use Rattle.def_built.specs.Built.{not_built}
use Rattle.def_built.specs.Told.{answer_by, then_built, told_in, unbuilt}
use Rattle.def_module.specs.DeclTree.{ModuleTree}
use Rattle.def_module.specs.Syntax.{Answer, Good, Bad, HasSyntax}
use Rattle.law_syntax.proofs.Telling.{syntax_is_told}

told_then : (text : List ℕ) (answer : Answer) → HasSyntax text answer → told_in text ≡ then_built answer
told_then text answer has = ap then_built ((syntax_is_told text answer).1 has)

-- nothing is told of a text whose tree has only forms that are checked
pub told_good : (text : List ℕ) (tree : ModuleTree) → HasSyntax text (Good tree) → None ≡ not_built tree
    → told_in text ≡ Good tree
told_good text tree has built =
    told_then text (Good tree) has ∙ ap (λ token. answer_by token tree) (sym built)

-- the first form that is not checked is told
pub told_unbuilt : (text : List ℕ) (tree : ModuleTree) (token : Token) → HasSyntax text (Good tree)
    → Some token ≡ not_built tree → told_in text ≡ Bad (unbuilt token)
told_unbuilt text tree token has is =
    told_then text (Good tree) has ∙ ap (λ token. answer_by token tree) (sym is)

-- what is told of a text without a tree stays
pub told_bad : (text : List ℕ) (fault : Fault) → HasSyntax text (Bad fault) → told_in text ≡ Bad fault
told_bad text fault has = told_then text (Bad fault) has
