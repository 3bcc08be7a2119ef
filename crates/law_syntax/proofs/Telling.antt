-- What `syntax_in` tells of a text is what is told of it.
use Rattle.std.proofs.Common.{◌≡◌, ℕ, List, refl, ap, subst}
use Rattle.std.specs.Prelude.{Option, Some, None, Result, Ok, Err}
use Rattle.def_token.specs.Lexical.{Fault, HasTokens, Token}
use Rattle.def_module.specs.DeclTree.{ModuleTree}
use Rattle.def_module.specs.Syntax.{Answer, Good, Bad, HasSyntax, AreRead, IsSyntax, is_good, is_lexical, is_refused, is_twice, of_tokens}
use Rattle.def_module.specs.Twice.{declared_twice}
use Rattle.def_module.specs.Entries.{module_entries}
use Rattle.def_module.specs.Module.{IsModule}
use Rattle.law_module.proofs.Names.{names_told}
use Rattle.law_syntax.proofs.Unique.{syntax_determined}
use Rattle.def_tree.specs.Fault as parts
use Rattle.def_reading.specs.TypeReading.{Reading}
use Rattle.def_decl_reading.specs.DeclReading.{module_of}
use Rattle.def_decl_reading.specs.Laws.{IsExactModule}
use Rattle.law_decls.proofs.ModuleExact.{modules_are_exact}
use Rattle.def_syntax.specs.Laws.{SyntaxIsTold, TreesAreTold}
use Rattle.def_token.specs.Lexed.{lexed}
use Rattle.def_syntax.specs.Syntax.{answer_by, answer_lexed, answer_read, good_tree, syntax_in}
use Rattle.law_syntax.proofs.Endings.{ended, none_behind}
use Rattle.law_token.proofs.Lexing.{tokens_are_told}

-- what is told of a module that tokens are
module_told : (tokens : List Token) (tree : ModuleTree) (twice : Option Token) → AreRead tokens tree
    → declared_twice tree ≡ twice → IsSyntax tokens (answer_by twice tree)
module_told tokens tree (Some name) read d = is_twice {tree = tree} read (((names_told tree).twice name).0 d)
module_told tokens tree None read d = is_good read ((names_told tree).once.0 d)

-- what is told of tokens of a text, by what is read of them
reading_told : (text : List ℕ) (tokens : List Token) (look : Reading ModuleTree) → HasTokens text tokens
    → IsExactModule tokens look → IsSyntax tokens (answer_read look)
reading_told text tokens (Ok found) h exact =
    let none = none_behind text tokens found.1 found.0 h exact.part in
    let read : AreRead tokens found.0 = subst (parts.IsRead IsModule module_entries tokens found.0) none exact in
    module_told tokens found.0 (declared_twice found.0) read refl
reading_told text tokens (Err stop) h exact = is_refused exact

-- what is told of a text, by its tokens or its first lexical fault
lexed_told : (text : List ℕ) (told : Result (List Token) Fault) → lexed text ≡ told → HasSyntax text (answer_lexed told)
lexed_told text (Ok tokens) is =
    let h = ((tokens_are_told text).tokens tokens).0 is in
    of_tokens h (reading_told text tokens (module_of tokens) h (modules_are_exact tokens (ended text tokens h)))
lexed_told text (Err fault) is = is_lexical (((tokens_are_told text).fault fault).0 is)

syntax_told : (text : List ℕ) → HasSyntax text (syntax_in text)
unfolding syntax_in
syntax_told text = lexed_told text (lexed text) refl

pub syntax_is_told : SyntaxIsTold
syntax_is_told text answer = (
  λ is. subst (HasSyntax text) is (syntax_told text),
  λ h. syntax_determined text (syntax_in text) answer (syntax_told text) h,
)

good_is : (answer : Answer) (tree : ModuleTree) → good_tree answer ≡ Some tree → answer ≡ Good tree
good_is (Good found) tree is = let same : found ≡ tree = cc in ap Good same
good_is (Bad fault) tree is = absurd (cc)

pub trees_are_told : TreesAreTold
trees_are_told text tree =
    let told = syntax_is_told text (Good tree) in
    (λ is. told.0 (good_is (syntax_in text) tree is), λ h. ap good_tree (told.1 h))
