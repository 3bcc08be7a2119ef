-- What a text of which nothing is told declares has names of the language.
use Rattle.std.proofs.Common.{◌≡◌, refl, sym, ℕ, List, [], ◌∷◌, ◌++◌, Bool, true, false, cond, Option, Some, None, subst}
use Rattle.std.specs.Prelude.{IsTrue, find, not}
use Rattle.std.specs.List.{AllByRecursion}
use Rattle.std.specs.Option.{option_map}
use Rattle.std.proofs.lemmas.List.Elements.{recursion_from_All}
use Rattle.def_slang.specs.Name.{is_name}
use Rattle.def_token.specs.Lexical as lexical
use Rattle.def_token.specs.Lexical.{FitsKind, HasTokens, Kind, Token, token_behind}
use Rattle.law_token.proofs.Fitting.{sequence}
use Rattle.def_tree.specs.Symbol.{IsName, Name, symbol_by}
use Rattle.def_built.specs.Built.{is_built, not_built}
use Rattle.def_built.specs.Told.{answer_by, then_built, told_in}
use Rattle.def_module.specs.Declarations.{IsAccess, of_access, of_alias, of_const, IsDecl, decl_import, decl_alias, decl_const, decl_struct, decl_interface, decl_extension, decl_buffer, decl_function}
use Rattle.def_module.specs.DeclTree.{AccessTree, DeclTree, ModuleTree}
use Rattle.def_module.specs.First.{decl_token}
use Rattle.def_module.specs.Module.{IsHeader, of_header, IsModule, of_module}
use Rattle.def_module.specs.Repetition.{MayBe, without, with_one, AreMany, no_more, one_more}
use Rattle.def_module.specs.Syntax.{Answer, Good, Bad, IsSyntax, is_good, is_refused, is_twice, HasSyntax, is_lexical, of_tokens}
use Rattle.def_syntax.specs.Syntax.{syntax_in}
use Rattle.law_syntax.proofs.Telling.{syntax_is_told}
use Rattle.sl_key.specs.Index.{AreNamed, IsNamed}
use Rattle.sl_key.proofs.Behind.{expr_behind, type_behind}

-- a token has a name of the language, if the grammar takes it for a name
abbrev MayName : Token → Type 0
MayName token = IsName token → IsTrue (is_name token.text)

abbrev MayAllName : List Token → Type 0
MayAllName tokens = AllByRecursion MayName tokens

fits_name : (kind : Kind) (text : List ℕ) → FitsKind kind text → symbol_by kind text ≡ Name → IsTrue (is_name text)
fits_name lexical.Name text fits is = fits.0
fits_name lexical.Keyword text fits is = absurd (cc)
fits_name lexical.Number text fits is = absurd (cc)
fits_name lexical.Text text fits is = absurd (cc)
fits_name lexical.Mark text fits is = absurd (cc)
fits_name lexical.End text fits is = absurd fits

-- tokens that fit their kinds, and the end
front_names : (text : List ℕ) (front : List Token)
    → AllByRecursion (λ (token : Token). FitsKind token.kind token.text) front
    → MayAllName (front ++ token_behind text lexical.End [] ∷ [])
front_names text [] fits = (λ is. absurd (cc), tt)
front_names text (token ∷ front) fits = (fits_name token.kind token.text fits.0, front_names text front fits.1)

tokens_name : (text : List ℕ) (tokens : List Token) → HasTokens text tokens → MayAllName tokens
tokens_name text tokens h =
    let s = sequence text tokens h in
    let fit = recursion_from_All (λ (token : Token). FitsKind token.kind token.text) s.front s.fits in
    subst MayAllName (sym s.ended) (front_names text s.front fit)

access_behind : {tokens rest : List Token} {access : Option AccessTree} → IsAccess tokens access rest
    → MayAllName tokens → MayAllName rest
access_behind without names = names
access_behind (with_one (of_access h)) names = names.1

header_behind : {tokens rest : List Token} {name : Option Token} → MayBe IsHeader tokens name rest → MayAllName tokens
    → MayAllName rest
header_behind without names = names
header_behind (with_one (of_header w n s)) names = names.1.1.1

-- a declaration that is built has a name of the language, and so have those behind it
decl_named : {tokens rest : List Token} {decl : DeclTree} → IsDecl tokens decl rest → is_built decl ≡ true
    → MayAllName tokens
    → IsNamed decl × MayAllName rest
decl_named (decl_alias (of_alias a w n e t s)) built names =
    let word = access_behind a names in (word.1.0 n, (type_behind MayName t word.1.1.1).1)
decl_named (decl_const (of_const a w c t n e x s)) built names =
    let word = access_behind a names in
    let name = type_behind MayName t word.1.1 in
    (name.0 n, (expr_behind MayName x name.1.1).1)
decl_named (decl_import d) built names = absurd (cc)
decl_named (decl_struct d) built names = absurd (cc)
decl_named (decl_interface d) built names = absurd (cc)
decl_named (decl_extension d) built names = absurd (cc)
decl_named (decl_buffer d) built names = absurd (cc)
decl_named (decl_function d) built names = absurd (cc)

-- of declarations that are all built the first is, and so are the others
first_built : (b : Bool) (decl : DeclTree) (other : Option DeclTree)
    → option_map decl_token (cond (not b) (Some decl) other) ≡ None
    → (b ≡ true) × (option_map decl_token other ≡ None)
first_built true decl other none = (refl, none)
first_built false decl other none = absurd (cc)

abbrev first_unbuilt : List DeclTree → Option DeclTree
first_unbuilt decls = find (λ (decl : DeclTree). not (is_built decl)) decls

decls_named : {tokens rest : List Token} {decls : List DeclTree} → AreMany IsDecl tokens decls rest
    → option_map decl_token (first_unbuilt decls) ≡ None → MayAllName tokens → AreNamed decls
decls_named no_more none names = tt
decls_named (one_more {form = decl} {forms = decls} d ds) none names =
    let built = first_built (is_built decl) decl (first_unbuilt decls) none in
    let named = decl_named d built.0 names in
    (named.0, decls_named ds built.1 named.1)

module_named : {tokens rest : List Token} {tree : ModuleTree} → IsModule tokens tree rest → not_built tree ≡ None
    → MayAllName tokens
    → AreNamed tree.decls
module_named (of_module h ds e) none names = decls_named ds none (header_behind h names)

-- the declarations of a tree of which nothing is told are named, where they are built
abbrev IsNamedAnswer : Answer → Type 0
IsNamedAnswer (Good tree) = not_built tree ≡ None → AreNamed tree.decls
IsNamedAnswer (Bad fault) = Unit {0}

tokens_named : {tokens : List Token} {answer : Answer} → IsSyntax tokens answer → MayAllName tokens → IsNamedAnswer answer
tokens_named (is_good read once) names = λ built. module_named read.part built names
tokens_named (is_refused r) names = tt
tokens_named (is_twice read twice) names = tt

answer_named : {text : List ℕ} {answer : Answer} → HasSyntax text answer → IsNamedAnswer answer
answer_named (is_lexical f) = tt
answer_named {text = text} (of_tokens {tokens = tokens} lexed is) = tokens_named is (tokens_name text tokens lexed)

-- a tree of which nothing is told has only forms that are checked
tree_built : (unbuilt : Option Token) (found tree : ModuleTree) → not_built found ≡ unbuilt
    → answer_by unbuilt found ≡ Good tree
    → (Good found ≡ Good tree) × (not_built tree ≡ None)
tree_built None found tree built is = let same : found ≡ tree = cc in (is, subst (λ t. not_built t ≡ None) same built)
tree_built (Some token) found tree built is = absurd (cc)

answer_built : (answer : Answer) (tree : ModuleTree) → then_built answer ≡ Good tree
    → (answer ≡ Good tree) × (not_built tree ≡ None)
answer_built (Good found) tree is = tree_built (not_built found) found tree refl is
answer_built (Bad fault) tree is = absurd (cc)

-- where nothing is told of a text, its syntax is its tree, which has only forms that are checked
pub text_built : (text : List ℕ) (tree : ModuleTree) → told_in text ≡ Good tree
    → (syntax_in text ≡ Good tree) × (not_built tree ≡ None)
text_built text tree is = answer_built (syntax_in text) tree is

-- what a text of which nothing is told declares is named
pub text_named : (text : List ℕ) (tree : ModuleTree) → told_in text ≡ Good tree → AreNamed tree.decls
text_named text tree is =
    let known = text_built text tree is in
    answer_named ((syntax_is_told text (Good tree)).0 known.0) known.1
