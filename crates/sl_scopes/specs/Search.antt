-- How a search for a name that is declared twice ends.
use Rattle.std.specs.Prelude.{◌≡◌, ℕ, List, [], ◌∷◌, ◌++◌, map, Option, Some, None, Result, Ok, Err}
use Rattle.std.specs.List.{flat_map}
use Rattle.def_token.specs.Lexical as lexical
use Rattle.def_tree.specs.StmtTree.{StmtTree, StmtTrees}
use Rattle.def_module.specs.DeclTree.{ItemTree}
use Rattle.def_module.specs.Scopes.{Scope, block_names, block_scopes, item_names, item_scopes, stmt_names, stmt_scopes}
use Rattle.def_module.specs.Twice.{first_some, second_name}
use Rattle.sl_token.specs.View.{token_in}
use Rattle.sl_scopes.specs.declared.early.Early.{Early}
use Rattle.sl_scopes.specs.declared.early.Early.TheVariants.{Twice, NoMemory}

-- the first name that clashes with one before it in the first of these scopes where one does
unfoldable pub twice_in : List Scope → Option lexical.Token
twice_in scopes = first_some (map second_name scopes)

-- the search for this name ends early: it is found, if memory did not run out
abbrev pub EndsEarly : List ℕ → Option lexical.Token → Early → Type 0
EndsEarly source name (Twice token) = name ≡ Some (token_in source token)
EndsEarly source name NoMemory = Unit {0}

-- the search for this name ends so: behind the last scope where there is none
abbrev pub Ends : List ℕ → Option lexical.Token → Result (Unit {0}) Early → Type 0
Ends source name (Ok done) = name ≡ None
Ends source name (Err early) = EndsEarly source name early

-- the scopes of a statement that is itself a scope
abbrev pub branch_scopes : StmtTree → List Scope
branch_scopes stmt = stmt_scopes stmt ++ stmt_names stmt ∷ []

-- the scopes of statements in braces
abbrev pub braces_scopes : StmtTrees → List Scope
braces_scopes stmts = block_scopes stmts ++ block_names stmts ∷ []

-- the scopes of the items of an interface, and the scope that they are
abbrev pub items_scopes : List ItemTree → List Scope
items_scopes items = flat_map item_scopes items ++ flat_map item_names items ∷ []
