-- The grammar of whole modules.
use Rattle.std.specs.Prelude.{◌≡◌, List, ◌∷◌, Option}
use Rattle.def_token.specs.Lexical.{Token}
use Rattle.def_tree.specs.Symbol.{End, symbol, Is, IsName}
use Rattle.def_module.specs.Declarations.{IsDecl}
use Rattle.def_module.specs.DeclTree.{DeclTree, ModuleTree}
use Rattle.def_module.specs.Repetition.{MayBe, AreMany}

-- the token is the end
abbrev pub IsEnd : Token → Type 0
IsEnd token = symbol token ≡ End

-- "module" Name ";"
pub data IsHeader : List Token → Token → List Token → Type 0 where
  of_header : {word name semicolon : Token} {rest : List Token}
      → Is "module" word → IsName name → Is ";" semicolon
      → IsHeader (word ∷ name ∷ semicolon ∷ rest) name rest

-- Module = [ "module" Name ";" ] { Decl }, and then the end
pub data IsModule : List Token → ModuleTree → List Token → Type 0 where
  of_module : {end : Token} {tokens behind rest : List Token} {name : Option Token}
      {decls : List DeclTree}
      → MayBe IsHeader tokens name behind → AreMany IsDecl behind decls (end ∷ rest) → IsEnd end
      → IsModule tokens (record { name = name; decls = decls }) rest
