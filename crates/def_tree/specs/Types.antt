-- The grammar of types. A relation of this grammar says that tokens are those of a tree, and then a
-- rest.
use Rattle.std.specs.Prelude.{List, [], ◌∷◌}
use Rattle.def_token.specs.Lexical.{Token}
use Rattle.def_tree.specs.Symbol.{Is, IsName}
use Rattle.def_tree.specs.TypeTree.{TypeWord, word_text, TypeTree, Word, Named, TypeTrees, NoTypes, MoreTypes}

-- { "." Name }
pub data IsPath : List Token → List Token → List Token → Type 0 where
  ended : {rest : List Token} → IsPath rest [] rest
  dotted : {dot name : Token} {tokens path rest : List Token}
      → Is "." dot → IsName name → IsPath tokens path rest
      → IsPath (dot ∷ name ∷ tokens) (name ∷ path) rest

mutual
  -- Type = ( "int" | "uint" | "int64_t" | "uint64_t" | "bool" | "void" | "uint3" | "This"
  --     | Name [ TypeArgs ] ) { "." Name }
  pub data IsType : List Token → TypeTree → List Token → Type 0 where
    of_word : {word : TypeWord} {first : Token} {tokens path rest : List Token}
        → Is (word_text word) first → IsPath tokens path rest
        → IsType (first ∷ tokens) (Word word first path) rest
    of_name : {first : Token} {tokens path rest : List Token}
        → IsName first → IsPath tokens path rest
        → IsType (first ∷ tokens) (Named first NoTypes path) rest
    of_generic : {first : Token} {tokens behind path rest : List Token} {args : TypeTrees}
        → IsName first → IsTypeArgs tokens args behind → IsPath behind path rest
        → IsType (first ∷ tokens) (Named first args path) rest

  -- TypeArgs = "<" Type { "," Type } ">"
  pub data IsTypeArgs : List Token → TypeTrees → List Token → Type 0 where
    type_args : {opening closing : Token} {tokens rest : List Token} {args : TypeTrees}
        → Is "<" opening → IsTypeList tokens args (closing ∷ rest) → Is ">" closing
        → IsTypeArgs (opening ∷ tokens) args rest

  -- Type { "," Type }
  pub data IsTypeList : List Token → TypeTrees → List Token → Type 0 where
    last_type : {tokens rest : List Token} {type : TypeTree}
        → IsType tokens type rest
        → IsTypeList tokens (MoreTypes type NoTypes) rest
    more_types : {comma : Token} {tokens behind rest : List Token} {type : TypeTree}
        {types : TypeTrees}
        → IsType tokens type (comma ∷ behind) → Is "," comma → IsTypeList behind types rest
        → IsTypeList tokens (MoreTypes type types) rest
