-- The trees of types.
use Rattle.std.specs.Prelude.{Bool, true, false, List, [], ◌∷◌}
use Rattle.std.specs.List.{filter}
use Prim.Native.String.{String}
use Rattle.def_token.specs.Lexical.{Token}

-- the words that are types
pub data TypeWord : Type 0 where
  Int : TypeWord
  Uint : TypeWord
  Int64 : TypeWord
  Uint64 : TypeWord
  Bool' : TypeWord
  Void : TypeWord
  Uint3 : TypeWord
  This : TypeWord

-- all of them
abbrev pub type_words : List TypeWord
type_words = Int ∷ Uint ∷ Int64 ∷ Uint64 ∷ Bool' ∷ Void ∷ Uint3 ∷ This ∷ []

-- how a word is written
abbrev pub word_text : TypeWord → String
word_text Int = "int"
word_text Uint = "uint"
word_text Int64 = "int64_t"
word_text Uint64 = "uint64_t"
word_text Bool' = "bool"
word_text Void = "void"
word_text Uint3 = "uint3"
word_text This = "This"

-- the words of which casts are made
abbrev pub is_scalar : TypeWord → Bool
is_scalar Int = true
is_scalar Uint = true
is_scalar Int64 = true
is_scalar Uint64 = true
is_scalar Bool' = true
is_scalar Void = false
is_scalar Uint3 = false
is_scalar This = false

-- these words
abbrev pub scalar_words : List TypeWord
scalar_words = filter is_scalar type_words

-- A type is a word or a name, with the names behind its dots. A name has type arguments, or none.
mutual
  pub data TypeTree : Type 0 where
    Word : TypeWord → Token → List Token → TypeTree
    Named : Token → TypeTrees → List Token → TypeTree

  pub data TypeTrees : Type 0 where
    NoTypes : TypeTrees
    MoreTypes : TypeTree → TypeTrees → TypeTrees

-- the token with which a type begins
abbrev pub type_token : TypeTree → Token
type_token (Word word first path) = first
type_token (Named first args path) = first
