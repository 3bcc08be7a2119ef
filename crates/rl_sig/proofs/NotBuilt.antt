-- Which forms are not built yet.
use Rattle.std.proofs.Common.{◌≡◌, refl, ℕ, Bool, true, false, List, [], ◌∷◌, map}
use Rattle.std.specs.Prelude.{◌↔◌, IsTrue}
use Rattle.def_token.specs.Lexical as lexical
use Rattle.def_tree.specs.ExprTree as exprs
use Rattle.def_tree.specs.TypeTree as types
use Rattle.def_check.specs.Evaluate.{Scope, type_written, unbuilt, value_of}
use Rattle.sl_token.specs.View.{token_in}
use Rattle.sl_token.specs.declared.token.Token.{Token}
use Rattle.sl_tree.specs.View.{type_in, types_of}
use Rattle.sl_tree.specs.declared.types.TypeTree.{TypeTree}

-- a test does not hold and fail
pub not_both : (b : Bool) → b ≡ true → b ≡ false → ⊥
not_both b holds fails = cc

module _ (scope : Scope) (source : List ℕ) where
  -- a word with names behind its dots is not built
  pub long_word : (word : types.TypeWord) (first : lexical.Token) (path : List Token) (b : Bool)
      → IsTrue b ↔ (path ≡ []) → b ≡ false
      → type_written scope (types.Word word first (map (token_in source) path)) ≡ unbuilt scope first
  long_word word first [] b h is = absurd (not_both b (h.1 refl) is)
  long_word types.Int first (name ∷ path) b h is = refl
  long_word types.Uint first (name ∷ path) b h is = refl
  long_word types.Int64 first (name ∷ path) b h is = refl
  long_word types.Uint64 first (name ∷ path) b h is = refl
  long_word types.Bool' first (name ∷ path) b h is = refl
  long_word types.Void first (name ∷ path) b h is = refl
  long_word types.Uint3 first (name ∷ path) b h is = refl
  long_word types.This first (name ∷ path) b h is = refl

  -- a type's name that does not stand alone is not built
  pub long_name : (first : lexical.Token) (args : List TypeTree) (path : List Token)
      → (args ≡ [] → path ≡ [] → ⊥)
      → type_written scope (types.Named first (types_of (map (type_in source) args)) (map (token_in source) path))
      ≡ unbuilt scope first
  long_name first [] [] long = absurd (long refl refl)
  long_name first [] (name ∷ path) long = refl
  long_name first (arg ∷ args) path long = refl

  -- a value's name with type arguments is not built
  pub long_value : (name : lexical.Token) (args : List TypeTree) (b : Bool)
      → IsTrue b ↔ (args ≡ []) → b ≡ false
      → value_of scope (exprs.Name name (types_of (map (type_in source) args))) ≡ unbuilt scope name
  long_value name [] b h is = absurd (not_both b (h.1 refl) is)
  long_value name (arg ∷ args) b h is = refl

-- where a type is a name in two ways, the names are one
pub same_first : (first other : lexical.Token) (args args_2 : types.TypeTrees) (path path_2 : List lexical.Token)
    → types.Named first args path ≡ types.Named other args_2 path_2 → first ≡ other
same_first first other args args_2 path path_2 is = cc
