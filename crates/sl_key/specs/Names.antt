-- Declarations of a module by their names, and their keys.
use Rattle.std.specs.Prelude.{ℕ, ◌==◌, Bool, false, List, [], ◌∷◌, ◌++◌, find, filter_map, Option, Some, None, slice_get, if◌then◌else◌}
use Rattle.std.specs.List.{flat_map}
use Rattle.std.specs.Option.{option_and_then, option_map, option_map_or}
use Rattle.std.specs.Str.{bytes_eq}
use Rattle.def_token.specs.Lexical.{Token}
use Rattle.def_module.specs.DeclTree.{DeclTree, Alias, Const, ModuleTree}
use Rattle.def_module.specs.Scopes.{Declared, decl_names}
use Rattle.def_syntax.specs.Syntax.{tree_in}
use Rattle.sl_key.specs.declared.key.Key.{Key}
use Rattle.sl_key.specs.declared.key.Kind.TheVariants as kind
use Rattle.sl_key.specs.Order.{path_key}
use Rattle.sl_key.specs.declared.path.DeclPath.{DeclPath}
use Rattle.sl_key.specs.declared.path.Part.{Part}

-- the declarations of a text of which nothing is told
abbrev pub decls_in : List ℕ → List DeclTree
decls_in text = option_map_or (λ (tree : ModuleTree). tree.decls) (tree_in text) []

-- the name that a declaration declares in its module, if it declares one
abbrev pub name_of : DeclTree → Option Token
name_of decl = option_map (λ (declared : Declared). declared.name) (slice_get (decl_names decl) 0)

-- it has a name with these bytes
abbrev pub is_called : List ℕ → Option Token → Bool
is_called name None = false
is_called name (Some token) = bytes_eq token.text name

-- the first of the declarations that has the name
abbrev pub named_in : List DeclTree → List ℕ → Option DeclTree
named_in decls name = find (λ (decl : DeclTree). is_called name (name_of decl)) decls

-- the path of the declaration of a name at the top of a module
abbrev pub path_in : List ℕ → List ℕ → DeclPath
path_in «module» name =
    let part : Part = record { name = name; nth = 0 } in
    record { «module» = «module»; parts = part ∷ [] }

-- a path is told as its module and its names
abbrev pub path_text : DeclPath → List ℕ
path_text path = path.module ++ flat_map (λ (part : Part). 46 ∷ part.name) path.parts

-- the key of a declaration, if it has one
abbrev pub key_of : List ℕ → DeclTree → Option Key
key_of «module» (Alias alias) = Some (path_key kind.Alias (path_in «module» alias.name.text))
key_of «module» (Const constant) = Some (path_key kind.Const (path_in «module» constant.name.text))
key_of «module» _ = None

-- the keys of declarations, in order
abbrev pub keys_of : List ℕ → List DeclTree → List Key
keys_of «module» decls = filter_map (key_of «module») decls

-- the key for which a name stands: that of the first declaration that has the name
abbrev pub key_named : List ℕ → List DeclTree → List ℕ → Option Key
key_named «module» decls name = option_and_then (key_of «module») (named_in decls name)

-- the name at the top of a module to which a path leads
abbrev pub top_name : List Part → Option (List ℕ)
top_name (part ∷ []) = if part.nth == 0 then Some part.name else None
top_name _ = None

-- the declaration to which a path leads
abbrev pub declared_at : List DeclTree → List Part → Option DeclTree
declared_at decls parts = option_and_then (named_in decls) (top_name parts)
