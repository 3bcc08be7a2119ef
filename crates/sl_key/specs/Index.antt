-- How declarations are found by their names.
use Rattle.std.specs.Prelude.{◌≡◌, ℕ, List, Option, nat_eq, IsTrue}
use Rattle.std.specs.Cmp.Lexicographic.{pointwise}
use Rattle.std.specs.List.{AllByRecursion, position_from}
use Rattle.std.specs.Map.{lookup}
use Rattle.std.specs.Option.{IfSome}
use Rattle.std.specs.declared.alloc.Global.{Global}
use Rattle.std.specs.declared.vec.Vec.{Vec}
use Rattle.def_slang.specs.Name.{is_name}
use Rattle.def_token.specs.Lexical.{Token}
use Rattle.def_module.specs.DeclTree.{DeclTree}
use Rattle.sl_key.specs.Names.{is_called, name_of}

-- the name of a declaration, and its number among all
abbrev pub Entry : Type 0
Entry = Vec ℕ Global × ℕ

-- the number that the entries have for a name
abbrev pub number_in : List ℕ → List Entry → Option ℕ
number_in name entries = lookup (λ (key : Vec ℕ Global). pointwise nat_eq name key.items) entries

-- the number of the first declaration that has the name, counted from 0
abbrev pub number_of : List DeclTree → List ℕ → Option ℕ
number_of decls name = position_from (λ (decl : DeclTree). is_called name (name_of decl)) 0 decls

-- the entries have the number of each name that is declared, and of no other
abbrev pub IsIndex : List DeclTree → List Entry → Type 0
IsIndex decls entries = (name : List ℕ) → number_in name entries ≡ number_of decls name

-- what a declaration declares has a name of the language
abbrev pub IsNamed : DeclTree → Type 0
IsNamed decl = IfSome (name_of decl) (λ (token : Token). IsTrue (is_name token.text))

-- what is declared has names of the language
abbrev pub AreNamed : List DeclTree → Type 0
AreNamed decls = AllByRecursion IsNamed decls
