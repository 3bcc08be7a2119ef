-- Which name a module declares twice: in the first scope that has such a name the first.
use Rattle.std.specs.Prelude.{◌≡◌, ◌↔◌, Bool, false, not, ◌&&◌, List, [], ◌∷◌, ◌++◌, map, Option, Some, None, if◌then◌else◌, IsTrue}
use Rattle.std.specs.List.{list_any}
use Rattle.std.specs.Str.{bytes_eq}
use Rattle.def_token.specs.Lexical.{Token}
use Rattle.def_module.specs.DeclTree.{ModuleTree}
use Rattle.def_module.specs.Scopes.{Declared, Scope, module_scopes}

-- one scope cannot have both: they have one name, and are not both functions, methods or
-- requirements
abbrev pub clash : Declared → Declared → Bool
clash this other =
    bytes_eq this.name.text other.name.text && not (this.overloads && other.overloads)

-- nothing that a scope declares clashes with what stands before it
abbrev pub IsFree : Scope → Type 0
IsFree scope =
    (before behind : Scope) (this : Declared)
    → scope ≡ before ++ this ∷ behind → list_any (clash this) before ≡ false

-- the name is the first of a scope that clashes with one before it
pub record IsSecond (scope : Scope) (name : Token) : Type 0 where
  pub before : Scope
  pub this : Declared
  pub behind : Scope
  pub parts : scope ≡ before ++ this ∷ behind
  pub free : IsFree before
  pub clashes : IsTrue (list_any (clash this) before)
  pub name_is : name ≡ this.name

-- nothing clashes in any of these scopes
abbrev pub AreFree : List Scope → Type 0
AreFree [] = Unit {0}
AreFree (scope ∷ scopes) = IsFree scope × AreFree scopes

-- the name is the first that clashes in the first scope where one does
pub record IsFirst (scopes : List Scope) (name : Token) : Type 0 where
  pub earlier : List Scope
  pub scope : Scope
  pub later : List Scope
  pub parts : scopes ≡ earlier ++ scope ∷ later
  pub free : AreFree earlier
  pub second : IsSecond scope name

-- a module declares this name twice
abbrev pub IsDeclaredTwice : ModuleTree → Token → Type 0
IsDeclaredTwice tree name = IsFirst (module_scopes tree) name

-- a module declares no name twice
abbrev pub DeclaresOnce : ModuleTree → Type 0
DeclaresOnce tree = AreFree (module_scopes tree)

-- what a module declares twice: this name, if there is one
abbrev pub DeclaresTwice : ModuleTree → Option Token → Type 0
DeclaresTwice tree None = DeclaresOnce tree
DeclaresTwice tree (Some name) = IsDeclaredTwice tree name

-- the first of these that clashes with one before it, where others stand before them
abbrev pub second_behind : Scope → Scope → Option Token
second_behind before [] = None
second_behind before (this ∷ more) =
    if list_any (clash this) before then Some this.name
    else second_behind (before ++ this ∷ []) more

-- the first name of a scope that clashes with one before it, if one does
abbrev pub second_name : Scope → Option Token
second_name scope = second_behind [] scope

-- the first that there is
abbrev pub first_some : {A : Type 0} → List (Option A) → Option A
first_some [] = None
first_some (None ∷ more) = first_some more
first_some (Some found ∷ more) = Some found

-- the name that a module declares twice, if it does: `IsDeclaredTwice` as a function
abbrev pub declared_twice : ModuleTree → Option Token
declared_twice tree = first_some (map second_name (module_scopes tree))

-- the function tells a name exactly where a module declares it twice, and none where it declares
-- none twice
pub record TellsTwice (tree : ModuleTree) : Type 0 where
  pub twice : (name : Token) → (declared_twice tree ≡ Some name) ↔ IsDeclaredTwice tree name
  pub once : (declared_twice tree ≡ None) ↔ DeclaresOnce tree
