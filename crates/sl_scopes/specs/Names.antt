-- Names that scopes declare.
use Rattle.std.specs.Prelude.{◌≡◌, ℕ, List, ◌++◌, map}
use Rattle.def_module.specs.Scopes as scopes
use Rattle.def_module.specs.Scopes.{Scope}
use Rattle.sl_token.specs.View.{token_in}
use Rattle.sl_scopes.specs.declared.declared.Declared.{Declared}

-- the name that is declared, over a source
abbrev pub declared_in : List ℕ → Declared → scopes.Declared
declared_in source this = record { name = token_in source this.name; overloads = this.overloads }

-- the names are those of a scope, over each source
abbrev pub Declares : (List ℕ → Scope) → List Declared → Type 0
Declares scope names = (source : List ℕ) → map (declared_in source) names ≡ scope source

-- the names of a scope stand behind those that stood there
abbrev pub Adds : (List ℕ → Scope) → List Declared → List Declared → Type 0
Adds scope old new =
    (source : List ℕ) → map (declared_in source) new ≡ map (declared_in source) old ++ scope source
