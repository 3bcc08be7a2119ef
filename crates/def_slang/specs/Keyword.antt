-- The words that are no names of declarations.
use Rattle.std.specs.Prelude.{ℕ, Bool, List, [], ◌∷◌, codes}
use Rattle.std.specs.List.{list_any}
use Rattle.std.specs.Str.{bytes_eq}

-- all words that the grammar names
abbrev pub keywords : List (List ℕ)
keywords =
    codes "module" ∷ codes "import" ∷ codes "__exported"
    ∷ codes "public" ∷ codes "internal" ∷ codes "private"
    ∷ codes "typealias" ∷ codes "static" ∷ codes "const" ∷ codes "struct" ∷ codes "interface"
    ∷ codes "extension"
    ∷ codes "where" ∷ codes "mutating" ∷ codes "override" ∷ codes "associatedtype"
    ∷ codes "in" ∷ codes "inout" ∷ codes "vk" ∷ codes "binding"
    ∷ codes "StructuredBuffer" ∷ codes "RWStructuredBuffer" ∷ codes "shader" ∷ codes "numthreads"
    ∷ codes "int" ∷ codes "uint" ∷ codes "int64_t" ∷ codes "uint64_t" ∷ codes "bool" ∷ codes "void"
    ∷ codes "uint3" ∷ codes "This"
    ∷ codes "return" ∷ codes "break" ∷ codes "continue" ∷ codes "if" ∷ codes "else" ∷ codes "while"
    ∷ codes "for"
    ∷ codes "let" ∷ codes "var" ∷ codes "true" ∷ codes "false" ∷ codes "this"
    ∷ []

-- whether a word is one of them
abbrev pub is_keyword : List ℕ → Bool
is_keyword word = list_any (bytes_eq word) keywords
