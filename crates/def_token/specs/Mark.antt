-- The marks, which are the tokens that are no words and no strings.
use Rattle.std.specs.Prelude.{ℕ, Bool, List, [], ◌∷◌, codes}
use Rattle.std.specs.List.{list_any}
use Rattle.std.specs.Str.{bytes_eq}

-- No mark is `>` with another byte: `>>`, `>=` and `>>=` are tokens that touch.
abbrev pub marks : List (List ℕ)
marks =
    codes "<<="
    ∷ codes "::" ∷ codes "<<" ∷ codes "<=" ∷ codes "==" ∷ codes "!=" ∷ codes "&&" ∷ codes "||"
    ∷ codes "+=" ∷ codes "-=" ∷ codes "*=" ∷ codes "/=" ∷ codes "%=" ∷ codes "&=" ∷ codes "|="
    ∷ codes "^="
    ∷ codes "++" ∷ codes "--"
    ∷ codes "{" ∷ codes "}" ∷ codes "(" ∷ codes ")" ∷ codes "[" ∷ codes "]"
    ∷ codes ";" ∷ codes "," ∷ codes "." ∷ codes ":" ∷ codes "?"
    ∷ codes "<" ∷ codes ">" ∷ codes "=" ∷ codes "+" ∷ codes "-" ∷ codes "*" ∷ codes "/" ∷ codes "%"
    ∷ codes "&" ∷ codes "|" ∷ codes "^" ∷ codes "~" ∷ codes "!"
    ∷ []

-- the bytes are one of the marks
abbrev pub is_mark : List ℕ → Bool
is_mark bytes = list_any (bytes_eq bytes) marks
