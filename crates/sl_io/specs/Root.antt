-- What a root answers for a name. A root's modules are pairs of a name and bytes.
use Rattle.std.specs.Prelude.{◌≡◌, ℕ, ◌<◌, ◌≤◌, Bool, List, length, ⊤, Option, Some, None, IfSome, IsSomeAnd, find, option_map}
use Rattle.std.specs.Str.{bytes_eq}
use Rattle.sl_io.specs.declared.root.Fetched.{Fetched}
use Rattle.sl_io.specs.declared.root.Fetched.TheVariants.{Found, Absent, TooLarge, Failed, NoMemory}

-- the bytes that modules have for a name: those of the first one with the name
abbrev pub bytes_of : List (List ℕ × List ℕ) → List ℕ → Option (List ℕ)
bytes_of files name =
    let named : List ℕ × List ℕ → Bool = λ file. bytes_eq file.0 name in
    option_map (λ (file : List ℕ × List ℕ). file.1) (find named files)

-- What an answer says of a name's bytes among the modules, where the root tells them. Bytes that
-- are found are at most `max`, also where it does not.
abbrev pub Fetches : Fetched → ℕ → List ℕ → Option (List (List ℕ × List ℕ)) → Type 0
Fetches (Found bytes) max name told =
    (length bytes ≤ max) × IfSome told (λ files. bytes_of files name ≡ Some bytes)
Fetches Absent max name told = IfSome told (λ files. bytes_of files name ≡ None)
Fetches TooLarge max name told =
    IfSome told (λ files. IsSomeAnd (bytes_of files name) (λ bytes. max < length bytes))
Fetches Failed max name told = ⊤
Fetches NoMemory max name told = ⊤
