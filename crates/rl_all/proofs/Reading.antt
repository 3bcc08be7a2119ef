-- What is found in small modules is small.
use Rattle.std.proofs.Common.{◌≡◌, ℕ, ◌≤◌, Bool, true, false, cond, subst, List, [], ◌∷◌, length, Option, Some}
use Rattle.std.proofs.lemmas.List.Elements.{All-head, All-tail}
use Rattle.std.proofs.lemmas.Option.{none-some, same_Some}
use Rattle.std.specs.List.{All}
use Rattle.std.specs.Option.{option_map}
use Rattle.std.specs.Prelude.{find}
use Rattle.std.specs.Str.{bytes_eq}
use Rattle.def_sources.specs.Limits.{most_bytes}
use Rattle.sl_io.specs.Root.{bytes_of}

abbrev IsSmall : List ℕ × List ℕ → Type 0
IsSmall file = length file.1 ≤ most_bytes

small_by : (b : Bool) (file : List ℕ × List ℕ) (rest : Option (List ℕ × List ℕ)) (text : List ℕ) → IsSmall file
    → (option_map (λ (f : List ℕ × List ℕ). f.1) rest ≡ Some text → length text ≤ most_bytes)
    → option_map (λ (f : List ℕ × List ℕ). f.1) (cond b (Some file) rest) ≡ Some text → length text ≤ most_bytes
small_by true file rest text small others found = subst (λ t. length t ≤ most_bytes) (same_Some file.1 text found) small
small_by false file rest text small others found = others found

-- the bytes of a module are within the limit where those of all modules are
pub small_found : (files : List (List ℕ × List ℕ)) (name text : List ℕ) → All IsSmall files → bytes_of files name ≡ Some text → length text ≤ most_bytes
small_found [] name text small found = absurd (none-some text found)
small_found (file ∷ files) name text small found =
    small_by (bytes_eq file.0 name) file (find (λ f. bytes_eq f.0 name) files) text (All-head IsSmall file files small)
    (small_found files name text (All-tail IsSmall file files small)) found
