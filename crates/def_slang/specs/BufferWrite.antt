-- A module that is one entry point, which writes one number into one buffer.
use Rattle.std.specs.Prelude.{◌≡◌, ℕ, ◌*◌, ◌<◌, ◌≤◌, ◌^◌, Bool, false, not, ◌&&◌, List, [], ◌∷◌, IsTrue, codes}
use Rattle.std.specs.Str.{bytes_eq}
use Rattle.std.specs.Fmt.{decimal}
use Rattle.def_slang.specs.Keyword.{is_keyword}
use Rattle.def_slang.specs.Name.{is_name}
use Rattle.def_slang.specs.Token.{IsText, without_mark}

-- its names, the threads of a group along x, y and z, and the number written
pub record BufferWrite : Type 0 where
  pub buffer : List ℕ
  pub entry : List ℕ
  pub id : List ℕ
  pub threads : ℕ × ℕ × ℕ
  pub value : ℕ

-- its tokens
abbrev pub tokens_of : BufferWrite → List (List ℕ)
tokens_of w =
    codes "RWStructuredBuffer" ∷ codes "<" ∷ codes "int" ∷ codes ">" ∷ w.buffer ∷ codes ";"
    ∷ codes "[" ∷ codes "shader" ∷ codes "(" ∷ codes "\"compute\"" ∷ codes ")" ∷ codes "]"
    ∷ codes "[" ∷ codes "numthreads" ∷ codes "("
    ∷ decimal w.threads.0 ∷ codes "," ∷ decimal w.threads.1 ∷ codes "," ∷ decimal w.threads.2
    ∷ codes ")" ∷ codes "]"
    ∷ codes "void" ∷ w.entry ∷ codes "(" ∷ codes "uint3" ∷ w.id ∷ codes ":"
    ∷ codes "SV_DispatchThreadID" ∷ codes ")"
    ∷ codes "{"
    ∷ w.buffer ∷ codes "[" ∷ w.id ∷ codes "." ∷ codes "x" ∷ codes "]" ∷ codes "=" ∷ decimal w.value
    ∷ codes ";"
    ∷ codes "}"
    ∷ []

-- a name that a declaration can have
abbrev pub is_free_name : List ℕ → Bool
is_free_name word = is_name word && not (is_keyword word)

-- a group has from 1 to 1024 threads along each axis, and at most 1024 in all
pub record IsGroup (threads : ℕ × ℕ × ℕ) : Type 0 where
  pub x : (1 ≤ threads.0) × (threads.0 ≤ 1024)
  pub y : (1 ≤ threads.1) × (threads.1 ≤ 1024)
  pub z : (1 ≤ threads.2) × (threads.2 ≤ 1024)
  pub all : threads.0 * threads.1 * threads.2 ≤ 1024

-- names are different and no keywords, groups are as above, and the number is no more than the
-- greatest int
pub record IsAllowed (w : BufferWrite) : Type 0 where
  pub buffer : IsTrue (is_free_name w.buffer)
  pub entry : IsTrue (is_free_name w.entry)
  pub id : IsTrue (is_free_name w.id)
  pub buffer_not_entry : bytes_eq w.buffer w.entry ≡ false
  pub buffer_not_id : bytes_eq w.buffer w.id ≡ false
  pub entry_not_id : bytes_eq w.entry w.id ≡ false
  pub threads : IsGroup w.threads
  pub value : w.value < 2 ^ 31

-- the text is this module
pub record IsBufferWrite (text : List ℕ) (w : BufferWrite) : Type 0 where
  pub tokens : IsText (without_mark text) (tokens_of w)
  pub allowed : IsAllowed w
