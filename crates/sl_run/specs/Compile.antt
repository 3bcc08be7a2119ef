-- What a text compiles to, for the name of an entry point.
use Rattle.std.specs.Prelude.{◌≡◌, ℕ, false, ◌⊎◌, List, [], ◌∷◌, codes}
use Rattle.std.specs.Str.{bytes_eq}
use Rattle.def_slang.specs.BufferWrite.{BufferWrite, IsBufferWrite}
use Rattle.def_spirv.specs.Words.{spelling}
use Rattle.def_emit.specs.Lower.{program_of}
use Rattle.def_emit.specs.Emit.{emitted}
use Rattle.def_reply.specs.Text.{diagnostic_line}
use Rattle.sl_base.specs.declared.diag.Diag.{Diag}
use Rattle.sl_base.specs.declared.diag.Site.TheVariants.{Request, Source}
use Rattle.sl_key.specs.Fault.{first_place}
use Rattle.sl_run.specs.declared.compile.Compilation.{Compilation}
use Rattle.sl_run.specs.declared.compile.Compilation.TheVariants.{Code, Diagnostics}

-- the name of the one module
abbrev pub input_name : List ℕ
input_name = codes "input"

-- the module has a form that is not built
abbrev pub not_built : Diag
not_built = record { site = Source input_name first_place; code = 100; args = [] }

-- the module has no entry point of this name
abbrev pub no_entry_point : List ℕ → Diag
no_entry_point entry = record { site = Request; code = 601; args = entry ∷ input_name ∷ [] }

-- The text is a module whose entry point has this name, and these are the bytes of its words.
pub record IsCompiled (entry text bytes : List ℕ) : Type 0 where
  pub source : BufferWrite
  pub read : IsBufferWrite text source
  pub entry_point : source.entry ≡ entry
  pub spelled : bytes ≡ spelling (emitted (program_of source))

-- The text is such a module, whose entry point has another name, and this line says so.
pub record LacksEntry (entry text lines : List ℕ) : Type 0 where
  pub source : BufferWrite
  pub read : IsBufferWrite text source
  pub other : bytes_eq source.entry entry ≡ false
  pub told : lines ≡ diagnostic_line (no_entry_point entry)

-- The text is no such module, and this line says so.
pub record IsNotBuilt (text lines : List ℕ) : Type 0 where
  pub none : (w : BufferWrite) → IsBufferWrite text w → ⊥
  pub told : lines ≡ diagnostic_line not_built

-- what a text compiles to
abbrev pub Compiles : List ℕ → List ℕ → Compilation → Type 0
Compiles entry text (Code bytes) = IsCompiled entry text bytes
Compiles entry text (Diagnostics lines) = LacksEntry entry text lines ⊎ IsNotBuilt text lines

-- A text compiles to one thing at most.
abbrev pub OneCompilation : Type 0
OneCompilation =
    (entry text : List ℕ) (one other : Compilation)
    → Compiles entry text one → Compiles entry text other → one ≡ other
