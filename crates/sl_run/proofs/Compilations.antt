-- A text compiles to one thing at most.
use Rattle.std.proofs.Common.{◌≡◌, ℕ, List, ⊎_elim, sym, ap, ◌∙◌}
use Rattle.std.proofs.lemmas.Bool.{false≢true}
use Rattle.std.proofs.lemmas.Slice.Eq.{bytes_eq-Decides}
use Rattle.def_slang.specs.Token.{without_mark}
use Rattle.def_slang.specs.BufferWrite.{BufferWrite, tokens_of, IsBufferWrite}
use Rattle.def_spirv.specs.Words.{spelling}
use Rattle.def_emit.specs.Lower.{program_of}
use Rattle.def_emit.specs.Emit.{emitted}
use Rattle.sl_run.specs.declared.compile.Compilation.TheVariants.{Code, Diagnostics}
use Rattle.sl_run.specs.Compile.{Compiles, IsCompiled, LacksEntry, IsNotBuilt, OneCompilation}
use Rattle.sl_run.proofs.Cuts.{spelled_once}
use Rattle.sl_run.proofs.TokenKinds.{tokens_kinds}
use Rattle.sl_run.proofs.Found.{one_module, small_allowed}

-- a text is at most one module
one_source : (text : List ℕ) (v w : BufferWrite) → IsBufferWrite text v → IsBufferWrite text w → v ≡ w
one_source text v w is other =
    one_module v w (small_allowed v is.allowed) (small_allowed w other.allowed)
    (spelled_once (without_mark text) (tokens_of v) (tokens_of w) is.tokens.rest other.tokens.rest (tokens_kinds v is.allowed) (tokens_kinds w other.allowed) is.tokens.spelled other.tokens.spelled is.tokens.white other.tokens.white)

same_bytes : (entry text : List ℕ) (a b : List ℕ) → IsCompiled entry text a → IsCompiled entry text b → a ≡ b
same_bytes entry text a b is other =
    is.spelled ∙ ap (λ w. spelling (emitted (program_of w))) (one_source text is.source other.source is.read other.read) ∙ sym other.spelled

not_other : (entry text a b : List ℕ) → IsCompiled entry text a → LacksEntry entry text b → ⊥
not_other entry text a b is other =
    let same : other.source.entry ≡ entry = ap (λ (w : BufferWrite). w.entry) (one_source text other.source is.source other.read is.read) ∙ is.entry_point in
    false≢true (sym other.other ∙ (bytes_eq-Decides other.source.entry entry).1 same)

not_told : (entry text a b : List ℕ) → Compiles entry text (Code a) → Compiles entry text (Diagnostics b) → ⊥
not_told entry text a b is told =
    ⊎_elim (λ other. not_other entry text a b is other) (λ (none : IsNotBuilt text b). none.none is.source is.read) told

same_lines : (entry text a b : List ℕ) → Compiles entry text (Diagnostics a) → Compiles entry text (Diagnostics b) → a ≡ b
same_lines entry text a b is other =
    ⊎_elim
    (λ (lacks : LacksEntry entry text a). ⊎_elim (λ (also : LacksEntry entry text b). lacks.told ∙ sym also.told) (λ (none : IsNotBuilt text b). absurd (none.none lacks.source lacks.read)) other)
    (λ (none : IsNotBuilt text a). ⊎_elim (λ (lacks : LacksEntry entry text b). absurd (none.none lacks.source lacks.read)) (λ (also : IsNotBuilt text b). none.told ∙ sym also.told) other)
    is

pub one_compilation : OneCompilation
one_compilation entry text (Code a) (Code b) is other = ap Code (same_bytes entry text a b is other)
one_compilation entry text (Code a) (Diagnostics b) is other = absurd (not_told entry text a b is other)
one_compilation entry text (Diagnostics a) (Code b) is other = absurd (not_told entry text b a other is)
one_compilation entry text (Diagnostics a) (Diagnostics b) is other = ap Diagnostics (same_lines entry text a b is other)
