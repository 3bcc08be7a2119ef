-- What the reader's values stand for.
use Rattle.std.specs.Prelude.{ℕ, ◌<◌, ◌^◌, List, map}
use Rattle.std.specs.Borrow.{Bor}
use Rattle.def_slang.specs.BufferWrite as form
use Rattle.sl_run.specs.declared.buffer_write.BufferWrite.{BufferWrite}

-- a module without where its names lie in memory
abbrev pub write_of : BufferWrite → form.BufferWrite
write_of w = record {
  buffer = w.buffer.now;
  entry = w.entry.now;
  id = w.id.now;
  threads = (w.threads.0, w.threads.1, w.threads.2);
  value = w.value;
}

-- the texts of tokens
abbrev pub texts : List (Bor (List ℕ)) → List (List ℕ)
texts tokens = map (λ (token : Bor (List ℕ)). token.now) tokens

-- the numbers fit 32 bits
pub record HasSmallNumbers (w : form.BufferWrite) : Type 0 where
  pub x : w.threads.0 < 2 ^ 32
  pub y : w.threads.1 < 2 ^ 32
  pub z : w.threads.2 < 2 ^ 32
  pub value : w.value < 2 ^ 32
