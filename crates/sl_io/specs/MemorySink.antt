-- A sink in memory: what it holds, and how it answers the next write.
use Rattle.std.specs.Prelude.{ℕ, ◌-◌, ◌==◌, ◌||◌, Bool, List, ◌++◌, length, take, min, if◌then◌else◌}
use Rattle.std.specs.List.{list_any}
use Rattle.sl_io.specs.Faults.{one_more}
use Rattle.sl_io.specs.declared.sink.Took.{Took}
use Rattle.sl_io.specs.declared.sink.Took.TheVariants.{Bytes, Failed}

-- the bytes that were written, how many more have room, the most that one write takes, the numbers
-- of the writes that fail, and how many writes and faults there were; writes are counted from 1
pub record SinkState : Type 0 where
  pub held : List ℕ
  pub room : ℕ
  pub piece : ℕ
  pub fail_at : List ℕ
  pub calls : ℕ
  pub faults : ℕ

-- whether the next write fails: there is no room, or it is one of those that fail
abbrev pub write_fails : SinkState → Bool
write_fails s = s.room == 0 || list_any (λ call. call == one_more s.calls) s.fail_at

-- how many bytes a write of this piece takes where it does not fail
abbrev pub count_taken : SinkState → List ℕ → ℕ
count_taken s bytes = min (min s.piece (length bytes)) s.room

-- what the next write of this piece answers
abbrev pub write_answer : SinkState → List ℕ → Took
write_answer s bytes = if write_fails s then Failed else Bytes (count_taken s bytes)

-- the sink after that write
abbrev pub after_write : SinkState → List ℕ → SinkState
after_write s bytes =
    if write_fails s
    then record s { calls = one_more s.calls; faults = one_more s.faults }
    else record s {
      calls = one_more s.calls;
      held = s.held ++ take (count_taken s bytes) bytes;
      room = s.room - count_taken s bytes;
    }
