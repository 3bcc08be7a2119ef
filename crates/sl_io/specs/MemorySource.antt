-- A source in memory: what it holds, and how it answers the next read.
use Rattle.std.specs.Prelude.{ℕ, ◌==◌, Bool, List, length, drop, min, if◌then◌else◌}
use Rattle.std.specs.List.{list_any}
use Rattle.sl_io.specs.Faults.{one_more}
use Rattle.sl_io.specs.declared.source.Got.{Got}
use Rattle.sl_io.specs.declared.source.Got.TheVariants.{Bytes, End, Failed}

-- the bytes that are left, the most that one read gives, the numbers of the reads that fail, and
-- how many reads and faults there were; reads are counted from 1
pub record SourceState : Type 0 where
  pub rest : List ℕ
  pub piece : ℕ
  pub fail_at : List ℕ
  pub calls : ℕ
  pub faults : ℕ

-- whether the next read is one of those that fail
abbrev pub read_fails : SourceState → Bool
read_fails s = list_any (λ call. call == one_more s.calls) s.fail_at

-- how many bytes a read into this room gives where it does not fail
abbrev pub count_given : SourceState → ℕ → ℕ
count_given s room = min (min s.piece room) (length s.rest)

-- what the next read into this room answers
abbrev pub read_answer : SourceState → ℕ → Got
read_answer s room =
    if read_fails s
    then Failed
    else (if length s.rest == 0 then End else Bytes (count_given s room))

-- the source after that read
abbrev pub after_read : SourceState → ℕ → SourceState
after_read s room =
    if read_fails s
    then record s { calls = one_more s.calls; faults = one_more s.faults }
    else record s { calls = one_more s.calls; rest = drop (count_given s room) s.rest }
