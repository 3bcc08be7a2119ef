-- Names are short.
use Rattle.std.proofs.Common.{◌≡◌, ℕ, suc, ◌≤◌, true, not, ◌&&◌, List, [], ◌∷◌, length, leb-true, arith}
use Rattle.std.specs.Prelude.{nat_le}
use Rattle.std.specs.List.{list_all}
use Rattle.def_slang.specs.Name.{begins_name, is_name, is_word_byte}
use Rattle.def_slang.specs.Keyword.{is_keyword}
use Rattle.def_slang.specs.BufferWrite.{is_free_name}
use Rattle.sl_run.proofs.Runs.{both_by}

pub name_short : (name : List ℕ) → is_name name ≡ true → length name ≤ 255
name_short [] h = omega arith
name_short (b ∷ bytes) h =
    leb-true (suc (length bytes)) 255 (both_by (begins_name b && list_all is_word_byte bytes) (nat_le (suc (length bytes)) 255) h).1

pub free_name_short : (name : List ℕ) → is_free_name name ≡ true → length name ≤ 255
free_name_short name h = name_short name (both_by (is_name name) (not (is_keyword name)) h).0
