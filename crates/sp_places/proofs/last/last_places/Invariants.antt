use Rattle.std.proofs.Common.{◌≡◌}
use Rattle.def_valid.specs.Places.{last_before}
use Rattle.sp_places.specs.Last.{lasts}
use Rattle.sp_words.specs.View.{module_of}
use Rattle.sp_places.proofs.last.last_places.Given as goal

abbrev pub invariant-loop-place : goal.invariant-loop-place
invariant-loop-place l = record {
  last : l.last ≡ last_before l.op (module_of l.words) l.place;
  table : l.table.items ≡ lasts l.op (module_of l.words) l.place;
}
