use Rattle.std.proofs.Common.{map, take}
use Rattle.sl_tree.specs.DeclView.{decl_in}
use Rattle.sl_key.specs.Index.{IsIndex}
use Rattle.sl_key.proofs.declarations.Declarations.new.Given as goal

abbrev pub invariant-loop-number : goal.invariant-loop-number
invariant-loop-number l = IsIndex (map (decl_in l.fn.source) (take l.number l.decl-items)) l.numbers.entries
