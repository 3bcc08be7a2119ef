use Rattle.std.proofs.Common.{◌≡◌, ◌++◌, map, take}
use Rattle.sl_tree.specs.DeclView.{decl_in}
use Rattle.sl_key.specs.Names.{keys_of}
use Rattle.sl_key.proofs.declarations.Declarations.add_keys.Given as goal

abbrev pub invariant-loop-decl : goal.invariant-loop-decl
invariant-loop-decl l =
    l.keys.items ≡ l.fn.keys.items ++ keys_of l.fn.module (map (decl_in l.fn.self) (take l.decl-index l.decl-items))
