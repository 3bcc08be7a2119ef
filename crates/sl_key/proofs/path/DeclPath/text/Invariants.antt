use Rattle.std.proofs.Common.{◌≡◌, ◌∷◌, ◌++◌, take}
use Rattle.std.specs.List.{flat_map}
use Rattle.sl_key.specs.declared.path.Part.{Part}
use Rattle.sl_key.proofs.path.DeclPath.text.Given as goal

abbrev pub invariant-loop-part : goal.invariant-loop-part
invariant-loop-part l =
    l.text ≡ l.self.module ++ flat_map (λ (part : Part). 46 ∷ part.name) (take l.part-index l.part-items)
