-- What is told of buffers that want one slot.
use Rattle.std.specs.Prelude.{List, ⊤}
use Rattle.def_layout.specs.Binding.{IsFirstClash}
use Rattle.def_layout.specs.declared.slot.Wanted.{Wanted}
use Rattle.lay_out.specs.declared.clash.BindRefusal.{BindRefusal}
use Rattle.lay_out.specs.declared.clash.BindRefusal.TheVariants.{Clash, NoMemory}

-- the first clash is told, if memory did not run out
abbrev pub Tells : List Wanted → BindRefusal → Type 0
Tells wanted (Clash first second) = IsFirstClash wanted first second
Tells wanted NoMemory = ⊤
