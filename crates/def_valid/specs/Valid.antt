-- Which modules are valid: all twenty rules hold.
use Rattle.std.specs.Prelude.{◌≡◌, ℕ, ◌≤◌, Bool, true}
use Rattle.def_spirv.specs.Words.{Module}
use Rattle.def_valid.specs.Blocks.{blocks_whole, entry_block_free, merges_before_branches, merges_differ}
use Rattle.def_valid.specs.Buffers.{VariablesDecorated}
use Rattle.def_valid.specs.Calls.{InterfaceListed, NoneLeadsBack, StoresGoThrough}
use Rattle.def_valid.specs.Constructs.{BlocksNest}
use Rattle.def_valid.specs.Ids.{defined_before, ids_defined, types_differ}
use Rattle.def_valid.specs.Places.{size}
use Rattle.def_valid.specs.Sections.{entry_point_once, memory_model_once, operands_fit, sections_stand, shader_declared}
use Rattle.def_valid.specs.Types.{arguments_fit, constants_fit, returns_fit, types_fit}

-- A rule holds at each place of a module. The place behind the last instruction is where it is told
-- that something is missing.
abbrev pub HoldsThroughout : (Module → ℕ → Bool) → Module → Type 0
HoldsThroughout rule m = (k : ℕ) → k ≤ size m → rule m k ≡ true

-- all twenty rules
pub record Valid (m : Module) : Type 0 where
  pub sections : HoldsThroughout sections_stand m
  pub operands : HoldsThroughout operands_fit m
  pub ids : HoldsThroughout ids_defined m
  pub order : HoldsThroughout defined_before m
  pub shader : HoldsThroughout shader_declared m
  pub memory_model : HoldsThroughout memory_model_once m
  pub entry_point : HoldsThroughout entry_point_once m
  pub interface : InterfaceListed m
  pub type_ids : HoldsThroughout types_differ m
  pub types : HoldsThroughout types_fit m
  pub constants : HoldsThroughout constants_fit m
  pub variables : VariablesDecorated m
  pub blocks : HoldsThroughout blocks_whole m
  pub entry_blocks : HoldsThroughout entry_block_free m
  pub merges : HoldsThroughout merges_before_branches m
  pub headers : HoldsThroughout merges_differ m
  pub constructs : BlocksNest m
  pub arguments : HoldsThroughout arguments_fit m
  pub no_recursion : NoneLeadsBack m
  pub returns : HoldsThroughout returns_fit m
  pub stores : StoresGoThrough m
