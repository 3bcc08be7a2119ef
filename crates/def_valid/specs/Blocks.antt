-- Rules on blocks and merge instructions
-- (SPIR-V 1.5, 2.11, "Structured Control Flow", and 2.4, "Logical Layout of a Module").
use Rattle.std.specs.Prelude.{ℕ, ◌+◌, ◌-◌, ◌==◌, Bool, not, ◌&&◌, ◌||◌, List, [], ◌∷◌, map, slice_index, if◌then◌else◌}
use Rattle.std.specs.List.{list_all, position_or_len}
use Rattle.def_spirv.specs.Opcodes as op
use Rattle.def_spirv.specs.Words.{Instruction, Module}
use Rattle.def_valid.specs.Places.{opcode_at, operand_at, place_of, function_at, is_inside}
use Rattle.def_valid.specs.Sections.{begins_before}

-- a branch or a return ends a block (2.2.5, "Control Flow")
unfoldable pub is_termination : ℕ → Bool
is_termination opcode =
    opcode == op.branch || opcode == op.branch_conditional || opcode == op.return
    || opcode == op.return_value

-- whether a variable stands at the head of its function's first block
unfoldable pub is_leading : Module → ℕ → Bool
is_leading m k =
    opcode_at m (k - 1) == op.variable
    || (opcode_at m (k - 1) == op.label && begins_before m (k - 1))

-- what stands in a block, or between blocks
unfoldable pub fits_block : Module → ℕ → Bool
fits_block m k =
    let opcode = opcode_at m k in
    let ended = is_termination (opcode_at m (k - 1)) in
    if opcode == op.label then ended || begins_before m k
    else if opcode == op.function_end then ended
    else not ended && not (begins_before m k) && (not (opcode == op.variable) || is_leading m k)

-- Rule 13: a block begins with a label and ends in one branch or return; variables come first
-- in the
-- first block.
unfoldable pub blocks_whole : Module → ℕ → Bool
blocks_whole m k =
    not (is_inside m k) || opcode_at m k == op.function_parameter || fits_block m k

-- the labels to which the block that ends at a place branches
unfoldable pub targets_at : Module → ℕ → List ℕ
targets_at m k =
    if opcode_at m k == op.branch then operand_at m k 0 ∷ []
    else if opcode_at m k == op.branch_conditional
    then operand_at m k 1 ∷ operand_at m k 2 ∷ []
    else []

-- whether a label is that of the first block of the function around a place
unfoldable pub is_entry_block : Module → ℕ → ℕ → Bool
is_entry_block m k id =
    let label = place_of m id in
    begins_before m label && opcode_at m label == op.label && function_at m label == function_at m k

-- Rule 14: no branch goes to a function's first block.
unfoldable pub entry_block_free : Module → ℕ → Bool
entry_block_free m k = list_all (λ id. not (is_entry_block m k id)) (targets_at m k)

-- Rule 15: a merge instruction stands immediately before a branch, that of a selection before a
-- conditional one.
unfoldable pub merges_before_branches : Module → ℕ → Bool
merges_before_branches m k =
    let next = opcode_at m (k + 1) in
    (not (opcode_at m k == op.selection_merge) || next == op.branch_conditional)
    && (not (opcode_at m k == op.loop_merge)
    || next == op.branch || next == op.branch_conditional)

-- the merge block that an instruction names, or 0
unfoldable pub merge_block_in : Instruction → ℕ
merge_block_in i =
    if i.opcode == op.selection_merge || i.opcode == op.loop_merge then slice_index i.operands 0
    else 0

-- the continue target that an instruction names, or 0
unfoldable pub continue_target_in : Instruction → ℕ
continue_target_in i = if i.opcode == op.loop_merge then slice_index i.operands 1 else 0

-- where a block is named first as a merge block
unfoldable pub header_of : Module → ℕ → ℕ
header_of m id = position_or_len (λ block. block == id) (map merge_block_in m.instructions)

-- where a block is named first as a continue target
unfoldable pub loop_of : Module → ℕ → ℕ
loop_of m id = position_or_len (λ block. block == id) (map continue_target_in m.instructions)

-- Rule 16: a merge block belongs to one header, a continue target to one loop.
unfoldable pub merges_differ : Module → ℕ → Bool
merges_differ m k =
    let opcode = opcode_at m k in
    (not (opcode == op.selection_merge || opcode == op.loop_merge)
    || header_of m (operand_at m k 0) == k)
    && (not (opcode == op.loop_merge) || loop_of m (operand_at m k 1) == k)
