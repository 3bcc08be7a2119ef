-- Structured control flow, by constructs as intervals of blocks in the order of their function
-- (SPIR-V 1.5, 2.11, "Structured Control Flow").
use Rattle.std.specs.Prelude.{◌≡◌, ℕ, ◌+◌, ◌-◌, ◌<◌, ◌≤◌, ◌⊎◌, true}
use Rattle.std.specs.List.{Contains}
use Rattle.def_spirv.specs.Opcodes as op
use Rattle.def_spirv.specs.Words.{Module}
use Rattle.def_valid.specs.Blocks.{targets_at}
use Rattle.def_valid.specs.Places.{opcode_at, operand_at, result_at, place_of, function_at, block_at}
use Rattle.def_valid.specs.Sections.{begins_before}

-- The blocks of a selection between its header and its merge block, those of a loop between its
-- header and its continue target, and those from there to its merge block, each told by the place
-- of the merge instruction in the header.
pub data Construct : Type 0 where
  Selection : ℕ → Construct
  Body : ℕ → Construct
  Continue : ℕ → Construct

-- where the merge block of a merge instruction begins
abbrev pub merge_place : Module → ℕ → ℕ
merge_place m h = place_of m (operand_at m h 0)

-- where the continue target of a loop begins
abbrev pub continue_place : Module → ℕ → ℕ
continue_place m h = place_of m (operand_at m h 1)

-- a selection is begun at a place (OpSelectionMerge)
abbrev pub IsSelection : Module → ℕ → Type 0
IsSelection m h = opcode_at m h ≡ op.selection_merge

-- a loop is begun at a place (OpLoopMerge)
abbrev pub IsLoop : Module → ℕ → Type 0
IsLoop m h = opcode_at m h ≡ op.loop_merge

-- a module has a construct
abbrev pub HasConstruct : Module → Construct → Type 0
HasConstruct m (Selection h) = IsSelection m h
HasConstruct m (Body h) = IsLoop m h
HasConstruct m (Continue h) = IsLoop m h

-- it is a part of a loop
abbrev pub IsOfLoop : Construct → Type 0
IsOfLoop (Selection h) = ⊥
IsOfLoop (Body h) = Unit {0}
IsOfLoop (Continue h) = Unit {0}

-- the loop or selection that has it, by its merge instruction
abbrev pub merge_of : Construct → ℕ
merge_of (Selection h) = h
merge_of (Body h) = h
merge_of (Continue h) = h

-- the first place of a construct: the branch of the header belongs to what the header begins
abbrev pub begin_of : Module → Construct → ℕ
begin_of m (Selection h) = h + 1
begin_of m (Body h) = h + 1
begin_of m (Continue h) = continue_place m h

-- the first place behind a construct
abbrev pub end_of : Module → Construct → ℕ
end_of m (Selection h) = merge_place m h
end_of m (Body h) = continue_place m h
end_of m (Continue h) = merge_place m h

-- a place lies in a construct
abbrev pub LiesIn : Module → ℕ → Construct → Type 0
LiesIn m k c = (begin_of m c ≤ k) × (k < end_of m c)

-- the construct around a place that begins last
pub record IsInnermost (m : Module) (k : ℕ) (c : Construct) : Type 0 where
  pub has : HasConstruct m c
  pub lies_in : LiesIn m k c
  pub last : (other : Construct) → HasConstruct m other → LiesIn m k other
      → begin_of m other ≤ begin_of m c

-- the part of a loop around a place that begins last
pub record IsInnermostOfLoop (m : Module) (k : ℕ) (c : Construct) : Type 0 where
  pub of_loop : IsOfLoop c
  pub has : HasConstruct m c
  pub lies_in : LiesIn m k c
  pub last : (other : Construct) → IsOfLoop other → HasConstruct m other → LiesIn m k other
      → begin_of m other ≤ begin_of m c

-- What a merge instruction begins nests: its blocks stand in order behind it in its own function,
-- and each construct around it has the merge block too.
pub record Nests (m : Module) (h : ℕ) : Type 0 where
  pub merge_behind : h < merge_place m h
  pub same_function : function_at m (merge_place m h) ≡ function_at m h
  pub continue_between : IsLoop m h
      → (h < continue_place m h) × (continue_place m h < merge_place m h)
  pub within : (c : Construct) → HasConstruct m c → LiesIn m h c → merge_place m h < end_of m c

-- some merge instruction names the block at a place as its merge block
abbrev pub IsMergeBlock : Module → ℕ → Type 0
IsMergeBlock m p = (h : ℕ) × ((IsSelection m h ⊎ IsLoop m h) × (merge_place m h ≡ p))

-- the last block of a loop's continue construct ends at a place
abbrev pub EndsLoop : Module → ℕ → ℕ → Type 0
EndsLoop m h k = IsInnermost m k (Continue h) × (merge_place m h ≡ k + 1)

-- the block of a loop's header begins at a place
abbrev pub IsHeader : Module → ℕ → ℕ → Type 0
IsHeader m h p = p + 1 ≡ block_at m h

-- Where a branch at a place may go: to a later block of exactly the constructs around it that is no
-- merge block; to the merge block of the innermost construct, if that is a selection; to the merge
-- block or the continue target of the innermost loop, in whose body it stands; from the last block
-- of a continue construct back to the header, or to the merge block.
pub data MayGo (m : Module) (k p : ℕ) : Type 0 where
  Later : k < p → function_at m p ≡ function_at m k
      → ((c : Construct) → HasConstruct m c
      → (LiesIn m k c → LiesIn m p c) × (LiesIn m p c → LiesIn m k c))
      → (IsMergeBlock m p → ⊥) → MayGo m k p
  LeavesSelection : (h : ℕ) → IsInnermost m k (Selection h) → p ≡ merge_place m h → MayGo m k p
  LeavesBody : (h : ℕ) → IsInnermostOfLoop m k (Body h)
      → (p ≡ merge_place m h) ⊎ (p ≡ continue_place m h) → MayGo m k p
  GoesRound : (h : ℕ) → EndsLoop m h k → IsHeader m h p ⊎ (p ≡ merge_place m h) → MayGo m k p

-- one of the targets of a branch begins at a place
abbrev pub GoesTo : Module → ℕ → ℕ → Type 0
GoesTo m k p = (id : ℕ) × (Contains (targets_at m k) id × (place_of m id ≡ p))

-- the branch or the merge instruction at a place names a block
abbrev pub Names : Module → ℕ → ℕ → Type 0
Names m k id =
    Contains (targets_at m k) id
    ⊎ ((IsSelection m k ⊎ IsLoop m k) × (operand_at m k 0 ≡ id))
    ⊎ (IsLoop m k × (operand_at m k 1 ≡ id))

-- a return ends a block at a place
abbrev pub IsReturn : Module → ℕ → Type 0
IsReturn m k = (opcode_at m k ≡ op.return) ⊎ (opcode_at m k ≡ op.return_value)

-- Rule 17: constructs nest, branches stay in them, loops go round, no return stands in a continue
-- construct, a conditional branch has a selection or leaves its loop, and a block is named
-- before it.
pub record BlocksNest (m : Module) : Type 0 where
  pub nest : (h : ℕ) → IsSelection m h ⊎ IsLoop m h → Nests m h
  pub stay : (k id : ℕ) → Contains (targets_at m k) id → MayGo m k (place_of m id)
  pub go_round : (h : ℕ) → IsLoop m h
      → (p : ℕ) × (IsHeader m h p × GoesTo m (merge_place m h - 1) p)
  pub return_outside : (h k : ℕ) → IsLoop m h → IsReturn m k → LiesIn m k (Continue h) → ⊥
  pub decide : (k : ℕ) → opcode_at m k ≡ op.branch_conditional
      → IsSelection m (k - 1)
      ⊎ ((c : Construct) × (IsInnermostOfLoop m k c × GoesTo m k (merge_place m (merge_of c))))
  pub named : (k : ℕ) → opcode_at m k ≡ op.label
      → (begins_before m k ≡ true) ⊎ ((j : ℕ) × ((j < k) × Names m j (result_at m k)))
