-- The rule on global variables, their decorations and the layout of buffers
-- (SPIR-V 1.5, 2.16.2, "Validation Rules for Shader Capabilities", and 3, "Decoration").
use Rattle.std.specs.Prelude.{◌≡◌, ℕ, ◌+◌, ◌-◌, ◌*◌, ◌/◌, ◌<◌, ◌⊎◌, true, max, List, [], ◌∷◌, length, take, slice_get, Some}
use Rattle.std.specs.List.{Contains}
use Rattle.def_spirv.specs.Enumerants as enumerant
use Rattle.def_spirv.specs.Opcodes as op
use Rattle.def_spirv.specs.Words.{Module}
use Rattle.def_valid.specs.Calls.{IsDecoration, IsGlobal}
use Rattle.def_valid.specs.Places.{opcode_at, operand_at, operands_from, place_of, opcode_of, operand_of}
use Rattle.def_valid.specs.Types.{is_integer_type, is_unsigned_type, pointee_of, width_of}

-- an id has one decoration of a kind
pub record HasOne (m : Module) (id decoration : ℕ) : Type 0 where
  pub place : ℕ
  pub stands : IsDecoration m id decoration place
  pub alone : (k : ℕ) → IsDecoration m id decoration k → k ≡ place

-- with a number
abbrev pub HasNumber : Module → ℕ → ℕ → ℕ → Type 0
HasNumber m id decoration number =
    (one : HasOne m id decoration) × (operand_at m one.place 2 ≡ number)

-- the Offset of a struct's member stands at a place
pub record IsOffset (m : Module) (t member k : ℕ) : Type 0 where
  pub decorate : opcode_at m k ≡ op.member_decorate
  pub target : operand_at m k 0 ≡ t
  pub number : operand_at m k 1 ≡ member

-- a struct's member has one Offset, and it is this
pub record HasOffset (m : Module) (t member offset : ℕ) : Type 0 where
  pub place : ℕ
  pub stands : IsOffset m t member place
  pub is : operand_at m place 3 ≡ offset
  pub alone : (k : ℕ) → IsOffset m t member k → k ≡ place

-- the members of a struct type
abbrev pub members_of : Module → ℕ → List ℕ
members_of m t = operands_from m (place_of m t) 1

-- the least multiple of an alignment that is no less than a number
abbrev pub round_up : ℕ → ℕ → ℕ
round_up alignment n = (n + alignment - 1) / alignment * alignment

-- the sizes and alignments of types in bytes
pub record Sizes : Type 0 where
  pub size : ℕ → ℕ
  pub alignment : ℕ → ℕ

-- where members end that stand one behind the other, each at the least place of its alignment
abbrev pub end_of_members : Sizes → ℕ → List ℕ → ℕ
end_of_members s at [] = at
end_of_members s at (t ∷ types) =
    end_of_members s (round_up (s.alignment t) at + s.size t) types

-- the greatest alignment of members, or 1
abbrev pub alignment_of_members : Sizes → List ℕ → ℕ
alignment_of_members s [] = 1
alignment_of_members s (t ∷ types) = max (s.alignment t) (alignment_of_members s types)

-- An integer has as many bytes as its width asks, and is aligned to them; a struct is aligned as
-- its greatest member, and its size is a multiple of that.
pub record AreSizes (m : Module) (s : Sizes) : Type 0 where
  pub integer_size : (t : ℕ) → is_integer_type m t ≡ true → s.size t ≡ width_of m t / 8
  pub integer_alignment : (t : ℕ) → is_integer_type m t ≡ true → s.alignment t ≡ width_of m t / 8
  pub struct_alignment : (t : ℕ) → opcode_of m t ≡ op.type_struct
      → s.alignment t ≡ alignment_of_members s (members_of m t)
  pub struct_size : (t : ℕ) → opcode_of m t ≡ op.type_struct
      → s.size t ≡ round_up (s.alignment t) (end_of_members s 0 (members_of m t))

-- a global variable of a storage class
abbrev pub IsGlobalOf : Module → ℕ → ℕ → Type 0
IsGlobalOf m class v = IsGlobal m v × (operand_of m v 2 ≡ class)

-- the type to which a variable points: of a buffer its block
abbrev pub block_of : Module → ℕ → ℕ
block_of m v = pointee_of m (operand_of m v 0)

-- the runtime array that a buffer's block begins with
abbrev pub array_of : Module → ℕ → ℕ
array_of m v = operand_of m (block_of m v) 1

-- the type of that array's elements
abbrev pub element_of : Module → ℕ → ℕ
element_of m v = operand_of m (array_of m v) 1

-- the struct to which a buffer's pointer leads
pub record IsBlockOf (m : Module) (v t : ℕ) : Type 0 where
  pub buffer : IsGlobalOf m enumerant.storage_buffer v
  pub leads_to : block_of m v ≡ t
  pub struct : opcode_of m t ≡ op.type_struct

-- the runtime array that is its first member
pub record IsArrayOf (m : Module) (v t : ℕ) : Type 0 where
  pub block : IsBlockOf m v (block_of m v)
  pub has_member : 0 < length (members_of m (block_of m v))
  pub first : array_of m v ≡ t
  pub array : opcode_of m t ≡ op.type_runtime_array

-- a type that lies in a buffer: the element of its array, and members of what lies in it
pub data LiesInBuffer (m : Module) : ℕ → Type 0 where
  Element : (v : ℕ) → IsArrayOf m v (array_of m v) → LiesInBuffer m (element_of m v)
  Member : {t u : ℕ} → LiesInBuffer m t → opcode_of m t ≡ op.type_struct
      → Contains (members_of m t) u → LiesInBuffer m u

-- the members of a struct have the Offsets of their places
abbrev pub HasOffsets : Module → Sizes → ℕ → Type 0
HasOffsets m s t =
    (j u : ℕ) → slice_get (members_of m t) j ≡ Some u
    → HasOffset m t j (round_up (s.alignment u) (end_of_members s 0 (take j (members_of m t))))

-- a type in a buffer is an integer, or a struct with at least one member and their Offsets
abbrev pub IsLaid : Module → Sizes → ℕ → Type 0
IsLaid m s t =
    (is_integer_type m t ≡ true)
    ⊎ ((opcode_of m t ≡ op.type_struct) × (0 < length (members_of m t)) × HasOffsets m s t)

-- a variable of class Input is the dispatch id: GlobalInvocationId, a vector of three unsigned
-- integers
pub record IsDispatchId (m : Module) (v : ℕ) : Type 0 where
  pub decorated : HasNumber m v enumerant.built_in enumerant.global_invocation_id
  pub vector : opcode_of m (block_of m v) ≡ op.type_vector
  pub unsigned : is_unsigned_type m (operand_of m (block_of m v) 1) ≡ true
  pub bits : width_of m (operand_of m (block_of m v) 1) ≡ 32

-- a variable of class StorageBuffer is a block whose one member is a runtime array, with a place of
-- its own among the descriptors
pub record IsBuffer (m : Module) (s : Sizes) (v : ℕ) : Type 0 where
  pub set : HasOne m v enumerant.descriptor_set
  pub binding : HasOne m v enumerant.binding
  pub block : HasOne m (block_of m v) enumerant.block
  pub struct : opcode_of m (block_of m v) ≡ op.type_struct
  pub one_member : length (members_of m (block_of m v)) ≡ 1
  pub first_offset : HasOffset m (block_of m v) 0 0
  pub array : opcode_of m (array_of m v) ≡ op.type_runtime_array
  pub stride : HasNumber m (array_of m v) enumerant.array_stride
      (round_up (s.alignment (element_of m v)) (s.size (element_of m v)))

-- two buffers do not have one set and one binding
abbrev pub DescriptorsDiffer : Module → Type 0
DescriptorsDiffer m =
    (v w set binding : ℕ)
    → HasNumber m v enumerant.descriptor_set set → HasNumber m v enumerant.binding binding
    → HasNumber m w enumerant.descriptor_set set → HasNumber m w enumerant.binding binding → v ≡ w

-- what an OpDecorate may stand for
abbrev pub MayDecorate : Module → ℕ → ℕ → Type 0
MayDecorate m id decoration =
    ((decoration ≡ enumerant.built_in) × IsGlobalOf m enumerant.input id)
    ⊎ (((decoration ≡ enumerant.descriptor_set) ⊎ (decoration ≡ enumerant.binding)
    ⊎ (decoration ≡ enumerant.non_writable))
    × IsGlobalOf m enumerant.storage_buffer id)
    ⊎ ((decoration ≡ enumerant.block)
    × ((v : ℕ) × IsBlockOf m v id))
    ⊎ ((decoration ≡ enumerant.array_stride) × ((v : ℕ) × IsArrayOf m v id))

-- what an OpMemberDecorate may stand for: the first member of a block, or any of a struct in a
-- buffer
abbrev pub MayPlace : Module → ℕ → ℕ → Type 0
MayPlace m t member =
    ((member ≡ 0) × ((v : ℕ) × IsBlockOf m v t))
    ⊎ ((opcode_of m t ≡ op.type_struct) × (member < length (members_of m t))
    × LiesInBuffer m t)

-- Rule 12: global variables are dispatch ids and buffers, laid out as their decorations say, and no
-- other decoration stands.
pub record VariablesDecorated (m : Module) : Type 0 where
  pub sizes : Sizes
  pub are_sizes : AreSizes m sizes
  pub classes : (v : ℕ) → IsGlobal m v
      → IsGlobalOf m enumerant.input v ⊎ IsGlobalOf m enumerant.storage_buffer v
  pub dispatch_ids : (v : ℕ) → IsGlobalOf m enumerant.input v → IsDispatchId m v
  pub buffers : (v : ℕ) → IsGlobalOf m enumerant.storage_buffer v → IsBuffer m sizes v
  pub differ : DescriptorsDiffer m
  pub laid : (t : ℕ) → LiesInBuffer m t → IsLaid m sizes t
  pub decorations : (k : ℕ) → opcode_at m k ≡ op.decorate
      → MayDecorate m (operand_at m k 0) (operand_at m k 1)
  pub offsets : (k : ℕ) → opcode_at m k ≡ op.member_decorate
      → MayPlace m (operand_at m k 0) (operand_at m k 1)
