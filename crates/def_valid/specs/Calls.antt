-- Rules on what functions call, and on what they use and store
-- (SPIR-V 1.5, 2.16.1, "Universal Validation Rules", and 3, "OpEntryPoint", "OpStore").
use Rattle.std.specs.Prelude.{◌≡◌, ◌≢◌, ℕ, ◌-◌, true, false, nat_eq, List, drop}
use Rattle.std.specs.List.{Contains, IsDistinct}
use Rattle.def_spirv.specs.Enumerants as enumerant
use Rattle.def_spirv.specs.Opcodes as op
use Rattle.def_spirv.specs.Operands.{references_of}
use Rattle.def_spirv.specs.Words.{Module}
use Rattle.def_valid.specs.Ids.{uses_at}
use Rattle.def_valid.specs.Places.{first_of, instruction_at, opcode_at, operand_at, result_at, place_of, opcode_of, operand_of, function_at, is_inside}
use Rattle.def_valid.specs.Sections.{entry_function}

-- the function in which a place stands, by its id
abbrev pub function_around : Module → ℕ → ℕ
function_around m k = result_at m (function_at m k - 1)

-- a function has a call of another
pub record Calls (m : Module) (caller callee : ℕ) : Type 0 where
  pub place : ℕ
  pub inside : is_inside m place ≡ true
  pub around : function_around m place ≡ caller
  pub call : opcode_at m place ≡ op.function_call
  pub called : operand_at m place 2 ≡ callee

-- calls lead from a function to another, one or more
pub data Leads (m : Module) : ℕ → ℕ → Type 0 where
  Directly : {f g : ℕ} → Calls m f g → Leads m f g
  Through : {f g h : ℕ} → Calls m f g → Leads m g h → Leads m f h

-- Rule 18, on all calls: no call leads back to its own function.
abbrev pub NoneLeadsBack : Module → Type 0
NoneLeadsBack m = (f : ℕ) → Leads m f f → ⊥

-- a function of the call tree of the entry point (2.2, "Static Use")
pub data InCallTree (m : Module) : ℕ → Type 0 where
  Root : InCallTree m (entry_function m)
  Called : {f g : ℕ} → InCallTree m f → Calls m f g → InCallTree m g

-- a variable outside of functions
abbrev pub IsGlobal : Module → ℕ → Type 0
IsGlobal m v = (opcode_of m v ≡ op.variable) × (is_inside m (place_of m v) ≡ false)

-- the call tree uses an id
pub record UsesInTree (m : Module) (id : ℕ) : Type 0 where
  pub place : ℕ
  pub inside : is_inside m place ≡ true
  pub in_tree : InCallTree m (function_around m place)
  pub used : Contains (uses_at m place) id

-- the interface of the entry point: what it refers to behind its function
abbrev pub interface_of : Module → List ℕ
interface_of m = drop 1 (references_of (instruction_at m (first_of m op.entry_point)))

-- Rule 8: the interface lists each global variable that the call tree uses, each once, and no
-- other.
pub record InterfaceListed (m : Module) : Type 0 where
  pub complete : (v : ℕ) → IsGlobal m v → UsesInTree m v → Contains (interface_of m) v
  pub sound : (v : ℕ) → Contains (interface_of m) v → IsGlobal m v × UsesInTree m v
  pub once : IsDistinct nat_eq (interface_of m)

-- a chain of OpAccessChain leads from one pointer to another, which is none
pub data IsRootedIn (m : Module) : ℕ → ℕ → Type 0 where
  Itself : {p : ℕ} → (opcode_of m p ≢ op.access_chain) → IsRootedIn m p p
  Chain : {p v : ℕ} → opcode_of m p ≡ op.access_chain → IsRootedIn m (operand_of m p 2) v
      → IsRootedIn m p v

-- a decoration of an id stands at a place
pub record IsDecoration (m : Module) (id decoration k : ℕ) : Type 0 where
  pub decorate : opcode_at m k ≡ op.decorate
  pub target : operand_at m k 0 ≡ id
  pub kind : operand_at m k 1 ≡ decoration

-- Rule 20: no store goes through a NonWritable variable or an Input variable.
abbrev pub StoresGoThrough : Module → Type 0
StoresGoThrough m =
    (k v : ℕ) → opcode_at m k ≡ op.store → IsRootedIn m (operand_at m k 0) v
    → opcode_of m v ≡ op.variable
    → (operand_of m v 2 ≢ enumerant.input)
    × ((j : ℕ) → IsDecoration m v enumerant.non_writable j → ⊥)
