-- The numbers that operands take. The titles are those of sections of SPIR-V 1.5, 3, "Binary Form".
use Rattle.std.specs.Prelude.{ℕ}

-- `GLCompute` ("Execution Model")
abbrev pub gl_compute : ℕ
gl_compute = 5

-- `Logical` ("Addressing Model")
abbrev pub logical : ℕ
logical = 0

-- `GLSL450` ("Memory Model")
abbrev pub glsl450 : ℕ
glsl450 = 1

-- `LocalSize` ("Execution Mode")
abbrev pub local_size : ℕ
local_size = 17

-- `Input` ("Storage Class")
abbrev pub input : ℕ
input = 1

-- `Function` ("Storage Class")
abbrev pub function : ℕ
function = 7

-- `StorageBuffer` ("Storage Class")
abbrev pub storage_buffer : ℕ
storage_buffer = 12

-- `Block` ("Decoration")
abbrev pub block : ℕ
block = 2

-- `ArrayStride` ("Decoration")
abbrev pub array_stride : ℕ
array_stride = 6

-- `BuiltIn` ("Decoration")
abbrev pub built_in : ℕ
built_in = 11

-- `NonWritable` ("Decoration")
abbrev pub non_writable : ℕ
non_writable = 24

-- `Binding` ("Decoration")
abbrev pub binding : ℕ
binding = 33

-- `DescriptorSet` ("Decoration")
abbrev pub descriptor_set : ℕ
descriptor_set = 34

-- `Offset` ("Decoration")
abbrev pub offset : ℕ
offset = 35

-- `GlobalInvocationId` ("BuiltIn")
abbrev pub global_invocation_id : ℕ
global_invocation_id = 28

-- no control is asked for ("Selection Control", "Function Control")
abbrev pub none : ℕ
none = 0

-- `Shader` ("Capability")
abbrev pub shader : ℕ
shader = 1
