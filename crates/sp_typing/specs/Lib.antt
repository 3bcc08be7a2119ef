pub use Rattle.def_spirv.specs.Words
pub use Rattle.def_valid.specs.Places
pub use Rattle.def_valid.specs.Sections
pub use Rattle.def_valid.specs.Types
