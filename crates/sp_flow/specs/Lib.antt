pub use Rattle.def_spirv.specs.Words
pub use Rattle.def_valid.specs.Blocks
pub use Rattle.def_valid.specs.Places
pub mod Merges
