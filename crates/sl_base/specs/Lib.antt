pub use Rattle.def_slang.specs.Name
pub use Rattle.def_slang.specs.Diagnostic
pub mod Diag
