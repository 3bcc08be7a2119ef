pub use Rattle.def_core.specs.State
pub use Rattle.def_core.specs.Needs
pub mod Chains
