pub use Rattle.def_core.specs.Laws
pub use Rattle.def_core.specs.Replay
pub use Rattle.def_core.specs.State
pub mod Kept
