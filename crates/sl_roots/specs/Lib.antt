pub mod Held
pub mod Load
pub mod MemoryRoot
pub mod State
pub mod Take
