pub mod Faults
pub mod MemorySink
pub mod MemorySource
pub mod Plain
pub mod Root
pub mod Sink
pub mod Source
