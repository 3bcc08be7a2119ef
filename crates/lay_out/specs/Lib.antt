pub mod Clash
pub mod Free
pub mod Samples
pub mod Takes
pub mod View
