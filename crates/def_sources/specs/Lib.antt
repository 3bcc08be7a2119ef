pub mod Laws
pub mod Limits
pub mod Loaded
pub mod Maps
pub mod Sources
