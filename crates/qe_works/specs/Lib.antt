pub mod Turns
pub mod Works
