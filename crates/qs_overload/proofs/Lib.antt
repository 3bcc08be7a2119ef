pub mod Beating
pub mod Determined
