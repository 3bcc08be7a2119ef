pub mod Exactness
pub mod Started
