pub mod Looks
pub mod Lookups
pub mod Tails
