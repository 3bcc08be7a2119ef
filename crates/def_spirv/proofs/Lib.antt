pub mod Examples
pub mod Renaming
