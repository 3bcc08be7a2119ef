mod Rows
pub mod Walk
