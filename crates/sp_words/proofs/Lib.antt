pub mod Decoded
pub mod Entries
pub mod Instructions
pub mod Spelling
pub mod TextWords
