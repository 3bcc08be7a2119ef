pub mod Numbering
pub mod View
