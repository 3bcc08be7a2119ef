mod Rows
pub mod Uses
pub mod Lawful
pub mod Replies
