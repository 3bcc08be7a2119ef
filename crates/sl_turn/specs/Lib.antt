pub mod Once
pub mod View
pub mod Rule
pub mod Plays
