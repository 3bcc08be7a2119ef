-- What functions inside promise each other.
pub mod Names
pub mod Search
pub mod Seen
