pub mod Kept
pub mod Places
pub mod Following
pub mod Rotating
