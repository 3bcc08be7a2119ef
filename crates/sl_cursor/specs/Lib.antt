pub mod Ending
pub mod Following
pub mod Joining
pub mod Nestings
pub mod Parts
pub mod Seen
pub mod Signs
pub mod Tries
