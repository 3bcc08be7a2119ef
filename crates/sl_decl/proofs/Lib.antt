pub mod Choosing
pub mod Deciding
pub mod Eating
pub mod Ended
pub mod Forming
pub mod Looping
pub mod Taking
