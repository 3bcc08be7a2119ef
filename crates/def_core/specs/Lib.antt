pub mod State
pub mod Needs
pub mod Replay
pub mod Legal
pub mod Laws
