pub mod Following
pub mod Listed
pub mod Passing
pub mod Places
pub mod Reaches
pub mod Rising
