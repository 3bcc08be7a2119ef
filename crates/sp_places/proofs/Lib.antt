pub mod Gathering
pub mod Keys
pub mod Listed
pub mod Modules
