pub mod Caller
