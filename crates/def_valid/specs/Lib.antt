-- What stands at places, and what ids stand for.
pub mod Places
-- The rules, and all of them together.
pub mod Sections
pub mod Ids
pub mod Types
pub mod Blocks
pub mod Constructs
pub mod Calls
pub mod Buffers
pub mod Valid
