-- What the public contracts rest on.
pub mod Fault
pub mod Flow
pub mod Names
pub mod Order
-- What functions inside promise each other, and what follows for the order of keys.
pub mod Index
pub mod Ordered
