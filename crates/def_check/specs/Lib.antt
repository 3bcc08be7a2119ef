pub mod Values
pub mod Evaluate
pub mod Syntax
pub mod Body
pub mod Roots
pub mod Reply
pub mod Laws
