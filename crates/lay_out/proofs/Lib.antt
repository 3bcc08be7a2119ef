pub mod Choosing
pub mod Clashing
pub mod Follows
pub mod Passing
pub mod Shapes
pub mod Wants
