pub mod Binding
pub mod Laws
pub mod Shape
pub mod Slots
pub mod Std430
