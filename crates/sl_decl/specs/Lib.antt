-- What functions inside promise each other.
pub mod Forms
pub mod Methods
pub mod Bindings
pub mod Attributes
pub mod Modules
