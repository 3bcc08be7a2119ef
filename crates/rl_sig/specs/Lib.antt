-- What functions inside promise each other.
pub mod Reading
