pub mod Enumerants
pub mod Opcodes
pub mod Operands
pub mod Symbolic
pub mod Table
pub mod Words
