pub mod Covered
pub mod Decls
pub mod Depths
pub mod Forms
pub mod Members
pub mod Modules
pub mod Names
pub mod Parts
