pub mod Behind
pub mod Indexes
pub mod Naming
pub mod Views
