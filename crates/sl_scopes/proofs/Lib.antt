pub mod Clashing
pub mod Forms
pub mod Noting
pub mod Searching
