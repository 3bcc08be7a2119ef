pub mod Forms
pub mod NotBuilt
