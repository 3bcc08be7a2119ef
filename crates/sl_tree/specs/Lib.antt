pub mod DeclView
pub mod View
