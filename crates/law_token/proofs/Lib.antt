pub mod Cutting
pub mod Determined
pub mod Fitting
pub mod Fronts
pub mod Lexing
pub mod Numbers
pub mod Pieces
