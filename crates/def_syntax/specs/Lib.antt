-- What the laws say.
pub mod Laws
-- What is told of a text, from its tokens to its tree.
pub mod Syntax
