pub use Rattle.def_slang.specs.Keyword
pub use Rattle.def_token.specs.Lexeme
pub use Rattle.def_token.specs.Lexed
pub use Rattle.def_token.specs.Lexical
pub use Rattle.def_token.specs.Mark
pub use Rattle.def_token.specs.Number
-- What the public contracts rest on.
pub mod View
-- What functions inside promise each other.
pub mod Cutting
pub mod Moving
pub mod Reading
