pub mod Lexed
pub mod Lexeme
pub mod Lexical
pub mod Mark
pub mod Number
