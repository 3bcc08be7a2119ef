pub mod BufferWrite
pub mod Diagnostic
pub mod Keyword
pub mod Name
pub mod Token
