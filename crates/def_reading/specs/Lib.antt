-- What the laws say.
pub mod Laws
-- How tokens are read, from places on the way to whole forms.
pub mod Cursor
pub mod TypeReading
pub mod TypeAhead
pub mod Machine
pub mod Try
pub mod StmtReading
pub mod Plain
