-- What the laws say.
pub mod Laws
-- How tokens are read, from forms to whole modules.
pub mod Form
pub mod MemberReading
pub mod DeclReading
