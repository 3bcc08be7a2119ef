-- What the public contracts rest on.
pub mod Asking
pub mod Telling
pub mod Working
-- The order of diagnostics is total.
pub mod Ordered
