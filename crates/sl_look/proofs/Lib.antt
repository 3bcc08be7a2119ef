pub mod Endings
pub mod Later
pub mod Looking
pub mod TailEnds
pub mod TypeLists
pub mod TypeSteps
pub mod Typing
