-- What each stage tells of a text.
pub mod Stages
