pub mod Firsts
pub mod Numbered
