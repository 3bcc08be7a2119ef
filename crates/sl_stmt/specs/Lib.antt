pub mod Eithers
pub mod Settling
pub mod Simples
