pub mod Exactness
