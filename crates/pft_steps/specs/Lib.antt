pub mod Wrapping
pub mod Steps
