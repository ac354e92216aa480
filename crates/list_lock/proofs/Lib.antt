pub mod Looks
pub mod Keeps
