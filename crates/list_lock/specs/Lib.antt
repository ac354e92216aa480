pub mod Shown
pub mod Turns
pub mod Moved
