pub mod Moves
pub mod Counting
pub mod Lines
pub mod Stepping
