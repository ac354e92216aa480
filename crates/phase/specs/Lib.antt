pub mod Letters
pub mod Numbers
pub mod Calls
pub mod Book
pub mod Line
pub mod Standings
