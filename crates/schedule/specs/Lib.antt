pub mod Numbers
pub mod Word
pub mod Schedule
pub mod View
