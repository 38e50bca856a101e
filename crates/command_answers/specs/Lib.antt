pub mod Answers
pub mod Messages
pub mod Printing
pub mod Rows
