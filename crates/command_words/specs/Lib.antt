pub mod Requests
pub mod Commands
pub mod Numbers
pub mod Rows
pub mod Values
pub mod Words
pub mod Written
