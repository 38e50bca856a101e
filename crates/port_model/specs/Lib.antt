pub mod Counts
pub mod Told
pub mod Draws
pub mod Words
pub mod Fakes
