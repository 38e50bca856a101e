mod Moves
pub mod Draws
mod Words
