pub mod Guards
pub mod Along
pub mod Kept
pub mod Placing
mod Sounds
pub mod Settling
mod Entering
mod Journals
pub mod Entries
pub mod Staying
pub mod Tellings
