mod Sourced
pub mod Takings
mod Comings
mod Drawing
pub mod Sixteens
pub mod Standing
mod Exits
mod StoredParts
mod Underway
pub mod Blaming
