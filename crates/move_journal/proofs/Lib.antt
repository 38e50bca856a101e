mod Values
mod Lines
mod Readings
mod Exact
mod Writings
mod BackAgain
pub mod Standing
