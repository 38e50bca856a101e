pub mod Carrying
pub mod Counts
mod Looks
pub mod Overlaps
pub mod Printings
pub mod Refusals
pub mod Showing
