pub mod Paths
pub mod Tables
pub mod Sound
pub mod Images
pub mod Moments
pub mod Regions
pub mod Written
pub mod Replaces
pub mod Tellings
pub mod Stages
mod Views
pub mod Seen
pub mod Edits
mod Under
