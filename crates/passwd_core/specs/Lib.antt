pub mod Faults
pub mod Drawing
pub mod KeyFiles
pub mod Rekeying
pub mod Steps
