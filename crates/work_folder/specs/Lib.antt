pub mod Entries
pub mod Looking
pub mod Picking
pub mod Changing
pub mod Entering
pub mod Faults
pub mod Setting
