pub mod Faults
pub mod Fsck
pub mod Repair
pub mod Lines
