pub mod Calls
pub mod Ground
