pub mod Beginnings
pub mod Endings
pub mod Leavings
pub mod Sites
